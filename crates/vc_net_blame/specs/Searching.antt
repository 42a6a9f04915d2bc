-- How whom to blame is searched for, where a fact comes as the last beside others.
use Rattle.std.specs.Prelude.{ℕ, Bool, not, ◌&&◌, ◌==◌, if◌then◌else◌, List, [], ◌∷◌, map, position, slice_get}
use Rattle.std.specs.Prelude.{Option, None, Some, option_map}
use Rattle.std.specs.List.{filter, find}
use Rattle.vc_plan.specs.declared.atoms.Atom.{Atom}
use Rattle.vc_plan.specs.declared.atoms.Atom.TheVariants.{Here, Out}
use Rattle.vc_plan.specs.declared.atoms.Culprit.{Culprit}
use Rattle.vc_plan.specs.declared.atoms.Origin.{Origin}
use Rattle.vc_plan.specs.declared.plans.Plan.{Plan}
use Rattle.vc_plan.specs.Domains.{numbers_below, count_of}
use Rattle.vc_plan.specs.Seen.{same_atom}
use Rattle.vc_plan_reasons.specs.Things.{slots_of_var}
use Rattle.vc_plan_blame.specs.Blame.{are_at_odds, is_out, or_else}
use Rattle.vc_rule_yield.specs.Filling.{Filled, with_items}
use Rattle.vc_net_standing.specs.declared.standing.Fact.{Fact}
use Rattle.vc_net_standing.specs.Standing.{atoms_of}
use Rattle.vc_net_blame.specs.Finding.{culprit_by}

-- a list of fixed room with each of these put at its end in turn
abbrev pub pushed_all : Filled Atom → List Atom → Filled Atom
pushed_all list [] = list
pushed_all list (a ∷ more) = pushed_all (with_items list (a ∷ [])) more

-- that a variable's slot is here, unless it is the root; and that each of its grains is out
abbrev pub slot_beside_root : Plan → ℕ → List Atom
slot_beside_root plan v = map Here (filter (λ i. not (i == 0)) (slots_of_var plan v))

abbrev pub all_out : Plan → ℕ → List Atom
all_out plan v = map (Out v) (numbers_below (count_of plan v))

-- among facts, the first that is at odds with the atom: that a grain is out, where one is, else a value
abbrev pub out_at_odds : Plan → Atom → Atom → Bool
out_at_odds plan atom b = is_out b && are_at_odds plan atom b

abbrev pub first_at_odds : Plan → List Fact → Atom → Option Atom
first_at_odds plan facts atom =
    or_else (find (out_at_odds plan atom) (atoms_of facts)) (find (are_at_odds plan atom) (atoms_of facts))

-- who gave an atom: the first fact of it, or the last
abbrev pub origin_in : List Fact → ℕ → Option Origin
origin_in facts n = option_map (λ fact. fact.origin) (slice_get facts n)

abbrev pub last_origin : Fact → Atom → Option Origin
last_origin last atom = if same_atom atom last.atom then Some last.origin else None

abbrev pub origin_by : List Fact → Fact → Atom → Option ℕ → Option Origin
origin_by facts last atom None = last_origin last atom
origin_by facts last atom (Some n) = origin_in facts n

abbrev pub origin_at : List Fact → Fact → Atom → Option Origin
origin_at facts last atom = origin_by facts last atom (position (same_atom atom) (atoms_of facts))

-- whom the first of the atoms blames of which somebody is to blame
abbrev pub first_blamed : Plan → List Fact → Fact → List Atom → Option Culprit
first_blamed plan facts last [] = None
first_blamed plan facts last (a ∷ more) =
    or_else (culprit_by plan (origin_at facts last a)) (first_blamed plan facts last more)
