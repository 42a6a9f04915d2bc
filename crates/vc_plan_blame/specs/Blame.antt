-- Whom to blame where steps conclude what can't stand together, and with which premises.
use Rattle.std.specs.Prelude.{ℕ, suc, Bool, true, false, not, ◌&&◌, ◌||◌, ◌==◌, if◌then◌else◌, List, [], ◌∷◌, ◌++◌}
use Rattle.std.specs.Prelude.{length, map, slice_get, Option, None, Some}
use Rattle.std.specs.List.{filter, find, list_any, position_or_len}
use Rattle.vc_base.specs.Chains.{cited}
use Rattle.vc_plan.specs.declared.atoms.Atom.{Atom}
use Rattle.vc_plan.specs.declared.atoms.Atom.TheVariants.{Here, Out, Is}
use Rattle.vc_plan.specs.declared.atoms.Clash.{Clash}
use Rattle.vc_plan.specs.declared.atoms.Culprit.{Culprit}
use Rattle.vc_plan.specs.declared.atoms.Culprit.TheVariants as culprits
use Rattle.vc_plan.specs.declared.atoms.Origin.{Origin}
use Rattle.vc_plan.specs.declared.atoms.Origin.TheVariants.{Rule, User, Written}
use Rattle.vc_plan.specs.declared.atoms.Step.{Step}
use Rattle.vc_plan.specs.declared.plans.Plan.{Plan}
use Rattle.vc_plan.specs.Clear.{collides, is_exhausted}
use Rattle.vc_plan.specs.Domains.{numbers_below, count_of}
use Rattle.vc_plan.specs.Gives.{Giver, by_rule, by_user, by_entry}
use Rattle.vc_plan.specs.Seen.{same_atom, seen_of}
use Rattle.vc_plan.specs.Sources.{Entry, Sources, entry_of}
use Rattle.vc_plan_reasons.specs.Checking.{concluded, set_with}
use Rattle.vc_plan_reasons.specs.Refuting.{is_of_constraint}
use Rattle.vc_plan_reasons.specs.Things.{slots_of_var}

-- whether the atom is that a grain is out
abbrev pub is_out : Atom → Bool
is_out (Here i) = false
is_out (Out v g) = true
is_out (Is v a) = false

-- whether two atoms can't stand beside each other: a value and another, or a value and that its grain is out
abbrev pub are_at_odds : Plan → Atom → Atom → Bool
are_at_odds plan a b = collides plan a b || collides plan b a

-- what says that a variable has no grain left: its slot is here, unless that is the root, which needs no step, and each
-- of its grains is out
abbrev pub exhausting : Plan → ℕ → List Atom
exhausting plan v =
    map Here (filter (λ i. not (i == 0)) (slots_of_var plan v)) ++ map (Out v) (numbers_below (count_of plan v))

-- the first variable that has none left by what is concluded
abbrev pub exhausted_by : Plan → List Atom → Option ℕ
exhausted_by plan stand = find (is_exhausted plan (seen_of (set_with stand))) (numbers_below (length plan.vars))

-- an atom after what is found, if anything is
abbrev pub pair_with : Atom → Option Atom → List Atom
pair_with atom None = []
pair_with atom (Some other) = other ∷ atom ∷ []

-- the first if there is one, else the second
abbrev pub or_else : {X : Type 0} → Option X → Option X → Option X
or_else None second = second
or_else (Some x) second = Some x

-- an atom and one that is at odds with it: that a grain is out, where there is such a one, else another value
abbrev pub beside_atom : Plan → List Atom → Atom → List Atom
beside_atom plan stand atom =
    pair_with atom (or_else (find (λ b. is_out b && are_at_odds plan atom b) stand)
    (find (are_at_odds plan atom) stand))

-- the atoms that can't stand together: those that exhaust a variable, and only where there is none a pair
abbrev pub colliding_by : Plan → List Atom → Atom → Option ℕ → List Atom
colliding_by plan stand atom (Some v) = exhausting plan v
colliding_by plan stand atom None = beside_atom plan stand atom

abbrev pub colliding : Plan → List Atom → Atom → List Atom
colliding plan stand atom = colliding_by plan stand atom (exhausted_by plan stand)

-- whom the origin of a step blames: a constraint's rule or a statement, never the user, nor the rule of a last grain or
-- of a line
abbrev pub culprit_from : Plan → Origin → Option Culprit
culprit_from plan (Rule r) = if is_of_constraint (slice_get plan.rules r) then Some (culprits.Rule r) else None
culprit_from plan User = None
culprit_from plan (Written procedure statement) = Some (culprits.Written procedure statement)

-- the first that some of the origins blame
abbrev pub first_culprit : Plan → List Origin → Option Culprit
first_culprit plan [] = None
first_culprit plan (origin ∷ origins) = or_else (culprit_from plan origin) (first_culprit plan origins)

abbrev pub culprit_among : Plan → Option (List Origin) → Option Culprit
culprit_among plan None = None
culprit_among plan (Some origins) = first_culprit plan origins

-- the first that the steps of these numbers blame
abbrev pub culprit_of : Plan → List Step → List ℕ → Option Culprit
culprit_of plan log numbers = culprit_among plan (cited (map (λ step. step.origin) log) numbers)

-- whom a giver blames that clashes: a rule, or the statement that wrote the entry
abbrev pub culprit_wrote : Option Entry → Option Culprit
culprit_wrote None = None
culprit_wrote (Some entry) = Some (culprits.Written entry.procedure entry.statement)

abbrev pub culprit_giving : Sources → Giver → Option Culprit
culprit_giving sources (by_rule r) = Some (culprits.Rule r)
culprit_giving sources (by_user v) = None
culprit_giving sources (by_entry v) = culprit_wrote (entry_of sources v)

-- the clash of the steps with these premises, if there is a culprit
abbrev pub clash_of : List Step → List ℕ → Culprit → Clash
clash_of log numbers culprit = record { steps = log; culprit = culprit; premises = numbers }

abbrev pub clash_by : List Step → List ℕ → Option Culprit → Option Clash
clash_by log numbers None = None
clash_by log numbers (Some culprit) = Some (clash_of log numbers culprit)

abbrev pub clash_citing : Plan → List Step → List ℕ → Option Clash
clash_citing plan log numbers = clash_by log numbers (culprit_of plan log numbers)

-- the number of the first step that concludes the atom
abbrev pub number_of : List Atom → Atom → ℕ
number_of stand atom = suc (position_or_len (same_atom atom) stand)

-- the clash of steps that conclude this atom last, where they don't stand together
abbrev pub blame : Plan → List Step → Atom → Option Clash
blame plan log atom =
    let stand = concluded log in clash_citing plan log (map (number_of stand) (colliding plan stand atom))

-- whether the atom can use up the grains of a variable: it takes one of them away, or says that the slot is here
abbrev pub uses_up : Plan → ℕ → Atom → Bool
uses_up plan v (Here i) = list_any (λ j. j == i) (slots_of_var plan v)
uses_up plan v (Out w g) = v == w
uses_up plan v (Is w a) = false
