-- Which lists of steps, with a culprit, show that sources contradict each other.
use Rattle.std.specs.Prelude.{ℕ, Bool, true, false, not, ◌&&◌, ◌||◌, ◌==◌, List, [], ◌∷◌, length, map, slice_get}
use Rattle.std.specs.Prelude.{Option, None, Some}
use Rattle.std.specs.List.{filter, list_any, list_all}
use Rattle.vc_base.specs.Chains.{all_pass, are_cited, cited}
use Rattle.vc_base.specs.Rounds.{is_clash}
use Rattle.vc_plan.specs.declared.atoms.Atom.{Atom}
use Rattle.vc_plan.specs.declared.atoms.Clash.{Clash}
use Rattle.vc_plan.specs.declared.atoms.Culprit.{Culprit}
use Rattle.vc_plan.specs.declared.atoms.Culprit.TheVariants.{Rule, Written, Hidden, HiddenSet}
use Rattle.vc_plan.specs.declared.atoms.Origin.{Origin}
use Rattle.vc_plan.specs.declared.atoms.Origin.TheVariants as origins
use Rattle.vc_plan.specs.declared.plans.Plan.{Plan}
use Rattle.vc_plan.specs.declared.procedures.Procedure.{Procedure}
use Rattle.vc_plan.specs.declared.rules.Kind.{Kind}
use Rattle.vc_plan.specs.declared.rules.Kind.TheVariants.{Among, Compare, Equate, ByTable, Never, Last, Line}
use Rattle.vc_plan.specs.declared.rules.Rule.{Rule as PlanRule}
use Rattle.vc_plan.specs.Clear.{is_clear}
use Rattle.vc_plan.specs.Domains.{numbers_below}
use Rattle.vc_plan.specs.Gives.{by_rule, by_entry, gives}
use Rattle.vc_plan.specs.Seen.{same_atom, seen_of}
use Rattle.vc_plan.specs.Sources.{Sources, entry_of}
use Rattle.vc_plan_reasons.specs.Checking.{are_of, concluded, is_accepted, is_by, set_with, step_form}
use Rattle.vc_plan_reasons.specs.Things.{Thing, giver_reads, slot_at}

-- whether a rule is a constraint's: it is neither of a last grain nor of a line
abbrev pub is_restriction : Kind → Bool
is_restriction (Among v restriction) = true
is_restriction (Compare r a b) = true
is_restriction (Equate a b) = true
is_restriction (ByTable table columns) = true
is_restriction Never = true
is_restriction (Last v) = false
is_restriction (Line i) = false

abbrev pub is_of_constraint : Option PlanRule → Bool
is_of_constraint None = false
is_of_constraint (Some rule) = is_restriction rule.kind

-- whether the culprit is a constraint's rule or a statement
abbrev pub is_blamable : Plan → Culprit → Bool
is_blamable plan (Rule r) = is_of_constraint (slice_get plan.rules r)
is_blamable plan (Written procedure statement) = true
is_blamable plan (Hidden dependency v) = false
is_blamable plan (HiddenSet dependency set) = false

-- what the culprit reads: a statement its instance's slot alone
abbrev pub slots_of_procedure : Option Procedure → List Thing
slots_of_procedure None = []
slots_of_procedure (Some procedure) = slot_at procedure.slot ∷ []

abbrev pub culprit_reads : Plan → Culprit → List Thing
culprit_reads plan (Rule r) = giver_reads plan (by_rule r)
culprit_reads plan (Written procedure statement) = slots_of_procedure (slice_get plan.procedures procedure)
culprit_reads plan (Hidden dependency v) = []
culprit_reads plan (HiddenSet dependency set) = []

-- whether the variable's entry is by this statement, and clashes at the set: it is outside, and the slot is here
abbrev pub entry_clashes : Plan → Sources → ℕ → ℕ → List Atom → ℕ → Bool
entry_clashes plan sources procedure statement set v =
    is_by procedure statement (entry_of sources v) && is_clash (gives plan sources (by_entry v) (seen_of set))

-- whether the culprit clashes at the set
abbrev pub culprit_clashes : Plan → Sources → Culprit → List Atom → Bool
culprit_clashes plan sources (Rule r) set = is_clash (gives plan sources (by_rule r) (seen_of set))
culprit_clashes plan sources (Written procedure statement) set =
    list_any (entry_clashes plan sources procedure statement set) (numbers_below (length plan.vars))
culprit_clashes plan sources (Hidden dependency v) set = false
culprit_clashes plan sources (HiddenSet dependency other) set = false

-- first: the premises are clear, the culprit reads their things, and it clashes there
abbrev pub is_clash_at : Plan → Sources → Culprit → List Atom → Bool
is_clash_at plan sources culprit premises =
    is_clear plan (set_with premises)
    && (are_of (culprit_reads plan culprit) premises && culprit_clashes plan sources culprit (set_with premises))

-- whether the origin is the culprit
abbrev pub is_origin : Culprit → Origin → Bool
is_origin (Rule r) (origins.Rule q) = r == q
is_origin (Rule r) origins.User = false
is_origin (Rule r) (origins.Written procedure statement) = false
is_origin (Written procedure statement) (origins.Rule q) = false
is_origin (Written procedure statement) origins.User = false
is_origin (Written procedure statement) (origins.Written p s) = (procedure == p) && (statement == s)
is_origin (Hidden dependency v) origin = false
is_origin (HiddenSet dependency set) origin = false

-- the set without an atom
abbrev pub set_without : Atom → List Atom → List Atom
set_without atom set = filter (λ other. not (same_atom atom other)) set

-- second: the premises aren't clear, without any one of them they are, and the culprit gave one of them
abbrev pub is_collision : Plan → Culprit → List Atom → Option (List Origin) → Bool
is_collision plan culprit premises by =
    not (is_clear plan (set_with premises))
    && (list_all (λ atom. is_clear plan (set_without atom (set_with premises))) premises
    && all_pass (list_any (is_origin culprit)) by)

-- whether one of both holds of what the clash cites
abbrev pub contradicts : Plan → Sources → Clash → List Atom → Bool
contradicts plan sources clash premises =
    is_clash_at plan sources clash.culprit premises
    || is_collision plan clash.culprit premises (cited (map (λ step. step.origin) clash.steps) clash.premises)

-- whether the clash shows that the sources contradict each other, and that its culprit is to blame
abbrev pub refutes : Plan → Sources → Clash → Bool
refutes plan sources clash =
    (is_accepted plan sources clash.steps && is_blamable plan clash.culprit)
    && all_pass (contradicts plan sources clash) (cited (concluded clash.steps) clash.premises)

-- whether each step is a premise of a later one or of the clash
abbrev pub is_trimmed_clash : Clash → Bool
is_trimmed_clash clash = are_cited step_form clash.premises 1 clash.steps
