-- The lines of chains: what each step concludes, by whom, and from which steps; and what contradicts.
use Rattle.std.specs.Prelude.{ℕ, ◌+◌, Bool, not, ◌==◌, if◌then◌else◌, List, [], ◌∷◌, ◌++◌, codes, slice_get, Option}
use Rattle.std.specs.Prelude.{None, Some}
use Rattle.std.specs.List.{flat_map, list_any}
use Rattle.std.specs.Fmt.{decimal}
use Rattle.vc_plan.specs.declared.atoms.Atom.{Atom}
use Rattle.vc_plan.specs.declared.atoms.Atom.TheVariants.{Here, Out, Is}
use Rattle.vc_plan.specs.declared.atoms.Clash.{Clash}
use Rattle.vc_plan.specs.declared.atoms.Culprit.{Culprit}
use Rattle.vc_plan.specs.declared.atoms.Origin.{Origin}
use Rattle.vc_plan.specs.declared.atoms.Origin.TheVariants as origins
use Rattle.vc_plan.specs.declared.atoms.Step.{Step}
use Rattle.vc_plan.specs.declared.conditions.Piece.{Piece}
use Rattle.vc_plan.specs.declared.plans.Named.TheVariants.{Var}
use Rattle.vc_plan.specs.declared.plans.Plan.{Plan}
use Rattle.vc_plan.specs.declared.rules.Kind.{Kind}
use Rattle.vc_plan.specs.declared.rules.Kind.TheVariants as kinds
use Rattle.vc_plan.specs.declared.rules.Rule.{Rule}
use Rattle.vc_plan.specs.Domains.{grains_of}
use Rattle.vc_show_rows.specs.Texts.{piece_text, value_text}
use Rattle.vc_wire_replies.specs.Culprits.{culprit_text, named_text, rule_if, statement_text}

-- a grain of a variable
abbrev pub piece_if : Plan → Option Piece → List ℕ
piece_if plan None = []
piece_if plan (Some piece) = piece_text plan piece

abbrev pub grain_text : Plan → ℕ → ℕ → List ℕ
grain_text plan v g = piece_if plan (slice_get (grains_of plan v) g)

-- what a step concludes: `here i`, `out i C GRAIN` or `is i C value`
abbrev pub atom_text : Plan → Atom → List ℕ
atom_text plan (Here i) = codes "here " ++ decimal i
atom_text plan (Out v g) = codes "out " ++ (named_text plan (Var v) ++ (codes " " ++ grain_text plan v g))
atom_text plan (Is v a) = codes "is " ++ (named_text plan (Var v) ++ (codes " " ++ value_text plan a))

-- a rule by its kind: `last`, `line k` with the number of the selection condition, or `constraint NAME k at i,j`
abbrev pub rule_by_kind : Plan → Rule → Kind → List ℕ
rule_by_kind plan rule (kinds.Among v restriction) = rule_if plan (Some rule)
rule_by_kind plan rule (kinds.Compare relation left right) = rule_if plan (Some rule)
rule_by_kind plan rule (kinds.Equate left right) = rule_if plan (Some rule)
rule_by_kind plan rule (kinds.ByTable table columns) = rule_if plan (Some rule)
rule_by_kind plan rule kinds.Never = rule_if plan (Some rule)
rule_by_kind plan rule (kinds.Last v) = codes "last"
rule_by_kind plan rule (kinds.Line i) = codes "line " ++ decimal rule.number

abbrev pub giver_if : Plan → Option Rule → List ℕ
giver_if plan None = []
giver_if plan (Some rule) = rule_by_kind plan rule rule.kind

-- by whom: a rule, `user`, or `procedure NAME n at i`
abbrev pub origin_text : Plan → Origin → List ℕ
origin_text plan (origins.Rule r) = giver_if plan (slice_get plan.rules r)
origin_text plan origins.User = codes "user"
origin_text plan (origins.Written procedure statement) = statement_text plan procedure statement

-- ` from P`: the numbers of the steps that something follows from, but 0; nothing where there is no other
abbrev pub is_step : ℕ → Bool
is_step premise = not (premise == 0)

abbrev pub premise_text : ℕ → List ℕ
premise_text premise = let text = codes " " ++ decimal premise in if is_step premise then text else []

abbrev pub from_text : List ℕ → List ℕ
from_text premises =
    let text = codes " from" ++ flat_map premise_text premises in if list_any is_step premises then text else []

abbrev pub end_of_line : List ℕ → List ℕ
end_of_line premises = from_text premises ++ codes "\n"

-- the line of a step of this number, and those of steps that are numbered from this number on
abbrev pub reason_text : Plan → Origin → List ℕ → List ℕ
reason_text plan origin premises = codes " by " ++ (origin_text plan origin ++ end_of_line premises)

abbrev pub step_line : Plan → ℕ → Step → List ℕ
step_line plan number step =
    decimal number ++ (codes " " ++ (atom_text plan step.conclusion ++ reason_text plan step.origin step.premises))

abbrev pub steps_from : Plan → ℕ → List Step → List ℕ
steps_from plan number [] = []
steps_from plan number (step ∷ steps) = step_line plan number step ++ steps_from plan (number + 1) steps

-- the line of a clash: whom it blames
abbrev pub clash_line : Plan → Clash → List ℕ
clash_line plan clash = codes "clash by " ++ (culprit_text plan clash.culprit ++ end_of_line clash.premises)

-- a chain that leads to its last step, a list of all that follows, and a chain that leads to a clash
abbrev pub chain_text : Plan → List Step → List ℕ
chain_text plan steps = codes "chain\n" ++ (steps_from plan 1 steps ++ codes "end\n")

abbrev pub whole_text : Plan → List Step → List ℕ
whole_text plan steps = codes "whole\n" ++ (steps_from plan 1 steps ++ codes "end\n")

abbrev pub clash_text : Plan → Clash → List ℕ
clash_text plan clash =
    codes "chain\n" ++ (steps_from plan 1 clash.steps ++ (clash_line plan clash ++ codes "end\n"))

-- whom a contradiction blames that no steps lead to
abbrev pub culprit_line : Plan → Culprit → List ℕ
culprit_line plan culprit = culprit_text plan culprit ++ codes "\n"
