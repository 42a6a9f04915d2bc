-- How a status is told, and whom a contradiction blames.
use Rattle.std.specs.Prelude.{ℕ, ◌+◌, List, [], ◌∷◌, ◌++◌, codes, slice_get, Option, None, Some}
use Rattle.std.specs.List.{flat_map}
use Rattle.std.specs.Fmt.{decimal}
use Rattle.vc_plan.specs.declared.atoms.Culprit.{Culprit}
use Rattle.vc_plan.specs.declared.atoms.Culprit.TheVariants as culprits
use Rattle.vc_plan.specs.declared.plans.Named.{Named}
use Rattle.vc_plan.specs.declared.plans.Named.TheVariants.{Var, Set}
use Rattle.vc_plan.specs.declared.plans.Plan.{Plan}
use Rattle.vc_plan.specs.declared.procedures.Procedure.{Procedure}
use Rattle.vc_plan.specs.declared.rules.Rule.{Rule}
use Rattle.vc_plan.specs.declared.shown.Status.{Status}
use Rattle.vc_plan.specs.declared.shown.Status.TheVariants as statuses
use Rattle.vc_plan.specs.Showing.{slot_of_named}
use Rattle.vc_show_rows.specs.Texts.{name_of}

-- the name of a dependency
abbrev pub word_if : Option (List ℕ) → List ℕ
word_if None = []
word_if (Some word) = word

abbrev pub dependency_name : Plan → ℕ → List ℕ
dependency_name plan d = word_if (slice_get plan.dependencies d)

abbrev pub name_if : Plan → Option ℕ → List ℕ
name_if plan None = []
name_if plan (Some d) = dependency_name plan d

-- slots with commas between
abbrev pub other_slot : ℕ → List ℕ
other_slot slot = codes "," ++ decimal slot

abbrev pub slots_text : List ℕ → List ℕ
slots_text [] = []
slots_text (slot ∷ slots) = decimal slot ++ flat_map other_slot slots

abbrev pub slot_if : Option ℕ → List ℕ
slot_if None = []
slot_if (Some slot) = decimal slot

-- `constraint NAME k at i,j`: the restriction of this number, at the slots of its objects
abbrev pub rule_name : Plan → Rule → List ℕ
rule_name plan rule =
    name_if plan rule.dependency ++ (codes " " ++ (decimal rule.number ++ (codes " at " ++ slots_text rule.slots)))

abbrev pub rule_if : Plan → Option Rule → List ℕ
rule_if plan None = []
rule_if plan (Some rule) = codes "constraint " ++ rule_name plan rule

abbrev pub rule_text : Plan → ℕ → List ℕ
rule_text plan r = rule_if plan (slice_get plan.rules r)

-- `procedure NAME n at i`: its statement of this number, from 1
abbrev pub place_text : ℕ → ℕ → List ℕ
place_text number slot = codes " " ++ (decimal number ++ (codes " at " ++ decimal slot))

abbrev pub statement_if : Plan → ℕ → Option Procedure → List ℕ
statement_if plan statement None = []
statement_if plan statement (Some procedure) =
    codes "procedure " ++ (dependency_name plan procedure.dependency ++ place_text (statement + 1) procedure.slot)

abbrev pub statement_text : Plan → ℕ → ℕ → List ℕ
statement_text plan procedure statement = statement_if plan statement (slice_get plan.procedures procedure)

-- `i C`: a characteristic, behind its slot
abbrev pub named_text : Plan → Named → List ℕ
named_text plan named = slot_if (slot_of_named plan named) ++ (codes " " ++ name_of plan named)

-- `precondition NAME at i C`
abbrev pub hidden_text : Plan → ℕ → Named → List ℕ
hidden_text plan d named = codes "precondition " ++ (dependency_name plan d ++ (codes " at " ++ named_text plan named))

abbrev pub culprit_text : Plan → Culprit → List ℕ
culprit_text plan (culprits.Rule r) = rule_text plan r
culprit_text plan (culprits.Written procedure statement) = statement_text plan procedure statement
culprit_text plan (culprits.Hidden d v) = hidden_text plan d (Var v)
culprit_text plan (culprits.HiddenSet d s) = hidden_text plan d (Set s)

-- how a configuration stands
abbrev pub status_text : Plan → Status → List ℕ
status_text plan statuses.Unfinished = codes "open"
status_text plan statuses.Complete = codes "complete"
status_text plan (statuses.Contradiction culprit) = codes "contradiction " ++ culprit_text plan culprit
