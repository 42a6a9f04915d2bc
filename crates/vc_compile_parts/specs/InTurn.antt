-- What of a plan has conditions and terms, kind by kind: each kind's follow those of the kinds before.
use Rattle.std.specs.Prelude.{[], ◌∷◌}
use Rattle.vc_plan.specs.declared.plans.Guard.{Guard}
use Rattle.vc_plan.specs.declared.plans.Line.{Line}
use Rattle.vc_plan.specs.declared.plans.Operation.{Operation}
use Rattle.vc_plan.specs.declared.plans.Requirement.{Requirement}
use Rattle.vc_plan.specs.declared.procedures.Procedure.{Procedure}
use Rattle.vc_plan.specs.declared.rules.Rule.{Rule}
use Rattle.vc_compile_plan.specs.Layouts.{Layout}
use Rattle.vc_compile_plan.specs.Numbering as numbering
use Rattle.vc_compile_plan.specs.Procedures.{procedure_drafts}
use Rattle.vc_compile_plan.specs.Rules.{rule_drafts}
use Rattle.vc_compile_plan.specs.Shown.{guard_drafts, requirement_drafts, line_drafts, operation_drafts}
use Rattle.vc_compile_plan.specs.Trees.{Always}
use Rattle.vc_compile_numbering.specs.Growing.{Kept, Numbered, with_drafts}

-- no things yet, over these conditions and terms
abbrev pub over : {X : Type 0} → Kept → Numbered X
over before = record { kept = before; items = [] }

-- at first there is the condition that asks nothing
abbrev pub first_kept : Kept
first_kept = record { conditions = Always ∷ []; terms = [] }

abbrev pub ruled : Layout → Numbered Rule
ruled layout = with_drafts numbering.rule_brings numbering.rule_from (over first_kept) (rule_drafts layout)

abbrev pub guarded : Layout → Numbered Guard
guarded layout = with_drafts numbering.guard_brings numbering.guard_from (over (ruled layout).kept)
    (guard_drafts layout)

abbrev pub required : Layout → Numbered Requirement
required layout =
    with_drafts numbering.requirement_brings numbering.requirement_from (over (guarded layout).kept)
    (requirement_drafts layout)

abbrev pub lined : Layout → Numbered Line
lined layout = with_drafts numbering.item_brings numbering.line_from (over (required layout).kept) (line_drafts layout)

abbrev pub operated : Layout → Numbered Operation
operated layout = with_drafts numbering.item_brings numbering.operation_from (over (lined layout).kept)
    (operation_drafts layout)

abbrev pub proceeded : Layout → Numbered Procedure
proceeded layout =
    with_drafts numbering.procedure_brings numbering.procedure_from (over (operated layout).kept)
    (procedure_drafts layout)
