-- Selection conditions with their numbers.
use Rattle.std.specs.Prelude.{◌≡◌, List, length, map}
use Rattle.vc_plan.specs.declared.plans.Selection.{Selection}
use Rattle.vc_compile_plan.specs.Numbering.{selections_from}
use Rattle.vc_compile_plan.specs.Shown.{Choice}
use Rattle.vc_compile_numbering.specs.Growing.{Kept, with_conditions}

-- choices whose conditions come behind the others, each with the number of its condition
pub record AreChosen (before : Kept) (choices : List Choice) (chosen : List Selection) (after : Kept) : Type 0 where
  pub selections : chosen ≡ selections_from (length before.conditions) choices
  pub kept : after ≡ with_conditions before (map (λ choice. choice.condition) choices)
