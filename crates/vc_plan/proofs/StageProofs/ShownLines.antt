-- The bill that is shown has of each instance the lines that it takes.
use Rattle.std.proofs.Common.{ap, ◌∙◌}
use Rattle.std.specs.Prelude.{◌==◌}
use Rattle.std.specs.List.{filter}
use Rattle.vc_plan.specs.Evaluate.{last_set, sources_of}
use Rattle.vc_plan.specs.Seen.{seen_of}
use Rattle.vc_plan.specs.Shown.{bill_after, reading_of}
use Rattle.vc_plan.specs.StageLaws.{BillsShowTakenLines}
use Rattle.vc_plan.proofs.StageProofs.LastStage.{last_stage_settles}
use Rattle.vc_plan.proofs.StageProofs.TakenLines.{bills_have_taken_lines}
use Rattle.vc_plan.proofs.StageProofs.Upward.{parents_are_here}

pub bills_show_taken_lines : BillsShowTakenLines
bills_show_taken_lines plan valid users sets entries ends i there =
    let set = last_set plan sets in
    let upward
    = parents_are_here plan valid (sources_of users entries) set
    (last_stage_settles plan users sets entries ends) in
    ap (λ evaluated. filter (λ row. row.slot == i) (bill_after plan users evaluated)) ends
    ∙ bills_have_taken_lines plan valid (seen_of set) (reading_of plan users (seen_of set)) upward i there
