use Rattle.std.proofs.Common.{length}
use Rattle.vc_model_lines.specs.Classified.{lines_of}
use Rattle.vc_model_faults.specs.Places.{seen_places}
use Rattle.vc_model_faults.specs.Readings.{seen_readings}
use Rattle.vc_model_drafts.specs.Drafts.{seen_draft}
use Rattle.vc_model_drafts.proofs.DraftLaws.{IsDrafted}
use Rattle.vc_model_drafts.proofs.drafts.gather.Given as goal

abbrev pub invariant-lines : goal.invariant-lines
invariant-lines l = IsDrafted (lines_of l.text) l.scope (seen_draft l.draft) (seen_readings l.readings)
    (seen_places l.text l.places)

abbrev pub decreases-lines : goal.decreases-lines
decreases-lines l = length l.places
