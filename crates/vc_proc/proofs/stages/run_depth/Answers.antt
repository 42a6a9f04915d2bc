-- What a slot's procedures write comes before what those of the slots after it do.
use Rattle.std.proofs.Common.{◌&&◌, ℕ, Bool, false, length, ◌∙◌, arith}
use Rattle.std.specs.Prelude.{◌==◌}
use Rattle.vc_plan.specs.Writes.{depth_of, procedures_at}
use Rattle.vc_proc.proofs.RunLemmas.{slots_next}
use Rattle.vc_proc.proofs.stages.run_depth.Goals as goal

pub loop-slot-preserved : goal.loop-slot-preserved
loop-slot-preserved g c =
    let plan = c.args.plan.now in
    let seen = g.R.View.seen c.args.stage.now in
    let holds = g.R.Reading.holdings c.args.stage.now in
    let test : ℕ → Bool = λ i. (depth_of plan i == c.args.depth) && seen.here i in (
      slots_next plan seen holds (procedures_at plan false) test c.loop-slot.slot (length plan.slots)
          c.loop-slot.overlay c.run_at_depth.new.overlay
          (omega (arith, c.loop-slot-test.true, c.len-slot-end.ensures)) c.run_at_depth.ensures.is
          ∙ c.loop-slot.invariant.0,
      c.run_at_depth.ensures.lie,
    )
