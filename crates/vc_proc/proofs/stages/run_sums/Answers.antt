-- What a slot's procedures write comes before what those of the slots before it do.
use Rattle.std.proofs.Common.{◌&&◌, ℕ, Bool, true, false, not, ◌∙◌, arith}
use Rattle.std.specs.Prelude.{slice_index_or}
use Rattle.vc_plan.specs.Writes.{procedures_at}
use Rattle.vc_proc.proofs.RunLemmas.{slots_down}
use Rattle.vc_proc.proofs.stages.run_sums.Goals as goal

pub loop-slot-preserved : goal.loop-slot-preserved
loop-slot-preserved g c =
    let plan = c.args.plan.now in
    let seen = g.R.View.seen c.args.stage.now in
    let holds = g.R.Reading.holdings c.args.stage.now in
    let test : ℕ → Bool = λ i. seen.here i && not (slice_index_or c.args.late.now i false) in (
      slots_down plan seen holds (procedures_at plan true) test c.loop-slot.slot c.loop-slot.overlay
          c.run_sums_at.new.overlay
          (omega (arith, c.loop-slot-test.true)) c.run_sums_at.ensures.is
          ∙ c.loop-slot.invariant.0,
      c.run_sums_at.ensures.lie,
    )
