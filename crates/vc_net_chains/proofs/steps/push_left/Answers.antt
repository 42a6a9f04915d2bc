-- Nothing is put where the step isn't flagged, or isn't there.
use Rattle.std.proofs.Common.{arith}
use Rattle.std.specs.Prelude.{slice_get}
use Rattle.vc_net_chains.proofs.LeftLaws.{none_put, none_there_put}
use Rattle.vc_net_chains.proofs.steps.push_left.Goals.{else-flag-via-then-flag+else-place-count}
use Rattle.vc_net_chains.proofs.steps.push_left.Goals.{else-flag-via-else-flag}
use Rattle.vc_net_chains.proofs.steps.push_left.Goals as goal

pub returns-else-flag : goal.returns-else-flag
returns-else-flag c =
    elim c.else-flag.branch [
      | else-flag-via-then-flag+else-place-count w ↦
          none_there_put c.args.numbers.now c.args.flag c.args.log.now.steps c.args.place c.args.steps.now
          (omega (arith, w.if-place-count.false, w.count.ensures))
      | else-flag-via-else-flag w ↦
          none_put c.args.numbers.now c.args.flag (slice_get c.args.log.now.steps c.args.place) c.args.steps.now
          w.if-flag.false
    ]
