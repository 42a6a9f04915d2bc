-- The flag of the number is set, if it is one of the first.
use Rattle.std.proofs.Common.{◌∙◌, arith, sym}
use Rattle.vc_net_chains.proofs.MarkLaws.{marked_one, unmarked}
use Rattle.vc_net_chains.proofs.marks.mark.Goals.{else-number-gt0-via-then-number-gt0+else-number-count}
use Rattle.vc_net_chains.proofs.marks.mark.Goals.{else-number-gt0-via-else-number-gt0}
use Rattle.vc_net_chains.proofs.marks.mark.Goals as goal

pub returns-then-number-count-clause-marked : goal.returns-then-number-count-clause-marked
returns-then-number-count-clause-marked c =
    c.set.ensures
    ∙ marked_one 1 c.args.count c.args.number c.args.flags.now (omega (arith, c.if-number-gt0.true))
    (omega (arith, c.if-number-count.true)) c.requires

pub returns-else-number-gt0-clause-marked : goal.returns-else-number-gt0-clause-marked
returns-else-number-gt0-clause-marked c =
    elim c.else-number-gt0.branch [
      | else-number-gt0-via-then-number-gt0+else-number-count w ↦
          sym (unmarked 1 c.args.count c.args.number c.args.flags.now
          (λ j low high is. omega (arith, low, high, is, w.if-number-count.false)))
      | else-number-gt0-via-else-number-gt0 w ↦
          sym (unmarked 1 c.args.count c.args.number c.args.flags.now
          (λ j low high is. omega (arith, low, high, is, w.if-number-gt0.false)))
    ]
