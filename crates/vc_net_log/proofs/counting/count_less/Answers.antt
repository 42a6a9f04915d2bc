-- One fact less is counted at each turn.
use Rattle.std.proofs.Common.{◌∙◌, ap, length}
use Rattle.vc_net_log.proofs.OutLaws.{lowered_all, lowered_long, lowered_rest}
use Rattle.vc_net_log.proofs.counting.count_less.Goals as goal

pub loop-rest-preserved : goal.loop-rest-preserved
loop-rest-preserved c = (
  λ others h. lowered_rest c.loop-rest.rest.now _ others c.loop-rest.outs c.count_one_less.new.outs
      c.in-len1-up.len_at_least c.count_one_less.ensures (c.loop-rest.invariant.0 others h),
  ap (λ outs. length outs) c.count_one_less.ensures ∙ (lowered_long _ c.loop-rest.outs ∙ c.loop-rest.invariant.1),
)

pub returns-clause-counted : goal.returns-clause-counted
returns-clause-counted c = λ others h.
    lowered_all c.loop-rest.rest.now others c.loop-rest.outs c.in_default.len_below (c.loop-rest.invariant.0 others h)
