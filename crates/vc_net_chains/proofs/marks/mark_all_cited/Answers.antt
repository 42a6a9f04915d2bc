-- The last of the steps that are left is asked.
use Rattle.std.proofs.Common.{◌∙◌, ◌-◌, ap, arith, sym}
use Rattle.vc_net_chains.specs.Marking.{with_all_cited}
use Rattle.vc_net_chains.proofs.MarkLaws.{last_cited_first}
use Rattle.vc_net_chains.proofs.marks.mark_all_cited.Goals as goal

pub loop-left-preserved : goal.loop-left-preserved
loop-left-preserved c = (
  ap (with_all_cited c.args.log.now.steps (c.loop-left.left - 1)) c.mark_cited.ensures.marked
      ∙ (sym (last_cited_first c.args.log.now.steps c.loop-left.left c.loop-left.flags c.loop-left-test.true)
      ∙ c.loop-left.invariant.0),
  c.mark_cited.ensures.long ∙ c.loop-left.invariant.1,
  omega (arith, c.loop-left.invariant.2),
)
