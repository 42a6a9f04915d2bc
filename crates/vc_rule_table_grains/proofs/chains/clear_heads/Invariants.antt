-- It stands at the keys of the grains so far.
use Rattle.vc_rule_table_grains.specs.Marking.{AreAt}
use Rattle.vc_rule_table_grains.proofs.chains.clear_heads.Given as goal

abbrev pub invariant-loop-grain : goal.invariant-loop-grain
invariant-loop-grain l = AreAt l.domain l.grain l.count l.heads
