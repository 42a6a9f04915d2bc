-- Of the texts so far those are told that are left.
use Rattle.vc_rule_table.specs.Fitting.{TellsFirst}
use Rattle.vc_rule_table.proofs.fitting.tell_texts.Given as goal

abbrev pub invariant-loop-grain : goal.invariant-loop-grain
invariant-loop-grain g l = TellsFirst ((g.V.View.seen l.view).out l.var) l.texts l.grain l.left
