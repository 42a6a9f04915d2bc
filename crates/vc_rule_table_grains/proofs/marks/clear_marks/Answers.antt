use Rattle.std.proofs.Common.{false, length, ap, ◌∙◌, arith}
use Rattle.std.specs.Prelude.{Some}
use Rattle.vc_plan.specs.Domains.{grains_in}
use Rattle.vc_rule_table_grains.specs.Marking.{put_at}
use Rattle.vc_rule_table_grains.proofs.MarkLemmas.{at_less, at_next, at_none}
use Rattle.vc_rule_table_grains.proofs.marks.clear_marks.Goals as goal

pub loop-grain-init : goal.loop-grain-init
loop-grain-init c = at_none c.args.domain.now false c.args.had.now

pub loop-grain-preserved : goal.loop-grain-preserved
loop-grain-preserved c =
    at_next c.args.domain.now c.loop-grain.grain false c.loop-grain.had c.set_mark.new.had c.loop-grain.invariant
    (c.set_mark.ensures ∙ ap (λ o. put_at o false c.loop-grain.had) c.grain_key.ensures)

pub returns : goal.returns
returns c =
    at_less c.args.domain.now (length (grains_in (Some c.args.domain.now))) c.loop-grain.grain false c.loop-grain.had
    (omega (arith, c.loop-grain-test.false, c.grain_count-grain-end.ensures)) c.loop-grain.invariant
