use Rattle.std.proofs.Common.{◌∙◌}
use Rattle.vc_table.proofs.TextLemmas.{agree_next}
use Rattle.vc_table.proofs.text_index.TextIndex.new.Goals as goal

pub loop-entry-preserved : goal.loop-entry-preserved
loop-entry-preserved c = λ text.
    c.in_ok-add.ensures text
    ∙ agree_next c.loop-entry.index c.args.entries.now c.loop-entry.entry-index c.entry-item.result
    c.loop-entry-test.true c.entry-item.is c.loop-entry.invariant text
