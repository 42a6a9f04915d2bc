use Rattle.std.proofs.Common.{List, ap, ◌∙◌, arith}
use Rattle.vc_value.specs.declared.value.Value.{Value}
use Rattle.vc_plan.specs.TableRows.{columns_of}
use Rattle.vc_rule_table_grains.specs.Keys.{row_key}
use Rattle.vc_rule_table_grains.proofs.ChainLemmas.{chained_begin, chained_end, chained_step}
use Rattle.vc_rule_table_grains.proofs.chains.chain_rows.Goals as goal

pub loop-at-init : goal.loop-at-init
loop-at-init c =
    chained_begin c.args.domain.now (columns_of c.args.var c.args.columns.now) c.args.rows.now c.clear_heads.new.heads
    c.args.next.now c.requires c.clear_heads.ensures

pub loop-at-preserved : goal.loop-at-preserved
loop-at-preserved c =
    let own = columns_of c.args.var c.args.columns.now in
    chained_step c.args.domain.now own c.args.rows.now c.loop-at.at
    c.row_key-key.result c.loop-at.heads c.loop-at.next c.chain_row.new.heads c.chain_row.new.next c.loop-at-test.true
    c.loop-at.invariant
    (c.row_key-key.ensures ∙ ap (λ (row : List Value). row_key c.args.domain.now own row) c.row_at.ensures)
    c.chain_row.ensures.heads c.chain_row.ensures.next

pub returns : goal.returns
returns c =
    chained_end c.args.domain.now (columns_of c.args.var c.args.columns.now) c.args.rows.now c.loop-at.at
    c.loop-at.heads c.loop-at.next (omega (arith, c.loop-at-test.false)) c.loop-at.invariant
