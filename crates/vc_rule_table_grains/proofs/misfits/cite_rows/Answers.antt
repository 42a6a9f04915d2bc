use Rattle.std.proofs.Common.{◌-◌, length, take, drop, subst, sym, List, ap, ◌∙◌}
use Rattle.vc_value.specs.declared.value.Value.{Value}
use Rattle.vc_rule_premises.specs.Citing.{cited_all}
use Rattle.vc_rule_table.specs.Cells.{columns_but}
use Rattle.vc_rule_yield.specs.declared.scratch.Note.{Note}
use Rattle.vc_rule_table.specs.Noting.{AreNotes}
use Rattle.vc_rule_table.proofs.NotingLemmas.{notes_behind}
use Rattle.vc_rule_table.specs.Reasons.{row_reasons}
use Rattle.vc_rule_table.proofs.CitingSteps.{cited_first}
use Rattle.vc_rule_table_grains.proofs.misfits.cite_rows.Goals as goal

pub loop-rest-preserved : goal.loop-rest-preserved
loop-rest-preserved g c =
    let reasons
    = row_reasons c.args.plan.now (g.V.View.seen c.args.view.now) (columns_but c.args.but c.args.columns.now) in (
      cited_first reasons c.loop-rest.out c.cite_row.new.out c.loop-rest.rest.now c.row-item.result
          c.in-len1-up.len_at_least c.row-item.is
          (c.cite_row.ensures ∙ ap (λ (row : List Value). cited_all c.loop-rest.out (reasons row)) c.as_slice.ensures)
          ∙ c.loop-rest.invariant.0,
      subst (λ (notes : List Note). AreNotes c.args.plan.now (g.V.View.seen c.args.view.now) c.args.columns.now
          (take (length c.loop-rest.rest.now - 1) (drop 1 c.loop-rest.rest.now)) notes) (sym c.behind-noted.ensures)
          (notes_behind c.args.plan.now (g.V.View.seen c.args.view.now) c.args.columns.now c.loop-rest.rest.now
          c.loop-rest.noted.now c.loop-rest.invariant.1),
    )
