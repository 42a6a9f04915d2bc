use Rattle.std.proofs.Common.{◌-◌, length, take, drop, subst, sym, List, [], ◌∷◌, ap, ◌∙◌}
use Rattle.std.specs.List.{filter}
use Rattle.vc_value.specs.declared.value.Value.{Value}
use Rattle.vc_rule_premises.specs.Citing.{cited_all}
use Rattle.vc_rule_yield.specs.declared.scratch.Note.{Note}
use Rattle.vc_rule_table.specs.Noting.{AreNotes}
use Rattle.vc_rule_table.proofs.NotingLemmas.{notes_behind}
use Rattle.vc_rule_table_grains.specs.Calls.{has, reasons_of}
use Rattle.vc_rule_table_grains.proofs.CallLaws.{row_reasons_of}
use Rattle.vc_rule_table_grains.proofs.ConcludingSteps.{cited_those}
use Rattle.vc_rule_table_grains.proofs.grains.cite_rows_with.Goals as goal

pub loop-rest-preserved : goal.loop-rest-preserved
loop-rest-preserved g c =
    let seen = g.V.View.seen in
    let call = c.args.call.now in
    let has_it = has call c.args.grain in (
      cited_those has_it (row_reasons_of seen call) c.loop-rest.out c.cite_row_with.new.out c.loop-rest.rest.now
          c.row-item.result
          c.in-len1-up.len_at_least c.row-item.is
          (c.cite_row_with.ensures
          ∙ ap (λ (row : List Value). cited_all c.loop-rest.out (reasons_of seen call (filter has_it (row ∷ []))))
          c.as_slice.ensures)
          ∙ c.loop-rest.invariant.0,
      subst (λ (notes : List Note). AreNotes call.plan.now (seen call.view.now) call.columns.now
          (take (length c.loop-rest.rest.now - 1) (drop 1 c.loop-rest.rest.now)) notes) (sym c.behind-noted.ensures)
          (notes_behind call.plan.now (seen call.view.now) call.columns.now c.loop-rest.rest.now
          c.loop-rest.noted.now c.loop-rest.invariant.1),
    )
