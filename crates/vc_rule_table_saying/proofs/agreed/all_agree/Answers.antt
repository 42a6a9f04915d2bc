use Rattle.std.proofs.Common.{◌-◌, ◌&&◌, List, ap, drop, length, not, subst, sym, take, ◌∙◌}
use Rattle.std.specs.List.{filter, list_all}
use Rattle.vc_value.specs.declared.value.Value.{Value}
use Rattle.vc_plan.specs.TableRows.{columns_of, has_cell}
use Rattle.vc_rule_yield.specs.declared.scratch.Note.{Note}
use Rattle.vc_rule_table.specs.Noting.{AreNotes}
use Rattle.vc_rule_table.proofs.NotingLemmas.{notes_behind}
use Rattle.vc_rule_table_saying.specs.Calls.{is_possible_for}
use Rattle.vc_rule_table_saying.proofs.SkippingLemmas.{agree_behind, possible_past, walks_past}
use Rattle.vc_rule_table_saying.proofs.agreed.all_agree.Goals as goal

pub loop-rest-init : goal.loop-rest-init
loop-rest-init g c =
    let call = c.args.call.now in
    let seen = g.V.View.seen call.view.now in
    let columns = call.columns.now in
    let possible = is_possible_for g.V.View.seen call c.args.var in
    let has = has_cell (columns_of c.args.var columns) c.args.value in
    walks_past call.plan.now seen columns (λ (rows : List (List Value)). list_all has (filter possible rows))
    (λ rows notes are. ap (list_all has) (possible_past call.plan.now seen columns c.args.var rows notes are))
    call.rows.now c.rows_past-rest.result.now call.notes.now c.notes_past-noted.result.now c.given_up-front.result
    c.requires.call.1 c.given_up-front.ensures c.rows_past-rest.ensures c.notes_past-noted.ensures

pub loop-rest-preserved : goal.loop-rest-preserved
loop-rest-preserved g c =
    let call = c.args.call.now in
    let seen = g.V.View.seen call.view.now in
    let columns = call.columns.now in
    let possible = is_possible_for g.V.View.seen call c.args.var in
    let has = has_cell (columns_of c.args.var columns) c.args.value in
    let rest = c.loop-rest.rest.now in
    let more = take (length rest - 1) (drop 1 rest) in
    let past
    = walks_past call.plan.now seen columns (λ (rows : List (List Value)). list_all has (filter possible rows))
    (λ rows notes are. ap (list_all has) (possible_past call.plan.now seen columns c.args.var rows notes are))
    more c.rows_past-rest-in-len1-up.result.now c.behind-later.result.now c.notes_past-noted-in-len1-up.result.now
    c.given_up-skipped.result
    (subst (λ (notes : List Note). AreNotes call.plan.now seen columns more notes) (sym c.behind-later.ensures)
    (notes_behind call.plan.now seen columns rest c.loop-rest.noted.now c.loop-rest.invariant.1))
    c.given_up-skipped.ensures c.rows_past-rest-in-len1-up.ensures c.notes_past-noted-in-len1-up.ensures in (
      past.0
          ∙ (agree_behind possible has rest c.row-item.result c.in-len1-up.len_at_least c.row-item.is
          (ap (λ (row : List Value). possible row && not (has row)) (sym c.as_slice.ensures)
          ∙ (sym c.disagrees.ensures ∙ c.if-disagrees.false))
          ∙ c.loop-rest.invariant.0),
      past.1,
    )
