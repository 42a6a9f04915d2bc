use Rattle.std.proofs.Common.{◌-◌, List, ap, drop, length, subst, sym, take, ◌∙◌}
use Rattle.std.specs.List.{find}
use Rattle.vc_rule_yield.specs.declared.scratch.Note.{Note}
use Rattle.vc_rule_table.specs.Noting.{AreNotes}
use Rattle.vc_rule_table.proofs.NotingLemmas.{notes_behind}
use Rattle.vc_rule_table_saying.specs.Calls.{is_possible_for}
use Rattle.vc_rule_table_saying.proofs.SkippingLemmas.{found_behind, found_past, walks_past}
use Rattle.vc_rule_table_saying.proofs.agreed.first_possible.Goals as goal

pub loop-rest-init : goal.loop-rest-init
loop-rest-init g c =
    let call = c.args.call.now in
    let seen = g.V.View.seen call.view.now in
    walks_past call.plan.now seen call.columns.now (find (is_possible_for g.V.View.seen call c.args.var))
    (found_past call.plan.now seen call.columns.now c.args.var) call.rows.now c.rows_past-rest.result.now call.notes.now
    c.notes_past-noted.result.now c.given_up-front.result c.requires.call.1 c.given_up-front.ensures
    c.rows_past-rest.ensures c.notes_past-noted.ensures

pub loop-rest-preserved : goal.loop-rest-preserved
loop-rest-preserved g c =
    let call = c.args.call.now in
    let seen = g.V.View.seen call.view.now in
    let columns = call.columns.now in
    let possible = is_possible_for g.V.View.seen call c.args.var in
    let rest = c.loop-rest.rest.now in
    let more = take (length rest - 1) (drop 1 rest) in
    let past
    = walks_past call.plan.now seen columns (find possible) (found_past call.plan.now seen columns c.args.var)
    more c.rows_past-rest-in-len1-up.result.now c.behind-later.result.now c.notes_past-noted-in-len1-up.result.now
    c.given_up-skipped.result
    (subst (λ (notes : List Note). AreNotes call.plan.now seen columns more notes) (sym c.behind-later.ensures)
    (notes_behind call.plan.now seen columns rest c.loop-rest.noted.now c.loop-rest.invariant.1))
    c.given_up-skipped.ensures c.rows_past-rest-in-len1-up.ensures c.notes_past-noted-in-len1-up.ensures in (
      past.0
          ∙ (found_behind possible rest c.row-item.result c.in-len1-up.len_at_least c.row-item.is
          (ap possible (sym c.as_slice.ensures) ∙ (sym c.is_possible_for.ensures ∙ c.if-is_possible_for.false))
          ∙ c.loop-rest.invariant.0),
      past.1,
    )
