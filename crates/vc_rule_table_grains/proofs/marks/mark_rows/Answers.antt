use Rattle.std.proofs.Common.{List, ◌-◌, length, take, drop, ap, subst, sym, ◌∙◌}
use Rattle.vc_value.specs.declared.value.Value.{Value}
use Rattle.vc_plan.specs.TableRows.{columns_of, is_possible_in, other_columns}
use Rattle.vc_rule_yield.specs.declared.scratch.Note.{Note}
use Rattle.vc_rule_table.specs.Noting.{AreNotes}
use Rattle.vc_rule_table.proofs.NotingLemmas.{notes_behind}
use Rattle.vc_rule_table_grains.specs.Keys.{row_key}
use Rattle.vc_rule_table_grains.specs.Marking.{marked_by}
use Rattle.vc_rule_table_grains.proofs.MarkLemmas.{marks_begin, marks_next, marks_end}
use Rattle.vc_rule_table_grains.proofs.marks.mark_rows.Goals as goal

pub loop-rest-init : goal.loop-rest-init
loop-rest-init g c = (
  marks_begin c.args.domain.now (columns_of c.args.var c.args.columns.now)
      (is_possible_in c.args.plan.now (g.V.View.seen c.args.view.now) (other_columns c.args.var c.args.columns.now))
      c.args.rows.now c.args.had.now c.requires.cleared,
  c.requires.noted,
)

pub loop-rest-preserved : goal.loop-rest-preserved
loop-rest-preserved g c =
    let seen = g.V.View.seen c.args.view.now in
    let own = columns_of c.args.var c.args.columns.now in
    let possible = is_possible_in c.args.plan.now seen (other_columns c.args.var c.args.columns.now) in (
      marks_next c.args.domain.now own possible c.args.rows.now c.loop-rest.rest.now c.row-item.result c.loop-rest.had
          c.mark_row.new.had c.in-len1-up.len_at_least c.row-item.is c.loop-rest.invariant.0
          (c.mark_row.ensures
          ∙ ap (λ (row : List Value). marked_by (possible row) (row_key c.args.domain.now own row) c.loop-rest.had)
          c.as_slice.ensures),
      subst (λ (notes : List Note). AreNotes c.args.plan.now seen c.args.columns.now
          (take (length c.loop-rest.rest.now - 1) (drop 1 c.loop-rest.rest.now)) notes) (sym c.behind-noted.ensures)
          (notes_behind c.args.plan.now seen c.args.columns.now c.loop-rest.rest.now
          c.loop-rest.noted.now c.loop-rest.invariant.1),
    )

pub returns : goal.returns
returns g c =
    marks_end c.args.domain.now (columns_of c.args.var c.args.columns.now)
    (is_possible_in c.args.plan.now (g.V.View.seen c.args.view.now) (other_columns c.args.var c.args.columns.now))
    c.args.rows.now c.loop-rest.rest.now c.loop-rest.had c.in_default.len_below c.loop-rest.invariant.0
