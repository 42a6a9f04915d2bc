use Rattle.std.proofs.Common.{subst, sym}
use Rattle.std.specs.Prelude.{Option}
use Rattle.vc_plan.specs.TableRows.{columns_of, is_possible_in, other_columns}
use Rattle.vc_rule_yield.specs.declared.scratch.Marks.{Marks}
use Rattle.vc_rule_table_grains.specs.Marking.{AreMarks, had_in}
use Rattle.vc_rule_table_grains.proofs.MarkLemmas.{no_marks}
use Rattle.vc_rule_table_grains.proofs.marks.mark.Goals as goal

pub returns-in_default : goal.returns-in_default
returns-in_default g c =
    let own = columns_of c.args.var c.args.columns.now in
    let possible = is_possible_in c.args.plan.now (g.V.View.seen c.args.view.now)
    (other_columns c.args.var c.args.columns.now) in
    subst (λ (o : Option Marks). AreMarks c.args.domain.now own possible c.args.rows.now (had_in o))
    (sym c.in_default.is)
    (no_marks c.args.domain.now own possible c.args.rows.now)
