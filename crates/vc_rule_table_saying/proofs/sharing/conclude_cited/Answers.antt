use Rattle.std.proofs.Common.{ℕ, ap, take, ◌∙◌}
use Rattle.vc_plan.specs.declared.atoms.Atom.TheVariants.{Is}
use Rattle.vc_plan.specs.TableRows.{other_columns}
use Rattle.vc_rule_yield.specs.Yielding.{with_cites}
use Rattle.vc_rule_premises.proofs.SayingLaws.{conclusion_taken}
use Rattle.vc_rule_table.specs.Reasons.{rows_reasons}
use Rattle.vc_rule_table_saying.proofs.sharing.conclude_cited.Goals as goal

pub returns : goal.returns
returns g c =
    let call = c.args.call.now in
    conclusion_taken c.args.out.now c.cite_rows.new.out c.conclude.new.self c.keep_cited.new.self
    (rows_reasons call.plan.now (g.V.View.seen call.view.now) (other_columns c.args.var call.columns.now) call.rows.now)
    (Is c.args.var c.args.value)
    c.cite_rows.ensures c.conclude.ensures
    (c.keep_cited.ensures
    ∙ ap (λ (n : ℕ). with_cites c.conclude.new.self (take n c.conclude.new.self.cites)) c.cited_count-cited.ensures)
