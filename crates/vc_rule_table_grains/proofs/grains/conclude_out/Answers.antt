use Rattle.std.proofs.Common.{ℕ, ap, take, ◌∙◌}
use Rattle.std.specs.List.{filter}
use Rattle.vc_plan.specs.declared.atoms.Atom.TheVariants.{Out}
use Rattle.vc_rule_yield.specs.Yielding.{with_cites}
use Rattle.vc_rule_premises.proofs.SayingLaws.{conclusion_taken}
use Rattle.vc_rule_table_grains.specs.Calls.{has, reasons_of}
use Rattle.vc_rule_table_grains.proofs.grains.conclude_out.Goals as goal

pub returns : goal.returns
returns g c =
    let call = c.args.marked.now.call.now in
    conclusion_taken c.args.out.now c.cite_having.new.out c.conclude.new.self c.keep_cited.new.self
    (reasons_of g.V.View.seen call (filter (has call c.args.grain) call.rows.now)) (Out call.var c.args.grain)
    c.cite_having.ensures c.conclude.ensures
    (c.keep_cited.ensures
    ∙ ap (λ (n : ℕ). with_cites c.conclude.new.self (take n c.conclude.new.self.cites)) c.cited_count-cited.ensures)
