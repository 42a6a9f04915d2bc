-- The atom is concluded from the other side's values, and what was cited before stays.
use Rattle.std.proofs.Common.{ap, take, sym, ◌∙◌}
use Rattle.vc_rule_yield.specs.Yielding.{with_cites}
use Rattle.vc_rule_grains.proofs.SayLemmas.{value_said}
use Rattle.vc_rule_sides.specs.Comparing.{values_in}
use Rattle.vc_rule_sides.proofs.equating.say_atom.Goals as goal

pub returns-then-not-stands : goal.returns-then-not-stands
returns-then-not-stands g c =
    let seen = g.V.View.seen c.args.view.now in
    value_said seen (values_in c.args.plan.now seen c.args.other) c.args.out.now c.cite_values.new.out
    c.conclude.new.self c.keep_cited.new.self c.args.atom
    (sym c.stands.ensures ∙ c.if-not-stands.true) c.cite_values.ensures c.conclude.ensures
    (c.keep_cited.ensures
    ∙ ap (λ n. with_cites c.conclude.new.self (take n c.conclude.new.self.cites)) c.cited_count-count.ensures)
