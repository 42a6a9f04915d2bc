-- The value is concluded from the slot and the grains that are out, and what was cited before stays.
use Rattle.std.proofs.Common.{ap, take, sym, ◌∙◌}
use Rattle.vc_plan.specs.declared.atoms.Atom.TheVariants.{Is}
use Rattle.vc_base.specs.Rounds.{atoms}
use Rattle.vc_plan.specs.Answers.{value_atoms}
use Rattle.vc_rule_yield.specs.Yielding.{with_cites}
use Rattle.vc_rule_premises.specs.Saying.{said_from, taken}
use Rattle.vc_rule_grains.specs.Kinds.{why_last}
use Rattle.vc_rule_grains.proofs.SayLemmas.{value_said}
use Rattle.vc_rule_grains.proofs.kinds.conclude_last.Goals as goal

pub returns-then-not-stands : goal.returns-then-not-stands
returns-then-not-stands g c =
    let seen = g.V.View.seen c.args.view.now in
    let why = why_last c.args.plan.now seen c.args.var in
    value_said seen why c.args.out.now c.cite_why_last.new.out c.conclude.new.self c.keep_cited.new.self
    (Is c.args.var c.in-Some.value)
    (sym c.stands.ensures ∙ c.if-not-stands.true) c.cite_why_last.ensures c.conclude.ensures
    (c.keep_cited.ensures
    ∙ ap (λ n. with_cites c.conclude.new.self (take n c.conclude.new.self.cites)) c.cited_count-count.ensures)
    ∙ ap (λ a. taken c.args.out.now (said_from seen why (atoms (value_atoms c.args.var a))))
    (sym c.in-Some.is ∙ c.only_value.ensures)
