-- The value is concluded from why no other grain is left, and what was cited before stays.
use Rattle.std.proofs.Common.{ap, take, sym, ◌∙◌}
use Rattle.vc_plan.specs.declared.atoms.Atom.TheVariants.{Is}
use Rattle.vc_base.specs.Rounds.{atoms}
use Rattle.vc_plan.specs.Answers.{value_atoms}
use Rattle.vc_rule_yield.specs.Yielding.{with_cites}
use Rattle.vc_rule_premises.specs.Saying.{said_from, taken}
use Rattle.vc_rule_grains.specs.Confining.{why_left}
use Rattle.vc_rule_grains.proofs.SayLemmas.{value_said}
use Rattle.vc_rule_grains.proofs.confining.conclude_value.Goals as goal

pub returns-then-not-stands : goal.returns-then-not-stands
returns-then-not-stands g c =
    let seen = g.V.View.seen c.args.view.now in
    let why = why_left c.args.plan.now seen c.args.var (g.T.Test.passes c.args.test.now) in
    value_said seen why c.args.out.now c.cite_why_left.new.out c.conclude.new.self c.keep_cited.new.self
    (Is c.args.var c.in-Some.value)
    (sym c.stands.ensures ∙ c.if-not-stands.true) c.cite_why_left.ensures c.conclude.ensures
    (c.keep_cited.ensures
    ∙ ap (λ n. with_cites c.conclude.new.self (take n c.conclude.new.self.cites)) c.cited_count-count.ensures)
    ∙ ap (λ a. taken c.args.out.now (said_from seen why (atoms (value_atoms c.args.var a))))
    (sym c.in-Some.is ∙ c.only_value.ensures)
