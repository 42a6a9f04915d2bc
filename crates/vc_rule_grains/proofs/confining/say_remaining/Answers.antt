-- By how many grains are left that pass.
use Rattle.std.proofs.Common.{ap, sym, ◌∙◌}
use Rattle.vc_plan.specs.Restrictions.{left_with}
use Rattle.vc_rule_premises.specs.Saying.{said_from, taken}
use Rattle.vc_rule_grains.specs.Confining.{why_left}
use Rattle.vc_rule_grains.specs.Remaining.{remaining_of, left_by}
use Rattle.vc_rule_grains.specs.declared.remaining.Remaining.TheVariants.{Nothing, One, Several}
use Rattle.vc_rule_grains.proofs.SayLemmas.{remaining_is}
use Rattle.vc_rule_grains.proofs.confining.say_remaining.Goals as goal

pub returns-in-Nothing : goal.returns-in-Nothing
returns-in-Nothing g c =
    let plan = c.args.plan.now in
    let seen = g.V.View.seen c.args.view.now in
    let test = g.T.Test.passes c.args.test.now in
    c.clash_from_left.ensures
    ∙ ap (λ given. taken c.args.out.now (said_from seen (why_left plan seen c.args.var test) given))
    (sym (remaining_is plan c.args.var (left_with plan seen c.args.var test) Nothing
    (sym c.in-Nothing.is
    ∙ (c.remaining_of.ensures ∙ ap (λ a. remaining_of (left_by plan seen c.args.var a test)) c.value.ensures))))

pub returns-in-One : goal.returns-in-One
returns-in-One g c =
    let plan = c.args.plan.now in
    let seen = g.V.View.seen c.args.view.now in
    let test = g.T.Test.passes c.args.test.now in
    c.conclude_value.ensures
    ∙ ap (λ given. taken c.args.out.now (said_from seen (why_left plan seen c.args.var test) given))
    (sym (remaining_is plan c.args.var (left_with plan seen c.args.var test) (One c.in-One.grain)
    (sym c.in-One.is ∙ (c.remaining_of.ensures
    ∙ ap (λ a. remaining_of (left_by plan seen c.args.var a test)) c.value.ensures))))

pub returns-in-Several : goal.returns-in-Several
returns-in-Several g c =
    let plan = c.args.plan.now in
    let seen = g.V.View.seen c.args.view.now in
    let test = g.T.Test.passes c.args.test.now in
    ap (λ given. taken c.args.out.now (said_from seen (why_left plan seen c.args.var test) given))
    (sym (remaining_is plan c.args.var (left_with plan seen c.args.var test) Several
    (sym c.in-Several.is
    ∙ (c.remaining_of.ensures ∙ ap (λ a. remaining_of (left_by plan seen c.args.var a test)) c.value.ensures))))
