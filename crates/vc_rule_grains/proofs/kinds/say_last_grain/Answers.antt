-- By how many grains aren't out.
use Rattle.std.proofs.Common.{ap, sym, ◌∙◌}
use Rattle.vc_base.specs.Rounds.{atoms}
use Rattle.vc_rule_premises.specs.Saying.{said_from, taken}
use Rattle.vc_rule_grains.specs.Kinds.{why_last}
use Rattle.vc_rule_grains.specs.declared.remaining.Remaining.TheVariants.{Nothing, One, Several}
use Rattle.vc_rule_grains.proofs.SayLemmas.{last_is}
use Rattle.vc_rule_grains.proofs.kinds.say_last_grain.Goals as goal

pub returns-in-Nothing : goal.returns-in-Nothing
returns-in-Nothing g c =
    let seen = g.V.View.seen c.args.view.now in
    ap (λ given. taken c.args.out.now (said_from seen (why_last c.args.plan.now seen c.args.var) (atoms given)))
    (sym (last_is c.args.plan.now seen c.args.var Nothing (sym c.in-Nothing.is ∙ c.remaining_of.ensures)))

pub returns-in-One : goal.returns-in-One
returns-in-One g c =
    let seen = g.V.View.seen c.args.view.now in
    c.conclude_last.ensures
    ∙ ap (λ given. taken c.args.out.now (said_from seen (why_last c.args.plan.now seen c.args.var) (atoms given)))
    (sym (last_is c.args.plan.now seen c.args.var (One c.in-One.grain) (sym c.in-One.is ∙ c.remaining_of.ensures)))

pub returns-in-Several : goal.returns-in-Several
returns-in-Several g c =
    let seen = g.V.View.seen c.args.view.now in
    ap (λ given. taken c.args.out.now (said_from seen (why_last c.args.plan.now seen c.args.var) (atoms given)))
    (sym (last_is c.args.plan.now seen c.args.var Several (sym c.in-Several.is ∙ c.remaining_of.ensures)))
