-- The pair is the atom with what is first at odds with it.
use Rattle.std.proofs.Common.{sym, ◌∙◌, ap}
use Rattle.std.specs.Prelude.{None, Some, ◌∷◌, []}
use Rattle.vc_rule_yield.specs.Filling.{with_items}
use Rattle.vc_net_blame.proofs.CollidingLemmas.{pair_put}
use Rattle.vc_net_blame.proofs.colliding.put_pair.Goals as goal

pub returns-in-Some : goal.returns-in-Some
returns-in-Some c =
    c.push-in-Some.ensures ∙ (ap (λ list. with_items list (c.args.atom ∷ [])) c.push.ensures
    ∙ pair_put c.args.plan.now c.args.facts.now c.args.atom c.args.premises.now (Some c.in-Some.other)
    (sym c.in-Some.is ∙ c.first_at_odds.ensures))

pub returns-in_default : goal.returns-in_default
returns-in_default c =
    pair_put c.args.plan.now c.args.facts.now c.args.atom c.args.premises.now None
    (sym c.in_default.is ∙ c.first_at_odds.ensures)
