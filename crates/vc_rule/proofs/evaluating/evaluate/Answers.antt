-- The yield has room for what the rule says, so it holds that.
use Rattle.std.proofs.Common.{sym, ◌∙◌, ap}
use Rattle.std.specs.Prelude.{slice_get}
use Rattle.vc_rule.proofs.FoundLemmas.{rooms_kept, rule_held}
use Rattle.vc_rule.proofs.evaluating.evaluate.Goals as goal

pub returns-in-Some-clause-found : goal.returns-in-Some-clause-found
returns-in-Some-clause-found g c =
    rule_held c.args.plan.now (g.V.View.seen c.args.view.now) c.args.rule c.in-Some.rule.now c.args.out.now.rooms
    c.clear.new.self c.say_if_it_acts.new.out
    (ap (λ xs. slice_get xs c.args.rule) (sym c.as_slice.ensures)
    ∙ c.in-Some.ensures.some) c.requires.room c.clear.ensures c.say_if_it_acts.ensures

pub returns-in-Some-clause-rooms : goal.returns-in-Some-clause-rooms
returns-in-Some-clause-rooms g c =
    ap (λ y. y.rooms) c.say_if_it_acts.ensures
    ∙ (rooms_kept c.args.plan.now (g.V.View.seen c.args.view.now) c.in-Some.rule.now c.clear.new.self
    ∙ ap (λ y. y.rooms) c.clear.ensures)
