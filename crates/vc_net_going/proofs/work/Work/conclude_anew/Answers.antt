-- The conclusion comes where what stands stays clear with it, and else breaks the net.
use Rattle.std.proofs.Common.{◌≡◌, sym, ◌∙◌, ap, subst}
use Rattle.vc_net_agenda.specs.Agendas.{meant}
use Rattle.vc_net_log.specs.Logs.{facts_of}
use Rattle.vc_net_standing.specs.declared.standing.Fact.{Fact}
use Rattle.vc_net_standing.specs.Standing.{Stood}
use Rattle.vc_net_going.specs.Breaking.{collided}
use Rattle.vc_net_going.specs.Going.{HasCome, IsBrokenOff}
use Rattle.vc_net_going.specs.Working.{with_breaker, with_conclusion}
use Rattle.vc_net_going.proofs.BreakLaws.{fact_breaks}
use Rattle.vc_net_going.proofs.GoingLaws.{comes, has_place, has_room}
use Rattle.vc_net_going.proofs.work.Work.conclude_anew.Goals as goal

pub add-requires-clause-free : goal.add-requires-clause-free
add-requires-clause-free c =
    has_place c.args.plan.now c.args.sources.now c.args.self.now (meant c.args.giver) c.args.atom c.args.premises.now
    c.requires.going c.requires.may (sym c.may_come.ensures ∙ c.if-may_come.true) c.requires.fresh

pub add-requires-clause-few : goal.add-requires-clause-few
add-requires-clause-few c =
    has_room c.args.plan.now c.args.sources.now c.args.self.now (meant c.args.giver) c.args.atom c.args.premises.now
    c.requires.going c.requires.may (sym c.may_come.ensures ∙ c.if-may_come.true)

pub returns-then-may_come : goal.returns-then-may_come
returns-then-may_come c =
    let plan = c.args.plan.now in
    let work = c.args.self.now in
    subst (λ w. HasCome plan c.args.sources.now (meant c.args.giver) c.args.atom work w)
    (sym (c.add.ensures
    ∙ ap (λ o. let fact : Fact = record { atom = c.args.atom; origin = o } in
    with_conclusion plan c.args.sources.now work fact c.args.premises.now)
    c.origin_of-origin.ensures))
    (comes plan c.args.sources.now work (meant c.args.giver) c.args.atom c.args.premises.now c.requires.going
    c.requires.may
    (sym c.may_come.ensures ∙ c.if-may_come.true) c.requires.fresh)

pub returns-else-may_come : goal.returns-else-may_come
returns-else-may_come c =
    let plan = c.args.plan.now in
    let work = c.args.self.now in
    let premises = c.args.premises.now in
    let told : c.keep_fact.new.self
    ≡ (let fact : Fact = record { atom = c.args.atom; origin = c.origin_of-origin.result } in
    collided plan (facts_of work.log.steps) work.breaker fact premises)
    = c.keep_fact.ensures
    ∙ ap (λ (s : Stood). let fact : Fact = record { atom = c.args.atom; origin = c.origin_of-origin.result } in
    collided plan s.facts work.breaker fact premises) c.standing.ensures in
    subst (λ b. IsBrokenOff plan c.args.sources.now (meant c.args.giver) work (with_breaker work b))
    (sym (told
    ∙ ap (λ o. let fact : Fact = record { atom = c.args.atom; origin = o } in
    collided plan (facts_of work.log.steps) work.breaker fact premises) c.origin_of-origin.ensures))
    (fact_breaks plan c.args.sources.now work (meant c.args.giver) c.args.atom premises c.requires.valid c.requires.fits
    c.requires.going c.requires.may (sym c.may_come.ensures ∙ c.if-may_come.false))
