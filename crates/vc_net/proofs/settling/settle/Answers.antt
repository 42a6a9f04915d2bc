-- The work ends where nobody is left, or where the giver at hand contradicts.
use Rattle.std.proofs.Common.{◌≡◌, ◌∙◌, ap, sym, subst}
use Rattle.vc_net_agenda.specs.Agendas.{Awaited, meant}
use Rattle.vc_net.specs.Ending.{IsSettled}
use Rattle.vc_net_going.specs.Working.{asking_next, with_agenda}
use Rattle.vc_net_going.specs.declared.breaker.Breaker.{Breaker}
use Rattle.vc_net.specs.Spending.{Pays}
use Rattle.vc_net.proofs.CostLaws.{broken_blames, calm_rests}
use Rattle.vc_net.proofs.EndLaws.{work_is_broken, work_is_done}
use Rattle.vc_net_going.proofs.TurnLaws.{begins_on}
use Rattle.vc_net.proofs.SpendingLaws.{break_pays, end_pays, turn_spends}
use Rattle.vc_net.proofs.settling.settle.Goals as goal

pub returns-in-Broken-clause-settled : goal.returns-in-Broken-clause-settled
returns-in-Broken-clause-settled g c =
    subst (λ agenda. IsSettled c.args.plan.now c.args.sources.now (with_agenda c.turn.new.work agenda))
    (sym c.push.ensures)
    (work_is_broken c.args.plan.now c.args.sources.now _ c.turn.new.work
    (meant c.in-Some.giver) c.in-Broken.ensures.ends)

pub returns-clause-settled : goal.returns-clause-settled
returns-clause-settled g c =
    let none = c.in_default.ensures.none in
    let work = c.loop-giver.work in
    subst (λ agenda. IsSettled c.args.plan.now c.args.sources.now (with_agenda work agenda)) (sym none.1)
    (work_is_done c.args.plan.now c.args.sources.now work c.loop-giver.invariant.0 c.loop-giver.invariant.2 none.0)

pub loop-giver-preserved : goal.loop-giver-preserved
loop-giver-preserved g c =
    let plan = c.args.plan.now in
    let work = c.loop-giver.work in
    let now = with_agenda work c.pop.new.self in
    let giver = meant c.in-Some.giver in
    let taken : work ≡ asking_next now giver = ap (with_agenda work) c.in-Some.ensures.some in
    let gone = c.in-Done.ensures.ends in (
      gone.going,
      c.turn.ensures.rooms ∙ c.loop-giver.invariant.1,
      ap (λ (b : Breaker). b.culprit) gone.calm ∙ c.loop-giver.invariant.2,
      begins_on c.args.work.now.log.steps work.log.steps c.turn.new.work.log.steps c.loop-giver.invariant.3 gone.grown,
      turn_spends plan c.args.sources.now c.args.work.now work now c.turn.new.work giver c.args.steps.now
          c.loop-giver.steps c.turn.new.steps taken c.turn.ensures.counted gone c.loop-giver.invariant.4,
    )

pub returns-in-Broken-clause-paid : goal.returns-in-Broken-clause-paid
returns-in-Broken-clause-paid g c =
    let plan = c.args.plan.now in
    let work = c.loop-giver.work in
    let now = with_agenda work c.pop.new.self in
    let giver = meant c.in-Some.giver in
    let taken : work ≡ asking_next now giver = ap (with_agenda work) c.in-Some.ensures.some in
    subst (λ agenda. Pays plan c.args.work.now (with_agenda c.turn.new.work agenda) c.args.steps.now c.turn.new.steps)
    (sym c.push.ensures)
    (break_pays plan c.args.sources.now c.args.work.now work now c.turn.new.work giver c.args.steps.now
    c.loop-giver.steps c.turn.new.steps taken c.turn.ensures.counted c.in-Broken.ensures.ends c.loop-giver.invariant.4)

pub returns-clause-paid : goal.returns-clause-paid
returns-clause-paid g c =
    let work = c.loop-giver.work in
    subst (λ agenda. Pays c.args.plan.now c.args.work.now (with_agenda work agenda) c.args.steps.now c.loop-giver.steps)
    (sym c.in_default.ensures.none.1)
    (end_pays c.args.plan.now c.args.work.now work c.args.steps.now c.loop-giver.steps c.loop-giver.invariant.4)

pub returns-in-Broken-clause-rest : goal.returns-in-Broken-clause-rest
returns-in-Broken-clause-rest g c =
    broken_blames c.args.plan.now c.args.sources.now _ _ c.turn.new.work _ c.in-Broken.ensures.ends

pub returns-clause-rest : goal.returns-clause-rest
returns-clause-rest g c =
    let none = c.in_default.ensures.none in
    calm_rests c.loop-giver.work.breaker.culprit _ (ap (λ (a : Awaited). a.givers) none.1 ∙ none.0)
