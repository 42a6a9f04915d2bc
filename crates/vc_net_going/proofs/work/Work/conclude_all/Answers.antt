-- Each conclusion may come when its turn is there, and the turn goes on.
use Rattle.std.proofs.Common.{◌≡◌, length, arith, subst}
use Rattle.vc_net_agenda.specs.Agendas.{meant}
use Rattle.vc_net_going.proofs.TurnLaws.{IsTurning, conclusion_there, next_may_come, turn_begins, turn_breaks_off}
use Rattle.vc_net_going.proofs.TurnLaws.{turn_ends, turn_goes_on}
use Rattle.vc_net_going.proofs.work.Work.conclude_all.Goals as goal

pub loop-place-init : goal.loop-place-init
loop-place-init c =
    (turn_begins c.args.plan.now c.args.sources.now (meant c.args.giver) c.args.self.now c.requires.going, omega arith)

pub conclude-requires-clause-may : goal.conclude-requires-clause-may
conclude-requires-clause-may c =
    next_may_come c.args.plan.now c.args.sources.now (meant c.args.giver) c.args.self.now c.loop-place.self
    c.args.out.now.found c.loop-place.place (record { atom = c.atom.result; premises = c.premises.result.now })
    c.requires.valid c.requires.going c.requires.found (conclusion_there _ _ _ c.atom.ensures c.premises.ensures)
    c.loop-place.invariant.0

pub loop-place-preserved : goal.loop-place-preserved
loop-place-preserved c = (
  turn_goes_on c.args.plan.now c.args.sources.now (meant c.args.giver) c.args.self.now c.loop-place.self
      c.args.out.now.found c.loop-place.place (record { atom = c.atom.result; premises = c.premises.result.now })
      c.requires.valid c.requires.going c.requires.found (conclusion_there _ _ _ c.atom.ensures c.premises.ensures)
      c.loop-place.invariant.0 c.conclude.new.self c.in-Done.ensures,
  omega (arith, c.loop-place-test.true),
)

pub returns-in-Broken : goal.returns-in-Broken
returns-in-Broken c =
    turn_breaks_off c.args.plan.now c.args.sources.now (meant c.args.giver) c.args.self.now c.loop-place.self
    c.conclude.new.self c.loop-place.place c.loop-place.invariant.0 c.in-Broken.ensures

pub returns : goal.returns
returns c =
    let all = c.args.out.now.found in
    let last : c.loop-place.place ≡ length all
    = omega (arith, c.loop-place.invariant.1, c.loop-place-test.false, c.count-count.ensures) in
    turn_ends c.args.plan.now c.args.sources.now (meant c.args.giver) c.args.self.now c.loop-place.self all
    c.requires.found
    (subst (λ n. IsTurning c.args.plan.now c.args.sources.now (meant c.args.giver) c.args.self.now
    c.loop-place.self n) last
    c.loop-place.invariant.0)
