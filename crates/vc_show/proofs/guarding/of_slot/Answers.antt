-- The preconditions of a slot are those between where they begin and where they end.
use Rattle.std.proofs.Common.{sym, arith}
use Rattle.vc_show.specs.Places.{slot_of_guard}
use Rattle.vc_show.proofs.GuardLemmas.{none_of_key, stretch_of_key}
use Rattle.vc_show.proofs.guarding.of_slot.Goals as goal

pub returns-then-start-end : goal.returns-then-start-end
returns-then-start-end c =
    let key = slot_of_guard c.args.plan.now in
    let s = c.first_of-start.result in
    let e = c.end_of-end.result in
    sym (stretch_of_key key c.args.slot c.args.guards.now s e (omega (arith, c.if-start-end.true))
    c.end_of-end.ensures.bound
    c.first_of-start.ensures.before c.first_of-start.ensures.after c.end_of-end.ensures.before
    c.end_of-end.ensures.after)

pub returns-else-start-end : goal.returns-else-start-end
returns-else-start-end c =
    let key = slot_of_guard c.args.plan.now in
    let s = c.first_of-start.result in
    let e = c.end_of-end.result in
    sym (none_of_key key c.args.slot c.args.guards.now s e (omega (arith, c.if-start-end.false))
    c.first_of-start.ensures.before c.end_of-end.ensures.after)
