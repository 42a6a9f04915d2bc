-- Things before the slot's are of lower slots, and those behind them of higher ones.
use Rattle.std.proofs.Common.{◌-◌, length, sym, ◌∙◌, arith}
use Rattle.std.specs.Prelude.{slice_get}
use Rattle.vc_rule_readings.specs.Finding.{is_at}
use Rattle.vc_rule_readings.proofs.FindingLemmas.{other_slot}
use Rattle.vc_rule_readings.proofs.RangeLemmas.{find_from, find_past}
use Rattle.vc_rule_readings.proofs.finding.number_at.Goals as goal

pub loop-number-init : goal.loop-number-init
loop-number-init g c =
    let slot_of = g.T.AtSlot.slot_of in
    let characteristic_of = g.T.AtSlot.characteristic_of in
    let things = c.args.things.now in
    find_from (λ k. is_at slot_of characteristic_of c.args.slot c.args.characteristic (slice_get things k))
    c.begin_of-begin.result (length things) c.begin_of-begin.ensures.bound
    (λ k low. other_slot slot_of characteristic_of c.args.slot c.args.characteristic (slice_get things k)
    (λ x e same. let lower = c.begin_of-begin.ensures.before k x e low in omega (arith, lower, same)))

pub returns : goal.returns
returns g c =
    let slot_of = g.T.AtSlot.slot_of in
    let characteristic_of = g.T.AtSlot.characteristic_of in
    let things = c.args.things.now in
    let number = c.loop-number.number in
    sym (find_past (λ k. is_at slot_of characteristic_of c.args.slot c.args.characteristic (slice_get things k))
    (length things - number) number
    (λ k past. other_slot slot_of characteristic_of c.args.slot c.args.characteristic (slice_get things k)
    (λ x e same.
    let higher = c.end_of-end.ensures.after k x e (omega (arith, past, c.loop-number-test.false)) in
    omega (arith, higher, same))))
    ∙ c.loop-number.invariant
