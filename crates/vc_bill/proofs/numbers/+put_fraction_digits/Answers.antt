-- The first digit is put as the definition says, and the others after it.
use Rattle.std.proofs.Common.{◌≡◌, ◌<◌, ◌*◌, ◌%◌, ◌^◌, ◌-◌, suc, arith, subst, sym}
use Rattle.std.proofs.Math.Nat.{mod-lt, pow-suc}
use Rattle.vc_value.proofs.NumeralLemmas.{some_place}
use Rattle.vc_value.proofs.PowerLemmas.{ten_pow_pos}
use Rattle.vc_bill.proofs.numbers.+put_fraction_digits.Goals as goal

pub digit_of-requires-clause-some : goal.digit_of-requires-clause-some
digit_of-requires-clause-some t c =
    subst (λ unit. 0 < unit) (sym c.pow-unit.ensures) (ten_pow_pos (c.args.places - 1))

pub digit_of-requires-clause-one : goal.digit_of-requires-clause-one
digit_of-requires-clause-one t c =
    let some : 0 < c.args.units = omega (arith, c.if-units-eq0.false) in
    let place : 0 < c.args.places = some_place c.args.places c.args.units some c.requires.below in
    let next : suc (c.args.places - 1) ≡ c.args.places = omega (arith, place) in
    let below : c.args.units < 10 ^ suc (c.args.places - 1) =
    subst (λ n. c.args.units < 10 ^ n) (sym next) c.requires.below in
    subst (λ unit. c.args.units < unit * 10) (sym c.pow-unit.ensures)
    (subst (λ n. c.args.units < n) (pow-suc 10 (c.args.places - 1)) below)

pub nonzero_rem-units : goal.nonzero_rem-units
nonzero_rem-units t c = subst (λ unit. 0 < unit) (sym c.pow-unit.ensures) (ten_pow_pos (c.args.places - 1))

pub put_fraction_digits-requires : goal.put_fraction_digits-requires
put_fraction_digits-requires t c =
    let some : 0 < c.args.units = omega (arith, c.if-units-eq0.false) in
    let place : 0 < c.args.places = some_place c.args.places c.args.units some c.requires.below in (
      omega (arith, place, c.decreases),
      (
        omega (arith, c.requires.few),
        subst (λ unit. c.args.units % unit < 10 ^ (c.args.places - 1)) (sym c.pow-unit.ensures)
            (mod-lt c.args.units (ten_pow_pos (c.args.places - 1))),
      ),
    )
