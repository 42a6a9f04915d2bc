-- Each digit is put as the definition says.
use Rattle.std.proofs.Common.{◌≡◌, ◌≤◌, ◌<◌, ◌-◌, ◌++◌, suc, ap, sym, ◌∙◌, arith}
use Rattle.std.proofs.Math.Nat.{mod-lt}
use Rattle.vc_value.specs.Numerals.{fraction_digits}
use Rattle.vc_value.proofs.PowerLemmas.{ten_pow_pos}
use Rattle.vc_value.proofs.NumeralLemmas.{digit_step, some_place}
use Rattle.vc_value.proofs.numeral.put_digits.Goals as goal

pub loop-units-preserved : goal.loop-units-preserved
loop-units-preserved c =
    let text = c.loop-units.text in
    let units = c.loop-units.units in
    let places = c.loop-units.places - 1 in
    let place : 0 < c.loop-units.places
    = some_place c.loop-units.places units c.loop-units-test.true c.loop-units.invariant.below in
    let same : suc places ≡ c.loop-units.places = omega (arith, place) in
    let few : places ≤ 6 = omega arith in
    rw (c.in_ok-append.ensures.ok, c.digit_of.ensures, c.pow-unit.ensures) record {
      so_far = sym (digit_step text places units c.loop-units-test.true)
          ∙ ap (λ n. text ++ fraction_digits n units) same ∙ c.loop-units.invariant.so_far;
      below = mod-lt units (ten_pow_pos places);
      few = few;
    }
