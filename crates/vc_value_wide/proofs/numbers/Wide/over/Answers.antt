-- The quotient by a number is that by its size, with the sign of both.
use Rattle.std.proofs.Common.{◌≡◌, ◌≢◌, ap, pos, suc, zero, ◌*ℤ◌, ◌*◌, ◌∙◌, refl, unsigned_abs, Some, ℤ, ℕ, negsuc}
use Rattle.std.proofs.Common.{rules, of_z, arith, FitsSigned}
use mir.Syntax.{w128}
use Rattle.std.proofs.lemmas.Int.{to_z-of_z, unsigned_abs-mul, fits_signed_from_abs}
use Rattle.vc_value.specs.Millionths.{one, quotient, divided, turned_by}
use Rattle.vc_value_wide.proofs.numbers.Wide.over.Goals as goal

quotient_is : (a b r : ℤ) → b ≢ pos 0 → r ≡ divided (turned_by b (a *ℤ pos one)) (unsigned_abs b)
    → Some r ≡ quotient a b
quotient_is a (pos zero) r other e = absurd (other refl)
quotient_is a (pos (suc n)) r other e = ap Some e
quotient_is a (negsuc n) r other e = ap Some e

same_size : (turned : ℤ) (size : ℕ) (a b r : ℤ) → size ≡ unsigned_abs b → turned ≡ turned_by b (a *ℤ pos one)
    → r ≡ divided turned size
    → r ≡ divided (turned_by b (a *ℤ pos one)) (unsigned_abs b)
same_size turned size a b r s t e = e ∙ (ap (λ n. divided turned n) s ∙ ap (λ z. divided z (unsigned_abs b)) t)

pub returns-clause-value : goal.returns-clause-value
returns-clause-value c =
    let quotient_fits : FitsSigned w128 c.divided.result = search rules in
    let turned_fits : FitsSigned w128 c.turned_by-turned.result = search rules in
    let other_fits : FitsSigned w128 c.args.other.millionths = search rules in
    let self_fits : FitsSigned w128 c.args.self.millionths = search rules in
    let size : unsigned_abs (c.args.self.millionths *ℤ pos one) ≡ unsigned_abs c.args.self.millionths * one
    = unsigned_abs-mul c.args.self.millionths (pos one) in
    let scaled_fits : FitsSigned w128 (c.args.self.millionths *ℤ pos one)
    = fits_signed_from_abs w128 (c.args.self.millionths *ℤ pos one) (omega (arith, c.requires, size)) in
    let sizes = simp to_z-of_z at c.unsigned_abs.ensures.value in
    let turned = simp to_z-of_z at c.turned_by-turned.ensures.value in
    let divided_is = simp to_z-of_z at c.divided.ensures.value in
    simp to_z-of_z (quotient_is c.args.self.millionths c.args.other.millionths c.divided.result
    (λ e. c.if-other-eq0.false (ap (of_z w128) e))
    (same_size c.turned_by-turned.result c.unsigned_abs.result c.args.self.millionths c.args.other.millionths
    c.divided.result sizes turned divided_is))
