-- Decimals count up to six.
use Rattle.std.proofs.Common.{◌≡◌, ℕ, ◌*◌, ◌^◌, ◌≤◌, min, ap, arith, refl, unsigned_abs}
use Rattle.vc_value.specs.Grains.{unit_of}
use Rattle.vc_value.specs.declared.value.Value.{Value}
use Rattle.vc_value.specs.declared.value.Value.TheVariants.{Text, Num}
use Rattle.vc_value.specs.Millionths.{nearest, with_sign}
use Rattle.vc_plan.specs.declared.conditions.Relation.{Relation}
use Rattle.vc_plan.specs.declared.conditions.Relation.TheVariants.{Equal, Unequal, Less, AtMost, Greater, AtLeast}
use Rattle.vc_plan.specs.Restrictions.{literal_for}

unit_capped : (n : ℕ) → unit_of (min n 6) ≡ unit_of n
unit_capped n = ap (λ k. 10 ^ k) (omega arith)

pub literal_capped : (r : Relation) (n : ℕ) (a : Value) → literal_for r (min n 6) a ≡ literal_for r n a
literal_capped Equal n (Text t) = refl
literal_capped Equal n (Num a) =
    ap (λ u. Num (record { millionths = with_sign a.millionths (nearest (unsigned_abs a.millionths) u * u) }))
    (unit_capped n)
literal_capped Unequal n a = refl
literal_capped Less n a = refl
literal_capped AtMost n a = refl
literal_capped Greater n a = refl
literal_capped AtLeast n a = refl

pub few_decimals : (n : ℕ) → min n 6 ≤ 6
few_decimals n = omega arith
