-- What may stand to a value as `=` asks.
use Rattle.std.proofs.Common.{◌≡◌, ℤ, Bool, true, false, not, ◌||◌, refl, sym, subst, arith}
use Rattle.std.specs.Prelude.{◌==◌, ◌&&◌, IfSome, Option, None, Some}
use Rattle.std.specs.Int.Signed.{le_z, lt_z}
use Rattle.std.proofs.lemmas.Int.{ints}
use Rattle.vc_value.specs.declared.value.Value.{Value}
use Rattle.vc_value.specs.declared.value.Value.TheVariants.{Text, Num}
use Rattle.vc_plan.specs.declared.conditions.Piece.TheVariants.{OneText, Stretch}
use Rattle.vc_plan.specs.declared.conditions.Relation.{Relation}
use Rattle.vc_plan.specs.declared.conditions.Relation.TheVariants.{Equal}
use Rattle.vc_plan_values.specs.Values.{stored_value}
use Rattle.vc_plan_values.proofs.StoredLemmas.{stored_is}
use Rattle.vc_rule_grains.specs.Finding.{PassesOnly}
use Rattle.vc_rule_sides.specs.Comparing.{may_relate}

-- at `=` what is stored is all that may stand so
pub equal_only : (r : Relation) (a : Value) (o : Option Value) → r ≡ Equal → o ≡ stored_value a
    → IfSome o (PassesOnly (may_relate r a))
equal_only r a None e f = tt
equal_only r a (Some b) e f =
    subst (λ q. PassesOnly (may_relate q a) b) (sym e)
    (subst (PassesOnly (may_relate Equal a)) (stored_is a b (sym f)) (equals a))
  where
    within : (x a y : ℤ) → not (lt_z y a || lt_z a x) ≡ true → (le_z x a && le_z a y) ≡ true
    within x a y h = grind (arith, ints)

    twice : (b : Bool) → not (not b) ≡ true → b ≡ true
    twice true h = refl
    twice false h = absurd (cc)

    equals : (a : Value) → PassesOnly (may_relate Equal a) a
    equals (Text t) (OneText s) h = twice (s == t) h
    equals (Text t) (Stretch grain) h = absurd (cc)
    equals (Num n) (OneText s) h = absurd (cc)
    equals (Num n) (Stretch grain) h = within grain.low.millionths n.millionths grain.high.millionths h
