-- What decides conditions, computed. Variable 0 has text 0, variable 1 has text 1, and variable 2 has no value.
use Rattle.std.proofs.Common.{◌≡◌, true, false, [], ◌∷◌, refl}
use Rattle.std.specs.Prelude.{Box, None, Some, nat_lt, if◌then◌else◌}
use Rattle.std.specs.declared.alloc.Global.{Global}
use Rattle.vc_value.specs.declared.value.Value.TheVariants.{Text}
use Rattle.vc_plan.specs.declared.atoms.Atom.TheVariants.{Is}
use Rattle.vc_plan.specs.declared.conditions.Condition.{Condition}
use Rattle.vc_plan.specs.declared.conditions.Condition.TheVariants.{Always, Compared, IsIn, Specified, Not', And', Or'}
use Rattle.vc_plan.specs.declared.conditions.Piece.TheVariants.{OneText}
use Rattle.vc_plan.specs.declared.conditions.Relation.TheVariants.{Equal}
use Rattle.vc_plan.specs.declared.terms.Term.TheVariants.{Read}
use Rattle.vc_plan.specs.Readings.{Reading, net_reading}
use Rattle.vc_plan.specs.Seen.{Seen}
use Rattle.vc_rule_premises.specs.Citing.{values_of, deciding_if}
use Rattle.vc_rule_premises.specs.Deciding.{deciding}

abbrev seen : Seen
seen = record { here = λ i. true; out = λ v g. false; value = λ v. if nat_lt v 2 then Some (Text v) else None }

abbrev at : Reading
at = net_reading seen

-- true by variable 0, false by variable 1, unknown by variable 2
abbrev holds : Condition
holds = IsIn 0 (OneText 0 ∷ [])

abbrev fails : Condition
fails = IsIn 1 (OneText 0 ∷ [])

abbrev open_yet : Condition
open_yet = IsIn 2 (OneText 0 ∷ [])

-- an AND is true by both sides
and_true : (p q : Box (Unit {0}) Global) → deciding at true (And' p holds q (Not' p fails)) ≡ 0 ∷ 1 ∷ []
and_true p q = refl

-- and false by the first side that is false, whatever the other is
and_false_left : (p q : Box (Unit {0}) Global) → deciding at false (And' p fails q holds) ≡ 1 ∷ []
and_false_left p q = refl

and_false_right : (p q : Box (Unit {0}) Global) → deciding at false (And' p holds q fails) ≡ 1 ∷ []
and_false_right p q = refl

and_false_beside_unknown : (p q : Box (Unit {0}) Global) → deciding at false (And' p open_yet q fails) ≡ 1 ∷ []
and_false_beside_unknown p q = refl

and_false_twice : (p q : Box (Unit {0}) Global) → deciding at false (And' p fails q (Not' p holds)) ≡ 1 ∷ []
and_false_twice p q = refl

-- an OR the other way
or_true_left : (p q : Box (Unit {0}) Global) → deciding at true (Or' p holds q fails) ≡ 0 ∷ []
or_true_left p q = refl

or_true_right : (p q : Box (Unit {0}) Global) → deciding at true (Or' p open_yet q holds) ≡ 0 ∷ []
or_true_right p q = refl

or_false : (p q : Box (Unit {0}) Global) → deciding at false (Or' p fails q (Not' p holds)) ≡ 1 ∷ 0 ∷ []
or_false p q = refl

-- a NOT turns what is asked
not_and : (p q : Box (Unit {0}) Global) → deciding at true (Not' p (And' p fails q holds)) ≡ 1 ∷ []
not_and p q = refl

-- a comparison by both its sides, what is asked for a value by that variable, no condition by nothing
both_sides : deciding at true (Compared Equal (Read 0) (Read 1)) ≡ 0 ∷ 1 ∷ []
both_sides = refl

asked_for : deciding at true (Specified 1) ≡ 1 ∷ []
asked_for = refl

always : deciding at true Always ≡ []
always = refl

without_condition : deciding_if seen None ≡ []
without_condition = refl

-- cited are the values that are there
values : values_of seen (0 ∷ 2 ∷ 1 ∷ []) ≡ Is 0 (Text 0) ∷ Is 1 (Text 1) ∷ []
values = refl
