-- How values and grains stand in relations, and which literals are rounded.
use Rattle.std.proofs.Common.{◌≡◌, ℕ, pos, Bool, true, false, List, [], ◌∷◌, map, refl}
use Rattle.std.specs.Prelude.{Some, ◌≢◌, not, Box}
use Rattle.std.specs.Ordering.{int_eq}
use Rattle.std.specs.declared.alloc.Global.{Global}
use Rattle.vc_base.specs.Rounds.{Given, clash, atoms}
use Rattle.vc_value.specs.declared.value.Value.{Value}
use Rattle.vc_plan.specs.declared.atoms.Atom.{Atom}
use Rattle.vc_plan.specs.declared.atoms.Atom.TheVariants.{Here, Out, Is}
use Rattle.vc_plan.specs.declared.conditions.Kleene.TheVariants.{True}
use Rattle.vc_plan.specs.declared.conditions.Piece.TheVariants.{Stretch}
use Rattle.vc_plan.specs.declared.conditions.Relation.{Relation}
use Rattle.vc_plan.specs.declared.conditions.Relation.TheVariants.{Equal, Unequal, Less, AtMost, Greater, AtLeast}
use Rattle.vc_plan.specs.declared.rules.Kind.TheVariants.{Among, Compare, Equate}
use Rattle.vc_plan.specs.declared.rules.Restriction.TheVariants.{Against}
use Rattle.vc_plan.specs.declared.terms.Function.TheVariants.{Sign}
use Rattle.vc_plan.specs.declared.terms.Operator.TheVariants.{Over}
use Rattle.vc_plan.specs.declared.terms.Term.{Term}
use Rattle.vc_plan.specs.declared.terms.Term.TheVariants.{Literal, Read, Joined'}
use Rattle.vc_plan.specs.Gives.{by_rule, gives}
use Rattle.vc_plan.specs.Numbers.{applied}
use Rattle.vc_plan.specs.Pieces.{is_inside, opposite, relates, turned}
use Rattle.vc_plan.specs.Seen.{seen_of}
use Rattle.vc_plan.specs.Truth.{compared}
use Rattle.vc_plan.proofs.PlanRows.Models.{fixed_pair, from_to, number, open_pair, rule, users, whole}

-- the sign of 1.5 is 1, not 1.5
sign : applied Sign (pos 1_500_000) ≡ pos 1_000_000
sign = refl

sign_and_size : int_eq (applied Sign (pos 1_500_000)) (pos 1_500_000) ≢ true
sign_and_size e = cc

-- the six relations of 1 to 2, of 2 to 2 and of 3 to 2
abbrev relations : List Relation
relations = Equal ∷ Unequal ∷ Less ∷ AtMost ∷ Greater ∷ AtLeast ∷ []

abbrev of_numbers : ℕ → ℕ → List Bool
of_numbers m n = map (λ r. relates r (whole m) (whole n)) relations

one_to_two : of_numbers 1 2 ≡ false ∷ true ∷ true ∷ true ∷ false ∷ false ∷ []
one_to_two = refl

two_to_two : of_numbers 2 2 ≡ true ∷ false ∷ false ∷ true ∷ false ∷ true ∷ []
two_to_two = refl

three_to_two : of_numbers 3 2 ≡ false ∷ true ∷ false ∷ false ∷ true ∷ true ∷ []
three_to_two = refl

equal_are_unequal : compared Unequal (Some (whole 2)) (Some (whole 2)) ≢ True
equal_are_unequal e = cc

-- turned round, a relation holds of the second to the first; its opposite holds where it doesn't
abbrev turned_of : ℕ → ℕ → List Bool
turned_of m n = map (λ r. relates (turned r) (whole m) (whole n)) relations

abbrev opposite_of : ℕ → ℕ → List Bool
opposite_of m n = map (λ r. not (relates (opposite r) (whole m) (whole n))) relations

turned_round : (turned_of 2 1 ≡ of_numbers 1 2) × (turned_of 2 2 ≡ of_numbers 2 2) × (turned_of 2 3 ≡ of_numbers 3 2)
turned_round = (refl, refl, refl)

opposite_to : (opposite_of 1 2 ≡ of_numbers 1 2) × (opposite_of 2 2 ≡ of_numbers 2 2)
    × (opposite_of 3 2 ≡ of_numbers 3 2)
opposite_to = (refl, refl, refl)

turned_as_opposite : relates (turned Less) (whole 2) (whole 2) ≢ true
turned_as_opposite e = cc

-- all of the grain 2 .. 3 against 1, 2, 3 and 4: `<` and `<=` go by its right end, `>` and `>=` by its left one
abbrev of_grain : Relation → List Bool
of_grain r = map (λ n. is_inside r (whole n) (Stretch (from_to 2 3))) (1 ∷ 2 ∷ 3 ∷ 4 ∷ [])

grain_equal : of_grain Equal ≡ false ∷ false ∷ false ∷ false ∷ []
grain_equal = refl

grain_unequal : of_grain Unequal ≡ true ∷ false ∷ false ∷ true ∷ []
grain_unequal = refl

grain_less : of_grain Less ≡ false ∷ false ∷ false ∷ true ∷ []
grain_less = refl

grain_at_most : of_grain AtMost ≡ false ∷ false ∷ true ∷ true ∷ []
grain_at_most = refl

grain_greater : of_grain Greater ≡ true ∷ false ∷ false ∷ false ∷ []
grain_greater = refl

grain_at_least : of_grain AtLeast ≡ true ∷ true ∷ false ∷ false ∷ []
grain_at_least = refl

less_by_left_end : of_grain Less ≢ false ∷ false ∷ true ∷ true ∷ []
less_by_left_end e = cc

at_least_by_right_end : of_grain AtLeast ≢ true ∷ true ∷ true ∷ false ∷ []
at_least_by_right_end e = cc

-- the first variable, which is restrictable and has the grains 1, 2 .. 3 and 4, against 1.4 and 3.6: only behind `=` is
-- a
-- literal rounded
abbrev against : Relation → ℕ → Given Atom
against r millionths =
    gives (open_pair [] (rule 0 (0 ∷ []) (Among 0 (Against r (number (pos millionths)))))) (users []) (by_rule 0)
    (seen_of (Here 0 ∷ []))

at_most_3_6 : against AtMost 3_600_000 ≡ atoms (Out 0 2 ∷ [])
at_most_3_6 = refl

at_most_rounded : against AtMost 3_600_000 ≢ atoms []
at_most_rounded e = cc

less_than_1_4 : against Less 1_400_000 ≡ atoms (Out 0 1 ∷ Out 0 2 ∷ [])
less_than_1_4 = refl

less_rounded : against Less 1_400_000 ≢ atoms (Out 0 0 ∷ Out 0 1 ∷ Out 0 2 ∷ [])
less_rounded e = cc

greater_than_3_6 : against Greater 3_600_000 ≡ atoms (Out 0 0 ∷ Out 0 1 ∷ [])
greater_than_3_6 = refl

at_least_1_4 : against AtLeast 1_400_000 ≡ atoms (Out 0 0 ∷ [])
at_least_1_4 = refl

unequal_to_1_4 : against Unequal 1_400_000 ≡ atoms []
unequal_to_1_4 = refl

equal_to_1_4 : against Equal 1_400_000 ≡ atoms (Out 0 1 ∷ Out 0 2 ∷ [])
equal_to_1_4 = refl

-- the second variable in each relation to the first, which is 2; the sides stand the other way round
abbrev on_the_right : Relation → Given Atom
on_the_right r =
    gives (open_pair (Read 0 ∷ Read 1 ∷ []) (rule 0 (1 ∷ []) (Compare r 0 1))) (users []) (by_rule 0)
    (seen_of (Is 0 (whole 2) ∷ Here 0 ∷ []))

two_below : on_the_right Less ≡ atoms (Out 1 0 ∷ [])
two_below = refl

two_at_most : on_the_right AtMost ≡ atoms (Out 1 0 ∷ [])
two_at_most = refl

two_above : on_the_right Greater ≡ atoms (Out 1 1 ∷ Out 1 2 ∷ [])
two_above = refl

two_at_least : on_the_right AtLeast ≡ atoms (Out 1 2 ∷ [])
two_at_least = refl

-- where no side is a lone variable, equal means to 6 decimals: 1 / 3 is 0.333333, and 2 isn't 3 / 2
abbrev equates : Box (Unit {0}) Global → Value → Value → Term → Given Atom
equates p a b other =
    gives (fixed_pair (Joined' Over p (Read 0) p (Literal (whole 1)) ∷ other ∷ []) (rule 0 [] (Equate 0 1))) (users [])
    (by_rule 0)
    (seen_of (Is 0 a ∷ Is 1 b ∷ Here 0 ∷ []))

abbrev by : Box (Unit {0}) Global → ℕ → Term
by p n = Joined' Over p (Read 1) p (Literal (whole n))

half_apart : (p : Box (Unit {0}) Global) → equates p (whole 2) (whole 3) (by p 2) ≡ clash
half_apart p = refl

half_agrees : (p : Box (Unit {0}) Global) → equates p (whole 2) (whole 4) (by p 2) ≡ atoms []
half_agrees p = refl

to_whole_numbers : (p : Box (Unit {0}) Global) → equates p (whole 2) (whole 3) (by p 2) ≢ atoms []
to_whole_numbers p e = cc

sixth_decimal : (p : Box (Unit {0}) Global)
    → gives (fixed_pair (by p 3 ∷ Literal (number (pos 333_334)) ∷ []) (rule 0 [] (Equate 0 1))) (users []) (by_rule 0)
    (seen_of (Is 1 (whole 1) ∷ Here 0 ∷ [])) ≡ clash
sixth_decimal p = refl
