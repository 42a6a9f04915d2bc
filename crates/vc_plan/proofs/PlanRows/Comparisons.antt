-- What comparisons and equations give, at variables with the grains 1, 2 .. 3 and 4.
use Rattle.std.proofs.Common.{◌≡◌, pos, List, [], ◌∷◌, refl}
use Rattle.std.specs.Prelude.{Some, ◌≢◌, Box}
use Rattle.std.specs.declared.alloc.Global.{Global}
use Rattle.vc_base.specs.Rounds.{Given, clash, atoms, broken}
use Rattle.vc_value.specs.declared.table_header.Domain.TheVariants.{Nums}
use Rattle.vc_plan.specs.declared.atoms.Atom.{Atom}
use Rattle.vc_plan.specs.declared.atoms.Atom.TheVariants.{Here, Out, Is}
use Rattle.vc_plan.specs.declared.conditions.Relation.{Relation}
use Rattle.vc_plan.specs.declared.conditions.Relation.TheVariants.{Unequal, Less, AtMost, Greater}
use Rattle.vc_plan.specs.declared.plans.Plan.{Plan}
use Rattle.vc_plan.specs.declared.rules.Kind.TheVariants.{Compare, Equate}
use Rattle.vc_plan.specs.declared.terms.Operator.TheVariants.{Over, Times}
use Rattle.vc_plan.specs.declared.terms.Term.{Term}
use Rattle.vc_plan.specs.declared.terms.Term.TheVariants.{Literal, Read, Joined'}
use Rattle.vc_plan.specs.Bounds.{place_bound, out_at, is_at}
use Rattle.vc_plan.specs.Gives.{by_rule, gives}
use Rattle.vc_plan.specs.Seen.{seen_of}
use Rattle.vc_plan.specs.Settle.{settlement_of}
use Rattle.vc_plan.proofs.PlanRows.Models.{empty, root, open_var, open_pair, fixed_pair, rule, last, users, whole}
use Rattle.vc_plan.proofs.PlanRows.Models.{number, from_to}

abbrev given : Plan → List Atom → Given Atom
given plan set = gives plan (users []) (by_rule 0) (seen_of set)

-- both variables, the first and half the second, the first doubled and the second
abbrev both : List Term
both = Read 0 ∷ Read 1 ∷ []

abbrev half : Box (Unit {0}) Global → List Term
half p = Read 0 ∷ Joined' Over p (Read 1) p (Literal (whole 2)) ∷ []

abbrev double : Box (Unit {0}) Global → List Term
double p = Joined' Times p (Literal (whole 2)) p (Read 0) ∷ Read 1 ∷ []

-- the first variable in a relation to the second: inferred and restrictable, inferred and not, not inferred
abbrev narrows : Relation → Plan
narrows r = open_pair both (rule 0 (0 ∷ []) (Compare r 0 1))

abbrev infers : Relation → Plan
infers r = fixed_pair both (rule 0 (0 ∷ []) (Compare r 0 1))

abbrev checks : Relation → Plan
checks r = fixed_pair both (rule 0 [] (Compare r 0 1))

-- at most 2: the grain wholly above is out, and 2 .. 3 stays
at_most : given (narrows AtMost) (Is 1 (whole 2) ∷ Here 0 ∷ []) ≡ atoms (Out 0 2 ∷ [])
at_most = refl

partly_outside : given (narrows AtMost) (Is 1 (whole 2) ∷ Here 0 ∷ []) ≢ atoms (Out 0 1 ∷ Out 0 2 ∷ [])
partly_outside e = cc

below : given (narrows Less) (Is 1 (whole 2) ∷ Here 0 ∷ []) ≡ atoms (Out 0 1 ∷ Out 0 2 ∷ [])
below = refl

unequal : given (narrows Unequal) (Is 1 (whole 4) ∷ Here 0 ∷ []) ≡ atoms (Out 0 2 ∷ [])
unequal = refl

-- nothing as long as the other side has no value
unknown : given (narrows AtMost) (Here 0 ∷ []) ≡ atoms []
unknown = refl

-- the inferred side may stand on the right
on_the_right : given (open_pair both (rule 0 (1 ∷ []) (Compare Greater 0 1))) (Is 0 (whole 2) ∷ Here 0 ∷ [])
    ≡ atoms (Out 1 1 ∷ Out 1 2 ∷ [])
on_the_right = refl

not_turned : given (open_pair both (rule 0 (1 ∷ []) (Compare Greater 0 1))) (Is 0 (whole 2) ∷ Here 0 ∷ []) ≢ atoms
    (Out 1 0 ∷ Out 1 1 ∷ [])
not_turned e = cc

-- not restrictable: the value of the only grain left that isn't wholly outside
value : given (infers Less) (Is 1 (whole 2) ∷ Here 0 ∷ []) ≡ atoms (Is 0 (whole 1) ∷ [])
value = refl

none_inside : given (infers Less) (Is 1 (whole 1) ∷ Here 0 ∷ []) ≡ clash
none_inside = refl

-- not inferred: a clash where both have values and it is false
fails : given (checks AtMost) (Is 0 (whole 3) ∷ Is 1 (whole 2) ∷ Here 0 ∷ []) ≡ clash
fails = refl

passes : given (checks AtMost) (Is 0 (whole 2) ∷ Is 1 (whole 2) ∷ Here 0 ∷ []) ≡ atoms []
passes = refl

-- a side that isn't alone is no inferred side
not_alone : (p : Box (Unit {0}) Global)
    → given (open_pair (double p) (rule 0 (0 ∷ []) (Compare AtMost 0 1))) (Is 1 (whole 1) ∷ Here 0 ∷ []) ≡ atoms []
not_alone p = refl

-- equal: the other side's value, rounded; a half away from zero
equal : (p : Box (Unit {0}) Global)
    → given (open_pair (half p) (rule 0 (0 ∷ []) (Equate 0 1))) (Is 1 (whole 3) ∷ Here 0 ∷ [])
    ≡ atoms (Is 0 (whole 2) ∷ [])
equal p = refl

-- no clash where both have values and a side is inferred: the value that follows collides
two_values : (p : Box (Unit {0}) Global)
    → given (open_pair (half p) (rule 0 (0 ∷ []) (Equate 0 1))) (Is 0 (whole 1) ∷ Is 1 (whole 3) ∷ Here 0 ∷ [])
    ≡ atoms (Is 0 (whole 2) ∷ [])
two_values p = refl

-- a clash where no grain holds it: there is no 0
no_grain : (p : Box (Unit {0}) Global)
    → given (open_pair (Read 0 ∷ Joined' Over p (Read 1) p (Literal (whole 9)) ∷ []) (rule 0 (0 ∷ []) (Equate 0 1)))
    (Is 1 (whole 3) ∷ Here 0 ∷ [])
    ≡ clash
no_grain p = refl

-- not inferred: a clash where they differ after rounding to the decimals of a lone variable, none here
agree : (p : Box (Unit {0}) Global)
    → given (fixed_pair (half p) (rule 0 [] (Equate 0 1))) (Is 0 (whole 2) ∷ Is 1 (whole 3) ∷ Here 0 ∷ []) ≡ atoms []
agree p = refl

exactly : (p : Box (Unit {0}) Global)
    → given (fixed_pair (half p) (rule 0 [] (Equate 0 1))) (Is 0 (whole 2) ∷ Is 1 (whole 3) ∷ Here 0 ∷ []) ≢ clash
exactly p e = cc

differ : (p : Box (Unit {0}) Global)
    → given (fixed_pair (half p) (rule 0 [] (Equate 0 1))) (Is 0 (whole 3) ∷ Is 1 (whole 3) ∷ Here 0 ∷ []) ≡ clash
differ p = refl

-- two inferred sides of different decimals: 1.5 becomes 2, and that comes back
abbrev unlike : Plan
unlike = record empty {
  domains = Nums 1 (from_to 0 9 ∷ []) ∷ Nums 0 (from_to 0 9 ∷ []) ∷ [];
  slots = root ∷ [];
  vars = open_var 0 ∷ open_var 1 ∷ [];
  terms = both;
  rules = rule 0 (0 ∷ 1 ∷ []) (Equate 0 1) ∷ last 0 ∷ last 1 ∷ [];
}

comes_back : settlement_of unlike (users (Some (whole 1) ∷ [])) ≢ broken
comes_back e = cc

comes_back_rounded : settlement_of unlike (users (Some (number (pos 1_500_000)) ∷ [])) ≡ broken
comes_back_rounded = refl

-- premises: the slot and both variables; the grains of an inferred side too, where it isn't restrictable
restrictable_bound : place_bound (narrows AtMost) (out_at 0 2) ≡ 3
restrictable_bound = refl

fixed_bound : place_bound (infers AtMost) (is_at 0) ≡ 6
fixed_bound = refl

equate_bound : (p : Box (Unit {0}) Global)
    → place_bound (open_pair (half p) (rule 0 (0 ∷ []) (Equate 0 1))) (is_at 0) ≡ 3
equate_bound p = refl

-- a variable read twice counts once
once : (p : Box (Unit {0}) Global)
    → place_bound (open_pair (Read 0 ∷ Joined' Times p (Read 1) p (Read 1) ∷ []) (rule 0 (0 ∷ []) (Equate 0 1)))
    (is_at 0) ≢ 4
once p e = cc
