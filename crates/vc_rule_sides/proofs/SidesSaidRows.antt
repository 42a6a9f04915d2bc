-- What comparisons and equations say with what it follows from, computed. Each variable has the grains 1, 2 .. 3 and 4
-- of whole
-- numbers; term 2 is 2.4, term 3 is 9 and term 4 the sum of both variables.
use Rattle.std.proofs.Common.{◌≡◌, ℕ, pos, List, [], ◌∷◌, refl}
use Rattle.std.specs.Prelude.{◌≢◌, Box}
use Rattle.std.specs.declared.alloc.Global.{Global}
use Rattle.vc_plan.specs.declared.atoms.Atom.{Atom}
use Rattle.vc_plan.specs.declared.atoms.Atom.TheVariants.{Out, Is}
use Rattle.vc_plan.specs.declared.conditions.Relation.{Relation}
use Rattle.vc_plan.specs.declared.conditions.Relation.TheVariants.{Unequal, AtMost}
use Rattle.vc_plan.specs.declared.plans.Plan.{Plan}
use Rattle.vc_plan.specs.declared.plans.Var.{Var}
use Rattle.vc_plan.specs.declared.rules.Kind.TheVariants.{Never}
use Rattle.vc_plan.specs.declared.terms.Operator.TheVariants.{Plus}
use Rattle.vc_plan.specs.declared.terms.Term.TheVariants.{Literal, Read, Joined'}
use Rattle.vc_plan.specs.Seen.{seen_of}
use Rattle.vc_plan.proofs.PlanRows.Models.{empty, root, open_var, fixed_var, rule, whole, number, three_grains}
use Rattle.vc_rule_premises.specs.Saying.{Said, clashing, concluding}
use Rattle.vc_rule_sides.specs.Comparing.{compare_said}
use Rattle.vc_rule_sides.specs.Equating.{equate_said}

abbrev plan_of : Box (Unit {0}) Global → List Var → Plan
plan_of p vars = record empty {
  domains = three_grains ∷ three_grains ∷ [];
  slots = root ∷ [];
  vars = vars;
  terms = Read 0 ∷ Read 1 ∷ Literal (number (pos 2_400_000)) ∷ Literal (whole 9) ∷ Joined' Plus p (Read 0) p (Read 1)
      ∷ [];
}

abbrev open_vars : List Var
open_vars = open_var 0 ∷ open_var 1 ∷ []

abbrev fixed_vars : List Var
fixed_vars = fixed_var 0 ∷ fixed_var 1 ∷ []

abbrev comparing : Box (Unit {0}) Global → List Var → List ℕ → Relation → List Atom → Said
comparing p vars inferred r set = compare_said (plan_of p vars) (seen_of set) (rule 0 inferred Never) r 0 1

abbrev equating : Box (Unit {0}) Global → List ℕ → ℕ → ℕ → List Atom → Said
equating p inferred a b set = equate_said (plan_of p open_vars) (seen_of set) (rule 0 inferred Never) a b

-- a comparison: grains are out by the value of the other side alone, on either side
by_the_right : (p : Box (Unit {0}) Global) → comparing p open_vars (0 ∷ 1 ∷ []) AtMost (Is 1 (whole 2) ∷ [])
    ≡ concluding ((record { atom = Out 0 2; premises = Is 1 (whole 2) ∷ [] }) ∷ [])
by_the_right p = refl

by_the_left : (p : Box (Unit {0}) Global) → comparing p open_vars (0 ∷ 1 ∷ []) AtMost (Is 0 (whole 3) ∷ [])
    ≡ concluding ((record { atom = Out 1 0; premises = Is 0 (whole 3) ∷ [] }) ∷ [])
by_the_left p = refl

-- a grain with a number that may stand so stays
a_grain_in_part : (p : Box (Unit {0}) Global)
    → comparing p open_vars (0 ∷ []) Unequal (Is 1 (whole 2) ∷ []) ≡ concluding []
a_grain_in_part p = refl

-- what isn't inferred isn't narrowed, and what stands isn't said again
not_inferred : (p : Box (Unit {0}) Global) → comparing p open_vars (1 ∷ []) AtMost (Is 1 (whole 2) ∷ []) ≡ concluding []
not_inferred p = refl

what_is_new : (p : Box (Unit {0}) Global)
    → comparing p open_vars (0 ∷ []) AtMost (Out 0 2 ∷ Is 1 (whole 2) ∷ []) ≡ concluding []
what_is_new p = refl

-- where the net may not exclude grains: the value of the one that is left, or a clash, also by the grains that are out
one_is_left : (p : Box (Unit {0}) Global) → comparing p fixed_vars (0 ∷ []) AtMost (Is 1 (whole 1) ∷ [])
    ≡ concluding ((record { atom = Is 0 (whole 1); premises = Is 1 (whole 1) ∷ [] }) ∷ [])
one_is_left p = refl

one_is_not_out : (p : Box (Unit {0}) Global)
    → comparing p fixed_vars (0 ∷ []) AtMost (Out 0 1 ∷ Out 0 2 ∷ Is 1 (whole 3) ∷ [])
    ≡ concluding ((record { atom = Is 0 (whole 1); premises = Is 1 (whole 3) ∷ (Out 0 1 ∷ []) }) ∷ [])
one_is_not_out p = refl

none_is_left : (p : Box (Unit {0}) Global) → comparing p fixed_vars (0 ∷ []) AtMost (Out 0 0 ∷ Is 1 (whole 1) ∷ [])
    ≡ clashing (Is 1 (whole 1) ∷ (Out 0 0 ∷ []))
none_is_left p = refl

-- a relation that doesn't hold is a clash by the values of both sides
does_not_hold : (p : Box (Unit {0}) Global)
    → comparing p open_vars (0 ∷ []) AtMost (Is 0 (whole 4) ∷ Is 1 (whole 1) ∷ [])
    ≡ clashing (Is 0 (whole 4) ∷ (Is 1 (whole 1) ∷ []))
does_not_hold p = refl

by_one_side : (p : Box (Unit {0}) Global)
    → comparing p open_vars (0 ∷ []) AtMost (Is 0 (whole 4) ∷ Is 1 (whole 1) ∷ []) ≢ clashing (Is 1 (whole 1) ∷ [])
by_one_side p e = cc

-- an equation: the value of the other side, rounded to whole numbers
equal_to_the_right : (p : Box (Unit {0}) Global) → equating p (0 ∷ []) 0 1 (Is 1 (whole 3) ∷ [])
    ≡ concluding ((record { atom = Is 0 (whole 3); premises = Is 1 (whole 3) ∷ [] }) ∷ [])
equal_to_the_right p = refl

rounded_literal : (p : Box (Unit {0}) Global)
    → equating p (1 ∷ []) 2 1 [] ≡ concluding ((record { atom = Is 1 (whole 2); premises = [] }) ∷ [])
rounded_literal p = refl

-- in no grain: a clash by the other side alone
in_no_grain : (p : Box (Unit {0}) Global)
    → equating p (0 ∷ []) 0 4 (Is 0 (whole 4) ∷ Is 1 (whole 1) ∷ []) ≡ clashing (Is 0 (whole 4) ∷ (Is 1 (whole 1) ∷ []))
in_no_grain p = refl

literal_in_no_grain : (p : Box (Unit {0}) Global) → equating p (0 ∷ []) 0 3 (Is 0 (whole 4) ∷ []) ≡ clashing []
literal_in_no_grain p = refl

-- values that differ: a clash where no side may be narrowed, else two values of each side, of which the net tells a
-- clash
they_differ : (p : Box (Unit {0}) Global)
    → equating p [] 0 1 (Is 0 (whole 4) ∷ Is 1 (whole 1) ∷ []) ≡ clashing (Is 0 (whole 4) ∷ (Is 1 (whole 1) ∷ []))
they_differ p = refl

both_are_narrowed : (p : Box (Unit {0}) Global) → equating p (0 ∷ 1 ∷ []) 0 1 (Is 0 (whole 4) ∷ Is 1 (whole 1) ∷ [])
    ≡ concluding ((record { atom = Is 0 (whole 1); premises = Is 1 (whole 1) ∷ [] })
    ∷ ((record { atom = Is 1 (whole 4); premises = Is 0 (whole 4) ∷ [] }) ∷ []))
both_are_narrowed p = refl

all_that_a_side_reads : (p : Box (Unit {0}) Global)
    → equating p [] 4 3 (Is 0 (whole 4) ∷ Is 1 (whole 1) ∷ []) ≡ clashing (Is 0 (whole 4) ∷ (Is 1 (whole 1) ∷ []))
all_that_a_side_reads p = refl

-- with the fewer decimals they agree
they_agree : (p : Box (Unit {0}) Global) → equating p [] 0 2 (Is 0 (whole 2) ∷ []) ≡ concluding []
they_agree p = refl
