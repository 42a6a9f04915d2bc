-- What is found by rules, computed. Two variables have the grains 1, 2 .. 3 and 4 of whole numbers; condition 1 is
-- that the
-- second is 4, and condition 2 that it isn't. Slot 1 is a line of the root, and slot 2 one of slot 1.
use Rattle.std.proofs.Common.{◌≡◌, ℕ, pos, List, [], ◌∷◌, refl}
use Rattle.std.specs.Prelude.{Box, Some}
use Rattle.std.specs.declared.alloc.Global.{Global}
use Rattle.vc_plan.specs.declared.atoms.Atom.{Atom}
use Rattle.vc_plan.specs.declared.atoms.Atom.TheVariants.{Here, Out, Is}
use Rattle.vc_plan.specs.declared.conditions.Condition.TheVariants.{Always, IsIn, Not'}
use Rattle.vc_plan.specs.declared.conditions.Piece.TheVariants.{Stretch}
use Rattle.vc_plan.specs.declared.conditions.Relation.TheVariants.{Equal, AtMost}
use Rattle.vc_plan.specs.declared.plans.Plan.{Plan}
use Rattle.vc_plan.specs.declared.plans.Var.{Var}
use Rattle.vc_plan.specs.declared.rules.Kind.TheVariants.{Among, Equate, Never, Last, Line}
use Rattle.vc_plan.specs.declared.rules.Restriction.TheVariants.{Against}
use Rattle.vc_plan.specs.declared.rules.Rule.{Rule}
use Rattle.vc_plan.specs.declared.terms.Term.TheVariants.{Read}
use Rattle.vc_plan.specs.Seen.{seen_of}
use Rattle.vc_plan.proofs.PlanRows.Models.{empty, root, open_var, fixed_var, rule, own_rule, whole, number, from_to}
use Rattle.vc_plan.proofs.PlanRows.Models.{three_grains}
use Rattle.vc_rule_yield.specs.Yielding.{Conclusion}
use Rattle.vc_rule_premises.specs.Saying.{Said, clashing, concluding}
use Rattle.vc_rule.specs.Evaluating.{found_at}
use Rattle.vc_rule.specs.Rooms.{rooms_of}

abbrev plan_of : Box (Unit {0}) Global → List Var → Rule → Plan
plan_of p vars r = record empty {
  domains = three_grains ∷ three_grains ∷ [];
  slots = root ∷ record { parent = Some 0; depth = 1; object = 0; line = 0 } ∷ record {
    parent = Some 1;
    depth =
        2;
    object = 0;
    line = 1;
  } ∷ [];
  vars = vars;
  conditions = Always ∷ IsIn 1 (Stretch (from_to 4 4) ∷ []) ∷ Not' p (IsIn 1 (Stretch (from_to 4 4) ∷ [])) ∷ [];
  terms = Read 0 ∷ Read 1 ∷ [];
  rules = r ∷ [];
}

abbrev open_vars : List Var
open_vars = open_var 0 ∷ open_var 1 ∷ []

abbrev fixed_vars : List Var
fixed_vars = fixed_var 0 ∷ fixed_var 1 ∷ []

abbrev found : Box (Unit {0}) Global → List Var → Rule → List Atom → Said
found p vars r set = found_at (plan_of p vars r) (seen_of set) 0

abbrev from : List Atom → Atom → Conclusion
from premises a = record { atom = a; premises = premises }

abbrev at_most_three : ℕ → List ℕ → Rule
at_most_three condition inferred = rule condition inferred (Among 0 (Against AtMost (whole 3)))

-- a rule that acts: why it acts comes first, and that the root is here isn't cited
excludes : (p : Box (Unit {0}) Global) → found p open_vars (at_most_three 1 (0 ∷ [])) (Here 0 ∷ Is 1 (whole 4) ∷ [])
    ≡ concluding (from (Is 1 (whole 4) ∷ []) (Out 0 2) ∷ [])
excludes p = refl

-- it doesn't act where its condition is unknown, or false, or its slot isn't here
is_unknown : (p : Box (Unit {0}) Global) → found p open_vars (at_most_three 1 (0 ∷ [])) (Here 0 ∷ []) ≡ concluding []
is_unknown p = refl

is_unknown_too : (p : Box (Unit {0}) Global) → found p open_vars (at_most_three 2 (0 ∷ [])) (Here 0 ∷ Out 1 2 ∷ [])
    ≡ concluding []
is_unknown_too p = refl

is_false : (p : Box (Unit {0}) Global) → found p open_vars (at_most_three 2 (0 ∷ [])) (Here 0 ∷ Is 1 (whole 4) ∷ [])
    ≡ concluding []
is_false p = refl

is_not_here : (p : Box (Unit {0}) Global) → found p open_vars (at_most_three 1 (0 ∷ [])) (Is 1 (whole 4) ∷ [])
    ≡ concluding []
is_not_here p = refl

is_not_there : (p : Box (Unit {0}) Global) → found_at (plan_of p open_vars (at_most_three 0 (0 ∷ [])))
    (seen_of (Here 0 ∷ [])) 1 ≡ concluding []
is_not_there p = refl

-- what isn't inferred is left alone, but for a clash; where no grain is to be excluded the one that is left follows
not_inferred : (p : Box (Unit {0}) Global) → found p open_vars (at_most_three 0 []) (Here 0 ∷ []) ≡ concluding []
not_inferred p = refl

clashes : (p : Box (Unit {0}) Global) → found p open_vars (at_most_three 1 [])
    (Here 0 ∷ Is 0 (whole 4) ∷ Is 1 (whole 4) ∷ [])
    ≡ clashing (Is 1 (whole 4) ∷ (Is 0 (whole 4) ∷ []))
clashes p = refl

one_is_left : (p : Box (Unit {0}) Global) → found p fixed_vars (at_most_three 0 (0 ∷ []))
    (Here 0 ∷ Out 0 1 ∷ Out 0 2 ∷ [])
    ≡ concluding (from (Out 0 1 ∷ []) (Is 0 (whole 1)) ∷ [])
one_is_left p = refl

a_stretch_is_left : (p : Box (Unit {0}) Global)
    → found p fixed_vars (at_most_three 0 (0 ∷ [])) (Here 0 ∷ Out 0 0 ∷ []) ≡ concluding []
a_stretch_is_left p = refl

none_is_left : (p : Box (Unit {0}) Global) → found p fixed_vars (at_most_three 0 (0 ∷ []))
    (Here 0 ∷ Out 0 0 ∷ Out 0 1 ∷ [])
    ≡ clashing (Out 0 0 ∷ (Out 0 1 ∷ []))
none_is_left p = refl

-- a literal counts rounded at `=`; of one that is in no grain all is out
rounded : (p : Box (Unit {0}) Global) → found p open_vars
    (rule 0 (0 ∷ []) (Among 0 (Against Equal (number (pos 1_400_000))))) (Here 0 ∷ [])
    ≡ concluding (from [] (Out 0 1) ∷ (from [] (Out 0 2) ∷ []))
rounded p = refl

in_no_grain : (p : Box (Unit {0}) Global) → found p open_vars (rule 0 (0 ∷ []) (Among 0 (Against Equal (whole 9))))
    (Here 0 ∷ Out 0 0 ∷ [])
    ≡ concluding (from [] (Out 0 1) ∷ (from [] (Out 0 2) ∷ []))
in_no_grain p = refl

-- a last grain's value follows from the others, where its slot is here; a stretch has none
last_grain : (p : Box (Unit {0}) Global) → found p fixed_vars (own_rule 0 (Last 0)) (Here 0 ∷ Out 0 0 ∷ Out 0 1 ∷ [])
    ≡ concluding (from (Out 0 0 ∷ (Out 0 1 ∷ [])) (Is 0 (whole 4)) ∷ [])
last_grain p = refl

last_stretch : (p : Box (Unit {0}) Global) → found p fixed_vars (own_rule 0 (Last 0))
    (Here 0 ∷ Out 0 0 ∷ Out 0 2 ∷ []) ≡ concluding []
last_stretch p = refl

last_elsewhere : (p : Box (Unit {0}) Global) → found p fixed_vars (own_rule 0 (Last 0)) (Out 0 0 ∷ Out 0 1 ∷ [])
    ≡ concluding []
last_elsewhere p = refl

-- a line follows from its parent, and from what its selection condition follows from
line_of_root : (p : Box (Unit {0}) Global) → found p open_vars (own_rule 0 (Line 1)) (Here 0 ∷ [])
    ≡ concluding (from [] (Here 1) ∷ [])
line_of_root p = refl

line_below : (p : Box (Unit {0}) Global) → found p open_vars (own_rule 1 (Line 2))
    (Here 0 ∷ Here 1 ∷ Is 1 (whole 4) ∷ [])
    ≡ concluding (from (Is 1 (whole 4) ∷ (Here 1 ∷ [])) (Here 2) ∷ [])
line_below p = refl

line_without_parent : (p : Box (Unit {0}) Global)
    → found p open_vars (own_rule 0 (Line 2)) (Here 0 ∷ []) ≡ concluding []
line_without_parent p = refl

line_already : (p : Box (Unit {0}) Global) → found p open_vars (own_rule 0 (Line 1)) (Here 0 ∷ Here 1 ∷ [])
    ≡ concluding []
line_already p = refl

-- what must not be; a premise of the condition and of an equation's other side is cited once
never : (p : Box (Unit {0}) Global) → found p open_vars (rule 1 [] Never) (Here 0 ∷ Is 1 (whole 4) ∷ [])
    ≡ clashing (Is 1 (whole 4) ∷ [])
never p = refl

cited_once : (p : Box (Unit {0}) Global) → found p open_vars (rule 1 (0 ∷ []) (Equate 0 1))
    (Here 0 ∷ Is 1 (whole 4) ∷ [])
    ≡ concluding (from (Is 1 (whole 4) ∷ []) (Is 0 (whole 4)) ∷ [])
cited_once p = refl

-- the rooms for one of these rules
room_for_grains : (p : Box (Unit {0}) Global) → rooms_of (plan_of p open_vars (at_most_three 1 (0 ∷ [])))
    ≡ record { cites = 5; atoms = 3; premises = 11 }
room_for_grains p = refl

room_for_a_line : (p : Box (Unit {0}) Global) → rooms_of (plan_of p open_vars (own_rule 0 (Line 1)))
    ≡ record { cites = 1; atoms = 1; premises = 1 }
room_for_a_line p = refl
