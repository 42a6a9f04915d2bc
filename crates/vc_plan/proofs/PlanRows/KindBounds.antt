-- How many premises each kind of rule may need for an atom, and for a clash.
use Rattle.std.proofs.Common.{◌≡◌, ℕ, Bool, true, false, List, [], ◌∷◌, map, refl}
use Rattle.std.specs.Prelude.{Some, ◌≢◌, Box}
use Rattle.std.specs.declared.alloc.Global.{Global}
use Rattle.vc_value.specs.declared.table_header.Domain.TheVariants.{Texts}
use Rattle.vc_value.specs.declared.value.Value.TheVariants.{Text}
use Rattle.vc_plan.specs.declared.conditions.Condition.TheVariants.{Always, Compared, Specified, And'}
use Rattle.vc_plan.specs.declared.conditions.Relation.TheVariants.{Equal, AtMost}
use Rattle.vc_plan.specs.declared.plans.Plan.{Plan}
use Rattle.vc_plan.specs.declared.plans.Var.{Var}
use Rattle.vc_plan.specs.declared.rules.Kind.{Kind}
use Rattle.vc_plan.specs.declared.rules.Kind.TheVariants.{Among, Compare, Equate, ByTable, Never, Last, Line}
use Rattle.vc_plan.specs.declared.rules.Restriction.TheVariants.{Against}
use Rattle.vc_plan.specs.declared.rules.Rule.{Rule}
use Rattle.vc_plan.specs.declared.terms.Operator.TheVariants.{Times}
use Rattle.vc_plan.specs.declared.terms.Term.TheVariants.{Literal, Read, Joined'}
use Rattle.vc_plan.specs.Bounds.{Place, bound_of, cell_bound, clash_bound, here_at, is_at, out_at}
use Rattle.vc_plan.proofs.PlanRows.Models.{column, empty, last, own_rule, root, rule, table_of, three_grains, whole}

-- variables 0 and 1 have the grains 1, 2 .. 3 and 4, variable 2 is a text of slot 1; condition 1 reads 2, 1 and 2
-- again. Term 2
-- has the second variable twice. The table has three rows, of which two have 1 in the first column
abbrev var : Bool → ℕ → ℕ → Var
var restrictable slot domain =
    record { slot = slot; characteristic = domain; domain = domain; restrictable = restrictable }

abbrev plan : Bool → Box (Unit {0}) Global → Plan
plan restrictable p = record empty {
  domains = three_grains ∷ Texts (0 ∷ 1 ∷ []) ∷ [];
  tables = table_of ((whole 1 ∷ whole 1 ∷ []) ∷ (whole 1 ∷ whole 4 ∷ []) ∷ (whole 4 ∷ whole 4 ∷ []) ∷ []) ∷ [];
  slots = root ∷ record { parent = Some 0; depth = 1; object = 1; line = 0 } ∷ [];
  vars = var restrictable 0 0 ∷ var restrictable 0 0 ∷ var false 1 1 ∷ [];
  conditions = Always ∷ And' p (And' p (Compared Equal (Read 2) (Literal (Text 0))) p (Specified 1)) p (Specified 2)
      ∷ [];
  terms = Read 0 ∷ Read 1 ∷ Joined' Times p (Read 1) p (Read 1) ∷ [];
}

-- the bounds of an atom at each place, and of a clash: two slots, two variables of the condition, and what the kind
-- needs
abbrev places : List Place
places = here_at 1 ∷ out_at 0 0 ∷ out_at 0 2 ∷ out_at 1 0 ∷ is_at 0 ∷ is_at 1 ∷ []

abbrev bounds : Bool → List ℕ → Kind → Box (Unit {0}) Global → List ℕ
bounds restrictable inferred kind p =
    let r : Rule = record (rule 1 inferred kind) { slots = 0 ∷ 1 ∷ [] } in
    clash_bound (plan restrictable p) r ∷ map (bound_of (plan restrictable p) r) places

abbrev own_bounds : Kind → Box (Unit {0}) Global → List ℕ
own_bounds kind p =
    clash_bound (plan false p) (own_rule 1 kind) ∷ map (bound_of (plan false p) (own_rule 1 kind)) places

-- Among: of a grain that isn't allowed 4, of a value and of a clash with the variable's grains
among_open : (p : Box (Unit {0}) Global)
    → bounds true (0 ∷ []) (Among 0 (Against AtMost (whole 3))) p ≡ 7 ∷ 0 ∷ 0 ∷ 4 ∷ 0 ∷ 0 ∷ 0 ∷ []
among_open p = refl

among_fixed : (p : Box (Unit {0}) Global)
    → bounds false (0 ∷ []) (Among 0 (Against AtMost (whole 3))) p ≡ 7 ∷ 0 ∷ 0 ∷ 0 ∷ 0 ∷ 7 ∷ 0 ∷ []
among_fixed p = refl

among_checked : (p : Box (Unit {0}) Global)
    → bounds false [] (Among 0 (Against AtMost (whole 3))) p ≡ 7 ∷ 0 ∷ 0 ∷ 0 ∷ 0 ∷ 0 ∷ 0 ∷ []
among_checked p = refl

-- Compare: with the different variables of both sides; and the grains of each inferred lone side that isn't
-- restrictable
compare_open : (p : Box (Unit {0}) Global)
    → bounds true (0 ∷ 1 ∷ []) (Compare AtMost 0 1) p ≡ 6 ∷ 0 ∷ 6 ∷ 6 ∷ 6 ∷ 0 ∷ 0 ∷ []
compare_open p = refl

compare_fixed : (p : Box (Unit {0}) Global)
    → bounds false (0 ∷ 1 ∷ []) (Compare AtMost 0 1) p ≡ 12 ∷ 0 ∷ 0 ∷ 0 ∷ 0 ∷ 12 ∷ 12 ∷ []
compare_fixed p = refl

left_side : (p : Box (Unit {0}) Global) → bounds false (0 ∷ []) (Compare AtMost 0 1) p ≡ 9 ∷ 0 ∷ 0 ∷ 0 ∷ 0 ∷ 9 ∷ 0 ∷ []
left_side p = refl

right_side : (p : Box (Unit {0}) Global) → bounds false (1 ∷ []) (Compare AtMost 0 1) p ≡ 9 ∷ 0 ∷ 0 ∷ 0 ∷ 0 ∷ 0 ∷ 9 ∷ []
right_side p = refl

one_side_only : (p : Box (Unit {0}) Global)
    → bounds false (0 ∷ 1 ∷ []) (Compare AtMost 0 1) p ≢ 9 ∷ 0 ∷ 0 ∷ 0 ∷ 0 ∷ 9 ∷ 9 ∷ []
one_side_only p e = cc

-- a variable on both sides has its grains on each; one twice on a side that isn't lone counts once
same_side : (p : Box (Unit {0}) Global)
    → bounds false (0 ∷ []) (Compare AtMost 0 0) p ≡ 11 ∷ 0 ∷ 0 ∷ 0 ∷ 0 ∷ 11 ∷ 0 ∷ []
same_side p = refl

counted_once : (p : Box (Unit {0}) Global)
    → bounds true (0 ∷ 1 ∷ []) (Compare AtMost 0 2) p ≡ 6 ∷ 0 ∷ 6 ∷ 6 ∷ 0 ∷ 0 ∷ 0 ∷ []
counted_once p = refl

counted_twice : (p : Box (Unit {0}) Global)
    → bounds true (0 ∷ 1 ∷ []) (Compare AtMost 0 2) p ≢ 7 ∷ 0 ∷ 7 ∷ 7 ∷ 0 ∷ 0 ∷ 0 ∷ []
counted_twice p e = cc

-- Equate: of the value of each inferred lone side, restrictable or not
equate : (p : Box (Unit {0}) Global) → bounds true (0 ∷ 1 ∷ []) (Equate 0 1) p ≡ 6 ∷ 0 ∷ 0 ∷ 0 ∷ 0 ∷ 6 ∷ 6 ∷ []
equate p = refl

equate_left : (p : Box (Unit {0}) Global) → bounds false (0 ∷ []) (Equate 0 1) p ≡ 6 ∷ 0 ∷ 0 ∷ 0 ∷ 0 ∷ 6 ∷ 0 ∷ []
equate_left p = refl

equate_right : (p : Box (Unit {0}) Global) → bounds false (1 ∷ []) (Equate 2 1) p ≡ 5 ∷ 0 ∷ 0 ∷ 0 ∷ 0 ∷ 0 ∷ 5 ∷ []
equate_right p = refl

-- Table: of a grain with the rows that have it, of a value and of a clash with all rows
table_open : (p : Box (Unit {0}) Global)
    → bounds true (0 ∷ []) (ByTable 0 (column 0 0 ∷ column 1 1 ∷ [])) p ≡ 7 ∷ 0 ∷ 6 ∷ 5 ∷ 0 ∷ 0 ∷ 0 ∷ []
table_open p = refl

table_fixed : (p : Box (Unit {0}) Global)
    → bounds false (0 ∷ []) (ByTable 0 (column 0 0 ∷ column 1 1 ∷ [])) p ≡ 7 ∷ 0 ∷ 0 ∷ 0 ∷ 0 ∷ 7 ∷ 0 ∷ []
table_fixed p = refl

table_second : (p : Box (Unit {0}) Global)
    → bounds true (1 ∷ []) (ByTable 0 (column 0 0 ∷ column 1 1 ∷ [])) p ≡ 7 ∷ 0 ∷ 0 ∷ 0 ∷ 5 ∷ 0 ∷ 0 ∷ []
table_second p = refl

-- Never: of a clash alone
never : (p : Box (Unit {0}) Global) → bounds false (0 ∷ []) Never p ≡ 4 ∷ 0 ∷ 0 ∷ 0 ∷ 0 ∷ 0 ∷ 0 ∷ []
never p = refl

-- Last: the grains. Line: its parent and the different variables of its condition. They don't clash
last_value : (p : Box (Unit {0}) Global) → own_bounds (Last 1) p ≡ 0 ∷ 0 ∷ 0 ∷ 0 ∷ 0 ∷ 0 ∷ 3 ∷ []
last_value p = refl

line : (p : Box (Unit {0}) Global) → own_bounds (Line 1) p ≡ 0 ∷ 3 ∷ 0 ∷ 0 ∷ 0 ∷ 0 ∷ 0 ∷ []
line p = refl

line_twice : (p : Box (Unit {0}) Global) → own_bounds (Line 1) p ≢ 0 ∷ 4 ∷ 0 ∷ 0 ∷ 0 ∷ 0 ∷ 0 ∷ []
line_twice p e = cc

-- of more rules the greatest counts, of atoms and of clashes: 3 for the slot, 4 for each of two grains, 3, 3 and 2 for
-- the
-- values, and 7 for a clash
cells : (p : Box (Unit {0}) Global)
    → cell_bound (record (plan true p) {
      rules =
          rule 0 [] (Among 0 (Against AtMost (whole 3)))
          ∷ record (rule 1 (0 ∷ []) (Among 0 (Against AtMost (whole 1)))) { slots = 0 ∷ 1 ∷ [] }
          ∷ rule 0 (0 ∷ []) (Among 0 (Against AtMost (whole 3)))
          ∷ last 0 ∷ last 1 ∷ last 2 ∷ own_rule 0 (Line 1) ∷ own_rule 1 (Line 1) ∷ [];
    }) ≡ 26
cells p = refl
