-- What a rule of each kind reads and writes, and that a constraint's rule of each kind can be to blame.
use Rattle.std.proofs.Common.{◌≡◌, ℕ, Bool, true, false, List, [], ◌∷◌, map, refl}
use Rattle.std.specs.Prelude.{Some, ◌≢◌, Box}
use Rattle.std.specs.declared.alloc.Global.{Global}
use Rattle.vc_plan.specs.declared.atoms.Culprit.TheVariants as culprits
use Rattle.vc_plan.specs.declared.conditions.Condition.TheVariants.{Always, Compared, Specified, And'}
use Rattle.vc_plan.specs.declared.conditions.Relation.TheVariants.{Equal, AtMost}
use Rattle.vc_plan.specs.declared.plans.Plan.{Plan}
use Rattle.vc_plan.specs.declared.rules.Kind.{Kind}
use Rattle.vc_plan.specs.declared.rules.Kind.TheVariants.{Among, Compare, Equate, ByTable, Never, Last, Line}
use Rattle.vc_plan.specs.declared.rules.Operand.TheVariants.{Constant}
use Rattle.vc_plan.specs.declared.rules.Restriction.TheVariants.{Against}
use Rattle.vc_plan.specs.declared.rules.Rule.{Rule}
use Rattle.vc_plan.specs.declared.terms.Operator.TheVariants.{Plus}
use Rattle.vc_plan.specs.declared.terms.Term.TheVariants.{Literal, Read, Joined'}
use Rattle.vc_plan.specs.Gives.{by_rule}
use Rattle.vc_plan.proofs.PlanRows.Models.{column, empty, fixed_pair, fixed_var, own_rule, root, rule, table_of}
use Rattle.vc_plan.proofs.PlanRows.Models.{three_grains, users, whole}
use Rattle.vc_plan_reasons.specs.Refuting.{is_of_constraint, refutes}
use Rattle.vc_plan_reasons.specs.Things.{Thing, giver_reads, giver_writes, slot_at, var_at}
use Rattle.vc_plan_reasons.specs.Work.{work_of}
use Rattle.vc_plan_reasons.proofs.ReasonRows.Steps.{by_user, clash_of}

-- slot 2 stands in slot 1; variables 0 to 2 are of slot 1, variable 3 of slot 2. The condition reads variables 3 and 0;
-- term 0 is
-- variable 1, term 1 the sum of variables 1 and 2
abbrev plan : Box (Unit {0}) Global → Rule → Plan
plan p r = record empty {
  domains = three_grains ∷ [];
  slots =
      root ∷ record { parent = Some 0; depth = 1; object = 1; line = 0 }
      ∷ record { parent = Some 1; depth = 2; object = 2; line = 1 } ∷ [];
  vars =
      record (fixed_var 0) { slot = 1 } ∷ record (fixed_var 0) { slot = 1 } ∷ record (fixed_var 0) { slot = 1 }
      ∷ record (fixed_var 0) { slot = 2 } ∷ [];
  conditions = Always ∷ And' p (Specified 3) p (Compared Equal (Read 0) (Literal (whole 1))) ∷ [];
  terms = Read 1 ∷ Joined' Plus p (Read 1) p (Read 2) ∷ [];
  rules = r ∷ [];
}

abbrev things : Box (Unit {0}) Global → Rule → (List Thing) × (List Thing)
things p r = (giver_reads (plan p r) (by_rule 0), giver_writes (plan p r) (by_rule 0))

-- a constraint's rule at slots 2 and 1, which may infer variables 2 and 0
abbrev of_constraint : Kind → Rule
of_constraint kind = record (rule 1 (2 ∷ 0 ∷ []) kind) { slots = 2 ∷ 1 ∷ [] }

-- it reads its slots, its condition's variables and its own, and writes those of its own that it may infer
among : (p : Box (Unit {0}) Global)
    → things p (of_constraint (Among 2 (Against AtMost (whole 1))))
    ≡ (slot_at 2 ∷ slot_at 1 ∷ var_at 3 ∷ var_at 0 ∷ var_at 2 ∷ [], var_at 2 ∷ [])
among p = refl

compare : (p : Box (Unit {0}) Global)
    → things p (of_constraint (Compare AtMost 0 1))
    ≡ (slot_at 2 ∷ slot_at 1 ∷ var_at 3 ∷ var_at 0 ∷ var_at 1 ∷ var_at 1 ∷ var_at 2 ∷ [], var_at 2 ∷ [])
compare p = refl

equate : (p : Box (Unit {0}) Global)
    → things p (of_constraint (Equate 1 0))
    ≡ (slot_at 2 ∷ slot_at 1 ∷ var_at 3 ∷ var_at 0 ∷ var_at 1 ∷ var_at 2 ∷ var_at 1 ∷ [], var_at 2 ∷ [])
equate p = refl

by_table : (p : Box (Unit {0}) Global)
    → things p (of_constraint
    (ByTable 0 (column 0 2 ∷ record { column = 1; operand = Constant (whole 1) } ∷ column 2 1 ∷ [])))
    ≡ (slot_at 2 ∷ slot_at 1 ∷ var_at 3 ∷ var_at 0 ∷ var_at 2 ∷ var_at 1 ∷ [], var_at 2 ∷ [])
by_table p = refl

never : (p : Box (Unit {0}) Global)
    → things p (of_constraint Never) ≡ (slot_at 2 ∷ slot_at 1 ∷ var_at 3 ∷ var_at 0 ∷ [], [])
never p = refl

-- a last grain's reads its variable's slot, a line's the parent of its own, besides the condition
last_of : (p : Box (Unit {0}) Global) → things p (own_rule 0 (Last 3)) ≡ (slot_at 2 ∷ var_at 3 ∷ [], var_at 3 ∷ [])
last_of p = refl

line : (p : Box (Unit {0}) Global)
    → things p (own_rule 1 (Line 2)) ≡ (slot_at 1 ∷ var_at 3 ∷ var_at 0 ∷ [], slot_at 2 ∷ [])
line p = refl

root_too : (p : Box (Unit {0}) Global) → giver_reads (plan p (of_constraint Never)) (by_rule 0)
    ≢ slot_at 2 ∷ slot_at 1 ∷ slot_at 0 ∷ var_at 3 ∷ var_at 0 ∷ []
root_too p e = cc

itself_too : (p : Box (Unit {0}) Global) → giver_reads (plan p (own_rule 1 (Line 2))) (by_rule 0)
    ≢ slot_at 1 ∷ slot_at 2 ∷ var_at 3 ∷ var_at 0 ∷ []
itself_too p e = cc

-- a line's rule only writes its slot, and has a share in the work on it: 1 + 2 x 1; with variable 3 of four atoms,
-- which it
-- reads, 1 + 2 x (4 + 1)
slot_work : (p : Box (Unit {0}) Global) → work_of (plan p (own_rule 1 (Line 2))) (slot_at 2 ∷ []) ≡ 3
slot_work p = refl

only_written : (p : Box (Unit {0}) Global) → work_of (plan p (own_rule 1 (Line 2))) (slot_at 2 ∷ []) ≢ 0
only_written p e = cc

read_and_written : (p : Box (Unit {0}) Global) → work_of (plan p (own_rule 1 (Line 2))) (var_at 3 ∷ []) ≡ 11
read_and_written p = refl

read_alone : (p : Box (Unit {0}) Global) → work_of (plan p (own_rule 1 (Line 2))) (var_at 3 ∷ []) ≢ 9
read_alone p e = cc

-- rules of constraints can be to blame, and those of last grains and lines can't
blamable : map (λ kind. is_of_constraint (Some (of_constraint kind)))
    (Among 0 (Against AtMost (whole 1)) ∷ Compare AtMost 0 1 ∷ Equate 0 1 ∷ ByTable 0 [] ∷ Never ∷ Last 0 ∷ Line 1 ∷ [])
    ≡ true ∷ true ∷ true ∷ true ∷ true ∷ false ∷ false ∷ []
blamable = refl

-- each clashes at 4 and 1: the first may be 1 at most, and no more than the second, equal to it, of one row with it, or
-- not be
abbrev blames : Kind → List ℕ → Bool
blames kind premises =
    refutes (record (fixed_pair (Read 0 ∷ Read 1 ∷ []) (rule 0 [] kind))
    { tables = table_of ((whole 1 ∷ whole 1 ∷ []) ∷ []) ∷ [] })
    (users (Some (whole 4) ∷ Some (whole 1) ∷ []))
    (clash_of (by_user 0 (whole 4) ∷ by_user 1 (whole 1) ∷ []) (culprits.Rule 0) premises)

each_blamed : (blames (Among 0 (Against AtMost (whole 1))) (1 ∷ []) ≡ true)
    × (blames (Compare AtMost 0 1) (1 ∷ 2 ∷ []) ≡ true)
    × (blames (Equate 0 1) (1 ∷ 2 ∷ []) ≡ true)
    × (blames (ByTable 0 (column 0 0 ∷ column 1 1 ∷ [])) (1 ∷ 2 ∷ []) ≡ true)
    × (blames Never [] ≡ true)
each_blamed = (refl, refl, refl, refl, refl)

-- each by what it reads alone
too_much : (blames (Among 0 (Against AtMost (whole 1))) (1 ∷ 2 ∷ []) ≡ false)
    × (blames (Compare AtMost 0 1) (1 ∷ []) ≡ false)
    × (blames (Equate 0 1) (2 ∷ []) ≡ false) × (blames Never (1 ∷ []) ≡ false)
too_much = (refl, refl, refl, refl)
