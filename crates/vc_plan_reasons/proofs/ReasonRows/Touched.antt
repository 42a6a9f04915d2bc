-- What rules of PUMP and of other plans read and write, and what a change there may cost.
use Rattle.std.proofs.Common.{◌≡◌, [], ◌∷◌, refl}
use Rattle.std.specs.Prelude.{Some, ◌≢◌}
use Rattle.vc_value.specs.declared.value.Value.TheVariants.{Text}
use Rattle.vc_plan.specs.declared.conditions.Condition.TheVariants.{Always, Compared}
use Rattle.vc_plan.specs.declared.conditions.Relation.TheVariants.{Equal, AtMost}
use Rattle.vc_plan.specs.declared.plans.Plan.{Plan}
use Rattle.vc_plan.specs.declared.plans.Slot.{Slot}
use Rattle.vc_plan.specs.declared.rules.Kind.TheVariants.{Compare, Line}
use Rattle.vc_plan.specs.declared.terms.Term.TheVariants.{Literal, Read}
use Rattle.vc_plan.specs.Gives.{by_rule, by_user}
use Rattle.vc_plan.proofs.PlanRows.Models.{root, open_var, rule, own_rule, pump, open_pair}
use Rattle.vc_plan_reasons.specs.Things.{slot_at, var_at, giver_reads, giver_writes, size_of}
use Rattle.vc_plan_reasons.specs.Work.{reach_of, work_of}

-- the table reads and writes size and motor; the rule of the last grain its variable
table_reads : giver_reads pump (by_rule 0) ≡ slot_at 0 ∷ var_at 0 ∷ var_at 1 ∷ []
table_reads = refl

table_writes : giver_writes pump (by_rule 0) ≡ var_at 0 ∷ var_at 1 ∷ []
table_writes = refl

last_reads : giver_reads pump (by_rule 2) ≡ slot_at 0 ∷ var_at 1 ∷ []
last_reads = refl

-- the user's value reads its slot alone
user_reads : giver_reads pump (by_user 1) ≡ slot_at 0 ∷ []
user_reads = refl

user_reads_itself : giver_reads pump (by_user 1) ≢ slot_at 0 ∷ var_at 1 ∷ []
user_reads_itself e = cc

-- a comparison of two variables that infers one, if a third has its first value
abbrev compares : Plan
compares = record (open_pair (Read 0 ∷ Read 1 ∷ []) (rule 1 (1 ∷ []) (Compare AtMost 0 1))) {
  vars = open_var 0 ∷ open_var 1 ∷ open_var 1 ∷ [];
  conditions = Always ∷ Compared Equal (Read 2) (Literal (Text 1)) ∷ [];
}

compare_reads : giver_reads compares (by_rule 0) ≡ slot_at 0 ∷ var_at 2 ∷ var_at 0 ∷ var_at 1 ∷ []
compare_reads = refl

compare_writes : giver_writes compares (by_rule 0) ≡ var_at 1 ∷ []
compare_writes = refl

writes_what_it_reads : giver_writes compares (by_rule 0) ≢ var_at 0 ∷ var_at 1 ∷ []
writes_what_it_reads e = cc

-- a slot in the root, and the rule of its line
abbrev component : Slot
component = record { parent = Some 0; depth = 1; object = 0; line = 0 }

abbrev lined : Plan
lined = record compares { slots = root ∷ component ∷ []; rules = own_rule 1 (Line 1) ∷ [] }

-- it reads the parent and its condition, and writes the slot
line_reads : giver_reads lined (by_rule 0) ≡ slot_at 0 ∷ var_at 2 ∷ []
line_reads = refl

line_writes : giver_writes lined (by_rule 0) ≡ slot_at 1 ∷ []
line_writes = refl

line_reads_itself : giver_reads lined (by_rule 0) ≢ slot_at 1 ∷ var_at 2 ∷ []
line_reads_itself e = cc

-- the sizes of the flow, of the size and of the slot
sizes : (size_of pump (var_at 2) ≡ 2) × (size_of pump (var_at 0) ≡ 4) × (size_of pump (slot_at 0) ≡ 1)
sizes = (refl, refl, refl)

value_too : size_of pump (var_at 2) ≢ 1
value_too e = cc

-- the size reaches the motor, and the flow itself alone; the slot all
size_reaches : reach_of pump (var_at 0 ∷ []) ≡ var_at 1 ∷ var_at 0 ∷ []
size_reaches = refl

flow_reaches : reach_of pump (var_at 2 ∷ var_at 2 ∷ []) ≡ var_at 2 ∷ []
flow_reaches = refl

slot_reaches : reach_of pump (slot_at 0 ∷ []) ≡ var_at 2 ∷ var_at 1 ∷ var_at 0 ∷ slot_at 0 ∷ []
slot_reaches = refl

-- a variable that is only read isn't reached
compared_reaches : reach_of compares (var_at 1 ∷ []) ≡ var_at 1 ∷ []
compared_reaches = refl

back : reach_of compares (var_at 1 ∷ []) ≢ var_at 0 ∷ var_at 1 ∷ []
back e = cc

-- the flow has the rule of its last grain alone: 1 + 2 x 2
flow_work : work_of pump (var_at 2 ∷ []) ≡ 5
flow_work = refl

-- the size has the table with two variables of 4, and two rules of last grains: 17 + 9 + 9
size_work : work_of pump (var_at 0 ∷ []) ≡ 35
size_work = refl

-- the slot, which these rules read too, isn't reached, and doesn't count
slot_counts : work_of pump (var_at 2 ∷ []) ≢ 7
slot_counts e = cc

slot_counts_thrice : work_of pump (var_at 0 ∷ []) ≢ 41
slot_counts_thrice e = cc
