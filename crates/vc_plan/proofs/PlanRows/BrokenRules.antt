-- Plans that break one fact alone: which rules there are, and what each is of.
use Rattle.std.proofs.Common.{◌≡◌, ℕ, List, [], ◌∷◌, ◌++◌, refl}
use Rattle.std.specs.Prelude.{None, codes, Box}
use Rattle.std.specs.declared.alloc.Global.{Global}
use Rattle.vc_value.specs.declared.value.Value.TheVariants.{Text}
use Rattle.vc_plan.specs.declared.conditions.Relation.TheVariants.{Equal, AtMost}
use Rattle.vc_plan.specs.declared.plans.Plan.{Plan}
use Rattle.vc_plan.specs.declared.rules.Kind.{Kind}
use Rattle.vc_plan.specs.declared.rules.Kind.TheVariants.{Among, Compare, Equate, ByTable, Never, Line}
use Rattle.vc_plan.specs.declared.rules.Restriction.TheVariants.{Against}
use Rattle.vc_plan.specs.declared.rules.Rule.{Rule}
use Rattle.vc_plan.specs.declared.terms.Operator.TheVariants.{Times}
use Rattle.vc_plan.specs.declared.terms.Term.TheVariants.{Literal, Read, Joined'}
use Rattle.vc_plan.proofs.PlanRows.Facts.{Breaks, broken}
use Rattle.vc_plan.proofs.PlanRows.Models.{rule, of, own_rule, last, column, whole}
use Rattle.vc_plan.proofs.PlanRows.SmallModels.{box, wheel}
use Rattle.vc_plan.proofs.PlanRows.WholeModels.{whole_ring, whole_step, whole_machine}

-- RING with other rules than its own
abbrev lasts : List Rule
lasts = last 0 ∷ last 1 ∷ last 2 ∷ []

abbrev with_rules : List Rule → Plan
with_rules rules = record whole_ring { rules = rules ++ lasts }

abbrev a_is_1 : Rule
a_is_1 = rule 1 (1 ∷ []) (Among 1 (Against Equal (Text 1)))

one_rule : broken (with_rules (a_is_1 ∷ [])) ≡ []
one_rule = refl

-- a constraint's rule at no slot, at one slot twice, and one that infers a variable twice
nowhere : Breaks (codes "own_slots") (with_rules (record a_is_1 { slots = [] } ∷ []))
nowhere = refl

slot_twice : Breaks (codes "own_slots") (with_rules (record a_is_1 { slots = 0 ∷ 0 ∷ [] } ∷ []))
slot_twice = refl

inferred_twice : Breaks (codes "own_slots") (with_rules (record a_is_1 { inferred = 1 ∷ 1 ∷ [] } ∷ []))
inferred_twice = refl

-- one that belongs to no constraint, with all that follows of that
no_constraint : broken (with_rules (record a_is_1 { dependency = None; number = 0 } ∷ []))
    ≡ codes "own_slots" ∷ codes "asked_by_right" ∷ []
no_constraint = refl

-- a Last with a slot, and one that infers its variable
last_with_slot : Breaks (codes "own_slots")
    (record whole_ring { rules = last 0 ∷ last 1 ∷ record (last 2) { slots = 0 ∷ [] } ∷ [] })
last_with_slot = refl

inferring_last : Breaks (codes "own_slots")
    (record whole_ring { rules = last 0 ∷ last 1 ∷ record (last 2) { inferred = 2 ∷ [] } ∷ [] })
inferring_last = refl

-- the lid at slot 1 is as long as that at slot 2, which isn't among the rule's slots; and the first is inferred at the
-- second's
abbrev two_lids : List ℕ → List ℕ → Plan
two_lids slots inferred = record box {
  terms = Literal (whole 1) ∷ Read 0 ∷ Read 1 ∷ [];
  rules =
      record (rule 0 inferred (Equate 1 2)) { slots = slots }
      ∷ last 0 ∷ last 1 ∷ own_rule 0 (Line 1) ∷ own_rule 0 (Line 2) ∷ [];
}

both_slots : broken (two_lids (1 ∷ 2 ∷ []) (0 ∷ [])) ≡ []
both_slots = refl

one_slot : Breaks (codes "own_slots") (two_lids (1 ∷ []) (0 ∷ []))
one_slot = refl

root_too : broken (two_lids (0 ∷ 1 ∷ 2 ∷ []) (0 ∷ 1 ∷ [])) ≡ []
root_too = refl

inferred_elsewhere : Breaks (codes "own_slots")
    (record box {
      rules =
          record (rule 0 (1 ∷ []) Never) { slots = 1 ∷ [] }
          ∷ last 0 ∷ last 1 ∷ own_rule 0 (Line 1) ∷ own_rule 0 (Line 2) ∷ [];
    })
inferred_elsewhere = refl

-- a constraint of five objects, and one of four
abbrev so_many : List ℕ → Plan
so_many slots = let plan = wheel 4 in record plan {
  dependencies = codes "C" ∷ [];
  rules = plan.rules ++ record (rule 0 [] Never) { slots = slots } ∷ [];
}

four_objects : broken (so_many (0 ∷ 1 ∷ 2 ∷ 3 ∷ [])) ≡ []
four_objects = refl

five_objects : Breaks (codes "own_slots") (so_many (0 ∷ 1 ∷ 2 ∷ 3 ∷ 4 ∷ []))
five_objects = refl

-- numbers
number_zero : Breaks (codes "numbered") (with_rules (of 0 0 a_is_1 ∷ []))
number_zero = refl

numbered_last : Breaks (codes "numbered")
    (record whole_ring { rules = record (last 0) { number = 1 } ∷ last 1 ∷ last 2 ∷ [] })
numbered_last = refl

-- two restrictions of one number; with two numbers or of two constraints they may stand
same_number : Breaks (codes "rules_once") (with_rules (a_is_1 ∷ rule 0 (2 ∷ []) Never ∷ []))
same_number = refl

two_numbers : broken (with_rules (a_is_1 ∷ of 0 2 (rule 0 (2 ∷ []) Never) ∷ [])) ≡ []
two_numbers = refl

two_constraints : broken (with_rules (a_is_1 ∷ of 1 1 (rule 0 (2 ∷ []) Never) ∷ [])) ≡ []
two_constraints = refl

-- MACH with other rules for its drive
abbrev drive_by : List Rule → Plan
drive_by rules = record whole_machine { rules = last 0 ∷ last 1 ∷ rules }

two_selections : broken (drive_by (of 0 1 (own_rule 1 (Line 1)) ∷ of 0 2 (own_rule 0 (Line 1)) ∷ [])) ≡ []
two_selections = refl

same_selection : Breaks (codes "lines_once")
    (drive_by (of 0 1 (own_rule 1 (Line 1)) ∷ of 0 1 (own_rule 0 (Line 1)) ∷ []))
same_selection = refl

no_selection : broken (drive_by (own_rule 0 (Line 1) ∷ [])) ≡ []
no_selection = refl

with_and_without : Breaks (codes "lone_lines") (drive_by (of 0 1 (own_rule 1 (Line 1)) ∷ own_rule 0 (Line 1) ∷ []))
with_and_without = refl

-- a drive that nothing brings, and a root that something does
never_here : Breaks (codes "slot_lines") (drive_by [])
never_here = refl

line_to_root : Breaks (codes "slot_lines") (drive_by (own_rule 0 (Line 0) ∷ own_rule 0 (Line 1) ∷ []))
line_to_root = refl

-- a variable without its Last, and one with two
no_last : Breaks (codes "lasts") (record whole_ring { rules = last 0 ∷ last 2 ∷ [] })
no_last = refl

two_lasts : Breaks (codes "lasts") (record whole_ring { rules = last 0 ∷ last 1 ∷ last 1 ∷ last 2 ∷ [] })
two_lasts = refl

-- a Last that asks something, one that is of a constraint, and a Line that asks without a selection condition
asking_last : Breaks (codes "asked_by_right")
    (record whole_ring { rules = last 0 ∷ last 1 ∷ record (last 2) { condition = 1 } ∷ [] })
asking_last = refl

last_of_constraint : Breaks (codes "asked_by_right")
    (record whole_ring { rules = last 0 ∷ last 1 ∷ of 0 1 (last 2) ∷ [] })
last_of_constraint = refl

asking_line : Breaks (codes "asked_by_right") (drive_by (own_rule 1 (Line 1) ∷ []))
asking_line = refl

-- a column named twice, and none named
column_twice : Breaks (codes "columns") (with_rules (rule 0 (1 ∷ []) (ByTable 0 (column 0 1 ∷ column 0 2 ∷ [])) ∷ []))
column_twice = refl

no_column : Breaks (codes "columns") (with_rules (rule 0 [] (ByTable 0 []) ∷ []))
no_column = refl

-- FLOW against a number as a comparison, in either order, and as an equation; against twice a number it is one
abbrev against : Kind → Box (Unit {0}) Global → Plan
against kind p = let plan = whole_step p in record plan {
  terms =
      Read 1 ∷ Literal (whole 5) ∷ Joined' Times p (Literal (whole 2)) p (Literal (whole 5)) ∷ [];
  rules = rule 0 (1 ∷ []) kind ∷ last 0 ∷ last 1 ∷ [];
}

compared_with_5 : (p : Box (Unit {0}) Global) → Breaks (codes "not_among") (against (Compare AtMost 0 1) p)
compared_with_5 p = refl

turned_round : (p : Box (Unit {0}) Global) → Breaks (codes "not_among") (against (Compare AtMost 1 0) p)
turned_round p = refl

equal_to_5 : (p : Box (Unit {0}) Global) → Breaks (codes "not_among") (against (Equate 0 1) p)
equal_to_5 p = refl

compared_with_twice_5 : (p : Box (Unit {0}) Global) → broken (against (Compare AtMost 0 2) p) ≡ []
compared_with_twice_5 p = refl
