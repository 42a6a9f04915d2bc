-- Plans that break one fact alone: texts and numbers, what nets may ask, sums over parts, and sizes of numbers.
use Rattle.std.proofs.Common.{◌≡◌, [], ◌∷◌, refl}
use Rattle.std.specs.Prelude.{None, codes, Box}
use Rattle.std.specs.declared.alloc.Global.{Global}
use Rattle.vc_value.specs.declared.value.Value.TheVariants.{Text}
use Rattle.vc_plan.specs.declared.conditions.Condition.{Condition}
use Rattle.vc_plan.specs.declared.conditions.Condition.TheVariants.{Always, Compared, IsIn, Specified, Holds, Filled}
use Rattle.vc_plan.specs.declared.conditions.Condition.TheVariants.{Not', And'}
use Rattle.vc_plan.specs.declared.conditions.Piece.TheVariants.{OneText, Stretch}
use Rattle.vc_plan.specs.declared.conditions.Relation.TheVariants.{Equal, Less, AtMost, Greater}
use Rattle.vc_plan.specs.declared.plans.Named.TheVariants.{Var}
use Rattle.vc_plan.specs.declared.plans.Plan.{Plan}
use Rattle.vc_plan.specs.declared.procedures.Action.TheVariants.{Assign, SetDefault, DeleteDefault, LookUp}
use Rattle.vc_plan.specs.declared.rules.Kind.{Kind}
use Rattle.vc_plan.specs.declared.rules.Kind.TheVariants.{Among, Compare, Equate, ByTable, Line}
use Rattle.vc_plan.specs.declared.rules.Operand.TheVariants.{Constant}
use Rattle.vc_plan.specs.declared.rules.Restriction.TheVariants.{Against, OneOf}
use Rattle.vc_plan.specs.declared.terms.Function.TheVariants.{Abs}
use Rattle.vc_plan.specs.declared.terms.Operator.TheVariants.{Plus, Times, Over}
use Rattle.vc_plan.specs.declared.terms.Term.{Term}
use Rattle.vc_plan.specs.declared.terms.Term.TheVariants.{Literal, Read, PartSum, PartCount, Applied', Joined'}
use Rattle.vc_plan.proofs.PlanRows.Facts.{Breaks, broken}
use Rattle.vc_plan.proofs.PlanRows.Models.{root, rule, of, own_rule, last, column, whole, from_to}
use Rattle.vc_plan.proofs.PlanRows.SmallModels.{bare, cutting, key, fills, looking, part_of}
use Rattle.vc_plan.proofs.PlanRows.WholeModels.{object, piece_line, profile, whole_ring, whole_paint, whole_machine}
use Rattle.vc_plan.proofs.PlanRows.WholeModels.{whole_gear}
use Rattle.vc_plan.proofs.StageRows.StageModels.{says}

-- RING with one more condition
abbrev asking : Condition → Plan
asking c = record whole_ring { conditions = Always ∷ Compared Equal (Read 0) (Literal (Text 1)) ∷ c ∷ [] }

text_with_number : Breaks (codes "conditions_typed") (asking (Compared Equal (Read 0) (Literal (whole 1))))
text_with_number = refl

order_of_texts : Breaks (codes "conditions_typed") (asking (Compared Less (Read 0) (Read 1)))
order_of_texts = refl

text_in_numbers : Breaks (codes "conditions_typed") (asking (IsIn 0 (OneText 1 ∷ Stretch (from_to 1 2) ∷ [])))
text_in_numbers = refl

text_added : (p : Box (Unit {0}) Global)
    → Breaks (codes "conditions_typed")
    (asking (Compared Equal (Joined' Plus p (Read 0) p (Literal (whole 1))) (Literal (whole 1))))
text_added p = refl

under_not : (p : Box (Unit {0}) Global) → Breaks (codes "conditions_typed")
    (asking (Not' p (Compared Equal (Read 0) (Literal (whole 1)))))
under_not p = refl

-- a text outside the list is no fault
unlisted_text : broken (asking (Compared Equal (Read 0) (Literal (Text 2)))) ≡ []
unlisted_text = refl

-- RING with this rule
abbrev ruled : Kind → Plan
ruled kind = record whole_ring {
  terms = Read 1 ∷ Literal (whole 1) ∷ Read 2 ∷ [];
  rules = rule 0 [] kind ∷ last 0 ∷ last 1 ∷ last 2 ∷ [];
}

among_numbers : Breaks (codes "rules_typed") (ruled (Among 1 (Against Equal (whole 1))))
among_numbers = refl

among_below : Breaks (codes "rules_typed") (ruled (Among 1 (Against AtMost (Text 1))))
among_below = refl

in_interval : Breaks (codes "rules_typed") (ruled (Among 1 (OneOf (Stretch (from_to 1 2) ∷ []))))
in_interval = refl

-- an equation as a comparison, and an order of texts
compared_equal : Breaks (codes "rules_typed") (ruled (Compare Equal 0 2))
compared_equal = refl

compared_texts : Breaks (codes "rules_typed") (ruled (Compare AtMost 0 2))
compared_texts = refl

equal_texts : broken (ruled (Equate 0 2)) ≡ []
equal_texts = refl

-- a column of texts that is given a number
number_to_column : Breaks (codes "rules_typed")
    (ruled (ByTable 0 (record { column = 0; operand = Constant (whole 1) } ∷ column 1 2 ∷ [])))
number_to_column = refl

-- a color for which a number is entered, by each statement
number_as_color : Breaks (codes "statements_typed")
    (record whole_paint { procedures = profile 1 (says (Assign 0 2) 0 ∷ []) ∷ [] })
number_as_color = refl

default_number : Breaks (codes "statements_typed")
    (record whole_paint { procedures = profile 1 (says (SetDefault 0 2) 0 ∷ []) ∷ [] })
default_number = refl

number_deleted : Breaks (codes "statements_typed")
    (record whole_paint { procedures = profile 1 (says (DeleteDefault 0 2) 0 ∷ []) ∷ [] })
number_deleted = refl

number_as_key : Breaks (codes "statements_typed") (looking (LookUp 0 (key 0 2 ∷ []) (fills 1 2 ∷ [])))
number_as_key = refl

-- a quantity and a time that are texts
text_of_pieces : Breaks (codes "quantities") (record whole_paint { lines = piece_line 10 (codes "STRIPE") 0 [] ∷ [] })
text_of_pieces = refl

text_of_minutes : Breaks (codes "times") (record whole_paint { operations = record (cutting 0 10) { time = 0 } ∷ [] })
text_of_minutes = refl

-- a constraint's condition that asks whether X hasn't a value; that it has one may be asked, and what it isn't
abbrev if : Condition → Plan
if c = record whole_ring {
  conditions = Always ∷ c ∷ [];
  rules = rule 1 (1 ∷ []) (Among 1 (Against Equal (Text 1))) ∷ last 0 ∷ last 1 ∷ last 2 ∷ [];
}

without_value : (p : Box (Unit {0}) Global) → Breaks (codes "nets") (if (Not' p (And' p (Specified 0) p Always)))
without_value p = refl

with_value : broken (if (Specified 0)) ≡ []
with_value = refl

with_another : (p : Box (Unit {0}) Global) → broken (if (Not' p (Compared Equal (Read 0) (Literal (Text 1))))) ≡ []
with_another p = refl

-- PAINT with a cap, which asks for options
abbrev capped : Condition → Plan
capped c = record whole_paint {
  objects = object (codes "PAINT") (0 ∷ 1 ∷ 2 ∷ 3 ∷ []) ∷ object (codes "CAP") [] ∷ [];
  slots = root ∷ part_of 0 1 1 0 ∷ [];
  conditions = Always ∷ Compared Equal (Read 1) (Literal (Text 4)) ∷ Compared Equal (Read 1) (Literal (Text 3)) ∷ c
      ∷ [];
  rules = last 0 ∷ last 1 ∷ last 2 ∷ of 3 1 (own_rule 3 (Line 1)) ∷ [];
  lines = piece_line 10 (codes "CAP") 2 [] ∷ [];
}

by_option : Breaks (codes "nets") (capped (Holds 0 7))
by_option = refl

by_any_option : Breaks (codes "nets") (capped (Filled 0))
by_any_option = refl

by_color : broken (capped (Specified 0)) ≡ []
by_color = refl

-- GEAR with a precondition, a requirement, an operation and a line that count parts; a statement may
abbrev many_parts : Condition
many_parts = Compared Greater (PartCount 0) (Literal (whole 3))

counting_guard : Breaks (codes "no_sum_asked")
    (record whole_gear {
      conditions = Always ∷ many_parts ∷ [];
      guards = record { at = Var 0; value = None; dependency = 0; condition = 1 } ∷ [];
    })
counting_guard = refl

counting_requirement : Breaks (codes "no_sum_asked")
    (record whole_gear {
      conditions = Always ∷ many_parts ∷ [];
      requirements = record { at = Var 0; selection = record { dependency = 0; condition = 1 } } ∷ [];
    })
counting_requirement = refl

counting_operation : Breaks (codes "no_sum_asked")
    (record whole_gear {
      conditions = Always ∷ many_parts ∷ [];
      operations = record (cutting 0 10) { selections = record { dependency = 0; condition = 1 } ∷ [] } ∷ [];
    })
counting_operation = refl

counting_line : Breaks (codes "no_sum_asked")
    (record whole_gear {
      conditions = Always ∷ many_parts ∷ [];
      lines =
          piece_line 10 (codes "P1") 0 [] ∷ piece_line 20 (codes "P2") 1 [] ∷ piece_line 30 (codes "P3") 0 []
          ∷ piece_line 40 (codes "SCREW") 0 (record { dependency = 0; condition = 1 } ∷ []) ∷ [];
    })
counting_line = refl

counting_statement : broken
    (record whole_gear {
      conditions = Always ∷ many_parts ∷ [];
      procedures = profile 0 (says (Assign 0 2) 1 ∷ [])
          ∷ [];
    }) ≡ []
counting_statement = refl

-- a quantity that counts parts, and a time that does
counted_quantity : Breaks (codes "no_sum_meant")
    (record whole_gear {
      lines = piece_line 10 (codes "P1") 0 [] ∷ piece_line 20 (codes "P2") 3 [] ∷ piece_line 30 (codes "P3") 0 [] ∷ [];
    })
counted_quantity = refl

counted_time : Breaks (codes "no_sum_meant")
    (record whole_gear { operations = record (cutting 0 10) { time = 3 } ∷ [] })
counted_time = refl

-- a sum of totals, which no part has; of weights below a part without parts; and of the powers of drives, which are
-- texts
sum_of_totals : Breaks (codes "sums_asked")
    (record whole_gear { conditions = Always ∷ Compared Greater (PartSum 0 1) (Literal (whole 3)) ∷ [] })
sum_of_totals = refl

below_a_part : Breaks (codes "sums_meant") (record whole_gear {
  terms = Literal (whole 1) ∷ Literal (whole 2) ∷ PartSum 0 0 ∷ PartCount 0 ∷ PartSum 1 0 ∷ [];
})
below_a_part = refl

sum_of_texts : Breaks (codes "sums_meant") (record whole_machine {
  terms = Literal (whole 1) ∷ Literal (Text 2) ∷ Literal (Text 0) ∷ PartSum 0 1 ∷ [];
})
sum_of_texts = refl

-- 999,999,999 times itself twice is computed from 10 ^ 39 millionths; once from 10 ^ 30
abbrev large : Term
large = Literal (whole 999_999_999)

abbrev square : Box (Unit {0}) Global → Term
square p = Joined' Times p large p large

squared : (p : Box (Unit {0}) Global) → broken (record bare { terms = square p ∷ [] }) ≡ []
squared p = refl

cubed : (p : Box (Unit {0}) Global) → Breaks (codes "terms_small")
    (record bare { terms = Joined' Times p (square p) p large ∷ [] })
cubed p = refl

cubed_inside : (p : Box (Unit {0}) Global)
    → Breaks (codes "terms_small") (record bare { terms = Applied' Abs p (Joined' Times p (square p) p large) ∷ [] })
cubed_inside p = refl

-- a quotient is computed from 10 ^ 6 times what is divided, which its divisor doesn't make smaller
abbrev divided : Box (Unit {0}) Global → Term → Term
divided p a = Joined' Over p a p large

divided_twice : (p : Box (Unit {0}) Global)
    → broken (record bare { terms = divided p (divided p (square p)) ∷ [] }) ≡ []
divided_twice p = refl

divided_thrice : (p : Box (Unit {0}) Global)
    → Breaks (codes "terms_small") (record bare { terms = divided p (divided p (divided p (square p))) ∷ [] })
divided_thrice p = refl

cube_asked : (p : Box (Unit {0}) Global)
    → Breaks (codes "conditions_small")
    (record bare { conditions = Always ∷ Compared Less (Joined' Times p (square p) p large) large ∷ [] })
cube_asked p = refl
