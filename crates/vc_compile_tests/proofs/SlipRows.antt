-- The likeliest slips of compiling. Beside what is so stands what would be so by the slip, and isn't; where only the
-- slip stands, what is so stands in vc_compile_plan PlanRows, in the row that is named.
use Rattle.std.proofs.Common.{◌≡◌, ℕ, ◌*◌, pos, neg_ℤ, true, false, replicate, List, [], ◌∷◌, map, length}
use Rattle.std.proofs.Common.{refl, sym}
use Rattle.std.specs.Prelude.{Option, None, Some, ◌≢◌, codes, option_map}
use Rattle.vc_value.specs.Grains.{interval}
use Rattle.vc_value.specs.declared.grains.Grain.{Grain}
use Rattle.vc_value.specs.declared.table_header.Domain.{Domain}
use Rattle.vc_value.specs.declared.table_header.Domain.TheVariants.{Texts, Nums}
use Rattle.vc_value.specs.declared.value.Value.TheVariants.{Text, Num}
use Rattle.vc_model_parts.specs.declared.parts.BillItem.{BillItem}
use Rattle.vc_model_parts.specs.declared.parts.Component.TheVariants as components
use Rattle.vc_model_parts.specs.declared.parts.Model.{Model}
use Rattle.vc_syntax_tree.specs.declared.Action.TheVariants as actions
use Rattle.vc_syntax_tree.specs.declared.Condition as asking
use Rattle.vc_syntax_tree.specs.declared.Condition.TheVariants as conditions
use Rattle.vc_syntax_tree.specs.declared.Demand.TheVariants as demands
use Rattle.vc_syntax_tree.specs.declared.Item.{Item}
use Rattle.vc_syntax_tree.specs.declared.Item.TheVariants as items
use Rattle.vc_syntax_tree.specs.declared.Object.{Object}
use Rattle.vc_syntax_tree.specs.declared.Operand.TheVariants.{Owned, Member}
use Rattle.vc_syntax_tree.specs.declared.Owner.TheVariants.{Root}
use Rattle.vc_syntax_tree.specs.declared.Relation.TheVariants as relations
use Rattle.vc_syntax_tree.specs.declared.Relator.{Relator}
use Rattle.vc_syntax_tree.specs.declared.Relator.TheVariants as relators
use Rattle.vc_syntax_tree.specs.declared.Restriction.{Restriction}
use Rattle.vc_syntax_tree.specs.declared.Term.TheVariants as terms
use Rattle.vc_syntax_tree.specs.Trees.{And, Condition, Constraint, Or, PartOf, condition_of}
use Rattle.vc_types.specs.declared.fault.TypeFaultKind.{TypeFaultKind}
use Rattle.vc_types.specs.declared.fault.TypeFaultKind.TheVariants as kinds
use Rattle.vc_plan.specs.declared.conditions.Condition as planned
use Rattle.vc_plan.specs.declared.conditions.Condition.TheVariants.{Always, Compared, IsIn}
use Rattle.vc_plan.specs.declared.conditions.Piece.{Piece}
use Rattle.vc_plan.specs.declared.conditions.Piece.TheVariants.{Stretch}
use Rattle.vc_plan.specs.declared.conditions.Relation.{Relation}
use Rattle.vc_plan.specs.declared.conditions.Relation.TheVariants.{Equal, Unequal, Less, Greater, AtLeast}
use Rattle.vc_plan.specs.declared.plans.Guard.{Guard}
use Rattle.vc_plan.specs.declared.plans.Named.TheVariants.{Var}
use Rattle.vc_plan.specs.declared.plans.Plan.{Plan}
use Rattle.vc_plan.specs.declared.plans.Slot.{Slot}
use Rattle.vc_plan.specs.declared.plans.Var as planned_var
use Rattle.vc_plan.specs.declared.procedures.Action.{Action}
use Rattle.vc_plan.specs.declared.procedures.Action.TheVariants.{LookUp}
use Rattle.vc_plan.specs.declared.procedures.FilledColumn.{FilledColumn}
use Rattle.vc_plan.specs.declared.rules.Kind.{Kind}
use Rattle.vc_plan.specs.declared.rules.Kind.TheVariants.{Among, Compare, Equate, Last, Line, Never}
use Rattle.vc_plan.specs.declared.rules.Restriction.TheVariants.{Against}
use Rattle.vc_plan.specs.declared.terms.Term as counted
use Rattle.vc_plan.specs.declared.terms.Term.TheVariants.{Literal, Read, PartSum}
use Rattle.vc_table.specs.declared.table.VariantTable.{VariantTable}
use Rattle.vc_plan.proofs.PlanRows.Models as plans
use Rattle.vc_compile_plan.specs.Cuts.{domains_of}
use Rattle.vc_compile_plan.specs.FaultNumbers.{number_of}
use Rattle.vc_compile_plan.specs.Layouts.{layout_of}
use Rattle.vc_compile_plan.specs.PlanOf.{plan_of}
use Rattle.vc_compile_plan.specs.Refusals.{TypeFault, first_of, has_too_many_cells}
use Rattle.vc_compile_plan.specs.Refusals.{typing_fault_or}
use Rattle.vc_compile_plan.specs.Slots.{slots_of}
use Rattle.vc_compile_plan.specs.Tables.{tables_of}
use Rattle.vc_compile_plan.specs.Texts.{text_number, texts_of}
use Rattle.vc_compile_plan.specs.Tuples.{asked_of, both, matches, tuples_of}
use Rattle.vc_compile_plan.specs.Uses.{active_constraints, used_dependencies}
use Rattle.vc_compile_plan.specs.Variables.{sets_of, vars_of}
use Rattle.vc_compile_plan.specs.declared.fault.CompileFault.TheVariants as faults
use Rattle.vc_compile_plan.proofs.PlanRows.Cutting.{a, b, lists, relates, restricted}
use Rattle.vc_compile_plan.proofs.PlanRows.Models.{ring}
use Rattle.vc_compile_plan.proofs.PlanRows.Stages.{machine}
use Rattle.vc_compile_plan.proofs.PlanRows.Words.{Spots, always, apart, asks, binds, called, calls, characteristic}
use Rattle.vc_compile_plan.proofs.PlanRows.Words.{class, column, condition_box, constraint, does, empty, from_to, leaf}
use Rattle.vc_compile_plan.proofs.PlanRows.Words.{line, listed_text, member, millionths, net, number, numbers, object}
use Rattle.vc_compile_plan.proofs.PlanRows.Words.{of_class, own, plain, precondition, procedure, relation, rows}
use Rattle.vc_compile_plan.proofs.PlanRows.Words.{selection, term_box, text, texts, where_true, whole}

-- TOP has MIDDLE, a plain line, and MIDDLE again; MIDDLE has a plain line, and LEAF by a selection condition. TOP has
-- C, MIDDLE the set S, W and C, and LEAF has W. W has a precondition, its only value another and a procedure, C has a
-- procedure, and the profile of MIDDLE a third
abbrev is_yes : Spots → asking.Condition
is_yes p = asks p (plain (codes "C")) relators.Equal (text (codes "Y"))

abbrev brings : Spots → ℕ → ℕ → List ℕ → BillItem
brings p item o uses = line p item (components.Object o) 1 uses

abbrev screw : Spots → ℕ → BillItem
screw p item = line p item (components.Plain (codes "SCREW")) 1 []

abbrev tower : Spots → Model
tower p = record empty {
  characteristics =
      record (characteristic (codes "C") false (texts false (listed_text 0 ∷ []))) { uses = 5 ∷ [] }
      ∷ record (characteristic (codes "W") false (numbers 0 (record (from_to 0 9) { uses = 2 ∷ 6 ∷ [] } ∷ [])))
      { uses = 1 ∷ [] }
      ∷ characteristic (codes "S") false (texts true (listed_text 0 ∷ []))
      ∷ [];
  texts = codes "Y" ∷ [];
  classes =
      class (codes "LEAFS") (1 ∷ []) ∷ class (codes "MIDDLES") (2 ∷ 1 ∷ 0 ∷ []) ∷ class (codes "TOPS") (0 ∷ []) ∷ [];
  dependencies =
      selection p (codes "S_LEAF") (is_yes p)
      ∷ precondition p (codes "P_OWN") (asks p (plain (codes "W")) relators.Greater (whole 3))
      ∷ precondition p (codes "P_VALUE")
      (asks p (terms.Operand (Owned Root (leaf (codes "C")))) relators.Equal (text (codes "Y")))
      ∷ selection p (codes "S_NOWHERE") (is_yes p)
      ∷ procedure (codes "SUM")
      (does (actions.Assign (leaf (codes "W")) (term_box p (terms.SumOfParts (leaf (codes "W"))))) ∷ [])
      ∷ procedure (codes "AT_C") (does (actions.Assign (leaf (codes "C")) (term_box p (text (codes "Y")))) ∷ [])
      ∷ procedure (codes "AT_VALUE") (does (actions.Assign (leaf (codes "W")) (term_box p (whole 1))) ∷ [])
      ∷ [];
  objects =
      object (codes "LEAF") 0 []
      ∷ record (object (codes "MIDDLE") 1 (screw p 10 ∷ brings p 20 0 (0 ∷ []) ∷ [])) { procedures = 4 ∷ [] }
      ∷ object (codes "TOP") 2 (brings p 10 1 [] ∷ screw p 20 ∷ brings p 30 1 [] ∷ [])
      ∷ [];
  root = 2;
}

abbrev tower_plan : Spots → Plan
tower_plan p = plan_of p.node (tower p) []

-- slots in preorder; the lines of the second MIDDLE come behind those of the first
abbrev top : Slot
top = record { parent = None; depth = 0; object = 2; line = 0 }

abbrev below : ℕ → ℕ → ℕ → ℕ → Slot
below parent depth o line = record { parent = Some parent; depth = depth; object = o; line = line }

tower_slots : (p : Spots)
    → slots_of (tower p) ≡ top ∷ below 0 1 1 0 ∷ below 1 2 0 4 ∷ below 0 1 1 2 ∷ below 3 2 0 6 ∷ []
tower_slots p = refl

level_by_level : (p : Spots) → map (λ slot. slot.depth) (slots_of (tower p)) ≢ 0 ∷ 1 ∷ 1 ∷ 2 ∷ 2 ∷ []
level_by_level p e = cc

lines_once_an_object : (p : Spots) → map (λ slot. slot.line) (slots_of (tower p)) ≢ 0 ∷ 0 ∷ 4 ∷ 2 ∷ 4 ∷ []
lines_once_an_object p e = cc

-- variables by slot and class order, sets left out: these have numbers of their own
abbrev var : ℕ → ℕ → planned_var.Var
var i c = record { slot = i; characteristic = c; domain = c; restrictable = false }

tower_vars : (p : Spots)
    → vars_of (tower p) (slots_of (tower p)) ≡ var 0 0 ∷ var 1 1 ∷ var 1 0 ∷ var 2 1 ∷ var 3 1 ∷ var 3 0 ∷ var 4 1 ∷ []
tower_vars p = refl

tower_sets : (p : Spots)
    → sets_of (tower p) (slots_of (tower p))
    ≡ record { slot = 1; characteristic = 2; domain = 2 } ∷ record { slot = 3; characteristic = 2; domain = 2 } ∷ []
tower_sets p = refl

sets_counted : (p : Spots)
    → map (λ x. x.characteristic) (vars_of (tower p) (slots_of (tower p)))
    ≢ 0 ∷ 2 ∷ 1 ∷ 0 ∷ 1 ∷ 2 ∷ 1 ∷ 0 ∷ 1 ∷ []
sets_counted p e = cc

in_model_order : (p : Spots)
    → map (λ x. x.characteristic) (vars_of (tower p) (slots_of (tower p))) ≢ 0 ∷ 0 ∷ 1 ∷ 1 ∷ 0 ∷ 1 ∷ 1 ∷ []
in_model_order p e = cc

-- Last by variable, and then Line by slot: it brings the component, and asks the owner of the line
tower_kinds : (p : Spots)
    → map (λ rule. rule.kind) (tower_plan p).rules
    ≡ Last 0 ∷ Last 1 ∷ Last 2 ∷ Last 3 ∷ Last 4 ∷ Last 5 ∷ Last 6 ∷ Line 1 ∷ Line 2 ∷ Line 3 ∷ Line 4 ∷ []
tower_kinds p = refl

lines_by_owner : (p : Spots)
    → map (λ rule. rule.kind) (tower_plan p).rules
    ≢ Last 0 ∷ Last 1 ∷ Last 2 ∷ Last 3 ∷ Last 4 ∷ Last 5 ∷ Last 6 ∷ Line 0 ∷ Line 1 ∷ Line 0 ∷ Line 3 ∷ []
lines_by_owner p e = cc

-- rule after rule, then what W asks at each slot that has it: of itself, and of the root
abbrev asked_of_rule : ℕ → planned.Condition
asked_of_rule v = Compared Equal (Read v) (Literal (Text 0))

abbrev is_large : ℕ → planned.Condition
is_large v = Compared Greater (Read v) (Literal (plans.whole 3))

abbrev owned_conditions : ℕ → ℕ → List planned.Condition
owned_conditions first second =
    Always ∷ asked_of_rule first ∷ asked_of_rule second
    ∷ is_large 1 ∷ asked_of_rule 0 ∷ is_large 3 ∷ asked_of_rule 0 ∷ is_large 4 ∷ asked_of_rule 0 ∷ is_large 6
    ∷ asked_of_rule 0
    ∷ []

tower_conditions : (p : Spots) → (tower_plan p).conditions ≡ owned_conditions 2 5
tower_conditions p = refl

asks_the_root : (p : Spots) → (tower_plan p).conditions ≢ owned_conditions 0 0
asks_the_root p e = cc

asks_the_first : (p : Spots) → (tower_plan p).conditions ≢ owned_conditions 2 2
asks_the_first p e = cc

-- preconditions stand at their own slot, a characteristic's own before a value's
abbrev guard : ℕ → Option Piece → ℕ → ℕ → Guard
guard v value dependency condition =
    record { at = Var v; value = value; dependency = dependency; condition = condition }

abbrev listed_w : Option Piece
listed_w = Some (Stretch (plans.from_to 0 9))

tower_guards : (p : Spots)
    → (tower_plan p).guards
    ≡ guard 1 None 1 3 ∷ guard 1 listed_w 2 4 ∷ guard 3 None 1 5 ∷ guard 3 listed_w 2 6
    ∷ guard 4 None 1 7 ∷ guard 4 listed_w 2 8 ∷ guard 6 None 1 9 ∷ guard 6 listed_w 2 10
    ∷ []
tower_guards p = refl

values_first : (p : Spots)
    → map (λ guard. guard.dependency) (tower_plan p).guards ≢ 2 ∷ 1 ∷ 2 ∷ 1 ∷ 2 ∷ 1 ∷ 2 ∷ 1 ∷ []
values_first p e = cc

at_the_first_slot : (p : Spots)
    → map (λ guard. guard.at) (tower_plan p).guards
    ≢ Var 1 ∷ Var 1 ∷ Var 1 ∷ Var 1 ∷ Var 1 ∷ Var 1 ∷ Var 1 ∷ Var 1 ∷ []
at_the_first_slot p e = cc

-- procedures by slot: of the profile, of characteristics, and then of values
tower_procedures : (p : Spots)
    → map (λ procedure. procedure.dependency) (tower_plan p).procedures
    ≡ 5 ∷ 4 ∷ 5 ∷ 6 ∷ 6 ∷ 4 ∷ 5 ∷ 6 ∷ 6 ∷ []
tower_procedures p = refl

procedure_slots : (p : Spots)
    → map (λ procedure. procedure.slot) (tower_plan p).procedures ≡ 0 ∷ 1 ∷ 1 ∷ 1 ∷ 2 ∷ 3 ∷ 3 ∷ 3 ∷ 4 ∷ []
procedure_slots p = refl

by_characteristic : (p : Spots)
    → map (λ procedure. procedure.dependency) (tower_plan p).procedures
    ≢ 5 ∷ 4 ∷ 6 ∷ 5 ∷ 6 ∷ 4 ∷ 6 ∷ 5 ∷ 6 ∷ []
by_characteristic p e = cc

profile_last : (p : Spots)
    → map (λ procedure. procedure.dependency) (tower_plan p).procedures
    ≢ 5 ∷ 5 ∷ 6 ∷ 4 ∷ 6 ∷ 5 ∷ 6 ∷ 4 ∷ 6 ∷ []
profile_last p e = cc

-- a part sum is over the parts of the procedure's own slot; the terms of the seven lines come before
abbrev one : counted.Term
one = Literal (plans.whole 1)

abbrev yes : counted.Term
yes = Literal (Text 0)

abbrev summed_at : ℕ → ℕ → List counted.Term
summed_at first second =
    one ∷ one ∷ one ∷ one ∷ one ∷ one ∷ one
    ∷ yes ∷ PartSum first 1 ∷ yes ∷ one ∷ one ∷ PartSum second 1 ∷ yes ∷ one ∷ one ∷ []

tower_terms : (p : Spots) → (tower_plan p).terms ≡ summed_at 1 3
tower_terms p = refl

sums_at_root : (p : Spots) → (tower_plan p).terms ≢ summed_at 0 0
sums_at_root p e = cc

-- tuples: no slot stands for two variables, neighbours or not, and they ascend from the first
abbrev over : List Object → Option (asking.Condition) → Constraint
over objects condition =
    record { objects = objects; condition = option_map condition_of condition; restrictions = []; inferences = [] }

abbrev middle : List ℕ → Object
middle name = of_class name (codes "MIDDLES")

abbrev leaf_of : List ℕ → Object
leaf_of name = of_class name (codes "LEAFS")

abbrev two_middles : Spots → List (List ℕ)
two_middles p = tuples_of (layout_of (tower p)) (over (middle (codes "A") ∷ middle (codes "B") ∷ []) None)

different : (p : Spots) → two_middles p ≡ (1 ∷ 3 ∷ []) ∷ (3 ∷ 1 ∷ []) ∷ []
different p = refl

one_for_two : (p : Spots)
    → two_middles p ≢ (1 ∷ 1 ∷ []) ∷ (1 ∷ 3 ∷ []) ∷ (3 ∷ 1 ∷ []) ∷ (3 ∷ 3 ∷ []) ∷ []
one_for_two p e = cc

from_the_last : (p : Spots) → two_middles p ≢ (3 ∷ 1 ∷ []) ∷ (1 ∷ 3 ∷ []) ∷ []
from_the_last p e = cc

either_order : (p : Spots) → two_middles p ≢ (1 ∷ 3 ∷ []) ∷ []
either_order p e = cc

abbrev leaf_between : Constraint
leaf_between = over (middle (codes "A") ∷ leaf_of (codes "L") ∷ middle (codes "B") ∷ []) None

three_different : (p : Spots) → matches (layout_of (tower p)) leaf_between (1 ∷ 2 ∷ 3 ∷ []) ≡ true
three_different p = refl

same_apart : (p : Spots) → matches (layout_of (tower p)) leaf_between (1 ∷ 2 ∷ 1 ∷ []) ≡ false
same_apart p = refl

-- PART_OF asks for the slot just above, also below two ANDs
abbrev part_of : List ℕ → asking.Condition
part_of whole = conditions.PartOf (leaf (codes "L")) (leaf whole)

abbrev leaf_and : Object → Option asking.Condition → Spots → List (List ℕ)
leaf_and whole condition p = tuples_of (layout_of (tower p)) (over (leaf_of (codes "L") ∷ whole ∷ []) condition)

of_middle : (p : Spots)
    → leaf_and (middle (codes "M")) (Some (part_of (codes "M"))) p ≡ (2 ∷ 1 ∷ []) ∷ (4 ∷ 3 ∷ []) ∷ []
of_middle p = refl

unasked : (p : Spots)
    → leaf_and (middle (codes "M")) (Some (part_of (codes "M"))) p
    ≢ (2 ∷ 1 ∷ []) ∷ (2 ∷ 3 ∷ []) ∷ (4 ∷ 1 ∷ []) ∷ (4 ∷ 3 ∷ []) ∷ []
unasked p e = cc

of_top : (p : Spots)
    → leaf_and (of_class (codes "T") (codes "TOPS")) (Some (part_of (codes "T"))) p ≡ []
of_top p = refl

any_above : (p : Spots)
    → leaf_and (of_class (codes "T") (codes "TOPS")) (Some (part_of (codes "T"))) p ≢ (2 ∷ 0 ∷ []) ∷ (4 ∷ 0 ∷ []) ∷ []
any_above p e = cc

abbrev deep_part : Spots → asking.Condition
deep_part p = conditions.And' p.node (conditions.And' p.node (is_yes p) p.node (part_of (codes "M"))) p.node (is_yes p)

below_two : (p : Spots)
    → leaf_and (middle (codes "M")) (Some (deep_part p)) p ≡ (2 ∷ 1 ∷ []) ∷ (4 ∷ 3 ∷ []) ∷ []
below_two p = refl

top_alone : (p : Spots)
    → leaf_and (middle (codes "M")) (Some (deep_part p)) p
    ≢ (2 ∷ 1 ∷ []) ∷ (2 ∷ 3 ∷ []) ∷ (4 ∷ 1 ∷ []) ∷ (4 ∷ 3 ∷ []) ∷ []
top_alone p e = cc

-- a CONDITION of nothing but PART_OF asks nothing of values
abbrev part : Condition
part = PartOf (leaf (codes "L")) (leaf (codes "M"))

nothing_asked : asked_of (Some (And part part)) ≡ None
nothing_asked = refl

part_asked : asked_of (Some part) ≢ Some part
part_asked e = cc

if_alone : both (asked_of (Some part)) (Some (Or part part)) ≡ Some (Or part part)
if_alone = refl

-- texts that no value is: each once, CONDITION first, and a restriction before its IF
abbrev naming : Spots → Model
naming p = record (ring p) {
  dependencies =
      called (codes "C") (constraint (of_class (codes "R") (codes "RINGS") ∷ [])
      (Some (condition_box p (asks p (member (codes "R") (codes "X")) relators.Equal (text (codes "Q1")))))
      (where_true p (asks p (member (codes "R") (codes "X")) relators.Equal (text (codes "Q3")))
      (demands.Relation (relation p (member (codes "R") (codes "A")) relators.Equal (text (codes "Q2"))))
      ∷ relates p (member (codes "R") (codes "B")) relators.Equal (text (codes "Q1"))
      ∷ relates p (member (codes "R") (codes "B")) relators.Equal (text (codes "2"))
      ∷ []) [])
      ∷ selection p (codes "S") (asks p (plain (codes "X")) relators.Equal (text (codes "Q4")))
      ∷ [];
}

abbrev behind_values : List (List ℕ) → List (List ℕ)
behind_values named = codes "0" ∷ codes "1" ∷ codes "2" ∷ named

named_once : (p : Spots)
    → texts_of (naming p)
    ≡ codes "0" ∷ codes "1" ∷ codes "2" ∷ codes "Q1" ∷ codes "Q2" ∷ codes "Q3" ∷ codes "Q4" ∷ []
named_once p = refl

abbrev number_named : Spots → List ℕ → ℕ
number_named p name = text_number (texts_of (naming p)) name

named_twice : (p : Spots) → number_named p (codes "Q4") ≢ 7
named_twice p e = cc

if_first : (p : Spots) → number_named p (codes "Q3") ≢ 4
if_first p e = cc

condition_last : (p : Spots) → number_named p (codes "Q1") ≢ 5
condition_last p e = cc

value_again : (p : Spots) → number_named p (codes "2") ≢ 6
value_again p e = cc

-- cuts: only `=` rounds its literal, so 5.05 makes two grains elsewhere, and three there (equal_rounds)
abbrev cut_by : List Restriction → List Domain
cut_by restrictions = domains_of (layout_of (restricted restrictions)) []

abbrev tenths : ℕ → ℕ → Grain
tenths low high = interval (pos (low * 100_000)) (pos (high * 100_000))

abbrev a_in : List Grain → List Domain
a_in grains = Nums 1 grains ∷ Nums 0 (plans.from_to 0 100 ∷ []) ∷ []

abbrev grains_in : Domain → ℕ
grains_in (Texts listed) = length listed
grains_in (Nums decimals grains) = length grains

abbrev grains_by : List Restriction → List ℕ
grains_by restrictions = map grains_in (cut_by restrictions)

abbrev item : ℕ → Item
item n = items.Number (record { negative = false; leaf = record { number = millionths n; start = 0; end = 0 } })

abbrev one_of : List Item → Restriction
one_of listed = always (demands.Relation (relations.Within (Member (leaf (codes "X")) (leaf (codes "A"))) listed))

unequal_stays : (p : Spots)
    → cut_by (relates p a relators.Unequal (number 5_050_000) ∷ []) ≡ a_in (tenths 0 50 ∷ tenths 51 1000 ∷ [])
unequal_stays p = refl

unequal_rounds : (p : Spots) → grains_by (relates p a relators.Unequal (number 5_050_000) ∷ []) ≢ 3 ∷ 1 ∷ []
unequal_rounds p e = cc

listed_stays : cut_by (one_of (item 5_050_000 ∷ []) ∷ []) ≡ a_in (tenths 0 50 ∷ tenths 51 1000 ∷ [])
listed_stays = refl

listed_rounds : grains_by (one_of (item 5_050_000 ∷ []) ∷ []) ≢ 3 ∷ 1 ∷ []
listed_rounds e = cc

equal_stays : (p : Spots) → grains_by (relates p a relators.Equal (number 5_050_000) ∷ []) ≢ 2 ∷ 1 ∷ []
equal_stays p e = cc

-- an end of the list cuts too, and a number below it doesn't
at_the_end : (p : Spots)
    → cut_by (relates p a relators.Less (whole 100) ∷ []) ≡ a_in (tenths 0 999 ∷ tenths 1000 1000 ∷ [])
at_the_end p = refl

end_left_out : (p : Spots) → grains_by (relates p a relators.Less (whole 100) ∷ []) ≢ 1 ∷ 1 ∷ []
end_left_out p e = cc

below_the_list : (p : Spots)
    → cut_by (relates p a relators.Greater (terms.Negated' p.node (whole 5)) ∷ []) ≡ a_in (tenths 0 1000 ∷ [])
below_the_list p = refl

sign_lost : (p : Spots) → grains_by (relates p a relators.Greater (terms.Negated' p.node (whole 5)) ∷ []) ≢ 3 ∷ 1 ∷ []
sign_lost p e = cc

other_cut : (p : Spots) → grains_by (relates p b relators.Less (whole 5) ∷ []) ≡ 1 ∷ 3 ∷ []
other_cut p = refl

all_cut : (p : Spots) → grains_by (relates p b relators.Less (whole 5) ∷ []) ≢ 3 ∷ 3 ∷ []
all_cut p e = cc

-- a procedure's look-up: T has the key A, and gives its B to A; its cells cut nothing. What is filled is what is named
-- behind `=`, not the column
abbrev looking : Spots → Model
looking p = record lists {
  tables = record {
    name = codes "T";
    file = [];
    columns = record { characteristic = 0; key = true } ∷ column 1 ∷ [];
  } ∷ [];
  dependencies = procedure (codes "P") (does (actions.Table (calls (codes "T")
      (binds p (codes "B") (own (codes "A")) ∷ binds p (codes "A") (whole 7) ∷ []))) ∷ []) ∷ [];
  nets = [];
  objects = record (object (codes "M") 0 []) { procedures = 0 ∷ [] } ∷ [];
}

abbrev cells : List VariantTable
cells = rows ((Num (millionths 7_000_000) ∷ Num (millionths 8_000_000) ∷ []) ∷ []) ∷ []

abbrev looked_up : Spots → List (List Action)
looked_up p =
    map (λ procedure. map (λ statement. statement.action) procedure.statements)
    (plan_of p.node (looking p) cells).procedures

abbrev fills : ℕ → Action
fills v = LookUp 0 (record { column = 0; term = 0 } ∷ []) (record { column = 1; var = v } ∷ [])

fills_what_is_named : (p : Spots) → looked_up p ≡ (fills 0 ∷ []) ∷ []
fills_what_is_named p = refl

abbrev filled_var : List FilledColumn → ℕ
filled_var [] = 0
filled_var (filled ∷ more) = filled.var

abbrev filled_in : List (List Action) → ℕ
filled_in ((LookUp table keys filled ∷ actions) ∷ more) = filled_var filled
filled_in procedures = 0

fills_the_column : (p : Spots) → filled_in (looked_up p) ≢ 1
fills_the_column p e = apart 0 0 (sym e)

keys_forgotten : (p : Spots)
    → looked_up p ≢ (LookUp 0 [] (record { column = 1; var = 0 } ∷ record { column = 0; var = 0 } ∷ []) ∷ []) ∷ []
keys_forgotten p e = cc

no_cell_cuts : (p : Spots) → map grains_in (domains_of (layout_of (looking p)) cells) ≡ 1 ∷ 1 ∷ []
no_cell_cuts p = refl

cells_cut : (p : Spots) → map grains_in (domains_of (layout_of (looking p)) cells) ≢ 3 ∷ 1 ∷ []
cells_cut p e = cc

-- which columns are keys, and each table's own rows
key_columns : (p : Spots)
    → map (λ table. map (λ column. column.key) table.columns) (tables_of (looking p) cells) ≡ (true ∷ false ∷ []) ∷ []
key_columns p = refl

no_keys : (p : Spots)
    → map (λ table. map (λ column. column.key) table.columns) (tables_of (looking p) cells) ≢ (false ∷ false ∷ []) ∷ []
no_keys p e = cc

abbrev two_tables : Model
two_tables = record empty {
  tables = record { name = codes "T"; file = []; columns = [] } ∷ record { name = codes "U"; file = []; columns = [] }
      ∷ [];
}

abbrev both_rows : List VariantTable
both_rows = rows ((Text 0 ∷ []) ∷ []) ∷ rows ((Text 1 ∷ []) ∷ (Text 2 ∷ []) ∷ []) ∷ []

own_rows : map (λ table. table.rows) (tables_of two_tables both_rows)
    ≡ ((Text 0 ∷ []) ∷ []) ∷ ((Text 1 ∷ []) ∷ (Text 2 ∷ []) ∷ []) ∷ []
own_rows = refl

rows_of_the_first : map (λ table. table.rows) (tables_of two_tables both_rows)
    ≢ ((Text 0 ∷ []) ∷ []) ∷ ((Text 0 ∷ []) ∷ []) ∷ []
rows_of_the_first e = cc

-- a literal at the left turns its relation round, in a restriction alone; `<>` of two sides is compared
abbrev turned_round : Spots → List Relator → List Kind
turned_round p listed = map (λ rule. rule.kind)
    (plan_of p.node (restricted (map (λ relator. relates p (whole 5) relator a) listed)) []).rules

abbrev against_five : Relation → Kind
against_five r = Among 0 (Against r (plans.whole 5))

all_turned : (p : Spots)
    → turned_round p (relators.Equal ∷ relators.Unequal ∷ relators.Less ∷ relators.LessEqual ∷ relators.Greater ∷ [])
    ≡ against_five Equal ∷ against_five Unequal ∷ against_five Greater ∷ against_five AtLeast ∷ against_five Less
    ∷ Last 0 ∷ Last 1 ∷ []
all_turned p = refl

not_turned : (p : Spots) → turned_round p (relators.Less ∷ []) ≢ against_five Less ∷ Last 0 ∷ Last 1 ∷ []
not_turned p e = cc

denied : (p : Spots) → turned_round p (relators.Less ∷ []) ≢ against_five AtLeast ∷ Last 0 ∷ Last 1 ∷ []
denied p e = cc

abbrev sides_kind : Spots → Relator → List Kind
sides_kind p relator = map (λ rule. rule.kind) (plan_of p.node (restricted (relates p a relator b ∷ [])) []).rules

sides_differ : (p : Spots) → sides_kind p relators.Unequal ≡ Compare Unequal 0 1 ∷ Last 0 ∷ Last 1 ∷ []
sides_differ p = refl

equated : (p : Spots) → sides_kind p relators.Unequal ≢ Equate 0 1 ∷ Last 0 ∷ Last 1 ∷ []
equated p e = cc

compared : (p : Spots) → sides_kind p relators.Equal ≢ Compare Equal 0 1 ∷ Last 0 ∷ Last 1 ∷ []
compared p e = cc

-- a condition stays as it is written, and IN keeps the signs of its numbers
abbrev if_asked : Spots → asking.Condition → List planned.Condition
if_asked p condition =
    (plan_of p.node (restricted (where_true p condition demands.False ∷ [])) []).conditions

as_written : (p : Spots)
    → if_asked p (asks p (whole 5) relators.Less a) ≡ Always ∷ Compared Less (Literal (plans.whole 5)) (Read 0) ∷ []
as_written p = refl

turned_there : (p : Spots)
    → if_asked p (asks p (whole 5) relators.Less a) ≢ Always ∷ Compared Greater (Read 0) (Literal (plans.whole 5)) ∷ []
turned_there p e = cc

abbrev minus_five : Item
minus_five =
    items.Number (record { negative = true; leaf = record { number = millionths 5_000_000; start = 0; end = 0 } })

abbrev in_minus_five : Spots → List planned.Condition
in_minus_five p =
    if_asked p
    (conditions.Relation (relations.Within (Member (leaf (codes "X")) (leaf (codes "A"))) (minus_five ∷ [])))

signed : (p : Spots)
    → in_minus_five p
    ≡ Always ∷ IsIn 0 (Stretch (interval (neg_ℤ (pos 5_000_000)) (neg_ℤ (pos 5_000_000))) ∷ []) ∷ []
signed p = refl

-- constraints come before Last (of_ring), their restrictions are counted anew, and each is active once, in the order
-- of the model, however many nets have it
abbrev ring_rules : Spots → List (Option ℕ)
ring_rules p = map (λ rule. rule.dependency) (plan_of p.node (ring p) []).rules

last_first : (p : Spots) → ring_rules p ≢ None ∷ None ∷ None ∷ Some 0 ∷ Some 1 ∷ []
last_first p e = cc

counted_on : (p : Spots)
    → map (λ rule. rule.number) (plan_of p.node (ring p) []).rules ≢ 1 ∷ 2 ∷ 0 ∷ 0 ∷ 0 ∷ []
counted_on p e = cc

abbrev in_nets : Spots → List ℕ
in_nets p = active_constraints (layout_of (record (ring p) {
  nets = net (1 ∷ 0 ∷ []) ∷ net (1 ∷ []) ∷ [];
  objects = record (object (codes "RING") 0 []) { nets = 0 ∷ 1 ∷ [] } ∷ [];
}))

active_once : (p : Spots) → in_nets p ≡ 0 ∷ 1 ∷ []
active_once p = refl

active_twice : (p : Spots) → in_nets p ≢ 1 ∷ 0 ∷ 1 ∷ []
active_twice p e = cc

in_net_order : (p : Spots) → in_nets p ≢ 1 ∷ 0 ∷ []
in_net_order p e = cc

-- the net of a component is active, and that of an object without a slot isn't; nor is used what stands there
abbrev drive_net : Spots → List BillItem → Model
drive_net p bill = record (machine p) {
  nets = net (0 ∷ []) ∷ [];
  objects = record (object (codes "DRIVE") 0 []) { nets = 0 ∷ [] } ∷ object (codes "MACH") 1 bill ∷ [];
}

of_component : (p : Spots) → active_constraints (layout_of (drive_net p (brings p 10 0 [] ∷ []))) ≡ 0 ∷ []
of_component p = refl

root_alone : (p : Spots) → active_constraints (layout_of (drive_net p (brings p 10 0 [] ∷ []))) ≢ []
root_alone p e = cc

without_slot : (p : Spots) → active_constraints (layout_of (drive_net p [])) ≡ []
without_slot p = refl

any_object : (p : Spots) → active_constraints (layout_of (drive_net p [])) ≢ 0 ∷ []
any_object p e = cc

used_nowhere : (p : Spots) → used_dependencies (layout_of (tower p)) ≡ 0 ∷ 1 ∷ 2 ∷ 4 ∷ 5 ∷ 6 ∷ []
used_nowhere p = refl

all_used : (p : Spots) → used_dependencies (layout_of (tower p)) ≢ 0 ∷ 1 ∷ 2 ∷ 3 ∷ 4 ∷ 5 ∷ 6 ∷ []
all_used p e = cc

-- faults: the typing before rules, atoms and cells; the first line before the least kind; 500,001 cells
abbrev fault : ℕ → TypeFaultKind → TypeFault
fault line kind = record { line = line; kind = kind }

typing_first : typing_fault_or (Some faults.TooManyRules) (Some (fault 3 kinds.NoKey))
    ≡ Some (faults.Typing kinds.NoKey 3)
typing_first = refl

sizes_first : typing_fault_or (Some faults.TooManyRules) (Some (fault 3 kinds.NoKey)) ≢ Some faults.TooManyRules
sizes_first e = cc

kinds_first : first_of (fault 8 kinds.UnknownName ∷ fault 7 kinds.NoKey ∷ []) ≢ Some (fault 8 kinds.UnknownName)
kinds_first e = cc

first_met : first_of (fault 7 kinds.NoKey ∷ fault 7 kinds.WrongKind ∷ []) ≢ Some (fault 7 kinds.NoKey)
first_met e = cc

abbrev cells_of : ℕ → Plan
cells_of n = record plans.empty { rules = record (plans.rule 0 [] Never) { slots = replicate n 0 } ∷ [] }

many_cells : has_too_many_cells (cells_of 500_001) ≡ true
many_cells = refl

enough_cells : has_too_many_cells (cells_of 500_000) ≡ false
enough_cells = refl

-- by their numbers
fault_numbers : map number_of
    (faults.TooDeep ∷ faults.TooManySlots ∷ faults.TooManyRules ∷ faults.TooManyAtoms ∷ faults.TooManyCells
    ∷ faults.Typing kinds.NoKey 3 ∷ faults.OutOfMemory ∷ [])
    ≡ Some 1 ∷ Some 2 ∷ Some 3 ∷ Some 4 ∷ Some 5 ∷ Some 6 ∷ None ∷ []
fault_numbers = refl
