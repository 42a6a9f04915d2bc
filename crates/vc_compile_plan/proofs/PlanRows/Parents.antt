-- `$PARENT` and `$ROOT`, three levels down, and operations with selection conditions.
use Rattle.std.proofs.Common.{◌≡◌, ℕ, false, List, [], ◌∷◌, map, refl}
use Rattle.std.specs.Prelude.{None, codes}
use Rattle.vc_value.specs.declared.value.Value.TheVariants.{Text}
use Rattle.vc_model_parts.specs.declared.parts.BillItem.{BillItem}
use Rattle.vc_model_parts.specs.declared.parts.Component.TheVariants as components
use Rattle.vc_model_parts.specs.declared.parts.Model.{Model}
use Rattle.vc_model_parts.specs.declared.parts.Operation as working
use Rattle.vc_syntax_tree.specs.declared.Action.TheVariants as actions
use Rattle.vc_syntax_tree.specs.declared.Function.TheVariants as functions
use Rattle.vc_syntax_tree.specs.declared.Operand.TheVariants.{Owned}
use Rattle.vc_syntax_tree.specs.declared.Operator.TheVariants as operators
use Rattle.vc_syntax_tree.specs.declared.Owner.{Owner}
use Rattle.vc_syntax_tree.specs.declared.Owner.TheVariants.{Itself, Parent, Root}
use Rattle.vc_syntax_tree.specs.declared.Relator.TheVariants as relators
use Rattle.vc_syntax_tree.specs.declared.Term.{Term}
use Rattle.vc_syntax_tree.specs.declared.Term.TheVariants as terms
use Rattle.vc_plan.specs.declared.conditions.Condition.{Condition}
use Rattle.vc_plan.specs.declared.conditions.Condition.TheVariants.{Always, Compared}
use Rattle.vc_plan.specs.declared.conditions.Relation.TheVariants as relations
use Rattle.vc_plan.specs.declared.plans.Named.TheVariants.{Var}
use Rattle.vc_plan.specs.declared.plans.Plan.{Plan}
use Rattle.vc_plan.specs.declared.plans.Requirement.{Requirement}
use Rattle.vc_plan.specs.declared.procedures.Action.TheVariants.{Assign}
use Rattle.vc_plan.specs.declared.procedures.Trigger.TheVariants.{Anyway}
use Rattle.vc_plan.specs.declared.terms.Function.TheVariants as plan_functions
use Rattle.vc_plan.specs.declared.terms.Operator.TheVariants as plan_operators
use Rattle.vc_plan.specs.declared.terms.Term.TheVariants.{Literal, Read}
use Rattle.vc_plan.proofs.PlanRows.Models as plans
use Rattle.vc_compile_plan.specs.Conditions.{relation_of}
use Rattle.vc_compile_plan.specs.PlanOf.{plan_of}
use Rattle.vc_compile_plan.specs.Terms.{function_of, operator_of}
use Rattle.vc_compile_plan.proofs.PlanRows.Words.{Spots, leaf, term_box, text, asks, precondition, procedure, does_if}
use Rattle.vc_compile_plan.proofs.PlanRows.Words.{selection, listed_text, texts, characteristic, class, line, object}
use Rattle.vc_compile_plan.proofs.PlanRows.Words.{empty}

-- TOP has MIDDLE, and MIDDLE has LEAF: each has C, variables 0 to 2, with a precondition that asks for C of the parent.
-- The
-- quantities, and the time of LEAF's operation, are read off the parent; the operation has two selection conditions
abbrev c_of : Owner → Term
c_of owner = terms.Operand (Owned owner (leaf (codes "C")))

abbrev brings : Spots → ℕ → List ℕ → BillItem
brings p o uses = record (line p 10 (components.Object o) 1 uses) { quantity = term_box p (c_of Parent) }

abbrev works : Spots → working.Operation
works p = record {
  number = 10;
  centre = codes "ASSY";
  unit = codes "MIN";
  time = term_box p (c_of Parent);
  uses = 1 ∷ 2
      ∷ [];
  line = 0;
}

abbrev family : Spots → Model
family p = record empty {
  characteristics = record (characteristic (codes "C") false (texts false (listed_text 0 ∷ []))) { uses = 0 ∷ 1 ∷ [] }
      ∷ [];
  texts = codes "Y" ∷ [];
  classes = class (codes "K") (0 ∷ []) ∷ [];
  dependencies =
      precondition p (codes "P") (asks p (c_of Parent) relators.Equal (text (codes "Y")))
      ∷ selection p (codes "S_OWN") (asks p (c_of Itself) relators.Equal (text (codes "Y")))
      ∷ selection p (codes "S_ROOT") (asks p (c_of Root) relators.Equal (text (codes "Y")))
      ∷ selection p (codes "S_PARENT") (asks p (c_of Parent) relators.Equal (text (codes "Y")))
      ∷ procedure (codes "P_OWN") (does_if p (asks p (c_of Root) relators.Equal (text (codes "Y")))
      (actions.Assign (leaf (codes "C")) (term_box p (text (codes "Y")))) ∷ [])
      ∷ [];
  objects =
      record (object (codes "LEAF") 0 []) { operations = works p ∷ [] }
      ∷ record (object (codes "MIDDLE") 0
      (brings p 0 (3 ∷ []) ∷ line p 20 (components.Plain (codes "SCREW")) 1 (3 ∷ 2 ∷ []) ∷ [])) { procedures = 4 ∷ [] }
      ∷ object (codes "TOP") 0 (brings p 1 [] ∷ [])
      ∷ [];
  root = 2;
}

abbrev family_plan : Spots → Plan
family_plan p = plan_of p.node (family p) []

-- the parent of a line is its owner; that of what stands at an instance is the one above. TOP has none, and any number
-- will do
abbrev is_y : ℕ → Condition
is_y v = Compared relations.Equal (Read v) (Literal (Text 0))

family_conditions : (p : Spots)
    → (family_plan p).conditions
    ≡ Always ∷ is_y 1 ∷ is_y 0 ∷ is_y 0 ∷ is_y 1 ∷ is_y 0 ∷ is_y 1 ∷ is_y 2 ∷ is_y 1 ∷ is_y 0 ∷ is_y 2 ∷ is_y 0 ∷ is_y 0
    ∷ []
family_conditions p = refl

family_guards : (p : Spots)
    → (family_plan p).guards
    ≡ record { at = Var 0; value = None; dependency = 0; condition = 2 }
    ∷ record { at = Var 1; value = None; dependency = 0; condition = 3 }
    ∷ record { at = Var 2; value = None; dependency = 0; condition = 4 }
    ∷ []
family_guards p = refl

-- lines of TOP and MIDDLE: the quantities are read off their owners
family_terms : (p : Spots)
    → (family_plan p).terms ≡ Read 0 ∷ Read 1 ∷ Literal (plans.whole 1) ∷ Read 1 ∷ Literal (Text 0) ∷ []
family_terms p = refl

family_lines : (p : Spots)
    → (family_plan p).lines
    ≡ record { slot = 0; item = 10; material = codes "MIDDLE"; unit = codes "PC"; quantity = 0; selections = [] }
    ∷ record { slot = 1; item = 10; material = codes "LEAF"; unit = codes "PC"; quantity = 1; selections = [] }
    ∷ record {
      slot = 1;
      item = 20;
      material = codes "SCREW";
      unit = codes "PC";
      quantity = 2;
      selections = record { dependency = 3; condition = 8 } ∷ record { dependency = 2; condition = 9 } ∷ [];
    }
    ∷ []
family_lines p = refl

family_operations : (p : Spots)
    → (family_plan p).operations
    ≡ record {
      slot = 2;
      number = 10;
      name = codes "ASSY";
      unit = codes "MIN";
      time = 3;
      selections = record { dependency = 1; condition = 10 } ∷ record { dependency = 2; condition = 11 } ∷ [];
    } ∷ []
family_operations p = refl

-- each C is asked for, and MIDDLE's procedure comes behind all else
abbrev asks_for : ℕ → ℕ → Requirement
asks_for v condition = record { at = Var v; selection = record { dependency = 1; condition = condition } }

family_requirements : (p : Spots) → (family_plan p).requirements ≡ asks_for 0 5 ∷ asks_for 1 6 ∷ asks_for 2 7 ∷ []
family_requirements p = refl

family_procedures : (p : Spots)
    → (family_plan p).procedures
    ≡ record {
      slot = 1;
      dependency = 4;
      trigger = Anyway;
      statements = record { action = Assign 1 4; condition = 12 }
          ∷ [];
    } ∷ []
family_procedures p = refl

-- relations, operators and functions
all_relations : map relation_of
    (relators.Equal ∷ relators.Unequal ∷ relators.Less ∷ relators.LessEqual ∷ relators.Greater ∷ relators.GreaterEqual
    ∷ [])
    ≡ relations.Equal ∷ relations.Unequal ∷ relations.Less ∷ relations.AtMost ∷ relations.Greater ∷ relations.AtLeast
    ∷ []
all_relations = refl

all_operators : map operator_of (operators.Plus ∷ operators.Minus ∷ operators.Times ∷ operators.Over ∷ [])
    ≡ plan_operators.Plus ∷ plan_operators.Minus ∷ plan_operators.Times ∷ plan_operators.Over ∷ []
all_operators = refl

all_functions : map function_of
    (functions.Abs ∷ functions.Sign ∷ functions.Trunc ∷ functions.Floor ∷ functions.Ceil ∷ functions.Frac ∷ [])
    ≡ plan_functions.Abs ∷ plan_functions.Sign ∷ plan_functions.Trunc ∷ plan_functions.Floor ∷ plan_functions.Ceil
    ∷ plan_functions.Frac ∷ []
all_functions = refl
