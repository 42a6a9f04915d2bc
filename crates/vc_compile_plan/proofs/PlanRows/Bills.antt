-- Bills of more levels, and lines with selection conditions.
use Rattle.std.proofs.Common.{◌≡◌, ℕ, true, false, replicate, List, [], ◌∷◌, refl}
use Rattle.std.specs.Prelude.{None, Some, codes}
use Rattle.vc_value.specs.declared.value.Value.TheVariants.{Text}
use Rattle.vc_model_parts.specs.declared.parts.BillItem.{BillItem}
use Rattle.vc_model_parts.specs.declared.parts.Component.TheVariants as components
use Rattle.vc_model_parts.specs.declared.parts.Model.{Model}
use Rattle.vc_syntax_tree.specs.declared.Operand.TheVariants.{Owned}
use Rattle.vc_syntax_tree.specs.declared.Owner.TheVariants.{Root}
use Rattle.vc_syntax_tree.specs.declared.Relator.TheVariants as relators
use Rattle.vc_syntax_tree.specs.declared.Term.TheVariants as terms
use Rattle.vc_plan.specs.declared.conditions.Condition.TheVariants.{Always, Compared}
use Rattle.vc_plan.specs.declared.conditions.Relation.TheVariants.{Equal}
use Rattle.vc_plan.specs.declared.plans.Slot.{Slot}
use Rattle.vc_plan.specs.declared.rules.Kind.TheVariants.{Line}
use Rattle.vc_plan.specs.declared.terms.Term.TheVariants.{Literal, Read}
use Rattle.vc_plan.proofs.PlanRows.Models as plans
use Rattle.vc_compile_plan.specs.PlanOf.{plan_of}
use Rattle.vc_compile_plan.specs.Slots.{slots_of, is_too_deep, has_too_many_slots}
use Rattle.vc_compile_plan.specs.Variables.{vars_of, sets_of}
use Rattle.vc_compile_plan.proofs.PlanRows.Words.{Spots, leaf, text, plain, asks, selection, listed_text, texts}
use Rattle.vc_compile_plan.proofs.PlanRows.Words.{characteristic, class, line, object, empty}

-- TOP has a plain line, MIDDLE and LEAF; MIDDLE has LEAF and a plain line
abbrev plain_line : Spots → BillItem
plain_line p = line p 10 (components.Plain (codes "SCREW")) 1 []

abbrev brings : Spots → ℕ → List ℕ → BillItem
brings p o uses = line p 10 (components.Object o) 1 uses

abbrev nested : Spots → Model
nested p = record empty {
  characteristics = characteristic (codes "C") false (texts false (listed_text 0 ∷ [])) ∷ [];
  texts = codes "Y" ∷ [];
  classes = class (codes "LEAFS") [] ∷ class (codes "OTHERS") (0 ∷ []) ∷ [];
  objects =
      object (codes "LEAF") 0 []
      ∷ object (codes "MIDDLE") 1 (brings p 0 (0 ∷ 1 ∷ []) ∷ plain_line p ∷ [])
      ∷ object (codes "TOP") 1 (plain_line p ∷ brings p 1 [] ∷ brings p 0 [] ∷ [])
      ∷ [];
  dependencies =
      selection p (codes "S_C") (asks p (plain (codes "C")) relators.Equal (text (codes "Y")))
      ∷ selection p (codes "S_ROOT")
      (asks p (terms.Operand (Owned Root (leaf (codes "C")))) relators.Equal (text (codes "Y")))
      ∷ [];
  root = 2;
}

abbrev below : ℕ → ℕ → ℕ → ℕ → Slot
below parent depth o line = record { parent = Some parent; depth = depth; object = o; line = line }

-- in preorder; the lines of TOP are 0 to 2, those of MIDDLE 3 and 4
nested_slots : (p : Spots)
    → slots_of (nested p)
    ≡ record { parent = None; depth = 0; object = 2; line = 0 } ∷ below 0 1 1 1 ∷ below 1 2 0 3 ∷ below 0 1 0 2 ∷ []
nested_slots p = refl

-- TOP and MIDDLE have a variable each, and LEAF has none
nested_vars : (p : Spots)
    → (plan_of p.node (nested p) []).vars
    ≡ record { slot = 0; characteristic = 0; domain = 0; restrictable = false }
    ∷ record { slot = 1; characteristic = 0; domain = 0; restrictable = false } ∷ []
nested_vars p = refl

-- where C is MULTIPLE they have sets
abbrev nested_multiple : Spots → Model
nested_multiple p = record (nested p)
    { characteristics = characteristic (codes "C") false (texts true (listed_text 0 ∷ [])) ∷ [] }

multiple_sets : (p : Spots)
    → sets_of (nested_multiple p) (slots_of (nested_multiple p))
    ≡ record { slot = 0; characteristic = 0; domain = 0 } ∷ record { slot = 1; characteristic = 0; domain = 0 } ∷ []
multiple_sets p = refl

multiple_vars : (p : Spots) → vars_of (nested_multiple p) (slots_of (nested_multiple p)) ≡ []
multiple_vars p = refl

-- the LEAF of MIDDLE has a rule for each of its selection conditions, asked of MIDDLE and of the root; the others ask
-- nothing
nested_rules : (p : Spots)
    → (plan_of p.node (nested p) []).rules
    ≡ plans.last 0
    ∷ plans.last 1
    ∷ plans.own_rule 0 (Line 1)
    ∷ plans.of 0 1 (plans.own_rule 1 (Line 2))
    ∷ plans.of 1 2 (plans.own_rule 2 (Line 2))
    ∷ plans.own_rule 0 (Line 3)
    ∷ []
nested_rules p = refl

nested_conditions : (p : Spots)
    → (plan_of p.node (nested p) []).conditions
    ≡ Always ∷ Compared Equal (Read 1) (Literal (Text 0)) ∷ Compared Equal (Read 0) (Literal (Text 0)) ∷ []
nested_conditions p = refl

-- a chain of objects, each a component of the next
abbrev chain : Spots → Model
chain p = record empty {
  objects =
      object (codes "A") 0 []
      ∷ object (codes "B") 0 (brings p 0 [] ∷ [])
      ∷ object (codes "C") 0 (brings p 1 [] ∷ [])
      ∷ object (codes "D") 0 (brings p 2 [] ∷ [])
      ∷ object (codes "E") 0 (brings p 3 [] ∷ [])
      ∷ [];
  root = 4;
}

five_levels : (p : Spots) → is_too_deep (chain p) ≡ true
five_levels p = refl

four_levels : (p : Spots) → is_too_deep (record (chain p) { root = 3 }) ≡ false
four_levels p = refl

-- a root with so many configurable lines
abbrev wide : Spots → ℕ → Model
wide p n = record empty
    { objects = object (codes "A") 0 [] ∷ object (codes "B") 0 (replicate n (brings p 0 [])) ∷ []; root = 1 }

forty_one : (p : Spots) → has_too_many_slots (wide p 40) ≡ true
forty_one p = refl

forty : (p : Spots) → has_too_many_slots (wide p 39) ≡ false
forty p = refl
