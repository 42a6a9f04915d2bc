-- Models without a plan, and which fault is told first.
use Rattle.std.proofs.Common.{List, ◌≡◌, ℕ, false, replicate, [], ◌∷◌, refl}
use Rattle.std.specs.Prelude.{None, Some, codes}
use Rattle.vc_model_parts.specs.declared.parts.BillItem.{BillItem}
use Rattle.vc_model_parts.specs.declared.parts.Component.TheVariants as components
use Rattle.vc_model_parts.specs.declared.parts.Model.{Model}
use Rattle.vc_model_parts.specs.declared.parts.NamedDependency.{NamedDependency}
use Rattle.vc_model_parts.specs.declared.parts.Object.{Object}
use Rattle.vc_syntax_tree.specs.declared.Action.TheVariants as actions
use Rattle.vc_syntax_tree.specs.declared.Condition.TheVariants as conditions
use Rattle.vc_syntax_tree.specs.declared.Operand.TheVariants.{Plain}
use Rattle.vc_syntax_tree.specs.declared.Relator.TheVariants as relators
use Rattle.vc_syntax_tree.specs.declared.Term.{Term}
use Rattle.vc_types.specs.declared.fault.TypeFaultKind.{TypeFaultKind}
use Rattle.vc_types.specs.declared.fault.TypeFaultKind.TheVariants as kinds
use Rattle.vc_plan.proofs.PlanRows.Models as plans
use Rattle.vc_plan.specs.declared.plans.Plan.{Plan}
use Rattle.vc_value.specs.declared.table_header.Domain.TheVariants.{Texts}
use Rattle.vc_compile_plan.specs.Refusals.{size_fault, has_too_many_rules, has_too_many_atoms, compile_fault, first_of}
use Rattle.vc_compile_plan.specs.Refusals.{TypeFault}
use Rattle.vc_compile_plan.specs.declared.fault.CompileFault.TheVariants as faults
use Rattle.vc_compile_plan.proofs.PlanRows.Models.{pump, step, sizes_and_motors}
use Rattle.vc_compile_plan.proofs.PlanRows.Words.{Spots, text, whole, plain, asks, precondition, term_box, listed_text}
use Rattle.vc_compile_plan.proofs.PlanRows.Words.{texts, from_to, numbers, characteristic, class, line, object, empty}
use Rattle.vc_compile_plan.proofs.PlanRows.Words.{procedure, does, leaf, selection}

-- sound models
pump_is_sound : (p : Spots) → compile_fault p.node (pump p) (sizes_and_motors ∷ []) ≡ None
pump_is_sound p = refl

step_is_sound : (p : Spots) → compile_fault p.node (step p) [] ≡ None
step_is_sound p = refl

-- a chain of five objects with a faulty quantity: the levels are told first; of four, the quantity
abbrev at_line : ℕ → BillItem → BillItem
at_line n item = record item { line = n }

abbrev brings : Spots → ℕ → Term → BillItem
brings p o quantity = record (line p 10 (components.Object o) 1 []) { quantity = term_box p quantity }

abbrev chain : Spots → Model
chain p = record empty {
  classes = class (codes "K") [] ∷ [];
  objects =
      object (codes "A") 0 []
      ∷ object (codes "B") 0 (at_line 7 (brings p 0 (text (codes "X"))) ∷ [])
      ∷ object (codes "C") 0 (at_line 9 (brings p 1 (plain (codes "NONE"))) ∷ [])
      ∷ object (codes "D") 0 (at_line 11 (brings p 2 (whole 1)) ∷ [])
      ∷ object (codes "E") 0 (at_line 13 (brings p 3 (whole 1)) ∷ [])
      ∷ [];
  root = 4;
}

levels_first : (p : Spots) → compile_fault p.node (chain p) [] ≡ Some faults.TooDeep
levels_first p = refl

-- the first line, though the quantity of a later line has a lesser kind
first_line : (p : Spots)
    → compile_fault p.node (record (chain p) { root = 3 }) [] ≡ Some (faults.Typing kinds.WrongKind 7)
first_line p = refl

-- what stands at no slot isn't typed
at_no_slot : (p : Spots) → compile_fault p.node (record (chain p) { root = 0 }) [] ≡ None
at_no_slot p = refl

-- too many slots, before the quantities of their lines
abbrev wide : Spots → ℕ → Model
wide p n = record empty {
  classes = class (codes "K") [] ∷ [];
  objects = object (codes "A") 0 [] ∷ object (codes "B") 0 (replicate n (at_line 5 (brings p 0 (plain (codes "NONE")))))
      ∷ [];
  root = 1;
}

slots_first : (p : Spots) → compile_fault p.node (wide p 40) [] ≡ Some faults.TooManySlots
slots_first p = refl

then_typing : (p : Spots) → compile_fault p.node (wide p 39) [] ≡ Some (faults.Typing kinds.UnknownName 5)
then_typing p = refl

-- one dependency at two objects, whose classes differ: the least kind over its places. A is a text where N is a number
abbrev at : ℕ → NamedDependency → NamedDependency
at n named = record named { line = n }

abbrev two_places : Spots → Model
two_places p = record empty {
  characteristics =
      record (characteristic (codes "A") false (texts false (listed_text 0 ∷ []))) { uses = 0 ∷ [] }
      ∷ characteristic (codes "N") false (numbers 0 (from_to 0 9 ∷ []))
      ∷ [];
  texts = codes "X" ∷ [];
  classes = class (codes "BOTH") (0 ∷ 1 ∷ []) ∷ class (codes "ONE") (0 ∷ []) ∷ [];
  dependencies = at 3 (precondition p (codes "P") (asks p (plain (codes "N")) relators.Equal (plain (codes "A")))) ∷ [];
  objects = object (codes "PART") 1 [] ∷ object (codes "TOP") 0 (line p 10 (components.Object 0) 1 [] ∷ []) ∷ [];
  root = 1;
}

least_kind : (p : Spots) → compile_fault p.node (two_places p) [] ≡ Some (faults.Typing kinds.UnknownName 3)
least_kind p = refl

one_place : (p : Spots)
    → compile_fault p.node (record (two_places p) { objects = object (codes "TOP") 0 [] ∷ []; root = 0 }) []
    ≡ Some (faults.Typing kinds.WrongKind 3)
one_place p = refl

-- what stands at a line, at an operation and in the profile is typed too; NOT SPECIFIED only matters where a line
-- brings a slot
abbrev denies : Spots → Model
denies p = record (two_places p) {
  characteristics = characteristic (codes "A") false (texts false (listed_text 0 ∷ [])) ∷ [];
  classes = class (codes "K") (0 ∷ []) ∷ [];
  dependencies =
      at 4 (selection p (codes "S") (conditions.Not' p.node (conditions.Specified (Plain (leaf (codes "A"))))))
      ∷ at 6 (selection p (codes "S_NONE") (conditions.Specified (Plain (leaf (codes "NONE")))))
      ∷ at 8 (procedure (codes "P_NONE") (does (actions.Assign (leaf (codes "NONE")) (term_box p (whole 1))) ∷ []))
      ∷ [];
}

abbrev denied_with : Spots → List Object → Model
denied_with p tops = record (denies p) { objects = object (codes "PART") 0 [] ∷ tops }

at_component : (p : Spots)
    → compile_fault p.node
    (denied_with p (object (codes "TOP") 0 (line p 10 (components.Object 0) 1 (0 ∷ []) ∷ []) ∷ [])) []
    ≡ Some (faults.Typing kinds.NotMonotone 4)
at_component p = refl

at_plain_line : (p : Spots)
    → compile_fault p.node
    (denied_with p (object (codes "TOP") 0 (line p 10 (components.Plain (codes "SEAL")) 1 (0 ∷ []) ∷ []) ∷ [])) []
    ≡ None
at_plain_line p = refl

at_operation : (p : Spots)
    → compile_fault p.node (denied_with p (record (object (codes "TOP") 0 []) {
      operations = record {
        number = 10;
        centre = codes "ASSY";
        unit = codes "MIN";
        time = term_box p (whole 1);
        uses =
            0 ∷ 1 ∷ [];
        line = 9;
      } ∷ [];
    } ∷ [])) []
    ≡ Some (faults.Typing kinds.UnknownName 6)
at_operation p = refl

in_profile : (p : Spots)
    → compile_fault p.node (denied_with p (record (object (codes "TOP") 0 []) { procedures = 2 ∷ [] } ∷ [])) []
    ≡ Some (faults.Typing kinds.UnknownName 8)
in_profile p = refl

-- faults by line, then by kind
abbrev fault : ℕ → TypeFaultKind → TypeFault
fault line kind = record { line = line; kind = kind }

in_order : first_of (fault 8 kinds.UnknownName ∷ fault 7 kinds.WrongKind ∷ fault 7 kinds.DoubleName
    ∷ fault 7 kinds.NoKey ∷ []) ≡ Some (fault 7 kinds.DoubleName)
in_order = refl

-- sizes: 20,001 rules, and 40 variables of 1,000 texts, which are 40,041 atoms with their slot; rules are told first
abbrev rules_of : ℕ → Plan
rules_of n = record plans.empty { rules = replicate n (plans.last 0) }

abbrev with_vars : Plan → ℕ → Plan
with_vars plan n = record plan {
  domains = Texts (replicate 1_000 0) ∷ [];
  slots = plans.root ∷ [];
  vars = replicate n (plans.open_var 0);
}

many_rules : size_fault (rules_of 20_001) ≡ Some faults.TooManyRules
many_rules = refl

enough_rules : has_too_many_rules (rules_of 20_000) ≡ false
enough_rules = refl

many_atoms : size_fault (with_vars plans.empty 40) ≡ Some faults.TooManyAtoms
many_atoms = refl

enough_atoms : has_too_many_atoms (with_vars plans.empty 39) ≡ false
enough_atoms = refl

rules_first : size_fault (with_vars (rules_of 20_001) 40) ≡ Some faults.TooManyRules
rules_first = refl
