-- Constraints over two objects, with PART_OF, WHERE, and a text that no value is.
use Rattle.std.proofs.Common.{◌≡◌, not, ℕ, true, false, List, [], ◌∷◌, refl}
use Rattle.std.specs.Prelude.{None, Some, codes}
use Rattle.std.specs.List.{filter}
use Rattle.vc_value.specs.declared.table_header.Domain.TheVariants.{Texts, Nums}
use Rattle.vc_value.specs.declared.value.Value.TheVariants.{Text}
use Rattle.vc_model_parts.specs.declared.parts.Component.TheVariants as components
use Rattle.vc_model_parts.specs.declared.parts.Model.{Model}
use Rattle.vc_syntax_tree.specs.declared.Condition.TheVariants as conditions
use Rattle.vc_syntax_tree.specs.declared.Demand.TheVariants as demands
use Rattle.vc_syntax_tree.specs.declared.Item.TheVariants as items
use Rattle.vc_syntax_tree.specs.declared.Object.{Object}
use Rattle.vc_syntax_tree.specs.declared.ObjectKind.TheVariants as kinds
use Rattle.vc_syntax_tree.specs.declared.Operand.TheVariants.{Member, Variable}
use Rattle.vc_syntax_tree.specs.declared.Relation.TheVariants as relations
use Rattle.vc_syntax_tree.specs.declared.Relator.TheVariants as relators
use Rattle.vc_syntax_tree.specs.declared.SignedNumber.{SignedNumber}
use Rattle.vc_syntax_tree.specs.declared.Term.TheVariants as terms
use Rattle.vc_syntax_tree.specs.Trees.{Constraint}
use Rattle.vc_plan.specs.declared.conditions.Condition.{Condition}
use Rattle.vc_plan.specs.declared.conditions.Condition.TheVariants.{Always, Compared, And'}
use Rattle.vc_plan.specs.declared.conditions.Piece.TheVariants.{Stretch}
use Rattle.vc_plan.specs.declared.conditions.Relation.TheVariants.{Equal, Greater}
use Rattle.vc_plan.specs.declared.plans.Plan.{Plan}
use Rattle.vc_plan.specs.declared.rules.Kind.{Kind}
use Rattle.vc_plan.specs.declared.rules.Kind.TheVariants.{Among, Line}
use Rattle.vc_plan.specs.declared.rules.Restriction.TheVariants.{Against, OneOf}
use Rattle.vc_plan.specs.declared.rules.Rule.{Rule}
use Rattle.vc_plan.specs.declared.terms.Term.TheVariants.{Literal, Read}
use Rattle.vc_plan.proofs.PlanRows.Models as plans
use Rattle.vc_compile_plan.specs.Layouts.{layout_of}
use Rattle.vc_compile_plan.specs.PlanOf.{plan_of}
use Rattle.vc_compile_plan.specs.Trees.{Spot}
use Rattle.vc_compile_plan.specs.Texts.{each_once, is_text_of}
use Rattle.vc_compile_plan.specs.Tuples.{tuples_of}
use Rattle.vc_compile_plan.proofs.PlanRows.Words.{Spots, leaf, millionths, condition_box, text, whole, member, relation}
use Rattle.vc_compile_plan.proofs.PlanRows.Words.{asks, both, of_class, always, where_true, constraint, inferred}
use Rattle.vc_compile_plan.proofs.PlanRows.Words.{called, listed_text, texts, from_to, numbers, characteristic, class}
use Rattle.vc_compile_plan.proofs.PlanRows.Words.{net, line, object, empty}

-- MACH has two DRIVEs: variable 0 is DRIVEN, 1 and 2 are POWER and SPEED of the first DRIVE, 3 and 4 those of the
-- second.
-- The restrictions ask that the drive is a part of the machine and that this is driven; ?V is the drive's POWER
abbrev signed : ℕ → SignedNumber
signed n = record { negative = false; leaf = record { number = millionths n; start = 0; end = 0 } }

abbrev drive : Object
drive = record (of_class (codes "D") (codes "DRIVES")) {
  aliases = record { variable = leaf (codes "V"); characteristic = leaf (codes "POWER") } ∷ [];
}

abbrev twins : Spots → Model
twins p = record empty {
  characteristics =
      characteristic (codes "DRIVEN") false (texts false (listed_text 0 ∷ listed_text 1 ∷ []))
      ∷ characteristic (codes "POWER") true (texts false (listed_text 2 ∷ listed_text 3 ∷ []))
      ∷ characteristic (codes "SPEED") true (numbers 0 (from_to 0 100 ∷ []))
      ∷ [];
  texts = codes "Y" ∷ codes "N" ∷ codes "P1" ∷ codes "P2" ∷ [];
  classes = class (codes "DRIVES") (1 ∷ 2 ∷ []) ∷ class (codes "MACHS") (0 ∷ []) ∷ [];
  dependencies = called (codes "C_DRIVE") (constraint (of_class (codes "M") (codes "MACHS") ∷ drive ∷ [])
      (Some (condition_box p (both p (conditions.PartOf (leaf (codes "D")) (leaf (codes "M")))
      (asks p (member (codes "M") (codes "DRIVEN")) relators.Equal (text (codes "Y"))))))
      (where_true p (asks p (member (codes "D") (codes "SPEED")) relators.Greater (whole 5))
      (demands.Relation (relation p (terms.Operand (Variable (leaf (codes "V")))) relators.Equal (text (codes "P9"))))
      ∷ always (demands.Relation (relations.Within (Member (leaf (codes "D")) (leaf (codes "SPEED")))
      (items.Interval (signed 1_000_000) (signed 3_000_000) ∷ items.Number (signed 7_000_000) ∷ [])))
      ∷ [])
      (Variable (leaf (codes "V")) ∷ inferred (codes "D") (codes "POWER") ∷ inferred (codes "D") (codes "SPEED") ∷ []))
      ∷ [];
  nets = net (0 ∷ []) ∷ [];
  objects =
      object (codes "DRIVE") 0 []
      ∷ record (object (codes "MACH") 1
      (line p 10 (components.Object 0) 1 [] ∷ line p 20 (components.Object 0) 1 [] ∷ [])) { nets = 0 ∷ [] }
      ∷ [];
  root = 1;
}

abbrev twin_plan : Spots → Plan
twin_plan p = plan_of p.node (twins p) []

-- the text that no value is comes behind the others
twin_texts : (p : Spots) → (twin_plan p).texts ≡ codes "Y" ∷ codes "N" ∷ codes "P1" ∷ codes "P2" ∷ codes "P9" ∷ []
twin_texts p = refl

-- what is inferred by two names stands once
abbrev at_tuple : ℕ → ℕ → ℕ → List ℕ → Kind → Rule
at_tuple slot number condition inferred kind =
    record {
      dependency = Some 0;
      number = number;
      slots = 0 ∷ slot
          ∷ [];
      condition = condition;
      inferred = inferred;
      kind = kind;
    }

twin_rules : (p : Spots)
    → (twin_plan p).rules
    ≡ at_tuple 1 1 1 (1 ∷ 2 ∷ []) (Among 1 (Against Equal (Text 4)))
    ∷ at_tuple 1 2 2 (1 ∷ 2 ∷ []) (Among 2 (OneOf (Stretch (plans.from_to 1 3) ∷ Stretch (plans.from_to 7 7) ∷ [])))
    ∷ at_tuple 2 1 3 (3 ∷ 4 ∷ []) (Among 3 (Against Equal (Text 4)))
    ∷ at_tuple 2 2 4 (3 ∷ 4 ∷ []) (Among 4 (OneOf (Stretch (plans.from_to 1 3) ∷ Stretch (plans.from_to 7 7) ∷ [])))
    ∷ plans.last 0 ∷ plans.last 1 ∷ plans.last 2 ∷ plans.last 3 ∷ plans.last 4
    ∷ plans.own_rule 0 (Line 1)
    ∷ plans.own_rule 0 (Line 2)
    ∷ []
twin_rules p = refl

-- CONDITION without PART_OF, and IF behind it
abbrev driven : Condition
driven = Compared Equal (Read 0) (Literal (Text 0))

abbrev driven_fast : Spot → ℕ → Condition
driven_fast p v = And' p driven p (Compared Greater (Read v) (Literal (plans.whole 5)))

twin_conditions : (p : Spots)
    → (twin_plan p).conditions ≡ Always ∷ driven_fast p.node 2 ∷ driven ∷ driven_fast p.node 4 ∷ driven ∷ []
twin_conditions p = refl

-- SPEED is cut at 5, 1, 3 and 7, at both drives alike
twin_domains : (p : Spots)
    → (twin_plan p).domains
    ≡ Texts (0 ∷ 1 ∷ [])
    ∷ Texts (2 ∷ 3 ∷ [])
    ∷ Nums 0 (
    plans.from_to 0 0 ∷ plans.from_to 1 1 ∷ plans.from_to 2 2 ∷ plans.from_to 3 3 ∷ plans.from_to 4 4
    ∷ plans.from_to 5 5
    ∷ plans.from_to 6 6 ∷ plans.from_to 7 7 ∷ plans.from_to 8 100 ∷ [])
    ∷ []
twin_domains p = refl

-- tuples: two drives stand for two variables of one class, in ascending order; a material; and a part the wrong way
-- round
abbrev over : List Object → Constraint
over objects = record { objects = objects; condition = None; restrictions = []; inferences = [] }

abbrev named_drive : Object
named_drive = record {
  variable = leaf (codes "D");
  kind =
      kinds.Material (record { text = codes "DRIVE"; start = 0; end = 0 });
  aliases = [];
}

two_drives : (p : Spots)
    → tuples_of (layout_of (twins p))
    (over (of_class (codes "A") (codes "DRIVES") ∷ of_class (codes "B") (codes "DRIVES") ∷ []))
    ≡ (1 ∷ 2 ∷ []) ∷ (2 ∷ 1 ∷ []) ∷ []
two_drives p = refl

by_material : (p : Spots) → tuples_of (layout_of (twins p)) (over (named_drive ∷ [])) ≡ (1 ∷ []) ∷ (2 ∷ []) ∷ []
by_material p = refl

machine_last : (p : Spots)
    → tuples_of (layout_of (twins p)) (over (named_drive ∷ of_class (codes "M") (codes "MACHS") ∷ []))
    ≡ (1 ∷ 0 ∷ []) ∷ (2 ∷ 0 ∷ []) ∷ []
machine_last p = refl

of_no_class : (p : Spots) → tuples_of (layout_of (twins p)) (over (of_class (codes "A") (codes "LAMPS") ∷ [])) ≡ []
of_no_class p = refl

abbrev unlisted_of : List (List ℕ) → List (List ℕ)
unlisted_of named = each_once (filter (λ text. not (is_text_of (codes "S" ∷ []) text)) named)

-- a text that is named twice, and one that is a value
named_twice : unlisted_of (codes "S" ∷ codes "Q" ∷ codes "R" ∷ codes "Q" ∷ []) ≡ codes "Q" ∷ codes "R" ∷ []
named_twice = refl
