-- What stands at characteristics and values: preconditions, selection conditions and procedures.
use Rattle.std.proofs.Common.{◌≡◌, ℕ, ◌+◌, pos, neg_ℤ, true, false, List, [], ◌∷◌, refl}
use Rattle.std.specs.Prelude.{None, Some, codes}
use Rattle.vc_value.specs.declared.value.Value.TheVariants.{Text}
use Rattle.vc_model_parts.specs.declared.parts.Model.{Model}
use Rattle.vc_syntax_tree.specs.declared.Action.TheVariants as actions
use Rattle.vc_syntax_tree.specs.declared.Condition.TheVariants as conditions
use Rattle.vc_syntax_tree.specs.declared.Item.TheVariants as items
use Rattle.vc_syntax_tree.specs.declared.Operand.TheVariants.{Plain}
use Rattle.vc_syntax_tree.specs.declared.Relation.TheVariants as relations
use Rattle.vc_syntax_tree.specs.declared.Relator.TheVariants as relators
use Rattle.vc_syntax_tree.specs.declared.Term.TheVariants as terms
use Rattle.vc_syntax_tree.specs.declared.TextLeaf.{TextLeaf}
use Rattle.vc_plan.specs.declared.conditions.Condition.TheVariants.{Always, Specified, Holds, Filled, Not', Or'}
use Rattle.vc_plan.specs.declared.conditions.Piece.TheVariants.{OneText, Stretch}
use Rattle.vc_plan.specs.declared.plans.Named.TheVariants.{Var, Set}
use Rattle.vc_plan.specs.declared.plans.Plan.{Plan}
use Rattle.vc_plan.specs.declared.procedures.Action.TheVariants.{Assign, DeleteDefault, LookUp}
use Rattle.vc_plan.specs.declared.procedures.Procedure.{Procedure}
use Rattle.vc_plan.specs.declared.procedures.Statement.{Statement}
use Rattle.vc_plan.specs.declared.procedures.Trigger.{Trigger}
use Rattle.vc_plan.specs.declared.procedures.Trigger.TheVariants.{Anyway, ValueIn, TextIn}
use Rattle.vc_plan.specs.declared.terms.Function.TheVariants.{Negative}
use Rattle.vc_plan.specs.declared.terms.Term.TheVariants.{Literal, Read, PartCount, Applied'}
use Rattle.vc_plan.proofs.PlanRows.Models as plans
use Rattle.vc_plan.proofs.StageRows.StageModels.{says}
use Rattle.vc_compile_plan.specs.Conditions.{holds_one}
use Rattle.vc_compile_plan.specs.PlanOf.{plan_of}
use Rattle.vc_compile_plan.specs.Trees as trees
use Rattle.vc_compile_plan.proofs.PlanRows.Words.{Spots, leaf, text, whole, plain, own, asks, binds, calls}
use Rattle.vc_compile_plan.proofs.PlanRows.Words.{precondition, selection, procedure, does, does_if, term_box}
use Rattle.vc_compile_plan.proofs.PlanRows.Words.{listed_text, texts, from_to, numbers, characteristic, class, column}
use Rattle.vc_compile_plan.proofs.PlanRows.Words.{object, empty}

-- MODE H or N; OPT, a set of A and B; N, 0 .. 9 and 20 .. 30; T has the key MODE, and N
abbrev set_text : List ℕ → TextLeaf
set_text bytes = record { text = bytes; start = 0; end = 0 }

abbrev standing : Spots → Model
standing p = record empty {
  characteristics =
      record (characteristic (codes "MODE") false
      (texts false (record { text = 0; uses = 0 ∷ 5 ∷ [] } ∷ listed_text 1 ∷ []))) { uses = 1 ∷ 2 ∷ 6 ∷ [] }
      ∷ characteristic (codes "OPT") false (texts true (listed_text 2 ∷ record { text = 3; uses = 1 ∷ 5 ∷ [] } ∷ []))
      ∷ characteristic (codes "N") false (numbers 0 (from_to 0 9 ∷ record (from_to 20 30) { uses = 1 ∷ 5 ∷ [] } ∷ []))
      ∷ [];
  texts = codes "H" ∷ codes "N" ∷ codes "A" ∷ codes "B" ∷ [];
  classes = class (codes "K") (2 ∷ 0 ∷ 1 ∷ []) ∷ [];
  tables = record { name = codes "T"; file = []; columns = record (column 0) { key = true } ∷ column 2 ∷ [] } ∷ [];
  dependencies =
      precondition p (codes "P_OPT") (conditions.Relation (relations.Within (Plain (leaf (codes "OPT")))
      (items.Text (set_text (codes "A")) ∷ items.Text (set_text (codes "B")) ∷ [])))
      ∷ precondition p (codes "P_NO_A") (asks p (plain (codes "OPT")) relators.Unequal (text (codes "A")))
      ∷ selection p (codes "S_SET") (conditions.Specified (Plain (leaf (codes "OPT"))))
      ∷ procedure (codes "PROFILE")
      (does (actions.DelDefault (leaf (codes "N")) (term_box p (terms.Negated' p.node (plain (codes "N"))))) ∷ [])
      ∷ selection p (codes "UNUSED") (conditions.Specified (Plain (leaf (codes "N"))))
      ∷ procedure (codes "AT_VALUE") (
      does (actions.Table (calls (codes "T")
      (binds p (codes "N") (own (codes "N")) ∷ binds p (codes "MODE") (text (codes "H")) ∷ [])))
      ∷ does_if p (conditions.Specified (Plain (leaf (codes "N"))))
      (actions.Assign (leaf (codes "N")) (term_box p (terms.Negated' p.node (whole 5))))
      ∷ [])
      ∷ procedure (codes "AT_CHARACTERISTIC")
      (does (actions.Assign (leaf (codes "N")) (term_box p terms.CountOfParts)) ∷ [])
      ∷ [];
  objects = record (object (codes "M") 0 []) { procedures = 3 ∷ [] } ∷ [];
}

abbrev standing_plan : Spots → Plan
standing_plan p = plan_of p.node (standing p) []

-- in class order N comes first; variable 0 is N, variable 1 MODE. A characteristic's own preconditions come before its
-- values'
guards : (p : Spots)
    → (standing_plan p).guards
    ≡ record { at = Var 0; value = Some (Stretch (plans.from_to 20 30)); dependency = 1; condition = 1 }
    ∷ record { at = Var 1; value = None; dependency = 1; condition = 2 }
    ∷ record { at = Var 1; value = Some (OneText 0); dependency = 0; condition = 3 }
    ∷ record { at = Set 0; value = Some (OneText 3); dependency = 1; condition = 4 }
    ∷ []
guards p = refl

requirements : (p : Spots)
    → (standing_plan p).requirements ≡ record { at = Var 1; selection = record { dependency = 2; condition = 5 } } ∷ []
requirements p = refl

-- a set: `<>` is NOT of `=`, and IN the OR of its equalities; a variable and a set that are specified
standing_conditions : (p : Spots)
    → (standing_plan p).conditions
    ≡ Always
    ∷ Not' p.node (Holds 0 2)
    ∷ Not' p.node (Holds 0 2)
    ∷ Or' p.node (Holds 0 2) p.node (Holds 0 3)
    ∷ Not' p.node (Holds 0 2)
    ∷ Filled 0
    ∷ Specified 0
    ∷ Specified 0
    ∷ Specified 0
    ∷ []
standing_conditions p = refl

-- procedures: of the profile, of the characteristic, and of values in class order: 20 .. 30, H and B. A minus before a
-- number is its sign
abbrev looking : ℕ → ℕ → List Statement
looking c t = says (LookUp 0 (record { column = 0; term = t } ∷ []) (record { column = 1; var = 0 } ∷ [])) 0
    ∷ says (Assign 0 (t + 1)) c ∷ []

abbrev at_slot : ℕ → Trigger → List Statement → Procedure
at_slot d trigger statements = record { slot = 0; dependency = d; trigger = trigger; statements = statements }

procedures : (p : Spots)
    → (standing_plan p).procedures
    ≡ at_slot 3 Anyway (says (DeleteDefault 0 0) 0 ∷ [])
    ∷ at_slot 6 Anyway (says (Assign 0 1) 0 ∷ [])
    ∷ at_slot 5 (ValueIn 0 (Stretch (plans.from_to 20 30))) (looking 6 2)
    ∷ at_slot 5 (ValueIn 1 (OneText 0)) (looking 7 4)
    ∷ at_slot 5 (TextIn 0 3) (looking 8 6)
    ∷ []
procedures p = refl

standing_terms : (p : Spots)
    → (standing_plan p).terms
    ≡ Applied' Negative p.node (Read 0)
    ∷ PartCount 0
    ∷ Literal (Text 0)
    ∷ Literal (plans.number (neg_ℤ (pos 5_000_000)))
    ∷ Literal (Text 0)
    ∷ Literal (plans.number (neg_ℤ (pos 5_000_000)))
    ∷ Literal (Text 0)
    ∷ Literal (plans.number (neg_ℤ (pos 5_000_000)))
    ∷ []
standing_terms p = refl

-- OR groups to the left
three_texts : holds_one 0 (2 ∷ 3 ∷ 4 ∷ []) ≡ trees.Or (trees.Or (trees.Holds 0 2) (trees.Holds 0 3)) (trees.Holds 0 4)
three_texts = refl
