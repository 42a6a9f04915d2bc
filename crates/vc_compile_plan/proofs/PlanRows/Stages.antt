-- PAINT, MACH and GEAR: their plans. Each dependency has a condition of its own and each line a term of its own, also
-- where two are the same; objects stand as in the model, a component above its owner.
use Rattle.std.proofs.Common.{◌≡◌, length, true, false, [], ◌∷◌, refl}
use Rattle.std.specs.Prelude.{None, Some, ◌≢◌, codes}
use Rattle.vc_value.specs.declared.value.Value.TheVariants.{Text}
use Rattle.vc_model_parts.specs.declared.parts.Component.TheVariants as components
use Rattle.vc_model_parts.specs.declared.parts.Model.{Model}
use Rattle.vc_syntax_tree.specs.declared.Action.TheVariants as actions
use Rattle.vc_syntax_tree.specs.declared.Relator.TheVariants.{Equal}
use Rattle.vc_syntax_tree.specs.declared.Term.TheVariants as terms
use Rattle.vc_plan.specs.declared.conditions.Condition.TheVariants.{Always, Compared}
use Rattle.vc_plan.specs.declared.conditions.Relation.TheVariants as relations
use Rattle.vc_plan.specs.declared.plans.Plan.{Plan}
use Rattle.vc_plan.specs.declared.procedures.Action.TheVariants.{Assign, SetDefault}
use Rattle.vc_plan.specs.declared.terms.Term.TheVariants.{Literal, Read, PartSum}
use Rattle.vc_plan.proofs.PlanRows.Models as plans
use Rattle.vc_plan.proofs.PlanRows.WholeModels.{whole_paint, whole_machine, whole_gear, profile, piece_line}
use Rattle.vc_plan.proofs.PlanRows.WholeModels.{object as planned_object}
use Rattle.vc_plan.proofs.StageRows.StageModels.{says}
use Rattle.vc_compile_plan.specs.PlanOf.{plan_of}
use Rattle.vc_compile_plan.proofs.PlanRows.Words.{apart, Spots, leaf, text, plain, asks, precondition, selection}
use Rattle.vc_compile_plan.proofs.PlanRows.Words.{procedure, does, does_if, term_box, listed_text, texts, from_to}
use Rattle.vc_compile_plan.proofs.PlanRows.Words.{numbers, characteristic, class, line, object, empty}

-- PAINT: a value with a precondition, two procedures, and a line with a selection condition
abbrev pub paint : Spots → Model
paint p = record empty {
  name = codes "PAINT";
  characteristics =
      characteristic (codes "COLOR") false (texts false (listed_text 0 ∷ listed_text 1 ∷ listed_text 2 ∷ []))
      ∷ characteristic (codes "MODE") false (texts false (listed_text 3 ∷ listed_text 4 ∷ []))
      ∷ characteristic (codes "TRIM") false (texts false (record { text = 5; uses = 0 ∷ [] } ∷ listed_text 6 ∷ []))
      ∷ characteristic (codes "OPT") false (texts true (listed_text 7 ∷ listed_text 8 ∷ listed_text 9 ∷ []))
      ∷ [];
  texts =
      codes "RED" ∷ codes "BLUE" ∷ codes "GREEN" ∷ codes "H" ∷ codes "N" ∷ codes "LUX" ∷ codes "STD"
      ∷ codes "A" ∷ codes "B" ∷ codes "C" ∷ [];
  classes = class (codes "PAINTS") (0 ∷ 1 ∷ 2 ∷ 3 ∷ []) ∷ [];
  dependencies =
      precondition p (codes "PRE_LUX") (asks p (plain (codes "MODE")) Equal (text (codes "N")))
      ∷ procedure (codes "P_RED")
      (does (actions.SetDefault (leaf (codes "COLOR")) (term_box p (text (codes "RED")))) ∷ [])
      ∷ procedure (codes "P_GREEN") (does_if p (asks p (plain (codes "MODE")) Equal (text (codes "H")))
      (actions.Assign (leaf (codes "COLOR")) (term_box p (text (codes "GREEN")))) ∷ [])
      ∷ selection p (codes "S_STRIPE") (asks p (plain (codes "MODE")) Equal (text (codes "N")))
      ∷ [];
  objects = record (object (codes "PAINT") 0 (line p 10 (components.Plain (codes "STRIPE")) 1 (3 ∷ []) ∷ []))
      { procedures = 1 ∷ 2 ∷ [] } ∷ [];
}

abbrev pub painted : Plan
painted = record whole_paint {
  conditions =
      Always
      ∷ Compared relations.Equal (Read 1) (Literal (Text 4))
      ∷ Compared relations.Equal (Read 1) (Literal (Text 4))
      ∷ Compared relations.Equal (Read 1) (Literal (Text 3))
      ∷ [];
  terms = Literal (plans.whole 1) ∷ Literal (Text 0) ∷ Literal (Text 2) ∷ [];
  procedures = profile 1 (says (SetDefault 0 1) 0 ∷ []) ∷ profile 2 (says (Assign 0 2) 3 ∷ []) ∷ [];
  lines = piece_line 10 (codes "STRIPE") 0 (record { dependency = 3; condition = 2 } ∷ []) ∷ [];
}

of_paint : (p : Spots) → plan_of p.node (paint p) [] ≡ painted
of_paint p = refl

-- MACH: a component with a selection condition, which stands in its slot's rule
abbrev pub machine : Spots → Model
machine p = record empty {
  name = codes "MACH";
  characteristics =
      characteristic (codes "DRIVEN") false (texts false (listed_text 0 ∷ listed_text 1 ∷ []))
      ∷ characteristic (codes "POWER") false (texts false (listed_text 2 ∷ listed_text 3 ∷ []))
      ∷ [];
  texts = codes "Y" ∷ codes "N" ∷ codes "P1" ∷ codes "P2" ∷ [];
  classes = class (codes "DRIVES") (1 ∷ []) ∷ class (codes "MACHS") (0 ∷ []) ∷ [];
  dependencies = selection p (codes "S_DRIVE") (asks p (plain (codes "DRIVEN")) Equal (text (codes "Y"))) ∷ [];
  objects =
      object (codes "DRIVE") 0 [] ∷ object (codes "MACH") 1 (line p 10 (components.Object 0) 1 (0 ∷ []) ∷ []) ∷ [];
  root = 1;
}

abbrev pub driven : Plan
driven = record whole_machine {
  objects = planned_object (codes "DRIVE") (1 ∷ []) ∷ planned_object (codes "MACH") (0 ∷ []) ∷ [];
  slots = record { parent = None; depth = 0; object = 1; line = 0 }
      ∷ record { parent = Some 0; depth = 1; object = 0; line = 0 } ∷ [];
  terms = Literal (plans.whole 1) ∷ [];
}

of_machine : (p : Spots) → plan_of p.node (machine p) [] ≡ driven
of_machine p = refl

-- GEAR: components without selection conditions, and a sum over them
abbrev pub gear : Spots → Model
gear p = record empty {
  name = codes "GEAR";
  characteristics =
      characteristic (codes "WEIGHT") false (numbers 1 (from_to 0 100 ∷ []))
      ∷ characteristic (codes "TOTAL") false (numbers 1 (from_to 0 1000 ∷ []))
      ∷ [];
  classes = class (codes "PARTS") (0 ∷ []) ∷ class (codes "GEARS") (1 ∷ []) ∷ [];
  dependencies = procedure (codes "P_SUM")
      (does (actions.Assign (leaf (codes "TOTAL")) (term_box p (terms.SumOfParts (leaf (codes "WEIGHT"))))) ∷ []) ∷ [];
  objects =
      object (codes "P1") 0 []
      ∷ object (codes "P2") 0 []
      ∷ object (codes "P3") 0 []
      ∷ record (object (codes "GEAR") 1
      (line p 10 (components.Object 0) 1 [] ∷ line p 20 (components.Object 1) 2 []
      ∷ line p 30 (components.Object 2) 1 [] ∷ [])) {
        procedures = 0 ∷ [];
      }
      ∷ [];
  root = 3;
}

abbrev pub geared : Plan
geared = record whole_gear {
  objects =
      planned_object (codes "P1") (0 ∷ [])
      ∷ planned_object (codes "P2") (0 ∷ [])
      ∷ planned_object (codes "P3") (0 ∷ [])
      ∷ planned_object (codes "GEAR") (1 ∷ [])
      ∷ [];
  slots =
      record { parent = None; depth = 0; object = 3; line = 0 }
      ∷ record { parent = Some 0; depth = 1; object = 0; line = 0 }
      ∷ record { parent = Some 0; depth = 1; object = 1; line = 1 }
      ∷ record { parent = Some 0; depth = 1; object = 2; line = 2 }
      ∷ [];
  terms = Literal (plans.whole 1) ∷ Literal (plans.whole 2) ∷ Literal (plans.whole 1) ∷ PartSum 0 0 ∷ [];
  procedures = profile 0 (says (Assign 0 3) 0 ∷ []) ∷ [];
  lines = piece_line 10 (codes "P1") 0 [] ∷ piece_line 20 (codes "P2") 1 [] ∷ piece_line 30 (codes "P3") 2 [] ∷ [];
}

of_gear : (p : Spots) → plan_of p.node (gear p) [] ≡ geared
of_gear p = refl

-- a component without a selection condition has a rule all the same
with_lines : (p : Spots) → length (plan_of p.node (gear p) []).rules ≢ 4
with_lines p e = apart 4 2 e
