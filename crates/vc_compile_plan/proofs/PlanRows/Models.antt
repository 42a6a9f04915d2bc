-- PUMP, STEP and RING: their plans.
use Rattle.std.proofs.Common.{◌≡◌, ℕ, true, false, [], ◌∷◌, refl}
use Rattle.std.specs.Prelude.{None, Some, codes}
use Rattle.vc_value.specs.declared.table_header.Domain.TheVariants.{Nums}
use Rattle.vc_value.specs.declared.value.Value.TheVariants.{Text}
use Rattle.vc_model_parts.specs.declared.parts.Component.TheVariants as components
use Rattle.vc_model_parts.specs.declared.parts.Model.{Model}
use Rattle.vc_model_parts.specs.declared.parts.Values.TheVariants as values
use Rattle.vc_syntax_tree.specs.declared.Demand.TheVariants as demands
use Rattle.vc_syntax_tree.specs.declared.Operator.TheVariants.{Plus, Times, Over}
use Rattle.vc_syntax_tree.specs.declared.Relator.TheVariants.{Equal, LessEqual, Greater, GreaterEqual}
use Rattle.vc_syntax_tree.specs.declared.Term.TheVariants as terms
use Rattle.vc_syntax_tree.specs.declared.Restriction.{Restriction}
use Rattle.vc_table.specs.declared.table.VariantTable.{VariantTable}
use Rattle.vc_plan.specs.declared.plans.Plan.{Plan}
use Rattle.vc_plan.proofs.PlanRows.Models as plans
use Rattle.vc_plan.proofs.PlanRows.Models.{last}
use Rattle.vc_plan.proofs.PlanRows.WholeModels.{whole_pump, whole_step, whole_ring}
use Rattle.vc_compile_plan.specs.PlanOf.{plan_of}
use Rattle.vc_compile_plan.proofs.PlanRows.Words.{Spots, term_box, text, whole, plain, member, relation, asks, of_class}
use Rattle.vc_compile_plan.proofs.PlanRows.Words.{binds, calls, always, where_true, constraint, inferred, called}
use Rattle.vc_compile_plan.proofs.PlanRows.Words.{selection, listed_text, texts, from_to, numbers, characteristic}
use Rattle.vc_compile_plan.proofs.PlanRows.Words.{class, column, net, line, object, empty, rows}

-- PUMP: a table of sizes and motors, a seal with a selection condition, and an operation
abbrev pub pump : Spots → Model
pump p = record empty {
  name = codes "PUMP";
  characteristics =
      record (characteristic (codes "SIZE") true (texts false (listed_text 0 ∷ listed_text 1 ∷ listed_text 2 ∷ [])))
      { required = true }
      ∷ characteristic (codes "MOTOR") true (texts false (listed_text 3 ∷ listed_text 4 ∷ listed_text 5 ∷ []))
      ∷ characteristic (codes "FLOW") true (values.Numbers 1 (Some (codes "M3/H")) (from_to 0 100 ∷ []))
      ∷ [];
  texts = codes "S" ∷ codes "M" ∷ codes "L" ∷ codes "E1" ∷ codes "E2" ∷ codes "E3" ∷ [];
  classes = class (codes "PUMPS") (0 ∷ 1 ∷ 2 ∷ []) ∷ [];
  tables = record { name = codes "SM"; file = codes "sm.csv"; columns = column 0 ∷ column 1 ∷ [] } ∷ [];
  dependencies =
      called (codes "C_SM") (constraint (of_class (codes "P") (codes "PUMPS") ∷ []) None
      (always (demands.Table (calls (codes "SM")
      (binds p (codes "SIZE") (member (codes "P") (codes "SIZE"))
      ∷ binds p (codes "MOTOR") (member (codes "P") (codes "MOTOR")) ∷ []))) ∷ [])
      (inferred (codes "P") (codes "SIZE") ∷ inferred (codes "P") (codes "MOTOR") ∷ []))
      ∷ selection p (codes "S_L") (asks p (plain (codes "SIZE")) Equal (text (codes "L")))
      ∷ [];
  nets = net (0 ∷ []) ∷ [];
  objects = record (object (codes "PUMP") 0
      (line p 10 (components.Plain (codes "HOUSING")) 1 [] ∷ line p 20 (components.Plain (codes "SEAL")) 2 (1 ∷ [])
      ∷ [])) {
        nets = 0 ∷ [];
        operations = record {
          number = 10;
          centre = codes "ASSY";
          unit = codes "MIN";
          time = term_box p (terms.Combined' p.node (whole 15) Plus p.node
              (terms.Combined' p.node (plain (codes "FLOW")) Over p.node (whole 2)));
          uses = [];
          line = 0;
        } ∷ [];
      } ∷ [];
}

abbrev pub sizes_and_motors : VariantTable
sizes_and_motors = rows
    ((Text 0 ∷ Text 3 ∷ []) ∷ (Text 1 ∷ Text 3 ∷ []) ∷ (Text 1 ∷ Text 4 ∷ []) ∷ (Text 2 ∷ Text 5 ∷ []) ∷ [])

of_pump : (p : Spots) → plan_of p.node (pump p) (sizes_and_motors ∷ []) ≡ whole_pump p.node
of_pump p = refl

-- STEP: FLOW is at most twice STEPS, and two restrictions with conditions cut FLOW at 5 and 10 and STEPS at 1 and 2
abbrev pub steps_at_least : Spots → ℕ → ℕ → Restriction
steps_at_least p least flow = where_true p
    (asks p (member (codes "S") (codes "FLOW")) Greater (whole flow))
    (demands.Relation (relation p (member (codes "S") (codes "STEPS")) GreaterEqual (whole least)))

abbrev pub step : Spots → Model
step p = record empty {
  name = codes "STEP";
  characteristics =
      characteristic (codes "STEPS") false (numbers 0 (from_to 0 50 ∷ []))
      ∷ characteristic (codes "FLOW") true (numbers 1 (from_to 0 100 ∷ []))
      ∷ [];
  classes = class (codes "STEPPERS") (0 ∷ 1 ∷ []) ∷ [];
  dependencies = called (codes "C_FLOW") (constraint (of_class (codes "S") (codes "STEPPERS") ∷ []) None
      (always (demands.Relation (relation p (member (codes "S") (codes "FLOW")) LessEqual
      (terms.Combined' p.node (whole 2) Times p.node (member (codes "S") (codes "STEPS")))))
      ∷ steps_at_least p 1 5
      ∷ steps_at_least p 2 10
      ∷ [])
      (inferred (codes "S") (codes "FLOW") ∷ [])) ∷ [];
  nets = net (0 ∷ []) ∷ [];
  objects = record (object (codes "STEP") 0 []) { nets = 0 ∷ [] } ∷ [];
}

of_step : (p : Spots) → plan_of p.node (step p) [] ≡ whole_step p.node
of_step p = refl

-- a constraint whose net no object has isn't active: it has no rules and no terms, and cuts nothing
abbrev idle : Spots → Plan
idle p = plan_of p.node (record (step p) { objects = object (codes "STEP") 0 [] ∷ [] }) []

idle_rules : (p : Spots) → (idle p).rules ≡ last 0 ∷ last 1 ∷ []
idle_rules p = refl

idle_domains : (p : Spots)
    → (idle p).domains ≡ Nums 0 (plans.from_to 0 50 ∷ []) ∷ Nums 1 (plans.from_to 0 100 ∷ []) ∷ []
idle_domains p = refl

idle_terms : (p : Spots) → (idle p).terms ≡ []
idle_terms p = refl

-- RING: a restriction of one variable against a literal, and a table
abbrev pub ring : Spots → Model
ring p = record empty {
  name = codes "RING";
  characteristics =
      characteristic (codes "X") false (texts false (listed_text 0 ∷ listed_text 1 ∷ []))
      ∷ characteristic (codes "A") true (texts false (listed_text 1 ∷ listed_text 2 ∷ []))
      ∷ characteristic (codes "B") true (texts false (listed_text 1 ∷ listed_text 2 ∷ []))
      ∷ [];
  texts = codes "0" ∷ codes "1" ∷ codes "2" ∷ [];
  classes = class (codes "RINGS") (0 ∷ 1 ∷ 2 ∷ []) ∷ [];
  tables = record { name = codes "AB"; file = codes "ab.csv"; columns = column 1 ∷ column 2 ∷ [] } ∷ [];
  dependencies =
      called (codes "C_X") (constraint (of_class (codes "R") (codes "RINGS") ∷ []) None
      (where_true p (asks p (member (codes "R") (codes "X")) Equal (text (codes "1")))
      (demands.Relation (relation p (member (codes "R") (codes "A")) Equal (text (codes "1")))) ∷ [])
      (inferred (codes "R") (codes "A") ∷ []))
      ∷ called (codes "C_AB") (constraint (of_class (codes "R") (codes "RINGS") ∷ []) None
      (always (demands.Table (calls (codes "AB")
      (binds p (codes "A") (member (codes "R") (codes "A")) ∷ binds p (codes "B") (member (codes "R") (codes "B"))
      ∷ []))) ∷ [])
      (inferred (codes "R") (codes "A") ∷ inferred (codes "R") (codes "B") ∷ []))
      ∷ [];
  nets = net (0 ∷ 1 ∷ []) ∷ [];
  objects = record (object (codes "RING") 0 []) { nets = 0 ∷ [] } ∷ [];
}

of_ring : (p : Spots)
    → plan_of p.node (ring p) (rows ((Text 1 ∷ Text 1 ∷ []) ∷ (Text 2 ∷ Text 2 ∷ []) ∷ []) ∷ []) ≡ whole_ring
of_ring p = refl

-- constraints come in the order of the model, whatever the order of the net
other_order : (p : Spots)
    → plan_of p.node (record (ring p) { nets = net (1 ∷ 0 ∷ []) ∷ [] })
    (rows ((Text 1 ∷ Text 1 ∷ []) ∷ (Text 2 ∷ Text 2 ∷ []) ∷ []) ∷ []) ≡ whole_ring
other_order p = refl
