-- The models of the rows whole: with their names, texts, lists and classes.
use Rattle.std.proofs.Common.{ℕ, List, [], ◌∷◌, true, false}
use Rattle.std.specs.Prelude.{None, Some, codes, Box}
use Rattle.std.specs.declared.alloc.Global.{Global}
use Rattle.vc_value.specs.declared.table_header.Domain.{Domain}
use Rattle.vc_value.specs.declared.table_header.Domain.TheVariants.{Texts, Nums}
use Rattle.vc_value.specs.declared.value.Value.TheVariants.{Text}
use Rattle.vc_plan.specs.declared.conditions.Condition.TheVariants.{Always, Compared}
use Rattle.vc_plan.specs.declared.conditions.Relation.TheVariants.{Equal}
use Rattle.vc_plan.specs.declared.plans.Characteristic.{Characteristic}
use Rattle.vc_plan.specs.declared.plans.Line.{Line}
use Rattle.vc_plan.specs.declared.plans.Object.{Object}
use Rattle.vc_plan.specs.declared.plans.Plan.{Plan}
use Rattle.vc_plan.specs.declared.plans.Selection.{Selection}
use Rattle.vc_plan.specs.declared.plans.Table.{Table}
use Rattle.vc_plan.specs.declared.plans.TableColumn.{TableColumn}
use Rattle.vc_plan.specs.declared.procedures.Action.TheVariants.{Assign, SetDefault}
use Rattle.vc_plan.specs.declared.procedures.Procedure.{Procedure}
use Rattle.vc_plan.specs.declared.procedures.Statement.{Statement}
use Rattle.vc_plan.specs.declared.procedures.Trigger.TheVariants.{Anyway}
use Rattle.vc_plan.specs.declared.terms.Operator.TheVariants.{Plus, Over}
use Rattle.vc_plan.specs.declared.terms.Term.TheVariants.{Literal, Read, Joined'}
use Rattle.vc_plan.proofs.PlanRows.Models.{pump, whole, from_to}
use Rattle.vc_plan.proofs.PlanRows.Rings.{ring}
use Rattle.vc_plan.proofs.PlanRows.StepModel.{steps}
use Rattle.vc_plan.proofs.StageRows.Gears.{gear}
use Rattle.vc_plan.proofs.StageRows.Machines.{machine}
use Rattle.vc_plan.proofs.StageRows.Paints.{with}
use Rattle.vc_plan.proofs.StageRows.StageModels.{says}

-- a characteristic that isn't required, an object with its class, and a column that is no key
abbrev pub listed : List ℕ → Domain → Characteristic
listed name list = record { name = name; unit = None; required = false; list = list }

abbrev pub object : List ℕ → List ℕ → Object
object material characteristics = record { material = material; characteristics = characteristics }

abbrev pub plain : ℕ → TableColumn
plain c = record { characteristic = c; key = false }

-- a line of the root in pieces, of this item, material and quantity's term; and a procedure of the root
abbrev pub piece_line : ℕ → List ℕ → ℕ → List Selection → Line
piece_line item material quantity selections = record {
  slot = 0;
  item = item;
  material = material;
  unit = codes "PC";
  quantity = quantity;
  selections = selections;
}

abbrev pub profile : ℕ → List Statement → Procedure
profile dependency statements = record { slot = 0; dependency = dependency; trigger = Anyway; statements = statements }

-- PUMP: 15 + FLOW / 2 minutes for its assembly
abbrev pub size_and_motor : Table
size_and_motor = record {
  name = codes "SM";
  columns = plain 0 ∷ plain 1 ∷ [];
  rows = (Text 0 ∷ Text 3 ∷ []) ∷ (Text 1 ∷ Text 3 ∷ []) ∷ (Text 1 ∷ Text 4 ∷ []) ∷ (Text 2 ∷ Text 5 ∷ []) ∷ [];
}

abbrev pub size : Characteristic
size = record { name = codes "SIZE"; unit = None; required = true; list = Texts (0 ∷ 1 ∷ 2 ∷ []) }

abbrev pub motor : Characteristic
motor = listed (codes "MOTOR") (Texts (3 ∷ 4 ∷ 5 ∷ []))

abbrev pub flow : Characteristic
flow = record { name = codes "FLOW"; unit = Some (codes "M3/H"); required = false; list = Nums 1 (from_to 0 100 ∷ []) }

abbrev pub housing : Line
housing = piece_line 10 (codes "HOUSING") 0 []

abbrev pub seal : Line
seal = piece_line 20 (codes "SEAL") 1 (record { dependency = 1; condition = 1 } ∷ [])

abbrev pub whole_pump : Box (Unit {0}) Global → Plan
whole_pump p = record pump {
  name = codes "PUMP";
  texts = codes "S" ∷ codes "M" ∷ codes "L" ∷ codes "E1" ∷ codes "E2" ∷ codes "E3" ∷ [];
  dependencies = codes "C_SM" ∷ codes "S_L" ∷ [];
  characteristics = size ∷ motor ∷ flow ∷ [];
  objects = object (codes "PUMP") (0 ∷ 1 ∷ 2 ∷ []) ∷ [];
  tables = size_and_motor ∷ [];
  conditions = Always ∷ Compared Equal (Read 0) (Literal (Text 2)) ∷ [];
  terms =
      Literal (whole 1)
      ∷ Literal (whole 2)
      ∷ Joined' Plus p (Literal (whole 15)) p (Joined' Over p (Read 2) p (Literal (whole 2)))
      ∷ [];
  lines = housing ∷ seal ∷ [];
  operations = record { slot = 0; number = 10; name = codes "ASSY"; unit = codes "MIN"; time = 2; selections = [] }
      ∷ [];
}

-- STEP
abbrev pub whole_step : Box (Unit {0}) Global → Plan
whole_step p = record (steps p) {
  name = codes "STEP";
  dependencies = codes "C_FLOW" ∷ [];
  characteristics =
      listed (codes "STEPS") (Nums 0 (from_to 0 50 ∷ []))
      ∷ listed (codes "FLOW") (Nums 1 (from_to 0 100 ∷ []))
      ∷ [];
  objects = object (codes "STEP") (0 ∷ 1 ∷ []) ∷ [];
}

-- RING
abbrev pub whole_ring : Plan
whole_ring = record ring {
  name = codes "RING";
  texts = codes "0" ∷ codes "1" ∷ codes "2" ∷ [];
  dependencies = codes "C_X" ∷ codes "C_AB" ∷ [];
  characteristics =
      listed (codes "X") (Texts (0 ∷ 1 ∷ []))
      ∷ listed (codes "A") (Texts (1 ∷ 2 ∷ []))
      ∷ listed (codes "B") (Texts (1 ∷ 2 ∷ []))
      ∷ [];
  objects = object (codes "RING") (0 ∷ 1 ∷ 2 ∷ []) ∷ [];
  tables = record {
    name = codes "AB";
    columns = plain 1 ∷ plain 2 ∷ [];
    rows = (Text 1 ∷ Text 1 ∷ []) ∷ (Text 2 ∷ Text 2 ∷ []) ∷ [];
  } ∷ [];
}

-- PAINT
abbrev pub stripe : Line
stripe = piece_line 10 (codes "STRIPE") 2 (record { dependency = 3; condition = 1 } ∷ [])

abbrev pub whole_paint : Plan
whole_paint = record (with (profile 1 (says (SetDefault 0 0) 0 ∷ []) ∷ profile 2 (says (Assign 0 1) 2 ∷ []) ∷ [])) {
  name = codes "PAINT";
  texts =
      codes "RED" ∷ codes "BLUE" ∷ codes "GREEN" ∷ codes "H" ∷ codes "N" ∷ codes "LUX" ∷ codes "STD"
      ∷ codes "A" ∷ codes "B" ∷ codes "C" ∷ [];
  dependencies = codes "PRE_LUX" ∷ codes "P_RED" ∷ codes "P_GREEN" ∷ codes "S_STRIPE" ∷ [];
  characteristics =
      listed (codes "COLOR") (Texts (0 ∷ 1 ∷ 2 ∷ []))
      ∷ listed (codes "MODE") (Texts (3 ∷ 4 ∷ []))
      ∷ listed (codes "TRIM") (Texts (5 ∷ 6 ∷ []))
      ∷ listed (codes "OPT") (Texts (7 ∷ 8 ∷ 9 ∷ []))
      ∷ [];
  objects = object (codes "PAINT") (0 ∷ 1 ∷ 2 ∷ 3 ∷ []) ∷ [];
  lines = stripe ∷ [];
}

-- MACH
abbrev pub whole_machine : Plan
whole_machine = record machine {
  name = codes "MACH";
  texts = codes "Y" ∷ codes "N" ∷ codes "P1" ∷ codes "P2" ∷ [];
  dependencies = codes "S_DRIVE" ∷ [];
  characteristics = listed (codes "DRIVEN") (Texts (0 ∷ 1 ∷ [])) ∷ listed (codes "POWER") (Texts (2 ∷ 3 ∷ [])) ∷ [];
  objects = object (codes "MACH") (0 ∷ []) ∷ object (codes "DRIVE") (1 ∷ []) ∷ [];
  lines = piece_line 10 (codes "DRIVE") 0 [] ∷ [];
}

-- GEAR
abbrev pub whole_gear : Plan
whole_gear = record gear {
  name = codes "GEAR";
  dependencies = codes "P_SUM" ∷ [];
  characteristics =
      listed (codes "WEIGHT") (Nums 1 (from_to 0 100 ∷ []))
      ∷ listed (codes "TOTAL") (Nums 1 (from_to 0 1000 ∷ []))
      ∷ [];
  objects =
      object (codes "GEAR") (1 ∷ [])
      ∷ object (codes "P1") (0 ∷ [])
      ∷ object (codes "P2") (0 ∷ [])
      ∷ object (codes "P3") (0 ∷ [])
      ∷ [];
  lines = piece_line 10 (codes "P1") 0 [] ∷ piece_line 20 (codes "P2") 1 [] ∷ piece_line 30 (codes "P3") 0 [] ∷ [];
}
