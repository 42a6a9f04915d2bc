-- A plan for tests: a lamp of two colours, of which a constraint allows the first alone.
use Rattle.std.specs.Prelude.{◌≡◌, true, false, [], ◌∷◌, None, Some, codes}
use Rattle.vc_value.specs.declared.table_header.Domain.TheVariants.{Texts}
use Rattle.vc_value.specs.declared.value.Value.TheVariants.{Text}
use Rattle.vc_plan.specs.declared.conditions.Condition.TheVariants.{Always}
use Rattle.vc_plan.specs.declared.conditions.Relation.TheVariants.{Equal}
use Rattle.vc_plan.specs.declared.plans.Characteristic.{Characteristic}
use Rattle.vc_plan.specs.declared.plans.Object.{Object}
use Rattle.vc_plan.specs.declared.plans.Plan.{Plan}
use Rattle.vc_plan.specs.declared.plans.Slot.{Slot}
use Rattle.vc_plan.specs.declared.plans.Var.{Var}
use Rattle.vc_plan.specs.declared.rules.Kind.TheVariants.{Among, Last}
use Rattle.vc_plan.specs.declared.rules.Restriction.TheVariants.{Against}
use Rattle.vc_plan.specs.declared.rules.Rule.{Rule}
use Rattle.vc_plan.specs.Valid.{IsValid}

abbrev pub colour : Characteristic
colour = record { name = codes "COL"; unit = None; required = false; list = Texts (0 ∷ 1 ∷ []) }

abbrev pub coloured : Object
coloured = record { material = codes "LAMP"; characteristics = 0 ∷ [] }

abbrev pub root : Slot
root = record { parent = None; depth = 0; object = 0; line = 0 }

abbrev pub chosen : Var
chosen = record { slot = 0; characteristic = 0; domain = 0; restrictable = true }

abbrev pub first_alone : Rule
first_alone = record {
  dependency = Some 0;
  number = 1;
  slots = 0 ∷ [];
  condition = 0;
  inferred = 0 ∷ [];
  kind = Among 0 (Against Equal (Text 0));
}

abbrev pub last_left : Rule
last_left = record { dependency = None; number = 0; slots = []; condition = 0; inferred = []; kind = Last 0 }

abbrev pub lamp : Plan
lamp = record {
  name = codes "LAMP";
  version = 1;
  texts = codes "A" ∷ codes "B" ∷ [];
  dependencies = codes "ONE" ∷ [];
  characteristics = colour ∷ [];
  objects = coloured ∷ [];
  domains = Texts (0 ∷ 1 ∷ []) ∷ [];
  tables = [];
  slots = root ∷ [];
  vars = chosen ∷ [];
  sets = [];
  conditions = Always ∷ [];
  terms = [];
  rules = first_alone ∷ last_left ∷ [];
  procedures = [];
  lines = [];
  operations = [];
  guards = [];
  requirements = [];
}

-- it is valid
abbrev pub LampIsValid : Type 0
LampIsValid = (plan : Plan) → plan ≡ lamp → IsValid plan
