-- Plans that break one fact alone: numbers of things that aren't there, and slots and classes that aren't those of the
-- objects.
use Rattle.std.proofs.Common.{◌≡◌, [], ◌∷◌, false, refl}
use Rattle.std.specs.Prelude.{None, codes}
use Rattle.vc_value.specs.declared.table_header.Domain.TheVariants.{Texts, Nums}
use Rattle.vc_value.specs.declared.value.Value.TheVariants.{Text}
use Rattle.vc_plan.specs.declared.conditions.Condition.TheVariants.{Always, Compared, Specified}
use Rattle.vc_plan.specs.declared.conditions.Relation.TheVariants.{Equal}
use Rattle.vc_plan.specs.declared.plans.Named.TheVariants.{Var, Set}
use Rattle.vc_plan.specs.declared.procedures.Action.TheVariants.{Assign}
use Rattle.vc_plan.specs.declared.rules.Kind.TheVariants.{Among}
use Rattle.vc_plan.specs.declared.rules.Restriction.TheVariants.{Against}
use Rattle.vc_plan.specs.declared.terms.Term.TheVariants.{Literal, Read}
use Rattle.vc_plan.proofs.PlanRows.Facts.{Breaks, broken}
use Rattle.vc_plan.proofs.PlanRows.Models.{root, open_var, fixed_var, rule, last, from_to}
use Rattle.vc_plan.proofs.PlanRows.SmallModels.{bare, box, options_at, screw, cutting, deep, part_of}
use Rattle.vc_plan.proofs.PlanRows.WholeModels.{listed, object, piece_line, profile, stripe, whole_ring, whole_paint}
use Rattle.vc_plan.proofs.PlanRows.WholeModels.{whole_machine, whole_gear}
use Rattle.vc_plan.proofs.StageRows.StageModels.{says}

-- things that aren't there: a list of seven decimals
seven_decimals : Breaks (codes "characteristics_there")
    (record bare { characteristics = listed (codes "W") (Nums 7 (from_to 0 1 ∷ [])) ∷ [] })
seven_decimals = refl

-- numbers of ten digits
ten_digits : Breaks (codes "characteristics_there")
    (record bare { characteristics = listed (codes "W") (Nums 0 (from_to 0 1_000_000_000 ∷ [])) ∷ [] })
ten_digits = refl

-- a class with a characteristic that the model hasn't
class_of_nothing : Breaks (codes "objects_there")
    (record whole_ring { objects = object (codes "RING") (0 ∷ 1 ∷ 2 ∷ []) ∷ object (codes "OTHER") (3 ∷ []) ∷ [] })
class_of_nothing = refl

slot_of_nothing : Breaks (codes "slots_there") (record bare { slots = record root { object = 1 } ∷ [] })
slot_of_nothing = refl

-- a variable of a slot behind the last
var_nowhere : Breaks (codes "vars_there")
    (record whole_ring {
      vars = fixed_var 0 ∷ open_var 1 ∷ open_var 2 ∷ record (open_var 2) { slot = 1 } ∷ [];
      rules =
          rule 1 (1 ∷ []) (Among 1 (Against Equal (Text 1)))
          ∷ last 0 ∷ last 1 ∷ last 2 ∷ last 3 ∷ [];
    })
var_nowhere = refl

set_nowhere : Breaks (codes "sets_there")
    (record whole_paint {
      sets = record (options_at 0 3) { characteristic = 3 }
          ∷ record (options_at 1 3) { characteristic = 3 } ∷ [];
    })
set_nowhere = refl

-- a domain that no variable has, of a text that isn't there
text_nowhere : Breaks (codes "domains_there") (record bare { domains = Texts (0 ∷ []) ∷ [] })
text_nowhere = refl

-- a row of a cell too few, and a value that isn't there
short_row : Breaks (codes "tables_there")
    (record whole_ring {
      tables = record {
        name = codes "AB";
        columns = record { characteristic = 1; key = false } ∷ record { characteristic = 2; key = false } ∷ [];
        rows = (Text 1 ∷ []) ∷ [];
      } ∷ [];
    })
short_row = refl

condition_on_nothing : Breaks (codes "conditions_there") (record bare { conditions = Always ∷ Specified 0 ∷ [] })
condition_on_nothing = refl

term_of_nothing : Breaks (codes "terms_there") (record bare { terms = Literal (Text 0) ∷ [] })
term_of_nothing = refl

restricted_to_nothing : Breaks (codes "rules_there")
    (record whole_ring { rules = rule 0 (1 ∷ []) (Among 1 (Against Equal (Text 3))) ∷ last 0 ∷ last 1 ∷ last 2 ∷ [] })
restricted_to_nothing = refl

procedure_without_name : Breaks (codes "procedures_there")
    (record whole_paint { procedures = profile 4 (says (Assign 0 0) 0 ∷ []) ∷ [] })
procedure_without_name = refl

line_nowhere : Breaks (codes "lines_there") (record whole_paint { lines = stripe ∷ record stripe { slot = 1 } ∷ [] })
line_nowhere = refl

operation_nowhere : Breaks (codes "operations_there")
    (record box { operations = cutting 1 10 ∷ cutting 2 10 ∷ cutting 3 10 ∷ [] })
operation_nowhere = refl

guard_without_name : Breaks (codes "guards_there")
    (record whole_paint { guards = record { at = Var 2; value = None; dependency = 4; condition = 1 } ∷ [] })
guard_without_name = refl

requirement_without_name : Breaks (codes "requirements_there")
    (record whole_paint {
      requirements = record { at = Set 0; selection = record { dependency = 4; condition = 1 } }
          ∷ [];
    })
requirement_without_name = refl

-- no slot at all, and a root that stands deep
no_root : Breaks (codes "root") (record bare { slots = [] })
no_root = refl

deep_root : Breaks (codes "root") (record bare { slots = record root { depth = 1 } ∷ [] })
deep_root = refl

-- a component as deep as its owner, and two levels below it
as_deep : Breaks (codes "below") (record whole_machine { slots = root ∷ part_of 0 0 1 0 ∷ [] })
as_deep = refl

too_deep : Breaks (codes "below") (record whole_machine { slots = root ∷ part_of 0 2 1 0 ∷ [] })
too_deep = refl

-- a slot below one whose line it isn't
at_another's_line : Breaks (codes "below") (deep (root ∷ part_of 0 1 1 0 ∷ part_of 0 1 2 1 ∷ part_of 0 1 3 2 ∷ []))
at_another's_line = refl

-- a second root is below nothing, follows nothing, comes with no line and wants a rule
second_root : broken (record bare { slots = root ∷ root ∷ [] })
    ≡ codes "below" ∷ codes "preorder" ∷ codes "items" ∷ codes "slot_lines" ∷ []
second_root = refl

-- all parts first, and their parts then
level_by_level : Breaks (codes "preorder") (deep (root ∷ part_of 0 1 1 0 ∷ part_of 0 1 2 1 ∷ part_of 1 2 3 2 ∷ []))
level_by_level = refl

later_line_first : Breaks (codes "items")
    (record whole_gear { slots = root ∷ part_of 0 1 2 1 ∷ part_of 0 1 1 0 ∷ part_of 0 1 3 2 ∷ [] })
later_line_first = refl

-- a component without its slot, with two, and with that of another object
no_slot : Breaks (codes "line_slots")
    (record box {
      lines =
          piece_line 10 (codes "LID") 0 [] ∷ piece_line 20 (codes "LID") 0 [] ∷ piece_line 30 (codes "LID") 0 []
          ∷ screw 1 ∷ screw 2 ∷ [];
    })
no_slot = refl

another_object : Breaks (codes "line_slots")
    (record whole_gear { slots = root ∷ part_of 0 1 1 0 ∷ part_of 0 1 1 1 ∷ part_of 0 1 3 2 ∷ [] })
another_object = refl

slot_for_a_seal : Breaks (codes "line_slots")
    (record whole_machine { lines = piece_line 10 (codes "SEAL") 0 [] ∷ [] })
slot_for_a_seal = refl

-- classes
twice_in_class : Breaks (codes "classes")
    (record whole_ring { objects = object (codes "RING") (0 ∷ 1 ∷ 2 ∷ []) ∷ object (codes "OTHER") (1 ∷ 1 ∷ []) ∷ [] })
twice_in_class = refl

-- a variable that the class hasn't, one that is missing, and two in the other order
not_of_class : Breaks (codes "class_vars") (record whole_ring { objects = object (codes "RING") (0 ∷ 1 ∷ []) ∷ [] })
not_of_class = refl

missing_var : Breaks (codes "class_vars")
    (record whole_ring {
      characteristics =
          listed (codes "X") (Texts (0 ∷ 1 ∷ []))
          ∷ listed (codes "A") (Texts (1 ∷ 2 ∷ []))
          ∷ listed (codes "B") (Texts (1 ∷ 2 ∷ []))
          ∷ listed (codes "C") (Texts (1 ∷ []))
          ∷ [];
      objects = object (codes "RING") (0 ∷ 1 ∷ 2 ∷ 3 ∷ []) ∷ [];
    })
missing_var = refl

other_order : Breaks (codes "class_vars") (record whole_ring { objects = object (codes "RING") (0 ∷ 2 ∷ 1 ∷ []) ∷ [] })
other_order = refl

-- a set that the class hasn't, and a lid without its options
set_not_of_class : Breaks (codes "class_sets")
    (record whole_paint { objects = object (codes "PAINT") (0 ∷ 1 ∷ 2 ∷ []) ∷ [] })
set_not_of_class = refl

missing_set : Breaks (codes "class_sets") (record box { sets = options_at 1 1 ∷ [] })
missing_set = refl

-- a characteristic with a variable and a set breaks two facts: the class has it once
both : broken
    (record whole_paint {
      sets = record (options_at 0 3) { characteristic = 3 }
          ∷ record (options_at 0 2) { characteristic = 2 } ∷ [];
    })
    ≡ codes "class_vars" ∷ codes "class_sets" ∷ []
both = refl

-- the second slot's variable, and its set, before the first's
power_first : Breaks (codes "vars_by_slot")
    (record whole_machine {
      vars = record { slot = 1; characteristic = 1; domain = 1; restrictable = false } ∷ fixed_var 0 ∷ [];
      conditions = Always ∷ Compared Equal (Read 1) (Literal (Text 0)) ∷ [];
    })
power_first = refl

second_lid_first : Breaks (codes "sets_by_slot") (record box { sets = options_at 2 1 ∷ options_at 1 1 ∷ [] })
second_lid_first = refl
