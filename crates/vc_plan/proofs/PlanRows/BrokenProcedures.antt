-- Plans that break one fact alone: what procedures write and look up, what stands at values, and orders.
use Rattle.std.proofs.Common.{◌≡◌, ℕ, List, [], ◌∷◌, true, refl}
use Rattle.std.specs.Prelude.{None, Some, codes, Box}
use Rattle.std.specs.declared.alloc.Global.{Global}
use Rattle.vc_value.specs.declared.value.Value.TheVariants.{Text}
use Rattle.vc_plan.specs.declared.conditions.Piece.{Piece}
use Rattle.vc_plan.specs.declared.conditions.Piece.TheVariants.{OneText, Stretch}
use Rattle.vc_plan.specs.declared.plans.Guard.{Guard}
use Rattle.vc_plan.specs.declared.plans.Named.{Named}
use Rattle.vc_plan.specs.declared.plans.Named.TheVariants.{Var, Set}
use Rattle.vc_plan.specs.declared.plans.Plan.{Plan}
use Rattle.vc_plan.specs.declared.procedures.Action.TheVariants.{Assign, SetDefault, LookUp}
use Rattle.vc_plan.specs.declared.procedures.Procedure.{Procedure}
use Rattle.vc_plan.specs.declared.procedures.Trigger.{Trigger}
use Rattle.vc_plan.specs.declared.procedures.Trigger.TheVariants.{ValueIn, TextIn}
use Rattle.vc_plan.proofs.PlanRows.Facts.{Breaks, broken}
use Rattle.vc_plan.proofs.PlanRows.Models.{from_to}
use Rattle.vc_plan.proofs.PlanRows.SmallModels.{box, cutting, key, fills, looking, keyed, keyed_table}
use Rattle.vc_plan.proofs.PlanRows.WholeModels.{piece_line, plain, profile, whole_step, whole_ring, whole_paint}
use Rattle.vc_plan.proofs.PlanRows.WholeModels.{whole_machine, whole_gear}
use Rattle.vc_plan.proofs.StageRows.StageModels.{says}

-- the root's procedure sets the drive's power; the drive's may
abbrev at_drive : Procedure
at_drive = record (profile 0 (says (Assign 1 1) 0 ∷ [])) { slot = 1 }

own_power : broken (record whole_machine { procedures = at_drive ∷ [] }) ≡ []
own_power = refl

drives_power : Breaks (codes "own_writes")
    (record whole_machine { procedures = profile 0 (says (Assign 1 1) 0 ∷ []) ∷ [] })
drives_power = refl

default_power : Breaks (codes "own_writes")
    (record whole_machine { procedures = profile 0 (says (SetDefault 1 1) 0 ∷ []) ∷ [] })
default_power = refl

-- look-ups without a key, with none but keys, with a key twice, and of a column that isn't one
no_key : Breaks (codes "look_ups") (looking (LookUp 0 [] (fills 1 2 ∷ [])))
no_key = refl

nothing_filled : Breaks (codes "look_ups") (looking (LookUp 0 (key 0 0 ∷ []) []))
nothing_filled = refl

key_filled : Breaks (codes "look_ups") (looking (LookUp 0 (key 0 0 ∷ []) (fills 0 2 ∷ [])))
key_filled = refl

filled_twice : Breaks (codes "look_ups") (looking (LookUp 0 (key 0 0 ∷ []) (fills 1 2 ∷ fills 1 1 ∷ [])))
filled_twice = refl

by_no_key : Breaks (codes "look_ups") (looking (LookUp 0 (key 1 0 ∷ []) (fills 1 2 ∷ [])))
by_no_key = refl

-- and one that lacks a key of two
key_missing : Breaks (codes "look_ups")
    (record keyed {
      tables = record {
        name = codes "AB";
        columns = record { characteristic = 1; key = true } ∷ plain 2 ∷ record { characteristic = 0; key = true } ∷ [];
        rows = [];
      } ∷ [];
    })
key_missing = refl

-- two rows of one key, and two without keys
same_key : Breaks (codes "keys")
    (record keyed { tables = keyed_table ((Text 1 ∷ Text 1 ∷ []) ∷ (Text 1 ∷ Text 2 ∷ []) ∷ []) ∷ [] })
same_key = refl

without_keys : broken (record whole_ring {
  tables = record {
    name = codes "AB";
    columns = plain 1 ∷ plain 2 ∷ [];
    rows = (Text 1 ∷ Text 1 ∷ []) ∷ (Text 1 ∷ Text 1 ∷ []) ∷ [];
  } ∷ [];
}) ≡ []
without_keys = refl

-- PAINT with a procedure at a value
abbrev at_value : Trigger → Procedure
at_value trigger = record (profile 1 (says (SetDefault 0 0) 0 ∷ [])) { trigger = trigger }

abbrev triggered : Trigger → Plan
triggered trigger = record whole_paint { procedures = at_value trigger ∷ [] }

at_lux : broken (triggered (ValueIn 2 (OneText 5))) ≡ []
at_lux = refl

at_option : broken (triggered (TextIn 0 8)) ≡ []
at_option = refl

-- at a text that is no value of the characteristic, and no option
at_another's_value : Breaks (codes "triggers") (triggered (ValueIn 2 (OneText 3)))
at_another's_value = refl

at_no_option : Breaks (codes "triggers") (triggered (TextIn 0 5))
at_no_option = refl

-- the root's procedure at a value of the drive
at_drive's_value : Breaks (codes "triggers")
    (record whole_machine
    { procedures = record (profile 0 (says (Assign 0 2) 0 ∷ [])) { trigger = ValueIn 1 (OneText 2) } ∷ [] })
at_drive's_value = refl

-- preconditions at values: at the whole of an entry, at a part of it, and at another's value
abbrev guard : Named → Piece → Guard
guard at piece = record { at = at; value = Some piece; dependency = 0; condition = 0 }

at_entry : (p : Box (Unit {0}) Global)
    → broken (record (whole_step p) { guards = guard (Var 1) (Stretch (from_to 0 100)) ∷ [] }) ≡ []
at_entry p = refl

at_half : (p : Box (Unit {0}) Global) → Breaks (codes "guards")
    (record (whole_step p) { guards = guard (Var 1) (Stretch (from_to 0 50)) ∷ [] })
at_half p = refl

at_grain : (p : Box (Unit {0}) Global) → Breaks (codes "guards")
    (record (whole_step p) { guards = guard (Var 1) (Stretch (from_to 5 5)) ∷ [] })
at_grain p = refl

at_color : Breaks (codes "guards") (record whole_paint { guards = guard (Var 2) (OneText 0) ∷ [] })
at_color = refl

-- lines and operations out of order, or of one number
abbrev gear_items : ℕ → ℕ → ℕ → Plan
gear_items a b c = record whole_gear {
  lines = piece_line a (codes "P1") 0 [] ∷ piece_line b (codes "P2") 1 [] ∷ piece_line c (codes "P3") 0 [] ∷ [];
}

later_item_first : Breaks (codes "lines_in_order")
    (gear_items 20 10 30)
later_item_first = refl

same_item : Breaks (codes "lines_in_order")
    (gear_items 10 10 30)
same_item = refl

second_lid_first : Breaks (codes "operations_in_order") (record box { operations = cutting 2 10 ∷ cutting 1 10 ∷ [] })
second_lid_first = refl

same_operation : Breaks (codes "operations_in_order")
    (record box { operations = cutting 1 10 ∷ cutting 1 10 ∷ cutting 2 10 ∷ cutting 2 10 ∷ [] })
same_operation = refl

-- procedures: the drive's before the root's, a value's before the profile's, a later value's and a later
-- characteristic's first
drive_first : Breaks (codes "procedures_in_order")
    (record whole_machine { procedures = at_drive ∷ profile 0 (says (Assign 0 2) 0 ∷ []) ∷ [] })
drive_first = refl

abbrev in_order_of : List Procedure → Plan
in_order_of procedures = record whole_paint { procedures = procedures }

abbrev anyway : Procedure
anyway = profile 1 (says (SetDefault 0 0) 0 ∷ [])

in_order : broken
    (in_order_of
    (anyway ∷ at_value (ValueIn 1 (OneText 3)) ∷ at_value (ValueIn 1 (OneText 4)) ∷ at_value (ValueIn 2 (OneText 5))
    ∷ at_value (TextIn 0 7) ∷ []))
    ≡ []
in_order = refl

value_first : Breaks (codes "procedures_in_order") (in_order_of (at_value (ValueIn 1 (OneText 3)) ∷ anyway ∷ []))
value_first = refl

later_value_first : Breaks (codes "procedures_in_order")
    (in_order_of (at_value (ValueIn 1 (OneText 4)) ∷ at_value (ValueIn 1 (OneText 3)) ∷ []))
later_value_first = refl

later_characteristic_first : Breaks (codes "procedures_in_order")
    (in_order_of (at_value (ValueIn 2 (OneText 5)) ∷ at_value (ValueIn 1 (OneText 4)) ∷ []))
later_characteristic_first = refl

option_first : Breaks (codes "procedures_in_order")
    (in_order_of (at_value (TextIn 0 7) ∷ at_value (ValueIn 2 (OneText 5)) ∷ []))
option_first = refl

-- preconditions: those of a characteristic before those of its values
abbrev own_guard : Named → Guard
own_guard at = record { at = at; value = None; dependency = 0; condition = 0 }

abbrev guarded : List Guard → Plan
guarded guards = record whole_paint { guards = guards }

guards_in_order : broken
    (guarded
    (own_guard (Var 0) ∷ own_guard (Var 2) ∷ guard (Var 2) (OneText 5) ∷ guard (Var 2) (OneText 6)
    ∷ guard (Set 0) (OneText 7) ∷ []))
    ≡ []
guards_in_order = refl

value's_first : Breaks (codes "guards_in_order") (guarded (guard (Var 2) (OneText 5) ∷ own_guard (Var 2) ∷ []))
value's_first = refl

second_value's_first : Breaks (codes "guards_in_order")
    (guarded (guard (Var 2) (OneText 6) ∷ guard (Var 2) (OneText 5) ∷ []))
second_value's_first = refl

trim's_first : Breaks (codes "guards_in_order") (guarded (own_guard (Var 2) ∷ own_guard (Var 0) ∷ []))
trim's_first = refl

options_first : Breaks (codes "guards_in_order") (guarded (own_guard (Set 0) ∷ own_guard (Var 0) ∷ []))
options_first = refl

drive's_first : Breaks (codes "guards_in_order")
    (record whole_machine { guards = own_guard (Var 1) ∷ own_guard (Var 0) ∷ [] })
drive's_first = refl
