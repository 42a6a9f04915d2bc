-- Worked words, by computing, and the likeliest slips beside them.
use Rattle.std.proofs.Common.{◌≡◌, ◌≢◌, pos, refl, Some, None}
use Rattle.std.specs.Prelude.{Box, codes}
use Rattle.std.specs.declared.alloc.Global.{Global}
use Rattle.vc_value.specs.declared.value.Value.TheVariants.{Text, Num}
use Rattle.vc_plan.specs.declared.plans.Named.TheVariants.{Var, Set}
use Rattle.vc_plan.proofs.PlanRows.WholeModels.{whole_gear, whole_paint, whole_pump}
use Rattle.vc_desk_names.specs.Meant.{find_named, value_named}

in_either_case : (p : Box (Unit {0}) Global) → find_named (whole_pump p) 0 (codes "flow") ≡ Some (Var 2)
in_either_case p = refl

unknown : (p : Box (Unit {0}) Global) → find_named (whole_pump p) 0 (codes "COLOUR") ≡ None
unknown p = refl

-- of its own class alone, and at its own slot
of_the_part : find_named whole_gear 2 (codes "WEIGHT") ≡ Some (Var 2)
of_the_part = refl

not_of_the_whole : find_named whole_gear 0 (codes "WEIGHT") ≡ None
not_of_the_whole = refl

not_of_the_first : find_named whole_gear 2 (codes "WEIGHT") ≢ Some (Var 1)
not_of_the_first e = cc

a_set : find_named whole_paint 0 (codes "OPT") ≡ Some (Set 0)
a_set = refl

listed : (p : Box (Unit {0}) Global) → value_named (whole_pump p) (Var 0) (codes "L") ≡ Some (Text 2)
listed p = refl

of_another_list : (p : Box (Unit {0}) Global) → value_named (whole_pump p) (Var 0) (codes "E3") ≡ None
of_another_list p = refl

byte_by_byte : (p : Box (Unit {0}) Global) → value_named (whole_pump p) (Var 0) (codes "l") ≡ None
byte_by_byte p = refl

-- zeros behind the point don't count; other decimals do, and so does the list's end
with_a_zero : (p : Box (Unit {0}) Global)
    → value_named (whole_pump p) (Var 2) (codes "100.0") ≡ Some (Num (record { millionths = pos 100_000_000 }))
with_a_zero p = refl

past_the_end : (p : Box (Unit {0}) Global) → value_named (whole_pump p) (Var 2) (codes "100.1") ≡ None
past_the_end p = refl

too_fine : (p : Box (Unit {0}) Global) → value_named (whole_pump p) (Var 2) (codes "5.05") ≡ None
too_fine p = refl

no_number : (p : Box (Unit {0}) Global) → value_named (whole_pump p) (Var 2) (codes "L") ≡ None
no_number p = refl

of_a_set : value_named whole_paint (Set 0) (codes "C") ≡ Some (Text 9)
of_a_set = refl

not_of_the_set : value_named whole_paint (Set 0) (codes "RED") ≡ None
not_of_the_set = refl
