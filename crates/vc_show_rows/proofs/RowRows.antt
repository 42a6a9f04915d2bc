-- Worked rows of `show`, by computing.
use Rattle.std.proofs.Common.{◌≡◌, ℕ, pos, true, false, List, [], ◌∷◌, refl}
use Rattle.std.specs.Prelude.{None, codes}
use Rattle.std.specs.Fmt.{digits}
use Rattle.vc_value.specs.declared.table_header.Domain.TheVariants.{Texts}
use Rattle.vc_value.specs.declared.value.Value.TheVariants.{Text, Num}
use Rattle.vc_plan.specs.declared.conditions.Piece.{Piece}
use Rattle.vc_plan.specs.declared.conditions.Piece.TheVariants.{OneText, Stretch}
use Rattle.vc_plan.specs.declared.plans.Characteristic.{Characteristic}
use Rattle.vc_plan.specs.declared.plans.Plan.{Plan}
use Rattle.vc_plan.proofs.PlanRows.Models.{empty}
use Rattle.vc_show_rows.specs.declared.rows.Row.TheVariants.{Valued, Asked, Chosen}
use Rattle.vc_show_rows.specs.Joining.{joined}
use Rattle.vc_show_rows.specs.Texts.{instance_text, row_text}

-- the numbers from one count of millionths to another
abbrev flow : ℕ → ℕ → Piece
flow low high = Stretch (record { low = record { millionths = pos low }; high = record { millionths = pos high } })

-- STEP's FLOW, whose list is 0 .. 100 and whose grains are 0 .. 4.9, 5, 5.1 .. 9.9, 10 and 10.1 .. 100: the last two
-- are out
abbrev whole_list : List Piece
whole_list = flow 0 100_000_000 ∷ []

three_left : joined 100_000 whole_list (flow 0 4_900_000 ∷ flow 5_000_000 5_000_000 ∷ flow 5_100_000 9_900_000 ∷ [])
    ≡ flow 0 9_900_000 ∷ []
three_left = refl

-- without the number between them two don't go on, and of two entries neither does
with_a_gap : joined 100_000 whole_list (flow 0 4_900_000 ∷ flow 5_100_000 9_900_000 ∷ [])
    ≡ flow 0 4_900_000 ∷ flow 5_100_000 9_900_000 ∷ []
with_a_gap = refl

of_two_entries : joined 100_000 (flow 0 4_900_000 ∷ flow 5_000_000 9_000_000 ∷ [])
    (flow 0 4_900_000 ∷ flow 5_000_000 9_000_000 ∷ [])
    ≡ flow 0 4_900_000 ∷ flow 5_000_000 9_000_000 ∷ []
of_two_entries = refl

texts_stay : joined 1 (OneText 0 ∷ OneText 1 ∷ []) (OneText 0 ∷ OneText 1 ∷ []) ≡ OneText 0 ∷ OneText 1 ∷ []
texts_stay = refl

-- a plan of texts, FLOW, SIZE and OPT
abbrev named : List ℕ → Characteristic
named name = record { name = name; unit = None; required = false; list = Texts [] }

abbrev pump : Plan
pump = record empty {
  texts = codes "S" ∷ codes "M" ∷ codes "L" ∷ codes "A" ∷ codes "C" ∷ codes "6'" ∷ [];
  characteristics = named (codes "SIZE") ∷ named (codes "FLOW") ∷ named (codes "OPT") ∷ [];
  objects = record { material = codes "PUMP"; characteristics = [] } ∷ [];
  slots = record { parent = None; depth = 0; object = 0; line = 0 } ∷ [];
  vars =
      record { slot = 0; characteristic = 0; domain = 0; restrictable = true }
      ∷ record { slot = 0; characteristic = 1; domain = 0; restrictable = true } ∷ [];
  sets = record { slot = 0; characteristic = 2; domain = 0 } ∷ [];
}

by_the_user : row_text pump (codes "user") (Valued 0 (Text 2)) ≡ codes "SIZE = 'L' user\n"
by_the_user = refl

a_number : row_text pump (codes "procedure") (Valued 1 (Num (record { millionths = pos 12_500_000 })))
    ≡ codes "FLOW = 12.5 procedure\n"
unfolding digits
a_number = refl

asked_for : row_text pump [] (Asked 0 (OneText 0 ∷ OneText 1 ∷ OneText 2 ∷ []) true)
    ≡ codes "SIZE ? 'S' 'M' 'L' required\n"
asked_for = refl

an_interval : row_text pump [] (Asked 1 (flow 0 9_900_000 ∷ []) false) ≡ codes "FLOW ? 0 .. 9.9\n"
unfolding digits
an_interval = refl

one_number : row_text pump [] (Asked 1 (flow 5_000_000 5_000_000 ∷ []) false) ≡ codes "FLOW ? 5\n"
unfolding digits
one_number = refl

two_options : row_text pump [] (Chosen 0 (3 ∷ 4 ∷ []) false) ≡ codes "OPT { 'A' 'C' }\n"
two_options = refl

no_option : row_text pump [] (Chosen 0 [] true) ≡ codes "OPT { } required\n"
no_option = refl

a_quote : row_text pump (codes "user") (Valued 0 (Text 5)) ≡ codes "SIZE = '6''' user\n"
a_quote = refl

the_root : instance_text pump 0 false ≡ codes "instance 0 PUMP\n"
unfolding digits
the_root = refl

late_root : instance_text pump 0 true ≡ codes "instance 0 PUMP late\n"
unfolding digits
late_root = refl
