-- The texts of values and rows.
use Rattle.std.specs.Prelude.{ℕ, Bool, ◌==◌, if◌then◌else◌, List, [], ◌∷◌, ◌++◌, codes, decimal, slice_get, Option}
use Rattle.std.specs.Prelude.{None, Some}
use Rattle.std.specs.List.{flat_map}
use Rattle.std.specs.Ordering.{int_eq}
use Rattle.vc_value.specs.declared.value.Value.{Value}
use Rattle.vc_value.specs.declared.value.Value.TheVariants.{Text, Num}
use Rattle.vc_value.specs.Numerals.{number_text}
use Rattle.vc_plan.specs.declared.conditions.Piece.{Piece}
use Rattle.vc_plan.specs.declared.conditions.Piece.TheVariants.{OneText, Stretch}
use Rattle.vc_plan.specs.declared.plans.Characteristic.{Characteristic}
use Rattle.vc_plan.specs.declared.plans.Named.{Named}
use Rattle.vc_plan.specs.declared.plans.Named.TheVariants.{Var, Set}
use Rattle.vc_plan.specs.declared.plans.Object.{Object}
use Rattle.vc_plan.specs.declared.plans.Plan.{Plan}
use Rattle.vc_plan.specs.declared.plans.Slot.{Slot}
use Rattle.vc_plan.specs.Showing.{characteristic_of}
use Rattle.vc_show_rows.specs.declared.rows.Row.{Row}
use Rattle.vc_show_rows.specs.declared.rows.Row.TheVariants.{Valued, Asked, Chosen}

-- a text in quotes, each quote in it doubled
abbrev pub quoted_byte : ℕ → List ℕ
quoted_byte byte = if byte == 39 then codes "''" else byte ∷ []

abbrev pub quoted : List ℕ → List ℕ
quoted text = codes "'" ++ (flat_map quoted_byte text ++ codes "'")

abbrev pub quoted_if : Option (List ℕ) → List ℕ
quoted_if None = []
quoted_if (Some text) = quoted text

abbrev pub text_of : Plan → ℕ → List ℕ
text_of plan t = quoted_if (slice_get plan.texts t)

abbrev pub value_text : Plan → Value → List ℕ
value_text plan (Text t) = text_of plan t
value_text plan (Num a) = number_text a

-- a piece of one value as that value, another by its ends
abbrev pub piece_text : Plan → Piece → List ℕ
piece_text plan (OneText t) = text_of plan t
piece_text plan (Stretch grain) =
    let ends = number_text grain.low ++ (codes " .. " ++ number_text grain.high) in
    if int_eq grain.low.millionths grain.high.millionths then number_text grain.low else ends

-- the name of what has a row
abbrev pub name_in : Option Characteristic → List ℕ
name_in None = []
name_in (Some characteristic) = characteristic.name

abbrev pub name_of : Plan → Named → List ℕ
name_of plan named = name_in (characteristic_of plan named)

-- how a row ends
abbrev pub end_of_row : Bool → List ℕ
end_of_row required = if required then codes " required\n" else codes "\n"

-- `C = value WHO`, `C ? values` and `C { values }`; who gave the value is told by its text
abbrev pub row_text : Plan → List ℕ → Row → List ℕ
row_text plan who (Valued v a) = name_of plan (Var v)
    ++ (codes " = " ++ (value_text plan a ++ (codes " " ++ (who ++ codes "\n"))))
row_text plan who (Asked v pieces required) =
    name_of plan (Var v)
    ++ (codes " ?" ++ (flat_map (λ piece. codes " " ++ piece_text plan piece) pieces ++ end_of_row required))
row_text plan who (Chosen s texts required) =
    name_of plan (Set s)
    ++ (codes " {" ++ (flat_map (λ t. codes " " ++ text_of plan t) texts ++ (codes " }" ++ end_of_row required)))

-- `instance i MATERIAL`, with ` late` where it is late
abbrev pub material_in : Option Object → List ℕ
material_in None = []
material_in (Some object) = object.material

abbrev pub material_of : Plan → Option Slot → List ℕ
material_of plan None = []
material_of plan (Some slot) = material_in (slice_get plan.objects slot.object)

abbrev pub late_text : Bool → List ℕ
late_text late = if late then codes " late\n" else codes "\n"

abbrev pub instance_text : Plan → ℕ → Bool → List ℕ
instance_text plan i late = codes "instance "
    ++ (decimal i ++ (codes " " ++ (material_of plan (slice_get plan.slots i) ++ late_text late)))
