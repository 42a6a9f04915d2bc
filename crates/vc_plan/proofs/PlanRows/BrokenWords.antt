-- Plans that break one fact alone: how names and texts are spelled, and that each stands once.
use Rattle.std.proofs.Common.{◌≡◌, ℕ, List, [], ◌∷◌, ◌++◌, true, false, refl}
use Rattle.std.proofs.lemmas.Str.{is_utf8-from_IsUtf8}
use Rattle.std.specs.Prelude.{Some, codes, IsUtf8}
use Rattle.std.specs.Str.{is_utf8, chars}
use Rattle.vc_value.specs.declared.table_header.Domain.TheVariants.{Texts, Nums}
use Rattle.vc_plan.specs.declared.plans.Line.{Line}
use Rattle.vc_plan.specs.declared.plans.Operation.{Operation}
use Rattle.vc_plan.specs.declared.plans.Plan.{Plan}
use Rattle.vc_plan.specs.declared.plans.Table.{Table}
use Rattle.vc_plan.specs.Valid.{IsValid}
use Rattle.vc_plan.proofs.PlanRows.Facts.{Breaks, broken}
use Rattle.vc_plan.proofs.PlanRows.SmallModels.{bare, cutting}
use Rattle.vc_plan.proofs.PlanRows.WholeModels.{listed, object, piece_line, whole_paint}

-- the name of a plan: none, in lower case, with a digit first, with a hyphen, and of 31 letters
abbrev named : List ℕ → Plan
named name = record bare { name = name }

abbrev thirty : List ℕ
thirty = codes "ABCDEFGHIJKLMNOPQRSTUVWXYZ_012"

thirty_long : broken (named thirty) ≡ []
thirty_long = refl

unnamed : Breaks (codes "name") (named [])
unnamed = refl

in_lower_case : Breaks (codes "name") (named (codes "Bare"))
in_lower_case = refl

digit_first : Breaks (codes "name") (named (codes "2BARE"))
digit_first = refl

hyphened : Breaks (codes "name") (named (codes "BA-RE"))
hyphened = refl

too_long : Breaks (codes "name") (named (thirty ++ codes "3"))
too_long = refl

-- versions are 1 to 999,999
version_0 : Breaks (codes "version") (record bare { version = 0 })
version_0 = refl

last_version : broken (record bare { version = 999_999 }) ≡ []
last_version = refl

no_version : Breaks (codes "version") (record bare { version = 1_000_000 })
no_version = refl

-- other names
characteristic_in_lower_case : Breaks (codes "names")
    (record bare { characteristics = listed (codes "w") (Texts []) ∷ [] })
characteristic_in_lower_case = refl

abbrev with_unit : List ℕ → Plan
with_unit unit = record bare { characteristics = record (listed (codes "W") (Nums 0 [])) { unit = Some unit } ∷ [] }

unit_in_lower_case : Breaks (codes "units")
    (with_unit (codes "m3/h"))
unit_in_lower_case = refl

empty_unit : Breaks (codes "units")
    (with_unit [])
empty_unit = refl

dependency_with_space : Breaks (codes "dependency_names") (record bare { dependencies = codes "C SM" ∷ [] })
dependency_with_space = refl

table_in_lower_case : Breaks (codes "table_names")
    (record bare { tables = record { name = codes "sm"; columns = []; rows = [] } ∷ [] })
table_in_lower_case = refl

-- materials: 18 letters, 19, none, a space, lower case
abbrev made_of : List ℕ → Plan
made_of material = record bare { objects = object material [] ∷ [] }

eighteen_letters : broken (made_of (codes "A-B_C.D/E012345678")) ≡ []
eighteen_letters = refl

nineteen_letters : Breaks (codes "materials") (made_of (codes "A-B_C.D/E0123456789"))
nineteen_letters = refl

no_material : Breaks (codes "materials") (made_of [])
no_material = refl

material_with_space : Breaks (codes "materials") (made_of (codes "BA RE"))
material_with_space = refl

material_in_lower_case : Breaks (codes "materials") (made_of (codes "bare"))
material_in_lower_case = refl

-- the words of lines and operations
abbrev with_line : Line → Plan
with_line line = record whole_paint { lines = line ∷ [] }

material_of_line : Breaks (codes "line_words") (with_line (piece_line 10 (codes "stripe") 2 []))
material_of_line = refl

unit_of_line : Breaks (codes "line_words")
    (with_line (record (piece_line 10 (codes "STRIPE") 2 []) { unit = codes "p c" }))
unit_of_line = refl

last_item : broken (with_line (piece_line 9999 (codes "STRIPE") 2 [])) ≡ []
last_item = refl

five_digits : Breaks (codes "line_items") (with_line (piece_line 10_000 (codes "STRIPE") 2 []))
five_digits = refl

abbrev with_operation : Operation → Plan
with_operation operation = record whole_paint { operations = record operation { time = 2 } ∷ [] }

centre : Breaks (codes "operation_words") (with_operation (record (cutting 0 10) { name = codes "CUT-1" }))
centre = refl

unit_of_time : Breaks (codes "operation_words") (with_operation (record (cutting 0 10) { unit = [] }))
unit_of_time = refl

last_operation : broken (with_operation (cutting 0 9999)) ≡ []
last_operation = refl

five_digit_operation : Breaks (codes "operation_numbers") (with_operation (cutting 0 10_000))
five_digit_operation = refl

-- texts: none, of 30 letters, of 31, and of 30 letters of two bytes each
abbrev saying : List ℕ → Plan
saying text = record bare { texts = text ∷ [] }

empty_text : Breaks (codes "texts") (saying [])
empty_text = refl

thirty_letters : broken (saying thirty) ≡ []
thirty_letters = refl

thirty_one_letters : Breaks (codes "texts") (saying (thirty ++ codes "3"))
thirty_one_letters = refl

abbrev ten_umlauts : List ℕ
ten_umlauts =
    195 ∷ 164 ∷ 195 ∷ 164 ∷ 195 ∷ 164 ∷ 195 ∷ 164 ∷ 195 ∷ 164 ∷ 195 ∷ 164 ∷ 195 ∷ 164 ∷ 195 ∷ 164 ∷ 195 ∷ 164 ∷ 195
    ∷ 164 ∷ []

thirty_umlauts : broken (saying (ten_umlauts ++ (ten_umlauts ++ ten_umlauts))) ≡ []
thirty_umlauts = refl

-- a byte that begins no character
not_utf8 : IsUtf8 (255 ∷ []) → ⊥
unfolding is_utf8 chars
not_utf8 h = let e : false ≡ true = is_utf8-from_IsUtf8 (255 ∷ []) h in cc

no_character : IsValid (saying (255 ∷ [])) → ⊥
no_character valid = not_utf8 (valid.utf8 0 (255 ∷ []) refl)

nothing_else : broken (saying (255 ∷ [])) ≡ []
nothing_else = refl

-- a listed text with a line feed, with DEL, and with U+0085; a text that no list has may have them
abbrev listing : List ℕ → Plan
listing text = record bare { texts = text ∷ []; characteristics = listed (codes "W") (Texts (0 ∷ [])) ∷ [] }

listed_letter : broken (listing (195 ∷ 164 ∷ [])) ≡ []
listed_letter = refl

line_feed : Breaks (codes "listed_texts") (listing (65 ∷ 10 ∷ 65 ∷ []))
line_feed = refl

unlisted_line_feed : broken (saying (65 ∷ 10 ∷ 65 ∷ [])) ≡ []
unlisted_line_feed = refl

delete : Breaks (codes "listed_texts") (listing (65 ∷ 127 ∷ []))
delete = refl

next_line : Breaks (codes "listed_texts") (listing (194 ∷ 133 ∷ []))
next_line = refl

no_break_space : broken (listing (194 ∷ 160 ∷ [])) ≡ []
no_break_space = refl

-- names that stand twice
two_characteristics : Breaks (codes "names_once")
    (record bare { characteristics = listed (codes "W") (Texts []) ∷ listed (codes "W") (Nums 0 []) ∷ [] })
two_characteristics = refl

two_dependencies : Breaks (codes "dependencies_once")
    (record bare { dependencies = codes "C" ∷ codes "D" ∷ codes "C" ∷ [] })
two_dependencies = refl

abbrev empty_table : Table
empty_table = record { name = codes "T"; columns = []; rows = [] }

two_tables : Breaks (codes "tables_once") (record bare { tables = empty_table ∷ empty_table ∷ [] })
two_tables = refl

two_objects : Breaks (codes "materials_once")
    (record bare { objects = object (codes "BARE") [] ∷ object (codes "BARE") [] ∷ [] })
two_objects = refl

two_texts : Breaks (codes "texts_once") (record bare { texts = codes "A" ∷ codes "B" ∷ codes "A" ∷ [] })
two_texts = refl
