-- What the words of a request mean at a slot: a characteristic of its class by its name, a value of the list by its
-- text.
use Rattle.std.specs.Prelude.{ℕ, Bool, false, if◌then◌else◌, List, slice_get, Option, None, Some, Result, Ok, Err}
use Rattle.std.specs.List.{find}
use Rattle.std.specs.Option.{option_map}
use Rattle.vc_value.specs.Decimals.{read_number}
use Rattle.vc_value.specs.Words.{same_bytes, same_ignoring_case}
use Rattle.vc_value.specs.declared.decimal.Dec.{Dec}
use Rattle.vc_value.specs.declared.decimal.NumFault.{NumFault}
use Rattle.vc_value.specs.declared.table_header.Domain.{Domain}
use Rattle.vc_value.specs.declared.table_header.Domain.TheVariants.{Texts, Nums}
use Rattle.vc_value.specs.declared.value.Value.{Value}
use Rattle.vc_value.specs.declared.value.Value.TheVariants.{Text, Num}
use Rattle.vc_plan.specs.declared.plans.Characteristic.{Characteristic}
use Rattle.vc_plan.specs.declared.plans.Named.{Named}
use Rattle.vc_plan.specs.declared.plans.Named.TheVariants.{Var, Set}
use Rattle.vc_plan.specs.declared.plans.Plan.{Plan}
use Rattle.vc_plan.specs.Domains.{domain_of, texts_of}
use Rattle.vc_plan.specs.Fitting.{may_have}
use Rattle.vc_show_rows.specs.Rows.{class_of, named_of}

-- whether a characteristic is called so, in letters of either case
abbrev pub is_called : List ℕ → Option Characteristic → Bool
is_called name None = false
is_called name (Some characteristic) = same_ignoring_case characteristic.name name

-- the characteristic of the slot's class that is
abbrev pub characteristic_named : Plan → ℕ → List ℕ → Option ℕ
characteristic_named plan i name = find (λ c. is_called name (slice_get plan.characteristics c)) (class_of plan i)

-- the slot's variable or set of it
abbrev pub named_if : Plan → ℕ → Option ℕ → Option Named
named_if plan i None = None
named_if plan i (Some c) = named_of plan i c

abbrev pub find_named : Plan → ℕ → List ℕ → Option Named
find_named plan i name = named_if plan i (characteristic_named plan i name)

-- the listed text that is spelled so, byte by byte
abbrev pub is_word : List ℕ → Option (List ℕ) → Bool
is_word word None = false
is_word word (Some text) = same_bytes text word

abbrev pub text_among : Plan → List ℕ → List ℕ → Option Value
text_among plan texts word = option_map Text (find (λ t. is_word word (slice_get plan.texts t)) texts)

-- a number that the variable may have: a grain holds it, and it has no more decimals, zeros behind left out
abbrev pub number_for : Plan → ℕ → Result Dec NumFault → Option Value
number_for plan v (Err fault) = None
number_for plan v (Ok number) = if may_have plan v (Num number) then Some (Num number) else None

abbrev pub value_of_domain : Plan → ℕ → Option Domain → List ℕ → Option Value
value_of_domain plan v None word = None
value_of_domain plan v (Some (Texts texts)) word = text_among plan texts word
value_of_domain plan v (Some (Nums decimals grains)) word = number_for plan v (read_number word)

-- the value that a text is of the list
abbrev pub value_named : Plan → Named → List ℕ → Option Value
value_named plan (Var v) word = value_of_domain plan v (domain_of plan (slice_get plan.vars v)) word
value_named plan (Set s) word = text_among plan (texts_of plan s) word
