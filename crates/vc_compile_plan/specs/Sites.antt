-- Where a dependency or a term stands in the plan, and which variable or set an operand is there.
use Rattle.std.specs.Prelude.{ℕ, Bool, if◌then◌else◌, List, slice_get, Option, None, Some}
use Rattle.std.specs.List.{list_any, position_or_len}
use Rattle.std.specs.Str.{bytes_eq}
use Rattle.vc_syntax_tree.specs.declared.Object.{Object}
use Rattle.vc_syntax_tree.specs.declared.Operand.{Operand}
use Rattle.vc_syntax_tree.specs.declared.Operand.TheVariants as operands
use Rattle.vc_syntax_tree.specs.declared.Owner.{Owner}
use Rattle.vc_syntax_tree.specs.declared.Owner.TheVariants as owners
use Rattle.vc_types.specs.declared.meaning.Meaning.{Meaning}
use Rattle.vc_types.specs.declared.meaning.Meaning.TheVariants as meanings
use Rattle.vc_types.specs.Settings.{Setting, meaning, is_multiple}
use Rattle.vc_plan.specs.declared.plans.Named.{Named}
use Rattle.vc_plan.specs.declared.plans.Named.TheVariants as named
use Rattle.vc_compile_plan.specs.Layouts.{Layout}
use Rattle.vc_compile_plan.specs.Variables.{var_number, set_number}

-- how names are meant; the slots of `$SELF` and `$PARENT`; of a constraint its objects and their slots
pub record Site : Type 0 where
  pub setting : Setting
  pub own : ℕ
  pub parent : ℕ
  pub objects : List Object
  pub slots : List ℕ

-- a number that is there; where a faulty dependency has none, any will do
abbrev pub number_or_zero : Option ℕ → ℕ
number_or_zero None = 0
number_or_zero (Some n) = n

-- the slot of `$SELF`, `$PARENT` or `$ROOT`
abbrev pub slot_of_owner : Site → Owner → ℕ
slot_of_owner site owners.Itself = site.own
slot_of_owner site owners.Parent = site.parent
slot_of_owner site owners.Root = 0

-- the slot of a constraint's object, by a test that finds it
abbrev pub slot_of_object : Site → (Object → Bool) → ℕ
slot_of_object site test = number_or_zero (slice_get site.slots (position_or_len test site.objects))

abbrev pub is_called : List ℕ → Object → Bool
is_called name object = bytes_eq object.variable.name name

abbrev pub has_alias : List ℕ → Object → Bool
has_alias name object = list_any (λ alias. bytes_eq alias.variable.name name) object.aliases

-- the slot, and the characteristic, of an operand
abbrev pub slot_meant : Site → Operand → ℕ
slot_meant site (operands.Plain leaf) = site.own
slot_meant site (operands.Owned owner leaf) = slot_of_owner site owner
slot_meant site (operands.Member variable leaf) = slot_of_object site (is_called variable.name)
slot_meant site (operands.Variable leaf) = slot_of_object site (has_alias leaf.name)

abbrev pub characteristic_in : Meaning → ℕ
characteristic_in (meanings.Characteristic c) = c
characteristic_in meaning = 0

abbrev pub characteristic_meant : Site → Operand → ℕ
characteristic_meant site operand = characteristic_in (meaning site.setting operand)

abbrev pub is_set_meant : Site → Operand → Bool
is_set_meant site operand = is_multiple site.setting.model (characteristic_meant site operand)

abbrev pub var_meant : Layout → Site → Operand → ℕ
var_meant layout site operand = var_number layout.vars (slot_meant site operand) (characteristic_meant site operand)

abbrev pub set_meant : Layout → Site → Operand → ℕ
set_meant layout site operand = set_number layout.sets (slot_meant site operand) (characteristic_meant site operand)

-- what a characteristic at a slot is
abbrev pub named_at : Layout → ℕ → ℕ → Named
named_at layout i c =
    if is_multiple layout.model c
    then named.Set (set_number layout.sets i c) else named.Var (var_number layout.vars i c)
