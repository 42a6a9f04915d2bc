-- Which objects have so many levels of components below them, object by object.
use Rattle.std.specs.Prelude.{ℕ, Bool, false, is_some, List, map, slice_get, Option, None, Some}
use Rattle.std.specs.List.{list_any}
use Rattle.vc_model_parts.specs.declared.parts.BillItem.{BillItem}
use Rattle.vc_model_parts.specs.declared.parts.Object.{Object}
use Rattle.vc_compile_plan.specs.Slots.{object_in}

-- whether the object of a number is marked; one that isn't there is not
abbrev pub or_false : Option Bool → Bool
or_false None = false
or_false (Some b) = b

abbrev pub is_marked : List Bool → ℕ → Bool
is_marked marks o = or_false (slice_get marks o)

abbrev pub is_marked_if : List Bool → Option ℕ → Bool
is_marked_if marks None = false
is_marked_if marks (Some o) = is_marked marks o

-- whether a line brings an object, and whether it brings a marked one
abbrev pub brings_object : BillItem → Bool
brings_object line = is_some (object_in line.component)

abbrev pub brings_marked : List Bool → BillItem → Bool
brings_marked marks line = is_marked_if marks (object_in line.component)

-- the objects with a component, and those with a marked one
abbrev pub with_components : List Object → List Bool
with_components objects = map (λ object. list_any brings_object object.bill) objects

abbrev pub with_marked : List Bool → List Object → List Bool
with_marked marks objects = map (λ object. list_any (brings_marked marks) object.bill) objects
