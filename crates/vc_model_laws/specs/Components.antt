-- What a model keeps of its bills: which materials are objects, and which objects a line may have.
use Rattle.std.specs.Prelude.{◌≡◌, ℕ, Bool, true, not, nat_le, List, slice_get, Some}
use Rattle.std.specs.List.{list_all, list_any}
use Rattle.vc_value.specs.Words.{same_bytes}
use Rattle.vc_model_parts.specs.declared.parts.Component.{Component}
use Rattle.vc_model_parts.specs.declared.parts.Component.TheVariants as components
use Rattle.vc_model_drafts.specs.Seen.{SeenObject, SeenModel}

-- whether a plain component has the material of no object
abbrev pub is_plain_apart : List SeenObject → Component → Bool
is_plain_apart objects (components.Object object) = true
is_plain_apart objects (components.Plain material) =
    not (list_any (λ object. same_bytes material object.material) objects)

-- whether an object is the one of this number, or stands above it
abbrev pub is_at_most : ℕ → Component → Bool
is_at_most number (components.Object object) = nat_le object number
is_at_most number (components.Plain material) = true

pub record KeepsComponents (model : SeenModel) : Type 0 where
  pub plain : list_all (λ object. list_all (λ item. is_plain_apart model.objects item.component) object.bill)
      model.objects ≡ true
  pub above : (k : ℕ) (object : SeenObject) → slice_get model.objects k ≡ Some object
      → list_all (λ item. is_at_most k item.component) object.bill ≡ true
