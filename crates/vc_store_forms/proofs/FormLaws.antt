-- The saved form has no number with a point; and how many members an object has.
use Rattle.std.proofs.Common.{◌≡◌, false, List, [], ◌∷◌, map, refl, ap, Some}
use Rattle.serde_json.specs.Data.{Data, null, boolean, number, string, array, object, Members}
use Rattle.serde_json.specs.Events.{members_len}
use Rattle.serde_json.specs.Find.{as_object}
use Rattle.serde_json.specs.View.{items_of}
use Rattle.serde_json.specs.Written.{has_float, items_have_float}
use Rattle.vc_store_forms.specs.Forms.{Choice, Saved, choice_data, saved_data}
use Rattle.vc_store_forms.specs.Shapes.{member_count}

choices_plain : (choices : List Choice) → items_have_float (items_of (map choice_data choices)) ≡ false
choices_plain [] = refl
choices_plain (choice ∷ choices) = choices_plain choices

pub form_plain : (saved : Saved) → has_float (saved_data saved) ≡ false
form_plain saved = rw (choices_plain saved.choices) refl

pub object_count : (json : Data) (found : Members) → Some found ≡ as_object json
    → member_count json ≡ members_len found
object_count null found is = absurd (cc)
object_count (boolean b) found is = absurd (cc)
object_count (number n) found is = absurd (cc)
object_count (string s) found is = absurd (cc)
object_count (array ds) found is = absurd (cc)
object_count (object ms) found is = let same : found ≡ ms = cc in ap members_len (cc same)
