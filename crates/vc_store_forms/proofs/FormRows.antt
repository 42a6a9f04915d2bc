-- Worked rows of the saved form, by computing. Beside what is so stands what would be so by a likely slip, and isn't.
use Rattle.std.proofs.Common.{◌≡◌, ℕ, List, [], ◌∷◌, ◌++◌, refl, None, Some}
use Rattle.std.specs.Prelude.{codes, option_and_then}
use Rattle.std.specs.Fmt.{digits}
use Rattle.serde_json.specs.Data.{Data, Items, Members, array, item, member, negative, no_items, no_members, null}
use Rattle.serde_json.specs.Data.{number, object, string, unsigned}
use Rattle.serde_json.specs.Read.{read}
use Rattle.serde_json.specs.View.{items_of}
use Rattle.serde_json.proofs.OnLiterals.{serde_json_on_literals}
use Rattle.vc_store_forms.specs.Forms.{Choice, Saved, choice_data, form_text, saved_data}
use Rattle.vc_store_forms.specs.Shapes.{choice_in, saved_in}

abbrev size_l : Choice
size_l = record { instance = 0; characteristic = codes "SIZE"; value = codes "L" }

abbrev pump : Saved
pump = record { model = codes "PUMP"; version = 1; choices = size_l ∷ [] }

-- the text of one value, with the keys in byte order
text : form_text pump
    ≡ codes "{\"form\":1,\"model\":\"PUMP\",\"values\":[{\"characteristic\":\"SIZE\","
    ++ codes "\"instance\":0,\"value\":\"L\"}],\"version\":1}"
unfolding digits serde_json_on_literals
text = refl

none : form_text (record pump { choices = [] }) ≡ codes "{\"form\":1,\"model\":\"PUMP\",\"values\":[],\"version\":1}"
unfolding digits serde_json_on_literals
none = refl

-- keys in another order, spaces, and the last of two equal keys
shuffled : option_and_then saved_in
    (read (codes "{\"version\": 1, \"values\": [], \"model\": \"LAMP\", \"form\": 1, \"model\": \"PUMP\"}"))
    ≡ Some (record pump { choices = [] })
unfolding serde_json_on_literals
shuffled = refl

-- a number with a point or below zero is of another kind
pointed : option_and_then saved_in (read (codes "{\"form\":1.0,\"model\":\"PUMP\",\"values\":[],\"version\":1}")) ≡ None
unfolding serde_json_on_literals
pointed = refl

cut : read (codes "{\"form\":1,\"model\":\"PUMP\",\"values\":[],\"version\":1") ≡ None
unfolding serde_json_on_literals
cut = refl

-- one key less, one more, one of another kind
abbrev form : Data → Items → Members → Data
form version values more =
    object (member (codes "form") (number (unsigned 1)) (member (codes "model") (string (codes "PUMP"))
    (member (codes "values") (array values) (member (codes "version") version more))))

whole : saved_in (form (number (unsigned 1)) no_items no_members) ≡ Some (record pump { choices = [] })
whole = refl

more_keys : saved_in (form (number (unsigned 1)) no_items (member (codes "x") null no_members)) ≡ None
more_keys = refl

text_version : saved_in (form (string (codes "1")) no_items no_members) ≡ None
text_version = refl

other_form : saved_in
    (object (member (codes "form") (number (unsigned 2)) (member (codes "model") (string (codes "PUMP"))
    (member (codes "values") (array no_items) (member (codes "version") (number (unsigned 1)) no_members))))) ≡ None
other_form = refl

no_model : saved_in (object (member (codes "form") (number (unsigned 1)) (member (codes "values") (array no_items)
    (member (codes "version") (number (unsigned 1)) no_members)))) ≡ None
no_model = refl

-- one value that is none makes it another shape, also behind one that is
one_bad : saved_in (form (number (unsigned 1)) (item (choice_data size_l) (item null no_items)) no_members) ≡ None
one_bad = refl

abbrev choice : Data → Data → Data
choice instance value =
    object (member (codes "characteristic") (string (codes "SIZE")) (member (codes "instance") instance
    (member (codes "value") value no_members)))

number_value : choice_in (choice (number (unsigned 0)) (number (unsigned 5))) ≡ None
number_value = refl

text_instance : choice_in (choice (string (codes "0")) (string (codes "L"))) ≡ None
text_instance = refl

good : choice_in (choice (number (unsigned 0)) (string (codes "L"))) ≡ Some size_l
good = refl
