-- The form in which a session is saved: the model's name and version, and each value that the user chose, as JSON.
use Rattle.std.specs.Prelude.{ℕ, List, map, codes}
use Rattle.serde_json.specs.Data.{Data, unsigned, number, string, array, object, no_members, member}
use Rattle.serde_json.specs.View.{items_of}
use Rattle.serde_json.specs.Written.{compact_text}

-- one value: at which instance and characteristic it was chosen, and its text
pub record Choice : Type 0 where
  pub instance : ℕ
  pub characteristic : List ℕ
  pub value : List ℕ

-- all that is saved
pub record Saved : Type 0 where
  pub model : List ℕ
  pub version : ℕ
  pub choices : List Choice

-- as JSON: an object for each value, with the keys in byte order
abbrev pub choice_data : Choice → Data
choice_data choice = object
    (member (codes "characteristic") (string choice.characteristic)
    (member (codes "instance") (number (unsigned choice.instance))
    (member (codes "value") (string choice.value) no_members)))

abbrev pub saved_data : Saved → Data
saved_data saved = object
    (member (codes "form") (number (unsigned 1))
    (member (codes "model") (string saved.model)
    (member (codes "values") (array (items_of (map choice_data saved.choices)))
    (member (codes "version") (number (unsigned saved.version)) no_members))))

-- the text of it: the JSON in its compact form
abbrev pub form_text : Saved → List ℕ
form_text saved = compact_text (saved_data saved)
