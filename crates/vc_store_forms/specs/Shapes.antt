-- Which JSON is of the form in which sessions are saved.
use Rattle.std.specs.Prelude.{ℕ, Bool, false, map, ◌&&◌, ◌==◌, if◌then◌else◌, List, [], ◌∷◌, codes, Option, None, Some}
use Rattle.std.specs.Prelude.{option_and_then}
use Rattle.serde_json.specs.Data.{Data, null, boolean, number, string, array, object, Items, no_items, item}
use Rattle.serde_json.specs.Events.{members_len}
use Rattle.serde_json.specs.Find.{get, as_array, as_number, as_str, as_u64}
use Rattle.serde_json.specs.View.{items_of, view}
use Rattle.vc_store_forms.specs.declared.shapes.FoundChoice.{FoundChoice}
use Rattle.vc_store_forms.specs.declared.shapes.FoundForm.{FoundForm}
use Rattle.vc_store_forms.specs.Forms.{Choice, Saved}

-- how many members an object has; any other value has none
abbrev pub member_count : Data → ℕ
member_count null = 0
member_count (boolean b) = 0
member_count (number n) = 0
member_count (string s) = 0
member_count (array ds) = 0
member_count (object ms) = members_len ms

-- a member of an object that is a text, a whole number below 2^64 written with digits alone, or a list
abbrev pub text_at : List ℕ → Data → Option (List ℕ)
text_at key json = option_and_then as_str (get key json)

abbrev pub number_at : List ℕ → Data → Option ℕ
number_at key json = option_and_then as_u64 (option_and_then as_number (get key json))

abbrev pub list_at : List ℕ → Data → Option Items
list_at key json = option_and_then as_array (get key json)

-- an object of these three members, each of its kind
abbrev pub choice_from : Option (List ℕ) → Option ℕ → Option (List ℕ) → Option Choice
choice_from None instance value = None
choice_from (Some characteristic) None value = None
choice_from (Some characteristic) (Some instance) None = None
choice_from (Some characteristic) (Some instance) (Some value) =
    Some (record { instance = instance; characteristic = characteristic; value = value })

abbrev pub choice_in : Data → Option Choice
choice_in json =
    if member_count json == 3
    then choice_from (text_at (codes "characteristic") json) (number_at (codes "instance") json)
    (text_at (codes "value") json)
    else None

-- a list of such objects alone
abbrev pub with_choice : Option Choice → Option (List Choice) → Option (List Choice)
with_choice None more = None
with_choice (Some choice) None = None
with_choice (Some choice) (Some more) = Some (choice ∷ more)

abbrev pub choices_in : Items → Option (List Choice)
choices_in no_items = Some []
choices_in (item json more) = with_choice (choice_in json) (choices_in more)

-- an object of these four members, each of its kind, of form 1
abbrev pub saved_from : Option (List ℕ) → Option (List Choice) → Option ℕ → Option Saved
saved_from None choices version = None
saved_from (Some model) None version = None
saved_from (Some model) (Some choices) None = None
saved_from (Some model) (Some choices) (Some version) =
    Some (record { model = model; version = version; choices = choices })

abbrev pub is_form : Option ℕ → Bool
is_form None = false
is_form (Some form) = form == 1

abbrev pub saved_in : Data → Option Saved
saved_in json =
    if (member_count json == 4) && is_form (number_at (codes "form") json)
    then saved_from (text_at (codes "model") json)
    (option_and_then choices_in (list_at (codes "values") json)) (number_at (codes "version") json)
    else None

-- what was found, as it is said here
abbrev pub choice_said : FoundChoice → Choice
choice_said found =
    record { instance = found.instance; characteristic = found.characteristic.now; value = found.value.now }

abbrev pub choices_said : FoundForm → Option (List Choice)
choices_said found = choices_in (items_of (map view found.values.now))

abbrev pub saved_said : FoundForm → Option Saved
saved_said found = saved_from (Some found.model.now) (choices_said found) (Some found.version)
