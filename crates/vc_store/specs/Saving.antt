-- What is saved of a session, and its text.
use Rattle.std.specs.Prelude.{ℕ, List, [], map, length, slice_get, slice_index_or, option_to_list, Option, None, Some}
use Rattle.std.specs.List.{flat_map}
use Rattle.vc_value.specs.declared.value.Value.{Value}
use Rattle.vc_value.specs.declared.value.Value.TheVariants.{Text, Num}
use Rattle.vc_value.specs.Numerals.{number_text}
use Rattle.vc_plan.specs.declared.plans.Named.{Named}
use Rattle.vc_plan.specs.declared.plans.Named.TheVariants.{Set, Var}
use Rattle.vc_plan.specs.declared.plans.Plan.{Plan}
use Rattle.vc_plan.specs.Domains.{numbers_below}
use Rattle.vc_plan_users.specs.Choosing.{Chosen, held_texts, set_at}
use Rattle.vc_show_rows.specs.Rows.{class_of, named_of}
use Rattle.vc_show_rows.specs.Texts.{name_of}
use Rattle.serde_json.specs.Data.{Data}
use Rattle.vc_store_forms.specs.Forms.{Choice, Saved, choice_data, form_text}

-- a value's text: a listed text as it is, without quotes, a number as numbers are printed
abbrev pub text_in : Option (List ℕ) → List ℕ
text_in None = []
text_in (Some text) = text

abbrev pub plain_text : Plan → Value → List ℕ
plain_text plan (Text t) = text_in (slice_get plan.texts t)
plain_text plan (Num a) = number_text a

abbrev pub choice_of : Plan → ℕ → Named → Value → Choice
choice_of plan i named a = record { instance = i; characteristic = name_of plan named; value = plain_text plan a }

-- the user's values of a variable, at most one, or of a set, in the order of its list
abbrev pub values_of : Chosen → Named → List Value
values_of chosen (Var v) = option_to_list (slice_index_or chosen.values v None)
values_of chosen (Set s) = map Text (held_texts (set_at chosen s))

-- they of all instances, by slot, class order and list order
abbrev pub choices_of : Plan → Chosen → ℕ → Option Named → List Choice
choices_of plan chosen i None = []
choices_of plan chosen i (Some named) = map (choice_of plan i named) (values_of chosen named)

abbrev pub choices_at : Plan → Chosen → ℕ → List Choice
choices_at plan chosen i = flat_map (λ c. choices_of plan chosen i (named_of plan i c)) (class_of plan i)

abbrev pub saved_of : Plan → Chosen → Saved
saved_of plan chosen = record {
  model = plan.name;
  version = plan.version;
  choices = flat_map (choices_at plan chosen) (numbers_below (length plan.slots));
}

-- the saved text
abbrev pub saved_text : Plan → Chosen → List ℕ
saved_text plan chosen = form_text (saved_of plan chosen)

-- the values as JSON, those of an instance, and of all
abbrev pub json_of : Plan → Chosen → ℕ → Option Named → List Data
json_of plan chosen i named = map choice_data (choices_of plan chosen i named)

abbrev pub json_at : Plan → Chosen → ℕ → List Data
json_at plan chosen i = flat_map (λ c. json_of plan chosen i (named_of plan i c)) (class_of plan i)

abbrev pub all_json : Plan → Chosen → List Data
all_json plan chosen = flat_map (json_at plan chosen) (numbers_below (length plan.slots))
