-- What the values of a saved text mean in a plan.
use Rattle.std.specs.Prelude.{ℕ, Bool, false, not, ◌&&◌, ◌==◌, if◌then◌else◌, List, [], ◌∷◌, map, length}
use Rattle.std.specs.Prelude.{option_to_list, Option, None, Some}
use Rattle.std.specs.List.{flat_map, list_any}
use Rattle.vc_value.specs.declared.value.Value.{Value}
use Rattle.vc_value.specs.declared.value.Value.TheVariants.{Text, Num}
use Rattle.vc_plan.specs.declared.plans.Named.{Named}
use Rattle.vc_plan.specs.declared.plans.Named.TheVariants.{Set, Var}
use Rattle.vc_plan.specs.declared.plans.Plan.{Plan}
use Rattle.vc_plan.specs.Domains.{numbers_below, texts_of}
use Rattle.vc_plan.specs.Orders.{are_apart}
use Rattle.vc_plan_users.specs.Choosing.{Chosen}
use Rattle.vc_plan_users.specs.declared.users.SetText.{SetText}
use Rattle.vc_desk_names.specs.Meant.{find_named, value_named}
use Rattle.vc_store_forms.specs.Forms.{Choice}

-- the variable or the set that a choice names, if the plan has it
abbrev pub named_by : Plan → Choice → Option Named
named_by plan choice = find_named plan choice.instance choice.characteristic

-- a value of a variable or of a set
pub record Given : Type 0 where
  pub named : Named
  pub value : Value

abbrev pub given_if : Named → Option Value → Option Given
given_if named None = None
given_if named (Some a) = Some (record { named = named; value = a })

-- what a choice means: the value of the list that its text is
abbrev pub meaning_at : Plan → List ℕ → Option Named → Option Given
meaning_at plan word None = None
meaning_at plan word (Some named) = given_if named (value_named plan named word)

abbrev pub meaning : Plan → Choice → Option Given
meaning plan choice = meaning_at plan choice.value (named_by plan choice)

abbrev pub meanings : Plan → List Choice → List Given
meanings plan choices = flat_map (λ choice. option_to_list (meaning plan choice)) choices

-- where a choice stands: at a variable, whatever its value, or at a text of a set
pub data Place : Type 0 where
  at_var : ℕ → Place
  at_text : ℕ → ℕ → Place

abbrev pub same_place : Place → Place → Bool
same_place (at_var v) (at_var w) = v == w
same_place (at_var v) (at_text s t) = false
same_place (at_text s t) (at_var v) = false
same_place (at_text s t) (at_text r u) = (s == r) && (t == u)

abbrev pub text_place : ℕ → Option Value → Option Place
text_place s None = None
text_place s (Some (Text t)) = Some (at_text s t)
text_place s (Some (Num a)) = None

abbrev pub place_at : Plan → List ℕ → Option Named → Option Place
place_at plan word None = None
place_at plan word (Some (Var v)) = Some (at_var v)
place_at plan word (Some (Set s)) = text_place s (value_named plan (Set s) word)

abbrev pub place : Plan → Choice → Option Place
place plan choice = place_at plan choice.value (named_by plan choice)

-- whether a variable stands twice, or a set's value
abbrev pub stands_twice : Plan → List Choice → Bool
stands_twice plan choices =
    not (are_apart same_place (flat_map (λ choice. option_to_list (place plan choice)) choices))

-- the value that is given to a variable, and whether a text is given to a set
abbrev pub var_value : ℕ → Named → Value → Option Value
var_value v (Var w) a = if w == v then Some a else None
var_value v (Set s) a = None

abbrev pub or_value : Option Value → Option Value → Option Value
or_value None later = later
or_value (Some a) later = Some a

abbrev pub value_given : List Given → ℕ → Option Value
value_given [] v = None
value_given (given ∷ more) v = or_value (value_given more v) (var_value v given.named given.value)

abbrev pub is_text_of : ℕ → ℕ → Named → Value → Bool
is_text_of s t (Var v) a = false
is_text_of s t (Set r) (Text u) = (r == s) && (u == t)
is_text_of s t (Set r) (Num a) = false

abbrev pub text_given : List Given → ℕ → ℕ → SetText
text_given givens s t =
    record { text = t; held = list_any (λ given. is_text_of s t given.named given.value) givens }

-- what the user chose, where these values were given and no others
abbrev pub chosen_by : Plan → List Given → Chosen
chosen_by plan givens = record {
  values = map (value_given givens) (numbers_below (length plan.vars));
  sets = map (λ s. map (text_given givens s) (texts_of plan s)) (numbers_below (length plan.sets));
}
