-- What is noted of a saved text's values while they are gone through, one after another.
use Rattle.std.specs.Prelude.{◌≡◌, ◌<◌, ℕ, Bool, true, false, ◌||◌, ◌==◌, List, [], ◌∷◌, length, map, slice_index_or}
use Rattle.std.specs.Prelude.{option_to_list, not, Option, None, Some, is_some}
use Rattle.std.specs.List.{flat_map, list_any}
use Rattle.serde_json.specs.View.{view}
use Rattle.serde_json.specs.declared.value.Value.{Value as Json}
use Rattle.vc_value.specs.declared.value.Value.TheVariants.{Text}
use Rattle.vc_plan.specs.declared.plans.Plan.{Plan}
use Rattle.vc_plan.specs.Domains.{texts_of}
use Rattle.vc_plan.specs.Evaluate.{holds}
use Rattle.vc_plan.specs.Orders.{are_apart}
use Rattle.vc_plan_users.specs.Choosing.{Chosen, none_chosen, set_at, users_of, with_text, with_value}
use Rattle.vc_session.specs.Edits.{given}
use Rattle.vc_store_forms.specs.Forms.{Choice}
use Rattle.vc_store_forms.specs.Shapes.{choice_in}
use Rattle.vc_store.specs.declared.naming.GivenValue.{GivenValue}
use Rattle.vc_store.specs.declared.naming.Place.{Place as PlaceFound}
use Rattle.vc_store.specs.declared.naming.Place.TheVariants as found
use Rattle.vc_store.specs.Meaning.{Given, Place, at_text, at_var, meaning, place, same_place}

-- whether something stands at the place, and that something does
abbrev pub stands : Chosen → Place → Bool
stands marks (at_var v) = is_some (slice_index_or marks.values v None)
stands marks (at_text s t) = holds (users_of marks) s t

abbrev pub marked : Chosen → Place → Chosen
marked marks (at_var v) = with_value marks v (Some (Text 0))
marked marks (at_text s t) = with_text marks s t true

abbrev pub stands_if : Chosen → Option Place → Bool
stands_if marks None = false
stands_if marks (Some p) = stands marks p

abbrev pub marked_if : Chosen → Option Place → Chosen
marked_if marks None = marks
marked_if marks (Some p) = marked marks p

-- whether one of the places stands when its turn comes
abbrev pub twice_among : Chosen → List (Option Place) → Bool
twice_among marks [] = false
twice_among marks (p ∷ places) = stands_if marks p || twice_among (marked_if marks p) places

-- what is chosen where these are given one after another, if all are known
abbrev pub given_all : Chosen → List (Option Given) → Option Chosen
given_all chosen [] = Some chosen
given_all chosen (None ∷ more) = None
given_all chosen (Some g ∷ more) = given_all (given chosen g.named g.value) more

-- a value's place and its meaning, read off its JSON
abbrev pub place_if : Plan → Option Choice → Option Place
place_if plan None = None
place_if plan (Some choice) = place plan choice

abbrev pub meaning_if : Plan → Option Choice → Option Given
meaning_if plan None = None
meaning_if plan (Some choice) = meaning plan choice

abbrev pub place_in : Plan → Json → Option Place
place_in plan json = place_if plan (choice_in (view json))

abbrev pub meaning_in : Plan → Json → Option Given
meaning_in plan json = meaning_if plan (choice_in (view json))

-- a place and a value that are found, as they are said here
abbrev pub place_said : PlaceFound → Place
place_said (found.Var v) = at_var v
place_said (found.Text s t) = at_text s t

abbrev pub given_said : GivenValue → Given
given_said g = record { named = g.named; value = g.value }

-- what is chosen has a value or none for each variable of the plan, and each set its list
pub record AreFor (plan : Plan) (chosen : Chosen) : Type 0 where
  pub values : length chosen.values ≡ length plan.vars
  pub sets : (s : ℕ) → map (λ t. t.text) (set_at chosen s) ≡ texts_of plan s

-- whether the plan has the place
abbrev pub IsThere : Plan → Place → Type 0
IsThere plan (at_var v) = v < length plan.vars
IsThere plan (at_text s t) = list_any (λ listed. listed == t) (texts_of plan s) ≡ true

-- whether two of the values stand at one place
abbrev pub stand_twice : Plan → List Json → Bool
stand_twice plan values = not (are_apart same_place (flat_map (λ json. option_to_list (place_in plan json)) values))

abbrev pub given_if : Chosen → Option Given → Chosen
given_if chosen None = chosen
given_if chosen (Some g) = given chosen g.named g.value

-- what is chosen where the values alone are given, if all are known
abbrev pub given_by : Plan → List Json → Option Chosen
given_by plan values = given_all (none_chosen plan) (map (meaning_in plan) values)
