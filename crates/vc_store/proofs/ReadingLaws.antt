-- What is found of a saved text is what it says.
use Rattle.std.proofs.Common.{◌≡◌, Bool, true, false, cond, not, List, [], ◌∷◌, ◌++◌, map, refl, sym, ap, ap₂, ◌∙◌}
use Rattle.std.specs.Prelude.{Option, None, Some, is_some, option_to_list, Ok, Err, ◌&&◌}
use Rattle.std.specs.List.{flat_map, list_all}
use Rattle.serde_json.specs.View.{items_of, view}
use Rattle.serde_json.specs.declared.value.Value.{Value as Json}
use Rattle.vc_plan.specs.declared.plans.Plan.{Plan}
use Rattle.vc_plan.specs.Orders.{are_apart}
use Rattle.vc_plan_users.specs.Choosing.{Chosen}
use Rattle.vc_store_forms.specs.Forms.{Choice, Saved}
use Rattle.vc_store_forms.specs.Shapes.{choice_in, choices_in, with_choice}
use Rattle.vc_store.specs.Marking.{given_by, meaning_if, meaning_in, place_if, place_in, stand_twice}
use Rattle.vc_store.specs.Meaning.{chosen_by, meaning, meanings, place, same_place, stands_twice}
use Rattle.vc_store.specs.Reading.{are_known, is_of, read_form, read_known}
use Rattle.vc_store.specs.declared.faults.SavedFault.TheVariants.{OtherModel, Shape, UnknownName}
use Rattle.vc_store.proofs.ChosenLaws.{all_given_is, known}

abbrev said : Json → Option Choice
said json = choice_in (view json)

-- each value is one of the form
each_said : (values : List Json) (choices : List Choice) → choices_in (items_of (map view values)) ≡ Some choices
    → map said values ≡ map (λ choice. Some choice) choices
each_said [] [] e = refl
each_said [] (choice ∷ choices) e = absurd (cc)
each_said (json ∷ values) choices e =
    by (said json) refl (choices_in (items_of (map view values))) refl choices e (λ cs. each_said values cs)
  where
    by : (o : Option Choice) → said json ≡ o → (r : Option (List Choice))
        → choices_in (items_of (map view values)) ≡ r → (cs : List Choice) → with_choice o r ≡ Some cs
        → ((ds : List Choice) → choices_in (items_of (map view values)) ≡ Some ds
        → map said values ≡ map (λ choice. Some choice) ds)
        → map said (json ∷ values) ≡ map (λ choice. Some choice) cs
    by None f r g cs h later = absurd (cc)
    by (Some c) f None g cs h later = absurd (cc)
    by (Some c) f (Some rest) g [] h later = absurd (cc)
    by (Some c) f (Some rest) g (d ∷ cs) h later =
        let first : c ≡ d = cc in
        let more : rest ≡ cs = cc in
        ap₂ (λ x xs. x ∷ xs) (f ∙ ap Some first) (later cs (g ∙ ap Some more))

through : {X Y Z : Type 0} (f : X → Y) (g : Y → Z) (xs : List X) → map (λ x. g (f x)) xs ≡ map g (map f xs)
through f g [] = refl
through f g (x ∷ xs) = ap (λ rest. g (f x) ∷ rest) (through f g xs)

joined : {X Y : Type 0} (f : X → Option Y) (xs : List X)
    → flat_map option_to_list (map f xs) ≡ flat_map (λ x. option_to_list (f x)) xs
joined f [] = refl
joined f (x ∷ xs) = ap (λ rest. option_to_list (f x) ++ rest) (joined f xs)

pub twice_said : (plan : Plan) (values : List Json) (choices : List Choice)
    → choices_in (items_of (map view values)) ≡ Some choices → stand_twice plan values ≡ stands_twice plan choices
twice_said plan values choices e =
    ap (λ places. not (are_apart same_place places))
    (sym (joined (place_in plan) values)
    ∙ ap (flat_map option_to_list) (through said (place_if plan) values
    ∙ ap (map (place_if plan)) (each_said values choices e)
    ∙ sym (through (λ choice. Some choice) (place_if plan) choices))
    ∙ joined (place plan) choices)

meant : (plan : Plan) (values : List Json) (choices : List Choice)
    → choices_in (items_of (map view values)) ≡ Some choices → map (meaning_in plan) values ≡ map (meaning plan) choices
meant plan values choices e =
    through said (meaning_if plan) values ∙ ap (map (meaning_if plan)) (each_said values choices e)
    ∙ sym (through (λ choice. Some choice) (meaning_if plan) choices)

all_known : (plan : Plan) (choices : List Choice)
    → list_all (λ m. is_some m) (map (meaning plan) choices) ≡ are_known plan choices
all_known plan [] = refl
all_known plan (choice ∷ choices) = ap (λ b. is_some (meaning plan choice) && b) (all_known plan choices)

pub given_said_by : (plan : Plan) (values : List Json) (choices : List Choice)
    → choices_in (items_of (map view values)) ≡ Some choices
    → given_by plan values ≡ cond (are_known plan choices) (Some (chosen_by plan (meanings plan choices))) None
given_said_by plan values choices e =
    all_given_is plan (map (meaning_in plan) values)
    ∙ ap (λ ms. cond (list_all (λ m. is_some m) ms) (Some (chosen_by plan (known ms))) no_one)
    (meant plan values choices e)
    ∙ ap₂ (λ b gs. cond b (Some (chosen_by plan gs)) no_one) (all_known plan choices) (joined (meaning plan) choices)
  where
    no_one : Option Chosen
    no_one = None

-- the answer, by what was found
pub form_twice : (plan : Plan) (saved : Saved) → stands_twice plan saved.choices ≡ true
    → read_form plan saved ≡ Err Shape
form_twice plan saved twice = rw twice refl

pub form_other : (plan : Plan) (saved : Saved) → stands_twice plan saved.choices ≡ false → is_of plan saved ≡ false
    → read_form plan saved ≡ Err OtherModel
form_other plan saved once other = rw (once, other) refl

pub form_known : (plan : Plan) (saved : Saved) → stands_twice plan saved.choices ≡ false → is_of plan saved ≡ true
    → read_form plan saved ≡ read_known plan saved
form_known plan saved once same = rw (once, same) refl

some_known : (b : Bool) (x y : Chosen) → cond b (Some x) None ≡ Some y → cond b (Ok x) (Err UnknownName) ≡ Ok y
some_known true x y e = let same : x ≡ y = cc in ap Ok same
some_known false x y e = absurd (cc)

none_known : (b : Bool) (x : Chosen) → cond b (Some x) None ≡ None → cond b (Ok x) (Err UnknownName) ≡ Err UnknownName
none_known true x e = absurd (cc)
none_known false x e = refl

pub known_some : (plan : Plan) (saved : Saved) (values : List Json) (chosen : Chosen)
    → choices_in (items_of (map view values)) ≡ Some saved.choices → given_by plan values ≡ Some chosen
    → read_known plan saved ≡ Ok chosen
known_some plan saved values chosen e given =
    some_known (are_known plan saved.choices) (chosen_by plan (meanings plan saved.choices)) chosen
    (sym (given_said_by plan values saved.choices e) ∙ given)

pub known_none : (plan : Plan) (saved : Saved) (values : List Json)
    → choices_in (items_of (map view values)) ≡ Some saved.choices → given_by plan values ≡ None
    → read_known plan saved ≡ Err UnknownName
known_none plan saved values e given =
    none_known (are_known plan saved.choices) (chosen_by plan (meanings plan saved.choices))
    (sym (given_said_by plan values saved.choices e) ∙ given)
