-- What is named is there.
use Rattle.std.proofs.Common.{◌≡◌, ℕ, zero, suc, ◌+◌, ◌<◌, ◌≤◌, Bool, true, false, cond, not, List, [], ◌∷◌, ◌++◌}
use Rattle.std.proofs.Common.{length, map, ap, refl, subst}
use Rattle.std.proofs.Common.{arith}
use Rattle.std.specs.Prelude.{Option, None, Some, option_to_list, slice_get}
use Rattle.std.specs.List.{find, flat_map, range_with_len}
use Rattle.vc_plan.specs.Orders.{are_apart}
use Rattle.std.proofs.lemmas.Option.{slice_get_past}
use Rattle.vc_plan.specs.declared.plans.Named.{Named}
use Rattle.vc_plan.specs.declared.plans.Named.TheVariants.{Set, Var}
use Rattle.vc_plan.specs.declared.plans.Plan.{Plan}
use Rattle.vc_plan.specs.Classes.{class_at}
use Rattle.vc_plan.specs.Parts.{is_var_of, var_of}
use Rattle.vc_desk_names.specs.Meant.{characteristic_named, find_named, is_called, named_if}
use Rattle.vc_show_rows.specs.Rows.{named_by as by_either, named_of, set_named, set_of}
use Rattle.serde_json.specs.View.{view}
use Rattle.serde_json.specs.declared.value.Value.{Value as Json}
use Rattle.vc_value.specs.declared.value.Value.{Value}
use Rattle.vc_value.specs.declared.value.Value.TheVariants.{Num, Text}
use Rattle.vc_desk_names.specs.Meant.{value_named}
use Rattle.vc_desk_names.proofs.MeantLaws.{listed_may_be_given}
use Rattle.vc_store_forms.specs.Forms.{Choice}
use Rattle.vc_store_forms.specs.Shapes.{choice_in}
use Rattle.vc_store.specs.Marking.{IsThere, place_if, place_in, stand_twice}
use Rattle.vc_store.specs.Meaning.{Place, at_text, at_var, named_by, place, place_at, same_place}
use Rattle.vc_store.specs.Meaning.{text_place}
use Rattle.vc_store.proofs.MarkLaws.{AllThere, standing}

pub none_past : (plan : Plan) (i : ℕ) (name : List ℕ) → length plan.slots ≤ i → find_named plan i name ≡ None
none_past plan i name past =
    ap (λ slot. named_if plan i (find (λ c. is_called name (slice_get plan.characteristics c)) (class_at plan slot)))
    (slice_get_past plan.slots i past)

found_below : (p : ℕ → Bool) (a n v : ℕ) → find p (range_with_len a n) ≡ Some v → v < a + n
found_below p a zero v e = absurd (cc)
found_below p a (suc n) v e = by (p a) e (found_below p (a + 1) n v)
  where
    by : (b : Bool) → cond b (Some a) (find p (range_with_len (a + 1) n)) ≡ Some v
        → (find p (range_with_len (a + 1) n) ≡ Some v → v < (a + 1) + n) → v < a + suc n
    by true h rest = let same : a ≡ v = cc in omega (arith, same)
    by false h rest = omega (arith, rest h)

var_below : (plan : Plan) (i c v : ℕ) → named_of plan i c ≡ Some (Var v) → v < length plan.vars
var_below plan i c v e = by (var_of plan i c) refl e
  where
    of_set : (o : Option ℕ) → set_named o ≡ Some (Var v) → v < length plan.vars
    of_set None h = absurd (cc)
    of_set (Some s) h = absurd (cc)

    by : (o : Option ℕ) → var_of plan i c ≡ o → by_either o (set_named (set_of plan i c)) ≡ Some (Var v)
        → v < length plan.vars
    by None h f = of_set (set_of plan i c) f
    by (Some w) h f =
        let same : w ≡ v = cc in
        let below : w < 0 + length plan.vars =
        found_below (λ x. is_var_of i c (slice_get plan.vars x)) 0 (length plan.vars) w h in
        omega (arith, same, below)

pub named_below : (plan : Plan) (i : ℕ) (name : List ℕ) (v : ℕ) → find_named plan i name ≡ Some (Var v)
    → v < length plan.vars
named_below plan i name v e = by (characteristic_named plan i name) e
  where
    by : (o : Option ℕ) → named_if plan i o ≡ Some (Var v) → v < length plan.vars
    by None h = absurd (cc)
    by (Some c) h = var_below plan i c v h

-- so is the place of a value
text_there : (plan : Plan) (s : ℕ) (word : List ℕ) (p : Place)
    → text_place s (value_named plan (Set s) word) ≡ Some p → IsThere plan p
text_there plan s word p e = by (value_named plan (Set s) word) refl e
  where
    by : (o : Option Value) → value_named plan (Set s) word ≡ o → text_place s o ≡ Some p → IsThere plan p
    by None h f = absurd (cc)
    by (Some (Num a)) h f = absurd (cc)
    by (Some (Text t)) h f =
        let same : at_text s t ≡ p = cc in
        subst (IsThere plan) same (listed_may_be_given plan (Set s) word (Text t) h)

place_there : (plan : Plan) (choice : Choice) (p : Place) → place plan choice ≡ Some p → IsThere plan p
place_there plan choice p e = by (named_by plan choice) refl e
  where
    by : (o : Option Named) → named_by plan choice ≡ o → place_at plan choice.value o ≡ Some p → IsThere plan p
    by None h f = absurd (cc)
    by (Some (Var v)) h f =
        let same : at_var v ≡ p = cc in
        subst (IsThere plan) same (named_below plan choice.instance choice.characteristic v h)
    by (Some (Set s)) h f = text_there plan s choice.value p f

pub found_there : (plan : Plan) (json : Json) (p : Place) → place_in plan json ≡ Some p → IsThere plan p
found_there plan json p e = by (choice_in (view json)) e
  where
    by : (o : Option Choice) → place_if plan o ≡ Some p → IsThere plan p
    by None f = absurd (cc)
    by (Some choice) f = place_there plan choice p f

pub all_there : (plan : Plan) (values : List Json) → AllThere plan (map (place_in plan) values)
all_there plan [] = tt
all_there plan (json ∷ values) = by (place_in plan json) refl (all_there plan values)
  where
    by : (o : Option Place) → place_in plan json ≡ o → AllThere plan (map (place_in plan) values)
        → AllThere plan (o ∷ map (place_in plan) values)
    by None h rest = rest
    by (Some p) h rest = (found_there plan json p h, rest)

joined : (f : Json → Option Place) (values : List Json)
    → standing (map f values) ≡ flat_map (λ json. option_to_list (f json)) values
joined f [] = refl
joined f (json ∷ values) = ap (λ rest. option_to_list (f json) ++ rest) (joined f values)

pub standing_values : (plan : Plan) (values : List Json)
    → not (are_apart same_place (standing (map (place_in plan) values))) ≡ stand_twice plan values
standing_values plan values = ap (λ places. not (are_apart same_place places)) (joined (place_in plan) values)
