-- The values that are saved, as what they mean: of each variable its value, of each set the texts that it holds.
use Rattle.std.proofs.Common.{◌≡◌, ℕ, zero, suc, ◌<◌, Bool, true, false, cond, ◌&&◌, List, [], ◌∷◌, ◌++◌}
use Rattle.std.proofs.Common.{length, map, refl, sym, ap, ap₂, ◌∙◌, subst, arith, append_assoc}
use Rattle.std.specs.Prelude.{◌==◌, Option, None, Some, is_some, slice_get, option_to_list}
use Rattle.std.specs.List.{find, flat_map, list_all}
use Rattle.std.proofs.lemmas.Bool.{and_from, and_parts, eqb-true, lt-ltb, ltb-true}
use Rattle.vc_value.specs.declared.value.Value.{Value}
use Rattle.vc_value.specs.declared.value.Value.TheVariants.{Num, Text}
use Rattle.vc_plan.specs.declared.plans.Characteristic.{Characteristic}
use Rattle.vc_plan.specs.declared.plans.Named.{Named}
use Rattle.vc_plan.specs.declared.plans.Named.TheVariants.{Set, Var}
use Rattle.vc_plan.specs.declared.plans.Plan.{Plan}
use Rattle.vc_plan.specs.declared.plans.TextSet.{TextSet}
use Rattle.vc_plan.specs.declared.plans.Var.{Var as Variable}
use Rattle.vc_plan.specs.Domains.{numbers_below}
use Rattle.vc_plan.specs.Parts.{is_var_of, var_of}
use Rattle.vc_plan.specs.Ranges.{is_of, set_there, var_there}
use Rattle.vc_plan.specs.Valid.{IsValid}
use Rattle.vc_plan_users.specs.Choosing.{Chosen}
use Rattle.vc_session.specs.Edits.{may_be_given}
use Rattle.vc_desk_names.specs.Meant.{characteristic_named, find_named, named_if}
use Rattle.vc_desk_names.proofs.NameLaws.{all_get}
use Rattle.vc_show_rows.specs.Rows.{class_of, is_set_of, named_by as by_either, named_of, set_named, set_of}
use Rattle.vc_show_rows.specs.Texts.{name_in, name_of}
use Rattle.vc_store_forms.specs.Forms.{Choice}
use Rattle.vc_store.specs.Meaning.{Given, Place, at_text, at_var, given_if, meaning, meaning_at, place, place_at}
use Rattle.vc_store.specs.Meaning.{text_place}
use Rattle.vc_store.specs.Saving.{choice_of, choices_at, choices_of, plain_text, saved_of, values_of}
use Rattle.vc_store.proofs.FoundLaws.{class_has_set, class_has_var, name_found, set_named_at, var_named}
use Rattle.vc_store.proofs.ValueLaws.{value_read}

-- what is found of a range passes the test
found_passes : (p : ℕ → Bool) (xs : List ℕ) (w : ℕ) → find p xs ≡ Some w → p w ≡ true
found_passes p [] w e = absurd (cc)
found_passes p (x ∷ xs) w e = by (p x) refl e (found_passes p xs w)
  where
    by : (b : Bool) → p x ≡ b → cond b (Some x) (find p xs) ≡ Some w → (find p xs ≡ Some w → p w ≡ true) → p w ≡ true
    by true h f later = let same : x ≡ w = cc in ap p (sym same) ∙ h
    by false h f later = later f

-- a variable that has a characteristic at a slot stands there
pub var_stands : (plan : Plan) (i c v : ℕ) → named_of plan i c ≡ Some (Var v)
    → (x : Variable) × (slice_get plan.vars v ≡ Some x) × (x.slot ≡ i) × (x.characteristic ≡ c)
var_stands plan i c v e = by (var_of plan i c) refl e
  where
    at : (o : Option Variable) → slice_get plan.vars v ≡ o → is_var_of i c o ≡ true
        → (x : Variable) × (slice_get plan.vars v ≡ Some x) × (x.slot ≡ i) × (x.characteristic ≡ c)
    at None f h = absurd (cc)
    at (Some x) f h =
        let parts = and_parts (x.slot == i) (x.characteristic == c) h in
        (x, f, eqb-true x.slot i parts.0, eqb-true x.characteristic c parts.1)

    of_set : (o : Option ℕ) → set_named o ≡ Some (Var v) → ⊥
    of_set None h = cc
    of_set (Some s) h = cc

    by : (o : Option ℕ) → var_of plan i c ≡ o → by_either o (set_named (set_of plan i c)) ≡ Some (Var v)
        → (x : Variable) × (slice_get plan.vars v ≡ Some x) × (x.slot ≡ i) × (x.characteristic ≡ c)
    by None f h = absurd (of_set (set_of plan i c) h)
    by (Some w) f h =
        let same : w ≡ v = cc in
        at (slice_get plan.vars v) refl (ap (λ n. is_var_of i c (slice_get plan.vars n)) (sym same)
        ∙ found_passes (λ n. is_var_of i c (slice_get plan.vars n)) (numbers_below (length plan.vars)) w f)

pub set_stands : (plan : Plan) (i c s : ℕ) → named_of plan i c ≡ Some (Set s)
    → (x : TextSet) × (slice_get plan.sets s ≡ Some x) × (x.slot ≡ i) × (x.characteristic ≡ c)
set_stands plan i c s e = by (var_of plan i c) (set_of plan i c) refl e
  where
    at : (o : Option TextSet) → slice_get plan.sets s ≡ o → is_set_of i c o ≡ true
        → (x : TextSet) × (slice_get plan.sets s ≡ Some x) × (x.slot ≡ i) × (x.characteristic ≡ c)
    at None f h = absurd (cc)
    at (Some x) f h =
        let parts = and_parts (x.slot == i) (x.characteristic == c) h in
        (x, f, eqb-true x.slot i parts.0, eqb-true x.characteristic c parts.1)

    by : (o r : Option ℕ) → set_of plan i c ≡ r → by_either o (set_named r) ≡ Some (Set s)
        → (x : TextSet) × (slice_get plan.sets s ≡ Some x) × (x.slot ≡ i) × (x.characteristic ≡ c)
    by (Some w) r f h = absurd (cc)
    by None None f h = absurd (cc)
    by None (Some w) f h =
        let same : w ≡ s = cc in
        at (slice_get plan.sets s) refl (ap (λ n. is_set_of i c (slice_get plan.sets n)) (sym same)
        ∙ found_passes (λ n. is_set_of i c (slice_get plan.sets n)) (numbers_below (length plan.sets)) w f)

-- a number below the length has an element
pub get_there : {X : Type 0} (xs : List X) (k : ℕ) → is_of xs k ≡ true → (x : X) × (slice_get xs k ≡ Some x)
get_there [] k e = absurd (omega (arith, ltb-true k 0 e))
get_there (x ∷ xs) zero e = (x, refl)
get_there (x ∷ xs) (suc k) e =
    let low : suc k < suc (length xs) = ltb-true (suc k) (length (x ∷ xs)) e in
    get_there xs k (lt-ltb k (length xs) (omega (arith, low)))

-- by its name it is found again
var_again : (plan : Plan) → IsValid plan → (v : ℕ) (x : Variable) → slice_get plan.vars v ≡ Some x
    → find_named plan x.slot (name_of plan (Var v)) ≡ Some (Var v)
var_again plan valid v x e =
    let there = and_parts (is_of plan.slots x.slot) (is_of plan.characteristics x.characteristic
    && is_of plan.domains x.domain) (all_get (var_there plan) plan.vars v x valid.vars_there e) in
    let low : x.slot < length plan.slots = ltb-true x.slot (length plan.slots) there.0 in
    let got = get_there plan.characteristics x.characteristic
    (and_parts (is_of plan.characteristics x.characteristic) (is_of plan.domains x.domain) there.1).0 in
    let name : name_of plan (Var v) ≡ got.0.name = ap (λ o. name_in (of_var plan o)) e ∙ ap name_in got.1 in
    ap (λ n. named_if plan x.slot (characteristic_named plan x.slot n)) name
    ∙ ap (named_if plan x.slot) (name_found plan valid x.slot x.characteristic got.0 got.1
    (class_has_var plan valid v x e low))
    ∙ var_named plan valid v x e low
  where
    of_var : Plan → Option Variable → Option Characteristic
    of_var plan None = None
    of_var plan (Some x) = slice_get plan.characteristics x.characteristic

set_again : (plan : Plan) → IsValid plan → (s : ℕ) (x : TextSet) → slice_get plan.sets s ≡ Some x
    → find_named plan x.slot (name_of plan (Set s)) ≡ Some (Set s)
set_again plan valid s x e =
    let there = and_parts (is_of plan.slots x.slot) (is_of plan.characteristics x.characteristic
    && is_of plan.domains x.domain) (all_get (set_there plan) plan.sets s x valid.sets_there e) in
    let low : x.slot < length plan.slots = ltb-true x.slot (length plan.slots) there.0 in
    let got = get_there plan.characteristics x.characteristic
    (and_parts (is_of plan.characteristics x.characteristic) (is_of plan.domains x.domain) there.1).0 in
    let name : name_of plan (Set s) ≡ got.0.name = ap (λ o. name_in (of_set plan o)) e ∙ ap name_in got.1 in
    ap (λ n. named_if plan x.slot (characteristic_named plan x.slot n)) name
    ∙ ap (named_if plan x.slot) (name_found plan valid x.slot x.characteristic got.0 got.1
    (class_has_set plan valid s x e low))
    ∙ set_named_at plan valid s x e low
  where
    of_set : Plan → Option TextSet → Option Characteristic
    of_set plan None = None
    of_set plan (Some x) = slice_get plan.characteristics x.characteristic

named_again : (plan : Plan) → IsValid plan → (i c : ℕ) (named : Named) → named_of plan i c ≡ Some named
    → find_named plan i (name_of plan named) ≡ Some named
named_again plan valid i c (Var v) e =
    let at = var_stands plan i c v e in
    subst (λ j. find_named plan j (name_of plan (Var v)) ≡ Some (Var v)) at.2 (var_again plan valid v at.0 at.1)
named_again plan valid i c (Set s) e =
    let at = set_stands plan i c s e in
    subst (λ j. find_named plan j (name_of plan (Set s)) ≡ Some (Set s)) at.2 (set_again plan valid s at.0 at.1)

-- what a saved value means
abbrev pub given_of : Named → Value → Given
given_of named a = record { named = named; value = a }

pub meaning_is : (plan : Plan) → IsValid plan → (i c : ℕ) (named : Named) (a : Value) → named_of plan i c ≡ Some named
    → may_be_given plan named a ≡ true → meaning plan (choice_of plan i named a) ≡ Some (given_of named a)
meaning_is plan valid i c named a e may =
    ap (meaning_at plan (plain_text plan a)) (named_again plan valid i c named e)
    ∙ ap (given_if named) (value_read plan valid named a may)

-- all that is saved, as what it means
abbrev pub givens_if : Chosen → Option Named → List Given
givens_if chosen None = []
givens_if chosen (Some named) = map (given_of named) (values_of chosen named)

abbrev pub givens_at : Plan → Chosen → ℕ → List Given
givens_at plan chosen i = flat_map (λ c. givens_if chosen (named_of plan i c)) (class_of plan i)

abbrev pub givens : Plan → Chosen → List Given
givens plan chosen = flat_map (givens_at plan chosen) (numbers_below (length plan.slots))

-- where it stands
abbrev pub place_of : Given → List Place
place_of g = at_named g.named g.value
  where
    at_named : Named → Value → List Place
    at_named (Var v) a = at_var v ∷ []
    at_named (Set s) (Text t) = at_text s t ∷ []
    at_named (Set s) (Num a) = []

-- whether all values may be given there
abbrev pub AllMay : Plan → Named → List Value → Type 0
AllMay plan named [] = Unit {0}
AllMay plan named (a ∷ values) = (may_be_given plan named a ≡ true) × AllMay plan named values

abbrev means : Plan → Choice → List Given
means plan choice = option_to_list (meaning plan choice)

abbrev stands : Plan → Choice → List Place
stands plan choice = option_to_list (place plan choice)

values_mean : (plan : Plan) → IsValid plan → (i c : ℕ) (named : Named) → named_of plan i c ≡ Some named
    → (values : List Value) → AllMay plan named values
    → flat_map (means plan) (map (choice_of plan i named) values) ≡ map (given_of named) values
values_mean plan valid i c named e [] may = refl
values_mean plan valid i c named e (a ∷ values) may =
    ap₂ (λ o gs. option_to_list o ++ gs) (meaning_is plan valid i c named a e may.0)
    (values_mean plan valid i c named e values may.1)

place_is : (plan : Plan) → IsValid plan → (i c : ℕ) (named : Named) (a : Value) → named_of plan i c ≡ Some named
    → may_be_given plan named a ≡ true → stands plan (choice_of plan i named a) ≡ place_of (given_of named a)
place_is plan valid i c (Var v) a e may =
    ap (λ o. option_to_list (place_at plan (plain_text plan a) o)) (named_again plan valid i c (Var v) e)
place_is plan valid i c (Set s) (Text t) e may =
    ap (λ o. option_to_list (place_at plan (plain_text plan (Text t)) o)) (named_again plan valid i c (Set s) e)
    ∙ ap (λ o. option_to_list (text_place s o)) (value_read plan valid (Set s) (Text t) may)
place_is plan valid i c (Set s) (Num n) e may = absurd (cc)

values_stand : (plan : Plan) → IsValid plan → (i c : ℕ) (named : Named) → named_of plan i c ≡ Some named
    → (values : List Value) → AllMay plan named values
    → flat_map (stands plan) (map (choice_of plan i named) values)
    ≡ flat_map place_of (map (given_of named) values)
values_stand plan valid i c named e [] may = refl
values_stand plan valid i c named e (a ∷ values) may =
    ap₂ (λ ps qs. ps ++ qs) (place_is plan valid i c named a e may.0)
    (values_stand plan valid i c named e values may.1)

values_known : (plan : Plan) → IsValid plan → (i c : ℕ) (named : Named) → named_of plan i c ≡ Some named
    → (values : List Value) → AllMay plan named values
    → list_all (λ choice. is_some (meaning plan choice)) (map (choice_of plan i named) values) ≡ true
values_known plan valid i c named e [] may = refl
values_known plan valid i c named e (a ∷ values) may =
    ap₂ (λ o b. is_some o && b) (meaning_is plan valid i c named a e may.0)
    (values_known plan valid i c named e values may.1)

-- so of a slot, and of all
pub flat_append : {X Y : Type 0} (f : X → List Y) (xs ys : List X) → flat_map f (xs ++ ys)
    ≡ flat_map f xs ++ flat_map f ys
flat_append f [] ys = refl
flat_append f (x ∷ xs) ys =
    ap (λ zs. f x ++ zs) (flat_append f xs ys) ∙ sym (append_assoc (f x) (flat_map f xs) (flat_map f ys))

flat_each : {X Y Z W : Type 0} (f : Y → List Z) (h : W → List Z) (g : X → List Y) (k : X → List W)
    → ((x : X) → flat_map f (g x) ≡ flat_map h (k x)) → (xs : List X)
    → flat_map f (flat_map g xs) ≡ flat_map h (flat_map k xs)
flat_each f h g k same [] = refl
flat_each f h g k same (x ∷ xs) =
    flat_append f (g x) (flat_map g xs)
    ∙ ap₂ (λ a b. a ++ b) (same x) (flat_each f h g k same xs)
    ∙ sym (flat_append h (k x) (flat_map k xs))

all_append : {X : Type 0} (p : X → Bool) (xs ys : List X) → list_all p xs ≡ true → list_all p ys ≡ true
    → list_all p (xs ++ ys) ≡ true
all_append p [] ys a b = b
all_append p (x ∷ xs) ys a b =
    let parts = and_parts (p x) (list_all p xs) a in
    and_from (p x) (list_all p (xs ++ ys)) parts.0 (all_append p xs ys parts.1 b)

pub all_flat : {X Y : Type 0} (p : Y → Bool) (g : X → List Y) → ((x : X) → list_all p (g x) ≡ true) → (xs : List X)
    → list_all p (flat_map g xs) ≡ true
all_flat p g each [] = refl
all_flat p g each (x ∷ xs) = all_append p (g x) (flat_map g xs) (each x) (all_flat p g each xs)

one_list : (gs : List Given) → flat_map (λ g. g ∷ []) gs ≡ gs
one_list [] = refl
one_list (g ∷ gs) = ap (λ hs. g ∷ hs) (one_list gs)

module _ (plan : Plan) (valid : IsValid plan) (chosen : Chosen)
    (may : (named : Named) → AllMay plan named (values_of chosen named)) where
  of_named : (i c : ℕ) (o : Option Named) → named_of plan i c ≡ o
      → flat_map (means plan) (choices_of plan chosen i o) ≡ flat_map (λ g. g ∷ []) (givens_if chosen o)
  of_named i c None e = refl
  of_named i c (Some named) e =
      values_mean plan valid i c named e (values_of chosen named) (may named)
      ∙ sym (one_list (map (given_of named) (values_of chosen named)))

  pub all_mean : flat_map (means plan) (saved_of plan chosen).choices ≡ givens plan chosen
  all_mean =
      flat_each (means plan) (λ g. g ∷ []) (choices_at plan chosen) (givens_at plan chosen)
      (λ i. flat_each (means plan) (λ g. g ∷ []) (λ c. choices_of plan chosen i (named_of plan i c))
      (λ c. givens_if chosen (named_of plan i c)) (λ c. of_named i c (named_of plan i c) refl) (class_of plan i))
      (numbers_below (length plan.slots))
      ∙ one_list (givens plan chosen)

  standing_of : (i c : ℕ) (o : Option Named) → named_of plan i c ≡ o
      → flat_map (stands plan) (choices_of plan chosen i o) ≡ flat_map place_of (givens_if chosen o)
  standing_of i c None e = refl
  standing_of i c (Some named) e = values_stand plan valid i c named e (values_of chosen named) (may named)

  pub all_stand : flat_map (stands plan) (saved_of plan chosen).choices ≡ flat_map place_of (givens plan chosen)
  all_stand =
      flat_each (stands plan) place_of (choices_at plan chosen) (givens_at plan chosen)
      (λ i. flat_each (stands plan) place_of (λ c. choices_of plan chosen i (named_of plan i c))
      (λ c. givens_if chosen (named_of plan i c)) (λ c. standing_of i c (named_of plan i c) refl) (class_of plan i))
      (numbers_below (length plan.slots))

  known_of : (i c : ℕ) (o : Option Named) → named_of plan i c ≡ o
      → list_all (λ choice. is_some (meaning plan choice)) (choices_of plan chosen i o) ≡ true
  known_of i c None e = refl
  known_of i c (Some named) e = values_known plan valid i c named e (values_of chosen named) (may named)

  pub all_known : list_all (λ choice. is_some (meaning plan choice)) (saved_of plan chosen).choices ≡ true
  all_known =
      all_flat (λ choice. is_some (meaning plan choice)) (choices_at plan chosen)
      (λ i. all_flat (λ choice. is_some (meaning plan choice)) (λ c. choices_of plan chosen i (named_of plan i c))
      (λ c. known_of i c (named_of plan i c) refl) (class_of plan i))
      (numbers_below (length plan.slots))
