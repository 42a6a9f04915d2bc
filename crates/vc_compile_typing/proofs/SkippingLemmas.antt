-- What was typed before changes nothing, and at slots that are alike the same is typed.
use Rattle.std.proofs.Common.{◌≡◌, ℕ, ◌<◌, ◌+◌, Bool, true, false, ◌&&◌, ◌||◌, ◌==◌, nat_lt, List, [], ◌∷◌, ◌++◌, take}
use Rattle.std.proofs.Common.{get_or, refl, sym, ap, ◌∙◌, arith, append-nil, flat_map, filter_map, slice_get, Option}
use Rattle.std.proofs.Common.{None, Some, length, if◌then◌else◌}
use Rattle.std.specs.List.{list_any}
use Rattle.std.proofs.lemmas.Bool.Decides.{nat_tests}
use Rattle.std.proofs.lemmas.List.{take_more}
use Rattle.std.proofs.lemmas.List.Concat.{flat_map-append}
use Rattle.vc_model_parts.specs.declared.parts.BillItem.{BillItem}
use Rattle.vc_model_parts.specs.declared.parts.Model.{Model}
use Rattle.vc_model_parts.specs.declared.parts.Object.{Object}
use Rattle.vc_model_parts.specs.declared.parts.Operation.{Operation}
use Rattle.vc_syntax_tree.specs.Trees.{Counts, term_of}
use Rattle.vc_types.specs.Kinds.{number_of}
use Rattle.vc_types.specs.declared.place.At.{At}
use Rattle.vc_types.specs.declared.place.At.TheVariants as at
use Rattle.vc_types.specs.declared.place.Place.{Place}
use Rattle.vc_plan.specs.declared.plans.Slot.{Slot}
use Rattle.vc_compile_plan.specs.Layouts.{Layout, object_if}
use Rattle.vc_compile_plan.specs.Refusals.{TypeFault, Typed, at_of, fault_at, first_of, is_before, typed_at}
use Rattle.vc_compile_plan.specs.Refusals.{typed_object, typed_slot}
use Rattle.vc_compile_plan.specs.Shown.{is_configurable}
use Rattle.vc_compile_plan.specs.Uses.{uses_of_members}
use Rattle.vc_compile_typing.specs.Alike.{is_alike, is_same}
use Rattle.vc_compile_typing.specs.Finding.{first_of_both, first_with}
use Rattle.vc_compile_typing.proofs.FindingLemmas.{before_before, both_more, pick, typed_in_parts}

-- what was typed before changes nothing
again : (a : Option TypeFault) → first_of_both a a ≡ a
again None = refl
again (Some a) = elim (is_before a a) as (λ p. Some (if p then a else a) ≡ Some a) [ true ↦ refl | false ↦ refl ]

not_itself : (a : TypeFault) → is_before a a ≡ false
not_itself a = numbers a.line (number_of a.kind)
  where
    numbers : (i x : ℕ) → (nat_lt i i || ((i == i) && nat_lt x x)) ≡ false
    numbers i x = grind (arith, nat_tests)

still : (a b c : TypeFault) → pick a c ≡ a → pick (pick a b) c ≡ pick a b
still a b c is =
    elim (is_before b a) as (λ p. is_before b a ≡ p → pick (if p then b else a) c ≡ (if p then b else a)) [
      | true ↦ λ ba. elim (is_before c b) as (λ q. is_before c b ≡ q → (if q then c else b) ≡ b) [
        | true ↦ λ cb.
            let ca = before_before c b a cb ba in
            let same : c ≡ a = ap (λ p. if p then c else a) (sym ca) ∙ is in
            let itself : is_before a a ≡ true = ap (λ x. is_before x a) (sym same) ∙ ca in
            absurd (cc (not_itself a))
        | false ↦ λ cb. refl
      ] refl
      | false ↦ λ ba. is
    ] refl

still_first : (before next one : Option TypeFault) → first_of_both before one ≡ before
    → first_of_both (first_of_both before next) one ≡ first_of_both before next
still_first before next None is = refl
still_first before None (Some one) is = is
still_first None (Some next) (Some one) is = absurd (cc)
still_first (Some before) (Some next) (Some one) is =
    let same : pick before one ≡ before = cc in
    ap Some (still before next one same)

once_more : (model : Model) (before : Option TypeFault) (typed : List Typed)
    → first_with model (first_with model before typed) typed ≡ first_with model before typed
once_more model before typed =
    let found = first_of (filter_map (fault_at model) typed) in
    sym (both_more before found found) ∙ ap (first_of_both before) (again found)

-- what is typed as one of those before it changes nothing
pub typed_before : {X : Type 0} (model : Model) (f : X → List Typed) (p : X → Bool) (one : List Typed) (xs : List X)
    (before : Option TypeFault)
    → ((x : X) → p x ≡ true → f x ≡ one) → list_any p xs ≡ true
    → first_with model (first_with model before (flat_map f xs)) one ≡ first_with model before (flat_map f xs)
typed_before model f p one [] before alike some = absurd (cc)
typed_before model f p one (x ∷ xs) before alike some =
    let now = first_with model before (f x) in
    let rest : list_any p xs ≡ true
    → first_with model (first_with model now (flat_map f xs)) one ≡ first_with model now (flat_map f xs) =
    typed_before model f p one xs now alike in
    let found = λ (ys : List Typed). first_of (filter_map (fault_at model) ys) in
    let here : p x ≡ true
    → first_with model (first_with model now (flat_map f xs)) one ≡ first_with model now (flat_map f xs) = λ is.
    let known : first_with model now one ≡ now =
    ap (λ ys. first_with model now ys) (sym (alike x is)) ∙ once_more model before (f x) in
    still_first now (found (flat_map f xs)) (found one) known in
    let either : first_with model (first_with model now (flat_map f xs)) one ≡ first_with model now (flat_map f xs) =
    elim (p x) as (λ b. p x ≡ b → (b || list_any p xs) ≡ true
    → first_with model (first_with model now (flat_map f xs)) one ≡ first_with model now (flat_map f xs)) [
      | true ↦ λ is any. here is
      | false ↦ λ is any. rest any
    ] refl some in
    ap (λ all. first_with model all one) (typed_in_parts model before (f x) (flat_map f xs)) ∙ either
    ∙ sym (typed_in_parts model before (f x) (flat_map f xs))

-- one element more, skipped where one before it is alike
pub skipping_step : {X : Type 0} (model : Model) (f : X → List Typed) (p : X → X → Bool) (xs : List X) (i : ℕ) (d : X)
    (before now next : Option TypeFault)
    → ((x y : X) → p y x ≡ true → f x ≡ f y) → i < length xs → now ≡ first_with model before (flat_map f (take i xs))
    → next ≡ (if list_any (p (get_or xs i d)) (take i xs) then now else first_with model now (f (get_or xs i d)))
    → next ≡ first_with model before (flat_map f (take (i + 1) xs))
skipping_step model f p xs i d before now next alike inside same is =
    let x = get_or xs i d in
    let earlier = take i xs in
    let flat : flat_map f (take (i + 1) xs) ≡ flat_map f earlier ++ f x =
    ap (flat_map f) (take_more xs i d inside) ∙ flat_map-append f earlier (x ∷ [])
    ∙ ap (λ ys. flat_map f earlier ++ ys) (append-nil (f x)) in
    let whole : first_with model now (f x) ≡ first_with model before (flat_map f (take (i + 1) xs)) =
    ap (λ n. first_with model n (f x)) same ∙ sym (typed_in_parts model before (flat_map f earlier) (f x))
    ∙ ap (first_with model before) (sym flat) in
    let skipped : list_any (p x) earlier ≡ true → now ≡ first_with model now (f x) = λ some.
    same ∙ sym (typed_before model f (p x) (f x) earlier before (λ y. alike y x) some)
    ∙ ap (λ n. first_with model n (f x)) (sym same) in
    let either : (if list_any (p x) earlier then now else first_with model now (f x)) ≡ first_with model now (f x) =
    elim (list_any (p x) earlier) as
    (λ b. list_any (p x) earlier ≡ b
    → (if b then now else first_with model now (f x)) ≡ first_with model now (f x)) [
      | true ↦ λ some. skipped some
      | false ↦ λ none. refl
    ] refl in
    is ∙ either ∙ whole

-- what is typed at an object below an object
abbrev place_below : ℕ → Option ℕ → At → Place
place_below object parent at = record { object = object; parent = parent; at = at }

abbrev line_below : Layout → ℕ → Option ℕ → BillItem → List Typed
line_below layout object parent item =
    let place = place_below object parent (at.Line (is_configurable item.component)) in
    record { line = item.line; place = place; tree = Counts (term_of item.quantity.value) }
    ∷ typed_at layout.model (λ dependency. place) item.uses

abbrev operation_below : Layout → ℕ → Option ℕ → Operation → List Typed
operation_below layout object parent operation =
    let place = place_below object parent at.Operation in
    record { line = operation.line; place = place; tree = Counts (term_of operation.time.value) }
    ∷ typed_at layout.model (λ dependency. place) operation.uses

abbrev typed_below : Layout → ℕ → Option ℕ → Option Object → List Typed
typed_below layout object parent None = []
typed_below layout object parent (Some standing) =
    typed_at layout.model (λ dependency. place_below object parent (at_of dependency))
    (standing.procedures ++ uses_of_members layout.model (Some standing))
    ++ (flat_map (line_below layout object parent) standing.bill
    ++ flat_map (operation_below layout object parent) standing.operations)

below_is : (layout : Layout) (slot : Slot) (standing : Option Object)
    → typed_object layout slot standing ≡ typed_below layout slot.object (object_if layout slot.parent) standing
below_is layout slot None = refl
below_is layout slot (Some standing) = refl

same_tells : (a b : Option ℕ) → is_same a b ≡ true → a ≡ b
same_tells None None is = refl
same_tells None (Some b) is = absurd (cc)
same_tells (Some a) None is = absurd (cc)
same_tells (Some a) (Some b) is = ap Some (numbers a b is)
  where
    numbers : (x y : ℕ) → (x == y) ≡ true → x ≡ y
    numbers x y same = grind (arith, nat_tests)

both_true : (a b : Bool) → (a && b) ≡ true → (a ≡ true) × (b ≡ true)
both_true true b is = (refl, is)
both_true false b is = absurd (cc)

pub typed_alike : (layout : Layout) (a b : Slot) → is_alike layout b a ≡ true
    → typed_slot layout a ≡ typed_slot layout b
typed_alike layout a b alike =
    let tells
    = both_true (b.object == a.object) (is_same (object_if layout b.parent) (object_if layout a.parent)) alike in
    let object : a.object ≡ b.object = numbers a.object b.object tells.0 in
    let parent : object_if layout a.parent ≡ object_if layout b.parent
    = sym (same_tells (object_if layout b.parent) (object_if layout a.parent) tells.1) in
    below_is layout a (slice_get layout.model.objects a.object)
    ∙ ap (λ n. typed_below layout n (object_if layout a.parent) (slice_get layout.model.objects n)) object
    ∙ ap (λ q. typed_below layout b.object q (slice_get layout.model.objects b.object)) parent
    ∙ sym (below_is layout b (slice_get layout.model.objects b.object))
  where
    numbers : (x y : ℕ) → (y == x) ≡ true → x ≡ y
    numbers x y same = grind (arith, nat_tests)
