-- The first fault of two lists is the earlier of their first faults.
use Rattle.std.proofs.Common.{◌≡◌, ℕ, suc, ◌<◌, ◌+◌, true, false, ◌&&◌, ◌||◌, ◌==◌, nat_lt, List, [], ◌∷◌, ◌++◌, drop}
use Rattle.std.proofs.Common.{get_or, slice_get, refl, sym, ap, ◌∙◌, arith, flat_map, filter_map, Option, None, Some}
use Rattle.std.proofs.Common.{length, if◌then◌else◌}
use Rattle.std.proofs.Math.Seq.{drop-cons}
use Rattle.std.proofs.lemmas.Bool.Decides.{nat_tests}
use Rattle.std.proofs.lemmas.List.Concat.{flat_map-append}
use Rattle.std.proofs.lemmas.List.Elements.{filter_map-append}
use Rattle.vc_model_parts.specs.declared.parts.Model.{Model}
use Rattle.vc_model_parts.specs.declared.parts.NamedDependency.{NamedDependency}
use Rattle.vc_syntax_tree.specs.Trees.{Dependency, dependency_of}
use Rattle.vc_types.specs.Kinds.{number_of}
use Rattle.vc_types.specs.declared.place.Place.{Place}
use Rattle.vc_compile_plan.specs.Refusals.{TypeFault, Typed, earlier, fault_at, first_of, is_before, typed_at, typed_if}
use Rattle.vc_compile_typing.specs.Finding.{first_of_both, first_with}

pub before_before : (a b c : TypeFault) → is_before a b ≡ true → is_before b c ≡ true → is_before a c ≡ true
before_before a b c ab bc = numbers a.line b.line c.line (number_of a.kind) (number_of b.kind) (number_of c.kind) ab bc
  where
    numbers : (i j k x y z : ℕ) → (nat_lt i j || ((i == j) && nat_lt x y)) ≡ true
        → (nat_lt j k || ((j == k) && nat_lt y z)) ≡ true
        → (nat_lt i k || ((i == k) && nat_lt x z)) ≡ true
    numbers i j k x y z first second = grind (arith, nat_tests)

pub not_before : (a b c : TypeFault) → is_before a b ≡ false → is_before b c ≡ false → is_before a c ≡ false
not_before a b c ab bc = numbers a.line b.line c.line (number_of a.kind) (number_of b.kind) (number_of c.kind) ab bc
  where
    numbers : (i j k x y z : ℕ) → (nat_lt i j || ((i == j) && nat_lt x y)) ≡ false
        → (nat_lt j k || ((j == k) && nat_lt y z)) ≡ false
        → (nat_lt i k || ((i == k) && nat_lt x z)) ≡ false
    numbers i j k x y z first second = grind (arith, nat_tests)

-- the earlier of two, and of three, whichever two are compared first
abbrev pub pick : TypeFault → TypeFault → TypeFault
pick a b = if is_before b a then b else a

three : (a b c : TypeFault) → pick (pick a b) c ≡ pick a (pick b c)
three a b c =
    elim (is_before b a) as (λ p. is_before b a ≡ p → pick (if p then b else a) c ≡ pick a (pick b c)) [
      | true ↦ λ ba. elim (is_before c b) as
          (λ q. is_before c b ≡ q → (if q then c else b) ≡ pick a (if q then c else b)) [
            | true ↦ λ cb. ap (λ r. if r then c else a) (sym (before_before c b a cb ba))
            | false ↦ λ cb. ap (λ r. if r then b else a) (sym ba)
          ] refl
      | false ↦ λ ba. elim (is_before c b) as (λ q. is_before c b ≡ q → pick a c ≡ pick a (if q then c else b)) [
        | true ↦ λ cb. refl
        | false ↦ λ cb. ap (λ r. if r then c else a) (not_before c b a cb ba) ∙ ap (λ r. if r then b else a) (sym ba)
      ] refl
    ] refl

pub both_more : (a b c : Option TypeFault) → first_of_both a (first_of_both b c) ≡ first_of_both (first_of_both a b) c
both_more a b None = refl
both_more a None (Some c) = refl
both_more None (Some b) (Some c) = refl
both_more (Some a) (Some b) (Some c) = ap Some (sym (three a b c))

pub none_before : (next : Option TypeFault) → first_of_both None next ≡ next
none_before None = refl
none_before (Some next) = refl

with_earlier : (fault : TypeFault) (next : Option TypeFault)
    → Some (earlier fault next) ≡ first_of_both (Some fault) next
with_earlier fault None = refl
with_earlier fault (Some next) = refl

first_of_two : (first second : List TypeFault)
    → first_of (first ++ second) ≡ first_of_both (first_of first) (first_of second)
first_of_two [] second = sym (none_before (first_of second))
first_of_two (fault ∷ first) second =
    with_earlier fault (first_of (first ++ second))
    ∙ ap (first_of_both (Some fault)) (first_of_two first second)
    ∙ both_more (Some fault) (first_of first) (first_of second)
    ∙ ap (λ one. first_of_both one (first_of second)) (sym (with_earlier fault (first_of first)))

-- what is typed in two parts
pub typed_in_parts : (model : Model) (before : Option TypeFault) (first second : List Typed)
    → first_with model before (first ++ second) ≡ first_with model (first_with model before first) second
typed_in_parts model before first second =
    ap (λ faults. first_of_both before (first_of faults)) (filter_map-append (fault_at model) first second)
    ∙ ap (first_of_both before) (first_of_two (filter_map (fault_at model) first) (filter_map (fault_at model) second))
    ∙ both_more before (first_of (filter_map (fault_at model) first)) (first_of (filter_map (fault_at model) second))

pub uses_in_parts : (model : Model) (place : Dependency → Place) (before : Option TypeFault) (first second : List ℕ)
    → first_with model before (typed_at model place (first ++ second))
    ≡ first_with model (first_with model before (typed_at model place first)) (typed_at model place second)
uses_in_parts model place before first second =
    ap (first_with model before) (flat_map-append (typed_if model place) first second)
    ∙ typed_in_parts model before (typed_at model place first) (typed_at model place second)

-- what stands at an object, in its four parts
pub object_in_parts : (model : Model) (place : Dependency → Place) (before one two three four : Option TypeFault)
    (profile members : List ℕ) (lines operations : List Typed)
    → one ≡ first_with model before (typed_at model place profile)
    → two ≡ first_with model one (typed_at model place members)
    → three ≡ first_with model two lines → four ≡ first_with model three operations
    → four ≡ first_with model before (typed_at model place (profile ++ members) ++ (lines ++ operations))
object_in_parts model place before one two three four profile members lines operations of_one of_two of_three of_four =
    of_four ∙ ap (λ f. first_with model f operations) of_three ∙ sym (typed_in_parts model two lines operations)
    ∙ ap (λ f. first_with model f (lines ++ operations))
    (of_two ∙ ap (λ f. first_with model f (typed_at model place members)) of_one
    ∙ sym (uses_in_parts model place before profile members))
    ∙ sym (typed_in_parts model before (typed_at model place (profile ++ members)) (lines ++ operations))

-- one element more
parts : {X Y : Type 0} (f : X → List Y) (xs : List X) (i : ℕ) (d : X) → i < length xs
    → flat_map f (drop i xs) ≡ f (get_or xs i d) ++ flat_map f (drop (i + 1) xs)
parts f xs i d inside =
    let after : suc i ≡ i + 1 = omega arith in
    ap (flat_map f) (drop-cons xs i d inside) ∙ ap (λ n. f (get_or xs i d) ++ flat_map f (drop n xs)) after

pub typed_step : {X : Type 0} (model : Model) (f : X → List Typed) (xs : List X) (i : ℕ) (d : X)
    (all now next : Option TypeFault)
    → i < length xs → first_with model now (flat_map f (drop i xs)) ≡ all
    → next ≡ first_with model now (f (get_or xs i d))
    → first_with model next (flat_map f (drop (i + 1) xs)) ≡ all
typed_step model f xs i d all now next inside same is =
    ap (λ n. first_with model n (flat_map f (drop (i + 1) xs))) is
    ∙ sym (typed_in_parts model now (f (get_or xs i d)) (flat_map f (drop (i + 1) xs)))
    ∙ ap (first_with model now) (sym (parts f xs i d inside)) ∙ same

pub uses_step : {X : Type 0} (model : Model) (place : Dependency → Place) (f : X → List ℕ) (xs : List X) (i : ℕ) (d : X)
    (all now next : Option TypeFault)
    → i < length xs → first_with model now (typed_at model place (flat_map f (drop i xs))) ≡ all
    → next ≡ first_with model now (typed_at model place (f (get_or xs i d)))
    → first_with model next (typed_at model place (flat_map f (drop (i + 1) xs))) ≡ all
uses_step model place f xs i d all now next inside same is =
    ap (λ n. first_with model n (typed_at model place (flat_map f (drop (i + 1) xs)))) is
    ∙ sym (uses_in_parts model place now (f (get_or xs i d)) (flat_map f (drop (i + 1) xs)))
    ∙ ap (λ uses. first_with model now (typed_at model place uses)) (sym (parts f xs i d inside)) ∙ same

-- a dependency that is there
pub typed_if_there : (model : Model) (place : Dependency → Place) (d : ℕ) (named : NamedDependency)
    → slice_get model.dependencies d ≡ Some named
    → typed_if model place d
    ≡ record { line = named.line; place = place (dependency_of named.tree); tree = dependency_of named.tree } ∷ []
typed_if_there model place d named is = rw is
