-- What is made of a list by what is seen of its elements hangs on that alone.
use Rattle.std.proofs.Common.{◌≡◌, ℕ, ◌+◌, Bool, cond, not, nat_lt, List, [], ◌∷◌, ◌++◌, length, map, flat_map}
use Rattle.std.proofs.Common.{slice_get, refl, sym, ap, ◌∙◌, Option, None, Some, option_map}
use Rattle.std.specs.Prelude.{filter_map, position}
use Rattle.std.specs.List.{cons_option, prefix_len}
use Rattle.std.proofs.lemmas.Option.{slice_get-map}
use Rattle.std.proofs.lemmas.List.{length-map}

-- an element by its number: two questions that what is seen answers alike
pub got : {A B X : Type 0} (f : A → B) (g h : Option A → X) (k : Option B → X)
    → ((o : Option A) → g o ≡ k (option_map f o)) → ((o : Option A) → h o ≡ k (option_map f o))
    → (xs ys : List A) → map f xs ≡ map f ys → (n : ℕ) → g (slice_get xs n) ≡ h (slice_get ys n)
got f g h k first second xs ys same n =
    first (slice_get xs n)
    ∙ ap k (sym (slice_get-map f xs n) ∙ ap (λ zs. slice_get zs n) same ∙ slice_get-map f ys n)
    ∙ sym (second (slice_get ys n))

module _ {A B X : Type 0} (f : A → B) where
  pub mapped : (k : B → X) (xs : List A) → map (λ x. k (f x)) xs ≡ map k (map f xs)
  mapped k [] = refl
  mapped k (x ∷ xs) = ap (λ rest. k (f x) ∷ rest) (mapped k xs)

  pub flat_mapped : (k : B → List X) (xs : List A) → flat_map (λ x. k (f x)) xs ≡ flat_map k (map f xs)
  flat_mapped k [] = refl
  flat_mapped k (x ∷ xs) = ap (λ rest. k (f x) ++ rest) (flat_mapped k xs)

  pub filter_mapped : (k : B → Option X) (xs : List A) → filter_map (λ x. k (f x)) xs ≡ filter_map k (map f xs)
  filter_mapped k [] = refl
  filter_mapped k (x ∷ xs) = ap (cons_option (k (f x))) (filter_mapped k xs)

  pub map_same : (k : B → X) (xs ys : List A) → map f xs ≡ map f ys → map (λ x. k (f x)) xs ≡ map (λ x. k (f x)) ys
  map_same k xs ys same = mapped k xs ∙ ap (map k) same ∙ sym (mapped k ys)

  pub flat_same : (k : B → List X) (xs ys : List A) → map f xs ≡ map f ys
      → flat_map (λ x. k (f x)) xs ≡ flat_map (λ x. k (f x)) ys
  flat_same k xs ys same = flat_mapped k xs ∙ ap (flat_map k) same ∙ sym (flat_mapped k ys)

  pub filter_same : (k : B → Option X) (xs ys : List A) → map f xs ≡ map f ys
      → filter_map (λ x. k (f x)) xs ≡ filter_map (λ x. k (f x)) ys
  filter_same k xs ys same = filter_mapped k xs ∙ ap (filter_map k) same ∙ sym (filter_mapped k ys)

-- how many there are, and the first that passes a test
module _ {A B : Type 0} (f : A → B) where
  pub length_same : (xs ys : List A) → map f xs ≡ map f ys → length xs ≡ length ys
  length_same xs ys same = sym (length-map xs f) ∙ ap length same ∙ length-map ys f

  front_mapped : (p : B → Bool) (xs : List A) → prefix_len (λ x. p (f x)) xs ≡ prefix_len p (map f xs)
  front_mapped p [] = refl
  front_mapped p (x ∷ xs) = ap (λ n. cond (p (f x)) (1 + n) 0) (front_mapped p xs)

  position_mapped : (p : B → Bool) (xs : List A) → position (λ x. p (f x)) xs ≡ position p (map f xs)
  position_mapped p xs = λ i.
      cond (nat_lt (front_mapped (λ y. not (p y)) xs i) (sym (length-map xs f) i))
      (Some (front_mapped (λ y. not (p y)) xs i)) None

  pub position_same : (p : B → Bool) (xs ys : List A) → map f xs ≡ map f ys
      → position (λ x. p (f x)) xs ≡ position (λ x. p (f x)) ys
  position_same p xs ys same = position_mapped p xs ∙ ap (position p) same ∙ sym (position_mapped p ys)
