-- Lists that stand by a key: those of one key, and what a test of one key finds among them.
use Rattle.std.proofs.Common.{◌≡◌, ℕ, zero, suc, ◌-◌, ◌<◌, ◌≤◌, Bool, true, false, cond, ◌||◌, List, [], ◌∷◌, length}
use Rattle.std.proofs.Common.{take, drop, refl, sym, ◌∙◌, ap, inl, inr, ◌⊎◌, arith}
use Rattle.std.specs.Prelude.{Some, slice_get, ◌==◌}
use Rattle.std.specs.List.{filter, list_any}
use Rattle.std.proofs.lemmas.Bool.{eqb-true, eq-eqb}
use Rattle.vc_base.proofs.SetLaws.{told, both}

module _ {X : Type 0} (key : X → ℕ) where
  differs : (m i : ℕ) → (m ≡ i → ⊥) → (m == i) ≡ false
  differs m i apart =
      elim (told (m == i)) [
        | inl same ↦ absurd (apart (eqb-true m i same))
        | inr other ↦ other
      ]

  -- what passes a test is put before the rest, and else left out
  passed : (q : X → Bool) (x : X) (xs : List X) → q x ≡ true → filter q (x ∷ xs) ≡ x ∷ filter q xs
  passed q x xs e = ap (λ b. cond b (x ∷ filter q xs) (filter q xs)) e

  failed : (q : X → Bool) (x : X) (xs : List X) → q x ≡ false → filter q (x ∷ xs) ≡ filter q xs
  failed q x xs e = ap (λ b. cond b (x ∷ filter q xs) (filter q xs)) e

  -- those of a key are the stretch between where they begin and where they end
  pub stretch_of_key : (i : ℕ) (xs : List X) (s e : ℕ) → s ≤ e → e ≤ length xs
      → ((k : ℕ) (x : X) → slice_get xs k ≡ Some x → k < s → key x < i)
      → ((k : ℕ) (x : X) → slice_get xs k ≡ Some x → s ≤ k → i ≤ key x)
      → ((k : ℕ) (x : X) → slice_get xs k ≡ Some x → k < e → key x ≤ i)
      → ((k : ℕ) (x : X) → slice_get xs k ≡ Some x → e ≤ k → i < key x)
      → filter (λ x. key x == i) xs ≡ take (e - s) (drop s xs)
  stretch_of_key i [] s e order end a b c d = let none : e - s
      ≡ 0 = omega (arith, end) in ap (λ n. take n (drop s [])) (sym none)
  stretch_of_key i (x ∷ xs) zero zero order end a b c d =
      let out : i < key x = d 0 x refl (omega arith) in
      failed (λ y. key y == i) x xs (differs (key x) i (λ same. omega (arith, same, out)))
      ∙ (stretch_of_key i xs 0 0 (omega arith) (omega arith) (λ k y h low. absurd (omega (arith, low)))
      (λ k y h least. b (suc k) y h (omega arith)) (λ k y h low. absurd (omega (arith, low)))
      (λ k y h past. d (suc k) y h (omega arith))
      ∙ nothing)
    where
      nothing : take (0 - 0) (drop 0 xs) ≡ take (0 - 0) (drop 0 (x ∷ xs))
      nothing = let none : 0 - 0 ≡ 0 = omega arith in ap (λ n. take n xs) none ∙ ap (λ n. take n (x ∷ xs)) (sym none)
  stretch_of_key i (x ∷ xs) zero (suc e) order end a b c d =
      let least : i ≤ key x = b 0 x refl (omega arith) in
      let most : key x ≤ i = c 0 x refl (omega arith) in
      let same : key x ≡ i = omega (arith, least, most) in
      passed (λ y. key y == i) x xs (eq-eqb (key x) i same)
      ∙ (ap (λ ys. x ∷ ys)
      (stretch_of_key i xs 0 e (omega arith) (omega (arith, end)) (λ k y h low. absurd (omega (arith, low)))
      (λ k y h more. b (suc k) y h (omega arith)) (λ k y h low. c (suc k) y h (omega (arith, low)))
      (λ k y h past. d (suc k) y h (omega (arith, past))))
      ∙ longer)
    where
      longer : x ∷ take (e - 0) (drop 0 xs) ≡ take (suc e - 0) (drop 0 (x ∷ xs))
      longer =
          let short : e - 0 ≡ e = omega arith in
          let long : suc e - 0 ≡ suc e = omega arith in
          ap (λ n. x ∷ take n xs) short ∙ ap (λ n. take n (x ∷ xs)) (sym long)
  stretch_of_key i (x ∷ xs) (suc s) zero order end a b c d = absurd (omega (arith, order))
  stretch_of_key i (x ∷ xs) (suc s) (suc e) order end a b c d =
      let out : key x < i = a 0 x refl (omega arith) in
      failed (λ y. key y == i) x xs (differs (key x) i (λ same. omega (arith, same, out)))
      ∙ (stretch_of_key i xs s e (omega (arith, order)) (omega (arith, end))
      (λ k y h low. a (suc k) y h (omega (arith, low)))
      (λ k y h least. b (suc k) y h (omega (arith, least))) (λ k y h low. c (suc k) y h (omega (arith, low)))
      (λ k y h past. d (suc k) y h (omega (arith, past)))
      ∙ (let as_much : e - s ≡ suc e - suc s = omega arith in ap (λ n. take n (drop s xs)) as_much))

  -- none is of the key where they end before they begin
  pub none_of_key : (i : ℕ) (xs : List X) (s e : ℕ) → e ≤ s
      → ((k : ℕ) (x : X) → slice_get xs k ≡ Some x → k < s → key x < i)
      → ((k : ℕ) (x : X) → slice_get xs k ≡ Some x → e ≤ k → i < key x)
      → filter (λ x. key x == i) xs ≡ []
  none_of_key i [] s e order a d = refl
  none_of_key i (x ∷ xs) zero zero order a d =
      let out : i < key x = d 0 x refl (omega arith) in
      failed (λ y. key y == i) x xs (differs (key x) i (λ same. omega (arith, same, out)))
      ∙ none_of_key i xs 0 0 (omega arith) (λ k y h low. absurd (omega (arith, low)))
      (λ k y h past. d (suc k) y h (omega arith))
  none_of_key i (x ∷ xs) zero (suc e) order a d = absurd (omega (arith, order))
  none_of_key i (x ∷ xs) (suc s) zero order a d =
      let low : key x < i = a 0 x refl (omega arith) in
      let high : i < key x = d 0 x refl (omega arith) in
      absurd (omega (arith, low, high))
  none_of_key i (x ∷ xs) (suc s) (suc e) order a d =
      let out : key x < i = a 0 x refl (omega arith) in
      failed (λ y. key y == i) x xs (differs (key x) i (λ same. omega (arith, same, out)))
      ∙ none_of_key i xs s e (omega (arith, order)) (λ k y h low. a (suc k) y h (omega (arith, low)))
      (λ k y h past. d (suc k) y h (omega (arith, past)))

-- a test that only those of another pass finds the same among them
pub found_among : {X : Type 0} (p q : X → Bool) → ((x : X) → p x ≡ true → q x ≡ true) → (xs : List X)
    → list_any p (filter q xs) ≡ list_any p xs
found_among p q only [] = refl
found_among p q only (x ∷ xs) = by (q x) refl (found_among p q only xs)
  where
    by : (b : Bool) → q x ≡ b → list_any p (filter q xs) ≡ list_any p xs
        → list_any p (filter q (x ∷ xs)) ≡ (p x || list_any p xs)
    by true e later =
        ap (λ c. list_any p (cond c (x ∷ filter q xs) (filter q xs))) e ∙ ap (λ c. p x || c) later
    by false e later =
        ap (λ c. list_any p (cond c (x ∷ filter q xs) (filter q xs))) e
        ∙ (later ∙ ap (λ c. c || list_any p xs) (fails (told (p x))))
      where
        fails : (p x ≡ true) ⊎ (p x ≡ false) → false ≡ p x
        fails (inl h) = absurd (both (only x h) e)
        fails (inr h) = sym h
