-- Flags and units among words.
use Rattle.std.proofs.Common.{◌≡◌, ℕ, zero, suc, ◌+◌, ◌-◌, List, [], ◌∷◌, length, take, drop, map, refl, sym, ap, ◌∙◌}
use Rattle.std.proofs.Common.{arith, Some, None}
use Rattle.std.proofs.lemmas.List.{take-map, drop-map}
use Rattle.vc_model_lines.specs.Forms.{between_line, num_at, num_with_more, num_with_unit, unit_at}

-- as many elements as there are
take_whole : {A : Type 0} (xs : List A) (n : ℕ) → n ≡ length xs → take n xs ≡ xs
take_whole [] n is = rw is refl
take_whole (x ∷ xs) zero is = absurd (omega arith)
take_whole (x ∷ xs) (suc n) is = ap (λ more. x ∷ more) (take_whole xs n (omega arith))

length_drop : {A : Type 0} (n : ℕ) (xs : List A) → length (drop n xs) ≡ length xs - n
length_drop zero xs = omega arith
length_drop (suc n) [] = omega arith
length_drop (suc n) (x ∷ xs) = length_drop n xs ∙ omega arith

-- the flags stand before the first `UNIT`, and the unit after it
pub parted : {A : Type 0} (name decimals : List ℕ) (f : A → List ℕ) (words : List A) (at : ℕ)
    → Some at ≡ unit_at (map f words)
    → num_with_unit name decimals (map f (take at words)) (map f (take (length words - (at + 1)) (drop (at + 1) words)))
    ≡ num_with_more name decimals (map f words)
parted name decimals f words at is =
    ap (num_with_unit name decimals (map f (take at words)))
    (ap (map f) (take_whole (drop (at + 1) words) (length words - (at + 1)) (sym (length_drop (at + 1) words)))
    ∙ sym (drop-map f (at + 1) words))
    ∙ ap (λ flags. num_with_unit name decimals flags (drop (at + 1) (map f words))) (sym (take-map f at words))
    ∙ ap (num_at name decimals (map f words)) is

-- an interval is three words
pub not_three : {A : Type 0} (f : A → List ℕ) (words : List A) → (length words ≡ 3 → ⊥)
    → None ≡ between_line (map f words)
not_three f [] other = refl
not_three f (x ∷ []) other = refl
not_three f (x ∷ y ∷ []) other = refl
not_three f (x ∷ y ∷ z ∷ []) other = absurd (other refl)
not_three f (x ∷ y ∷ z ∷ w ∷ words) other = refl
