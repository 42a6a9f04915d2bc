-- Words and the spaces round them.
use Rattle.std.proofs.Common.{◌≡◌, ℕ, zero, suc, ◌-◌, ◌<◌, ◌≤◌, ◌==◌, true, false, List, [], ◌∷◌, length, take, get_or}
use Rattle.std.proofs.Common.{sym, ap, ◌∙◌, arith, if◌then◌else◌}
use Rattle.std.proofs.lemmas.Bool.{ne_eqb, eq-eqb}
use Rattle.vc_model_lines.specs.LineWords.{without_spaces_behind, with_byte}

-- a byte that is no space ends what is kept
kept : (bytes : List ℕ) (n : ℕ) → suc n ≤ length bytes → (get_or bytes n 0 == 32) ≡ false
    → without_spaces_behind (take (suc n) bytes) ≡ take (suc n) bytes
kept [] n within is = absurd (omega arith)
kept (x ∷ xs) zero within is = ap (λ b. if b then [] else x ∷ []) is
kept (x ∷ []) (suc n) within is = absurd (omega arith)
kept (x ∷ y ∷ ys) (suc n) within is = ap (with_byte x) (kept (y ∷ ys) n (omega arith) is)

-- a space at the end isn't kept
left_out : (bytes : List ℕ) (n : ℕ) → suc n ≤ length bytes → (get_or bytes n 0 == 32) ≡ true
    → without_spaces_behind (take (suc n) bytes) ≡ without_spaces_behind (take n bytes)
left_out [] n within is = absurd (omega arith)
left_out (x ∷ xs) zero within is = ap (λ b. if b then [] else x ∷ []) is
left_out (x ∷ xs) (suc n) within is = ap (with_byte x) (left_out xs n (omega arith) is)

pub kept_up_to : (bytes : List ℕ) (n : ℕ) → 0 < n → n ≤ length bytes → (get_or bytes (n - 1) 0 ≡ 32 → ⊥)
    → without_spaces_behind (take n bytes) ≡ take n bytes
kept_up_to bytes zero some within is = absurd (omega arith)
kept_up_to bytes (suc n) some within is =
    let before : suc n - 1 ≡ n = omega arith in
    kept bytes n within (ne_eqb _ _ (λ e. is (ap (λ m. get_or bytes m 0) before ∙ e)))

pub left_out_last : (bytes : List ℕ) (n : ℕ) → 0 < n → n ≤ length bytes → get_or bytes (n - 1) 0 ≡ 32
    → without_spaces_behind (take n bytes) ≡ without_spaces_behind (take (n - 1) bytes)
left_out_last bytes zero some within is = absurd (omega arith)
left_out_last bytes (suc n) some within is =
    let before : suc n - 1 ≡ n = omega arith in
    left_out bytes n within (eq-eqb _ _ (sym (ap (λ m. get_or bytes m 0) before) ∙ is))
    ∙ ap (λ m. without_spaces_behind (take m bytes)) (sym before)
