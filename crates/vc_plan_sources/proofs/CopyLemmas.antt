-- Lists of one length: one copied onto the other, place by place.
use Rattle.std.proofs.Common.{◌≡◌, ℕ, zero, suc, ◌+◌, ◌<◌, List, [], ◌∷◌, ◌++◌, length, take, drop, refl, sym, ◌∙◌}
use Rattle.std.proofs.Common.{ap, arith}
use Rattle.std.proofs.lemmas.List.{length-set}
use Rattle.std.specs.Prelude.{get_or, slice_set}

-- the element at the place is put where that of the other list was
pub copy_next : {A : Type 0} (from old : List A) (d : A) (i : ℕ) → i < length from → length old ≡ length from
    → slice_set (take i from ++ drop i old) i (get_or from i d) ≡ take (suc i) from ++ drop (suc i) old
copy_next [] old d i h e = absurd (omega arith)
copy_next (x ∷ from) [] d i h e = absurd (omega arith)
copy_next (x ∷ from) (y ∷ old) d zero h e = refl
copy_next (x ∷ from) (y ∷ old) d (suc i) h e =
    ap (λ xs. x ∷ xs) (copy_next from old d i (omega arith) (omega arith))

-- so a list that is copied up to a place is copied up to the next, and stays as long
pub copy_step : {A : Type 0} (from old list after : List A) (x : A) (i : ℕ) → i < length from → length old ≡ length from
    → list ≡ take i from ++ drop i old → length list ≡ length from → x ≡ get_or from i x → after ≡ slice_set list i x
    → (after ≡ take (i + 1) from ++ drop (i + 1) old) × (length after ≡ length from)
copy_step from old list after x i h e p k q r =
    let next : i + 1 ≡ suc i = omega arith in (
      r ∙ (ap (λ xs. slice_set xs i x) p ∙ (ap (slice_set (take i from ++ drop i old) i) q
          ∙ (copy_next from old x i h e ∙ ap (λ n. take n from ++ drop n old) (sym next)))),
      ap length r ∙ (length-set list i x ∙ k),
    )
