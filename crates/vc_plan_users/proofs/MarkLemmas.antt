-- A list changed place by place: each element so far is as the change makes it, and those from the place on as before.
use Rattle.std.proofs.Common.{◌≡◌, ℕ, zero, suc, ◌+◌, ◌<◌, List, [], ◌∷◌, ◌++◌, length, map, take, drop, refl, sym, ◌∙◌}
use Rattle.std.proofs.Common.{ap, arith}
use Rattle.std.proofs.lemmas.List.{length-set}
use Rattle.std.specs.Prelude.{get_or, slice_set}

change_next : {A : Type 0} (f : A → A) (old : List A) (d : A) (i : ℕ) → i < length old
    → slice_set (take i (map f old) ++ drop i old) i (f (get_or old i d)) ≡ take (suc i) (map f old) ++ drop (suc i) old
change_next f [] d i h = absurd (omega arith)
change_next f (x ∷ old) d zero h = refl
change_next f (x ∷ old) d (suc i) h = ap (λ xs. f x ∷ xs) (change_next f old d i (omega arith))

still_there : {A : Type 0} (f : A → A) (old : List A) (d : A) (i : ℕ) → i < length old
    → get_or (take i (map f old) ++ drop i old) i d ≡ get_or old i d
still_there f [] d i h = absurd (omega arith)
still_there f (x ∷ old) d zero h = refl
still_there f (x ∷ old) d (suc i) h = still_there f old d i (omega arith)

-- so a list that is changed up to a place is changed up to the next, and stays as long
pub change_step : {A : Type 0} (f : A → A) (old list read after : List A) (d y : A) (i : ℕ) → i < length old
    → list ≡ take i (map f old) ++ drop i old → length list ≡ length old → read ≡ list → y ≡ f (get_or read i d)
    → after ≡ slice_set list i y
    → (after ≡ take (i + 1) (map f old) ++ drop (i + 1) old) × (length after ≡ length old)
change_step f old list read after d y i h so_far long seen changed set =
    let next : i + 1 ≡ suc i = omega arith in
    let was : get_or read i d ≡ get_or old i d = ap (λ xs. get_or xs i d) (seen ∙ so_far) ∙ still_there f old d i h in (
      set ∙ (ap (slice_set list i) (changed ∙ ap f was) ∙ (ap (λ xs. slice_set xs i (f (get_or old i d))) so_far
          ∙ (change_next f old d i h ∙ ap (λ n. take n (map f old) ++ drop n old) (sym next)))),
      ap length set ∙ (length-set list i y ∙ long),
    )
