-- What a read takes from a file in memory.
use Rattle.std.proofs.Common.{◌≡◌, ℕ, ◌+◌, ◌<◌, min, List, [], ◌∷◌, ◌++◌, length, take, drop, arith, ap, sym, ◌∙◌, refl}
use Rattle.std.proofs.Common.{take-append-drop}
use Rattle.std.proofs.lemmas.List.{drop-drop}

pub no_length : (xs : List ℕ) → length xs ≡ 0 → xs ≡ []
no_length [] none = refl
no_length (x ∷ xs) none = absurd (omega arith)

-- copying as much as fits takes a front of the rest, and nothing goes to a buffer with room at the end alone
pub taken_front : (content : List ℕ) (at count : ℕ) (old new : List ℕ)
    → count ≡ min (length (drop at content)) (length old) → length new ≡ length old
    → take count new ≡ take count (drop at content)
    → (drop at content ≡ take count new ++ drop (at + count) content)
    × (count ≡ 0 → 0 < length new → drop (at + count) content ≡ [])
taken_front content at count old new fits same copied =
    let rest : drop count (drop at content) ≡ drop (at + count) content = drop-drop count at content in (
      sym (take-append-drop count (drop at content)) ∙ ap (λ front. front ++ drop count (drop at content)) (sym copied)
          ∙ ap (λ r. take count new ++ r) rest,
      λ none room. sym rest ∙ ap (λ n. drop n (drop at content)) none ∙ no_length (drop at content) (omega arith),
    )
