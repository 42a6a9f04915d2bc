-- Pieces of bytes that are written one after the other.
use Rattle.std.proofs.Common.{◌≡◌, ℕ, ◌-◌, List, ◌++◌, length, take, drop, ap, sym, ◌∙◌, append_assoc, take-append-drop}
use Rattle.std.proofs.lemmas.List.{take_rest}
use Rattle.std.specs.Prelude.{Option}
use Rattle.std.specs.Io.KnownBytes.{Appends}
use Rattle.std.proofs.KnownBytes.{Appends-trans}

-- What was written of the piece so far, and what is left of it.
abbrev pub Written : Option (List ℕ) → Option (List ℕ) → List ℕ → List ℕ → Type 0
Written old now bytes rest = (front : List ℕ) × (bytes ≡ front ++ rest) × Appends old now front

-- a written front of the rest leaves less of it
pub Written-more : (old now new : Option (List ℕ)) (bytes rest : List ℕ) (n : ℕ) → Written old now bytes rest
    → Appends now new (take n rest) → Written old new bytes (take (length rest - n) (drop n rest))
Written-more old now new bytes rest n (front, is, so_far) more = (
  front ++ take n rest,
  is ∙ ap (λ r. front ++ r) (sym (take-append-drop n rest)) ∙ sym (append_assoc front (take n rest) (drop n rest))
      ∙ ap (λ r. (front ++ take n rest) ++ r) (sym (take_rest rest n)),
  Appends-trans old now new front (take n rest) so_far more,
)
