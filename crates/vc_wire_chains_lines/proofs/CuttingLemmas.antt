-- The parts of a text: the first of them, and those behind the first separator.
use Rattle.std.proofs.Common.{◌≡◌, ℕ, ◌+◌, ◌<◌, ◌≤◌, List, [], ◌∷◌, length, take, drop, ap}
use Rattle.std.proofs.Common.{◌∙◌, arith, Some, None}
use Rattle.std.specs.Prelude.{Bool, position, ◌==◌}
use Rattle.std.specs.List.{position_or_len}
use Rattle.std.proofs.lemmas.List.Splits.{slice_split_first, slice_split_none}
use Rattle.std.proofs.lemmas.List.Sums.{fails_before_first}
use Rattle.std.proofs.lemmas.List.{take_all}
use Rattle.vc_base.proofs.ListLaws.{position_found, position_missing}
use Rattle.vc_wire_chains_lines.specs.Cutting.{part_before, parts_at}

pub before_found : (separator : ℕ) (text : List ℕ) (at : ℕ) → position (λ byte. byte == separator) text ≡ Some at
    → part_before separator text ≡ take at text
before_found separator text at h =
    ap (λ n. take n text) (position_found (λ byte. byte == separator) text at h).0

pub before_missing : (separator : ℕ) (text : List ℕ) → position (λ byte. byte == separator) text ≡ None
    → part_before separator text ≡ text
before_missing separator text h = take_all _ text (position_missing (λ byte. byte == separator) text h)

pub parts_found : (separator : ℕ) (text : List ℕ) (at : ℕ) → position (λ byte. byte == separator) text ≡ Some at
    → parts_at separator text ≡ take at text ∷ parts_at separator (drop (at + 1) text)
parts_found separator text at h =
    let p : ℕ → Bool = λ byte. byte == separator in
    let found : (position_or_len p text ≡ at) × (at < length text) = position_found p text at h in
    let below : position_or_len p text < length text = omega (arith, found.0, found.1) in
    slice_split_first p text 0 below
    ∙ ap (λ n. take n text ∷ parts_at separator (drop (n + 1) text)) found.0

pub parts_missing : (separator : ℕ) (text : List ℕ) → position (λ byte. byte == separator) text ≡ None
    → parts_at separator text ≡ text ∷ []
parts_missing separator text h =
    let p : ℕ → Bool = λ byte. byte == separator in
    let all : length text ≤ position_or_len p text = position_missing p text h in
    slice_split_none p text (λ k d below. fails_before_first p text k d (omega (arith, all, below)))
