-- The first line of a text and what follows it.
use Rattle.std.proofs.Common.{◌≡◌, ℕ, ◌+◌, ◌<◌, ◌≤◌, Bool, List, [], ◌∷◌, length, take, drop, refl}
use Rattle.std.proofs.Common.{ap, ◌∙◌, arith, Some, None}
use Rattle.std.specs.Prelude.{position, ◌==◌}
use Rattle.std.specs.List.{slice_split, position_or_len}
use Rattle.std.specs.Str.Lines.{lines_of_parts, strip_carriage_return}
use Rattle.std.proofs.lemmas.List.Splits.{slice_split_first, slice_split_none, length-slice_split}
use Rattle.std.proofs.lemmas.List.Sums.{fails_before_first}
use Rattle.std.proofs.lemmas.Bool.{ne_eqb}
use Rattle.vc_base.proofs.ListLaws.{position_found, position_missing}
use Rattle.vc_app_script.specs.Script.{lines_of}

-- a line before further parts
lines-onto : (line : List ℕ) (parts : List (List ℕ)) → 0 < length parts
    → lines_of_parts (line ∷ parts) ≡ strip_carriage_return line ∷ lines_of_parts parts
lines-onto line [] h = absurd (omega arith)
lines-onto line (part ∷ parts) h = refl

pub first_line : (text : List ℕ) (at : ℕ) → position (λ byte. byte == 10) text ≡ Some at
    → lines_of text ≡ strip_carriage_return (take at text) ∷ lines_of (drop (at + 1) text)
first_line text at h =
    let p : ℕ → Bool = λ byte. byte == 10 in
    let found : (position_or_len p text ≡ at) × (at < length text) = position_found p text at h in
    let below : position_or_len p text < length text = omega (arith, found.0, found.1) in
    let parts : List (List ℕ) = slice_split p (drop (position_or_len p text + 1) text) in
    let some : 0 < length parts = omega (arith, length-slice_split p (drop (position_or_len p text + 1) text)) in
    ap lines_of_parts (slice_split_first p text 0 below)
    ∙ lines-onto (take (position_or_len p text) text) parts some
    ∙ ap (λ n. strip_carriage_return (take n text) ∷ lines_of (drop (n + 1) text)) found.0

only_line_of_parts : (line : List ℕ) → 0 < length line → lines_of_parts (line ∷ []) ≡ line ∷ []
only_line_of_parts [] h = absurd (omega arith)
only_line_of_parts (x ∷ xs) h = rw (ne_eqb (length (x ∷ xs)) 0 (λ e. omega arith)) refl

pub only_line : (text : List ℕ) → position (λ byte. byte == 10) text ≡ None → 0 < length text
    → lines_of text ≡ text ∷ []
only_line text h some =
    let p : ℕ → Bool = λ byte. byte == 10 in
    let all : length text ≤ position_or_len p text = position_missing p text h in
    ap lines_of_parts (slice_split_none p text (λ k d below. fails_before_first p text k d (omega arith)))
    ∙ only_line_of_parts text some
