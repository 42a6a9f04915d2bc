-- The first line of a text and those behind it.
use Rattle.std.proofs.Common.{◌≡◌, ℕ, ◌<◌, List, [], ◌∷◌, length, refl, sym, subst, ap, ◌∙◌, arith}
use Rattle.std.specs.Prelude.{◌==◌}
use Rattle.std.specs.List.{join_with_byte}
use Rattle.std.proofs.lemmas.Bool.{ne_eqb}
use Rattle.std.proofs.lemmas.List.Splits.{length-slice_split, join_with_byte-slice_split}
use Rattle.vc_wire_chains_lines.specs.Cutting.{parts_at}
use Rattle.vc_wire_chains.specs.Files.{lines_of, without_empty_last}

lines_onto : (line : List ℕ) (parts : List (List ℕ)) → 0 < length parts
    → without_empty_last (line ∷ parts) ≡ line ∷ without_empty_last parts
lines_onto line [] h = absurd (omega arith)
lines_onto line (part ∷ parts) h = refl

-- a line with an LF behind it
pub first_of_more : (text line rest : List ℕ) → parts_at 10 text ≡ line ∷ parts_at 10 rest
    → lines_of text ≡ line ∷ lines_of rest
first_of_more text line rest h =
    let some : 0 < length (parts_at 10 rest) = omega (arith, length-slice_split (λ byte. byte == 10) rest) in
    ap without_empty_last h ∙ lines_onto line (parts_at 10 rest) some

only_line_kept : (line : List ℕ) → 0 < length line → without_empty_last (line ∷ []) ≡ line ∷ []
only_line_kept [] h = absurd (omega arith)
only_line_kept (x ∷ xs) h = rw (ne_eqb (length (x ∷ xs)) 0 (λ e. omega arith)) refl

-- a text without one
pub only_line : (text line : List ℕ) → parts_at 10 text ≡ line ∷ [] → 0 < length text
    → lines_of text ≡ line ∷ lines_of []
only_line text line h some =
    let whole : line ≡ text = sym (ap (join_with_byte 10) h) ∙ join_with_byte-slice_split 10 text in
    let full : 0 < length line = subst (λ l. 0 < length l) (sym whole) some in
    ap without_empty_last h ∙ only_line_kept line full
