-- A head has a line for each of its fields, and two more.
use Rattle.std.proofs.Common.{◌≡◌, ℕ, ◌+◌, ◌≤◌, Bool, true, false, cond, List, [], ◌∷◌, ◌++◌, length, refl, ap, ◌∙◌}
use Rattle.std.proofs.Common.{arith}
use Rattle.std.proofs.Common.{subst, sym, take}
use Rattle.std.proofs.lemmas.Bool.{ltb-false, or_parts}
use Rattle.std.specs.Prelude.{nat_lt}
use Rattle.std.specs.List.{flat_map}
use Rattle.httparse.specs.Grammar.{Field, LineEnd, ReadsRequest, RequestHead, crlf, lf, print_blank, print_end}
use Rattle.httparse.specs.Grammar.{print_field, print_request, print_section, print_version}
use Rattle.httparse.proofs.GrammarLemmas.{print_request-append}
use Rattle.httparse.proofs.PieceLemmas.{print_field-append}
use Rattle.vc_http_heads.specs.Ends.{count_lines, is_large, is_line_byte, skip_blank}

lines_append : (xs ys : List ℕ) → count_lines (xs ++ ys) ≡ count_lines xs + count_lines ys
lines_append [] ys = omega arith
lines_append (x ∷ xs) ys = omega (arith, lines_append xs ys)

-- what stands in front only adds
behind : (xs ys : List ℕ) (n : ℕ) → n ≤ count_lines ys → n ≤ count_lines (xs ++ ys)
behind xs ys n h = omega (arith, h, lines_append xs ys)

behind_byte : (x : ℕ) (ys : List ℕ) (n : ℕ) → n ≤ count_lines ys → n ≤ count_lines (x ∷ ys)
behind_byte x ys n h = omega (arith, h)

end_line : (e : LineEnd) → count_lines (print_end e) ≡ 1
end_line crlf = refl
end_line lf = refl

-- a field's line, and a head, with what is behind them
field_line : (f : Field) (rest : List ℕ) → count_lines rest + 1 ≤ count_lines (print_field f ++ rest)
field_line f rest =
    let tail = print_end f.end ++ rest in
    let ended : count_lines rest + 1 ≤ count_lines tail =
    omega (arith, lines_append (print_end f.end) rest, end_line f.end) in
    let n = count_lines rest + 1 in
    subst (λ xs. n ≤ count_lines xs) (sym (print_field-append f rest))
    (behind f.name (58 ∷ (f.raw ++ tail)) n (behind_byte 58 (f.raw ++ tail) n (behind f.raw tail n ended)))

field_lines : (fields : List Field) → length fields ≤ count_lines (flat_map print_field fields)
field_lines [] = omega arith
field_lines (f ∷ fields) = omega (arith, field_line f (flat_map print_field fields), field_lines fields)

request_lines : (head : RequestHead) → length head.fields + 2 ≤ count_lines (print_request head ++ [])
request_lines head =
    let section = print_section head.fields head.last ++ [] in
    let lines : length head.fields + 1 ≤ count_lines section =
    omega (
      arith,
      lines_append (print_section head.fields head.last) [],
      lines_append (flat_map print_field head.fields) (print_end head.last),
      field_lines head.fields,
      end_line head.last,
    ) in
    let line = print_end head.line_end ++ section in
    let begun : length head.fields + 2 ≤ count_lines line =
    omega (arith, lines_append (print_end head.line_end) section, end_line head.line_end, lines) in
    let n = length head.fields + 2 in
    let version = print_version head.minor ++ line in
    let target = head.target ++ 32 ∷ version in
    subst (λ xs. n ≤ count_lines xs) (sym (print_request-append head []))
    (behind (print_blank head.blank) (head.method ++ 32 ∷ target) n
    (behind head.method (32 ∷ target) n (behind_byte 32 target n
    (behind head.target (32 ∷ version) n (behind_byte 32 version n
    (behind (print_version head.minor) line n begun))))))

pub few_fields : (text : List ℕ) (head : RequestHead) → ReadsRequest text head [] → count_lines text ≤ 66
    → length head.fields ≤ 64
few_fields text head reads few =
    let lines : count_lines (print_request head ++ []) ≤ 66 = subst (λ xs. count_lines xs ≤ 66) reads.1 few in
    omega (arith, request_lines head, lines)

-- what is passed over in front
pub skipped_lines : (bytes : List ℕ) → count_lines (skip_blank bytes) ≤ count_lines bytes
skipped_lines [] = omega arith
skipped_lines (b ∷ bytes) = by (is_line_byte b) (skipped_lines bytes)
  where
    by : (v : Bool) → count_lines (skip_blank bytes) ≤ count_lines bytes
        → count_lines (cond v (skip_blank bytes) (b ∷ bytes)) ≤ count_lines (b ∷ bytes)
    by true less = omega (arith, less)
    by false less = omega arith

pub few_lines : (bytes : List ℕ) (len : ℕ) → is_large bytes len ≡ false
    → count_lines (skip_blank (take len bytes)) ≤ 66
few_lines bytes len small =
    let parts = or_parts (nat_lt 8192 len) (nat_lt 66 (count_lines (take len bytes))) small in
    omega (arith, ltb-false 66 (count_lines (take len bytes)) parts.1, skipped_lines (take len bytes))
