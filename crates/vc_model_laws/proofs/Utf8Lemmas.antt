-- What is cut from a text at bytes of ASCII is a text: its lines, what stands between spaces, and what stands in
-- quotes.
use Rattle.std.proofs.Common.{◌≡◌, ℕ, zero, suc, ◌+◌, ◌-◌, ◌<◌, Bool, true, false, cond, not, List, [], ◌∷◌, ◌++◌}
use Rattle.std.proofs.Common.{length, get_or, take, drop, Option, Some, None, IsUtf8, if◌then◌else◌}
use Rattle.std.proofs.Common.{refl, sym, ap, subst, ◌∙◌, append_assoc, append-nil, length-append, arith}
use Rattle.std.specs.Prelude.{option_map, ◌==◌}
use Rattle.std.specs.List.{slice_split, onto_first, position_or_len}
use Rattle.std.specs.Str.{IsCharBoundary, is_utf8}
use Rattle.std.specs.Str.Lines.{strip_carriage_return, lines_of_parts, lines}
use Rattle.std.proofs.lemmas.Bool.{eqb-true}
use Rattle.std.proofs.lemmas.List.Splits.{length-slice_split}
use Rattle.std.proofs.lemmas.Str.{IsUtf8-append, IsUtf8-nil, IsUtf8-take, IsUtf8-drop, is_utf8-from_IsUtf8}
use Rattle.std.proofs.lemmas.Str.{IsCharBoundary-after_ascii}
use Rattle.vc_model_lines.specs.LineWords.{is_space, without_spaces_before, with_byte, without_spaces_behind, trimmed}
use Rattle.vc_model_lines.specs.LineWords.{first_word, after_word, after_words}
use Rattle.vc_model_lines.specs.Quoted.{unquoted, quoted_text}

-- whether what is there is a text
abbrev pub each_utf8 : Option (List ℕ) → Bool
each_utf8 None = true
each_utf8 (Some text) = is_utf8 text

-- the byte behind some others
here : (xs ys : List ℕ) (a : ℕ) → get_or (xs ++ a ∷ ys) (length xs) 0 ≡ a
here [] ys a = refl
here (x ∷ xs) ys a = here xs ys a

front : (xs ys : List ℕ) → take (length xs) (xs ++ ys) ≡ xs
front [] ys = refl
front (x ∷ xs) ys = ap (λ l. x ∷ l) (front xs ys)

back : (xs ys : List ℕ) (a : ℕ) → drop (suc (length xs)) (xs ++ a ∷ ys) ≡ ys
back [] ys a = refl
back (x ∷ xs) ys a = back xs ys a

inside : (xs ys : List ℕ) (a : ℕ) → length xs < length (xs ++ a ∷ ys)
inside xs ys a = omega (arith, length-append xs (a ∷ ys))

-- before a byte of ASCII, and behind it
pub cut_front : (xs ys : List ℕ) (a : ℕ) → a < 128 → IsUtf8 (xs ++ a ∷ ys) → IsUtf8 xs
cut_front xs ys a ascii h =
    let at : IsCharBoundary (xs ++ a ∷ ys) (length xs) =
    (omega (arith, inside xs ys a), λ _ high. absurd (let low = here xs ys a in omega (arith, low, high, ascii))) in
    subst IsUtf8 (front xs (a ∷ ys)) (IsUtf8-take (xs ++ a ∷ ys) (length xs) h at)

pub cut_back : (xs ys : List ℕ) (a : ℕ) → a < 128 → IsUtf8 (xs ++ a ∷ ys) → IsUtf8 ys
cut_back xs ys a ascii h =
    let low : get_or (xs ++ a ∷ ys) (length xs) 0 < 128 = let e = here xs ys a in omega (arith, e, ascii) in
    let at : IsCharBoundary (xs ++ a ∷ ys) (length xs + 1) =
    IsCharBoundary-after_ascii (xs ++ a ∷ ys) (length xs) h (inside xs ys a) low in
    subst IsUtf8 (ap (λ n. drop n (xs ++ a ∷ ys)) (plus_one (length xs)) ∙ back xs ys a)
    (IsUtf8-drop (xs ++ a ∷ ys) (length xs + 1) h at)
  where
    plus_one : (n : ℕ) → n + 1 ≡ suc n
    plus_one n = omega arith

-- the parts between bytes of one kind, the first of them behind others
abbrev Parts : List ℕ → List (List ℕ) → Type 0
Parts before [] = Unit {0}
Parts before (part ∷ parts) = IsUtf8 (before ++ part) × Parts [] parts

onto : (before : List ℕ) (x : ℕ) (parts : List (List ℕ)) → 0 < length parts → Parts (before ++ x ∷ []) parts
    → Parts before (onto_first x parts)
onto before x [] h p = absurd (omega (arith, h))
onto before x (part ∷ parts) h p = (subst IsUtf8 (append_assoc before (x ∷ []) part) p.0, p.1)

some_part : (bs : List ℕ) → 0 < length (slice_split (λ b. b == 10) bs)
some_part bs = omega (arith, length-slice_split (λ b. b == 10) bs)

split : (before bs : List ℕ) → IsUtf8 (before ++ bs) → Parts before (slice_split (λ b. b == 10) bs)
split before [] h = (h, tt)
split before (x ∷ bs) h = by (x == 10) refl (λ u. split [] bs u) (λ u. split (before ++ x ∷ []) bs u)
  where
    by : (b : Bool) → (x == 10) ≡ b → (IsUtf8 bs → Parts [] (slice_split (λ b. b == 10) bs))
        → (IsUtf8 ((before ++ x ∷ []) ++ bs) → Parts (before ++ x ∷ []) (slice_split (λ b. b == 10) bs))
        → Parts before (cond b ([] ∷ slice_split (λ b. b == 10) bs) (onto_first x (slice_split (λ b. b == 10) bs)))
    by true is anew on =
        let ascii : x < 128 = let e = eqb-true x 10 is in omega (arith, e) in
        (subst IsUtf8 (sym (append-nil before)) (cut_front before bs x ascii h), anew (cut_back before bs x ascii h))
    by false is anew on =
        onto before x (slice_split (λ b. b == 10) bs) (some_part bs)
        (on (subst IsUtf8 (sym (append_assoc before (x ∷ []) bs)) h))

-- a line without the carriage return at its end
stripped : (l : List ℕ) → IsUtf8 l → IsUtf8 (strip_carriage_return l)
stripped l h = by (get_or l (length l - 1) 0 == 13) refl
  where
    by : (b : Bool) → (get_or l (length l - 1) 0 == 13) ≡ b → IsUtf8 (if b then take (length l - 1) l else l)
    by true is =
        let e = eqb-true (get_or l (length l - 1) 0) 13 is in
        IsUtf8-take l (length l - 1) h (omega arith, λ _ high. absurd (omega (arith, e, high)))
    by false is = h

-- all lines of a text
abbrev pub EachText : List (List ℕ) → Type 0
EachText [] = Unit {0}
EachText (x ∷ xs) = IsUtf8 x × EachText xs

parts_lines : (parts : List (List ℕ)) → Parts [] parts → EachText (lines_of_parts parts)
parts_lines [] p = tt
parts_lines (x ∷ []) p = by (length x == 0)
  where
    by : (b : Bool) → EachText (if b then [] else x ∷ [])
    by true = tt
    by false = (p.0, tt)
parts_lines (x ∷ y ∷ more) p = (stripped x p.0, parts_lines (y ∷ more) p.1)

pub lines_texts : (text : List ℕ) → IsUtf8 text → EachText (lines text)
lines_texts text h = parts_lines (slice_split (λ b. b == 10) text) (split [] text h)

-- without the spaces before and behind
space_ascii : (byte : ℕ) → (byte == 32) ≡ true → byte < 128
space_ascii byte h = let e = eqb-true byte 32 h in omega (arith, e)

before_is : (bytes : List ℕ) → IsUtf8 bytes → IsUtf8 (without_spaces_before bytes)
before_is [] h = h
before_is (byte ∷ bytes) h = by (byte == 32) refl (λ u. before_is bytes u)
  where
    by : (b : Bool) → (byte == 32) ≡ b → (IsUtf8 bytes → IsUtf8 (without_spaces_before bytes))
        → IsUtf8 (if b then without_spaces_before bytes else byte ∷ bytes)
    by true is on = on (cut_back [] bytes byte (space_ascii byte is) h)
    by false is on = h

-- behind what is left stand spaces
behind_is : (front bytes : List ℕ) → IsUtf8 (front ++ bytes) → IsUtf8 (front ++ without_spaces_behind bytes)
behind_is front [] h = h
behind_is front (byte ∷ bytes) h =
    by (without_spaces_behind bytes) (behind_is (front ++ byte ∷ []) bytes
    (subst IsUtf8 (sym (append_assoc front (byte ∷ []) bytes)) h))
  where
    none : (b : Bool) → (byte == 32) ≡ b → IsUtf8 ((front ++ byte ∷ []) ++ [])
        → IsUtf8 (front ++ (if b then [] else byte ∷ []))
    none true is u =
        subst IsUtf8 (sym (append-nil front)) (cut_front front [] byte (space_ascii byte is)
        (subst IsUtf8 (append-nil (front ++ byte ∷ [])) u))
    none false is u = subst IsUtf8 (append-nil (front ++ byte ∷ [])) u

    by : (kept : List ℕ) → IsUtf8 ((front ++ byte ∷ []) ++ kept) → IsUtf8 (front ++ with_byte byte kept)
    by [] u = none (byte == 32) refl u
    by (next ∷ kept) u = subst IsUtf8 (append_assoc front (byte ∷ []) (next ∷ kept)) u

pub trimmed_is : (line : List ℕ) → IsUtf8 line → IsUtf8 (trimmed line)
trimmed_is line h = behind_is [] (without_spaces_before line) (before_is line h)

one_and : (n : ℕ) → 1 + n ≡ suc n
one_and n = omega arith

-- behind the first word
rest_is : (before bytes : List ℕ) → IsUtf8 (before ++ bytes)
    → IsUtf8 (without_spaces_before (drop (length (first_word bytes)) bytes))
rest_is before [] h = IsUtf8-nil
rest_is before (byte ∷ bytes) h =
    by (byte == 32) refl (rest_is (before ++ byte ∷ []) bytes
    (subst IsUtf8 (sym (append_assoc before (byte ∷ []) bytes)) h))
  where
    by : (b : Bool) → (byte == 32) ≡ b → IsUtf8 (without_spaces_before (drop (length (first_word bytes)) bytes))
        → IsUtf8 (without_spaces_before (drop (length
        (take (cond (not b) (1 + position_or_len is_space bytes) 0) (byte ∷ bytes))) (byte ∷ bytes)))
    by true is rest = spaces (byte == 32) is
      where
        spaces : (b : Bool) → b ≡ true → IsUtf8 (if b then without_spaces_before bytes else byte ∷ bytes)
        spaces true e = before_is bytes (cut_back before bytes byte (space_ascii byte is) h)
        spaces false e = absurd (cc)
    by false is rest =
        subst (λ (k : ℕ). IsUtf8 (without_spaces_before (drop (length (take k (byte ∷ bytes))) (byte ∷ bytes))))
        (sym (one_and (position_or_len is_space bytes))) rest

pub after_words_is : (count : ℕ) (line : List ℕ) → IsUtf8 line → IsUtf8 (after_words count line)
after_words_is zero line h = h
after_words_is (suc count) line h = after_words_is count (after_word line) (rest_is [] line h)

-- in quotes
quote_ascii : (byte : ℕ) → (byte == 39) ≡ true → byte < 128
quote_ascii byte h = let e = eqb-true byte 39 h in omega (arith, e)

abbrev pub Quoted : List ℕ → Option (List ℕ) → Type 0
Quoted front None = Unit {0}
Quoted front (Some text) = IsUtf8 (front ++ text)

put_front : (front : List ℕ) (byte : ℕ) (o : Option (List ℕ)) → Quoted (front ++ byte ∷ []) o
    → Quoted front (option_map (λ text. byte ∷ text) o)
put_front front byte None q = tt
put_front front byte (Some text) q = subst IsUtf8 (append_assoc front (byte ∷ []) text) q

unquoted_is : (front bytes : List ℕ) → IsUtf8 (front ++ bytes) → Quoted front (unquoted bytes)
unquoted_is front [] h = tt
unquoted_is front (byte ∷ []) h = by (byte == 39) refl
  where
    by : (b : Bool) → (byte == 39) ≡ b → Quoted front (if b then Some [] else None)
    by true is = subst IsUtf8 (sym (append-nil front)) (cut_front front [] byte (quote_ascii byte is) h)
    by false is = tt
unquoted_is front (byte ∷ next ∷ bytes) h =
    by (byte == 39) refl (next == 39) refl (λ u. unquoted_is (front ++ 39 ∷ []) bytes u)
    (λ u. unquoted_is (front ++ byte ∷ []) (next ∷ bytes) u)
  where
    by : (b : Bool) → (byte == 39) ≡ b → (c : Bool) → (next == 39) ≡ c
        → (IsUtf8 ((front ++ 39 ∷ []) ++ bytes) → Quoted (front ++ 39 ∷ []) (unquoted bytes))
        → (IsUtf8 ((front ++ byte ∷ []) ++ (next ∷ bytes)) → Quoted (front ++ byte ∷ []) (unquoted (next ∷ bytes)))
        → Quoted front (if b then (if c then option_map (λ text. 39 ∷ text) (unquoted bytes) else None) else option_map
        (λ text. byte ∷ text) (unquoted (next ∷ bytes)))
    by true is true doubled on more =
        let e : byte ≡ 39 = eqb-true byte 39 is in
        let first : IsUtf8 (front ++ byte ∷ []) =
        cut_front (front ++ byte ∷ []) bytes next (quote_ascii next doubled)
        (subst IsUtf8 (sym (append_assoc front (byte ∷ []) (next ∷ bytes))) h) in
        let last : IsUtf8 bytes = cut_back (front ++ byte ∷ []) bytes next (quote_ascii next doubled)
        (subst IsUtf8 (sym (append_assoc front (byte ∷ []) (next ∷ bytes))) h) in
        put_front front 39 (unquoted bytes)
        (on (subst (λ (x : ℕ). IsUtf8 ((front ++ x ∷ []) ++ bytes)) e
        (IsUtf8-append (front ++ byte ∷ []) bytes first last)))
    by true is false single on more = tt
    by false is c ic on more =
        put_front front byte (unquoted (next ∷ bytes))
        (more (subst IsUtf8 (sym (append_assoc front (byte ∷ []) (next ∷ bytes))) h))

-- whether a text that is read in quotes is one
passes_each : (o : Option (List ℕ)) → Quoted [] o → each_utf8 o ≡ true
passes_each None q = refl
passes_each (Some text) q = is_utf8-from_IsUtf8 text q

pub quoted_is : (bytes : List ℕ) → IsUtf8 bytes → each_utf8 (quoted_text bytes) ≡ true
quoted_is [] h = refl
quoted_is (byte ∷ bytes) h = by (byte == 39) refl
  where
    by : (b : Bool) → (byte == 39) ≡ b → each_utf8 (if b then unquoted bytes else None) ≡ true
    by true is = passes_each (unquoted bytes) (unquoted_is [] bytes (cut_back [] bytes byte (quote_ascii byte is) h))
    by false is = refl
