-- The words of a line, one by one, are the parts between its spaces that aren't empty.
use Rattle.std.proofs.Common.{◌≡◌, ℕ, zero, suc, ◌+◌, ◌-◌, ◌<◌, ◌≤◌, ◌==◌, Bool, true, false, not, cond, List, [], ◌∷◌}
use Rattle.std.proofs.Common.{◌++◌, length, map, take, drop, refl, sym, ap, ◌∙◌, arith, if◌then◌else◌}
use Rattle.std.specs.List.{onto_first, position_or_len, slice_split}
use Rattle.std.proofs.lemmas.Bool.{ne_eqb}
use Rattle.std.proofs.lemmas.List.{append_assoc, length-drop, map-append}
use Rattle.vc_model_lines.specs.LineWords.{after_word, first_word, is_space, kept_parts, without_spaces_before, words}

-- the spaces before a line make no words
pub front_is : (bytes : List ℕ) → words (without_spaces_before bytes) ≡ words bytes
front_is [] = refl
front_is (byte ∷ bytes) = by (byte == 32) refl (front_is bytes)
  where
    by : (b : Bool) → (byte == 32) ≡ b → words (without_spaces_before bytes) ≡ words bytes
        → words (if b then without_spaces_before bytes else byte ∷ bytes) ≡ words (byte ∷ bytes)
    by true e more = more
        ∙ sym (ap (λ t. kept_parts
        (cond t ([] ∷ slice_split is_space bytes) (onto_first byte (slice_split is_space bytes)))) e)
    by false e more = refl

-- the parts behind the first
abbrev parts_behind : List ℕ → List (List ℕ)
parts_behind [] = []
parts_behind (byte ∷ bytes) = if is_space byte then slice_split is_space bytes else parts_behind bytes

-- a byte that is no space stands in the first part
before_more : (byte n : ℕ) (bytes : List ℕ) → take (1 + n) (byte ∷ bytes) ≡ byte ∷ take n bytes
before_more byte n bytes = let one : 1 + n ≡ suc n = omega arith in ap (λ m. take m (byte ∷ bytes)) one

split_is : (bytes : List ℕ) → slice_split is_space bytes ≡ first_word bytes ∷ parts_behind bytes
split_is [] = refl
split_is (byte ∷ bytes) = by (is_space byte) (split_is bytes)
  where
    by : (b : Bool) → slice_split is_space bytes ≡ first_word bytes ∷ parts_behind bytes
        → cond b ([] ∷ slice_split is_space bytes) (onto_first byte (slice_split is_space bytes))
        ≡ take (cond (not b) (1 + position_or_len is_space bytes) 0) (byte ∷ bytes)
        ∷ (if b then slice_split is_space bytes else parts_behind bytes)
    by true more = refl
    by false more = ap (onto_first byte) more
        ∙ ap (λ word. word ∷ parts_behind bytes) (sym (before_more byte (position_or_len is_space bytes) bytes))

behind_is : (bytes : List ℕ) → kept_parts (parts_behind bytes) ≡ words (after_word bytes)
behind_is [] = refl
behind_is (byte ∷ bytes) = by (is_space byte) refl (behind_is bytes)
  where
    n : ℕ
    n = position_or_len is_space bytes

    by : (b : Bool) → is_space byte ≡ b → kept_parts (parts_behind bytes) ≡ words (after_word bytes)
        → kept_parts (if b then slice_split is_space bytes else parts_behind bytes)
        ≡ words (without_spaces_before (drop (length (take (cond (not b) (1 + n) 0) (byte ∷ bytes))) (byte ∷ bytes)))
    by true e more =
        sym (front_is (byte ∷ bytes)
        ∙ ap (λ t. kept_parts
        (cond t ([] ∷ slice_split is_space bytes) (onto_first byte (slice_split is_space bytes)))) e)
    by false e more = more
        ∙ sym (ap (λ word. words (without_spaces_before (drop (length word) (byte ∷ bytes))))
        (before_more byte n bytes))

-- whether a space stands in front
abbrev pub begins_with_space : List ℕ → Bool
begins_with_space [] = false
begins_with_space (byte ∷ bytes) = is_space byte

pub front_free : (bytes : List ℕ) → begins_with_space (without_spaces_before bytes) ≡ false
front_free [] = refl
front_free (byte ∷ bytes) = by (byte == 32) refl (front_free bytes)
  where
    by : (b : Bool) → (byte == 32) ≡ b → begins_with_space (without_spaces_before bytes) ≡ false
        → begins_with_space (if b then without_spaces_before bytes else byte ∷ bytes) ≡ false
    by true e more = more
    by false e more = e

first_is : (byte : ℕ) (bytes : List ℕ) → is_space byte ≡ false → first_word (byte ∷ bytes) ≡ byte ∷ first_word bytes
first_is byte bytes e =
    ap (λ b. take (cond (not b) (1 + position_or_len is_space bytes) 0) (byte ∷ bytes)) e
    ∙ before_more byte (position_or_len is_space bytes) bytes

first_kept : (word : List ℕ) (parts : List (List ℕ)) → (length word == 0) ≡ false
    → kept_parts (word ∷ parts) ≡ word ∷ kept_parts parts
first_kept word parts e = ap (λ b. cond (not b) (word ∷ kept_parts parts) (kept_parts parts)) e

-- the first word, and those of what follows
pub next_word : (bytes : List ℕ) → begins_with_space bytes ≡ false → 0 < length bytes
    → words bytes ≡ first_word bytes ∷ words (after_word bytes)
next_word [] free some = absurd (omega arith)
next_word (byte ∷ bytes) free some =
    let long : (length (byte ∷ first_word bytes) == 0) ≡ false
    = ne_eqb (length (byte ∷ first_word bytes)) 0 (λ z. omega arith) in
    ap kept_parts (split_is (byte ∷ bytes))
    ∙ first_kept (first_word (byte ∷ bytes)) (parts_behind (byte ∷ bytes))
    (ap (λ word. length word == 0) (first_is byte bytes free) ∙ long)
    ∙ ap (λ more. first_word (byte ∷ bytes) ∷ more) (behind_is (byte ∷ bytes))

pub front_shorter : (bytes : List ℕ) → length (without_spaces_before bytes) ≤ length bytes
front_shorter [] = omega arith
front_shorter (byte ∷ bytes) = by (byte == 32) (front_shorter bytes)
  where
    by : (b : Bool) → length (without_spaces_before bytes) ≤ length bytes
        → length (if b then without_spaces_before bytes else byte ∷ bytes) ≤ length (byte ∷ bytes)
    by true more = omega arith
    by false more = omega arith

-- what follows a word is shorter
pub after_shorter : (bytes : List ℕ) → begins_with_space bytes ≡ false → 0 < length bytes
    → length (after_word bytes) < length bytes
after_shorter [] free some = absurd (omega arith)
after_shorter (byte ∷ bytes) free some =
    let first : length (first_word (byte ∷ bytes)) ≡ length (byte ∷ first_word bytes)
    = ap length (first_is byte bytes free) in
    let left = length-drop (length (first_word (byte ∷ bytes))) (byte ∷ bytes) in
    let front = front_shorter (drop (length (first_word (byte ∷ bytes))) (byte ∷ bytes)) in
    omega arith

-- a word more that is said
pub one_more : {X : Type 0} (f : X → List ℕ) (said : List X) (x : X) (rest after line : List ℕ)
    → begins_with_space rest ≡ false → 0 < length rest
    → f x ≡ first_word rest → after ≡ after_word rest → map f said ++ words rest ≡ words line
    → map f (said ++ x ∷ []) ++ words after ≡ words line
one_more f said x rest after line free some first behind so_far =
    ap (λ all. all ++ words after) (map-append f said (x ∷ [])) ∙ append_assoc (map f said) (f x ∷ []) (words after)
    ∙ ap (λ word. map f said ++ word ∷ words after) first ∙ ap (λ r. map f said ++ first_word rest ∷ words r) behind
    ∙ ap (λ more. map f said ++ more) (sym (next_word rest free some)) ∙ so_far
