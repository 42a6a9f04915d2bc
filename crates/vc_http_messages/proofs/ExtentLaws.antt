-- How far a head goes, and what more bytes behind it change: nothing.
use Rattle.std.proofs.Common.{◌≡◌, ℕ, zero, suc, ◌+◌, ◌<◌, ◌≤◌, Bool, true, false, cond, ◌||◌, List, [], ◌∷◌, ◌++◌}
use Rattle.std.proofs.Common.{length, take, drop, Option, None, Some, refl, subst, sym, ap, ◌∙◌, arith}
use Rattle.std.specs.Prelude.{codes, map, nat_le, nat_lt, not}
use Rattle.std.specs.Bool.{MatchBool}
use Rattle.std.proofs.lemmas.List.{drop-drop}
use Rattle.std.proofs.lemmas.Bool.{le-leb, leb-true, lt-ltb}
use Rattle.httparse.specs.Grammar.{RequestHead}
use Rattle.httparse.specs.Spans.{name_and_value}
use Rattle.httparse.proofs.GrammarLemmas.{request_unique}
use Rattle.vc_http_heads.specs.declared.ends.Place.{Place}
use Rattle.vc_http_heads.specs.declared.ends.Place.TheVariants as place
use Rattle.vc_http_heads.specs.Ends.{count_lines, end_from, head_len, next_place, skip_blank, unless_ended}
use Rattle.vc_http_heads.specs.Fields.{given_in, has_field, has_host, is_bad, keeps, length_in}
use Rattle.vc_http_heads.specs.Heads as heads
use Rattle.vc_http_heads.specs.Heads.{HeadAt, HeadOf, HeadSaid, Reads, Said, head_said, path_of}

length_append : (xs ys : List ℕ) → length (xs ++ ys) ≡ length xs + length ys
length_append [] ys = omega arith
length_append (x ∷ xs) ys = omega (arith, length_append xs ys)

pub longer : (xs ys : List ℕ) → length xs ≤ length (xs ++ ys)
longer xs ys = omega (arith, length_append xs ys)

pub take_more : (n : ℕ) (xs ys : List ℕ) → n ≤ length xs → take n (xs ++ ys) ≡ take n xs
take_more zero xs ys h = refl
take_more (suc n) [] ys h = absurd (omega (arith, h))
take_more (suc n) (x ∷ xs) ys h = ap (λ bytes. x ∷ bytes) (take_more n xs ys (omega (arith, h)))

pub drop_more : (n : ℕ) (xs ys : List ℕ) → n ≤ length xs → drop n (xs ++ ys) ≡ drop n xs ++ ys
drop_more zero xs ys h = refl
drop_more (suc n) [] ys h = absurd (omega (arith, h))
drop_more (suc n) (x ∷ xs) ys h = drop_more n xs ys (omega (arith, h))

pub drop_both : (start count : ℕ) (bytes : List ℕ) → drop count (drop start bytes) ≡ drop (start + count) bytes
drop_both start count bytes = drop-drop count start bytes

-- a head that ends stays where it ends
end_more : (now : Place) (count : ℕ) (bytes more : List ℕ) (n : ℕ) → end_from now count bytes ≡ Some n
    → end_from now count (bytes ++ more) ≡ Some n
end_more now count [] more n h = absurd (cc h)
end_more now count (b ∷ bytes) more n h = by (next_place now b) h (λ next. end_more next (count + 1) bytes more n)
  where
    by : (o : Option Place) → unless_ended o (count + 1) (λ next. end_from next (count + 1) bytes) ≡ Some n
        → ((next : Place) → end_from next (count + 1) bytes ≡ Some n
        → end_from next (count + 1) (bytes ++ more) ≡ Some n)
        → unless_ended o (count + 1) (λ next. end_from next (count + 1) (bytes ++ more)) ≡ Some n
    by None e go = e
    by (Some next) e go = go next e

end_within : (now : Place) (count : ℕ) (bytes : List ℕ) (n : ℕ) → end_from now count bytes ≡ Some n
    → n ≤ count + length bytes
end_within now count [] n h = absurd (cc h)
end_within now count (b ∷ bytes) n h = by (next_place now b) h (λ next. end_within next (count + 1) bytes n)
  where
    by : (o : Option Place) → unless_ended o (count + 1) (λ next. end_from next (count + 1) bytes) ≡ Some n
        → ((next : Place) → end_from next (count + 1) bytes ≡ Some n → n ≤ (count + 1) + length bytes)
        → n ≤ count + suc (length bytes)
    by None e go = let same : count + 1 ≡ n = cc e in omega (arith, same)
    by (Some next) e go = omega (arith, go next e)

end_above : (now : Place) (count : ℕ) (bytes : List ℕ) (n : ℕ) → end_from now count bytes ≡ Some n → count < n
end_above now count [] n h = absurd (cc h)
end_above now count (b ∷ bytes) n h = by (next_place now b) h (λ next. end_above next (count + 1) bytes n)
  where
    by : (o : Option Place) → unless_ended o (count + 1) (λ next. end_from next (count + 1) bytes) ≡ Some n
        → ((next : Place) → end_from next (count + 1) bytes ≡ Some n → count + 1 < n) → count < n
    by None e go = let same : count + 1 ≡ n = cc e in omega (arith, same)
    by (Some next) e go = omega (arith, go next e)

-- and one that doesn't ends behind all of the bytes
end_later : (now : Place) (count : ℕ) (bytes more : List ℕ) (n : ℕ) → end_from now count bytes ≡ None
    → end_from now count (bytes ++ more) ≡ Some n → count + length bytes < n
end_later now count [] more n h e = omega (arith, end_above now count more n e)
end_later now count (b ∷ bytes) more n h e =
    by (next_place now b) h e (λ next. end_later next (count + 1) bytes more n)
  where
    by : (o : Option Place) → unless_ended o (count + 1) (λ next. end_from next (count + 1) bytes) ≡ None
        → unless_ended o (count + 1) (λ next. end_from next (count + 1) (bytes ++ more)) ≡ Some n
        → ((next : Place) → end_from next (count + 1) bytes ≡ None
        → end_from next (count + 1) (bytes ++ more) ≡ Some n → (count + 1) + length bytes < n)
        → count + suc (length bytes) < n
    by None none e go = absurd (cc none)
    by (Some next) none e go = omega (arith, go next none e)

-- a text is one head at most
reads_one : (text : List ℕ) (one other : Option RequestHead) → Reads text one → Reads text other → one ≡ other
reads_one text None None a b = refl
reads_one text None (Some head) a b = absurd (a head b)
reads_one text (Some head) None a b = absurd (b head a)
reads_one text (Some one) (Some other) a b = ap Some (request_unique text one other [] [] a b).0

-- what the head says that the front is
abbrev HeadIn : List ℕ → ℕ → Said → Type 0
HeadIn front len said =
    MatchBool (nat_lt 8192 len || nat_lt 66 (count_lines front)) (said ≡ heads.refused 431)
    ((read : Option RequestHead) × Reads (skip_blank front) read × (said ≡ head_said len read))

head_in_one : (front : List ℕ) (len : ℕ) (one other : Said) → HeadIn front len one → HeadIn front len other
    → one ≡ other
head_in_one front len one other = by (nat_lt 8192 len || nat_lt 66 (count_lines front))
  where
    by : (v : Bool)
        → MatchBool v (one ≡ heads.refused 431)
        ((read : Option RequestHead) × Reads (skip_blank front) read × (one ≡ head_said len read))
        → MatchBool v (other ≡ heads.refused 431)
        ((read : Option RequestHead) × Reads (skip_blank front) read × (other ≡ head_said len read))
        → one ≡ other
    by true a b = a ∙ sym b
    by false a b = a.2 ∙ ap (head_said len) (reads_one (skip_blank front) a.0 b.0 a.1 b.1) ∙ sym b.2

head_at_one : (bytes : List ℕ) (len : Option ℕ) (one other : Said) → HeadAt bytes len one → HeadAt bytes len other
    → one ≡ other
head_at_one bytes None one other a b = a ∙ sym b
head_at_one bytes (Some len) one other a b = head_in_one (take len bytes) len one other a b

pub head_one : (bytes : List ℕ) (one other : Said) → HeadOf bytes one → HeadOf bytes other → one ≡ other
head_one bytes one other a b = head_at_one bytes (head_len bytes) one other a b

-- a head has no more bytes than there are
abbrev pub size_of : Said → ℕ
size_of (heads.whole head) = head.size
size_of (heads.refused status) = 0
size_of heads.cut = 0

said_size : (size : ℕ) (read : Option RequestHead) → size_of (head_said size read) ≤ size
said_size size None = omega arith
said_size size (Some head) =
    let fields = map name_and_value head.fields in
    by (not (has_host head.minor fields) || is_bad (length_in fields)) (has_field (codes "transfer-encoding") fields)
    (record {
      size = size;
      method = head.method;
      path = path_of head.target;
      body = given_in (length_in fields);
      keep = keeps head.minor fields;
    }) (omega arith)
  where
    by : (v w : Bool) (rest : HeadSaid) → rest.size ≤ size
        → size_of (cond v (heads.refused 400) (cond w (heads.refused 501) (heads.whole rest))) ≤ size
    by true w rest h = omega arith
    by false true rest h = omega arith
    by false false rest h = h

head_in_size : (front : List ℕ) (len : ℕ) (said : Said) → HeadIn front len said → size_of said ≤ len
head_in_size front len said = by (nat_lt 8192 len || nat_lt 66 (count_lines front))
  where
    by : (v : Bool)
        → MatchBool v (said ≡ heads.refused 431)
        ((read : Option RequestHead) × Reads (skip_blank front) read × (said ≡ head_said len read))
        → size_of said ≤ len
    by true h = subst (λ s. size_of s ≤ len) (sym h) (omega arith)
    by false h = subst (λ s. size_of s ≤ len) (sym h.2) (said_size len h.0)

pub head_fits : (bytes : List ℕ) (said : Said) → HeadOf bytes said → size_of said ≤ length bytes
head_fits bytes said = by (head_len bytes) refl
  where
    none : (v : Bool) → said ≡ cond v (heads.refused 431) heads.cut → size_of said ≤ length bytes
    none true h = subst (λ s. size_of s ≤ length bytes) (sym h) (omega arith)
    none false h = subst (λ s. size_of s ≤ length bytes) (sym h) (omega arith)

    by : (o : Option ℕ) → head_len bytes ≡ o → HeadAt bytes o said → size_of said ≤ length bytes
    by None e h = none (nat_le 8192 (length bytes)) h
    by (Some len) e h =
        omega (arith, head_in_size (take len bytes) len said h, end_within place.Before 0 bytes len e)

-- more bytes change nothing
pub head_more : (bytes more : List ℕ) (said : Said) → HeadOf bytes said → (said ≡ heads.cut → ⊥)
    → HeadOf (bytes ++ more) said
head_more bytes more said h there = by (head_len bytes) refl h
  where
    long : (o : Option ℕ) → head_len (bytes ++ more) ≡ o → head_len bytes ≡ None → 8192 ≤ length bytes
        → said ≡ heads.refused 431 → HeadAt (bytes ++ more) o said
    long None e none many is =
        is ∙ ap (λ v. cond v (heads.refused 431) heads.cut)
        (sym (le-leb 8192 (length (bytes ++ more)) (omega (arith, many, longer bytes more))))
    long (Some len) e none many is =
        let far = end_later place.Before 0 bytes more len none e in
        subst (λ v. MatchBool (v || nat_lt 66 (count_lines (take len (bytes ++ more)))) (said ≡ heads.refused 431)
        ((read : Option RequestHead) × Reads (skip_blank (take len (bytes ++ more))) read
        × (said ≡ head_said len read))) (sym (lt-ltb 8192 len (omega (arith, far, many)))) is

    unended : (v : Bool) → nat_le 8192 (length bytes) ≡ v → head_len bytes ≡ None
        → said ≡ cond v (heads.refused 431) heads.cut → HeadOf (bytes ++ more) said
    unended true e none is =
        long (head_len (bytes ++ more)) refl none (leb-true 8192 (length bytes) e) is
    unended false e none is = absurd (there is)

    by : (o : Option ℕ) → head_len bytes ≡ o → HeadAt bytes o said → HeadOf (bytes ++ more) said
    by None e at = unended (nat_le 8192 (length bytes)) refl e at
    by (Some len) e at =
        let within : len ≤ length bytes = omega (arith, end_within place.Before 0 bytes len e) in
        subst (λ o. HeadAt (bytes ++ more) o said) (sym (end_more place.Before 0 bytes more len e))
        (subst (λ front. HeadIn front len said) (sym (take_more len bytes more within)) at)
