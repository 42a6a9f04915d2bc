-- What is made simpler keeps all that a text has to keep.
use Rattle.std.proofs.Common.{◌≡◌, ℕ, ◌+◌, ◌≤◌, Bool, true, false, List, [], ◌∷◌, ◌++◌, length, map, refl, subst}
use Rattle.std.proofs.Common.{length-append, arith}
use Rattle.std.specs.Prelude.{◌&&◌, ◌||◌, nat_lt}
use Rattle.std.specs.List.{list_all}
use Rattle.std.proofs.lemmas.List.{append-nil}
use Rattle.vc_value.proofs.GrainLemmas.{both}
use Rattle.vc_syntax_tokens.specs.declared.token.Token.{Token}
use Rattle.vc_syntax_tokens.specs.declared.token.Lexeme.{Lexeme}
use Rattle.vc_syntax_tokens.specs.declared.limits.Prefix.{Prefix}
use Rattle.vc_syntax_tokens.specs.declared.limits.Prefix.TheVariants.{Negation, Negative}
use Rattle.vc_syntax_tokens.specs.Limits.{is_open, is_close, one_if, nests_deep, row_up_to, has_long_row, is_too_deep}
use Rattle.vc_syntax_tokens.specs.Limits.{is_too_long}
use Rattle.vc_syntax_tokens.specs.Written.{is_lexeme, stand_together, begins_no_comment, are_lexemes}
use Rattle.vc_syntax_print.proofs.Simpler.{Simpler, Sections}
use Rattle.vc_syntax_print.proofs.Nesting.{AllGood, Shallow, lexeme, itself, Deeper, fewer, keeps_depth, sections_fewer}
use Rattle.vc_syntax_print.proofs.Nesting.{sections_keep_depth}
use Rattle.vc_syntax_print.proofs.Rows.{Rowed, Shorter, keeps_row, sections_keep_row}
use Rattle.vc_syntax_print.proofs.Standing.{Together, keeps_together, begins, sections_begin, sections_together}

-- the lexemes are as few, as shallow and as well told apart as the tokens
pub record Simplified (ts : List Token) (ms : List Lexeme) : Type 0 where
  pub few : length ms ≤ length ts
  pub depth : AllGood ts → Deeper 0 ts ms
  pub rows : (prefix : Prefix) → AllGood ts → Shorter prefix false ts ms
  pub together : AllGood ts → Together ms
  pub no_comment : begins_no_comment ms ≡ true

good_front : (ts us : List Token) → AllGood (ts ++ us) → AllGood ts
good_front [] us g = tt
good_front (t ∷ ts) us g = (g.0, good_front ts us g.1)

simplified_on : (ends : Bool) (ts : List Token) (ms : List Lexeme) → Simpler ends ts ms → (us : List Token)
    → Simplified (ts ++ us) (ms ++ [])
simplified_on ends ts ms x us = record {
  few = omega (arith, length-append ts us, length-append ms [], fewer ends ts ms x);
  depth = λ g. keeps_depth ends ts ms x (good_front ts us g) 0 us [] (λ o c p d q h s. tt);
  rows = λ prefix g. keeps_row prefix ends ts ms x (good_front ts us g) us [] (λ row less h s. tt);
  together = λ g. keeps_together ends ts ms x (good_front ts us g) [] tt;
  no_comment = begins ends ts ms x [];
}

-- what is made simpler, with whatever behind it left out
pub simplified_before : (ends : Bool) (ts : List Token) (ms : List Lexeme) → Simpler ends ts ms → (us : List Token)
    → Simplified (ts ++ us) ms
simplified_before ends ts ms x us = subst (λ z. Simplified (ts ++ us) z) (append-nil ms) (simplified_on ends ts ms x us)

pub simplified : (ends : Bool) (ts : List Token) (ms : List Lexeme) → Simpler ends ts ms → Simplified ts ms
simplified ends ts ms x = subst (λ z. Simplified z ms) (append-nil ts) (simplified_before ends ts ms x [])

pub simplified_sections : (ts : List Token) (ms : List Lexeme) → Sections ts ms → Simplified ts ms
simplified_sections ts ms x = record {
  few = sections_fewer ts ms x;
  depth = sections_keep_depth ts ms x;
  rows = λ prefix. sections_keep_row prefix ts ms x;
  together = sections_together ts ms x;
  no_comment = sections_begin ts ms x;
}

-- the tests say so
or_false : (a b : Bool) → (a || b) ≡ false → (a ≡ false) × (b ≡ false)
or_false true b h = absurd (cc)
or_false false b h = (refl, h)

or_both : (a b : Bool) → a ≡ false → b ≡ false → (a || b) ≡ false
or_both true b e h = absurd (cc)
or_both false b e h = h

and_both : (a b : Bool) → a ≡ true → b ≡ true → (a && b) ≡ true
and_both true b e h = h
and_both false b e h = absurd (cc)

not_less : (m n : ℕ) → nat_lt m n ≡ false → n ≤ m
not_less m n h = grind arith

less_not : (m n : ℕ) → n ≤ m → nat_lt m n ≡ false
less_not m n h = grind arith

shallow_from : (o c : ℕ) (ts : List Token) → nests_deep o c ts ≡ false → Shallow lexeme o c ts
shallow_from o c [] h = tt
shallow_from o c (t ∷ ts) h =
    let p = or_false (nat_lt ((c + one_if (is_close t.lexeme)) + 32) (o + one_if (is_open t.lexeme))) _ h in
    (not_less _ _ p.0, shallow_from (o + one_if (is_open t.lexeme)) (c + one_if (is_close t.lexeme)) ts p.1)

shallow_is : (o c : ℕ) (ts : List Token) → Shallow itself o c (map (λ t. t.lexeme) ts) → nests_deep o c ts ≡ false
shallow_is o c [] s = refl
shallow_is o c (t ∷ ts) s =
    or_both _ _ (less_not ((c + one_if (is_close t.lexeme)) + 32) (o + one_if (is_open t.lexeme)) s.0)
    (shallow_is (o + one_if (is_open t.lexeme)) (c + one_if (is_close t.lexeme)) ts s.1)

rowed_from : (prefix : Prefix) (row : ℕ) (ts : List Token) → has_long_row prefix row ts ≡ false
    → Rowed lexeme prefix row ts
rowed_from prefix row [] h = tt
rowed_from prefix row (t ∷ ts) h =
    let p = or_false (nat_lt 32 (row_up_to prefix row t.lexeme)) _ h in
    (not_less _ _ p.0, rowed_from prefix (row_up_to prefix row t.lexeme) ts p.1)

rowed_is : (prefix : Prefix) (row : ℕ) (ts : List Token) → Rowed itself prefix row (map (λ t. t.lexeme) ts)
    → has_long_row prefix row ts ≡ false
rowed_is prefix row [] s = refl
rowed_is prefix row (t ∷ ts) s =
    or_both _ _ (less_not 32 (row_up_to prefix row t.lexeme) s.0)
    (rowed_is prefix (row_up_to prefix row t.lexeme) ts s.1)

all_good_from : (ts : List Token) → list_all (λ t. is_lexeme t.lexeme) ts ≡ true → AllGood ts
all_good_from [] h = tt
all_good_from (t ∷ ts) h =
    let p : (is_lexeme t.lexeme ≡ true) × (list_all (λ t. is_lexeme t.lexeme) ts ≡ true)
    = both (is_lexeme t.lexeme) (list_all (λ t. is_lexeme t.lexeme) ts) h in
    (p.0, all_good_from ts p.1)

stand_is : (ms : List Lexeme) → Together ms → stand_together ms ≡ true
stand_is [] s = refl
stand_is (m ∷ ms) s = and_both _ _ (and_both _ _ s.0 s.1) (stand_is ms s.2)

-- the lexemes are those of some text
pub simplified_lexemes : (ts : List Token) (ms : List Lexeme) → Simplified ts ms
    → list_all (λ t. is_lexeme t.lexeme) ts ≡ true → are_lexemes ms ≡ true
simplified_lexemes ts ms x h = and_both _ _ x.no_comment (stand_is ms (x.together (all_good_from ts h)))

lengths : (us : List Token) → length (map (λ t. t.lexeme) us) ≡ length us
lengths [] = refl
lengths (u ∷ us) = omega (arith, lengths us)

-- tokens with these lexemes are within the limits, if those were that they come from
pub simplified_short : (ts us : List Token) → Simplified ts (map (λ t. t.lexeme) us) → is_too_long ts ≡ false
    → is_too_long us ≡ false
simplified_short ts us x h = less_not 4000 (length us) (omega (arith, not_less 4000 (length ts) h, lengths us, x.few))

pub simplified_shallow : (ts us : List Token) → Simplified ts (map (λ t. t.lexeme) us)
    → list_all (λ t. is_lexeme t.lexeme) ts ≡ true
    → is_too_deep ts ≡ false → is_too_deep us ≡ false
simplified_shallow ts us x good h =
    let g : AllGood ts = all_good_from ts good in
    let p = or_false (nests_deep 0 0 ts) _ h in
    let q = or_false (has_long_row Negation 0 ts) (has_long_row Negative 0 ts) p.1 in
    or_both _ _ (shallow_is 0 0 us (x.depth g 0 0 0 0 (omega arith) (omega arith) (shallow_from 0 0 ts p.0)))
    (or_both _ _ (rowed_is Negation 0 us (x.rows Negation g 0 0 (omega arith) (rowed_from Negation 0 ts q.0)))
    (rowed_is Negative 0 us (x.rows Negative g 0 0 (omega arith) (rowed_from Negative 0 ts q.1))))
