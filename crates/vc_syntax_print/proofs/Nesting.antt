-- What is made simpler is no longer, and nests no deeper.
use Rattle.std.proofs.Common.{◌≡◌, ℕ, ◌+◌, ◌≤◌, Bool, true, List, [], ◌∷◌, ◌++◌, length, sym, ap, subst, append_assoc}
use Rattle.std.proofs.Common.{length-append, arith}
use Rattle.vc_syntax_tokens.specs.declared.token.Token.{Token}
use Rattle.vc_syntax_tokens.specs.declared.token.Lexeme.{Lexeme}
use Rattle.vc_syntax_tokens.specs.declared.token.Lexeme.TheVariants as lexemes
use Rattle.vc_syntax_tokens.specs.declared.token.Sign.TheVariants.{OpenParen, CloseParen, Dot, Colon, Period}
use Rattle.vc_syntax_tokens.specs.declared.token.Reserved.{Reserved}
use Rattle.vc_syntax_tokens.specs.declared.token.Reserved.TheVariants as words
use Rattle.vc_syntax_tokens.specs.Limits.{is_open, is_close, one_if}
use Rattle.vc_syntax_tokens.specs.Written.{is_lexeme}
use Rattle.vc_syntax_terms.specs.TermGrammar.{IsSign, IsWord}
use Rattle.vc_syntax_print.proofs.Simpler as simpler
use Rattle.vc_syntax_print.proofs.Simpler.{Same, Alike, Simpler, Sections}

-- each is as a text's token
abbrev pub AllGood : List Token → Type 0
AllGood [] = Unit {0}
AllGood (t ∷ ts) = (is_lexeme t.lexeme ≡ true) × AllGood ts

pub all_good_front : (ts us : List Token) → AllGood (ts ++ us) → AllGood ts
all_good_front [] us g = tt
all_good_front (t ∷ ts) us g = (g.0, all_good_front ts us g.1)

pub all_good_back : (ts us : List Token) → AllGood (ts ++ us) → AllGood us
all_good_back [] us g = g
all_good_back (t ∷ ts) us g = all_good_back ts us g.1

pub fewer : (ends : Bool) (ts : List Token) (ms : List Lexeme) → Simpler ends ts ms → length ms ≤ length ts
fewer _ _ _ (simpler.token ends a e s) = omega arith
fewer _ _ _ (simpler.before t m ts ms a s x) = omega (arith, fewer _ ts ms x)
fewer _ _ _ (simpler.dotted t dot u m name a s d e) = omega arith
fewer _ _ _ (simpler.joined ts us ms ns x y) =
    omega (arith, length-append ts us, length-append ms ns, fewer _ ts ms x, fewer _ us ns y)
fewer _ _ _ (simpler.operated ts t us ms m ns x a y) =
    omega (arith, length-append ts (t ∷ us), length-append ms (m ∷ ns), fewer _ ts ms x, fewer _ us ns y)
fewer _ _ _ (simpler.unwrapped opening ts closing ms o x c) =
    omega (arith, length-append ts (closing ∷ []), fewer _ ts ms x)
fewer _ _ _ (simpler.turned ts t ms x w) = omega (arith, length-append ts (t ∷ []), fewer _ ts ms x)

-- no more than 32 are open up to each, where so many were opened and closed before
abbrev pub Shallow : {X : Type 0} → (X → Lexeme) → ℕ → ℕ → List X → Type 0
Shallow see opened closed [] = Unit {0}
Shallow see opened closed (x ∷ xs) =
    (opened + one_if (is_open (see x)) ≤ (closed + one_if (is_close (see x))) + 32)
    × Shallow see (opened + one_if (is_open (see x))) (closed + one_if (is_close (see x))) xs

abbrev pub lexeme : Token → Lexeme
lexeme t = t.lexeme

abbrev pub itself : Lexeme → Lexeme
itself m = m

-- behind what was read at least as many more are open as this
abbrev pub Deeper : ℕ → List Token → List Lexeme → Type 0
Deeper k us ns = (o c p d : ℕ) → p ≤ d + 32 → (p + c) + k ≤ o + d → Shallow lexeme o c us → Shallow itself p d ns

abbrev pub KeepsDepth : List Token → List Lexeme → Type 0
KeepsDepth ts ms = (k : ℕ) (us : List Token) (ns : List Lexeme) → Deeper k us ns → Deeper k (ts ++ us) (ms ++ ns)

-- a lexeme at the front of both that counts the same
deeper_by : (t : Token) (m : Lexeme) (k : ℕ) (us : List Token) (ns : List Lexeme) → is_open t.lexeme ≡ is_open m
    → is_close t.lexeme ≡ is_close m
    → Deeper k us ns → Deeper k (t ∷ us) (m ∷ ns)
deeper_by t m k us ns opens closes next o c p d q h s =
    let e : one_if (is_open t.lexeme) ≡ one_if (is_open m) = ap one_if opens in
    let f : one_if (is_close t.lexeme) ≡ one_if (is_close m) = ap one_if closes in
    let g : p + one_if (is_open m) ≤ (d + one_if (is_close m)) + 32 = omega (arith, e, f, h, s.0) in (
      g,
      next (o + one_if (is_open t.lexeme)) (c + one_if (is_close t.lexeme)) (p + one_if (is_open m))
          (d + one_if (is_close m)) g (omega (arith, e, f, h)) s.1,
    )

deeper_same : (t : Token) (m : Lexeme) (k : ℕ) (us : List Token) (ns : List Lexeme) → Same t.lexeme m → Deeper k us ns
    → Deeper k (t ∷ us) (m ∷ ns)
deeper_same t m k us ns same next = deeper_by t m k us ns same.opens same.closes next

deeper_is : (t : Token) (m : Lexeme) (k : ℕ) (us : List Token) (ns : List Lexeme) → t.lexeme ≡ m → Deeper k us ns
    → Deeper k (t ∷ us) (m ∷ ns)
deeper_is t m k us ns e next = deeper_by t m k us ns (ap is_open e) (ap is_close e) next

-- an opening parenthesis is left out, then its closing one
deeper_opening : (t : Token) (k : ℕ) (us : List Token) (ns : List Lexeme) → IsSign OpenParen t → Deeper (k + 1) us ns
    → Deeper k (t ∷ us) ns
deeper_opening t k us ns e next o c p d q h s =
    let f : one_if (is_open t.lexeme) ≡ 1 = ap (λ l. one_if (is_open l)) e in
    let g : one_if (is_close t.lexeme) ≡ 0 = ap (λ l. one_if (is_close l)) e in
    next (o + one_if (is_open t.lexeme)) (c + one_if (is_close t.lexeme)) p d q (omega (arith, f, g, h)) s.1

deeper_closing : (t : Token) (k : ℕ) (us : List Token) (ns : List Lexeme) → IsSign CloseParen t → Deeper k us ns
    → Deeper (k + 1) (t ∷ us) ns
deeper_closing t k us ns e next o c p d q h s =
    let f : one_if (is_open t.lexeme) ≡ 0 = ap (λ l. one_if (is_open l)) e in
    let g : one_if (is_close t.lexeme) ≡ 1 = ap (λ l. one_if (is_close l)) e in
    next (o + one_if (is_open t.lexeme)) (c + one_if (is_close t.lexeme)) p d q (omega (arith, f, g, h)) s.1

-- a word that stands on one side alone
deeper_left : (t : Token) (k : ℕ) (us : List Token) (ns : List Lexeme) → IsWord words.Specified t → Deeper k us ns
    → Deeper k (t ∷ us) ns
deeper_left t k us ns e next o c p d q h s =
    let f : one_if (is_open t.lexeme) ≡ 0 = ap (λ l. one_if (is_open l)) e in
    let g : one_if (is_close t.lexeme) ≡ 0 = ap (λ l. one_if (is_close l)) e in
    next (o + one_if (is_open t.lexeme)) (c + one_if (is_close t.lexeme)) p d q (omega (arith, f, g, h)) s.1

deeper_right : (word : Reserved) (k : ℕ) (us : List Token) (ns : List Lexeme) → Deeper k us ns
    → Deeper k us (lexemes.Reserved word ∷ ns)
deeper_right word k us ns next o c p d q h s =
    (omega (arith, q), next o c (p + 0) (d + 0) (omega (arith, q)) (omega (arith, h)) s)

appended : (k : ℕ) (ts us vs : List Token) (ms ns ks : List Lexeme) → Deeper k (ts ++ (us ++ vs)) (ms ++ (ns ++ ks))
    → Deeper k ((ts ++ us) ++ vs) ((ms ++ ns) ++ ks)
appended k ts us vs ms ns ks next =
    subst (λ x. Deeper k x ((ms ++ ns) ++ ks)) (sym (append_assoc ts us vs))
    (subst (λ x. Deeper k (ts ++ (us ++ vs)) x) (sym (append_assoc ms ns ks)) next)

pub keeps_depth : (ends : Bool) (ts : List Token) (ms : List Lexeme) → Simpler ends ts ms → AllGood ts
    → KeepsDepth ts ms
keeps_depth _ _ _ (simpler.token {t = t} {m = m} ends a e s) good k us ns next = deeper_same t m k us ns (a good.0) next
keeps_depth _ _ _ (simpler.before t m ts ms a s x) good k us ns next =
    deeper_same t m k (ts ++ us) (ms ++ ns) (a good.0) (keeps_depth _ ts ms x good.1 k us ns next)
keeps_depth _ _ _ (simpler.dotted t dot u m name a s d e) good k us ns next =
    deeper_same t m k (dot ∷ u ∷ us) (lexemes.Sign Dot ∷ lexemes.Name name ∷ ns) (a good.0)
    (deeper_is dot (lexemes.Sign Dot) k (u ∷ us) (lexemes.Name name ∷ ns) d
    (deeper_is u (lexemes.Name name) k us ns e next))
keeps_depth _ _ _ (simpler.joined ts vs ms ks x y) good k us ns next =
    appended k ts vs us ms ks ns (keeps_depth _ ts ms x (all_good_front ts vs good) k (vs ++ us) (ks ++ ns)
    (keeps_depth _ vs ks y (all_good_back ts vs good) k us ns next))
keeps_depth _ _ _ (simpler.operated ts t vs ms m ks x a y) good k us ns next =
    let back : AllGood (t ∷ vs) = all_good_back ts (t ∷ vs) good in
    appended k ts (t ∷ vs) us ms (m ∷ ks) ns
    (keeps_depth _ ts ms x (all_good_front ts (t ∷ vs) good) k (t ∷ (vs ++ us)) (m ∷ (ks ++ ns))
    (deeper_same t m k (vs ++ us) (ks ++ ns) (a back.0) (keeps_depth _ vs ks y back.1 k us ns next)))
keeps_depth _ _ _ (simpler.unwrapped opening ts closing ms o x c) good k us ns next =
    subst (λ z. Deeper k (opening ∷ z) (ms ++ ns)) (sym (append_assoc ts (closing ∷ []) us))
    (deeper_opening opening k (ts ++ closing ∷ us) (ms ++ ns) o
    (keeps_depth _ ts ms x (all_good_front ts (closing ∷ []) good.1) (k + 1) (closing ∷ us) ns
    (deeper_closing closing k us ns c next)))
keeps_depth _ _ _ (simpler.turned ts t ms x w) good k us ns next =
    subst (λ z. Deeper k z (lexemes.Reserved words.Specified ∷ (ms ++ ns))) (sym (append_assoc ts (t ∷ []) us))
    (deeper_right words.Specified k (ts ++ t ∷ us) (ms ++ ns)
    (keeps_depth _ ts ms x (all_good_front ts (t ∷ []) good) k (t ∷ us) ns
    (deeper_left t k us ns w next)))

-- sections keep it too
pub sections_keep_depth : (ts : List Token) (ms : List Lexeme) → Sections ts ms → AllGood ts → Deeper 0 ts ms
sections_keep_depth _ _ simpler.none good = λ o c p d q h s. tt
sections_keep_depth _ _ (simpler.section t colon ts period us word ms ns a e x f y) good =
    let back : AllGood (period ∷ us) = all_good_back ts (period ∷ us) good.1.1 in
    deeper_same t (lexemes.Reserved word) 0 (colon ∷ (ts ++ period ∷ us))
    (lexemes.Sign Colon ∷ (ms ++ lexemes.Sign Period ∷ ns)) (a good.0)
    (deeper_is colon (lexemes.Sign Colon) 0 (ts ++ period ∷ us) (ms ++ lexemes.Sign Period ∷ ns) e
    (keeps_depth _ ts ms x (all_good_front ts (period ∷ us) good.1.1) 0 (period ∷ us) (lexemes.Sign Period ∷ ns)
    (deeper_is period (lexemes.Sign Period) 0 us ns f (sections_keep_depth us ns y back.1))))

pub sections_fewer : (ts : List Token) (ms : List Lexeme) → Sections ts ms → length ms ≤ length ts
sections_fewer _ _ simpler.none = omega arith
sections_fewer _ _ (simpler.section t colon ts period us word ms ns a e x f y) =
    omega (
      arith,
      length-append ts (period ∷ us),
      length-append ms (lexemes.Sign Period ∷ ns),
      fewer _ ts ms x,
      sections_fewer us ns y,
    )
