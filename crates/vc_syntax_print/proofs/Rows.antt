-- What is made simpler has no longer rows of NOTs or minuses.
use Rattle.std.proofs.Common.{◌≡◌, ℕ, ◌+◌, ◌≤◌, Bool, true, false, if◌then◌else◌, List, [], ◌∷◌, ◌++◌, refl, sym, ap}
use Rattle.std.proofs.Common.{subst, ◌∙◌, append_assoc, arith}
use Rattle.vc_syntax_tokens.specs.declared.token.Token.{Token}
use Rattle.vc_syntax_tokens.specs.declared.token.Lexeme.{Lexeme}
use Rattle.vc_syntax_tokens.specs.declared.token.Lexeme.TheVariants as lexemes
use Rattle.vc_syntax_tokens.specs.declared.token.Sign.TheVariants.{OpenParen, CloseParen, Dot, Colon, Period}
use Rattle.vc_syntax_tokens.specs.declared.token.Reserved.TheVariants as words
use Rattle.vc_syntax_tokens.specs.declared.limits.Prefix.{Prefix}
use Rattle.vc_syntax_tokens.specs.declared.limits.Prefix.TheVariants.{Negation, Negative}
use Rattle.vc_syntax_tokens.specs.Limits.{is_open, is_prefix, row_up_to}
use Rattle.vc_syntax_terms.specs.TermGrammar.{IsSign, IsWord}
use Rattle.vc_syntax_print.proofs.Simpler as simpler
use Rattle.vc_syntax_print.proofs.Simpler.{Same, Alike, Ends, EndsIf, Simpler, Sections}
use Rattle.vc_syntax_print.proofs.Nesting.{AllGood, all_good_front, all_good_back, lexeme, itself}

-- no row of such prefixes is over 32, where so many stand before
abbrev pub Rowed : {X : Type 0} → (X → Lexeme) → Prefix → ℕ → List X → Type 0
Rowed see prefix row [] = Unit {0}
Rowed see prefix row (x ∷ xs) = (row_up_to prefix row (see x) ≤ 32) × Rowed see prefix (row_up_to prefix row (see x)) xs

-- how many stand in a row up to a lexeme, by what it is
abbrev pub row_by : Bool → Bool → ℕ → ℕ
row_by is_prefix is_open row = if is_prefix then row + 1 else if is_open then row else 0

row_by_grows : (p q : Bool) (row less : ℕ) → less ≤ row → row_by p q less ≤ row_by p q row
row_by_grows true q row less h = omega arith
row_by_grows false true row less h = h
row_by_grows false false row less h = omega arith

row_up_is : (prefix : Prefix) (row : ℕ) (l m : Lexeme) → is_prefix prefix l ≡ is_prefix prefix m → is_open l ≡ is_open m
    → row_up_to prefix row l ≡ row_up_to prefix row m
row_up_is prefix row l m e f = ap (λ b. row_by b (is_open l) row) e ∙ ap (λ b. row_by (is_prefix prefix m) b row) f

row_grows : (prefix : Prefix) (row less : ℕ) (l m : Lexeme) → is_prefix prefix l ≡ is_prefix prefix m
    → is_open l ≡ is_open m → less ≤ row
    → row_up_to prefix less m ≤ row_up_to prefix row l
row_grows prefix row less l m e f h =
    subst (λ n. row_up_to prefix less m ≤ n) (sym (row_up_is prefix row l m e f))
    (row_by_grows (is_prefix prefix m) (is_open m) row less h)

row_ends : (prefix : Prefix) (row : ℕ) (m : Lexeme) → Ends m → row_up_to prefix row m ≡ 0
row_ends prefix row m ends = ap (λ b. row_by b (is_open m) row) (ends.no_prefix prefix)
    ∙ ap (λ b. row_by false b row) ends.no_opening

-- the row on the right is no longer; and both are none, if a row ends
abbrev pub Behind : Bool → ℕ → ℕ → Type 0
Behind true row less = (row ≡ 0) × (less ≡ 0)
Behind false row less = less ≤ row

behind_le : (ends : Bool) (row less : ℕ) → Behind ends row less → less ≤ row
behind_le true row less h = omega (arith, h.0, h.1)
behind_le false row less h = h

abbrev pub Shorter : Prefix → Bool → List Token → List Lexeme → Type 0
Shorter prefix ends us ns = (row less : ℕ) → Behind ends row less → Rowed lexeme prefix row us
    → Rowed itself prefix less ns

abbrev pub KeepsRow : Prefix → Bool → List Token → List Lexeme → Type 0
KeepsRow prefix ends ts ms = (us : List Token) (ns : List Lexeme) → Shorter prefix ends us ns
    → Shorter prefix false (ts ++ us) (ms ++ ns)

shorter_any : (prefix : Prefix) (ends : Bool) (us : List Token) (ns : List Lexeme) → Shorter prefix false us ns
    → Shorter prefix ends us ns
shorter_any prefix ends us ns next row less h s = next row less (behind_le ends row less h) s

-- a lexeme at the front of both that counts the same
shorter_by : (prefix : Prefix) (t : Token) (m : Lexeme) (us : List Token) (ns : List Lexeme)
    → is_prefix prefix t.lexeme ≡ is_prefix prefix m → is_open t.lexeme ≡ is_open m
    → Shorter prefix false us ns → Shorter prefix false (t ∷ us) (m ∷ ns)
shorter_by prefix t m us ns e f next row less h s =
    let g : row_up_to prefix less m ≤ row_up_to prefix row t.lexeme = row_grows prefix row less t.lexeme m e f h in
    (omega (arith, g, s.0), next (row_up_to prefix row t.lexeme) (row_up_to prefix less m) g s.1)

shorter_same : (prefix : Prefix) (t : Token) (m : Lexeme) (us : List Token) (ns : List Lexeme) → Same t.lexeme m
    → Shorter prefix false us ns → Shorter prefix false (t ∷ us) (m ∷ ns)
shorter_same prefix t m us ns same next = shorter_by prefix t m us ns (same.prefixes prefix) same.opens next

shorter_is : (prefix : Prefix) (t : Token) (m : Lexeme) (us : List Token) (ns : List Lexeme) → t.lexeme ≡ m
    → Shorter prefix false us ns → Shorter prefix false (t ∷ us) (m ∷ ns)
shorter_is prefix t m us ns e next = shorter_by prefix t m us ns (ap (is_prefix prefix) e) (ap is_open e) next

-- the last lexeme, behind which the row ends or not
shorter_last : (prefix : Prefix) (ends : Bool) (t : Token) (m : Lexeme) (us : List Token) (ns : List Lexeme)
    → Same t.lexeme m → EndsIf ends m
    → Shorter prefix ends us ns → Shorter prefix false (t ∷ us) (m ∷ ns)
shorter_last prefix false t m us ns same e next = shorter_same prefix t m us ns same next
shorter_last prefix true t m us ns same e next = λ row less h s.
    let f : row_up_to prefix row t.lexeme ≡ 0
    = row_up_is prefix row t.lexeme m (same.prefixes prefix) same.opens ∙ row_ends prefix row m e in
    let g : row_up_to prefix less m ≡ 0 = row_ends prefix less m e in
    (omega (arith, g), next (row_up_to prefix row t.lexeme) (row_up_to prefix less m) (f, g) s.1)

opening_row : (prefix : Prefix) (row : ℕ) → row_up_to prefix row (lexemes.Sign OpenParen) ≡ row
opening_row Negation row = refl
opening_row Negative row = refl

closing_row : (prefix : Prefix) (row : ℕ) → row_up_to prefix row (lexemes.Sign CloseParen) ≡ 0
closing_row Negation row = refl
closing_row Negative row = refl

name_row : (prefix : Prefix) (row : ℕ) (name : List ℕ) → row_up_to prefix row (lexemes.Name name) ≡ 0
name_row Negation row name = refl
name_row Negative row name = refl

word_row : (prefix : Prefix) (row : ℕ) → row_up_to prefix row (lexemes.Reserved words.Specified) ≡ 0
word_row Negation row = refl
word_row Negative row = refl

-- an opening parenthesis is left out, then its closing one
shorter_opening : (prefix : Prefix) (t : Token) (us : List Token) (ns : List Lexeme) → IsSign OpenParen t
    → Shorter prefix false us ns → Shorter prefix false (t ∷ us) ns
shorter_opening prefix t us ns e next row less h s =
    let f : row_up_to prefix row t.lexeme ≡ row = ap (row_up_to prefix row) e ∙ opening_row prefix row in
    next (row_up_to prefix row t.lexeme) less (subst (λ n. less ≤ n) (sym f) h) s.1

shorter_closing : (prefix : Prefix) (t : Token) (us : List Token) (ns : List Lexeme) → IsSign CloseParen t
    → Shorter prefix true us ns → Shorter prefix true (t ∷ us) ns
shorter_closing prefix t us ns e next row less h s =
    next (row_up_to prefix row t.lexeme) less (ap (row_up_to prefix row) e ∙ closing_row prefix row, h.1) s.1

-- a word that stands on one side alone
shorter_left : (prefix : Prefix) (t : Token) (us : List Token) (ns : List Lexeme) → IsWord words.Specified t
    → Shorter prefix true us ns → Shorter prefix true (t ∷ us) ns
shorter_left prefix t us ns e next row less h s =
    next (row_up_to prefix row t.lexeme) less (ap (row_up_to prefix row) e ∙ word_row prefix row, h.1) s.1

shorter_right : (prefix : Prefix) (us : List Token) (ns : List Lexeme) → Shorter prefix false us ns
    → Shorter prefix false us (lexemes.Reserved words.Specified ∷ ns)
shorter_right prefix us ns next row less h s =
    let f : row_up_to prefix less (lexemes.Reserved words.Specified) ≡ 0 = word_row prefix less in
    (omega (arith, f), next row (row_up_to prefix less (lexemes.Reserved words.Specified)) (omega (arith, f)) s)

shorter_dotted : (prefix : Prefix) (t dot u : Token) (m : Lexeme) (name : List ℕ) (us : List Token) (ns : List Lexeme)
    → Same t.lexeme m → IsSign Dot dot
    → u.lexeme ≡ lexemes.Name name → Shorter prefix true us ns
    → Shorter prefix false (t ∷ dot ∷ u ∷ us) (m ∷ lexemes.Sign Dot ∷ lexemes.Name name ∷ ns)
shorter_dotted prefix t dot u m name us ns same d e next =
    shorter_same prefix t m (dot ∷ u ∷ us) (lexemes.Sign Dot ∷ lexemes.Name name ∷ ns) same
    (shorter_is prefix dot (lexemes.Sign Dot) (u ∷ us) (lexemes.Name name ∷ ns) d (λ row less h s.
    let f : row_up_to prefix row u.lexeme ≡ 0 = ap (row_up_to prefix row) e ∙ name_row prefix row name in
    let g : row_up_to prefix less (lexemes.Name name) ≡ 0 = name_row prefix less name in
    (omega (arith, g), next (row_up_to prefix row u.lexeme) (row_up_to prefix less (lexemes.Name name)) (f, g) s.1)))

appended : (prefix : Prefix) (ts us vs : List Token) (ms ns ks : List Lexeme)
    → Shorter prefix false (ts ++ (us ++ vs)) (ms ++ (ns ++ ks))
    → Shorter prefix false ((ts ++ us) ++ vs) ((ms ++ ns) ++ ks)
appended prefix ts us vs ms ns ks next =
    subst (λ x. Shorter prefix false x ((ms ++ ns) ++ ks)) (sym (append_assoc ts us vs))
    (subst (λ x. Shorter prefix false (ts ++ (us ++ vs)) x) (sym (append_assoc ms ns ks)) next)

pub keeps_row : (prefix : Prefix) (ends : Bool) (ts : List Token) (ms : List Lexeme) → Simpler ends ts ms → AllGood ts
    → KeepsRow prefix ends ts ms
keeps_row prefix _ _ _ (simpler.token {t = t} {m = m} ends a e s) good us ns next =
    shorter_last prefix ends t m us ns (a good.0) e next
keeps_row prefix _ _ _ (simpler.before t m ts ms a s x) good us ns next =
    shorter_same prefix t m (ts ++ us) (ms ++ ns) (a good.0) (keeps_row prefix _ ts ms x good.1 us ns next)
keeps_row prefix _ _ _ (simpler.dotted t dot u m name a s d e) good us ns next =
    shorter_dotted prefix t dot u m name us ns (a good.0) d e next
keeps_row prefix _ _ _ (simpler.joined {first = first} ts vs ms ks x y) good us ns next =
    appended prefix ts vs us ms ks ns (keeps_row prefix first ts ms x (all_good_front ts vs good) (vs ++ us) (ks ++ ns)
    (shorter_any prefix first (vs ++ us) (ks ++ ns) (keeps_row prefix _ vs ks y (all_good_back ts vs good) us ns next)))
keeps_row prefix _ _ _ (simpler.operated {first = first} ts t vs ms m ks x a y) good us ns next =
    let back : AllGood (t ∷ vs) = all_good_back ts (t ∷ vs) good in
    appended prefix ts (t ∷ vs) us ms (m ∷ ks) ns
    (keeps_row prefix first ts ms x (all_good_front ts (t ∷ vs) good) (t ∷ (vs ++ us)) (m ∷ (ks ++ ns))
    (shorter_any prefix first (t ∷ (vs ++ us)) (m ∷ (ks ++ ns))
    (shorter_same prefix t m (vs ++ us) (ks ++ ns) (a back.0) (keeps_row prefix _ vs ks y back.1 us ns next))))
keeps_row prefix _ _ _ (simpler.unwrapped opening ts closing ms o x c) good us ns next =
    subst (λ z. Shorter prefix false (opening ∷ z) (ms ++ ns)) (sym (append_assoc ts (closing ∷ []) us))
    (shorter_opening prefix opening (ts ++ closing ∷ us) (ms ++ ns) o
    (keeps_row prefix true ts ms x (all_good_front ts (closing ∷ []) good.1) (closing ∷ us) ns
    (shorter_closing prefix closing us ns c next)))
keeps_row prefix _ _ _ (simpler.turned ts t ms x w) good us ns next =
    subst (λ z. Shorter prefix false z (lexemes.Reserved words.Specified ∷ (ms ++ ns)))
    (sym (append_assoc ts (t ∷ []) us))
    (shorter_right prefix (ts ++ t ∷ us) (ms ++ ns)
    (keeps_row prefix true ts ms x (all_good_front ts (t ∷ []) good) (t ∷ us) ns
    (shorter_left prefix t us ns w next)))

-- sections keep it too
pub sections_keep_row : (prefix : Prefix) (ts : List Token) (ms : List Lexeme) → Sections ts ms → AllGood ts
    → Shorter prefix false ts ms
sections_keep_row prefix _ _ simpler.none good = λ row less h s. tt
sections_keep_row prefix _ _ (simpler.section {ends = ends} t colon ts period us word ms ns a e x f y) good =
    let back : AllGood (period ∷ us) = all_good_back ts (period ∷ us) good.1.1 in
    shorter_same prefix t (lexemes.Reserved word) (colon ∷ (ts ++ period ∷ us))
    (lexemes.Sign Colon ∷ (ms ++ lexemes.Sign Period ∷ ns)) (a good.0)
    (shorter_is prefix colon (lexemes.Sign Colon) (ts ++ period ∷ us) (ms ++ lexemes.Sign Period ∷ ns) e
    (keeps_row prefix ends ts ms x (all_good_front ts (period ∷ us) good.1.1) (period ∷ us) (lexemes.Sign Period ∷ ns)
    (shorter_any prefix ends (period ∷ us) (lexemes.Sign Period ∷ ns)
    (shorter_is prefix period (lexemes.Sign Period) us ns f (sections_keep_row prefix us ns y back.1)))))
