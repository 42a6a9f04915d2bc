-- The canonical text of lexemes is cut into the same lexemes again.
use Rattle.std.proofs.Common.{◌≡◌, ℕ, ◌+◌, ◌-◌, ◌<◌, ◌≤◌, Bool, true, false, not, List, [], ◌∷◌, ◌++◌, length, drop}
use Rattle.std.proofs.Common.{map, get_or, cond, Result, Ok, Err, refl, ap, sym, ◌∙◌, arith, length-append}
use Rattle.std.specs.Prelude.{◌==◌, ◌&&◌, ◌||◌}
use Rattle.std.proofs.Math.Seq.{drop-append_seam}
use Rattle.std.specs.Char.{is_ascii_digit}
use Rattle.vc_value.specs.Names.{begins_name, is_name, ends_name}
use Rattle.vc_value.proofs.GrainLemmas.{both}
use Rattle.vc_syntax_tokens.specs.declared.token.Token.{Token}
use Rattle.vc_syntax_tokens.specs.declared.token.Lexeme.{Lexeme}
use Rattle.vc_syntax_tokens.specs.declared.token.Lexeme.TheVariants.{Name, Reserved, Variable, Dollar, Text, Number}
use Rattle.vc_syntax_tokens.specs.declared.token.Lexeme.TheVariants.{Sign}
use Rattle.vc_syntax_tokens.specs.declared.token.Sign.TheVariants as sign
use Rattle.vc_syntax_tokens.specs.declared.fault.SyntaxFault.{SyntaxFault}
use Rattle.vc_syntax_tokens.specs.declared.lexing.Place.{Place}
use Rattle.vc_syntax_tokens.specs.declared.lexing.Place.TheVariants.{LineStart, Inside, Comment}
use Rattle.vc_syntax_tokens.specs.Spellings.{reserved_of, reserved_spelling, dollar_spelling}
use Rattle.vc_syntax_tokens.specs.Lexemes.{lexeme_at, lexed, begins_with_name}
use Rattle.vc_syntax_tokens.specs.Tokens.{tokens_from, tokens_of, is_gap, token_at, token_of}
use Rattle.vc_syntax_tokens.specs.Texts.{doubled, lexeme_text, text_of, gap_after, is_dot, is_period}
use Rattle.vc_syntax_tokens.specs.Written.{is_lexeme, is_upper, is_unreserved, is_word, is_star, stands_before}
use Rattle.vc_syntax_tokens.specs.Written.{stand_together, begins_no_comment, are_lexemes}
use Rattle.vc_syntax_tokens.proofs.LexemesAgain.{reserved_again, is_end, suits, name_lexes, reserved_lexes}
use Rattle.vc_syntax_tokens.proofs.LexemesAgain.{variable_lexes, dollar_lexes, text_lexes, sign_lexes}
use Rattle.vc_value.proofs.NumeralLaws.{apart}
use Rattle.vc_syntax_tokens.proofs.NumbersAgain.{number_lexes, number_begins}
use Rattle.vc_syntax_tokens.proofs.TokensFrom.{after, token_step, passes_gap}

-- a lexeme is read again
lexeme_again : (l : Lexeme) (rest : List ℕ) → is_lexeme l ≡ true → suits l rest ≡ true
    → lexeme_at (lexeme_text l ++ rest) ≡ lexed l (length (lexeme_text l))
lexeme_again (Name w) rest good ends =
    let parts : ((is_name w && is_upper w) ≡ true) × (is_unreserved (reserved_of w) ≡ true)
    = both (is_name w && is_upper w) (is_unreserved (reserved_of w)) good in
    let name : (is_name w ≡ true) × (is_upper w ≡ true) = both (is_name w) (is_upper w) parts.0 in
    name_lexes w rest name.0 name.1 parts.1 ends
lexeme_again (Reserved r) rest good ends = reserved_lexes r rest ends
lexeme_again (Variable w) rest good ends =
    let name : (is_name w ≡ true) × (is_upper w ≡ true) = both (is_name w) (is_upper w) good in
    variable_lexes w rest name.0 name.1 ends
lexeme_again (Dollar d) rest good ends = dollar_lexes d rest ends
lexeme_again (Text t) rest good ends = text_lexes t rest good ends
lexeme_again (Number d) rest good ends = number_lexes d rest good ends
lexeme_again (Sign s) rest good ends = sign_lexes s rest ends

-- a list of lexemes may stand at the place
may_stand : Place → List Lexeme → Bool
may_stand LineStart lexemes = begins_no_comment lexemes
may_stand Inside lexemes = true
may_stand Comment lexemes = false

-- a word that is a name begins with a letter or `_`
name_begins : (w : List ℕ) → is_name w ≡ true
    → (byte : ℕ) × (more : List ℕ) × (w ≡ byte ∷ more) × (begins_name byte ≡ true)
name_begins [] h = absurd (cc)
name_begins (byte ∷ more) h = (byte, more, refl, (both (begins_name byte) (ends_name more) h).0)

-- a lexeme's text has a first byte, which is no space and no line's end, and a `*` for `*` alone
Begins : Lexeme → ℕ → Type 0
Begins l byte = ((byte == 32) ≡ false) × ((byte == 10) ≡ false) × ((byte == 42) ≡ is_star l)

word_first : (l : Lexeme) (w : List ℕ) → is_name w ≡ true → is_star l ≡ false
    → (byte : ℕ) × (more : List ℕ) × (w ≡ byte ∷ more) × Begins l byte
unfolding Begins
word_first l w name other =
    let first = name_begins w name in (
      first.0,
      first.1,
      first.2,
      (
        apart begins_name first.0 32 first.3 refl,
        apart begins_name first.0 10 first.3 refl,
        apart begins_name first.0 42
            first.3 refl ∙ sym other,
      ),
    )

first_byte : (l : Lexeme) → is_lexeme l ≡ true
    → (byte : ℕ) × (more : List ℕ) × (lexeme_text l ≡ byte ∷ more) × Begins l byte
unfolding Begins
first_byte (Name w) good =
    word_first (Name w) w
    (both (is_name w) (is_upper w) (both (is_name w && is_upper w) (is_unreserved (reserved_of w)) good).0).0 refl
first_byte (Reserved r) good = word_first (Reserved r) (reserved_spelling r) (reserved_again r).0 refl
first_byte (Variable w) good = (63, w, refl, (refl, refl, refl))
first_byte (Dollar d) good = (36, dollar_spelling d, refl, (refl, refl, refl))
first_byte (Text t) good = (39, doubled t ++ 39 ∷ [], refl, (refl, refl, refl))
first_byte (Number d) good =
    let first = number_begins d good in (
      first.0,
      first.1,
      first.2,
      (
        apart is_ascii_digit first.0 32 first.3 refl,
        apart is_ascii_digit first.0 10 first.3 refl,
        apart is_ascii_digit
            first.0 42 first.3 refl,
      ),
    )
first_byte (Sign sign.OpenParen) good = (40, [], refl, (refl, refl, refl))
first_byte (Sign sign.CloseParen) good = (41, [], refl, (refl, refl, refl))
first_byte (Sign sign.Comma) good = (44, [], refl, (refl, refl, refl))
first_byte (Sign sign.Semicolon) good = (59, [], refl, (refl, refl, refl))
first_byte (Sign sign.Colon) good = (58, [], refl, (refl, refl, refl))
first_byte (Sign sign.Dot) good = (46, [], refl, (refl, refl, refl))
first_byte (Sign sign.Period) good = (46, [], refl, (refl, refl, refl))
first_byte (Sign sign.Equal) good = (61, [], refl, (refl, refl, refl))
first_byte (Sign sign.Unequal) good = (60, 62 ∷ [], refl, (refl, refl, refl))
first_byte (Sign sign.Less) good = (60, [], refl, (refl, refl, refl))
first_byte (Sign sign.LessEqual) good = (60, 61 ∷ [], refl, (refl, refl, refl))
first_byte (Sign sign.Greater) good = (62, [], refl, (refl, refl, refl))
first_byte (Sign sign.GreaterEqual) good = (62, 61 ∷ [], refl, (refl, refl, refl))
first_byte (Sign sign.Plus) good = (43, [], refl, (refl, refl, refl))
first_byte (Sign sign.Minus) good = (45, [], refl, (refl, refl, refl))
first_byte (Sign sign.Star) good = (42, [], refl, (refl, refl, refl))
first_byte (Sign sign.Slash) good = (47, [], refl, (refl, refl, refl))

not_true : (b : Bool) → not b ≡ true → b ≡ false
not_true true h = absurd (cc)
not_true false h = refl

-- a lexeme's first byte belongs to it
starts_token : (place : Place) (l : Lexeme) (ls : List Lexeme) (rest : List ℕ) → is_lexeme l ≡ true
    → may_stand place (l ∷ ls) ≡ true
    → (1 ≤ length (lexeme_text l)) × (is_gap place (get_or (lexeme_text l ++ rest) 0 0) ≡ false)
unfolding may_stand Begins
starts_token Inside l ls rest good stands =
    let first = first_byte l good in
    rw first.2 (omega arith, rw (first.3.0, first.3.1) refl)
starts_token LineStart l ls rest good stands =
    let first = first_byte l good in
    let other : is_star l ≡ false = not_true (is_star l) stands in
    rw first.2 (omega arith, rw (first.3.0, first.3.1, first.3.2, other) refl)
starts_token Comment l ls rest good stands = absurd (cc)

-- a text begins with a name where its first lexeme is a word
word_begins : (l : Lexeme) (rest : List ℕ) → is_lexeme l ≡ true → is_word l ≡ true
    → begins_with_name (lexeme_text l ++ rest) ≡ true
word_begins (Name w) rest good h =
    let first
    = name_begins w (both (is_name w) (is_upper w)
    (both (is_name w && is_upper w) (is_unreserved (reserved_of w)) good).0).0 in
    ap (λ w. begins_with_name (w ++ rest)) first.2 ∙ first.3
word_begins (Reserved r) rest good h =
    let first = name_begins (reserved_spelling r) (reserved_again r).0 in
    ap (λ w. begins_with_name (w ++ rest)) first.2 ∙ first.3
word_begins (Variable w) rest good h = absurd (cc)
word_begins (Dollar d) rest good h = absurd (cc)
word_begins (Text t) rest good h = absurd (cc)
word_begins (Number d) rest good h = absurd (cc)
word_begins (Sign s) rest good h = absurd (cc)

dot_is : (l : Lexeme) → is_dot l ≡ true → lexeme_text l ≡ 46 ∷ []
dot_is (Sign sign.Dot) h = refl
dot_is l h = absurd (cc)

-- what follows a lexeme stands apart from it
stands_apart : (l : Lexeme) (ls : List Lexeme) → stands_before l ls ≡ true → stand_together ls ≡ true
    → suits l (gap_after l ls ++ text_of ls) ≡ true
stands_apart l [] before together = rw (not_true (is_dot l) before) refl
stands_apart l (m ∷ ms) before together =
    let parts : ((is_lexeme m && stands_before m ms) ≡ true) × (stand_together ms ≡ true)
    = both (is_lexeme m && stands_before m ms) (stand_together ms) together in
    let next : (is_lexeme m ≡ true) × (stands_before m ms ≡ true) = both (is_lexeme m) (stands_before m ms) parts.0 in
    let word : (not (is_dot l) || is_word m) ≡ true
    = (both (not (is_dot l) || is_word m) (not (is_period l && is_star m)) before).0 in
    let text : List ℕ = text_of (m ∷ ms) in
    elim (is_dot l) as (λ d. (not d || is_word m) ≡ true
    → cond d (begins_with_name (cond (d || is_dot m) [] (cond (is_period l) (10 ∷ []) (32 ∷ [])) ++ text))
    (is_end (cond (d || is_dot m) [] (cond (is_period l) (10 ∷ []) (32 ∷ [])) ++ text)) ≡ true) [
      | true ↦ λ h. word_begins m (gap_after m ms ++ text_of ms) next.0 h
      | false ↦ λ h. elim (is_dot m) as
          (λ d. is_dot m ≡ d → is_end (cond d [] (cond (is_period l) (10 ∷ []) (32 ∷ [])) ++ text) ≡ true) [
            | true ↦ λ e.
                let suited : suits m (gap_after m ms ++ text_of ms) ≡ true = stands_apart m ms next.1 parts.1 in
                ap (λ t. is_end (t ++ (gap_after m ms ++ text_of ms))) (dot_is m e)
                ∙ sym (ap (λ d. cond d (begins_with_name (gap_after m ms ++ text_of ms))
                (is_end (gap_after m ms ++ text_of ms))) e) ∙ suited
            | false ↦ λ e. elim (is_period l) as (λ p. is_end (cond p (10 ∷ []) (32 ∷ []) ++ text) ≡ true) [
              | true ↦ refl
              | false ↦ refl
            ]
          ] refl
    ] word

-- the gap behind a lexeme is passed, and what follows may stand there
gap_passed : (l : Lexeme) (ls : List Lexeme) (start : ℕ) → stands_before l ls ≡ true
    → (place : Place) × (end : ℕ)
    × (tokens_from Inside start 0 (gap_after l ls ++ text_of ls) ≡ tokens_from place end 0 (text_of ls))
    × (may_stand place ls ≡ true)
unfolding may_stand
gap_passed l [] start before = (Inside, start, refl, refl)
gap_passed l (m ∷ ms) start before = elim (is_dot l || is_dot m) as (λ d. (place : Place) × (end : ℕ)
    × (tokens_from Inside start 0 (cond d [] (cond (is_period l) (10 ∷ []) (32 ∷ [])) ++ text_of (m ∷ ms))
    ≡ tokens_from place end 0 (text_of (m ∷ ms))) × (may_stand place (m ∷ ms) ≡ true)) [
      | true ↦ (Inside, start, refl, refl)
      | false ↦ elim (is_period l) as (λ p. not (p && is_star m) ≡ true → (place : Place) × (end : ℕ)
          × (tokens_from Inside start 0 (cond p (10 ∷ []) (32 ∷ []) ++ text_of (m ∷ ms))
          ≡ tokens_from place end 0 (text_of (m ∷ ms))) × (may_stand place (m ∷ ms) ≡ true)) [
            | true ↦ λ h. (LineStart, start + 1, passes_gap Inside start 10 (text_of (m ∷ ms)) refl, h)
            | false ↦ λ h. (Inside, start + 1, passes_gap Inside start 32 (text_of (m ∷ ms)) refl, refl)
          ] (both (not (is_dot l) || is_word m) (not (is_period l && is_star m)) before).1
    ]

after_none : (tokens : Result (List Token) SyntaxFault) → after [] tokens ≡ tokens
after_none (Ok tokens) = refl
after_none (Err fault) = refl

-- the tokens of a text of these lexemes
again : (ls : List Lexeme) (place : Place) (start : ℕ) → stand_together ls ≡ true → may_stand place ls ≡ true
    → (tokens : List Token) × (tokens_from place start 0 (text_of ls) ≡ Ok tokens) × (map (λ t. t.lexeme) tokens ≡ ls)
again [] place start together stands = ([], refl, refl)
again (l ∷ ls) place start together stands =
    let parts : ((is_lexeme l && stands_before l ls) ≡ true) × (stand_together ls ≡ true)
    = both (is_lexeme l && stands_before l ls) (stand_together ls) together in
    let here : (is_lexeme l ≡ true) × (stands_before l ls ≡ true) = both (is_lexeme l) (stands_before l ls) parts.0 in
    let rest : List ℕ = gap_after l ls ++ text_of ls in
    let text : List ℕ = lexeme_text l in
    let token : Token = record { lexeme = l; start = start; end = start + length text } in
    let found : token_at start (text ++ rest) ≡ Ok token
    = ap (token_of start) (lexeme_again l rest here.0 (stands_apart l ls here.1 parts.1)) in
    let first : (1 ≤ length text) × (is_gap place (get_or (text ++ rest) 0 0) ≡ false)
    = starts_token place l ls rest here.0 stands in
    let some : start < token.end = omega (arith, first.0) in
    let front : 1 ≤ length (text ++ rest) = omega (arith, first.0, length-append {A = ℕ}) in
    let same : token.end - start ≡ length text = omega arith in
    let most : token.end ≤ start + length (text ++ rest) = omega (arith, length-append {A = ℕ}) in
    let passed = gap_passed l ls token.end here.1 in
    let more = again ls passed.0 passed.1 parts.1 passed.3 in (
      token ∷ more.0,
      sym (after_none (tokens_from place start 0 (text ++ rest)))
          ∙ token_step [] place start (text ++ rest) token front first.1 found some most
          ∙ ap (after (token ∷ [])) (
          ap (λ n. tokens_from Inside token.end 0 (drop n (text ++ rest))) same
          ∙ ap (tokens_from Inside token.end 0) (drop-append_seam text rest)
          ∙ passed.2 ∙ more.1),
      ap (λ lexemes. l ∷ lexemes) more.2,
    )

-- lexemes that some text has are the lexemes of their canonical text
pub texts_again : (ls : List Lexeme) → are_lexemes ls ≡ true
    → (tokens : List Token) × (tokens_of (text_of ls) ≡ Ok tokens) × (map (λ t. t.lexeme) tokens ≡ ls)
unfolding may_stand
texts_again ls good =
    let parts : (begins_no_comment ls ≡ true) × (stand_together ls ≡ true)
    = both (begins_no_comment ls) (stand_together ls) good in
    again ls LineStart 0 parts.1 parts.0
