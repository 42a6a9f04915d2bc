-- What stands at the front of a text is told apart from what follows it.
use Rattle.std.proofs.Common.{◌≡◌, ℕ, ◌+◌, Bool, true, false, List, [], ◌∷◌, ◌++◌, length, take, map, cond, Option}
use Rattle.std.proofs.Common.{Some, None, Err, refl, ap, sym, ◌∙◌, subst, arith, length-append}
use Rattle.std.specs.Prelude.{◌==◌, ◌&&◌, ◌||◌, nat_le, nat_lt, option_map}
use Rattle.std.specs.List.{prefix_len, list_all}
use Rattle.std.specs.Char.{to_ascii_uppercase}
use Rattle.std.proofs.lemmas.Bool.{eqb-true, ltb-true}
use Rattle.std.proofs.lemmas.Slice.Eq.{bytes_eq-Decides}
use Rattle.std.proofs.Math.Seq.{take-append_seam}
use Rattle.vc_value.specs.Names.{begins_name, is_name_byte, is_name, ends_name}
use Rattle.vc_value.proofs.GrainLemmas.{both}
use Rattle.vc_value.proofs.NumeralLaws.{prefix_stops}
use Rattle.vc_syntax_tokens.specs.declared.token.Lexeme.{Lexeme}
use Rattle.vc_syntax_tokens.specs.declared.token.Lexeme.TheVariants.{Name, Reserved, Variable, Dollar, Text, Sign}
use Rattle.vc_syntax_tokens.specs.declared.token.Reserved as words
use Rattle.vc_syntax_tokens.specs.declared.token.Reserved.TheVariants as word
use Rattle.vc_syntax_tokens.specs.declared.token.Dollar as words_of_dollar
use Rattle.vc_syntax_tokens.specs.declared.token.Dollar.TheVariants as dollar
use Rattle.vc_syntax_tokens.specs.declared.token.Sign as signs
use Rattle.vc_syntax_tokens.specs.declared.token.Sign.TheVariants as sign
use Rattle.vc_syntax_tokens.specs.declared.fault.SyntaxKind.TheVariants.{NameTooLong, UnknownWord, TextTooLong}
use Rattle.vc_syntax_tokens.specs.Spellings.{reserved_spelling, reserved_of, dollar_spelling, dollar_of, sign_spelling}
use Rattle.vc_syntax_tokens.specs.Lexemes.{lexeme_at, lexed, lexeme_of_word, name_at, name_length, word_at, named}
use Rattle.vc_syntax_tokens.specs.Lexemes.{text_lexed, text_before_quote, closing_length, is_text, dollar_lexed}
use Rattle.vc_syntax_tokens.specs.Lexemes.{begins_with_name}
use Rattle.vc_syntax_tokens.specs.Texts.{is_dot, doubled, quoted}
use Rattle.vc_syntax_tokens.specs.Written.{is_upper, is_unreserved}

-- no lexeme but a dot goes on into these bytes
abbrev pub is_end : List ℕ → Bool
is_end [] = true
is_end (byte ∷ bytes) = byte == 32 || (byte == 10 || (byte == 46 && begins_with_name bytes))

-- the bytes stand apart from the lexeme before them: a dot wants a name there
abbrev pub suits : Lexeme → List ℕ → Bool
suits lexeme rest = cond (is_dot lexeme) (begins_with_name rest) (is_end rest)

-- nothing, a space, a line's end, or a dot before a name
pub end_cases : (P : List ℕ → Type 0) → P [] → ((bytes : List ℕ) → P (32 ∷ bytes)) → ((bytes : List ℕ) → P (10 ∷ bytes))
    → ((bytes : List ℕ) → begins_with_name bytes ≡ true → P (46 ∷ bytes)) → (rest : List ℕ) → is_end rest ≡ true
    → P rest
end_cases P none space line dot [] h = none
end_cases P none space line dot (byte ∷ bytes) h =
    elim (byte == 32) as
    (λ a. (byte == 32) ≡ a → (a || (byte == 10 || (byte == 46 && begins_with_name bytes))) ≡ true
    → P (byte ∷ bytes)) [
      | true ↦ λ e h. subst (λ b. P (b ∷ bytes)) (sym (eqb-true byte 32 e)) (space bytes)
      | false ↦ λ e h. elim (byte == 10) as
          (λ a. (byte == 10) ≡ a → (a || (byte == 46 && begins_with_name bytes)) ≡ true → P (byte ∷ bytes)) [
            | true ↦ λ e h. subst (λ b. P (b ∷ bytes)) (sym (eqb-true byte 10 e)) (line bytes)
            | false ↦ λ e h. elim (byte == 46) as
                (λ a. (byte == 46) ≡ a → (a && begins_with_name bytes) ≡ true → P (byte ∷ bytes)) [
                  | true ↦ λ e h. subst (λ b. P (b ∷ bytes)) (sym (eqb-true byte 46 e)) (dot bytes h)
                  | false ↦ λ e h. absurd (cc)
                ] refl h
          ] refl h
    ] refl h

pub names_end : (rest : List ℕ) → is_end rest ≡ true → prefix_len is_name_byte rest ≡ 0
names_end = end_cases (λ rest. prefix_len is_name_byte rest ≡ 0) refl (λ bytes. refl) (λ bytes. refl) (λ bytes h. refl)

-- a word in upper case, before what is none of it
pub word_again : (w rest : List ℕ) → list_all is_name_byte w ≡ true → is_upper w ≡ true → is_end rest ≡ true
    → (name_length (w ++ rest) ≡ length w) × (word_at (w ++ rest) ≡ w)
word_again w rest all upper ends =
    let len : name_length (w ++ rest) ≡ length w = prefix_stops is_name_byte w rest all (names_end rest ends) in (
      len,
      ap (λ n. map to_ascii_uppercase (take n (w ++ rest))) len
          ∙ ap (map to_ascii_uppercase) (take-append_seam w rest)
          ∙ (bytes_eq-Decides (map to_ascii_uppercase w) w).0 upper,
    )

-- what begins a name may go on in it
pub begins_goes_on : (byte : ℕ) → begins_name byte ≡ true → is_name_byte byte ≡ true
begins_goes_on byte h = grind arith

-- a name's bytes, and how many they are
pub name_bytes : (w : List ℕ) → is_name w ≡ true → (list_all is_name_byte w ≡ true) × (nat_le (length w) 30 ≡ true)
name_bytes [] h = absurd (cc)
name_bytes (first ∷ more) h =
    let parts : (begins_name first ≡ true) × (ends_name more ≡ true) = both (begins_name first) (ends_name more) h in
    let rest : (nat_lt (length more) 30 ≡ true) × (list_all is_name_byte more ≡ true)
    = both (nat_lt (length more) 30) (list_all is_name_byte more) parts.1 in
    (rw (begins_goes_on first parts.0) rest.1, grind (arith, ltb-true (length more) 30 rest.0))

-- a word is read again
pub word_lexes : (w rest : List ℕ) → is_name w ≡ true → is_upper w ≡ true → is_end rest ≡ true
    → lexeme_at (w ++ rest) ≡ lexed (lexeme_of_word w) (length w)
word_lexes [] rest name upper ends = absurd (cc)
word_lexes (first ∷ more) rest name upper ends =
    let parts : (begins_name first ≡ true) × (ends_name more ≡ true) = both (begins_name first) (ends_name more) name in
    let bytes : (list_all is_name_byte (first ∷ more) ≡ true) × (nat_le (length (first ∷ more)) 30 ≡ true)
    = name_bytes (first ∷ more) name in
    let again : (name_length (first ∷ (more ++ rest)) ≡ length (first ∷ more))
    × (word_at (first ∷ (more ++ rest)) ≡ first ∷ more) = word_again (first ∷ more) rest bytes.0 upper ends in
    let all = first ∷ (more ++ rest) in
    let named_first : lexeme_at all ≡ name_at all = rw parts.0 refl in
    named_first
    ∙ ap (λ n. cond (nat_le n 30) (lexed (lexeme_of_word (word_at all)) n) (Err NameTooLong)) again.0
    ∙ ap (λ w. cond (nat_le (length (first ∷ more)) 30) (lexed (lexeme_of_word w) (length (first ∷ more)))
    (Err NameTooLong)) again.1
    ∙ ap (λ b. cond b (lexed (lexeme_of_word (first ∷ more)) (length (first ∷ more))) (Err NameTooLong)) bytes.1

-- reserved words are names in upper case, and found again
pub reserved_again : (r : words.Reserved)
    → (is_name (reserved_spelling r) ≡ true) × (is_upper (reserved_spelling r) ≡ true)
    × (reserved_of (reserved_spelling r) ≡ Some r)
reserved_again word.And = (refl, refl, refl)
reserved_again word.Or = (refl, refl, refl)
reserved_again word.Not = (refl, refl, refl)
reserved_again word.In = (refl, refl, refl)
reserved_again word.If = (refl, refl, refl)
reserved_again word.Specified = (refl, refl, refl)
reserved_again word.Table = (refl, refl, refl)
reserved_again word.False = (refl, refl, refl)
reserved_again word.IsA = (refl, refl, refl)
reserved_again word.IsObject = (refl, refl, refl)
reserved_again word.Material = (refl, refl, refl)
reserved_again word.Where = (refl, refl, refl)
reserved_again word.PartOf = (refl, refl, refl)
reserved_again word.Eq = (refl, refl, refl)
reserved_again word.Ne = (refl, refl, refl)
reserved_again word.Lt = (refl, refl, refl)
reserved_again word.Le = (refl, refl, refl)
reserved_again word.Gt = (refl, refl, refl)
reserved_again word.Ge = (refl, refl, refl)
reserved_again word.Objects = (refl, refl, refl)
reserved_again word.Condition = (refl, refl, refl)
reserved_again word.Restriction = (refl, refl, refl)
reserved_again word.Restrictions = (refl, refl, refl)
reserved_again word.Inferences = (refl, refl, refl)
reserved_again word.Nr = (refl, refl, refl)
reserved_again word.End = (refl, refl, refl)
reserved_again word.Abs = (refl, refl, refl)
reserved_again word.Sign = (refl, refl, refl)
reserved_again word.Trunc = (refl, refl, refl)
reserved_again word.Floor = (refl, refl, refl)
reserved_again word.Ceil = (refl, refl, refl)
reserved_again word.Frac = (refl, refl, refl)

-- and so are the words that begin with `$`
dollar_again : (d : words_of_dollar.Dollar)
    → (list_all is_name_byte (dollar_spelling d) ≡ true) × (is_upper (dollar_spelling d) ≡ true)
    × (dollar_of (dollar_spelling d) ≡ Some d)
dollar_again dollar.Itself = (refl, refl, refl)
dollar_again dollar.Parent = (refl, refl, refl)
dollar_again dollar.Root = (refl, refl, refl)
dollar_again dollar.SetDefault = (refl, refl, refl)
dollar_again dollar.DelDefault = (refl, refl, refl)
dollar_again dollar.SumParts = (refl, refl, refl)
dollar_again dollar.CountParts = (refl, refl, refl)

dot_lexes : (rest : List ℕ) → begins_with_name rest ≡ true → lexeme_at (46 ∷ rest) ≡ lexed (Sign sign.Dot) 1
dot_lexes [] h = absurd (cc)
dot_lexes (byte ∷ bytes) h = rw h refl

-- a sign is read again
pub sign_lexes : (s : signs.Sign) (rest : List ℕ) → suits (Sign s) rest ≡ true
    → lexeme_at (sign_spelling s ++ rest) ≡ lexed (Sign s) (length (sign_spelling s))
sign_lexes sign.OpenParen rest ends =
    end_cases (λ rest. lexeme_at (sign_spelling sign.OpenParen ++ rest)
    ≡ lexed (Sign sign.OpenParen) (length (sign_spelling sign.OpenParen))) refl (λ bytes. refl) (λ bytes. refl)
    (λ bytes h. refl) rest ends
sign_lexes sign.CloseParen rest ends =
    end_cases (λ rest. lexeme_at (sign_spelling sign.CloseParen ++ rest)
    ≡ lexed (Sign sign.CloseParen) (length (sign_spelling sign.CloseParen))) refl (λ bytes. refl) (λ bytes. refl)
    (λ bytes h. refl) rest ends
sign_lexes sign.Comma rest ends =
    end_cases (λ rest. lexeme_at (sign_spelling sign.Comma ++ rest)
    ≡ lexed (Sign sign.Comma) (length (sign_spelling sign.Comma))) refl (λ bytes. refl) (λ bytes. refl)
    (λ bytes h. refl) rest ends
sign_lexes sign.Semicolon rest ends =
    end_cases (λ rest. lexeme_at (sign_spelling sign.Semicolon ++ rest)
    ≡ lexed (Sign sign.Semicolon) (length (sign_spelling sign.Semicolon))) refl (λ bytes. refl) (λ bytes. refl)
    (λ bytes h. refl) rest ends
sign_lexes sign.Colon rest ends =
    end_cases (λ rest. lexeme_at (sign_spelling sign.Colon ++ rest)
    ≡ lexed (Sign sign.Colon) (length (sign_spelling sign.Colon))) refl (λ bytes. refl) (λ bytes. refl)
    (λ bytes h. refl) rest ends
sign_lexes sign.Dot rest ends = dot_lexes rest ends
sign_lexes sign.Period rest ends =
    end_cases (λ rest. lexeme_at (sign_spelling sign.Period ++ rest)
    ≡ lexed (Sign sign.Period) (length (sign_spelling sign.Period))) refl (λ bytes. refl) (λ bytes. refl)
    (λ bytes h. refl) rest ends
sign_lexes sign.Equal rest ends =
    end_cases (λ rest. lexeme_at (sign_spelling sign.Equal ++ rest)
    ≡ lexed (Sign sign.Equal) (length (sign_spelling sign.Equal))) refl (λ bytes. refl) (λ bytes. refl)
    (λ bytes h. refl) rest ends
sign_lexes sign.Unequal rest ends =
    end_cases (λ rest. lexeme_at (sign_spelling sign.Unequal ++ rest)
    ≡ lexed (Sign sign.Unequal) (length (sign_spelling sign.Unequal))) refl (λ bytes. refl) (λ bytes. refl)
    (λ bytes h. refl) rest ends
sign_lexes sign.Less rest ends =
    end_cases (λ rest. lexeme_at (sign_spelling sign.Less ++ rest)
    ≡ lexed (Sign sign.Less) (length (sign_spelling sign.Less))) refl (λ bytes. refl) (λ bytes. refl) (λ bytes h. refl)
    rest ends
sign_lexes sign.LessEqual rest ends =
    end_cases (λ rest. lexeme_at (sign_spelling sign.LessEqual ++ rest)
    ≡ lexed (Sign sign.LessEqual) (length (sign_spelling sign.LessEqual))) refl (λ bytes. refl) (λ bytes. refl)
    (λ bytes h. refl) rest ends
sign_lexes sign.Greater rest ends =
    end_cases (λ rest. lexeme_at (sign_spelling sign.Greater ++ rest)
    ≡ lexed (Sign sign.Greater) (length (sign_spelling sign.Greater))) refl (λ bytes. refl) (λ bytes. refl)
    (λ bytes h. refl) rest ends
sign_lexes sign.GreaterEqual rest ends =
    end_cases (λ rest. lexeme_at (sign_spelling sign.GreaterEqual ++ rest)
    ≡ lexed (Sign sign.GreaterEqual) (length (sign_spelling sign.GreaterEqual))) refl (λ bytes. refl) (λ bytes. refl)
    (λ bytes h. refl) rest ends
sign_lexes sign.Plus rest ends =
    end_cases (λ rest. lexeme_at (sign_spelling sign.Plus ++ rest)
    ≡ lexed (Sign sign.Plus) (length (sign_spelling sign.Plus))) refl (λ bytes. refl) (λ bytes. refl) (λ bytes h. refl)
    rest ends
sign_lexes sign.Minus rest ends =
    end_cases (λ rest. lexeme_at (sign_spelling sign.Minus ++ rest)
    ≡ lexed (Sign sign.Minus) (length (sign_spelling sign.Minus))) refl (λ bytes. refl) (λ bytes. refl)
    (λ bytes h. refl) rest ends
sign_lexes sign.Star rest ends =
    end_cases (λ rest. lexeme_at (sign_spelling sign.Star ++ rest)
    ≡ lexed (Sign sign.Star) (length (sign_spelling sign.Star))) refl (λ bytes. refl) (λ bytes. refl) (λ bytes h. refl)
    rest ends
sign_lexes sign.Slash rest ends =
    end_cases (λ rest. lexeme_at (sign_spelling sign.Slash ++ rest)
    ≡ lexed (Sign sign.Slash) (length (sign_spelling sign.Slash))) refl (λ bytes. refl) (λ bytes. refl)
    (λ bytes h. refl) rest ends

-- a text between its quotes is read again
pub text_again : (t rest : List ℕ) → is_end rest ≡ true
    → (text_before_quote false ((doubled t ++ 39 ∷ []) ++ rest) ≡ Some t)
    × (closing_length false ((doubled t ++ 39 ∷ []) ++ rest) ≡ length (doubled t) + 1)
text_again [] rest ends = (
  end_cases (λ rest. text_before_quote false (39 ∷ rest) ≡ Some []) refl (λ bytes. refl) (λ bytes. refl)
      (λ bytes h. refl) rest ends,
  end_cases (λ rest. closing_length false (39 ∷ rest) ≡ 1) refl (λ bytes. refl) (λ bytes. refl) (λ bytes h. refl) rest
      ends,
)
text_again (byte ∷ t) rest ends =
    let after : List ℕ = (doubled t ++ 39 ∷ []) ++ rest in
    let more : (text_before_quote false after ≡ Some t) × (closing_length false after ≡ length (doubled t) + 1)
    = text_again t rest ends in
    let Again : ℕ → Type 0
    = λ b. (text_before_quote false ((doubled (b ∷ t) ++ 39 ∷ []) ++ rest) ≡ Some (b ∷ t))
    × (closing_length false ((doubled (b ∷ t) ++ 39 ∷ []) ++ rest) ≡ length (doubled (b ∷ t)) + 1) in
    elim (byte == 39) as (λ b. (byte == 39) ≡ b → Again byte) [
      | true ↦ λ e. subst Again (sym (eqb-true byte 39 e))
          (ap (λ o. option_map (λ text. text) (option_map (λ text. 39 ∷ text) o)) more.0, omega (arith, more.1))
      | false ↦ λ e. rw (e, e) (ap (λ o. option_map (λ text. byte ∷ text) o) more.0, omega (arith, more.1))
    ] refl

-- a lexeme of a `$` word is read again
pub dollar_lexes : (d : words_of_dollar.Dollar) (rest : List ℕ) → is_end rest ≡ true
    → lexeme_at (36 ∷ (dollar_spelling d ++ rest)) ≡ lexed (Dollar d) (length (36 ∷ dollar_spelling d))
dollar_lexes d rest ends =
    let good = dollar_again d in
    let again = word_again (dollar_spelling d) rest good.0 good.1 ends in
    ap (λ n. dollar_lexed (dollar_of (word_at (dollar_spelling d ++ rest))) n) again.0
    ∙ ap (λ w. dollar_lexed (dollar_of w) (length (dollar_spelling d))) again.1
    ∙ ap (λ o. dollar_lexed o (length (dollar_spelling d))) good.2
    ∙ ap (λ n. lexed (Dollar d) n) (omega arith)

-- a variable is read again
pub variable_lexes : (w rest : List ℕ) → is_name w ≡ true → is_upper w ≡ true → is_end rest ≡ true
    → lexeme_at (63 ∷ (w ++ rest)) ≡ lexed (Variable w) (length (63 ∷ w))
variable_lexes [] rest name upper ends = absurd (cc)
variable_lexes (first ∷ more) rest name upper ends =
    let parts : (begins_name first ≡ true) × (ends_name more ≡ true) = both (begins_name first) (ends_name more) name in
    let bytes : (list_all is_name_byte (first ∷ more) ≡ true) × (nat_le (length (first ∷ more)) 30 ≡ true)
    = name_bytes (first ∷ more) name in
    let again : (name_length (first ∷ (more ++ rest)) ≡ length (first ∷ more))
    × (word_at (first ∷ (more ++ rest)) ≡ first ∷ more) = word_again (first ∷ more) rest bytes.0 upper ends in
    let all = first ∷ (more ++ rest) in
    ap (λ b. cond b (cond (nat_le (name_length all) 30) (lexed (Variable (word_at all)) (1 + name_length all))
    (Err NameTooLong)) (Err UnknownWord)) parts.0
    ∙ ap (λ n. cond (nat_le n 30) (lexed (Variable (word_at all)) (1 + n)) (Err NameTooLong)) again.0
    ∙ ap (λ w. cond (nat_le (length (first ∷ more)) 30) (lexed (Variable w) (1 + length (first ∷ more)))
    (Err NameTooLong)) again.1
    ∙ ap (λ b. cond b (lexed (Variable (first ∷ more)) (1 + length (first ∷ more))) (Err NameTooLong)) bytes.1
    ∙ ap (λ n. lexed (Variable (first ∷ more)) n) (omega arith)

-- a text is read again
pub text_lexes : (t rest : List ℕ) → is_text t ≡ true → is_end rest ≡ true
    → lexeme_at (quoted t ++ rest) ≡ lexed (Text t) (length (quoted t))
text_lexes t rest good ends =
    let again : (text_before_quote false ((doubled t ++ 39 ∷ []) ++ rest) ≡ Some t)
    × (closing_length false ((doubled t ++ 39 ∷ []) ++ rest) ≡ length (doubled t) + 1) = text_again t rest ends in
    let same : 1 + (length (doubled t) + 1) ≡ length (quoted t) = omega (arith, length-append {A = ℕ}) in
    ap (λ o. text_lexed o (closing_length false ((doubled t ++ 39 ∷ []) ++ rest))) again.0
    ∙ ap (λ n. text_lexed (Some t) n) again.1
    ∙ ap (λ b. cond b (lexed (Text t) (1 + (length (doubled t) + 1))) (Err TextTooLong)) good
    ∙ ap (λ n. lexed (Text t) n) same

-- a reserved word is read again
pub reserved_lexes : (r : words.Reserved) (rest : List ℕ) → is_end rest ≡ true
    → lexeme_at (reserved_spelling r ++ rest) ≡ lexed (Reserved r) (length (reserved_spelling r))
reserved_lexes r rest ends =
    let good = reserved_again r in
    word_lexes (reserved_spelling r) rest good.0 good.1 ends
    ∙ ap (λ o. lexed (named (reserved_spelling r) o) (length (reserved_spelling r))) good.2

unreserved : (word : List ℕ) (o : Option words.Reserved) → is_unreserved o ≡ true → named word o ≡ Name word
unreserved word None h = refl
unreserved word (Some r) h = absurd (cc)

-- a name is read again
pub name_lexes : (w rest : List ℕ) → is_name w ≡ true → is_upper w ≡ true → is_unreserved (reserved_of w) ≡ true
    → is_end rest ≡ true
    → lexeme_at (w ++ rest) ≡ lexed (Name w) (length w)
name_lexes w rest name upper free ends = word_lexes w rest name upper ends
    ∙ ap (λ l. lexed l (length w)) (unreserved w (reserved_of w) free)
