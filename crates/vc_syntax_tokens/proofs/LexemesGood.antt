-- What is cut from a text is a lexeme of some text.
use Rattle.std.proofs.Common.{◌≡◌, ℕ, ◌+◌, ◌*◌, ◌^◌, ◌<◌, ◌≤◌, pos, Bool, true, false, not, List, [], ◌∷◌, length, take}
use Rattle.std.proofs.Common.{map, fold, cond, Option, Some, None, Result, Ok, Err, refl, ap, sym, ◌∙◌, subst, arith}
use Rattle.std.proofs.Common.{suc, zero}
use Rattle.std.specs.Prelude.{◌==◌, ◌&&◌, nat_le, nat_lt}
use Rattle.std.specs.List.{prefix_len, list_all}
use Rattle.std.specs.Char.{is_ascii_digit, to_ascii_uppercase}
use Rattle.std.specs.Int.Signed.{lt_z, le_z}
use Rattle.std.proofs.lemmas.Bool.{leb-true, lt-ltb, le-leb}
use Rattle.std.proofs.lemmas.List.{length-map, length-take}
use Rattle.std.proofs.lemmas.Slice.Eq.{bytes_eq-Decides}
use Rattle.std.proofs.Math.Nat.{pow-suc, pow-le-pow_right}
use Rattle.vc_value.specs.Names.{begins_name, is_name_byte, is_name, ends_name}
use Rattle.vc_value.specs.Decimals.{read_number, number_from, is_negative, unsigned_text, whole_part, fraction_part}
use Rattle.vc_value.specs.Decimals.{are_digits, is_fraction, significant, fraction_fits, fraction_of, number_of}
use Rattle.vc_value.specs.Decimals.{millionths_of, with_digit}
use Rattle.vc_value.specs.declared.decimal.Dec.{Dec}
use Rattle.vc_value.specs.declared.decimal.NumFault.{NumFault}
use Rattle.vc_value.proofs.GrainLemmas.{both, both_true}
use Rattle.vc_value.proofs.NumeralLaws.{apart}
use Rattle.vc_value.proofs.DigitLemmas.{significant_all, below_a_million}
use Rattle.vc_syntax_tokens.specs.declared.fault.SyntaxFault.{SyntaxFault}
use Rattle.vc_syntax_tokens.specs.declared.token.Token.{Token}
use Rattle.vc_syntax_tokens.specs.declared.lexing.Place.{Place}
use Rattle.vc_syntax_tokens.specs.declared.lexing.Place.TheVariants.{LineStart, Inside}
use Rattle.vc_syntax_tokens.specs.Tokens.{tokens_from, tokens_of, before, token_of, token_at, is_gap, place_after}
use Rattle.vc_syntax_tokens.specs.Tokens.{rest_length}
use Rattle.vc_syntax_tokens.specs.declared.fault.SyntaxKind.{SyntaxKind}
use Rattle.vc_syntax_tokens.specs.declared.lexing.Lexed.{Lexed}
use Rattle.vc_syntax_tokens.specs.declared.token.Reserved as words
use Rattle.vc_syntax_tokens.specs.declared.token.Dollar as words_of_dollar
use Rattle.vc_syntax_tokens.specs.declared.token.Sign as signs
use Rattle.vc_syntax_tokens.specs.Spellings.{reserved_of, dollar_of}
use Rattle.vc_syntax_tokens.specs.Lexemes.{lexeme_at, named, name_at, number_lexed, number_length, text_lexed}
use Rattle.vc_syntax_tokens.specs.Lexemes.{text_before_quote, closing_length, is_text, dollar_lexed, variable_at}
use Rattle.vc_syntax_tokens.specs.Lexemes.{begins_with_name, name_length, word_at, long_sign, long_sign_lexed}
use Rattle.vc_syntax_tokens.specs.Lexemes.{short_sign, short_sign_lexed, marked_at}
use Rattle.vc_syntax_tokens.proofs.LexemesAgain.{begins_goes_on}
use Rattle.vc_syntax_tokens.specs.Written.{is_lexeme, is_upper, is_unreserved}

-- what was lexed is a lexeme of some text
abbrev pub Good : Result Lexed SyntaxKind → Type 0
Good (Ok lexed) = is_lexeme lexed.lexeme ≡ true
Good (Err kind) = Unit {0}

either : (b : Bool) (x y : Result Lexed SyntaxKind) → (b ≡ true → Good x) → (b ≡ false → Good y) → Good (cond b x y)
either true x y f g = f refl
either false x y f g = g refl

take-one : (p : ℕ → Bool) (byte : ℕ) (bytes : List ℕ)
    → take (1 + prefix_len p bytes) (byte ∷ bytes) ≡ byte ∷ take (prefix_len p bytes) bytes
take-one p byte bytes =
    let same : 1 + prefix_len p bytes ≡ suc (prefix_len p bytes) = omega arith in
    ap (λ n. take n (byte ∷ bytes)) same

-- the bytes of a run pass
run_passes : (p : ℕ → Bool) (bytes : List ℕ) → list_all p (take (prefix_len p bytes) bytes) ≡ true
run_passes p [] = refl
run_passes p (byte ∷ bytes) =
    elim (p byte) as (λ b. p byte ≡ b → list_all p (take (cond b (1 + prefix_len p bytes) 0) (byte ∷ bytes)) ≡ true) [
      | true ↦ λ e.
          let all : list_all p (byte ∷ take (prefix_len p bytes) bytes) ≡ true
          = both_true (p byte) (list_all p (take (prefix_len p bytes) bytes)) e (run_passes p bytes) in
          rw (take-one p byte bytes) all
      | false ↦ λ e. refl
    ] refl

-- upper case stays upper case
upper_upper : (byte : ℕ) → to_ascii_uppercase (to_ascii_uppercase byte) ≡ to_ascii_uppercase byte
upper_upper byte = grind arith

-- a letter in upper case is a letter
upper_begins : (byte : ℕ) → begins_name byte ≡ true → begins_name (to_ascii_uppercase byte) ≡ true
upper_begins byte h = grind arith

upper_goes_on : (byte : ℕ) → is_name_byte byte ≡ true → is_name_byte (to_ascii_uppercase byte) ≡ true
upper_goes_on byte h = grind arith

uppers_go_on : (bytes : List ℕ) → list_all is_name_byte bytes ≡ true
    → list_all is_name_byte (map to_ascii_uppercase bytes) ≡ true
uppers_go_on [] all = refl
uppers_go_on (byte ∷ bytes) all =
    let parts : (is_name_byte byte ≡ true) × (list_all is_name_byte bytes ≡ true)
    = both (is_name_byte byte) (list_all is_name_byte bytes) all in
    both_true (is_name_byte (to_ascii_uppercase byte)) (list_all is_name_byte (map to_ascii_uppercase bytes))
    (upper_goes_on byte parts.0) (uppers_go_on bytes parts.1)

uppers_upper : (bytes : List ℕ) → map to_ascii_uppercase (map to_ascii_uppercase bytes) ≡ map to_ascii_uppercase bytes
uppers_upper [] = refl
uppers_upper (byte ∷ bytes) = rw (upper_upper byte) (ap (λ more. to_ascii_uppercase byte ∷ more) (uppers_upper bytes))

-- a word at the front is in upper case
word_upper : (bytes : List ℕ) → is_upper (word_at bytes) ≡ true
word_upper bytes = (bytes_eq-Decides (map to_ascii_uppercase (word_at bytes)) (word_at bytes)).1
    (uppers_upper (take (name_length bytes) bytes))

-- a word at the front that begins as a name and isn't too long is a name
word_name : (byte : ℕ) (bytes : List ℕ) → begins_name byte ≡ true → nat_le (name_length (byte ∷ bytes)) 30 ≡ true
    → is_name (word_at (byte ∷ bytes)) ≡ true
word_name byte bytes begins short =
    let goes : is_name_byte byte ≡ true = begins_goes_on byte begins in
    let more : List ℕ = take (name_length bytes) bytes in
    let whole : take (name_length (byte ∷ bytes)) (byte ∷ bytes) ≡ byte ∷ more
    = rw goes (take-one is_name_byte byte bytes) in
    let count : name_length (byte ∷ bytes) ≡ 1 + name_length bytes = rw goes refl in
    let most : name_length (byte ∷ bytes) ≤ 30 = leb-true (name_length (byte ∷ bytes)) 30 short in
    let few : nat_lt (length (map to_ascii_uppercase more)) 30 ≡ true
    = lt-ltb (length (map to_ascii_uppercase more)) 30
    (omega (
      arith,
      count,
      most,
      length-map (take (name_length bytes) bytes) to_ascii_uppercase,
      length-take
          (name_length bytes) bytes,
    )) in
    ap (λ w. is_name (map to_ascii_uppercase w)) whole
    ∙ both_true (begins_name (to_ascii_uppercase byte)) (ends_name (map to_ascii_uppercase more))
    (upper_begins byte begins)
    (both_true (nat_lt (length (map to_ascii_uppercase more)) 30) (list_all is_name_byte (map to_ascii_uppercase more))
    few (uppers_go_on more (run_passes is_name_byte bytes)))

word_lexeme : (w : List ℕ) (o : Option words.Reserved) → reserved_of w ≡ o → is_name w ≡ true → is_upper w ≡ true
    → is_lexeme (named w o) ≡ true
word_lexeme w None e name upper =
    both_true (is_name w && is_upper w) (is_unreserved (reserved_of w)) (both_true (is_name w) (is_upper w) name upper)
    (ap is_unreserved e)
word_lexeme w (Some r) e name upper = refl

name_good : (byte : ℕ) (bytes : List ℕ) → begins_name byte ≡ true → Good (name_at (byte ∷ bytes))
name_good byte bytes begins =
    let all = byte ∷ bytes in
    either (nat_le (name_length all) 30) _ _
    (λ e. word_lexeme (word_at all) (reserved_of (word_at all)) refl (word_name byte bytes begins e) (word_upper all))
    (λ e. tt)

-- digits write a number of as many places
number_below : (places before : ℕ) (digits : List ℕ) → list_all is_ascii_digit digits ≡ true → before < 10 ^ places
    → fold with_digit before digits < 10 ^ (places + length digits)
number_below places before [] all below =
    let same : places ≡ places + 0 = omega arith in
    subst (λ n. before < 10 ^ n) same below
number_below places before (digit ∷ digits) all below =
    let parts : (is_ascii_digit digit ≡ true) × (list_all is_ascii_digit digits ≡ true)
    = both (is_ascii_digit digit) (list_all is_ascii_digit digits) all in
    let nine : digit ≤ 57 = leb-true digit 57 (both (nat_le 48 digit) (nat_le digit 57) parts.0).1 in
    let ten : 10 ^ suc places ≡ 10 ^ places * 10 = pow-suc 10 places in
    let next : with_digit before digit < 10 ^ suc places = omega (arith, nine, ten, below) in
    let same : suc places + length digits ≡ places + length (digit ∷ digits) = omega arith in
    subst (λ n. fold with_digit (with_digit before digit) digits < 10 ^ n) same
    (number_below (suc places) (with_digit before digit) digits parts.1 next)

digits_below : (digits : List ℕ) → list_all is_ascii_digit digits ≡ true → number_of digits < 10 ^ length digits
digits_below digits all =
    let same : 0 + length digits ≡ length digits = omega arith in
    subst (λ n. number_of digits < 10 ^ n) same (number_below 0 0 digits all (omega arith))

small_fraction : (fraction : Option (List ℕ)) → is_fraction fraction ≡ true → fraction_fits fraction ≡ true
    → fraction_of fraction < 10 ^ 6
small_fraction None digits fits = omega arith
small_fraction (Some ds) digits fits =
    below_a_million (number_of ds) (length ds)
    (digits_below ds (both (not (length ds == 0)) (list_all is_ascii_digit ds) digits).1)
    (leb-true (length ds) 6 fits)

small_millionths : (whole : List ℕ) (fraction : Option (List ℕ)) → (are_digits whole && is_fraction fraction) ≡ true
    → (nat_le (length (significant whole)) 9 && fraction_fits fraction) ≡ true → millionths_of whole fraction < 10 ^ 15
small_millionths whole fraction digits fits =
    let kind : (are_digits whole ≡ true) × (is_fraction fraction ≡ true)
    = both (are_digits whole) (is_fraction fraction) digits in
    let few : (nat_le (length (significant whole)) 9 ≡ true) × (fraction_fits fraction ≡ true)
    = both (nat_le (length (significant whole)) 9) (fraction_fits fraction) fits in
    let all : list_all is_ascii_digit (significant whole) ≡ true
    = significant_all is_ascii_digit whole
    (both (not (length whole == 0)) (list_all is_ascii_digit whole) kind.0).1 in
    let most : 10 ^ length (significant whole) ≤ 10 ^ 9
    = pow-le-pow_right (omega arith) (leb-true (length (significant whole)) 9 few.0) in
    let front : number_of (significant whole) < 10 ^ length (significant whole)
    = digits_below (significant whole) all in
    omega (arith, most, front, small_fraction fraction kind.1 few.1)

ltb_small : (n : ℕ) → n < 10 ^ 15 → (le_z (pos 0) (pos n) && lt_z (pos n) (pos (10 ^ 15))) ≡ true
ltb_small n h = both_true (le_z (pos 0) (pos n)) (lt_z (pos n) (pos (10 ^ 15))) (le-leb 0 n (omega arith))
    (lt-ltb n (10 ^ 15) h)

front_plain : (count byte : ℕ) (bytes : List ℕ) → (byte == 45) ≡ false → is_negative (take count (byte ∷ bytes)) ≡ false
front_plain zero byte bytes h = refl
front_plain (suc count) byte bytes h = h

digit_plain : (byte : ℕ) (bytes : List ℕ) → is_ascii_digit byte ≡ true
    → is_negative (take (number_length (byte ∷ bytes)) (byte ∷ bytes)) ≡ false
digit_plain byte bytes h = front_plain (number_length (byte ∷ bytes)) byte bytes (apart is_ascii_digit byte 45 h refl)

either_number : (b : Bool) (x y : Result Dec NumFault) (count : ℕ) → (b ≡ true → Good (number_lexed x count))
    → (b ≡ false → Good (number_lexed y count)) → Good (number_lexed (cond b x y) count)
either_number true x y count f g = f refl
either_number false x y count f g = g refl

number_good : (text : List ℕ) (count : ℕ) → is_negative text ≡ false → Good (number_lexed (read_number text) count)
number_good text count plain =
    let digits = unsigned_text text in
    let whole = whole_part digits in
    let fraction = fraction_part digits in
    let GoodFrom : Bool → Type 0 = λ negative. Good (number_lexed (number_from negative whole fraction) count) in
    subst GoodFrom (sym plain) (either_number (are_digits whole && is_fraction fraction) _ _ count
    (λ digits. either_number (nat_le (length (significant whole)) 9 && fraction_fits fraction) _ _ count
    (λ fits. ltb_small (millionths_of whole fraction) (small_millionths whole fraction digits fits))
    (λ e. tt))
    (λ e. tt))

text_good : (text : Option (List ℕ)) (count : ℕ) → Good (text_lexed text count)
text_good None count = tt
text_good (Some text) count = either (is_text text) _ _ (λ e. e) (λ e. tt)

dollar_good : (dollar : Option words_of_dollar.Dollar) (count : ℕ) → Good (dollar_lexed dollar count)
dollar_good None count = tt
dollar_good (Some dollar) count = refl

variable_good : (bytes : List ℕ) → Good (variable_at bytes)
variable_good [] = tt
variable_good (byte ∷ bytes) =
    let all = byte ∷ bytes in
    either (begins_with_name all) _ _
    (λ begins. either (nat_le (name_length all) 30) _ _
    (λ e. both_true (is_name (word_at all)) (is_upper (word_at all)) (word_name byte bytes begins e) (word_upper all))
    (λ e. tt))
    (λ e. tt)

short_good : (sign : Option signs.Sign) → Good (short_sign_lexed sign)
short_good None = tt
short_good (Some sign) = refl

sign_good : (long short : Option signs.Sign) → Good (long_sign_lexed long (short_sign_lexed short))
sign_good None short = short_good short
sign_good (Some sign) short = refl

marked_good : (byte : ℕ) (bytes : List ℕ) → Good (marked_at byte bytes)
marked_good byte bytes =
    either (byte == 39) _ _ (λ e. text_good (text_before_quote false bytes) (closing_length false bytes))
    (λ e. either (byte == 36) _ _ (λ e. dollar_good (dollar_of (word_at bytes)) (name_length bytes))
    (λ e. either (byte == 63) _ _ (λ e. variable_good bytes)
    (λ e. sign_good (long_sign byte bytes) (short_sign byte bytes))))

lexeme_good : (bytes : List ℕ) → Good (lexeme_at bytes)
lexeme_good [] = tt
lexeme_good (byte ∷ bytes) =
    either (begins_name byte) _ _ (λ e. name_good byte bytes e)
    (λ e. either (is_ascii_digit byte) _ _
    (λ e. number_good (take (number_length (byte ∷ bytes)) (byte ∷ bytes)) (number_length (byte ∷ bytes))
    (digit_plain byte bytes e))
    (λ e. marked_good byte bytes))

-- the tokens that were cut off are lexemes of some text
abbrev pub AllGood : Result (List Token) SyntaxFault → Type 0
AllGood (Ok tokens) = list_all (λ token. is_lexeme token.lexeme) tokens ≡ true
AllGood (Err fault) = Unit {0}

before_good : (start : ℕ) (lexed : Result Lexed SyntaxKind) (tokens : Result (List Token) SyntaxFault) → Good lexed
    → AllGood tokens → AllGood (before (token_of start lexed) tokens)
before_good start (Err kind) tokens good all = tt
before_good start (Ok lexed) (Err fault) good all = tt
before_good start (Ok lexed) (Ok tokens) good all =
    both_true (is_lexeme lexed.lexeme) (list_all (λ token. is_lexeme token.lexeme) tokens) good all

all_good : (place : Place) (start skipped : ℕ) (bytes : List ℕ) → AllGood (tokens_from place start skipped bytes)
all_good place start skipped [] = refl
all_good place start (suc skipped) (byte ∷ bytes) = all_good place (start + 1) skipped bytes
all_good place start zero (byte ∷ bytes) =
    elim (is_gap place byte) as (λ b. AllGood (elim b as (λ b. Result (List Token) SyntaxFault) [
      | true ↦ tokens_from (place_after place byte) (start + 1) 0 bytes
      | false ↦ before (token_at start (byte ∷ bytes))
          (tokens_from Inside (start + 1) (rest_length start (token_at start (byte ∷ bytes))) bytes)
    ])) [
      | true ↦ all_good (place_after place byte) (start + 1) 0 bytes
      | false ↦ before_good start (lexeme_at (byte ∷ bytes))
          (tokens_from Inside (start + 1) (rest_length start (token_at start (byte ∷ bytes))) bytes)
          (lexeme_good (byte ∷ bytes))
          (all_good Inside (start + 1) (rest_length start (token_at start (byte ∷ bytes))) bytes)
    ]

-- each token of a text is a lexeme of some text
pub tokens_good : (text : List ℕ) (tokens : List Token) → tokens_of text ≡ Ok tokens
    → list_all (λ token. is_lexeme token.lexeme) tokens ≡ true
tokens_good text tokens e = subst AllGood e (all_good LineStart 0 0 text)
