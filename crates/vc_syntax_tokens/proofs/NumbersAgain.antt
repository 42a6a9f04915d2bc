-- A printed number is told apart from what follows it.
use Rattle.std.proofs.Common.{◌≡◌, ℕ, ◌+◌, ◌/◌, ◌%◌, ◌^◌, ◌<◌, ℤ, pos, Bool, true, false, not, List, [], ◌∷◌, ◌++◌}
use Rattle.std.proofs.Common.{length, take, drop, cond, refl, ap, sym, ◌∙◌, subst, arith, append_assoc, length-append}
use Rattle.std.specs.Prelude.{◌==◌, ◌&&◌, negsuc, unsigned_abs}
use Rattle.std.specs.List.{list_all}
use Rattle.std.specs.Char.{is_ascii_digit}
use Rattle.std.specs.Fmt.{decimal}
use Rattle.std.specs.Int.Signed.{lt_z, le_z}
use Rattle.std.proofs.lemmas.Bool.{ltb-true, le-ltb}
use Rattle.std.proofs.Math.Seq.{take-append_seam, drop-append_seam}
use Rattle.std.proofs.Math.Nat.{mod-lt}
use Rattle.vc_value.specs.Names.{begins_name}
use Rattle.vc_value.specs.Decimals.{read_number}
use Rattle.vc_value.specs.Numerals.{fraction_digits, fraction_text, magnitude_text, minus_text, number_text}
use Rattle.vc_value.specs.declared.decimal.Dec.{Dec}
use Rattle.vc_value.proofs.GrainLemmas.{both}
use Rattle.vc_value.proofs.NumeralLaws.{prefix_stops, whole_digits, small_whole, magnitude_begins, magnitude_again}
use Rattle.vc_value.proofs.NumeralLaws.{fraction_are_digits, fraction_nonempty}
use Rattle.vc_syntax_tokens.specs.declared.token.Lexeme.TheVariants.{Number}
use Rattle.vc_syntax_tokens.specs.Lexemes.{lexeme_at, lexed, number_at, number_length, number_lexed, digits_length}
use Rattle.vc_syntax_tokens.specs.Lexemes.{fraction_length, begins_with_name}
use Rattle.vc_syntax_tokens.specs.Written.{is_unsigned}
use Rattle.vc_syntax_tokens.proofs.LexemesAgain.{is_end, end_cases}

-- what begins a name is no digit
no_digit : (byte : ℕ) → begins_name byte ≡ true → is_ascii_digit byte ≡ false
no_digit byte h = grind arith

no_name : (byte : ℕ) → is_ascii_digit byte ≡ true → begins_name byte ≡ false
no_name byte h = grind arith

digits_end : (rest : List ℕ) → is_end rest ≡ true → digits_length rest ≡ 0
digits_end = end_cases (λ rest. digits_length rest ≡ 0) refl (λ bytes. refl) (λ bytes. refl) (λ bytes h. refl)

no_digits : (bytes : List ℕ) → begins_with_name bytes ≡ true → digits_length bytes ≡ 0
no_digits [] h = absurd (cc)
no_digits (byte ∷ bytes) h = rw (no_digit byte h) refl

fraction_ends : (rest : List ℕ) → is_end rest ≡ true → fraction_length rest ≡ 0
fraction_ends = end_cases (λ rest. fraction_length rest ≡ 0) refl (λ bytes. refl) (λ bytes. refl)
    (λ bytes h. ap (λ n. cond (not (n == 0)) (1 + n) 0) (no_digits bytes h))

-- the point and its digits
fraction_again : (units : ℕ) (rest : List ℕ) → units < 10 ^ 6 → is_end rest ≡ true
    → fraction_length (fraction_text units ++ rest) ≡ length (fraction_text units)
fraction_again units rest below ends =
    let digits = fraction_digits 6 units in
    let count : digits_length (digits ++ rest) ≡ length digits
    = prefix_stops is_ascii_digit digits rest (fraction_are_digits 6 units below) (digits_end rest ends) in
    elim (units == 0) as
    (λ b. (units == 0) ≡ b
    → fraction_length (cond b [] (46 ∷ fraction_digits 6 units) ++ rest)
    ≡ length (cond b [] (46 ∷ fraction_digits 6 units))) [
      | true ↦ λ e. fraction_ends rest ends
      | false ↦ λ e.
          let one : 1 + length digits ≡ length (46 ∷ digits) = omega arith in
          ap (λ n. cond (not (n == 0)) (1 + n) 0) count
          ∙ ap (λ b. cond b (1 + length digits) 0) (fraction_nonempty 5 units e)
          ∙ one
    ] refl

digits_before : (units : ℕ) (rest : List ℕ) → is_end rest ≡ true → digits_length (fraction_text units ++ rest) ≡ 0
digits_before units rest ends =
    elim (units == 0) as (λ b. digits_length (cond b [] (46 ∷ fraction_digits 6 units) ++ rest) ≡ 0) [
      | true ↦ digits_end rest ends
      | false ↦ refl
    ]

-- a number's bytes are as many as it is printed with
number_again : (n : ℕ) (rest : List ℕ) → n < 10 ^ 15 → is_end rest ≡ true
    → number_length (magnitude_text n ++ rest) ≡ length (magnitude_text n)
number_again n rest small ends =
    let whole = decimal (n / 1000000) in
    let fraction = fraction_text (n % 1000000) in
    let all : list_all is_ascii_digit whole ≡ true = whole_digits (n / 1000000) (omega (arith, small_whole n small)) in
    let count : digits_length (whole ++ (fraction ++ rest)) ≡ length whole
    = prefix_stops is_ascii_digit whole (fraction ++ rest) all (digits_before (n % 1000000) rest ends) in
    let sum : length whole + length fraction ≡ length (whole ++ fraction) = omega (arith, length-append {A = ℕ}) in
    ap number_length (append_assoc whole fraction rest)
    ∙ ap (λ k. k + fraction_length (drop k (whole ++ (fraction ++ rest)))) count
    ∙ ap (λ t. length whole + fraction_length t) (drop-append_seam whole (fraction ++ rest))
    ∙ ap (λ k. length whole + k) (fraction_again (n % 1000000) rest (mod-lt n (omega arith)) ends)
    ∙ sum

magnitude_lexes : (n : ℕ) (rest : List ℕ) → n < 10 ^ 15 → is_end rest ≡ true
    → lexeme_at (magnitude_text n ++ rest) ≡ lexed (Number record { millionths = pos n }) (length (magnitude_text n))
magnitude_lexes n rest small ends =
    let text = magnitude_text n in
    let first = magnitude_begins n small in
    let numbered : lexeme_at (text ++ rest) ≡ number_at (text ++ rest) =
    subst (λ t. lexeme_at (t ++ rest) ≡ number_at (t ++ rest)) (sym first.2)
    (rw (no_name first.0 first.3, first.3) refl) in
    numbered
    ∙ ap (λ k. number_lexed (read_number (take k (text ++ rest))) k) (number_again n rest small ends)
    ∙ ap (λ t. number_lexed (read_number t) (length text)) (take-append_seam text rest)
    ∙ ap (λ d. number_lexed d (length text)) (magnitude_again n small)

unsigned_lexes : (z : ℤ) (rest : List ℕ) → (le_z (pos 0) z && lt_z z (pos (10 ^ 15))) ≡ true → is_end rest ≡ true
    → lexeme_at ((minus_text z ++ magnitude_text (unsigned_abs z)) ++ rest)
    ≡ lexed (Number record { millionths = z }) (length (minus_text z ++ magnitude_text (unsigned_abs z)))
unsigned_lexes (pos n) rest good ends =
    let small : n < 10 ^ 15
    = ltb-true n (10 ^ 15) (both (le_z (pos 0) (pos n)) (lt_z (pos n) (pos (10 ^ 15))) good).1 in
    let Lexes : Bool → Type 0
    = λ b. lexeme_at ((cond b (45 ∷ []) [] ++ magnitude_text n) ++ rest)
    ≡ lexed (Number record { millionths = pos n }) (length (cond b (45 ∷ []) [] ++ magnitude_text n)) in
    subst Lexes (sym (le-ltb n 0 (omega arith))) (magnitude_lexes n rest small ends)
unsigned_lexes (negsuc n) rest good ends = absurd (cc)

-- a number is read again
pub number_lexes : (d : Dec) (rest : List ℕ) → is_unsigned d ≡ true → is_end rest ≡ true
    → lexeme_at (number_text d ++ rest) ≡ lexed (Number d) (length (number_text d))
number_lexes d rest good ends = unsigned_lexes d.millionths rest good ends

unsigned_begins : (z : ℤ) → (le_z (pos 0) z && lt_z z (pos (10 ^ 15))) ≡ true
    → (byte : ℕ) × (more : List ℕ) × (minus_text z ++ magnitude_text (unsigned_abs z) ≡ byte ∷ more)
    × (is_ascii_digit byte ≡ true)
unsigned_begins (pos n) good =
    let small : n < 10 ^ 15
    = ltb-true n (10 ^ 15) (both (le_z (pos 0) (pos n)) (lt_z (pos n) (pos (10 ^ 15))) good).1 in
    let first = magnitude_begins n small in
    (first.0, first.1, ap (λ b. cond b (45 ∷ []) [] ++ magnitude_text n) (le-ltb n 0 (omega arith)) ∙ first.2, first.3)
unsigned_begins (negsuc n) good = absurd (cc)

-- a number begins with a digit
pub number_begins : (d : Dec) → is_unsigned d ≡ true
    → (byte : ℕ) × (more : List ℕ) × (number_text d ≡ byte ∷ more) × (is_ascii_digit byte ≡ true)
number_begins d good = unsigned_begins d.millionths good
