-- The numbers of texts, in lists of entries that grow.
use Rattle.std.proofs.Common.{◌≡◌, ℕ, suc, ◌+◌, ◌<◌, Bool, true, false, List, [], ◌∷◌, ◌++◌, length, get_or, take, refl}
use Rattle.std.proofs.Common.{sym, ap, ◌∙◌, arith, Option, Some, None, is_some, if◌then◌else◌, nat_eq}
use Rattle.std.proofs.Math.Seq.{take-suc}
use Rattle.std.proofs.lemmas.List.{map-append}
use Rattle.std.specs.Option.{option_or}
use Rattle.std.specs.Cmp.Lexicographic.{pointwise}
use Rattle.std.specs.Map.{lookup}
use Rattle.std.proofs.lemmas.Cmp.{nat_list_eq_equiv}
use Rattle.std.proofs.lemmas.Slice.Eq.{bytes_eq-Decides}
use Rattle.vc_value.specs.Words.{same_bytes}
use Rattle.vc_value.specs.declared.table_header.Entry.{Entry}
use Rattle.vc_table.specs.Tables.{text_number, entries_of}

-- looking up a text among pairs finds the number of the first entry
pub lookup_number : {K : Type 0} (text : K → List ℕ) (sought : List ℕ) (pairs : List (K × ℕ))
    → lookup (λ key. pointwise nat_eq sought (text key)) pairs ≡ text_number (entries_of text pairs) sought
lookup_number text sought [] = refl
lookup_number text sought (pair ∷ pairs) =
    ap (λ b. if b then Some pair.1 else lookup (λ key. pointwise nat_eq sought (text key)) pairs)
    (nat_list_eq_equiv.symm sought (text pair.0))
    ∙ ap (λ more. if same_bytes (text pair.0) sought then Some pair.1 else more) (lookup_number text sought pairs)

-- a text of two lists has its number in the first, or else in the second
number_join : (first second : List Entry) (text : List ℕ)
    → text_number (first ++ second) text ≡ option_or (text_number first text) (text_number second text)
number_join [] second text = refl
number_join (entry ∷ entries) second text = by (same_bytes entry.text text) (number_join entries second text)
  where
    by : (b : Bool) → text_number (entries ++ second) text
        ≡ option_or (text_number entries text) (text_number second text)
        → (if b then Some entry.number else text_number (entries ++ second) text)
        ≡ option_or (if b then Some entry.number else text_number entries text) (text_number second text)
    by true more = refl
    by false more = more

-- lists that agree on each text agree with one more entry
agree_more : (first second : List Entry) (entry : Entry)
    → ((text : List ℕ) → text_number first text ≡ text_number second text)
    → (text : List ℕ) → text_number (first ++ entry ∷ []) text ≡ text_number (second ++ entry ∷ []) text
agree_more first second entry agree text =
    number_join first (entry ∷ []) text ∙ ap (λ number. option_or number (text_number (entry ∷ []) text)) (agree text)
    ∙ sym (number_join second (entry ∷ []) text)

or_none : (number : Option ℕ) → option_or number None ≡ number
or_none None = refl
or_none (Some n) = refl

or_some : (number other : Option ℕ) → is_some number ≡ true → option_or number other ≡ number
or_some None other some = absurd (cc some)
or_some (Some n) other some = refl

-- an entry whose text is there changes no text's number
pub text_again : (entries : List Entry) (entry : Entry) → is_some (text_number entries entry.text) ≡ true
    → (text : List ℕ) → text_number entries text ≡ text_number (entries ++ entry ∷ []) text
text_again entries entry there text = sym (number_join entries (entry ∷ []) text ∙ by (same_bytes entry.text text) refl)
  where
    by : (b : Bool) → same_bytes entry.text text ≡ b
        → option_or (text_number entries text) (text_number (entry ∷ []) text) ≡ text_number entries text
    by true same = or_some (text_number entries text) (text_number (entry ∷ []) text)
        (sym (ap (λ t. is_some (text_number entries t)) ((bytes_eq-Decides entry.text text).0 same)) ∙ there)
    by false other = ap (λ b. option_or (text_number entries text) (if b then Some entry.number else None)) other
        ∙ or_none (text_number entries text)

-- one more pair is one more entry
pub entries_more : {K : Type 0} (text : K → List ℕ) (pairs : List (K × ℕ)) (key : K) (entry : Entry)
    → text key ≡ entry.text → entries_of text (pairs ++ (key, entry.number) ∷ []) ≡ entries_of text pairs ++ entry ∷ []
entries_more text pairs key entry same =
    map-append (λ pair. record { text = text pair.0; number = pair.1 }) pairs ((key, entry.number) ∷ [])
    ∙ ap (λ t. entries_of text pairs ++ (record { text = t; number = entry.number }) ∷ []) same

-- lists that agree so far agree with the next entry
pub agree_next : (found entries : List Entry) (i : ℕ) (entry : Entry) → i < length entries
    → entry ≡ get_or entries i entry
    → ((text : List ℕ) → text_number found text ≡ text_number (take i entries) text)
    → (text : List ℕ) → text_number (found ++ entry ∷ []) text ≡ text_number (take (i + 1) entries) text
agree_next found entries i entry inside is agree text =
    agree_more found (take i entries) entry agree text
    ∙ ap (λ list. text_number list text) (sym (take_next entries i entry inside is))
  where
    take_next : (entries : List Entry) (i : ℕ) (entry : Entry) → i < length entries → entry ≡ get_or entries i entry
        → take (i + 1) entries ≡ take i entries ++ entry ∷ []
    take_next entries i entry inside is = let next : i + 1
        ≡ suc i = omega arith in ap (λ n. take n entries) next ∙ take-suc entries i entry inside
        ∙ ap (λ e. take i entries ++ e ∷ []) (sym is)

pub no_number : (number : Option ℕ) → is_some number ≡ false → number ≡ None
no_number None none = refl
no_number (Some n) none = absurd (cc none)
