-- The texts of a model that a text spells are texts of the plan, and as short as their characteristics ask.
use Rattle.std.proofs.Common.{◌≡◌, ℕ, zero, suc, ◌+◌, ◌<◌, ◌≤◌, Bool, true, false, cond, not, ◌&&◌, ◌||◌, nat_lt}
use Rattle.std.proofs.Common.{nat_le, List, [], ◌∷◌, ◌++◌, length, map, option_to_list, Option, Some, None}
use Rattle.std.proofs.Common.{if◌then◌else◌}
use Rattle.std.proofs.Common.{refl, sym, ap, subst, ◌∙◌, append-nil, arith}
use Rattle.std.specs.Prelude.{◌==◌, is_none, slice_get, unwrap_or}
use Rattle.std.specs.List.{filter, list_all}
use Rattle.std.specs.Char.{is_ascii_control}
use Rattle.std.specs.Str.{is_utf8}
use Rattle.std.proofs.lemmas.Bool.{and_parts, and_from, or_parts, or_from, not-true, not-false, not_from_false}
use Rattle.std.proofs.lemmas.Bool.{ltb-true, leb-true, lt-ltb, le-leb}
use Rattle.std.proofs.lemmas.Bool.Decides.{nat_tests}
use Rattle.std.proofs.lemmas.List.Folds.{list_all-append, list_all-map}
use Rattle.std.proofs.lemmas.List.Recursion.{is_count_by}
use Rattle.std.proofs.lemmas.Str.{IsUtf8-from_is_utf8}
use Rattle.vc_model_lines.specs.declared.line.Line.{Line}
use Rattle.vc_model_lines.specs.declared.line.Line.TheVariants as lines
use Rattle.vc_model_lines.specs.declared.line.CharLine.{CharLine}
use Rattle.vc_model_lines.specs.Counts.{is_between}
use Rattle.vc_model_lines.specs.WordSpellings as words
use Rattle.vc_model_lines.specs.WordSpellings.{character_count, fits_length, is_value_text, begins_control}
use Rattle.vc_model_scope.specs.Contents.{text_of}
use Rattle.vc_model_scope.specs.Names.{is_among, with_name}
use Rattle.vc_model_scope.specs.Recursions.{declared, listed, with_option}
use Rattle.vc_model_scope.specs.Scope.{scope_of}
use Rattle.vc_model_scope.specs.Stands.{opens}
use Rattle.vc_model_scope.specs.declared.scope.Scope.{Scope}
use Rattle.vc_model_scope.specs.declared.stands.Under.{Under}
use Rattle.vc_model_scope.specs.declared.stands.Under.TheVariants as unders
use Rattle.vc_model_faults.specs.First.{backwards}
use Rattle.vc_model_faults.specs.Misplaced.{is_misplaced, takes_texts}
use Rattle.vc_model_faults.specs.Values.{is_bad, text_fits}
use Rattle.vc_model_parts.specs.declared.parts.TextValue.{TextValue}
use Rattle.vc_model_drafts.specs.Models.{until, number_of, text_at, characteristic_at, model_of}
use Rattle.vc_plan.specs.Spelling as plan
use Rattle.vc_plan.specs.Spelling.{is_text, is_upper}
use Rattle.vc_model_laws.specs.Texts.{are_short, is_short, KeepsTexts}
use Rattle.vc_model_laws.proofs.IndicesLaws.{scope_texts}
use Rattle.vc_model_laws.proofs.LineCases.{char_made, at_characteristic}
use Rattle.vc_model_laws.proofs.Holding.{each}
use Rattle.vc_model_laws.proofs.LineForms.{is_formed}
use Rattle.vc_model_laws.proofs.ListingLaws.{text_add}
use Rattle.vc_model_laws.proofs.DifferentLaws.{said_passes, text_there}
use Rattle.vc_model_laws.proofs.OrderLaws.{Stood, under_stays}
use Rattle.vc_model_laws.proofs.MadeLaws.{texts_made}
use Rattle.vc_model_laws.proofs.NameCases.{by_text}
use Rattle.vc_model_laws.proofs.NameLemmas.{has_number}
use Rattle.vc_model_laws.proofs.NamesLaws.{made}
use Rattle.vc_model_laws.proofs.Walks.{Passes, Sound, Stands, said, all_keep, until_keeps, until_maps}

-- a text's characters, for the lines of a model and for a plan
byte_begins : (b : ℕ) → plan.begins_character b ≡ words.begins_character b
byte_begins b = grind (arith, nat_tests)

pub counted : (text : List ℕ) → length (filter plan.begins_character text) ≡ character_count text
counted text = is_count_by (λ bytes. length (filter plan.begins_character bytes)) words.begins_character refl step text
  where
    step : (b : ℕ) (bytes : List ℕ) → length (filter plan.begins_character (b ∷ bytes))
        ≡ cond (words.begins_character b) (1 + length (filter plan.begins_character bytes))
        (length (filter plan.begins_character bytes))
    step b bytes = subst (λ (t : Bool). length (filter plan.begins_character (b ∷ bytes)) ≡ cond t
        (1 + length (filter plan.begins_character bytes)) (length (filter plan.begins_character bytes)))
        (byte_begins b) (by (plan.begins_character b))
      where
        by : (t : Bool) → length (cond t (b ∷ filter plan.begins_character bytes) (filter plan.begins_character bytes))
            ≡ cond t (1 + length (filter plan.begins_character bytes)) (length (filter plan.begins_character bytes))
        by true = omega arith
        by false = refl

pub some_byte : (text : List ℕ) → 0 < length (filter plan.begins_character text) → 0 < length text
some_byte [] h = h
some_byte (b ∷ text) h = omega arith

text_is : (most : ℕ) (text : List ℕ) → is_value_text most text ≡ true → most ≤ 30 → is_text text ≡ true
text_is most text h m =
    let fits = and_parts (nat_lt 0 (character_count text)) (nat_le (character_count text) most)
    (and_parts (fits_length most (character_count text)) (not (words.has_control text)) h).0 in
    let some = ltb-true 0 (character_count text) fits.0 in
    let few = leb-true (character_count text) most fits.1 in
    and_from (nat_lt 0 (length text)) (nat_le (length (filter plan.begins_character text)) 30)
    (lt-ltb 0 (length text) (some_byte text (omega (arith, counted text, some))))
    (le-leb (length (filter plan.begins_character text)) 30 (omega (arith, counted text, few, m)))

-- and its control characters
control_byte : (b : ℕ) → is_ascii_control b ≡ false → (nat_lt b 32 || (b == 127)) ≡ false
control_byte b h = grind (arith, nat_tests)

no_control : (text : List ℕ) → words.has_control text ≡ false → plan.has_control text ≡ false
no_control [] h = refl
no_control (b ∷ []) h = control_byte b (or_parts (is_ascii_control b) _ (or_parts (begins_control b []) false h).0).0
no_control (b ∷ c ∷ text) h =
    let parts = or_parts (begins_control b (c ∷ text)) (words.has_control (c ∷ text)) h in
    let first = or_parts (is_ascii_control b) ((b == 194) && nat_lt c 160) parts.0 in
    or_from ((nat_lt b 32 || (b == 127)) || ((b == 194) && nat_lt c 160)) (plan.has_control (c ∷ text))
    (or_from (nat_lt b 32 || (b == 127)) ((b == 194) && nat_lt c 160) (control_byte b first.0) first.1)
    (no_control (c ∷ text) parts.1)

-- a text that a line lists, under a CHAR of some length
abbrev IsGood : List ℕ → Bool
IsGood text = is_text text && (not (plan.has_control text) && is_utf8 text)

abbrev IsLength : Option ℕ → Type 0
IsLength o = (each (is_between 1 30) o ≡ true) × (is_none o ≡ false)

good : (o : Option ℕ) (text : List ℕ) → IsLength o → text_fits (unders.Char o) text ≡ true → is_utf8 text ≡ true
    → IsGood text ≡ true
good None text l f u = absurd (let no = l.1 in cc)
good (Some most) text l f u =
    let few = leb-true most 30 (and_parts (nat_le 1 most) (nat_le most 30) l.0).1 in
    let control = not-true (words.has_control text)
    (and_parts (fits_length most (character_count text)) (not (words.has_control text)) f).1 in
    and_from (is_text text) (not (plan.has_control text) && is_utf8 text) (text_is most text f few)
    (and_from (not (plan.has_control text)) (is_utf8 text)
    (not_from_false (plan.has_control text) (no_control text control)) u)

-- what stands under a CHAR stands under one with a length
abbrev Lengths : List Line → Type 0
Lengths earlier = (o : Option ℕ) → Stood earlier ≡ unders.Char o → IsLength o

char_length : (scope : Scope) (x : CharLine) → is_formed (lines.Char x) ≡ true → is_bad scope (lines.Char x) ≡ false
    → IsLength x.length
unfolding is_bad
char_length scope x f h = ((and_parts (is_upper x.name) (each (is_between 1 30) x.length) f).1, h)

same_length : (o p : Option ℕ) → unders.Char o ≡ unders.Char p → IsLength o → IsLength p
same_length o p e h = subst IsLength (cc) h

length_kept : (earlier : List Line) (line : Line) (below : List Line) → Passes (scope_of earlier) line below
    → Lengths earlier → Lengths (line ∷ earlier)
length_kept earlier lines.Skipped below p h = h
length_kept earlier (lines.Inner x) below p h = h
length_kept earlier lines.LongInner below p h = h
length_kept earlier lines.End below p h = h
length_kept earlier (lines.TooLong x) below p h = λ o u. absurd (cc)
length_kept earlier (lines.NoForm x) below p h = λ o u. absurd (cc)
length_kept earlier (lines.Head x) below p h = λ o u. absurd (cc)
length_kept earlier (lines.Char x) below p h =
    λ o u. same_length x.length o u (char_length (scope_of earlier) x p.formed p.fit)
length_kept earlier (lines.Num x) below p h = λ o u. absurd (cc)
length_kept earlier (lines.Text x) below p h = h
length_kept earlier (lines.Interval x) below p h = h
length_kept earlier (lines.Uses x) below p h = h
length_kept earlier (lines.Class x) below p h = λ o u. absurd (cc)
length_kept earlier (lines.Has x) below p h = h
length_kept earlier (lines.Table x) below p h = λ o u. absurd (cc)
length_kept earlier (lines.Column x) below p h = h
length_kept earlier (lines.Net x) below p h = λ o u. absurd (cc)
length_kept earlier (lines.Object x) below p h = λ o u. absurd (cc)
length_kept earlier (lines.Bill x) below p h = h
length_kept earlier (lines.Operation x) below p h = h
length_kept earlier (lines.Block x) below p h = λ o u. absurd (cc)
length_kept earlier (lines.Root x) below p h = λ o u. absurd (cc)
length_kept earlier lines.Action below p h = λ o u. absurd (cc)

placed : (earlier : List Line) (x : List ℕ) (below : List Line)
    → is_misplaced (scope_of earlier) (lines.Text x) below ≡ false → takes_texts (Stood earlier) ≡ true
unfolding is_misplaced scope_of
placed earlier x below h = not-false (takes_texts (Stood earlier)) h

fits : (earlier : List Line) (x : List ℕ) → is_bad (scope_of earlier) (lines.Text x) ≡ false
    → text_fits (Stood earlier) x ≡ true
unfolding is_bad scope_of
fits earlier x h = not-false (text_fits (Stood earlier) x) h

text_good : (earlier : List Line) (x : List ℕ) (below : List Line) → Lengths earlier
    → Passes (scope_of earlier) (lines.Text x) below → IsGood x ≡ true
text_good earlier x below l p = by (Stood earlier) refl (placed earlier x below p.placed) (fits earlier x p.fit)
  where
    by : (u : Under) → Stood earlier ≡ u → takes_texts u ≡ true → text_fits u x ≡ true → IsGood x ≡ true
    by (unders.Char o) is t f = good o x (l o is) f p.formed
    by unders.Nothing is t f = absurd (cc)
    by (unders.Num o) is t f = absurd (cc)
    by unders.Class is t f = absurd (cc)
    by unders.Table is t f = absurd (cc)
    by unders.Object is t f = absurd (cc)

-- all texts are good
good_with : (names : List (List ℕ)) (name : List ℕ) → list_all IsGood names ≡ true → IsGood name ≡ true
    → list_all IsGood (with_name names name) ≡ true
good_with names name h g = by (is_among names name)
  where
    by : (b : Bool) → list_all IsGood (if b then names else names ++ name ∷ []) ≡ true
    by true = h
    by false = list_all-append IsGood names (name ∷ [])
        ∙ and_from (list_all IsGood names) (IsGood name && true) h (and_from (IsGood name) true g refl)

abbrev AllGood : List Line → Type 0
AllGood earlier = Lengths earlier × (list_all IsGood (declared text_of earlier) ≡ true)

good_kept : (earlier : List Line) (line : Line) (below : List Line) → Passes (scope_of earlier) line below
    → AllGood earlier → AllGood (line ∷ earlier)
good_kept earlier line below p h = (
  length_kept earlier line below p h.0,
  by_text (scope_of earlier) line below (λ o. list_all IsGood
      (with_option with_name (declared text_of earlier) o) ≡ true) h.1
      (λ x q. good_with (declared text_of earlier) x h.1 (text_good earlier x below h.0 q)) p,
)

no_char : (o : Option ℕ) → Stood [] ≡ unders.Char o → IsLength o
no_char o e = absurd (cc)

all_good : (ls : List Line) → Sound [] ls → list_all IsGood (declared text_of (backwards [] ls)) ≡ true
all_good ls s = (all_keep AllGood good_kept [] ls s (no_char, refl)).1

-- what passes all passes each part
pub weaker : {X : Type 0} (p q : X → Bool) (xs : List X) → ((x : X) → p x ≡ true → q x ≡ true) → list_all p xs ≡ true
    → list_all q xs ≡ true
weaker p q [] h a = refl
weaker p q (x ∷ xs) h a =
    let parts = and_parts (p x) (list_all p xs) a in and_from (q x) (list_all q xs) (h x parts.0)
    (weaker p q xs h parts.1)

pub passes_at : {X : Type 0} (p : X → Bool) (xs : List X) (k : ℕ) (x : X) → list_all p xs ≡ true
    → slice_get xs k ≡ Some x → p x ≡ true
passes_at p [] k x a e = absurd (cc)
passes_at p (y ∷ xs) zero x a e = let same : y ≡ x = cc in ap p (sym same) ∙ (and_parts (p y) (list_all p xs) a).0
passes_at p (y ∷ xs) (suc k) x a e = passes_at p xs k x (and_parts (p y) (list_all p xs) a).1 e

-- the texts of one characteristic
abbrev Short : ℕ → List Line → Type 0
Short most earlier = (Stood earlier ≡ unders.Char (Some most))
    × (list_all (is_value_text most) (listed with_name opens text_of earlier) ≡ true)

short_text : (most : ℕ) (earlier : List Line) (x : List ℕ) → Stood earlier ≡ unders.Char (Some most)
    → is_bad (scope_of earlier) (lines.Text x) ≡ false
    → is_value_text most x ≡ true
short_text most earlier x u h = sym (ap (λ w. text_fits w x) u) ∙ fits earlier x h

short_kept : (most : ℕ) (earlier : List Line) (line : Line) (below : List Line) → Passes (scope_of earlier) line below
    → opens line ≡ false
    → Short most earlier → Short most (line ∷ earlier)
short_kept most earlier line below p going h =
    let xs = listed with_name opens text_of earlier in
    let here = ap (λ b. if b then [] else with_option with_name xs (text_of line)) going
    ∙ text_add earlier line below p in (
      under_stays earlier line (unders.Char (Some most)) going h.0,
      subst (λ ts. list_all (is_value_text most) ts ≡ true) (sym here)
          (by_text (scope_of earlier) line below (λ o. list_all (is_value_text most) (xs ++ option_to_list o) ≡ true)
          (subst (λ ts. list_all (is_value_text most) ts ≡ true) (sym (append-nil xs)) h.1)
          (λ x q. list_all-append (is_value_text most) xs (x ∷ [])
          ∙ and_from (list_all (is_value_text most) xs) (is_value_text most x && true) h.1
          (and_from (is_value_text most x) true (short_text most earlier x h.0 q.fit) refl)) p),
    )

said_short : (most : ℕ) (earlier ls : List Line) → Sound earlier ls → Stood earlier ≡ unders.Char (Some most)
    → listed with_name opens text_of earlier ≡ []
    → list_all (is_value_text most) (said opens text_of ls) ≡ true
said_short most earlier ls s u e =
    let kept = until_keeps with_name opens text_of (Short most) (short_kept most)
    (λ earlier line below p going h. text_add earlier line below p) earlier ls s
    (u, subst (λ ts. list_all (is_value_text most) ts ≡ true) (sym e) refl) in
    subst (λ ts. list_all (is_value_text most) ts ≡ true) (kept.2 ∙ ap (λ ts. ts ++ said opens text_of ls) e) kept.1.1

-- a text is found by its number
numbers_short : (most : ℕ) (texts names : List (List ℕ)) → list_all (is_among texts) names ≡ true
    → list_all (is_value_text most) names ≡ true
    → list_all (λ k. is_short most (slice_get texts k)) (map (number_of texts) names) ≡ true
numbers_short most texts [] a h = refl
numbers_short most texts (name ∷ names) a h =
    let there = and_parts (is_among texts name) (list_all (is_among texts) names) a in
    let short = and_parts (is_value_text most name) (list_all (is_value_text most) names) h in
    let number = has_number texts name there.0 in
    let at : slice_get texts (number_of texts name) ≡ Some name = ap (λ o. slice_get texts (unwrap_or o 0)) number.is
    ∙ number.here in
    and_from (is_short most (slice_get texts (number_of texts name)))
    (list_all (λ k. is_short most (slice_get texts k)) (map (number_of texts) names))
    (ap (is_short most) at ∙ short.0) (numbers_short most texts names there.1 short.1)

texts_short : (all earlier : List Line) (n : ℕ) (x : CharLine) (below : List Line)
    → Stands all earlier (lines.Char x) below
    → are_short (scope_of all).declared.texts (char_made (scope_of all) n x below).values ≡ true
texts_short all earlier n x below s = by x.length refl (char_length (scope_of earlier) x s.passes.formed s.passes.fit).1
  where
    a : Scope
    a = scope_of all

    values : List TextValue
    values = until opens (text_at a) (n + 1) below

    by : (o : Option ℕ) → x.length ≡ o → is_none o ≡ false
        → list_all (λ v. is_short (unwrap_or x.length 0) (slice_get a.declared.texts v.text)) values ≡ true
    by None is none = absurd (cc)
    by (Some most) is none =
        let test : ℕ → Bool = λ k. is_short most (slice_get a.declared.texts k) in
        let maps = until_maps opens (text_at a) (λ v. v.text) text_of (number_of a.declared.texts)
        (λ e n l b p. texts_made a n l b) (lines.Char x ∷ earlier) (n + 1) below s.after in
        let of : unwrap_or x.length 0 ≡ most = ap (λ o. unwrap_or o 0) is in
        ap (λ k. list_all (λ v. is_short k (slice_get a.declared.texts v.text)) values) of
        ∙ sym (list_all-map test (λ v. v.text) values) ∙ ap (list_all test) maps
        ∙ numbers_short most a.declared.texts (said opens text_of below)
        (said_passes opens text_of (is_among a.declared.texts) all (text_there all) (lines.Char x ∷ earlier) below
        s.after s.all_are)
        (said_short most (lines.Char x ∷ earlier) below s.after (ap unders.Char is) refl)

pub keeps_texts : (ls : List Line) → Sound [] ls → KeepsTexts (model_of ls)
keeps_texts ls s =
    let all = backwards [] ls in
    let a = scope_of all in
    let all_are : list_all IsGood a.declared.texts ≡ true = ap (list_all IsGood) (scope_texts all) ∙ all_good ls s in
    let first : (t : List ℕ) → IsGood t ≡ true → is_text t ≡ true =
    λ t g. (and_parts (is_text t) (not (plan.has_control t) && is_utf8 t) g).0 in
    let rest : (t : List ℕ) → IsGood t ≡ true → (not (plan.has_control t) && is_utf8 t) ≡ true =
    λ t g. (and_parts (is_text t) (not (plan.has_control t) && is_utf8 t) g).1 in
    record {
      texts = weaker IsGood is_text a.declared.texts first all_are;
      graphic = weaker IsGood (λ t. not (plan.has_control t)) a.declared.texts
          (λ t g. (and_parts (not (plan.has_control t)) (is_utf8 t) (rest t g)).0) all_are;
      utf8 = λ k t e. IsUtf8-from_is_utf8 t (and_parts (not (plan.has_control t)) (is_utf8 t)
          (rest t (passes_at IsGood a.declared.texts k t all_are e))).1;
      lengths = made (characteristic_at a) (λ c. are_short a.declared.texts c.values) ls s
          (λ e n l b p. at_characteristic all e a n l b (λ c. are_short a.declared.texts c.values)
          (λ x q. texts_short all e n x b q) (λ x q. refl) p);
    }
