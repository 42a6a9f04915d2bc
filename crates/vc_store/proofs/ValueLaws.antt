-- In a valid plan what is saved of a value is read as that value.
use Rattle.std.proofs.Common.{◌≡◌, ℕ, zero, suc, ◌<◌, ◌≤◌, ◌^◌, Bool, true, false, cond, ◌||◌, List, [], ◌∷◌}
use Rattle.std.proofs.Common.{length, map, max, refl, sym, ap, ◌∙◌, subst, arith, inl, inr, pos, negsuc, ℤ}
use Rattle.std.specs.Prelude.{◌==◌, Option, None, Some, slice_get, nat_le, unsigned_abs}
use Rattle.std.specs.Int.Signed.{le_z}
use Rattle.std.specs.List.{list_all, list_any}
use Rattle.std.specs.Option.{option_map}
use Rattle.std.proofs.lemmas.Bool.{and_parts, eqb-true, leb-true, ltb-true, or_cases}
use Rattle.std.proofs.lemmas.Slice.Eq.{bytes_eq-Decides}
use Rattle.vc_value.specs.declared.decimal.Dec.{Dec}
use Rattle.vc_value.specs.declared.grains.Grain.{Grain}
use Rattle.vc_value.specs.declared.table_header.Domain.{Domain}
use Rattle.vc_value.specs.declared.table_header.Domain.TheVariants.{Texts, Nums}
use Rattle.vc_value.specs.declared.value.Value.{Value}
use Rattle.vc_value.specs.declared.value.Value.TheVariants.{Text, Num}
use Rattle.vc_value.specs.Grains as grains
use Rattle.vc_value.specs.Words.{same_bytes}
use Rattle.vc_value.proofs.NumeralLaws.{printed_read}
use Rattle.vc_plan.specs.declared.conditions.Piece.TheVariants.{OneText, Stretch}
use Rattle.vc_plan.specs.declared.plans.Named.{Named}
use Rattle.vc_plan.specs.declared.plans.Named.TheVariants.{Set, Var}
use Rattle.vc_plan.specs.declared.plans.Plan.{Plan}
use Rattle.vc_plan.specs.declared.plans.TextSet.{TextSet}
use Rattle.vc_plan.specs.declared.plans.Var.{Var as Variable}
use Rattle.vc_plan.specs.Domains.{domain_of, domain_of_set, grains_in, grains_of, decimals_of, texts_in, texts_of}
use Rattle.vc_plan.specs.Fitting.{has_at_most, may_have}
use Rattle.vc_plan.specs.Pieces.{lies_in, lies_in_some}
use Rattle.vc_plan.specs.Ranges.{domain_there, grain_there, is_of, is_stored}
use Rattle.vc_plan.specs.Valid.{IsValid}
use Rattle.vc_session.specs.Edits.{may_be_given}
use Rattle.vc_desk_names.specs.Meant.{is_word, number_for, text_among, value_named, value_of_domain}
use Rattle.vc_desk_names.proofs.NameLaws.{all_get, apart_index}
use Rattle.vc_store.specs.Saving.{plain_text, text_in}
use Rattle.vc_store.proofs.FoundLaws.{find_listed}

-- a text of the plan is found among listed ones by its bytes
text_there : (plan : Plan) (ts : List ℕ) (t : ℕ) → list_all (is_of plan.texts) ts ≡ true
    → list_any (λ d. d == t) ts ≡ true → (text : List ℕ) × (slice_get plan.texts t ≡ Some text)
text_there plan [] t all member = absurd (cc)
text_there plan (d ∷ ts) t all member =
    let parts = and_parts (is_of plan.texts d) (list_all (is_of plan.texts) ts) all in
    elim (or_cases (d == t) (list_any (λ d. d == t) ts) member) [
      | inl here ↦ at plan.texts t (subst (λ n. n < length plan.texts) (eqb-true d t here)
          (ltb-true d (length plan.texts) parts.0))
      | inr later ↦ text_there plan ts t parts.1 later
    ]
  where
    at : (xs : List (List ℕ)) (k : ℕ) → k < length xs → (text : List ℕ) × (slice_get xs k ≡ Some text)
    at [] k low = absurd (omega (arith, low))
    at (x ∷ xs) zero low = (x, refl)
    at (x ∷ xs) (suc k) low = at xs k (omega (arith, low))

same_itself : (a : List ℕ) → same_bytes a a ≡ true
same_itself a = (bytes_eq-Decides a a).1 refl

text_found : (plan : Plan) → IsValid plan → (ts : List ℕ) (t : ℕ) → list_all (is_of plan.texts) ts ≡ true
    → list_any (λ d. d == t) ts ≡ true → text_among plan ts (text_in (slice_get plan.texts t)) ≡ Some (Text t)
text_found plan valid ts t all member =
    let there = text_there plan ts t all member in
    let word = there.0 in
    let is : slice_get plan.texts t ≡ Some word = there.1 in
    ap (λ o. text_among plan ts (text_in o)) is
    ∙ ap (option_map Text) (find_listed (λ u. is_word word (slice_get plan.texts u)) ts t member
    (ap (is_word word) is ∙ same_itself word) (λ d h. only word is d (slice_get plan.texts d) refl h))
  where
    only : (word : List ℕ) → slice_get plan.texts t ≡ Some word → (d : ℕ) (o : Option (List ℕ))
        → slice_get plan.texts d ≡ o → is_word word o ≡ true → d ≡ t
    only word is d None e h = absurd (cc)
    only word is d (Some text) e h =
        let same : text ≡ word = (bytes_eq-Decides text word).0 h in
        apart_index same_bytes plan.texts d t text word valid.texts_once e is
        (ap (λ w. same_bytes w word) same ∙ same_itself word)
        (ap (same_bytes word) same ∙ same_itself word)

-- a number of a list is small enough to be read as it is printed
between : (low z high : ℤ) → le_z low z ≡ true → le_z z high ≡ true
    → unsigned_abs z ≤ max (unsigned_abs low) (unsigned_abs high)
between (pos l) (pos z) (pos h) a b = omega (arith, leb-true z h b)
between (pos l) (pos z) (negsuc h) a b = absurd (cc)
between (pos l) (negsuc z) high a b = absurd (cc)
between (negsuc l) (pos z) (pos h) a b = omega (arith, leb-true z h b)
between (negsuc l) (pos z) (negsuc h) a b = absurd (cc)
between (negsuc l) (negsuc z) high a b = omega (arith, leb-true z l a)

stored_small : (n : Dec) → is_stored n ≡ true → unsigned_abs n.millionths < 10 ^ 15
stored_small n h = ltb-true (unsigned_abs n.millionths) (10 ^ 15) h

number_small : (gs : List Grain) (n : Dec) → list_all grain_there gs ≡ true
    → list_any (lies_in (Num n)) (map Stretch gs) ≡ true → unsigned_abs n.millionths < 10 ^ 15
number_small [] n all e = absurd (cc)
number_small (g ∷ gs) n all e =
    let parts = and_parts (grain_there g) (list_all grain_there gs) all in
    let ends = and_parts (is_stored g.low) (is_stored g.high) parts.0 in
    elim (or_cases (grains.holds n g) (list_any (lies_in (Num n)) (map Stretch gs)) e) [
      | inl here ↦
          let held = and_parts (le_z g.low.millionths n.millionths) (le_z n.millionths g.high.millionths) here in
          omega (
            arith,
            between g.low.millionths n.millionths g.high.millionths held.0 held.1,
            stored_small g.low ends.0,
            stored_small g.high ends.1,
          )
      | inr later ↦ number_small gs n parts.1 later
    ]

text_listed : (ts : List ℕ) (t : ℕ) → list_any (lies_in (Text t)) (map OneText ts) ≡ true
    → list_any (λ d. d == t) ts ≡ true
text_listed [] t e = absurd (cc)
text_listed (s ∷ ts) t e = elim (or_cases (s == t) (list_any (lies_in (Text t)) (map OneText ts)) e) [
  | inl here ↦ ap (λ b. b || list_any (λ d. d == t) ts) here
  | inr later ↦ skip (s == t) (text_listed ts t later)
]
  where
    skip : (b : Bool) → list_any (λ d. d == t) ts ≡ true → (b || list_any (λ d. d == t) ts) ≡ true
    skip true h = refl
    skip false h = h

no_number : (ts : List ℕ) (n : Dec) → list_any (lies_in (Num n)) (map OneText ts) ≡ false
no_number [] n = refl
no_number (t ∷ ts) n = no_number ts n

no_text : (gs : List Grain) (t : ℕ) → list_any (lies_in (Text t)) (map Stretch gs) ≡ false
no_text [] t = refl
no_text (g ∷ gs) t = no_text gs t

-- of a variable
domain_value : (plan : Plan) → IsValid plan → (v : ℕ) (a : Value) (o : Option Domain)
    → domain_of plan (slice_get plan.vars v) ≡ o
    → ((d : Domain) → o ≡ Some d → domain_there plan d ≡ true) → may_have plan v a ≡ true
    → lies_in_some (grains_in o) a ≡ true → value_of_domain plan v o (plain_text plan a) ≡ Some a
domain_value plan valid v a None is there may lies = absurd (cc)
domain_value plan valid v (Text t) (Some (Texts ts)) is there may lies =
    text_found plan valid ts t (there (Texts ts) refl) (text_listed ts t lies)
domain_value plan valid v (Num n) (Some (Texts ts)) is there may lies =
    let wrong : false ≡ true = sym (no_number ts n) ∙ lies in absurd (cc)
domain_value plan valid v (Text t) (Some (Nums d gs)) is there may lies =
    let wrong : false ≡ true = sym (no_text gs t) ∙ lies in absurd (cc)
domain_value plan valid v (Num n) (Some (Nums d gs)) is there may lies =
    let small = number_small gs n (and_parts (nat_le d 6) (list_all grain_there gs) (there (Nums d gs) refl)).1 lies in
    ap (number_for plan v) (printed_read n small)
    ∙ ap (λ b. cond b (Some (Num n)) None) may

domain_get : (plan : Plan) → IsValid plan → (o : Option Variable) (d : Domain) → domain_of plan o ≡ Some d
    → domain_there plan d ≡ true
domain_get plan valid None d e = absurd (cc)
domain_get plan valid (Some x) d e = all_get (domain_there plan) plan.domains x.domain d valid.domains_there e

var_value_read : (plan : Plan) → IsValid plan → (v : ℕ) (a : Value) → may_have plan v a ≡ true
    → value_named plan (Var v) (plain_text plan a) ≡ Some a
var_value_read plan valid v a may =
    domain_value plan valid v a (domain_of plan (slice_get plan.vars v)) refl
    (domain_get plan valid (slice_get plan.vars v)) may
    (and_parts (lies_in_some (grains_of plan v) a) (has_at_most (decimals_of plan v) a) may).0

-- of a set
set_texts_there : (plan : Plan) → IsValid plan → (o : Option TextSet)
    → list_all (is_of plan.texts) (texts_in (domain_of_set plan o)) ≡ true
set_texts_there plan valid None = refl
set_texts_there plan valid (Some x) = by (slice_get plan.domains x.domain) refl
  where
    by : (o : Option Domain) → slice_get plan.domains x.domain ≡ o → list_all (is_of plan.texts) (texts_in o) ≡ true
    by None e = refl
    by (Some (Texts ts)) e = all_get (domain_there plan) plan.domains x.domain (Texts ts) valid.domains_there e
    by (Some (Nums d gs)) e = refl

pub value_read : (plan : Plan) → IsValid plan → (named : Named) (a : Value) → may_be_given plan named a ≡ true
    → value_named plan named (plain_text plan a) ≡ Some a
value_read plan valid (Var v) a may = var_value_read plan valid v a may
value_read plan valid (Set s) (Text t) may =
    text_found plan valid (texts_of plan s) t (set_texts_there plan valid (slice_get plan.sets s)) may
value_read plan valid (Set s) (Num n) may = absurd (cc)
