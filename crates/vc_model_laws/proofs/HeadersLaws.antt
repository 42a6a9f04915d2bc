-- The headers of a model that keeps its numbers and lists leave nothing out.
use Rattle.std.proofs.Common.{◌≡◌, ℕ, zero, suc, Bool, true, ◌&&◌, ◌==◌, nat_lt, List, [], ◌∷◌, ◌++◌, length, map, Some}
use Rattle.std.proofs.Common.{if◌then◌else◌, refl, sym, ap, ◌∙◌, append_assoc, append-nil, arith}
use Rattle.std.specs.Prelude.{option_map, slice_get}
use Rattle.std.specs.List.{cons_option, list_all}
use Rattle.std.proofs.lemmas.Bool.{and_parts, and_from, eq-eqb, ltb-true, lt-ltb}
use Rattle.vc_value.specs.declared.grains.Grain.{Grain}
use Rattle.vc_value.specs.declared.table_header.Domain.TheVariants as domains
use Rattle.vc_value.specs.Grains.{has_decimals, is_ascending, is_below, is_ordered}
use Rattle.vc_model_parts.specs.Headers.{entries_of, grain_of, grain_above, grains_of, domain_of, texts_of, column_from}
use Rattle.vc_model_parts.specs.Headers.{columns_of}
use Rattle.vc_model_parts.specs.declared.parts.Characteristic.{Characteristic}
use Rattle.vc_model_parts.specs.declared.parts.NumberValue.{NumberValue}
use Rattle.vc_model_parts.specs.declared.parts.TableColumn.{TableColumn}
use Rattle.vc_model_parts.specs.declared.parts.TextValue.{TextValue}
use Rattle.vc_model_parts.specs.declared.parts.Values.{Values}
use Rattle.vc_model_parts.specs.declared.parts.Values.TheVariants.{Texts, Numbers}
use Rattle.vc_model_drafts.specs.Seen.{SeenModel}
use Rattle.vc_model_laws.specs.Headers.{whole_domain, text_numbers, KeepsHeaders}
use Rattle.vc_model_laws.specs.Indices.{are_texts_there, KeepsIndices}
use Rattle.vc_model_laws.specs.Lists.{are_proper, KeepsLists}
use Rattle.vc_model_laws.proofs.TextsLaws.{passes_at, weaker}

-- a number below the count is that of a thing
pub there : {X : Type 0} (xs : List X) (k : ℕ) → nat_lt k (length xs) ≡ true → (x : X) × (slice_get xs k ≡ Some x)
there [] k h = absurd (let no = ltb-true k 0 h in omega (arith, no))
there (x ∷ xs) zero h = (x, refl)
there (x ∷ xs) (suc k) h = there xs k (let is =
    ltb-true (suc k) (length (x ∷ xs)) h in lt-ltb k (length xs) (omega (arith, is)))

-- each column is in the header
all_columns : (texts : List (List ℕ)) (characteristics : List Characteristic) (columns : List TableColumn)
    → list_all (λ c. nat_lt c.characteristic (length characteristics)) columns ≡ true
    → length (columns_of texts characteristics columns) ≡ length columns
all_columns texts characteristics [] h = refl
all_columns texts characteristics (column ∷ columns) h =
    let parts = and_parts (nat_lt column.characteristic (length characteristics))
    (list_all (λ c. nat_lt c.characteristic (length characteristics)) columns) h in
    let found = there characteristics column.characteristic parts.0 in
    ap (λ o. length (cons_option (option_map (column_from texts column.key) o)
    (columns_of texts characteristics columns))) found.1
    ∙ ap suc (all_columns texts characteristics columns parts.1)

-- each text is among the entries
all_entries : (texts : List (List ℕ)) (values : List TextValue)
    → list_all (λ v. nat_lt v.text (length texts)) values ≡ true
    → map (λ e. e.number) (entries_of texts values) ≡ map (λ v. v.text) values
all_entries texts [] h = refl
all_entries texts (value ∷ values) h =
    let parts = and_parts (nat_lt value.text (length texts)) (list_all (λ v. nat_lt v.text (length texts)) values) h in
    let found = there texts value.text parts.0 in
    ap (λ o. map (λ e. e.number) (cons_option (option_map (λ text. record { text = text; number = value.text }) o)
    (entries_of texts values))) found.1
    ∙ ap (λ ks. value.text ∷ ks) (all_entries texts values parts.1)

-- each interval is among the grains, as they ascend
first_fits : (before : List Grain) (grain : Grain) (after : List Grain) → is_ascending (before ++ grain ∷ after) ≡ true
    → (is_ordered grain && list_all (is_below grain.low) before) ≡ true
first_fits [] grain after h =
    and_from (is_ordered grain) true (and_parts (is_ordered grain)
    (list_all (λ later. is_below later.low grain) after && is_ascending after) h).0 refl
first_fits (first ∷ before) grain after h =
    let parts = and_parts (is_ordered first)
    (list_all (λ later. is_below later.low first) (before ++ grain ∷ after) && is_ascending
    (before ++ grain ∷ after)) h in
    let rest = and_parts (list_all (λ later. is_below later.low first) (before ++ grain ∷ after))
    (is_ascending (before ++ grain ∷ after)) parts.1 in
    let fits = and_parts (is_ordered grain) (list_all (is_below grain.low) before)
    (first_fits before grain after rest.1) in
    and_from (is_ordered grain) (is_below grain.low first && list_all (is_below grain.low) before) fits.0
    (and_from (is_below grain.low first) (list_all (is_below grain.low) before)
    (at_seam (λ later. is_below later.low first) before grain after rest.0) fits.1)
  where
    at_seam : (p : Grain → Bool) (xs : List Grain) (x : Grain) (ys : List Grain) → list_all p (xs ++ x ∷ ys) ≡ true
        → p x ≡ true
    at_seam p [] x ys h = (and_parts (p x) (list_all p ys) h).0
    at_seam p (y ∷ xs) x ys h = at_seam p xs x ys (and_parts (p y) (list_all p (xs ++ x ∷ ys)) h).1

all_grains : (before : List Grain) (values : List NumberValue) → is_ascending (before ++ map grain_of values) ≡ true
    → grains_of before values ≡ before ++ map grain_of values
all_grains before [] h = sym (append-nil before)
all_grains before (value ∷ values) h =
    let fits = first_fits before (grain_of value) (map grain_of values) h in
    let put : grain_above before value ≡ grain_of value ∷ [] = ap (λ b. if b then grain_of value ∷ [] else []) fits in
    let joined = append_assoc before (grain_of value ∷ []) (map grain_of values) in
    ap (λ gs. grains_of (before ++ gs) values) put
    ∙ all_grains (before ++ grain_of value ∷ []) values (ap is_ascending joined ∙ h) ∙ joined

whole : (values : Values) → are_proper values ≡ true → domain_of values ≡ whole_domain values
whole (Texts length multiple values) h = refl
whole (Numbers decimals unit values) h =
    ap (domains.Nums decimals) (all_grains [] values
    (and_parts (is_ascending (map grain_of values))
    (list_all (λ g. has_decimals decimals g.low && has_decimals decimals g.high) (map grain_of values)) h).0)

numbered : (texts : List (List ℕ)) (values : Values) → are_texts_there (length texts) values ≡ true
    → map (λ e. e.number) (texts_of texts values) ≡ text_numbers values
numbered texts (Texts length multiple values) h = all_entries texts values h
numbered texts (Numbers decimals unit values) h = refl

pub keeps_headers : (model : SeenModel) → KeepsIndices model → KeepsLists model → KeepsHeaders model
keeps_headers model indices lists = record {
  columns = weaker (λ t. list_all (λ c. nat_lt c.characteristic (length model.characteristics)) t.columns)
      (λ t. length (columns_of model.texts model.characteristics t.columns) == length t.columns) model.tables
      (λ t h. eq-eqb (length (columns_of model.texts model.characteristics t.columns)) (length t.columns)
      (all_columns model.texts model.characteristics t.columns h))
      indices.columns;
  domains = λ k c e. whole c.values (passes_at (λ c. are_proper c.values) model.characteristics k c lists.values e);
  entries = λ k c e. numbered model.texts c.values
      (passes_at (λ c. are_texts_there (length model.texts) c.values) model.characteristics k c indices.texts e);
}
