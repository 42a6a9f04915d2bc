-- The rows that have a grain are those with its key.
use Rattle.std.proofs.Common.{◌≡◌, ℕ, zero, suc, ◌<◌, ◌≤◌, Bool, true, false, ◌&&◌, ◌||◌, List, [], ◌∷◌, length, map}
use Rattle.std.proofs.Common.{get_or, refl, sym, ◌∙◌, ap, subst, inl, inr, arith}
use Rattle.std.specs.Prelude.{Option, None, Some, cond, if◌then◌else◌, nat_lt, option_map, pos, position, slice_get}
use Rattle.std.specs.Prelude.{◌==◌}
use Rattle.std.specs.List.{list_all}
use Rattle.std.proofs.lemmas.Bool.{eqb-true, ltb-true, ltb-false}
use Rattle.std.proofs.lemmas.List.{length-map}
use Rattle.std.proofs.lemmas.List.Quantifiers.{position-Some}
use Rattle.std.proofs.lemmas.Option.{slice_get-get_or, slice_get-map, slice_get_past, slice_get_within}
use Rattle.vc_base.proofs.ListLaws.{number_itself}
use Rattle.vc_base.proofs.SetLaws.{both, told}
use Rattle.vc_value.specs.Grains.{holds, interval, is_ascending}
use Rattle.vc_value.specs.declared.decimal.Dec.{Dec}
use Rattle.vc_value.specs.declared.grains.Grain.{Grain}
use Rattle.vc_value.specs.declared.table_header.Domain.{Domain}
use Rattle.vc_value.specs.declared.table_header.Domain.TheVariants.{Texts, Nums}
use Rattle.vc_value.specs.declared.value.Value.{Value}
use Rattle.vc_value.specs.declared.value.Value.TheVariants.{Text, Num}
use Rattle.vc_plan.specs.declared.conditions.Piece.TheVariants.{OneText, Stretch}
use Rattle.vc_plan.specs.declared.plans.Plan.{Plan}
use Rattle.vc_plan.specs.declared.rules.Binding.{Binding}
use Rattle.vc_plan.specs.Domains.{domain_of, grains_in, is_grain_with, passes}
use Rattle.vc_plan.specs.Pieces.{lies_in}
use Rattle.vc_plan.specs.TableRows.{cell_passes, columns_of, has_grain, is_column_of}
use Rattle.vc_rule_table.specs.Fitting.{is_text}
use Rattle.vc_rule_table.specs.TableSaid.{has_column}
use Rattle.vc_rule_table.proofs.FittingLemmas.{fails_all, one_holds, text_holds}
use Rattle.vc_rule_table_grains.specs.Keys.{IsApart, cell_key, grain_key, row_key, same_key, value_key}

-- two keys that are the same
pub keys_same : (o p : Option ℕ) → same_key o p ≡ true → o ≡ p
keys_same None p e = absurd (cc)
keys_same (Some k) None e = absurd (cc)
keys_same (Some k) (Some j) e = ap Some (sym (eqb-true j k e))

pub key_itself : (k : ℕ) → same_key (Some k) (Some k) ≡ true
key_itself k = number_itself k

-- a number lies in no text, and a text in no stretch
no_text_has : (n : Dec) (texts : List ℕ) (g : ℕ) → passes (lies_in (Num n)) (slice_get (map OneText texts) g) ≡ false
no_text_has n [] g = refl
no_text_has n (text ∷ texts) zero = refl
no_text_has n (text ∷ texts) (suc g) = no_text_has n texts g

no_stretch_has : (t : ℕ) (grains : List Grain) (g : ℕ)
    → passes (lies_in (Text t)) (slice_get (map Stretch grains) g) ≡ false
no_stretch_has t [] g = refl
no_stretch_has t (grain ∷ grains) zero = refl
no_stretch_has t (grain ∷ grains) (suc g) = no_stretch_has t grains g

-- a number's grain, by halves or by its number
module _ (n : Dec) (grains : List Grain) (ascend : is_ascending grains ≡ true) (g : ℕ) where
  abbrev nothing : Grain
  nothing = interval (pos 0) (pos 0)

  abbrev held : Bool
  held = passes (lies_in (Num n)) (slice_get (map Stretch grains) g)

  held_is : g < length grains → held ≡ holds n (get_or grains g nothing)
  held_is low =
      ap (passes (lies_in (Num n)))
      (slice_get-map Stretch grains g ∙ ap (option_map Stretch) (slice_get-get_or grains g nothing low))

  held_past : length grains ≤ g → held ≡ false
  held_past past =
      ap (passes (lies_in (Num n)))
      (slice_get-map Stretch grains g ∙ ap (option_map Stretch) (slice_get_past grains g past))

  here : g < length grains → (k : ℕ) → position (holds n) grains ≡ Some k → (b : Bool)
      → holds n (get_or grains g nothing) ≡ b → b ≡ (g == k)
  here low k e true h =
      let at = position-Some (holds n) grains k nothing e in
      let same : g ≡ k = one_holds n grains g k nothing ascend low at.0 h at.1 in
      sym (ap (λ m. g == m) (sym same) ∙ number_itself g)
  here low k e false h =
      elim (told (g == k)) [
        | inl same ↦
            let at = position-Some (holds n) grains k nothing e in
            absurd (both at.1 (ap (λ m. holds n (get_or grains m nothing)) (sym (eqb-true g k same)) ∙ h))
        | inr other ↦ sym other
      ]

  number_tells : (b : Bool) → nat_lt g (length grains) ≡ b → (o : Option ℕ) → position (holds n) grains ≡ o
      → held ≡ same_key o (if b then Some g else None)
  number_tells false e None at = held_past (ltb-false g (length grains) e)
  number_tells false e (Some k) at = held_past (ltb-false g (length grains) e)
  number_tells true e None at =
      let low : g < length grains = ltb-true g (length grains) e in
      held_is low ∙ fails_all (holds n) grains (sym at) g (get_or grains g nothing)
      (slice_get-get_or grains g nothing low)
  number_tells true e (Some k) at =
      let low : g < length grains = ltb-true g (length grains) e in
      held_is low ∙ here low k at (holds n (get_or grains g nothing)) refl

value_tells : (domain : Domain) → IsApart domain → (a : Value) (g : ℕ)
    → passes (lies_in a) (slice_get (grains_in (Some domain)) g) ≡ same_key (value_key domain a) (grain_key domain g)
value_tells (Texts texts) apart (Text t) g = text_holds t texts g ∙ by (slice_get texts g)
  where
    by : (o : Option ℕ) → is_text t o ≡ same_key (Some t) o
    by None = refl
    by (Some s) = refl
value_tells (Texts texts) apart (Num n) g = no_text_has n texts g
value_tells (Nums decimals grains) apart (Text t) g = no_stretch_has t grains g
value_tells (Nums decimals grains) apart (Num n) g =
    number_tells n grains apart g (nat_lt g (length grains)) refl (position (holds n) grains) refl

-- the keys of all cells are that of the grain, or else the row has another or none
keys_agree : {A : Type 0} (keys : A → Option ℕ) (key : Option ℕ) (c : A) (own : List A)
    → list_all (λ d. same_key (keys d) key) (c ∷ own)
    ≡ same_key (if list_all (λ d. same_key (keys d) (keys c)) (c ∷ own) then keys c else None) key
keys_agree keys key c own = elim (told (same_key (keys c) key)) [
  | inl e ↦
      all_agree e (list_all (λ d. same_key (keys d) key) (c ∷ own))
      ∙ sym (ap (λ k. same_key (if list_all (λ d. same_key (keys d) k) (c ∷ own) then keys c else None) key)
      (keys_same (keys c) key e))
  | inr e ↦
      ap (λ b. b && list_all (λ d. same_key (keys d) key) own) e
      ∙ sym (none_agrees e (list_all (λ d. same_key (keys d) (keys c)) (c ∷ own)))
]
  where
    all_agree : same_key (keys c) key ≡ true → (b : Bool) → b ≡ same_key (if b then keys c else None) key
    all_agree e true = sym e
    all_agree e false = refl

    none_agrees : same_key (keys c) key ≡ false → (b : Bool) → same_key (if b then keys c else None) key ≡ false
    none_agrees e true = e
    none_agrees e false = refl

all_same : {A : Type 0} (p q : A → Bool) → ((x : A) → p x ≡ q x) → (xs : List A) → list_all p xs ≡ list_all q xs
all_same p q same [] = refl
all_same p q same (x ∷ xs) =
    ap (λ b. b && list_all p xs) (same x) ∙ ap (λ b. q x && b) (all_same p q same xs)

-- a variable that a column is given has a first column
first_own : (v : ℕ) (columns : List Binding) → has_column columns v ≡ true
    → (c : Binding) × (own : List Binding) × (columns_of v columns ≡ c ∷ own)
first_own v [] e = absurd (cc)
first_own v (column ∷ columns) e = by (is_column_of v column) e (first_own v columns)
  where
    by : (b : Bool) → (b || has_column columns v) ≡ true
        → (has_column columns v ≡ true → (c : Binding) × (own : List Binding) × (columns_of v columns ≡ c ∷ own))
        → (c : Binding) × (own : List Binding)
        × (cond b (column ∷ columns_of v columns) (columns_of v columns) ≡ c ∷ own)
    by true e later = (column, columns_of v columns, refl)
    by false e later = later e

module _ (plan : Plan) (v : ℕ) (domain : Domain) (apart : IsApart domain)
    (of : domain_of plan (slice_get plan.vars v) ≡ Some domain) (g : ℕ) where
  cell_tells : (cell : Option Value)
      → cell_passes (λ a. is_grain_with plan v (lies_in a) g) cell
      ≡ same_key (cell_key domain cell) (grain_key domain g)
  cell_tells None = refl
  cell_tells (Some a) =
      ap (λ o. passes (lies_in a) (slice_get (grains_in o) g)) of ∙ value_tells domain apart a g

  row_tells : (row : List Value) (c : Binding) (own : List Binding)
      → has_grain plan v (c ∷ own) g row ≡ same_key (row_key domain (c ∷ own) row) (grain_key domain g)
  row_tells row c own =
      all_same (λ column. cell_passes (λ a. is_grain_with plan v (lies_in a) g) (slice_get row column.column))
      (λ column. same_key (cell_key domain (slice_get row column.column)) (grain_key domain g))
      (λ column. cell_tells (slice_get row column.column)) (c ∷ own)
      ∙ keys_agree (λ (column : Binding). cell_key domain (slice_get row column.column)) (grain_key domain g) c own

  pub grain_tells : (columns : List Binding) → has_column columns v ≡ true → (row : List Value)
      → has_grain plan v (columns_of v columns) g row
      ≡ same_key (row_key domain (columns_of v columns) row) (grain_key domain g)
  grain_tells columns given row =
      let first = first_own v columns given in
      subst (λ (own : List Binding). has_grain plan v own g row
      ≡ same_key (row_key domain own row) (grain_key domain g)) (sym first.2) (row_tells row first.0 first.1)

-- the same, where its key is known
pub grain_has_key : (plan : Plan) (v : ℕ) (domain : Domain) → IsApart domain
    → domain_of plan (slice_get plan.vars v) ≡ Some domain
    → (g : ℕ) (columns : List Binding) → has_column columns v ≡ true → (k : ℕ) → grain_key domain g ≡ Some k
    → (row : List Value)
    → has_grain plan v (columns_of v columns) g row ≡ same_key (row_key domain (columns_of v columns) row) (Some k)
grain_has_key plan v domain apart of g columns given k key row =
    grain_tells plan v domain apart of g columns given row
    ∙ ap (same_key (row_key domain (columns_of v columns) row)) key

-- a grain that has a key is there
pub key_inside : (domain : Domain) (g k : ℕ) → grain_key domain g ≡ Some k → g < length (grains_in (Some domain))
key_inside (Texts texts) g k e =
    let long : length (map OneText texts) ≡ length texts = length-map texts OneText in
    let low = slice_get_within texts g k e in omega (arith, long, low)
key_inside (Nums decimals grains) g k e = by (nat_lt g (length grains)) refl e
  where
    by : (b : Bool) → nat_lt g (length grains) ≡ b → (if b then Some g else None) ≡ Some k
        → g < length (map Stretch grains)
    by true low e =
        let long : length (map Stretch grains) ≡ length grains = length-map grains Stretch in
        let inside = ltb-true g (length grains) low in omega (arith, long, inside)
    by false low e = absurd (cc)
