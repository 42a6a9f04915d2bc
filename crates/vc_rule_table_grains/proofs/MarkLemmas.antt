-- What stands at keys, and marks of the keys that possible rows have.
use Rattle.std.proofs.Common.{◌≡◌, ℕ, ◌+◌, ◌-◌, ◌<◌, ◌≤◌, Bool, true, false, cond, ◌||◌, List}
use Rattle.std.proofs.Common.{[], ◌∷◌, length, take, drop, get_or, refl, sym, ◌∙◌, ap, subst, inl, inr, arith}
use Rattle.std.specs.Prelude.{Option, None, Some, slice_get, slice_set}
use Rattle.std.specs.List.{filter, list_any}
use Rattle.std.proofs.lemmas.Bool.{cases_lt}
use Rattle.std.proofs.lemmas.List.{take_all}
use Rattle.std.proofs.lemmas.Option.{same_Some, slice_get-get_or, slice_get_within}
use Rattle.vc_base.proofs.SetLaws.{both, told}
use Rattle.vc_value.specs.declared.table_header.Domain.{Domain}
use Rattle.vc_value.specs.declared.value.Value.{Value}
use Rattle.vc_plan.specs.declared.plans.Plan.{Plan}
use Rattle.vc_plan.specs.declared.rules.Binding.{Binding}
use Rattle.vc_plan.specs.Domains.{grains_in}
use Rattle.vc_plan.specs.Seen.{Seen}
use Rattle.vc_plan.specs.TableRows.{columns_of, has_grain, is_possible_in, other_columns}
use Rattle.vc_rule_yield.specs.declared.scratch.Marks.{Marks}
use Rattle.vc_rule_table.proofs.FittingLemmas.{any_same, get_other, get_set, length_set}
use Rattle.vc_rule_table_grains.specs.Keys.{grain_key, row_key, same_key, some_has_key}
use Rattle.vc_rule_table_grains.specs.Marking.{AreAt, AreMarks, IsMarked, TellsMarks, at_key, had_in, marked_by, put_at}
use Rattle.vc_rule_table_grains.proofs.KeyLemmas.{grain_tells, key_inside, key_itself, keys_same}

pub length_put : {A : Type 0} (key : Option ℕ) (x : A) (xs : List A) → length (put_at key x xs) ≡ length xs
length_put None x xs = refl
length_put (Some k) x xs = length_set xs k x

-- what is put at a key stands there, and all else stays
pub put_here : {A : Type 0} (key : Option ℕ) (k : ℕ) (x y : A) (xs : List A) → key ≡ Some k
    → slice_get (put_at key x xs) k ≡ Some y
    → y ≡ x
put_here key k x y xs e there =
    let set : slice_get (slice_set xs k x) k ≡ Some y
    = ap (λ o. slice_get (put_at o x xs) k) (sym e) ∙ there in
    let long : length (slice_set xs k x) ≡ length xs = length_set xs k x in
    let low : k < length xs = let inside = slice_get_within (slice_set xs k x) k y set in omega (arith, long, inside) in
    same_Some y x (sym set ∙ get_set xs k x low)

pub put_elsewhere : {A : Type 0} (key : Option ℕ) (k : ℕ) (x : A) (xs : List A) → same_key key (Some k) ≡ false
    → slice_get (put_at key x xs) k ≡ slice_get xs k
put_elsewhere None k x xs e = refl
put_elsewhere (Some j) k x xs e =
    get_other xs j k x (λ same. both (ap (λ m. same_key (Some m) (Some k)) (sym same) ∙ key_itself k) e)

pub at_none : {A : Type 0} (domain : Domain) (x : A) (xs : List A) → AreAt domain 0 x xs
at_none domain x xs g k y low e there = absurd (omega (arith, low))

pub at_next : {A : Type 0} (domain : Domain) (n : ℕ) (x : A) (xs later : List A) → AreAt domain n x xs
    → later ≡ put_at (grain_key domain n) x xs
    → AreAt domain (n + 1) x later
at_next domain n x xs later are e g k y low key there =
    let put : slice_get (put_at (grain_key domain n) x xs) k ≡ Some y
    = ap (λ zs. slice_get zs k) (sym e) ∙ there in
    elim (told (same_key (grain_key domain n) (Some k))) [
      | inl same ↦ put_here (grain_key domain n) k x y xs (keys_same (grain_key domain n) (Some k) same) put
      | inr other ↦ elim (cases_lt g n) [
        | inl before ↦ are g k y before key (sym (put_elsewhere (grain_key domain n) k x xs other) ∙ put)
        | inr past ↦
            let here : g ≡ n = omega (arith, low, past) in
            let own : grain_key domain n ≡ Some k = ap (grain_key domain) (sym here) ∙ key in
            absurd (both (ap (λ o. same_key o (Some k)) own ∙ key_itself k) other)
      ]
    ]

pub at_less : {A : Type 0} (domain : Domain) (m n : ℕ) (x : A) (xs : List A) → m ≤ n → AreAt domain n x xs
    → AreAt domain m x xs
at_less domain m n x xs less are g k y low key there = are g k y (omega (arith, low, less)) key there

-- marks as the rows come
pub marks_begin : (domain : Domain) (own : List Binding) (possible : List Value → Bool) (rows : List (List Value))
    (had : List Bool) → AreAt domain (length (grains_in (Some domain))) false had
    → TellsMarks domain own possible rows rows had
marks_begin domain own possible rows had are g k b key there =
    ap (λ m. m || some_has_key domain own (filter possible rows) k)
    (are g k b (key_inside domain g k key) key there)

module _ (domain : Domain) (own : List Binding) (possible : List Value → Bool) (rows : List (List Value)) where
  marks_step : (row : List Value) (more : List (List Value)) (had : List Bool)
      → TellsMarks domain own possible (row ∷ more) rows had
      → TellsMarks domain own possible more rows (marked_by (possible row) (row_key domain own row) had)
  marks_step row more had tells g k b key there = by (possible row) (λ m at. tells g k m key at) there
    where
      rest : Bool
      rest = some_has_key domain own (filter possible more) k

      whole : Bool
      whole = some_has_key domain own (filter possible rows) k

      marked : (s : Bool) → same_key (row_key domain own row) (Some k) ≡ s
          → ((m : Bool) → slice_get had k ≡ Some m
          → (m || (same_key (row_key domain own row) (Some k) || rest)) ≡ whole)
          → slice_get (put_at (row_key domain own row) true had) k ≡ Some b
          → (b || rest) ≡ whole
      marked true e h at =
          let set : b ≡ true = put_here (row_key domain own row) k true b had
          (keys_same (row_key domain own row) (Some k) e) at in
          let inside : k < length had =
          let low = slice_get_within (put_at (row_key domain own row) true had) k b at in
          let long : length (put_at (row_key domain own row) true had) ≡ length had
          = length_put (row_key domain own row) true had in omega (arith, low, long) in
          let before = h (get_or had k false) (slice_get-get_or had k false inside) in
          ap (λ m. m || rest) set
          ∙ (sym (or_true (get_or had k false))
          ∙ (sym (ap (λ s. get_or had k false || (s || rest)) e) ∙ before))
        where
          or_true : (m : Bool) → (m || true) ≡ true
          or_true true = refl
          or_true false = refl
      marked false e h at =
          sym (ap (λ s. b || (s || rest)) e)
          ∙ h b (sym (put_elsewhere (row_key domain own row) k true had e) ∙ at)

      by : (c : Bool)
          → ((m : Bool) → slice_get had k ≡ Some m
          → (m || some_has_key domain own (cond c (row ∷ filter possible more) (filter possible more)) k) ≡ whole)
          → slice_get (marked_by c (row_key domain own row) had) k ≡ Some b
          → (b || rest) ≡ whole
      by false h at = h b at
      by true h at = marked (same_key (row_key domain own row) (Some k)) refl h at

  pub marks_next : (rest : List (List Value)) (row : List Value) (had later : List Bool) → 1 ≤ length rest
      → row ≡ get_or rest 0 row
      → TellsMarks domain own possible rest rows had
      → later ≡ marked_by (possible row) (row_key domain own row) had
      → TellsMarks domain own possible (take (length rest - 1) (drop 1 rest)) rows later
  marks_next [] row had later some is tells e = absurd (omega (arith, some))
  marks_next (first ∷ more) row had later some is tells e =
      let all : take (length (first ∷ more) - 1) more ≡ more =
      take_all (length (first ∷ more) - 1) more (omega arith) in
      subst (λ (rs : List (List Value)). TellsMarks domain own possible rs rows later) (sym all)
      (subst (λ (marks : List Bool). TellsMarks domain own possible more rows marks)
      (sym (e ∙ ap (λ (r : List Value). marked_by (possible r) (row_key domain own r) had) is))
      (marks_step first more had tells))

  pub marks_end : (rest : List (List Value)) (had : List Bool) → length rest < 1
      → TellsMarks domain own possible rest rows had
      → AreMarks domain own possible rows had
  marks_end [] had none tells = tells
  marks_end (row ∷ rest) had none tells = absurd (omega (arith, none))

  pub no_marks : AreMarks domain own possible rows []
  no_marks g k b key there = absurd (cc)

-- the key at which something stands
pub key_there : {A : Type 0} (key : Option ℕ) (xs : List A) (x : A) → at_key key xs ≡ Some x
    → (k : ℕ) × (key ≡ Some k) × (slice_get xs k ≡ Some x)
key_there None xs x e = absurd (cc)
key_there (Some k) xs x e = (k, refl, e)

-- a mark tells whether a possible row has the grain
pub mark_is : (plan : Plan) (seen : Seen) (columns : List Binding) (v : ℕ) (domain : Domain) (rows : List (List Value))
    (marks : Option Marks) (chained : Bool) (g : ℕ) (b : Bool)
    → IsMarked plan seen columns v domain rows marks chained
    → at_key (grain_key domain g) (had_in marks) ≡ Some b
    → b ≡ list_any (has_grain plan v (columns_of v columns) g)
    (filter (is_possible_in plan seen (other_columns v columns)) rows)
mark_is plan seen columns v domain rows marks chained g b is there =
    let own = columns_of v columns in
    let those : List (List Value) = filter (is_possible_in plan seen (other_columns v columns)) rows in
    let at = key_there (grain_key domain g) (had_in marks) b there in
    sym (or_false b)
    ∙ (is.tells g at.0 b at.1 at.2
    ∙ any_same (λ row. same_key (row_key domain own row) (Some at.0)) (has_grain plan v own g)
    (λ row. sym (grain_tells plan v domain is.apart is.of g columns is.given row
    ∙ ap (same_key (row_key domain own row)) at.1)) those)
  where
    or_false : (m : Bool) → (m || false) ≡ m
    or_false true = refl
    or_false false = refl
