-- Rows with one key, from each on to the next.
use Rattle.std.proofs.Common.{◌≡◌, ℕ, zero, suc, ◌+◌, ◌-◌, ◌<◌, ◌≤◌, Bool, true, false, cond, List, [], ◌∷◌, ◌++◌}
use Rattle.std.proofs.Common.{length}
use Rattle.std.proofs.Common.{drop, get_or, refl, sym, ◌∙◌, ap, subst, inl, inr, arith}
use Rattle.std.specs.Prelude.{Option, None, Some, flat_map, slice_get, slice_index_or, slice_set}
use Rattle.std.specs.List.{filter}
use Rattle.std.proofs.lemmas.Bool.{cases_eq}
use Rattle.std.proofs.lemmas.Grind.{flat_map-append}
use Rattle.std.proofs.lemmas.List.{drop-drop, drop_all, drop_more}
use Rattle.std.proofs.lemmas.List.Elements.{filter-append}
use Rattle.std.proofs.lemmas.Option.{get_or_from_slice_get, same_Some, slice_get-get_or, slice_get_within}
use Rattle.vc_value.specs.declared.table_header.Domain.{Domain}
use Rattle.vc_value.specs.declared.value.Value.{Value}
use Rattle.vc_plan.specs.declared.atoms.Atom.{Atom}
use Rattle.vc_plan.specs.declared.rules.Binding.{Binding}
use Rattle.vc_plan.specs.declared.plans.Plan.{Plan}
use Rattle.vc_plan.specs.Domains.{grains_in}
use Rattle.vc_plan.specs.Seen.{Seen}
use Rattle.vc_rule_yield.specs.declared.scratch.Note.{Note}
use Rattle.vc_rule_table.specs.Noting.{AreNotesOf, HasNote, IsNoteOf}
use Rattle.vc_rule_yield.specs.Yielding.{Yielded}
use Rattle.vc_rule_premises.specs.Citing.{cited_all}
use Rattle.vc_rule_premises.proofs.CitingLemmas.{cited_append}
use Rattle.vc_rule_table.proofs.FittingLemmas.{get_other, get_set, length_set}
use Rattle.vc_rule_table_grains.specs.Keys.{grain_key, row_key, same_key}
use Rattle.vc_rule_table_grains.specs.Marking.{AreAt, AreChains, AreHeads, AreNext, at_key, linked, next_with, put_at}
use Rattle.vc_rule_table_grains.proofs.KeyLemmas.{key_inside, keys_same}
use Rattle.vc_rule_table_grains.proofs.MarkLemmas.{length_put, put_elsewhere, put_here}

module _ (domain : Domain) (own : List Binding) (k : ℕ) where
  abbrev has_key : List Value → Bool
  has_key row = same_key (row_key domain own row) (Some k)

  next_low : (i : ℕ) (rows : List (List Value)) → i ≤ next_with domain own k i rows
  next_low i [] = omega arith
  next_low i (row ∷ rows) = by (has_key row) (next_low (i + 1) rows)
    where
      by : (b : Bool) → i + 1 ≤ next_with domain own k (i + 1) rows
          → i ≤ cond b i (next_with domain own k (i + 1) rows)
      by true low = omega arith
      by false low = omega (arith, low)

  -- the row that is next has the key
  next_has : (i : ℕ) (rows : List (List Value)) (r : ℕ) (row : List Value) → next_with domain own k i rows ≡ i + r
      → slice_get rows r ≡ Some row
      → has_key row ≡ true
  next_has i [] r row at there = absurd (cc)
  next_has i (first ∷ rows) r row at there =
      by (has_key first) refl at r refl (λ q. next_has (i + 1) rows q row)
    where
      by : (b : Bool) → has_key first ≡ b → cond b i (next_with domain own k (i + 1) rows) ≡ i + r
          → (q : ℕ) → r ≡ q
          → ((q : ℕ) → next_with domain own k (i + 1) rows ≡ (i + 1) + q → slice_get rows q ≡ Some row
          → has_key row ≡ true)
          → has_key row ≡ true
      by true e at zero same later =
          let here : first ≡ row = same_Some first row (ap (slice_get (first ∷ rows)) (sym same) ∙ there) in
          ap has_key (sym here) ∙ e
      by true e at (suc q) same later = absurd (omega (arith, at, same))
      by false e at zero same later = let low = next_low (i + 1) rows in absurd (omega (arith, low, at, same))
      by false e at (suc q) same later =
          let moved : i + r ≡ (i + 1) + q = omega (arith, same) in
          later q (at ∙ moved) (sym (ap (slice_get (first ∷ rows)) same) ∙ there)

  -- what stands before it doesn't have it
  skipped : (has : List Value → Bool) → ((row : List Value) → has row ≡ has_key row) → (i : ℕ)
      (rows : List (List Value)) (r : ℕ) → next_with domain own k i rows ≡ i + r
      → filter has (drop r rows) ≡ filter has rows
  skipped has same i [] zero at = refl
  skipped has same i [] (suc r) at = refl
  skipped has same i (first ∷ rows) r at =
      by (has_key first) refl at r refl (λ q. skipped has same (i + 1) rows q)
    where
      by : (b : Bool) → has_key first ≡ b → cond b i (next_with domain own k (i + 1) rows) ≡ i + r
          → (q : ℕ) → r ≡ q
          → ((q : ℕ) → next_with domain own k (i + 1) rows ≡ (i + 1) + q
          → filter has (drop q rows) ≡ filter has rows)
          → filter has (drop r (first ∷ rows)) ≡ filter has (first ∷ rows)
      by true e at zero none later = ap (λ m. filter has (drop m (first ∷ rows))) none
      by true e at (suc q) none later = absurd (omega (arith, at, none))
      by false e at zero none later = let low = next_low (i + 1) rows in absurd (omega (arith, low, at, none))
      by false e at (suc q) none later =
          let moved : i + r ≡ (i + 1) + q = omega (arith, none) in
          ap (λ m. filter has (drop m (first ∷ rows))) none
          ∙ (later q (at ∙ moved)
          ∙ sym (ap (λ b. cond b (first ∷ filter has rows) (filter has rows)) (same first ∙ e)))

module _ (domain : Domain) (own : List Binding) (rows : List (List Value)) where
  pub heads_begin : (heads : List ℕ) → AreAt domain (length (grains_in (Some domain))) (length rows) heads
      → AreHeads domain own rows (length rows) heads
  heads_begin heads are g k h key there =
      are g k h (key_inside domain g k key) key there
      ∙ sym (ap (next_with domain own k (length rows)) (drop_all (length rows) rows (omega arith)))

  pub next_begin : (count : ℕ) (next : List ℕ) → AreNext domain own rows (length rows) count next
  next_begin count next g k r n row key low past there has at =
      absurd (let inside = slice_get_within rows r row there in omega (arith, past, inside))

  -- one row more is chained
  pub heads_step : (p : ℕ) (heads later : List ℕ) → p < length rows → AreHeads domain own rows (p + 1) heads
      → later ≡ put_at (row_key domain own (get_or rows p [])) p heads
      → AreHeads domain own rows p later
  heads_step p heads later low are e g k h key there =
      by (same_key (row_key domain own row) (Some k)) refl
      ∙ sym (ap (next_with domain own k p) (drop_more rows p [] low))
    where
      row : List Value
      row = get_or rows p []

      put : slice_get (put_at (row_key domain own row) p heads) k ≡ Some h
      put = ap (λ hs. slice_get hs k) (sym e) ∙ there

      by : (b : Bool) → same_key (row_key domain own row) (Some k) ≡ b
          → h ≡ next_with domain own k p (row ∷ drop (p + 1) rows)
      by true s =
          put_here (row_key domain own row) k p h heads (keys_same (row_key domain own row) (Some k) s) put
          ∙ sym (ap (λ b. cond b p (next_with domain own k (p + 1) (drop (p + 1) rows))) s)
      by false s =
          are g k h key (sym (put_elsewhere (row_key domain own row) k p heads s) ∙ put)
          ∙ sym (ap (λ b. cond b p (next_with domain own k (p + 1) (drop (p + 1) rows))) s)

  pub next_step : (p : ℕ) (heads next later : List ℕ) → p < length rows → AreHeads domain own rows (p + 1) heads
      → AreNext domain own rows (p + 1) (length heads) next
      → later ≡ linked p (at_key (row_key domain own (get_or rows p [])) heads) next
      → AreNext domain own rows p (length heads) later
  next_step p heads next later low are chains e g k r n row key inside from there has at =
      elim (cases_eq r p) [
        | inl here ↦
            let first : slice_get rows p ≡ Some row = ap (slice_get rows) (sym here) ∙ there in
            let is : row_key domain own (get_or rows p []) ≡ Some k
            = ap (row_key domain own) (get_or_from_slice_get rows p row [] first) ∙ has in
            let head : at_key (row_key domain own (get_or rows p [])) heads ≡ Some (get_or heads k 0)
            = ap (λ o. at_key o heads) is ∙ slice_get-get_or heads k 0 inside in
            let set : slice_get (slice_set next p (get_or heads k 0)) p ≡ Some n
            = ap (λ o. slice_get (linked p o next) p) (sym head)
            ∙ (ap (λ ns. slice_get ns p) (sym e) ∙ (ap (slice_get later) (sym here) ∙ at)) in
            let long : length (slice_set next p (get_or heads k 0)) ≡ length next
            = length_set next p (get_or heads k 0) in
            let room : p < length next =
            let within = slice_get_within (slice_set next p (get_or heads k 0)) p n set in
            omega (arith, long, within) in
            same_Some n (get_or heads k 0) (sym set ∙ get_set next p (get_or heads k 0) room)
            ∙ (are g k (get_or heads k 0) key (slice_get-get_or heads k 0 inside)
            ∙ ap (λ m. next_with domain own k (m + 1) (drop (m + 1) rows)) (sym here))
        | inr other ↦
            chains g k r n row key inside (omega (arith, from, other)) there has
            (sym (elsewhere (at_key (row_key domain own (get_or rows p [])) heads) other)
            ∙ (ap (λ ns. slice_get ns r) (sym e) ∙ at))
      ]
    where
      elsewhere : (o : Option ℕ) → (r ≡ p → ⊥) → slice_get (linked p o next) r ≡ slice_get next r
      elsewhere None other = refl
      elsewhere (Some head) other = get_other next p r head other

  pub length_linked : (p : ℕ) (o : Option ℕ) (next : List ℕ) → length (linked p o next) ≡ length next
  length_linked p None next = refl
  length_linked p (Some head) next = length_set next p head

-- the rows from one on are chained
abbrev pub IsChained : Domain → List Binding → List (List Value) → ℕ → List ℕ → List ℕ → Type 0
IsChained domain own rows at heads next =
    (length rows ≤ length next) × (at ≤ length rows)
    × (AreHeads domain own rows at heads × AreNext domain own rows at (length heads) next)

module _ (domain : Domain) (own : List Binding) (rows : List (List Value)) where
  pub chained_begin : (heads next : List ℕ) → length rows ≤ length next
      → AreAt domain (length (grains_in (Some domain))) (length rows) heads
      → IsChained domain own rows (length rows) heads next
  chained_begin heads next room are = (
    room,
    omega arith,
    (heads_begin domain own rows heads are, next_begin domain own rows (length heads) next),
  )

  pub chained_step : (at : ℕ) (key : Option ℕ) (heads next heads_later next_later : List ℕ) → 0 < at
      → IsChained domain own rows at heads next
      → key ≡ row_key domain own (get_or rows (at - 1) [])
      → heads_later ≡ put_at key (at - 1) heads
      → next_later ≡ linked (at - 1) (at_key key heads) next
      → IsChained domain own rows (at - 1) heads_later next_later
  chained_step at key heads next heads_later next_later some is key_is heads_are next_are =
      let p : ℕ = at - 1 in
      let up : at ≡ p + 1 = omega (arith, some) in
      let inside : p < length rows = let low = is.1 in omega (arith, some, low) in
      let heads_before : AreHeads domain own rows (p + 1) heads
      = subst (λ m. AreHeads domain own rows m heads) up is.2.0 in
      let next_before : AreNext domain own rows (p + 1) (length heads) next
      = subst (λ m. AreNext domain own rows m (length heads) next) up is.2.1 in
      let long : length next_later ≡ length next
      = ap length next_are ∙ length_linked domain own rows p (at_key key heads) next in
      let count : length heads_later ≡ length heads = ap length heads_are ∙ length_put key p heads in (
        let room = is.0 in omega (arith, long, room),
        omega (arith, inside),
        (
          heads_step domain own rows p heads heads_later inside heads_before
              (heads_are ∙ ap (λ o. put_at o p heads) key_is),
          subst (λ m. AreNext domain own rows p m next_later) (sym count)
              (next_step domain own rows p heads next next_later inside heads_before next_before
              (next_are ∙ ap (λ o. linked p (at_key o heads) next) key_is)),
        ),
      )

  pub chained_end : (at : ℕ) (heads next : List ℕ) → at ≤ 0 → IsChained domain own rows at heads next
      → AreChains domain own rows heads next
  chained_end at heads next none is =
      let here : at ≡ 0 = omega (arith, none) in (
        is.0,
        (
          subst (λ m. AreHeads domain own rows m heads) here is.2.0,
          subst (λ m. AreNext domain own rows m (length heads) next) here is.2.1,
        ),
      )

-- the way along a chain: what is cited so far, with the rows from the place on, is all
pub record IsOnWay (domain : Domain) (own : List Binding) (k : ℕ) (has : List Value → Bool)
    (reasons : List Value → List Atom) (rows : List (List Value)) (begun out : Yielded) (at : ℕ) : Type 0 where
  pub from : ℕ
  pub is : at ≡ next_with domain own k from (drop from rows)
  pub cites : cited_all out (flat_map reasons (filter has (drop at rows)))
      ≡ cited_all begun (flat_map reasons (filter has rows))

module _ (domain : Domain) (own : List Binding) (k g : ℕ) (has : List Value → Bool)
    (same : (row : List Value) → has row ≡ same_key (row_key domain own row) (Some k))
    (reasons : List Value → List Atom) (rows : List (List Value)) (begun : Yielded)
    (key : grain_key domain g ≡ Some k) where
  pub way_begins : (heads : List ℕ) (h : ℕ) → AreHeads domain own rows 0 heads → slice_get heads k ≡ Some h
      → IsOnWay domain own k has reasons rows begun begun h
  way_begins heads h are there =
      let first : h ≡ next_with domain own k 0 rows = are g k h key there in
      record {
        from = 0;
        is = first;
        cites = ap (λ rs. cited_all begun (flat_map reasons rs))
            (skipped domain own k has same 0 rows h (sym first ∙ (omega arith)));
      }

  pub way_goes_on : (heads next : List ℕ) (out later : Yielded) (at n : ℕ) (row : List Value)
      → AreNext domain own rows 0 (length heads) next → k < length heads
      → IsOnWay domain own k has reasons rows begun out at
      → slice_get rows at ≡ Some row → slice_get next at ≡ Some n
      → later ≡ cited_all out (flat_map reasons (filter has (row ∷ [])))
      → (length rows - n < length rows - at) × IsOnWay domain own k has reasons rows begun later n
  way_goes_on heads next out later at n row chains inside way there at_next e =
      let low : way.from ≤ at
      = let from = next_low domain own k way.from (drop way.from rows) in let is = way.is in omega (arith, from, is) in
      let r : ℕ = at - way.from in
      let split : way.from + r ≡ at = omega (arith, low) in
      let found : slice_get (drop way.from rows) r ≡ Some row
      = get_drop way.from rows r ∙ (ap (slice_get rows) split ∙ there) in
      let has_it : same_key (row_key domain own row) (Some k) ≡ true
      = next_has domain own k way.from (drop way.from rows) r row (sym way.is ∙ sym split) found in
      let goes : n ≡ next_with domain own k (at + 1) (drop (at + 1) rows)
      = chains g k at n row key inside (omega arith) there
      (keys_same (row_key domain own row) (Some k) has_it) at_next in
      let on : at + 1 ≤ n
      = let from = next_low domain own k (at + 1) (drop (at + 1) rows) in omega (arith, from, goes) in
      let s : ℕ = n - (at + 1) in
      let further : (at + 1) + s ≡ n = omega (arith, on) in
      let rest : List (List Value) = drop (at + 1) rows in
      let skips : filter has (drop n rows) ≡ filter has rest
      = ap (λ m. filter has (drop m rows)) (sym further)
      ∙ (ap (filter has) (sym (drop-drop s (at + 1) rows))
      ∙ skipped domain own k has same (at + 1) rest s (sym goes ∙ sym further)) in
      let here : drop at rows ≡ row ∷ rest
      = drop_more rows at row (slice_get_within rows at row there)
      ∙ ap (λ x. x ∷ rest) (get_or_from_slice_get rows at row row there) in
      let both_parts : flat_map reasons (filter has (row ∷ rest))
      ≡ flat_map reasons (filter has (row ∷ [])) ++ flat_map reasons (filter has rest)
      = ap (flat_map reasons) (filter-append has (row ∷ []) rest)
      ∙ flat_map-append reasons (filter has (row ∷ [])) (filter has rest) in
      let within : at < length rows = slice_get_within rows at row there in (
        omega (arith, on, within),
        record {
          from = at + 1;
          is = goes;
          cites = ap (λ rs. cited_all later (flat_map reasons rs)) skips
              ∙ (ap (λ y. cited_all y (flat_map reasons (filter has rest))) e
              ∙ (cited_append out (flat_map reasons (filter has (row ∷ []))) (flat_map reasons (filter has rest))
              ∙ (ap (cited_all out) (sym both_parts)
              ∙ (ap (λ rs. cited_all out (flat_map reasons (filter has rs))) (sym here)
              ∙ way.cites))));
        },
      )
    where
      get_drop : (i : ℕ) (xs : List (List Value)) (r : ℕ) → slice_get (drop i xs) r ≡ slice_get xs (i + r)
      get_drop zero xs r = let same : r ≡ 0 + r = omega arith in ap (slice_get xs) same
      get_drop (suc i) [] r = refl
      get_drop (suc i) (x ∷ xs) r =
          let same : suc (i + r) ≡ suc i + r = omega arith in
          get_drop i xs r ∙ ap (slice_get (x ∷ xs)) same

  pub way_ends : (out : Yielded) (at : ℕ) → IsOnWay domain own k has reasons rows begun out at
      → slice_get rows at ≡ None
      → out ≡ cited_all begun (flat_map reasons (filter has rows))
  way_ends out at way past =
      sym (ap (λ rs. cited_all out (flat_map reasons (filter has rs))) (drop_all at rows (ends rows at past)))
      ∙ way.cites
    where
      ends : (xs : List (List Value)) (n : ℕ) → slice_get xs n ≡ None → length xs ≤ n
      ends [] n e = omega arith
      ends (x ∷ xs) zero e = absurd (cc)
      ends (x ∷ xs) (suc n) e = let later = ends xs n e in omega (arith, later)

-- the note of a row by its place
pub note_there : (plan : Plan) (seen : Seen) (columns : List Binding) (rows : List (List Value)) (notes : List Note)
    (r : ℕ) (row : List Value) → AreNotesOf plan seen columns columns rows notes → slice_get rows r ≡ Some row
    → HasNote plan seen columns row (slice_get notes r)
note_there plan seen columns [] notes r row are there = absurd (cc)
note_there plan seen columns (first ∷ rows) [] r row are there = tt
note_there plan seen columns (first ∷ rows) (note ∷ notes) zero row are there =
    subst (λ (x : List Value). IsNoteOf plan seen columns columns x note) (same_Some first row there) are.0
note_there plan seen columns (first ∷ rows) (note ∷ notes) (suc r) row are there =
    note_there plan seen columns rows notes r row are.1 there

-- what stands at an index inside a list
pub index_there : (xs : List ℕ) (k : ℕ) → k < length xs → slice_get xs k ≡ Some (slice_index_or xs k 0)
index_there [] k low = absurd (omega (arith, low))
index_there (x ∷ xs) zero low = refl
index_there (x ∷ xs) (suc k) low = index_there xs k (omega (arith, low))

pub row_there : (rows : List (List Value)) (k : ℕ) (row : List Value) → k < length rows
    → row ≡ slice_index_or rows k row
    → slice_get rows k ≡ Some row
row_there [] k row low is = absurd (omega (arith, low))
row_there (x ∷ rows) zero row low is = ap Some (sym is)
row_there (x ∷ rows) (suc k) row low is = row_there rows k row (omega (arith, low)) is
