-- What is cited once serves all variables at whose columns no row fails first.
use Rattle.std.proofs.Common.{◌≡◌, ℕ, zero, suc, ◌+◌, ◌≤◌, leb, Bool, true, false, cond, not, ◌&&◌, ◌||◌, List}
use Rattle.std.proofs.Common.{[], ◌∷◌, ◌++◌, length, take, refl, sym, ◌∙◌, ap, arith, length-append}
use Rattle.std.specs.Prelude.{Some}
use Rattle.std.specs.List.{find, list_any}
use Rattle.std.proofs.lemmas.Bool.{leb-true, or_parts}
use Rattle.std.proofs.lemmas.List.{take-append-le, take_all}
use Rattle.vc_base.specs.Sets.{has}
use Rattle.vc_value.specs.declared.value.Value.{Value}
use Rattle.vc_plan.specs.declared.atoms.Atom.{Atom}
use Rattle.vc_plan.specs.declared.atoms.Atom.TheVariants.{Here}
use Rattle.vc_plan.specs.declared.plans.Plan.{Plan}
use Rattle.vc_plan.specs.declared.rules.Binding.{Binding}
use Rattle.vc_plan.specs.Seen.{Seen, same_atom}
use Rattle.vc_plan.specs.TableRows.{is_column_of, is_possible, other_columns}
use Rattle.vc_rule_yield.specs.declared.scratch.Note.{Note}
use Rattle.vc_rule_yield.specs.Yielding.{Conclusion, Yielded, with_cites, cited, concluded, concluded_if, may_conclude}
use Rattle.vc_rule_premises.specs.Citing.{cited_all}
use Rattle.vc_rule_premises.specs.Saying.{conclusion_from, take_conclusions}
use Rattle.vc_rule_premises.proofs.SayingLaws.{all_cited_after, conclusion_taken, concluded_cites}
use Rattle.vc_rule_table.specs.Noting.{AreNotesOf}
use Rattle.vc_rule_table.specs.Reasons.{first_misfit, misfit_reasons, row_reasons, rows_reasons}
use Rattle.vc_rule_table_saying.specs.Sharing.{IsCiting, fails_first, is_given_in, kept, shares}

-- the first that passes is the same without a variable's columns, where it isn't one of these
found_but : (v : ℕ) (p : Binding → Bool) (xs : List Binding) → is_given_in v (find p xs) ≡ false
    → find p (other_columns v xs) ≡ find p xs
found_but v p [] e = refl
found_but v p (x ∷ xs) e = by (p x) refl (is_column_of v x) refl e (found_but v p xs)
  where
    by : (b : Bool) → p x ≡ b → (c : Bool) → is_column_of v x ≡ c
        → is_given_in v (cond b (Some x) (find p xs)) ≡ false
        → (is_given_in v (find p xs) ≡ false → find p (other_columns v xs) ≡ find p xs)
        → find p (cond (not c) (x ∷ other_columns v xs) (other_columns v xs)) ≡ cond b (Some x) (find p xs)
    by true passes true given e later = absurd (let never = sym given ∙ e in cc)
    by true passes false given e later = ap (λ b. cond b (Some x) (find p (other_columns v xs))) passes
    by false passes true given e later = later e
    by false passes false given e later = ap (λ b. cond b (Some x) (find p (other_columns v xs))) passes ∙ later e

-- where no row fails first at a column of the variable, what is cited for it is what is cited for all columns
pub same_reasons : (plan : Plan) (seen : Seen) (columns : List Binding) (v : ℕ) (rows : List (List Value))
    (notes : List Note) → AreNotesOf plan seen columns columns rows notes → length rows ≤ length notes
    → list_any (fails_first columns v) (take (length rows) notes) ≡ false
    → rows_reasons plan seen (other_columns v columns) rows ≡ rows_reasons plan seen columns rows
same_reasons plan seen columns v [] notes are enough none = refl
same_reasons plan seen columns v (row ∷ rows) [] are enough none = absurd (omega (arith, enough))
same_reasons plan seen columns v (row ∷ rows) (note ∷ notes) are enough none =
    let parts = or_parts (fails_first columns v note) (list_any (fails_first columns v) (take (length rows) notes)) none
    in
    let apart : is_given_in v (first_misfit plan seen columns row) ≡ false
    = sym (ap (is_given_in v) are.0.0) ∙ parts.0 in
    let first : row_reasons plan seen (other_columns v columns) row ≡ row_reasons plan seen columns row =
    ap (misfit_reasons plan seen row) (found_but v (λ column. not (is_possible plan seen row column)) columns apart) in
    ap (λ reasons. reasons ++ rows_reasons plan seen (other_columns v columns) rows) first
    ∙ ap (λ reasons. row_reasons plan seen columns row ++ reasons)
    (same_reasons plan seen columns v rows notes are.1 (omega (arith, enough)) parts.1)

-- conclusions leave what is cited
conclusions_cites : (y : Yielded) (cs : List Conclusion) → (take_conclusions y cs).cites ≡ y.cites
conclusions_cites y [] = refl
conclusions_cites y (c ∷ cs) = conclusions_cites (with_cites (concluded (cited_all y c.premises) c.atom) y.cites) cs

length_kept : (base : ℕ) (y : Yielded) → base ≤ length y.cites → length (kept base y).cites ≡ base
length_kept base y low = length_front base y.cites low
  where
    length_front : (n : ℕ) (xs : List Atom) → n ≤ length xs → length (take n xs) ≡ n
    length_front zero xs low = refl
    length_front (suc n) [] low = absurd (omega (arith, low))
    length_front (suc n) (x ∷ xs) low =
        let later = length_front n xs (omega (arith, low)) in let all : suc (length (take n xs)) ≡ suc n = cc in all

pub kept_whole : (base : ℕ) (y : Yielded) → length y.cites ≡ base → kept base y ≡ y
kept_whole base y e = ap (with_cites y) (take_all base y.cites (omega (arith, e)))

-- conclusions from what is cited for each alone
module _ (base : ℕ) (reasons : List Atom) (y m n : Yielded) (cs : List Conclusion) (low : base ≤ length y.cites)
    (keeps : m ≡ kept base y)
    (takes : n ≡ take_conclusions m cs) where
  count : length n.cites ≡ base
  count =
      ap (λ z. length z.cites) takes
      ∙ (ap length (conclusions_cites m cs) ∙ (ap (λ z. length z.cites) keeps ∙ length_kept base y low))

  pub alone_takes : kept base n ≡ take_conclusions (kept base y) cs
  alone_takes = kept_whole base n count ∙ (takes ∙ ap (λ z. take_conclusions z cs) keeps)

  pub alone_goes : IsCiting base reasons false n
  alone_goes = record { stands = omega (arith, count); cites = sym (kept_whole base n count) }

-- the same is cited beside other conclusions
abbrev beside : Yielded → Yielded → Yielded
beside w k = record { found = w.found; clash = w.clash; used = w.used; cites = k.cites; rooms = k.rooms }

cited_beside : (w k : Yielded) (a : Atom) → cited (beside w k) a ≡ beside w (cited k a)
cited_beside w k a =
    elim (same_atom (Here 0) a || has same_atom k.cites a) as
    (λ b. cond b (beside w k) (cond (leb (length k.cites + 1) k.rooms.cites)
    (with_cites (beside w k) (k.cites ++ a ∷ [])) (beside w k))
    ≡ beside w (cond b k (cond (leb (length k.cites + 1) k.rooms.cites) (with_cites k (k.cites ++ a ∷ [])) k))) [
      | true ↦ refl
      | false ↦ elim (leb (length k.cites + 1) k.rooms.cites) as
          (λ b. cond b (with_cites (beside w k) (k.cites ++ a ∷ [])) (beside w k)
          ≡ beside w (cond b (with_cites k (k.cites ++ a ∷ [])) k)) [ true ↦ refl | false ↦ refl ]
    ]

all_beside : (w k : Yielded) (premises : List Atom) → cited_all (beside w k) premises ≡ beside w (cited_all k premises)
all_beside w k [] = refl
all_beside w k (a ∷ premises) =
    ap (λ z. cited_all z premises) (cited_beside w k a) ∙ all_beside w (cited k a) premises

cited_rooms : (k : Yielded) (a : Atom) → (cited k a).rooms ≡ k.rooms
cited_rooms k a =
    elim (same_atom (Here 0) a || has same_atom k.cites a) as
    (λ b. (cond b k (cond (leb (length k.cites + 1) k.rooms.cites) (with_cites k (k.cites ++ a ∷ [])) k)).rooms
    ≡ k.rooms) [
      | true ↦ refl
      | false ↦ elim (leb (length k.cites + 1) k.rooms.cites) as
          (λ b. (cond b (with_cites k (k.cites ++ a ∷ [])) k).rooms ≡ k.rooms) [ true ↦ refl | false ↦ refl ]
    ]

all_rooms : (k : Yielded) (premises : List Atom) → (cited_all k premises).rooms ≡ k.rooms
all_rooms k [] = refl
all_rooms k (a ∷ premises) = all_rooms (cited k a) premises ∙ cited_rooms k a

concluded_rooms : (y : Yielded) (a : Atom) → (concluded y a).rooms ≡ y.rooms
concluded_rooms y a =
    elim (may_conclude y y.clash) as (λ b. (concluded_if b y a).rooms ≡ y.rooms) [ true ↦ refl | false ↦ refl ]

-- a conclusion from what is cited once
module _ (base : ℕ) (reasons : List Atom) (y z n : Yielded) (a : Atom) (low : base ≤ length y.cites)
    (cites : z ≡ cited_all (kept base y) reasons)
    (concludes : n ≡ concluded z a) where
  count_first : length (kept base y).cites ≡ base
  count_first = length_kept base y low

  pub shared_takes : (own : List Atom) → own ≡ reasons
      → kept base n ≡ take_conclusions (kept base y) (conclusion_from own a ∷ [])
  shared_takes own same =
      conclusion_taken (kept base y) z n (kept base n) own a
      (cites ∙ sym (ap (cited_all (kept base y)) same)) concludes
      (ap (λ (m : ℕ). with_cites n (take m n.cites)) (sym count_first))

  front : n.cites ≡ (cited_all (kept base y) reasons).cites
  front = ap (λ w. w.cites) concludes ∙ (concluded_cites z a ∙ ap (λ w. w.cites) cites)

  room : n.rooms ≡ (kept base y).rooms
  room =
      ap (λ w. w.rooms) concludes
      ∙ (concluded_rooms z a ∙ (ap (λ w. w.rooms) cites ∙ all_rooms (kept base y) reasons))

  stays : take base n.cites ≡ (kept base y).cites
  stays =
      let after = all_cited_after (kept base y) reasons in
      ap (take base) (front ∙ after.1)
      ∙ (take-append-le base (kept base y).cites after.0 (omega (arith, count_first))
      ∙ take_all base (kept base y).cites (omega (arith, count_first)))

  pub shared_goes : IsCiting base reasons true n
  shared_goes = record {
    stands = let after = all_cited_after (kept base y) reasons in
        let long : length n.cites ≡ length (kept base y).cites + length after.0 =
        ap length (front ∙ after.1) ∙ length-append (kept base y).cites after.0 in
        omega (arith, long, count_first);
    cites = again;
  }
    where
      fields : n ≡ beside n (cited_all (kept base y) reasons)
      fields =
          ap (with_cites n) front
          ∙ ap (λ rooms. record {
            found = n.found;
            clash = n.clash;
            used = n.used;
            cites = (cited_all (kept base y) reasons).cites;
            rooms = rooms;
          }) (room ∙ sym (all_rooms (kept base y) reasons))

      again : n ≡ cited_all (kept base n) reasons
      again =
          fields
          ∙ (sym (all_beside n (kept base y) reasons)
          ∙ (ap (λ rooms. cited_all (record {
            found = n.found;
            clash = n.clash;
            used = n.used;
            cites = (kept base y).cites;
            rooms = rooms;
          }) reasons) (sym room)
          ∙ ap (λ xs. cited_all (with_cites n xs) reasons) (sym stays)))

-- the same by the test
pub reasons_shared : (plan : Plan) (seen : Seen) (columns : List Binding) (v : ℕ) (rows : List (List Value))
    (notes : List Note) → AreNotesOf plan seen columns columns rows notes
    → shares columns v (length rows) notes ≡ true
    → rows_reasons plan seen (other_columns v columns) rows ≡ rows_reasons plan seen columns rows
reasons_shared plan seen columns v rows notes are e =
    by (leb (length rows) (length notes)) refl (list_any (fails_first columns v) (take (length rows) notes)) refl e
  where
    by : (b : Bool) → leb (length rows) (length notes) ≡ b
        → (c : Bool) → list_any (fails_first columns v) (take (length rows) notes) ≡ c
        → (b && not c) ≡ true
        → rows_reasons plan seen (other_columns v columns) rows ≡ rows_reasons plan seen columns rows
    by true enough false none e =
        same_reasons plan seen columns v rows notes are (leb-true (length rows) (length notes) enough) none
    by true enough true none e = absurd (cc)
    by false enough c none e = absurd (cc)
