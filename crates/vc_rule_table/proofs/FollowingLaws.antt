-- What is said follows from its premises alone: a row that is possible stays so at a part of what is seen, and one that
-- isn't
-- stays so where its reasons are said.
use Rattle.std.proofs.Common.{◌≡◌, ℕ, Bool, true, false, cond, not, ◌&&◌, ◌||◌, List, [], ◌∷◌, ◌++◌, map, refl, sym}
use Rattle.std.proofs.Common.{◌∙◌, ap, subst, inl, inr}
use Rattle.std.specs.Prelude.{flat_map, slice_get, nat_eq, Option, None, Some}
use Rattle.std.specs.List.{filter, find, list_any, list_all, AllByRecursion}
use Rattle.std.proofs.lemmas.Bool.{and_parts, and_from}
use Rattle.std.proofs.lemmas.List.Folds.{list_all-append}
use Rattle.vc_base.specs.Rounds.{atoms, is_clash, atoms_of}
use Rattle.vc_base.specs.Sets.{has}
use Rattle.vc_base.proofs.ListLaws.{number_exact, number_itself}
use Rattle.vc_base.proofs.SetLaws.{has_cases, has_first, has_more, has_front, has_back}
use Rattle.vc_value.specs.declared.value.Value.{Value}
use Rattle.vc_plan.specs.declared.atoms.Atom.{Atom}
use Rattle.vc_plan.specs.declared.atoms.Atom.TheVariants.{Out, Is}
use Rattle.vc_plan.specs.declared.plans.Plan.{Plan}
use Rattle.vc_plan.specs.declared.rules.Binding.{Binding}
use Rattle.vc_plan.specs.declared.rules.Operand.{Operand}
use Rattle.vc_plan.specs.declared.rules.Operand.TheVariants.{Constant, Variable}
use Rattle.vc_plan.specs.declared.rules.Rule.{Rule}
use Rattle.vc_plan.specs.Answers.{clash_if, gathered}
use Rattle.vc_plan.specs.Domains.{numbers_below, count_of, is_restrictable, is_grain_with}
use Rattle.vc_plan.specs.Pieces.{lies_in}
use Rattle.vc_plan.specs.Seen.{Seen, same_atom, says, is_left_by, is_left}
use Rattle.vc_plan.specs.TableRows.{rows_of, cell_passes, fits, has_left, is_possible, is_possible_in, columns_of}
use Rattle.vc_plan.specs.TableRows.{other_columns, has_grain, agreed, for_variable, narrowed, by_table}
use Rattle.vc_plan.proofs.PlanLaws.Atoms.{atom_exact, atom_itself}
use Rattle.vc_plan.proofs.PlanLaws.Lists.{any_grows, all_grows}
use Rattle.vc_plan_values.specs.Computing.{ValuesAreLeft}
use Rattle.vc_rule_yield.specs.Yielding.{Conclusion}
use Rattle.vc_rule_premises.specs.Saying.{concluding, clash_when}
use Rattle.vc_rule_premises.specs.Sufficing.{IsPartOf, SaysAll, Follows, EachFollows}
use Rattle.vc_rule_premises.proofs.SufficingLaws.{value_said, left_by}
use Rattle.vc_rule_table.specs.Cells.{is_missing}
use Rattle.vc_rule_table.specs.Laws.{TableFollows}
use Rattle.vc_rule_table.specs.Reasons.{cell_reasons, operand_reasons, misfit_reasons, row_reasons}
use Rattle.vc_rule_table.specs.Reasons.{rows_reasons}
use Rattle.vc_rule_table.specs.TableSaid.{grain_out, cell_agreed, concluded_for, concluded_newly}
use Rattle.vc_rule_table.proofs.SaidLaws.{given_for, gathered_atoms}

fits_before : (plan : Plan) (seen part : Seen) → IsPartOf part seen → ValuesAreLeft plan seen
    → (operand : Operand) (a : Value)
    → fits plan seen operand a ≡ true → fits plan part operand a ≡ true
fits_before plan seen part w kept (Constant b) a h = h
fits_before plan seen part w kept (Variable v) a h =
    any_grows (λ g. is_left plan seen v g && is_grain_with plan v (lies_in a) g)
    (λ g. is_left plan part v g && is_grain_with plan v (lies_in a) g)
    (λ g k.
    let p : (is_left plan seen v g ≡ true) × (is_grain_with plan v (lies_in a) g ≡ true)
    = and_parts (is_left plan seen v g) (is_grain_with plan v (lies_in a) g) k in
    and_from (is_left plan part v g) (is_grain_with plan v (lies_in a) g)
    (left_by plan seen part w kept v g (part.value v) (seen.value v) refl refl p.0) p.1)
    (numbers_below (count_of plan v)) h

cell_before : (plan : Plan) (seen part : Seen) → IsPartOf part seen → ValuesAreLeft plan seen
    → (operand : Operand) (cell : Option Value)
    → cell_passes (fits plan seen operand) cell ≡ true → cell_passes (fits plan part operand) cell ≡ true
cell_before plan seen part w kept operand None h = h
cell_before plan seen part w kept operand (Some a) h = fits_before plan seen part w kept operand a h

-- where the grains that hold a cell are said to be out, none is left
none_left : (part : Seen) (v : ℕ) (holds : ℕ → Bool) (gs : List ℕ)
    → list_all (says part) (map (Out v) (filter holds gs)) ≡ true
    → list_any (λ g. not (part.out v g) && holds g) gs ≡ false
none_left part v holds [] h = refl
none_left part v holds (g ∷ gs) h =
    elim (holds g) as (λ b. list_all (says part) (map (Out v) (cond b (g ∷ filter holds gs) (filter holds gs))) ≡ true
    → ((not (part.out v g) && b) || list_any (λ x. not (part.out v x) && holds x) gs) ≡ false) [
      | true ↦ λ k.
          let p : (part.out v g ≡ true) × (list_all (says part) (map (Out v) (filter holds gs)) ≡ true) =
          and_parts (part.out v g) (list_all (says part) (map (Out v) (filter holds gs))) k in
          ap (λ b. (not b && true) || list_any (λ x. not (part.out v x) && holds x) gs) p.0
          ∙ none_left part v holds gs p.1
      | false ↦ λ k. step (part.out v g) (none_left part v holds gs k)
    ] h
  where
    step : (b : Bool) {c : Bool} → c ≡ false → ((not b && false) || c) ≡ false
    step true e = e
    step false e = e

-- a cell that doesn't fit still doesn't where why is said
cell_stays : (plan : Plan) (seen part : Seen) → IsPartOf part seen → (v : ℕ) (a : Value) (o p : Option Value)
    → seen.value v ≡ o → part.value v ≡ p
    → has_left plan seen v a ≡ false → SaysAll part (cell_reasons plan v a o) → has_left plan part v a ≡ false
cell_stays plan seen part w v a None None k l e h =
    ap (λ (o : Option Value). list_any (λ g. is_left_by plan part v g o && is_grain_with plan v (lies_in a) g)
    (numbers_below (count_of plan v))) l
    ∙ none_left part v (is_grain_with plan v (lies_in a)) (numbers_below (count_of plan v)) h
cell_stays plan seen part w v a None (Some c) k l e h =
    let no : None ≡ Some c = sym k ∙ w.value v c l in absurd (cc)
cell_stays plan seen part w v a (Some b) p k l e h =
    let said : (says part (Is v b) ≡ true) × (true ≡ true) = and_parts (says part (Is v b)) true h in
    let now : part.value v ≡ Some b = value_said part v b said.0 in
    ap (λ (o : Option Value). list_any (λ g. is_left_by plan part v g o && is_grain_with plan v (lies_in a) g)
    (numbers_below (count_of plan v))) now
    ∙ (sym (ap (λ (o : Option Value). list_any (λ g. is_left_by plan seen v g o && is_grain_with plan v (lies_in a) g)
    (numbers_below (count_of plan v))) k) ∙ e)

operand_stays : (plan : Plan) (seen part : Seen) → IsPartOf part seen → (operand : Operand) (cell : Option Value)
    → cell_passes (fits plan seen operand) cell ≡ false → SaysAll part (operand_reasons plan seen operand cell)
    → cell_passes (fits plan part operand) cell ≡ false
operand_stays plan seen part w (Constant b) None e h = e
operand_stays plan seen part w (Constant b) (Some a) e h = e
operand_stays plan seen part w (Variable v) None e h = e
operand_stays plan seen part w (Variable v) (Some a) e h =
    cell_stays plan seen part w v a (seen.value v) (part.value v) refl refl e h

module _ (plan : Plan) (seen part : Seen) (w : IsPartOf part seen) (kept : ValuesAreLeft plan seen) where
  abbrev at_seen : List Binding → List Value → Bool
  at_seen columns row = is_possible_in plan seen columns row

  abbrev at_part : List Binding → List Value → Bool
  at_part columns row = is_possible_in plan part columns row

  -- a row is as possible at the part
  row_same : (columns : List Binding) (row : List Value) → SaysAll part (row_reasons plan seen columns row)
      → at_part columns row ≡ at_seen columns row
  row_same [] row h = refl
  row_same (column ∷ columns) row h =
      elim (is_possible plan seen row column) as (λ b. is_possible plan seen row column ≡ b
      → SaysAll part (misfit_reasons plan seen row
      (cond (not b) (Some column) (find (λ c. not (is_possible plan seen row c)) columns)))
      → (is_possible plan part row column && at_part columns row) ≡ (b && at_seen columns row)) [
        | true ↦ λ e k.
            ap (λ b. b && at_part columns row)
            (cell_before plan seen part w kept column.operand (slice_get row column.column) e)
            ∙ row_same columns row k
        | false ↦ λ e k. ap (λ b. b && at_part columns row)
            (operand_stays plan seen part w column.operand (slice_get row column.column) e k)
      ] refl h

  first_and_rest : (columns : List Binding) (row : List Value) (rows : List (List Value))
      → SaysAll part (rows_reasons plan seen columns (row ∷ rows))
      → SaysAll part (row_reasons plan seen columns row) × SaysAll part (rows_reasons plan seen columns rows)
  first_and_rest columns row rows h =
      and_parts (list_all (says part) (row_reasons plan seen columns row))
      (list_all (says part) (rows_reasons plan seen columns rows))
      (sym (list_all-append (says part) (row_reasons plan seen columns row) (rows_reasons plan seen columns rows)) ∙ h)

  rows_same : (columns : List Binding) (rows : List (List Value)) → SaysAll part (rows_reasons plan seen columns rows)
      → filter (at_part columns) rows ≡ filter (at_seen columns) rows
  rows_same columns [] h = refl
  rows_same columns (row ∷ rows) h =
      let p = first_and_rest columns row rows h in
      ap (λ b. cond b (row ∷ filter (at_part columns) rows) (filter (at_part columns) rows)) (row_same columns row p.0)
      ∙ ap (λ rest. cond (at_seen columns row) (row ∷ rest) rest) (rows_same columns rows p.1)

  pub some_same : (columns : List Binding) (rows : List (List Value))
      → SaysAll part (rows_reasons plan seen columns rows)
      → list_any (at_part columns) rows ≡ list_any (at_seen columns) rows
  some_same columns [] h = refl
  some_same columns (row ∷ rows) h =
      let p = first_and_rest columns row rows h in
      ap (λ b. b || list_any (at_part columns) rows) (row_same columns row p.0)
      ∙ ap (λ b. at_seen columns row || b) (some_same columns rows p.1)

  -- whether a possible row has the grain doesn't change where the reasons of the rows that have it are said
  having_same : (has_it : List Value → Bool) (columns : List Binding) (rows : List (List Value))
      → SaysAll part (rows_reasons plan seen columns (filter has_it rows))
      → list_any has_it (filter (at_part columns) rows) ≡ list_any has_it (filter (at_seen columns) rows)
  having_same has_it columns [] h = refl
  having_same has_it columns (row ∷ rows) h =
      elim (has_it row) as
      (λ b. has_it row ≡ b
      → SaysAll part (rows_reasons plan seen columns (cond b (row ∷ filter has_it rows) (filter has_it rows)))
      → list_any has_it (cond (at_part columns row) (row ∷ filter (at_part columns) rows)
      (filter (at_part columns) rows))
      ≡ list_any has_it (cond (at_seen columns row) (row ∷ filter (at_seen columns) rows)
      (filter (at_seen columns) rows))) [
        | true ↦ λ e k.
            let p = first_and_rest columns row (filter has_it rows) k in
            ap (λ b. list_any has_it (cond b (row ∷ filter (at_part columns) rows) (filter (at_part columns) rows)))
            (row_same columns row p.0)
            ∙ beside (at_seen columns row) (filter (at_part columns) rows) (filter (at_seen columns) rows)
            (having_same has_it columns rows p.1)
        | false ↦ λ e k.
            skipped (at_part columns row) (filter (at_part columns) rows) e
            ∙ (having_same has_it columns rows k
            ∙ sym (skipped (at_seen columns row) (filter (at_seen columns) rows) e))
      ] refl h
    where
      beside : (b : Bool) (xs ys : List (List Value)) → list_any has_it xs ≡ list_any has_it ys
          → list_any has_it (cond b (row ∷ xs) xs) ≡ list_any has_it (cond b (row ∷ ys) ys)
      beside true xs ys q = ap (λ d. has_it row || d) q
      beside false xs ys q = q

      skipped : (b : Bool) (xs : List (List Value)) → has_it row ≡ false
          → list_any has_it (cond b (row ∷ xs) xs) ≡ list_any has_it xs
      skipped true xs q = ap (λ d. d || list_any has_it xs) q
      skipped false xs q = refl

  -- some row stays possible
  some_before : (columns : List Binding) (rows : List (List Value)) → list_any (at_seen columns) rows ≡ true
      → list_any (at_part columns) rows ≡ true
  some_before columns rows h =
      any_grows (at_seen columns) (at_part columns)
      (λ row k. all_grows (is_possible plan seen row) (is_possible plan part row)
      (λ column q. cell_before plan seen part w kept column.operand (slice_get row column.column) q) columns k)
      rows h

-- a number that passes is mapped
out_has : (v : ℕ) (passes : ℕ → Bool) (gs : List ℕ) (g : ℕ) → has nat_eq gs g ≡ true → passes g ≡ true
    → has same_atom (map (Out v) (filter passes gs)) (Out v g) ≡ true
out_has v passes [] g h e = absurd (cc)
out_has v passes (x ∷ gs) g h e =
    elim (has_cases nat_eq number_exact number_itself x gs g h) [
      | inl same ↦
          subst (λ z. has same_atom (map (Out v) (filter passes (z ∷ gs))) (Out v g) ≡ true) same
          (ap (λ b. has same_atom (map (Out v) (cond b (g ∷ filter passes gs) (filter passes gs))) (Out v g)) e
          ∙ has_first same_atom atom_exact atom_itself (Out v g) (map (Out v) (filter passes gs)))
      | inr later ↦
          elim (passes x) as (λ b. has same_atom (map (Out v) (cond b (x ∷ filter passes gs) (filter passes gs)))
          (Out v g) ≡ true) [
            | true ↦ has_more same_atom atom_exact atom_itself (Out v x) (map (Out v) (filter passes gs)) (Out v g)
                (out_has v passes gs g later e)
            | false ↦ out_has v passes gs g later e
          ]
    ]

pub all_kept : {A : Type 0} (P : A → Type 0) (test : A → Bool) (xs : List A) → AllByRecursion P xs
    → AllByRecursion P (filter test xs)
all_kept P test [] h = tt
all_kept P test (x ∷ xs) h =
    elim (test x) as (λ b. AllByRecursion P (cond b (x ∷ filter test xs) (filter test xs))) [
      | true ↦ (h.0, all_kept P test xs h.1)
      | false ↦ all_kept P test xs h.1
    ]

pub all_joined : {A : Type 0} (P : A → Type 0) (xs ys : List A) → AllByRecursion P xs → AllByRecursion P ys
    → AllByRecursion P (xs ++ ys)
all_joined P [] ys h k = k
all_joined P (x ∷ xs) ys h k = (h.0, all_joined P xs ys h.1 k)

all_so : {A : Type 0} (P Q : A → Type 0) → ((x : A) → P x → Q x) → (xs : List A) → AllByRecursion P xs
    → AllByRecursion Q xs
all_so P Q f [] h = tt
all_so P Q f (x ∷ xs) h = (f x h.0, all_so P Q f xs h.1)

module _ (plan : Plan) (seen : Seen) (table : ℕ) (columns : List Binding) (kept : ValuesAreLeft plan seen) where
  abbrev rows : List (List Value)
  rows = rows_of plan table

  -- what is concluded for the variable is given for it wherever a part says its premises
  abbrev IsGivenFor : ℕ → Conclusion → Type 0
  IsGivenFor v c = (part : Seen) → IsPartOf part seen → SaysAll part c.premises
      → has same_atom (given_for plan part table columns v) c.atom ≡ true

  abbrev missing_at : Seen → ℕ → ℕ → Bool
  missing_at s v g = is_missing plan v (columns_of v columns)
      (filter (is_possible_in plan s (other_columns v columns)) rows) g

  abbrev agreed_at : Seen → ℕ → List Atom
  agreed_at s v = agreed plan v (columns_of v columns) (filter (is_possible_in plan s (other_columns v columns)) rows)

  grain_given : (v g : ℕ) → is_restrictable plan v ≡ true → has nat_eq (numbers_below (count_of plan v)) g ≡ true
      → missing_at seen v g ≡ true
      → IsGivenFor v (grain_out plan seen rows columns v g)
  grain_given v g r h e part w said =
      let same
      = having_same plan seen part w kept (has_grain plan v (columns_of v columns) g) (other_columns v columns) rows
      said in
      ap (λ b. has same_atom
      (cond b (map (Out v) (filter (missing_at part v) (numbers_below (count_of plan v)))) (agreed_at part v))
      (Out v g)) r
      ∙ out_has v (missing_at part v) (numbers_below (count_of plan v)) g h (ap not same ∙ e)

  grains_given : (v : ℕ) (gs : List ℕ) → is_restrictable plan v ≡ true
      → ((g : ℕ) → has nat_eq gs g ≡ true → has nat_eq (numbers_below (count_of plan v)) g ≡ true)
      → AllByRecursion (IsGivenFor v) (map (grain_out plan seen rows columns v) (filter (missing_at seen v) gs))
  grains_given v [] r within = tt
  grains_given v (g ∷ gs) r within =
      let rest = grains_given v gs r (λ h k. within h (has_more nat_eq number_exact number_itself g gs h k)) in
      elim (missing_at seen v g) as (λ b. missing_at seen v g ≡ b
      → AllByRecursion (IsGivenFor v)
      (map (grain_out plan seen rows columns v)
      (cond b (g ∷ filter (missing_at seen v) gs) (filter (missing_at seen v) gs)))) [
        | true ↦ λ e. (grain_given v g r (within g (has_first nat_eq number_exact number_itself g gs)) e, rest)
        | false ↦ λ e. rest
      ] refl

  cells_given : (v : ℕ) (given : List Atom) → is_restrictable plan v ≡ false
      → ((a : Atom) → has same_atom given a ≡ true → has same_atom (agreed_at seen v) a ≡ true)
      → AllByRecursion (IsGivenFor v) (map (cell_agreed plan seen rows columns v) given)
  cells_given v [] r within = tt
  cells_given v (a ∷ given) r within = (
    λ part w said.
        let same = rows_same plan seen part w kept (other_columns v columns) rows said in
        ap (λ b. has same_atom
        (cond b (map (Out v) (filter (missing_at part v) (numbers_below (count_of plan v)))) (agreed_at part v)) a)
        r
        ∙ (ap (λ rs. has same_atom (agreed plan v (columns_of v columns) rs) a) same
        ∙ within a (has_first same_atom atom_exact atom_itself a given)),
    cells_given v given r (λ b k. within b (has_more same_atom atom_exact atom_itself a given b k)),
  )

  variable_given : (v : ℕ) → AllByRecursion (IsGivenFor v) (concluded_newly plan seen rows columns v)
  variable_given v =
      all_kept (IsGivenFor v) (λ c. not (says seen c.atom)) (concluded_for plan seen rows columns v)
      (elim (is_restrictable plan v) as (λ b. is_restrictable plan v ≡ b
      → AllByRecursion (IsGivenFor v)
      (cond b (map (grain_out plan seen rows columns v) (filter (missing_at seen v) (numbers_below (count_of plan v))))
      (map (cell_agreed plan seen rows columns v) (agreed_at seen v)))) [
        | true ↦ λ r. grains_given v (numbers_below (count_of plan v)) r (λ g h. h)
        | false ↦ λ r. cells_given v (agreed_at seen v) r (λ a h. h)
      ] refl)

  -- what is given for some variables is given by the call, where a row is possible
  part_gives : (rule : Rule) (part : Seen) → IsPartOf part seen
      → list_any (is_possible_in plan seen columns) rows ≡ true
      → by_table plan part rule table columns
      ≡ atoms (flat_map (given_for plan part table columns) (narrowed rule columns))
  part_gives rule part w some =
      ap (λ b. clash_if (not b) (gathered (for_variable plan part table columns) (narrowed rule columns)))
      (some_before plan seen part w kept columns rows some)
      ∙ gathered_atoms (given_for plan part table columns) (narrowed rule columns)

  each_given : (rule : Rule) → list_any (is_possible_in plan seen columns) rows ≡ true → (vs : List ℕ)
      → ((part : Seen) (a : Atom) → has same_atom (flat_map (given_for plan part table columns) vs) a ≡ true
      → has same_atom (flat_map (given_for plan part table columns) (narrowed rule columns)) a ≡ true)
      → AllByRecursion (Follows (λ part. by_table plan part rule table columns) seen)
      (flat_map (concluded_newly plan seen rows columns) vs)
  each_given rule some [] within = tt
  each_given rule some (v ∷ vs) within =
      all_joined (Follows (λ part. by_table plan part rule table columns) seen)
      (concluded_newly plan seen rows columns v) (flat_map (concluded_newly plan seen rows columns) vs)
      (all_so (IsGivenFor v) (Follows (λ part. by_table plan part rule table columns) seen)
      (λ c given part w said.
      ap (λ z. has same_atom (atoms_of z) c.atom) (part_gives rule part w some)
      ∙ within part c.atom
      (has_front same_atom atom_exact atom_itself (given_for plan part table columns v)
      (flat_map (given_for plan part table columns) vs) c.atom (given part w said)))
      (concluded_newly plan seen rows columns v) (variable_given v))
      (each_given rule some vs (λ part a h. within part a
      (has_back same_atom atom_exact atom_itself (given_for plan part table columns v)
      (flat_map (given_for plan part table columns) vs) a h)))

  clash_follows : (rule : Rule) → list_any (is_possible_in plan seen columns) rows ≡ false → (part : Seen)
      → IsPartOf part seen
      → SaysAll part (rows_reasons plan seen columns rows) → is_clash (by_table plan part rule table columns) ≡ true
  clash_follows rule none part w said =
      ap (λ b. is_clash (clash_if (not b) (gathered (for_variable plan part table columns) (narrowed rule columns))))
      (some_same plan seen part w kept columns rows said ∙ none)

  pub said_follows : (rule : Rule) → EachFollows (λ part. by_table plan part rule table columns) seen
      (clash_when (not (list_any (is_possible_in plan seen columns) rows)) (rows_reasons plan seen columns rows)
      (concluding (flat_map (concluded_newly plan seen rows columns) (narrowed rule columns))))
  said_follows rule =
      elim (list_any (is_possible_in plan seen columns) rows) as
      (λ b. list_any (is_possible_in plan seen columns) rows ≡ b
      → EachFollows (λ part. by_table plan part rule table columns) seen
      (clash_when (not b) (rows_reasons plan seen columns rows)
      (concluding (flat_map (concluded_newly plan seen rows columns) (narrowed rule columns))))) [
        | true ↦ λ e. each_given rule e (narrowed rule columns) (λ part a h. h)
        | false ↦ λ e. clash_follows rule e
      ] refl

pub table_follows : TableFollows
table_follows plan seen rule table columns kept = said_follows plan seen table columns kept rule
