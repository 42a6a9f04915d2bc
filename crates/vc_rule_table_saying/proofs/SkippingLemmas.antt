-- Walks past rows that are given up find what walks over all rows find.
use Rattle.std.proofs.Common.{◌≡◌, ℕ, zero, suc, ◌-◌, ◌≤◌, Bool, true, false, cond, not, ◌&&◌, List, [], ◌∷◌}
use Rattle.std.proofs.Common.{length, take, drop, get_or, arith}
use Rattle.std.proofs.Common.{refl, sym, ◌∙◌, ap, subst}
use Rattle.std.specs.Prelude.{Option, None, Some, is_none, if◌then◌else◌, slice_get}
use Rattle.std.specs.List.{filter, find, list_all}
use Rattle.std.proofs.lemmas.List.{take_all}
use Rattle.std.proofs.lemmas.Bool.{ltb-true}
use Rattle.std.proofs.lemmas.Option.{slice_get-get_or}
use Rattle.vc_value.specs.declared.value.Value.{Value}
use Rattle.vc_value.specs.declared.value.Value.TheVariants.{Text}
use Rattle.vc_plan.specs.declared.plans.Plan.{Plan}
use Rattle.vc_plan.specs.declared.rules.Binding.{Binding}
use Rattle.vc_plan.specs.declared.rules.Operand.TheVariants.{Constant}
use Rattle.vc_plan.specs.Seen.{Seen}
use Rattle.vc_plan.specs.TableRows.{is_column_of, is_possible_in, other_columns}
use Rattle.vc_rule_yield.specs.declared.scratch.Note.{Note}
use Rattle.vc_rule_table.specs.Noting.{AreNotesOf, IsNoteOf, noted_misfit, second_misfit}
use Rattle.vc_rule_table.proofs.NotingLemmas.{no_notes, possible_is}
use Rattle.vc_rule_table_saying.specs.Skipping.{given_up, is_given_up}

module _ (plan : Plan) (seen : Seen) (columns : List Binding) (v : ℕ) where
  abbrev possible : List Value → Bool
  possible row = is_possible_in plan seen (other_columns v columns) row

  fails : (row : List Value) (note : Note) → IsNoteOf plan seen columns columns row note
      → is_given_up columns note ≡ true
      → possible row ≡ false
  fails row note is low =
      let c : Binding = get_or columns note.second (record { column = 0; operand = Constant (Text 0) }) in
      let there : slice_get columns note.second ≡ Some c =
      slice_get-get_or columns note.second (record { column = 0; operand = Constant (Text 0) })
      (ltb-true note.second (length columns) low) in
      sym (possible_is plan seen row (Some v) columns note is) ∙ by c there (slice_get columns note.first) refl
    where
      told : (b : Bool) (c f : Binding) → is_none (if b then Some c else Some f) ≡ false
      told true c f = refl
      told false c f = refl

      by : (c : Binding) → slice_get columns note.second ≡ Some c
          → (f : Option Binding) → slice_get columns note.first ≡ f
          → is_none (noted_misfit (Some v) (slice_get columns note.first) (slice_get columns note.second)) ≡ false
      by c there None first =
          absurd (let never = sym there ∙ (is.1 ∙ ap (second_misfit plan seen columns row) first) in cc)
      by c there (Some f) first =
          ap (λ o. is_none (noted_misfit (Some v) o (slice_get columns note.second))) first
          ∙ (ap (λ s. is_none (noted_misfit (Some v) (Some f) s)) there ∙ told (is_column_of v f) c f)

  pub possible_past : (rows : List (List Value)) (notes : List Note)
      → AreNotesOf plan seen columns columns rows notes
      → filter possible (drop (given_up columns notes) rows) ≡ filter possible rows
  possible_past [] notes are = none (given_up columns notes)
    where
      none : (n : ℕ) → filter possible (drop n []) ≡ filter possible []
      none zero = refl
      none (suc n) = refl
  possible_past (row ∷ rows) [] are = refl
  possible_past (row ∷ rows) (note ∷ notes) are =
      by (is_given_up columns note) refl (possible_past rows notes are.1)
    where
      by : (b : Bool) → is_given_up columns note ≡ b
          → filter possible (drop (given_up columns notes) rows) ≡ filter possible rows
          → filter possible (drop (if b then suc (given_up columns notes) else 0) (row ∷ rows))
          ≡ filter possible (row ∷ rows)
      by true e later =
          later
          ∙ sym (ap (λ c. cond c (row ∷ filter possible rows) (filter possible rows)) (fails row note are.0 e))
      by false e later = refl

  -- the first that passes is the first of those that do
  pub found_past : (rows : List (List Value)) (notes : List Note)
      → AreNotesOf plan seen columns columns rows notes
      → find possible (drop (given_up columns notes) rows) ≡ find possible rows
  found_past rows notes are =
      found_first (drop (given_up columns notes) rows)
      ∙ (ap first_of (possible_past rows notes are) ∙ sym (found_first rows))
    where
      first_of : List (List Value) → Option (List Value)
      first_of [] = None
      first_of (row ∷ rows) = Some row

      found_first : (xs : List (List Value)) → find possible xs ≡ first_of (filter possible xs)
      found_first [] = refl
      found_first (x ∷ xs) =
          elim (possible x) as (λ b. cond b (Some x) (find possible xs)
          ≡ first_of (cond b (x ∷ filter possible xs) (filter possible xs))) [
            | true ↦ refl
            | false ↦ found_first xs
          ]

pub notes_past : (plan : Plan) (seen : Seen) (columns : List Binding) (n : ℕ) (rows : List (List Value))
    (notes : List Note) → AreNotesOf plan seen columns columns rows notes
    → AreNotesOf plan seen columns columns (drop n rows) (drop n notes)
notes_past plan seen columns zero rows notes are = are
notes_past plan seen columns (suc n) [] notes are = tt
notes_past plan seen columns (suc n) (row ∷ rows) [] are = no_notes plan seen columns (drop n rows)
notes_past plan seen columns (suc n) (row ∷ rows) (note ∷ notes) are =
    notes_past plan seen columns n rows notes are.1

-- a walk that finds behind the rows that are given up what it finds over all goes past them
pub walks_past : {R : Type 0} (plan : Plan) (seen : Seen) (columns : List Binding) (walk : List (List Value) → R)
    → ((rows : List (List Value)) (notes : List Note) → AreNotesOf plan seen columns columns rows notes
    → walk (drop (given_up columns notes) rows) ≡ walk rows)
    → (rows later : List (List Value)) (notes beside : List Note) (n : ℕ)
    → AreNotesOf plan seen columns columns rows notes
    → n ≡ given_up columns notes
    → later ≡ drop n rows
    → beside ≡ drop n notes
    → (walk later ≡ walk rows) × AreNotesOf plan seen columns columns later beside
walks_past plan seen columns walk past rows later notes beside n are count rest noted = (
  ap walk (rest ∙ ap (λ m. drop m rows) count) ∙ past rows notes are,
  subst (λ rs. AreNotesOf plan seen columns columns rs beside) (sym rest)
      (subst (λ ns. AreNotesOf plan seen columns columns (drop n rows) ns) (sym noted)
      (notes_past plan seen columns n rows notes are)),
)

-- what the rows behind the first say, where it passes or isn't asked
pub agree_behind : {A : Type 0} (p q : A → Bool) (rest : List A) (x : A) → 1 ≤ length rest → x ≡ get_or rest 0 x
    → (p x && not (q x)) ≡ false
    → list_all q (filter p (take (length rest - 1) (drop 1 rest))) ≡ list_all q (filter p rest)
agree_behind p q [] x some is e = absurd (omega (arith, some))
agree_behind p q (z ∷ rest) x some is e =
    let more : take (length (z ∷ rest) - 1) rest ≡ rest = take_all (length (z ∷ rest) - 1) rest (omega arith) in
    ap (λ xs. list_all q (filter p xs)) more
    ∙ by (p z) refl (q z) refl (ap (λ w. p w && not (q w)) (sym is) ∙ e)
  where
    by : (b : Bool) → p z ≡ b → (c : Bool) → q z ≡ c → (b && not c) ≡ false
        → list_all q (filter p rest) ≡ list_all q (cond b (z ∷ filter p rest) (filter p rest))
    by true k true l e = sym (ap (λ c. c && list_all q (filter p rest)) l)
    by true k false l e = absurd (cc)
    by false k c l e = refl

pub found_behind : {A : Type 0} (p : A → Bool) (rest : List A) (x : A) → 1 ≤ length rest → x ≡ get_or rest 0 x
    → p x ≡ false
    → find p (take (length rest - 1) (drop 1 rest)) ≡ find p rest
found_behind p [] x some is e = absurd (omega (arith, some))
found_behind p (z ∷ rest) x some is e =
    let more : take (length (z ∷ rest) - 1) rest ≡ rest = take_all (length (z ∷ rest) - 1) rest (omega arith) in
    ap (find p) more ∙ sym (ap (λ b. cond b (Some z) (find p rest)) (ap p (sym is) ∙ e))
