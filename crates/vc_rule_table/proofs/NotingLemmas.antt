-- Notes tell the first columns in which rows aren't possible.
use Rattle.std.proofs.Common.{◌≡◌, ℕ, ◌+◌, ◌-◌, ◌<◌, ◌≤◌, Bool, true, false, cond, not, ◌&&◌, ◌||◌, List, [], ◌∷◌, ◌++◌}
use Rattle.std.proofs.Common.{length, take, drop, get_or, refl, sym, ◌∙◌, ap, subst, arith}
use Rattle.std.specs.Prelude.{Option, None, Some, if◌then◌else◌, is_none, nat_lt, slice_get}
use Rattle.std.specs.List.{filter, find}
use Rattle.std.specs.Option.{option_or}
use Rattle.std.proofs.lemmas.Bool.{eqb-true, ltb-true, ltb-false}
use Rattle.std.proofs.lemmas.List.{take_all, take_more}
use Rattle.std.proofs.lemmas.List.Folds.{find-append}
use Rattle.std.proofs.lemmas.Option.{slice_get-get_or, slice_get_past}
use Rattle.vc_value.specs.declared.value.Value.{Value}
use Rattle.vc_plan.specs.declared.plans.Plan.{Plan}
use Rattle.vc_plan.specs.declared.rules.Binding.{Binding}
use Rattle.vc_plan.specs.declared.rules.Operand.{Operand}
use Rattle.vc_plan.specs.declared.rules.Operand.TheVariants.{Constant, Variable}
use Rattle.vc_plan.specs.Seen.{Seen}
use Rattle.vc_plan.specs.TableRows.{cell_passes, is_column_of, is_possible, is_possible_in, is_variable}
use Rattle.vc_rule_yield.specs.declared.scratch.Note.{Note}
use Rattle.vc_rule_table.specs.Cells.{columns_but}
use Rattle.vc_rule_table.specs.Noting.{AreNotesOf, HasNote, IsNoteOf, each_changed, is_apart, next_note, no_misfit}
use Rattle.vc_rule_table.specs.Noting.{noted_misfit, second_misfit, with_misfit}
use Rattle.vc_rule_table.specs.Reasons.{first_misfit}
use Rattle.vc_rule_table.proofs.AgreedLemmas.{all_columns}
use Rattle.vc_rule_table.proofs.CitingSteps.{none_found}

-- the first of those that pass another test
find_filter : {A : Type 0} (p q : A → Bool) (xs : List A) → find p (filter q xs) ≡ find (λ x. p x && q x) xs
find_filter p q [] = refl
find_filter p q (x ∷ xs) = by (q x) (p x) refl (find_filter p q xs)
  where
    by : (b c : Bool) → p x ≡ c → find p (filter q xs) ≡ find (λ y. p y && q y) xs
        → find p (cond b (x ∷ filter q xs) (filter q xs)) ≡ cond (p x && b) (Some x) (find (λ y. p y && q y) xs)
    by true true e later =
        ap (λ c. cond c (Some x) (find p (filter q xs))) e
        ∙ sym (ap (λ c. cond (c && true) (Some x) (find (λ y. p y && q y) xs)) e)
    by true false e later =
        ap (λ c. cond c (Some x) (find p (filter q xs))) e
        ∙ (later ∙ sym (ap (λ c. cond (c && true) (Some x) (find (λ y. p y && q y) xs)) e))
    by false true e later = later ∙ sym (ap (λ c. cond (c && false) (Some x) (find (λ y. p y && q y) xs)) e)
    by false false e later = later ∙ sym (ap (λ c. cond (c && false) (Some x) (find (λ y. p y && q y) xs)) e)

find_none : {A : Type 0} (p q : A → Bool) (xs : List A) → find p xs ≡ None → find (λ x. p x && q x) xs ≡ None
find_none p q [] e = refl
find_none p q (x ∷ xs) e = by (p x) e (find_none p q xs)
  where
    by : (b : Bool) → cond b (Some x) (find p xs) ≡ None
        → (find p xs ≡ None → find (λ y. p y && q y) xs ≡ None)
        → cond (b && q x) (Some x) (find (λ y. p y && q y) xs) ≡ None
    by true e later = absurd (cc)
    by false e later = later e

find_kept : {A : Type 0} (p q : A → Bool) (xs : List A) (c : A) → find p xs ≡ Some c → q c ≡ true
    → find (λ x. p x && q x) xs ≡ Some c
find_kept p q [] c e passes = absurd (cc)
find_kept p q (x ∷ xs) c e passes = by (p x) e (find_kept p q xs c)
  where
    by : (b : Bool) → cond b (Some x) (find p xs) ≡ Some c
        → (find p xs ≡ Some c → q c ≡ true → find (λ y. p y && q y) xs ≡ Some c)
        → cond (b && q x) (Some x) (find (λ y. p y && q y) xs) ≡ Some c
    by true e later =
        let same : x ≡ c = cc in
        ap (λ b. cond b (Some x) (find (λ y. p y && q y) xs)) (ap q same ∙ passes) ∙ e
    by false e later = later e passes

module _ (plan : Plan) (seen : Seen) (row : List Value) where
  abbrev misfits : Binding → Bool
  misfits column = not (is_possible plan seen row column)

  -- what is noted tells the first misfit but for a variable's columns
  noted_but : (v : ℕ) (columns : List Binding) (f s : Option Binding) → f ≡ first_misfit plan seen columns row
      → s ≡ second_misfit plan seen columns row f
      → noted_misfit (Some v) f s ≡ find (λ c. misfits c && not (is_column_of v c)) columns
  noted_but v columns None s first second = sym (find_none misfits (λ c. not (is_column_of v c)) columns (sym first))
  noted_but v columns (Some c) s first second = by c.operand refl (is_column_of v c) refl
    where
      by : (operand : Operand) → c.operand ≡ operand → (b : Bool) → is_column_of v c ≡ b
          → (if b then s else Some c) ≡ find (λ d. misfits d && not (is_column_of v d)) columns
      by operand o false e = sym (find_kept misfits (λ d. not (is_column_of v d)) columns c (sym first) (ap not e))
      by (Constant a) o true e = absurd (let never = sym (ap (is_variable v) o) ∙ e in cc)
      by (Variable w) o true e =
          let same : v ≡ w = eqb-true v w (sym (ap (is_variable v) o) ∙ e) in
          second
          ∙ (ap (λ (operand : Operand). find (λ d. misfits d && is_apart operand d) columns) o
          ∙ ap (λ u. find (λ d. misfits d && not (is_column_of u d)) columns) (sym same))

  noted_as : (but : Option ℕ) (columns : List Binding) (f s : Option Binding) → f ≡ first_misfit plan seen columns row
      → s ≡ second_misfit plan seen columns row f
      → noted_misfit but f s ≡ first_misfit plan seen (columns_but but columns) row
  noted_as None columns None s first second =
      first ∙ sym (ap (λ cs. first_misfit plan seen cs row) (all_columns columns))
  noted_as None columns (Some c) s first second =
      first ∙ sym (ap (λ cs. first_misfit plan seen cs row) (all_columns columns))
  noted_as (Some v) columns f s first second =
      noted_but v columns f s first second
      ∙ sym (find_filter misfits (λ c. not (is_column_of v c)) columns)

  pub noted_is : (but : Option ℕ) (columns : List Binding) (note : Note) → IsNoteOf plan seen columns columns row note
      → noted_misfit but (slice_get columns note.first) (slice_get columns note.second)
      ≡ first_misfit plan seen (columns_but but columns) row
  noted_is but columns note is =
      noted_as but columns (slice_get columns note.first) (slice_get columns note.second) is.0 is.1

  pub possible_is : (but : Option ℕ) (columns : List Binding) (note : Note)
      → IsNoteOf plan seen columns columns row note
      → is_none (noted_misfit but (slice_get columns note.first) (slice_get columns note.second))
      ≡ is_possible_in plan seen (columns_but but columns) row
  possible_is but columns note is =
      ap is_none (noted_is but columns note is) ∙ none_found (is_possible plan seen row) (columns_but but columns)

  note_none : (all : List Binding) → IsNoteOf plan seen all [] row (no_misfit all)
  note_none all =
      let none : slice_get all (length all) ≡ None = slice_get_past all (length all) (omega arith) in
      (none, none ∙ sym (ap (second_misfit plan seen [] row) none))

  -- one more column
  module _ (all cs : List Binding) (place : ℕ) (column : Binding) (note : Note)
      (here : slice_get all place ≡ Some column)
      (is : IsNoteOf plan seen all cs row note) where
    abbrev more : List Binding
    more = cs ++ column ∷ []

    push_found : (q : Binding → Bool) → find q cs ≡ None → q column ≡ true → find q more ≡ Some column
    push_found q e passes =
        find-append q cs (column ∷ [])
        ∙ (ap (λ o. option_or o (cond (q column) (Some column) None)) e
        ∙ ap (λ b. cond b (Some column) None) passes)

    push_kept : (q : Binding → Bool) (c : Binding) → find q cs ≡ Some c → find q more ≡ Some c
    push_kept q c e =
        find-append q cs (column ∷ []) ∙ ap (λ o. option_or o (cond (q column) (Some column) None)) e

    push_fails : (q : Binding → Bool) → q column ≡ false → find q more ≡ find q cs
    push_fails q fails =
        find-append q cs (column ∷ [])
        ∙ (ap (λ b. option_or (find q cs) (cond b (Some column) None)) fails ∙ or_none (find q cs))
      where
        or_none : (o : Option Binding) → option_or o None ≡ o
        or_none None = refl
        or_none (Some c) = refl

    stays_possible : misfits column ≡ false → IsNoteOf plan seen all more row note
    stays_possible fits =
        (is.0 ∙ sym (push_fails misfits fits), is.1 ∙ by (slice_get all note.first))
      where
        by : (f : Option Binding) → second_misfit plan seen cs row f ≡ second_misfit plan seen more row f
        by None = refl
        by (Some c) =
            sym (push_fails (λ d. misfits d && is_apart c.operand d)
            (ap (λ b. b && is_apart c.operand column) fits))

    stays_given_up : (d : Binding) → slice_get all note.second ≡ Some d → IsNoteOf plan seen all more row note
    stays_given_up d there = by (slice_get all note.first) refl
      where
        by : (f : Option Binding) → slice_get all note.first ≡ f → IsNoteOf plan seen all more row note
        by None e = absurd (let never = sym there ∙ (is.1 ∙ ap (second_misfit plan seen cs row) e) in cc)
        by (Some c) e = (
          e ∙ sym (push_kept misfits c (sym is.0 ∙ e)),
          there ∙ sym (ap (second_misfit plan seen more row) e
              ∙ push_kept (λ x. misfits x && is_apart c.operand x) d
              (sym (ap (second_misfit plan seen cs row) e) ∙ (sym is.1 ∙ there))),
        )

    first_comes : misfits column ≡ true → slice_get all note.first ≡ None → slice_get all note.second ≡ None
        → (b : Bool) → is_apart column.operand column ≡ b
        → IsNoteOf plan seen all more row (record { first = place; second = if b then place else note.second })
    first_comes fails first second b e =
        let none : find misfits cs ≡ None = sym is.0 ∙ first in
        (here ∙ sym (push_found misfits none fails), by b e)
      where
        beside : Binding → Bool
        beside d = misfits d && is_apart column.operand d

        none_beside : find beside cs ≡ None
        none_beside = find_none misfits (is_apart column.operand) cs (sym is.0 ∙ first)

        by : (b : Bool) → is_apart column.operand column ≡ b
            → slice_get all (if b then place else note.second)
            ≡ second_misfit plan seen more row (slice_get all place)
        by true e =
            here ∙ sym (ap (second_misfit plan seen more row) here
            ∙ push_found beside none_beside (ap (λ m. m && is_apart column.operand column) fails ∙ e))
        by false e =
            second ∙ sym (ap (second_misfit plan seen more row) here
            ∙ (push_fails beside (ap (λ m. m && is_apart column.operand column) fails ∙ e) ∙ none_beside))

    second_comes : misfits column ≡ true → (c : Binding) → slice_get all note.first ≡ Some c
        → slice_get all note.second ≡ None → (b : Bool) → is_apart c.operand column ≡ b
        → IsNoteOf plan seen all more row (if b then (record { first = note.first; second = place }) else note)
    second_comes fails c first second b e = by b e
      where
        beside : Binding → Bool
        beside d = misfits d && is_apart c.operand d

        none_beside : find beside cs ≡ None
        none_beside = sym (ap (second_misfit plan seen cs row) first) ∙ (sym is.1 ∙ second)

        kept : slice_get all note.first ≡ find misfits more
        kept = first ∙ sym (push_kept misfits c (sym is.0 ∙ first))

        by : (b : Bool) → is_apart c.operand column ≡ b
            → IsNoteOf plan seen all more row (if b then (record { first = note.first; second = place }) else note)
        by true e = (
          kept,
          here ∙ sym (ap (second_misfit plan seen more row) first
              ∙ push_found beside none_beside (ap (λ m. m && is_apart c.operand column) fails ∙ e)),
        )
        by false e = (
          kept,
          second ∙ sym (ap (second_misfit plan seen more row) first
              ∙ (push_fails beside (ap (λ m. m && is_apart c.operand column) fails ∙ e) ∙ none_beside)),
        )

    comes : misfits column ≡ true → slice_get all note.second ≡ None → (f : Option Binding)
        → slice_get all note.first ≡ f
        → IsNoteOf plan seen all more row (with_misfit place column note f)
    comes fails second None first = first_comes fails first second (is_apart column.operand column) refl
    comes fails second (Some c) first = second_comes fails c first second (is_apart c.operand column) refl

    note_next : IsNoteOf plan seen all more row (next_note plan seen all place column row note)
    note_next = by (nat_lt note.second (length all)) refl (is_possible plan seen row column) refl
      where
        by : (b : Bool) → nat_lt note.second (length all) ≡ b → (c : Bool) → is_possible plan seen row column ≡ c
            → IsNoteOf plan seen all more row
            (if b || c then note else with_misfit place column note (slice_get all note.first))
        by true e c k =
            let low : note.second < length all = ltb-true note.second (length all) e in
            stays_given_up (get_or all note.second column) (slice_get-get_or all note.second column low)
        by false e true k = stays_possible (ap not k)
        by false e false k =
            let past : length all ≤ note.second = ltb-false note.second (length all) e in
            comes (ap not k) (slice_get_past all note.second past) (slice_get all note.first) refl

pub notes_none : (plan : Plan) (seen : Seen) (all : List Binding) (rows : List (List Value)) (notes : List Note)
    → AreNotesOf plan seen all [] rows (each_changed (λ row note. no_misfit all) rows notes)
notes_none plan seen all [] notes = tt
notes_none plan seen all (row ∷ rows) [] = tt
notes_none plan seen all (row ∷ rows) (note ∷ notes) =
    (note_none plan seen row all, notes_none plan seen all rows notes)

pub notes_next : (plan : Plan) (seen : Seen) (all cs : List Binding) (place : ℕ) (column : Binding)
    → slice_get all place ≡ Some column
    → (rows : List (List Value)) (notes : List Note) → AreNotesOf plan seen all cs rows notes
    → AreNotesOf plan seen all (cs ++ column ∷ []) rows
    (each_changed (next_note plan seen all place column) rows notes)
notes_next plan seen all cs place column here [] notes are = tt
notes_next plan seen all cs place column here (row ∷ rows) [] are = tt
notes_next plan seen all cs place column here (row ∷ rows) (note ∷ notes) are = (
  note_next plan seen row all cs place column note here are.0,
  notes_next plan seen all cs place column here rows notes are.1,
)

pub notes_more : (plan : Plan) (seen : Seen) (columns : List Binding) (place : ℕ) (d : Binding)
    (rows : List (List Value)) (notes later : List Note) → place < length columns
    → AreNotesOf plan seen columns (take place columns) rows notes
    → later ≡ each_changed (next_note plan seen columns place (get_or columns place d)) rows notes
    → AreNotesOf plan seen columns (take (place + 1) columns) rows later
notes_more plan seen columns place d rows notes later low are e =
    let column : Binding = get_or columns place d in
    let so_far : List Binding = take place columns in
    subst (λ (ns : List Note). AreNotesOf plan seen columns (take (place + 1) columns) rows ns) (sym e)
    (subst (λ (cs : List Binding). AreNotesOf plan seen columns cs rows
    (each_changed (next_note plan seen columns place column) rows notes))
    (sym (take_more columns place d low))
    (notes_next plan seen columns so_far place column (slice_get-get_or columns place d low) rows notes are))

-- where there are no notes there is nothing to tell
pub no_notes : (plan : Plan) (seen : Seen) (columns : List Binding) (rows : List (List Value))
    → AreNotesOf plan seen columns columns rows []
no_notes plan seen columns [] = tt
no_notes plan seen columns (row ∷ rows) = tt

-- the notes of the rows behind the first, and the first one
pub notes_behind : (plan : Plan) (seen : Seen) (columns : List Binding) (rows : List (List Value)) (notes : List Note)
    → AreNotesOf plan seen columns columns rows notes
    → AreNotesOf plan seen columns columns (take (length rows - 1) (drop 1 rows)) (drop 1 notes)
notes_behind plan seen columns [] notes are = tt
notes_behind plan seen columns (row ∷ rows) [] are =
    no_notes plan seen columns (take (length (row ∷ rows) - 1) rows)
notes_behind plan seen columns (row ∷ rows) (note ∷ notes) are =
    let more : take (length (row ∷ rows) - 1) rows ≡ rows = take_all (length (row ∷ rows) - 1) rows (omega arith) in
    subst (λ (rs : List (List Value)). AreNotesOf plan seen columns columns rs notes) (sym more) are.1

pub note_first : (plan : Plan) (seen : Seen) (columns : List Binding) (rows : List (List Value)) (notes : List Note)
    (row : List Value) → 1 ≤ length rows → row ≡ get_or rows 0 row
    → AreNotesOf plan seen columns columns rows notes
    → HasNote plan seen columns row (slice_get notes 0)
note_first plan seen columns [] notes row some is are = absurd (omega (arith, some))
note_first plan seen columns (first ∷ rows) [] row some is are = tt
note_first plan seen columns (first ∷ rows) (note ∷ notes) row some is are =
    subst (λ (r : List Value). IsNoteOf plan seen columns columns r note) (sym is) are.0

-- a test that passes what another passes, asked of a cell
pub cells_same : (t u : Value → Bool) → ((a : Value) → t a ≡ u a) → (cell : Option Value)
    → cell_passes t cell ≡ cell_passes u cell
cells_same t u same None = refl
cells_same t u same (Some a) = same a
