-- What statements write lies in the grains.
use Rattle.std.proofs.Common.{◌≡◌, ◌⊎◌, ℕ, zero, suc, ◌+◌, Bool, true, false, ◌&&◌, List, [], ◌∷◌, length, map, refl}
use Rattle.std.proofs.Common.{sym, ◌∙◌, ap, subst, inl, inr}
use Rattle.std.specs.Prelude.{if◌then◌else◌, Option, None, Some, is_none, slice_get}
use Rattle.std.specs.List.{find}
use Rattle.std.proofs.lemmas.List.{length-set}
use Rattle.vc_value.specs.declared.value.Value.{Value}
use Rattle.vc_plan.specs.declared.atoms.Mark.{Mark}
use Rattle.vc_plan.specs.declared.atoms.Mark.TheVariants.{Held, Outside}
use Rattle.vc_plan.specs.declared.plans.Plan.{Plan}
use Rattle.vc_plan.specs.declared.procedures.Action.{Action}
use Rattle.vc_plan.specs.declared.procedures.Action.TheVariants.{Assign, SetDefault, DeleteDefault, LookUp}
use Rattle.vc_plan.specs.declared.procedures.FilledColumn.{FilledColumn}
use Rattle.vc_plan.specs.declared.procedures.Procedure.{Procedure}
use Rattle.vc_plan.specs.declared.procedures.Statement.{Statement}
use Rattle.vc_plan.specs.Domains.{grains_of}
use Rattle.vc_plan.specs.Entries.{Entries, Written, is_soft, no_entries, value_beside, value_of_mark, with_entry}
use Rattle.vc_plan.specs.Entries.{written_at}
use Rattle.vc_plan.specs.Kleene.{is_true}
use Rattle.vc_plan.specs.Parts.{procedure_reading}
use Rattle.vc_plan.specs.Pieces.{lies_in_some}
use Rattle.vc_plan.specs.Readings.{Reading}
use Rattle.vc_plan.specs.Seen.{Seen}
use Rattle.vc_plan.specs.Statements.{Place, acted, all_stated, entered, fitted, has_keys, is_default_of, mark_of}
use Rattle.vc_plan.specs.Statements.{stated, takes_default, with_cell, with_cells, with_default, with_hard, with_row}
use Rattle.vc_plan.specs.Statements.{with_value, without_default}
use Rattle.vc_plan.specs.TableRows.{has_left, rows_of}
use Rattle.vc_plan.specs.Truth.{truth_at, value_at}
use Rattle.vc_plan.specs.Writes.{all_run, is_triggered, run_procedure}
use Rattle.vc_plan_values.specs.Computing.{LiesInGrains}
use Rattle.vc_rule_readings.specs.Beside.{seen_beside}
use Rattle.vc_proc.specs.Overlays.{EntriesLie, held_by}
use Rattle.vc_proc.proofs.WritingLemmas.{held_lies, left_lies}

-- what is read beside entries lies in the grains where the stage's values do
pub lies_beside : (plan : Plan) (seen : Seen) (entries : Entries) → LiesInGrains plan seen
    → EntriesLie plan entries → LiesInGrains plan (seen_beside seen entries)
lies_beside plan seen entries lies lie v a e = by (written_at entries v) (lie v) e
  where
    by : (o : Option Written) → ((c : Value) → held_by o ≡ Some c → lies_in_some (grains_of plan v) c ≡ true)
        → value_beside seen v o ≡ Some a → lies_in_some (grains_of plan v) a ≡ true
    by None f e = lies v a e
    by (Some w) f e = f a e

-- an entry is read where it was put, and the others as before
set_at : (entries : Entries) (v u : ℕ) (w : Option Written)
    → ((v ≡ u) × (written_at (with_entry v w entries) u ≡ w))
    ⊎ (written_at (with_entry v w entries) u ≡ written_at entries u)
set_at [] zero u w = inr refl
set_at [] (suc v) u w = inr refl
set_at (x ∷ entries) zero zero w = inl (refl, refl)
set_at (x ∷ entries) zero (suc u) w = inr refl
set_at (x ∷ entries) (suc v) zero w = inr refl
set_at (x ∷ entries) (suc v) (suc u) w =
    elim (set_at entries v u w) [
      | inl same ↦ inl (ap suc same.0, same.1)
      | inr kept ↦ inr kept
    ]

pub entry_lies : (plan : Plan) (entries : Entries) (v : ℕ) (w : Option Written)
    → ((a : Value) → held_by w ≡ Some a → lies_in_some (grains_of plan v) a ≡ true) → EntriesLie plan entries
    → EntriesLie plan (with_entry v w entries)
entry_lies plan entries v w held lie u a e =
    elim (set_at entries v u w) [
      | inl same ↦ ap (λ n. lies_in_some (grains_of plan n) a) (sym same.0) ∙ held' same.0 (sym (ap held_by same.1) ∙ e)
      | inr kept ↦ lie u a (sym (ap held_by kept) ∙ e)
    ]
  where
    held' : v ≡ u → held_by w ≡ Some a → lies_in_some (grains_of plan v) a ≡ true
    held' same k = held a k

-- what is kept wherever an entry is put that holds a value of a grain, or none, is kept by statements and procedures
module _ (plan : Plan) (Keeps : Entries → Type 0)
    (put : (entries : Entries) (v : ℕ) (w : Option Written)
    → ((a : Value) → held_by w ≡ Some a → lies_in_some (grains_of plan v) a ≡ true)
    → Keeps entries → Keeps (with_entry v w entries)) where
  -- whichever of two the test takes
  either_kept : (b : Bool) (x y : Entries) → (b ≡ true → Keeps x) → Keeps y → Keeps (if b then x else y)
  either_kept true x y f q = f refl
  either_kept false x y f q = q

  hard_kept : (place : Place) (v : ℕ) (a : Value) (entries : Entries) → Keeps entries
      → Keeps (with_hard plan place v a entries)
  hard_kept place v a entries kept =
      put entries v (entered place (mark_of plan v (fitted plan v a)) true) (by (mark_of plan v (fitted plan v a)) refl)
      kept
    where
      by : (mark : Mark) → mark_of plan v (fitted plan v a) ≡ mark → (c : Value) → value_of_mark mark ≡ Some c
          → lies_in_some (grains_of plan v) c ≡ true
      by (Held b) k c e = let same : b ≡ c = cc in held_lies plan v (fitted plan v a) c (k ∙ ap Held same)
      by Outside k c e = absurd (cc)

  last_passes : (x y z : Bool) → (x && y && z) ≡ true → z ≡ true
  last_passes true true z e = e
  last_passes true false z e = absurd (cc)
  last_passes false y z e = absurd (cc)

  default_kept : (seen : Seen) (place : Place) (v : ℕ) (a : Value) (entries : Entries) → Keeps entries
      → Keeps (with_default plan seen place v a entries)
  default_kept seen place v a entries kept =
      let b = fitted plan v a in
      either_kept (takes_default plan seen v b entries) (with_entry v (entered place (Held b) false) entries) entries
      (λ e. put entries v (entered place (Held b) false) (λ c k.
      let left = last_passes (is_none (seen.value v)) (is_soft (written_at entries v)) (has_left plan seen v b) e in
      let same : b ≡ c = cc in
      ap (lies_in_some (grains_of plan v)) (sym same) ∙ left_lies plan seen v b left) kept)
      kept

  removed_kept : (v : ℕ) (a : Value) (entries : Entries) → Keeps entries → Keeps (without_default plan v a entries)
  removed_kept v a entries kept =
      either_kept (is_default_of (fitted plan v a) (written_at entries v)) (with_entry v None entries) entries
      (λ e. put entries v None (λ c k. absurd (cc)) kept) kept

  cell_kept : (place : Place) (v : ℕ) (cell : Option Value) (entries : Entries) → Keeps entries
      → Keeps (with_cell plan place v cell entries)
  cell_kept place v None entries kept = kept
  cell_kept place v (Some a) entries kept = hard_kept place v a entries kept

  cells_kept : (place : Place) (row : List Value) (columns : List FilledColumn) (entries : Entries) → Keeps entries
      → Keeps (with_cells plan place row columns entries)
  cells_kept place row [] entries kept = kept
  cells_kept place row (column ∷ columns) entries kept =
      cells_kept place row columns (with_cell plan place column.var (slice_get row column.column) entries)
      (cell_kept place column.var (slice_get row column.column) entries kept)

  row_kept : (place : Place) (columns : List FilledColumn) (row : Option (List Value)) (entries : Entries)
      → Keeps entries
      → Keeps (with_row plan place columns row entries)
  row_kept place columns None entries kept = kept
  row_kept place columns (Some row) entries kept = cells_kept place row columns entries kept

  value_kept : (put : Value → Entries → Entries) (a : Option Value) (entries : Entries) → Keeps entries
      → ((b : Value) → Keeps (put b entries)) → Keeps (with_value put a entries)
  value_kept put None entries kept f = kept
  value_kept put (Some a) entries kept f = f a

  acted_kept : (seen : Seen) (reading : Reading) (place : Place) (action : Action) (entries : Entries) → Keeps entries
      → Keeps (acted plan seen reading place action entries)
  acted_kept seen reading place (Assign v term) entries kept =
      value_kept (with_hard plan place v) (value_at plan reading term) entries kept
      (λ a. hard_kept place v a entries kept)
  acted_kept seen reading place (SetDefault v term) entries kept =
      value_kept (with_default plan seen place v) (value_at plan reading term) entries kept
      (λ a. default_kept seen place v a entries kept)
  acted_kept seen reading place (DeleteDefault v term) entries kept =
      value_kept (without_default plan v) (value_at plan reading term) entries kept (λ a. removed_kept v a entries kept)
  acted_kept seen reading place (LookUp table keys filled) entries kept =
      row_kept place filled (find (has_keys plan reading keys) (rows_of plan table)) entries kept

  pub stated_kept : (seen : Seen) (holds : ℕ → ℕ → Bool) (place : Place) (statement : Statement) (entries : Entries)
      → Keeps entries
      → Keeps (stated plan seen holds place statement entries)
  stated_kept seen holds place statement entries kept =
      let reading = procedure_reading plan seen entries holds in
      either_kept (is_true (truth_at plan reading statement.condition))
      (acted plan seen reading place statement.action entries) entries
      (λ e. acted_kept seen reading place statement.action entries kept) kept

  all_stated_kept : (seen : Seen) (holds : ℕ → ℕ → Bool) (p n : ℕ) (statements : List Statement) (entries : Entries)
      → Keeps entries
      → Keeps (all_stated plan seen holds p n statements entries)
  all_stated_kept seen holds p n [] entries kept = kept
  all_stated_kept seen holds p n (statement ∷ statements) entries kept =
      all_stated_kept seen holds p (n + 1) statements
      (stated plan seen holds (record { procedure = p; statement = n }) statement entries)
      (stated_kept seen holds (record { procedure = p; statement = n }) statement entries kept)

  pub run_kept : (seen : Seen) (holds : ℕ → ℕ → Bool) (p : ℕ) (procedure : Option Procedure) (entries : Entries)
      → Keeps entries
      → Keeps (run_procedure plan seen holds p procedure entries)
  run_kept seen holds p None entries kept = kept
  run_kept seen holds p (Some procedure) entries kept =
      either_kept (is_triggered seen holds entries procedure.trigger)
      (all_stated plan seen holds p 0 procedure.statements entries) entries
      (λ e. all_stated_kept seen holds p 0 procedure.statements entries kept) kept

  pub all_run_kept : (seen : Seen) (holds : ℕ → ℕ → Bool) (procedures : List ℕ) (entries : Entries) → Keeps entries
      → Keeps (all_run plan seen holds procedures entries)
  all_run_kept seen holds [] entries kept = kept
  all_run_kept seen holds (p ∷ procedures) entries kept =
      all_run_kept seen holds procedures (run_procedure plan seen holds p (slice_get plan.procedures p) entries)
      (run_kept seen holds p (slice_get plan.procedures p) entries kept)

-- nothing that was written lies outside
pub nothing_lies : (plan other : Plan) → EntriesLie plan (no_entries other)
nothing_lies plan other v a e = by other.vars v e
  where
    by : {X : Type 0} (xs : List X) (n : ℕ) → held_by (written_at (map (λ x. None) xs) n) ≡ Some a
        → lies_in_some (grains_of plan v) a ≡ true
    by [] n e = absurd (cc)
    by (x ∷ xs) zero e = absurd (cc)
    by (x ∷ xs) (suc n) e = by xs n e

pub nothing_lies_as : (plan : Plan) (entries : Entries) → entries ≡ no_entries plan → EntriesLie plan entries
nothing_lies_as plan entries e = subst (EntriesLie plan) (sym e) (nothing_lies plan plan)

-- so what statements and procedures write lies in the grains, wherever an equation says that this is what is there
pub stated_lies : (plan : Plan) (seen : Seen) (holds : ℕ → ℕ → Bool) (place : Place) (statement : Statement)
    (old new : Entries)
    → EntriesLie plan old → new ≡ stated plan seen holds place statement old → EntriesLie plan new
stated_lies plan seen holds place statement old new lie e =
    subst (EntriesLie plan) (sym e)
    (stated_kept plan (EntriesLie plan) (entry_lies plan) seen holds place statement old lie)

pub run_lies : (plan : Plan) (seen : Seen) (holds : ℕ → ℕ → Bool) (p : ℕ) (procedure : Option Procedure)
    (old new : Entries) → EntriesLie plan old
    → new ≡ run_procedure plan seen holds p procedure old → EntriesLie plan new
run_lies plan seen holds p procedure old new lie e =
    subst (EntriesLie plan) (sym e) (run_kept plan (EntriesLie plan) (entry_lies plan) seen holds p procedure old lie)

pub all_run_lie : (plan : Plan) (seen : Seen) (holds : ℕ → ℕ → Bool) (procedures : List ℕ) (old new : Entries)
    → EntriesLie plan old
    → new ≡ all_run plan seen holds procedures old → EntriesLie plan new
all_run_lie plan seen holds procedures old new lie e =
    subst (EntriesLie plan) (sym e)
    (all_run_kept plan (EntriesLie plan) (entry_lies plan) seen holds procedures old lie)

-- and there are as many entries
pub all_run_long : (plan : Plan) (seen : Seen) (holds : ℕ → ℕ → Bool) (procedures : List ℕ) (entries : Entries)
    → length (all_run plan seen holds procedures entries) ≡ length entries
all_run_long plan seen holds procedures entries =
    all_run_kept plan (λ list. length list ≡ length entries) (λ list v w held long. length-set list v w ∙ long) seen
    holds procedures entries refl
