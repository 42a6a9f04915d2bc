-- What statements write fits the plan, and so do the sources at the end of an evaluation.
use Rattle.std.proofs.Common.{◌≡◌, ℕ, zero, suc, ◌+◌, Bool, true, false, ◌&&◌, ◌||◌, List, [], ◌∷◌, ◌++◌, length, map}
use Rattle.std.proofs.Common.{refl, sym, ap, ◌∙◌, subst, arith}
use Rattle.std.specs.Prelude.{Option, reverse, flat_map, None, Some, option_map, slice_get, slice_set, slice_index_or}
use Rattle.std.specs.Prelude.{if◌then◌else◌, is_none, ◌==◌}
use Rattle.std.specs.List.{find, list_all, list_any}
use Rattle.std.proofs.lemmas.Bool.{and_from, and_parts, eq-eqb}
use Rattle.vc_base.specs.Rounds.{Settlement, broken, settled}
use Rattle.vc_base.proofs.Settling.{any_at}
use Rattle.vc_value.specs.declared.value.Value.{Value}
use Rattle.vc_plan.specs.declared.atoms.Atom.{Atom}
use Rattle.vc_plan.specs.declared.atoms.Mark.TheVariants.{Held, Outside}
use Rattle.vc_plan.specs.declared.conditions.Piece.{Piece}
use Rattle.vc_plan.specs.declared.plans.Plan.{Plan}
use Rattle.vc_plan.specs.declared.plans.Var.{Var}
use Rattle.vc_plan.specs.declared.procedures.Action.{Action}
use Rattle.vc_plan.specs.declared.procedures.Action.TheVariants.{Assign, SetDefault, DeleteDefault, LookUp}
use Rattle.vc_plan.specs.declared.procedures.FilledColumn.{FilledColumn}
use Rattle.vc_plan.specs.declared.procedures.Procedure.{Procedure}
use Rattle.vc_plan.specs.declared.procedures.Statement.{Statement}
use Rattle.vc_plan.specs.Domains.{numbers_below, grains_of, decimals_of, count_of, is_grain_with, passes}
use Rattle.vc_plan.specs.Entries.{Entries, Written, entry_in, is_soft, no_entries, sources_in, with_entry, written_at}
use Rattle.vc_plan.specs.Evaluate.{Evaluated, Users, between, broken_at, evaluation_of, holds, if_settled, reached}
use Rattle.vc_plan.specs.Evaluate.{sources_of, stages_from}
use Rattle.vc_plan.specs.Fitting.{has_at_most, may_have_if, may_hold, users_fit}
use Rattle.vc_plan.specs.Kleene.{is_true}
use Rattle.vc_plan.specs.LookUps.{action_writes, named_by, writes_own}
use Rattle.vc_plan.specs.Parts.{procedure_reading}
use Rattle.vc_plan.specs.Pieces.{lies_in, lies_in_some}
use Rattle.vc_plan.specs.Readings.{Reading}
use Rattle.vc_plan.specs.RuleShapes.{is_at}
use Rattle.vc_plan.specs.Seen.{Seen, is_left, seen_of}
use Rattle.vc_plan.specs.Settle.{settlement_of}
use Rattle.vc_plan.specs.Statements.{Place, acted, all_stated, entered, fitted, has_keys, is_default_of, mark_of}
use Rattle.vc_plan.specs.Statements.{stated, takes_default, with_cell, with_cells, with_default, with_hard, with_row}
use Rattle.vc_plan.specs.Statements.{with_value, without_default}
use Rattle.vc_plan.specs.TableRows.{has_left, rows_of}
use Rattle.vc_plan.specs.Truth.{truth_at, value_at}
use Rattle.vc_plan.specs.Writes.{all_run, instances_at, is_triggered, last_stage, procedures_at, run_procedure}
use Rattle.vc_plan.specs.Writes.{summing_instances}
use Rattle.vc_plan.proofs.PlanLaws.Lists.{all_grows}
use Rattle.vc_plan.proofs.StageProofs.Parents.{all_at}
use Rattle.vc_plan_reasons.specs.Fitting.{EvaluationsFit, StagesFit, entry_fits, mark_fits, procedure_writes}
use Rattle.vc_plan_reasons.specs.Fitting.{sources_at_end, sources_fit, statement_writes, value_fits}
use Rattle.vc_plan_reasons.proofs.ReasonLaws.Blaming.{entry_fit_at}

-- an entry that fits, and entries that all do
abbrev Fits : Plan → ℕ → Option Written → Type 0
Fits plan v written = entry_fits plan v (option_map entry_in written) ≡ true

abbrev AllFit : Plan → Entries → Type 0
AllFit plan entries = (v : ℕ) → Fits plan v (written_at entries v)

-- an element put in its place has what all have
pub put_in : {X : Type 0} (P : ℕ → Option X → Type 0) (xs : List (Option X)) (v : ℕ) (x : Option X)
    → ((u : ℕ) → P u (slice_index_or xs u None)) → P v x → (u : ℕ) → P u (slice_index_or (slice_set xs v x) u None)
put_in P [] v x all one u = all u
put_in P (y ∷ xs) zero x all one zero = one
put_in P (y ∷ xs) zero x all one (suc u) = all (suc u)
put_in P (y ∷ xs) (suc v) x all one zero = all zero
put_in P (y ∷ xs) (suc v) x all one (suc u) = put_in (λ k. P (suc k)) xs v x (λ k. all (suc k)) one u

entry_put : (plan : Plan) (v : ℕ) (written : Option Written) (entries : Entries) → AllFit plan entries
    → Fits plan v written
    → AllFit plan (with_entry v written entries)
entry_put plan v written entries all one u = put_in (Fits plan) entries v written all one u

-- whichever of two the test takes
either : (plan : Plan) (b : Bool) (x y : Entries) → (b ≡ true → AllFit plan x) → AllFit plan y
    → AllFit plan (if b then x else y)
either plan true x y p q = p refl
either plan false x y p q = q

-- a mark is held where a grain holds its value
mark_held : (plan : Plan) (v : ℕ) (a : Value) (b : Bool) → lies_in_some (grains_of plan v) a ≡ b
    → mark_fits plan v (if b then Held a else Outside) ≡ true
mark_held plan v a true e = e
mark_held plan v a false e = refl

-- the statement at the place writes the variable
abbrev Writes : Plan → Place → ℕ → Type 0
Writes plan place v = procedure_writes plan v place.statement (slice_get plan.procedures place.procedure) ≡ true

hard_fits : (plan : Plan) (place : Place) (v : ℕ) (a : Value) (entries : Entries) → Writes plan place v
    → AllFit plan entries
    → AllFit plan (with_hard plan place v a entries)
hard_fits plan place v a entries writes all =
    let b = fitted plan v a in
    entry_put plan v (entered place (mark_of plan v b) true) entries all
    (and_from (mark_fits plan v (mark_of plan v b))
    (procedure_writes plan v place.statement (slice_get plan.procedures place.procedure))
    (mark_held plan v b (lies_in_some (grains_of plan v) b) refl) writes)

-- a value that is left lies in a grain
piece_passes : (test : Piece → Bool) (pieces : List Piece) (g : ℕ) → passes test (slice_get pieces g) ≡ true
    → list_any test pieces ≡ true
piece_passes test [] g e = absurd (cc e)
piece_passes test (piece ∷ pieces) zero e = ap (λ b. b || list_any test pieces) e
piece_passes test (piece ∷ pieces) (suc g) e = later (test piece) (piece_passes test pieces g e)
  where
    later : (b : Bool) → list_any test pieces ≡ true → (b || list_any test pieces) ≡ true
    later true h = refl
    later false h = h

left_lies : (plan : Plan) (seen : Seen) (v : ℕ) (a : Value) → has_left plan seen v a ≡ true
    → lies_in_some (grains_of plan v) a ≡ true
left_lies plan seen v a e =
    let test : ℕ → Bool = λ g. is_left plan seen v g && is_grain_with plan v (lies_in a) g in
    let one = any_at test (numbers_below (count_of plan v)) e in
    piece_passes (lies_in a) (grains_of plan v) one.0
    (and_parts (is_left plan seen v one.0) (is_grain_with plan v (lies_in a) one.0) one.2).1

default_fits : (plan : Plan) (seen : Seen) (place : Place) (v : ℕ) (a : Value) (entries : Entries) → Writes plan place v
    → AllFit plan entries → AllFit plan (with_default plan seen place v a entries)
default_fits plan seen place v a entries writes all =
    let b = fitted plan v a in
    either plan (takes_default plan seen v b entries) (with_entry v (entered place (Held b) false) entries) entries
    (λ taken. entry_put plan v (entered place (Held b) false) entries all
    (and_from (lies_in_some (grains_of plan v) b)
    (procedure_writes plan v place.statement (slice_get plan.procedures place.procedure))
    (left_lies plan seen v b
    (and_parts (is_none (seen.value v) && is_soft (written_at entries v)) (has_left plan seen v b) taken).1)
    writes)) all

-- all variables of a list are written
abbrev AllWritten : Plan → Place → List ℕ → Type 0
AllWritten plan place [] = Unit {0}
AllWritten plan place (v ∷ vs) = Writes plan place v × AllWritten plan place vs

cell_fits : (plan : Plan) (place : Place) (v : ℕ) (cell : Option Value) (entries : Entries) → Writes plan place v
    → AllFit plan entries
    → AllFit plan (with_cell plan place v cell entries)
cell_fits plan place v None entries writes all = all
cell_fits plan place v (Some a) entries writes all = hard_fits plan place v a entries writes all

cells_fit : (plan : Plan) (place : Place) (row : List Value) (columns : List FilledColumn) (entries : Entries)
    → AllWritten plan place (map (λ column. column.var) columns) → AllFit plan entries
    → AllFit plan (with_cells plan place row columns entries)
cells_fit plan place row [] entries writes all = all
cells_fit plan place row (column ∷ columns) entries writes all =
    cells_fit plan place row columns (with_cell plan place column.var (slice_get row column.column) entries) writes.1
    (cell_fits plan place column.var (slice_get row column.column) entries writes.0 all)

row_fits : (plan : Plan) (place : Place) (columns : List FilledColumn) (row : Option (List Value)) (entries : Entries)
    → AllWritten plan place (map (λ column. column.var) columns) → AllFit plan entries
    → AllFit plan (with_row plan place columns row entries)
row_fits plan place columns None entries writes all = all
row_fits plan place columns (Some row) entries writes all = cells_fit plan place row columns entries writes all

value_put : (plan : Plan) (put : Value → Entries → Entries) (a : Option Value) (entries : Entries)
    → ((b : Value) → AllFit plan (put b entries)) → AllFit plan entries → AllFit plan (with_value put a entries)
value_put plan put None entries puts all = all
value_put plan put (Some a) entries puts all = puts a

acted_fits : (plan : Plan) (seen : Seen) (reading : Reading) (place : Place) (action : Action) (entries : Entries)
    → AllWritten plan place (action_writes action) → AllFit plan entries
    → AllFit plan (acted plan seen reading place action entries)
acted_fits plan seen reading place (Assign v term) entries writes all =
    value_put plan (with_hard plan place v) (value_at plan reading term) entries
    (λ a. hard_fits plan place v a entries writes.0 all) all
acted_fits plan seen reading place (SetDefault v term) entries writes all =
    value_put plan (with_default plan seen place v) (value_at plan reading term) entries
    (λ a. default_fits plan seen place v a entries writes.0 all) all
acted_fits plan seen reading place (DeleteDefault v term) entries writes all =
    value_put plan (without_default plan v) (value_at plan reading term) entries
    (λ a. either plan (is_default_of (fitted plan v a) (written_at entries v)) (with_entry v None entries) entries
    (λ e. entry_put plan v None entries all refl) all) all
acted_fits plan seen reading place (LookUp table keys filled) entries writes all =
    row_fits plan place filled (find (has_keys plan reading keys) (rows_of plan table)) entries writes all

stated_fits : (plan : Plan) (seen : Seen) (user_holds : ℕ → ℕ → Bool) (place : Place) (statement : Statement)
    (entries : Entries)
    → AllWritten plan place (action_writes statement.action) → AllFit plan entries
    → AllFit plan (stated plan seen user_holds place statement entries)
stated_fits plan seen user_holds place statement entries writes all =
    let reading = procedure_reading plan seen entries user_holds in
    either plan (is_true (truth_at plan reading statement.condition))
    (acted plan seen reading place statement.action entries) entries
    (λ e. acted_fits plan seen reading place statement.action entries writes all) all

-- what an action writes is what it names, at the procedure's slot
named_written : (plan : Plan) (place : Place) (procedure : Procedure) (statement : Statement) (vs : List ℕ)
    → slice_get plan.procedures place.procedure ≡ Some procedure
    → slice_get procedure.statements place.statement ≡ Some statement
    → ((v : ℕ) → list_any (λ w. w == v) vs ≡ true → list_any (λ w. w == v) (action_writes statement.action) ≡ true)
    → list_all (is_at plan (procedure.slot ∷ [])) vs ≡ true → AllWritten plan place vs
named_written plan place procedure statement [] is here within at = tt
named_written plan place procedure statement (v ∷ vs) is here within at =
    let p = and_parts (is_at plan (procedure.slot ∷ []) v) (list_all (is_at plan (procedure.slot ∷ [])) vs) at in (
      ap (procedure_writes plan v place.statement) is
          ∙ and_from (is_at plan (procedure.slot ∷ []) v)
          (statement_writes v (slice_get procedure.statements place.statement)) p.0
          (ap (statement_writes v) here ∙ within v (first v vs)),
      named_written plan place procedure statement vs is here (λ u h. within u (more v u vs h)) p.1,
    )
  where
    equal : (u : ℕ) → (u == u) ≡ true
    equal u = eq-eqb u u refl

    first : (u : ℕ) (us : List ℕ) → list_any (λ w. w == u) (u ∷ us) ≡ true
    first u us = ap (λ b. b || list_any (λ w. w == u) us) (equal u)

    more : (x u : ℕ) (us : List ℕ) → list_any (λ w. w == u) us ≡ true → list_any (λ w. w == u) (x ∷ us) ≡ true
    more x u us h = or_true (x == u) (list_any (λ w. w == u) us) h
      where
        or_true : (b c : Bool) → c ≡ true → (b || c) ≡ true
        or_true true c e = refl
        or_true false c e = e

written_at_slot : (plan : Plan) (place : Place) (procedure : Procedure) (statement : Statement)
    → slice_get plan.procedures place.procedure ≡ Some procedure
    → slice_get procedure.statements place.statement ≡ Some statement
    → list_all (is_at plan (procedure.slot ∷ [])) (named_by statement.action) ≡ true
    → AllWritten plan place (action_writes statement.action)
written_at_slot plan place procedure statement is here at =
    named_written plan place procedure statement (action_writes statement.action) is here (λ v h. h)
    (fewer statement.action at)
  where
    fewer : (action : Action) → list_all (is_at plan (procedure.slot ∷ [])) (named_by action) ≡ true
        → list_all (is_at plan (procedure.slot ∷ [])) (action_writes action) ≡ true
    fewer (Assign v term) h = h
    fewer (SetDefault v term) h = h
    fewer (DeleteDefault v term) h = refl
    fewer (LookUp table keys filled) h = h

-- statements that stand from a number on
abbrev Stand : List Statement → ℕ → List Statement → Type 0
Stand all n [] = Unit {0}
Stand all n (statement ∷ statements) = (slice_get all n ≡ Some statement) × Stand all (n + 1) statements

shifted : (first : Statement) (all : List Statement) (n : ℕ) (statements : List Statement) → Stand all n statements
    → Stand (first ∷ all) (suc n) statements
shifted first all n [] h = tt
shifted first all n (statement ∷ statements) h =
    let next : suc (n + 1) ≡ suc n + 1 = omega arith in
    (h.0, subst (λ k. Stand (first ∷ all) k statements) next (shifted first all (n + 1) statements h.1))

standing : (statements : List Statement) → Stand statements 0 statements
standing [] = tt
standing (statement ∷ statements) =
    let next : 1 ≡ 0 + 1 = omega arith in (
      refl,
      subst (λ k. Stand (statement ∷ statements) k statements) next
          (shifted statement statements 0 statements (standing statements)),
    )

all_stated_fit : (plan : Plan) (seen : Seen) (user_holds : ℕ → ℕ → Bool) (p : ℕ) (procedure : Procedure) (n : ℕ)
    (statements : List Statement) (entries : Entries)
    → slice_get plan.procedures p ≡ Some procedure → Stand procedure.statements n statements
    → list_all (λ statement. list_all (is_at plan (procedure.slot ∷ [])) (named_by statement.action)) statements ≡ true
    → AllFit plan entries → AllFit plan (all_stated plan seen user_holds p n statements entries)
all_stated_fit plan seen user_holds p procedure n [] entries is stand own all = all
all_stated_fit plan seen user_holds p procedure n (statement ∷ statements) entries is stand own all =
    let at : Statement → Bool = λ s. list_all (is_at plan (procedure.slot ∷ [])) (named_by s.action) in
    let q = and_parts (at statement) (list_all at statements) own in
    let place : Place = record { procedure = p; statement = n } in
    all_stated_fit plan seen user_holds p procedure (n + 1) statements
    (stated plan seen user_holds place statement entries) is stand.1 q.1
    (stated_fits plan seen user_holds place statement entries
    (written_at_slot plan place procedure statement is stand.0 q.0) all)

run_fits : (plan : Plan) (seen : Seen) (user_holds : ℕ → ℕ → Bool) (p : ℕ) (found : Option Procedure)
    (entries : Entries)
    → slice_get plan.procedures p ≡ found → list_all (writes_own plan) plan.procedures ≡ true → AllFit plan entries
    → AllFit plan (run_procedure plan seen user_holds p found entries)
run_fits plan seen user_holds p None entries is own all = all
run_fits plan seen user_holds p (Some procedure) entries is own all =
    either plan (is_triggered seen user_holds entries procedure.trigger)
    (all_stated plan seen user_holds p 0 procedure.statements entries) entries
    (λ e. all_stated_fit plan seen user_holds p procedure 0 procedure.statements entries is
    (standing procedure.statements)
    (all_at (writes_own plan) plan.procedures p procedure own is) all) all

all_run_fit : (plan : Plan) (seen : Seen) (user_holds : ℕ → ℕ → Bool) (ps : List ℕ) (entries : Entries)
    → list_all (writes_own plan) plan.procedures ≡ true → AllFit plan entries
    → AllFit plan (all_run plan seen user_holds ps entries)
all_run_fit plan seen user_holds [] entries own all = all
all_run_fit plan seen user_holds (p ∷ ps) entries own all =
    all_run_fit plan seen user_holds ps (run_procedure plan seen user_holds p (slice_get plan.procedures p) entries) own
    (run_fits plan seen user_holds p (slice_get plan.procedures p) entries refl own all)

between_fits : (plan : Plan) (users : Users) (later : ℕ) (sets : List (List Atom)) (set : List Atom) (entries : Entries)
    → list_all (writes_own plan) plan.procedures ≡ true → AllFit plan entries
    → AllFit plan (between plan users later sets set entries)
between_fits plan users zero sets set entries own all =
    all_run_fit plan (seen_of set) (holds users)
    (flat_map (procedures_at plan true) (reverse (summing_instances plan sets (seen_of set)))) entries own all
between_fits plan users (suc later) sets set entries own all =
    all_run_fit plan (seen_of set) (holds users)
    (flat_map (procedures_at plan false) (instances_at plan (seen_of set) (length sets))) entries own all

-- the sources at an end: the user's values, and entries that fit
record AtEnd (plan : Plan) (users : Users) (e : Evaluated) : Type 0 where
  entries : Entries
  fit : AllFit plan entries
  are : sources_at_end users e ≡ sources_of users entries

stages_fit_from : (plan : Plan) (users : Users) (later : ℕ) (sets : List (List Atom)) (entries : Entries)
    → list_all (writes_own plan) plan.procedures ≡ true → AllFit plan entries
    → AtEnd plan users (stages_from plan users later sets entries)
stages_fit_from plan users zero sets entries own all = step (settlement_of plan (sources_of users entries))
  where
    step : (s : Settlement Atom)
        → AtEnd plan users (if_settled s (broken_at (length sets) entries) (λ set. reached (sets ++ set ∷ []) entries))
    step broken = record { entries = entries; fit = all; are = refl }
    step (settled set) = record { entries = entries; fit = all; are = refl }
stages_fit_from plan users (suc later) sets entries own all =
    step (λ set. stages_fit_from plan users later (sets ++ set ∷ []) (between plan users later sets set entries) own
    (between_fits plan users later sets set entries own all)) (settlement_of plan (sources_of users entries))
  where
    step : ((set : List Atom)
        → AtEnd plan users (stages_from plan users later (sets ++ set ∷ [])
        (between plan users later sets set entries)))
        → (s : Settlement Atom)
        → AtEnd plan users (if_settled s (broken_at (length sets) entries)
        (λ set. stages_from plan users later (sets ++ set ∷ []) (between plan users later sets set entries)))
    step onwards broken = record { entries = entries; fit = all; are = refl }
    step onwards (settled set) = onwards set

-- nothing is written at first
none_fit : (plan : Plan) (vars : List Var) (u v : ℕ) → Fits plan u (slice_index_or (map (λ x. None) vars) v None)
none_fit plan [] u v = refl
none_fit plan (x ∷ vars) u zero = refl
none_fit plan (x ∷ vars) u (suc v) = none_fit plan vars u v

-- entries as sources
as_source : (entries : Entries) (v : ℕ)
    → slice_index_or (sources_in entries) v None ≡ option_map entry_in (written_at entries v)
as_source [] v = refl
as_source (written ∷ entries) zero = refl
as_source (written ∷ entries) (suc v) = as_source entries v

pub all_pass : (p : ℕ → Bool) (xs : List ℕ) → ((x : ℕ) → p x ≡ true) → list_all p xs ≡ true
all_pass p [] h = refl
all_pass p (x ∷ xs) h = and_from (p x) (list_all p xs) (h x) (all_pass p xs h)

-- what the user may have lies in a grain
user_fits : (plan : Plan) (v : ℕ) (a : Option Value) → may_have_if plan v a ≡ true → value_fits plan v a ≡ true
user_fits plan v None e = refl
user_fits plan v (Some a) e = (and_parts (lies_in_some (grains_of plan v) a) (has_at_most (decimals_of plan v) a) e).0

-- the sources of a user whose values fit, with entries that all do
sources_of_fit : (plan : Plan) (users : Users) (entries : Entries) → users_fit plan users ≡ true → AllFit plan entries
    → sources_fit plan (sources_of users entries) ≡ true
sources_of_fit plan users entries fit all =
    let chosen : ℕ → Bool = λ v. may_have_if plan v (slice_index_or users.values v None) in
    let held : ℕ → Bool = λ set. may_hold plan set (slice_index_or users.texts set []) in
    let p
    = and_parts (list_all chosen (numbers_below (length users.values)))
    (list_all held (numbers_below (length users.texts))) fit in
    let values : list_all (λ v. value_fits plan v (slice_index_or users.values v None))
    (numbers_below (length users.values)) ≡ true
    = all_grows chosen (λ v. value_fits plan v (slice_index_or users.values v None))
    (λ v. user_fits plan v (slice_index_or users.values v None)) (numbers_below (length users.values)) p.0 in
    let written : list_all (λ v. entry_fits plan v (slice_index_or (sources_in entries) v None))
    (numbers_below (length (sources_in entries))) ≡ true
    = all_pass (λ v. entry_fits plan v (slice_index_or (sources_in entries) v None))
    (numbers_below (length (sources_in entries)))
    (λ v. ap (entry_fits plan v) (as_source entries v) ∙ all v) in
    and_from (list_all (λ v. value_fits plan v (slice_index_or users.values v None))
    (numbers_below (length users.values)))
    (list_all (λ v. entry_fits plan v (slice_index_or (sources_in entries) v None))
    (numbers_below (length (sources_in entries))))
    values written

pub evaluations_fit : EvaluationsFit
evaluations_fit plan users own fit =
    let end : AtEnd plan users (evaluation_of plan users)
    = stages_fit_from plan users (last_stage plan) [] (no_entries plan) own (λ v. none_fit plan plan.vars v v) in
    ap (sources_fit plan) end.are ∙ sources_of_fit plan users end.entries fit end.fit

-- entries whose sources fit all do
all_of_sources : (plan : Plan) (users : Users) (entries : Entries) → sources_fit plan (sources_of users entries) ≡ true
    → AllFit plan entries
all_of_sources plan users entries fit v =
    ap (entry_fits plan v) (sym (as_source entries v)) ∙ entry_fit_at plan (sources_of users entries) v fit

pub stages_fit : StagesFit
stages_fit plan users own fit = record {
  first = sources_of_fit plan users (no_entries plan) fit (λ v. none_fit plan plan.vars v v);
  next = λ later sets set entries fits.
      sources_of_fit plan users (between plan users later sets set entries) fit
      (between_fits plan users later sets set entries own (all_of_sources plan users entries fits));
}
