-- Procedures leave the variables of other slots alone.
use Rattle.std.proofs.Common.{◌≡◌, ◌≢◌, ℕ, zero, suc, ◌+◌, Bool, true, false, cond, not, ◌||◌, List, [], ◌∷◌, ◌++◌}
use Rattle.std.proofs.Common.{length, map, reverse, refl, sym, ap, ◌∙◌}
use mathlib.Core.List.{reverse_aux}
use Rattle.std.proofs.lemmas.Bool.{and_parts, eqb-true}
use Rattle.std.proofs.lemmas.List.{get_or-set_other}
use Rattle.std.specs.Prelude.{Option, None, Some, slice_get, flat_map, if◌then◌else◌, ◌==◌}
use Rattle.std.specs.List.{filter, find, list_all, list_any}
use Rattle.vc_value.specs.declared.value.Value.{Value}
use Rattle.vc_plan.specs.declared.plans.Plan.{Plan}
use Rattle.vc_plan.specs.declared.procedures.Action.{Action}
use Rattle.vc_plan.specs.declared.procedures.Action.TheVariants.{Assign, SetDefault, DeleteDefault, LookUp}
use Rattle.vc_plan.specs.declared.procedures.FilledColumn.{FilledColumn}
use Rattle.vc_plan.specs.declared.procedures.Procedure.{Procedure}
use Rattle.vc_plan.specs.declared.procedures.Statement.{Statement}
use Rattle.vc_plan.specs.Domains.{numbers_below}
use Rattle.vc_plan.specs.Entries.{Entries, Written, with_entry, written_at}
use Rattle.vc_plan.specs.Kleene.{is_true}
use Rattle.vc_plan.specs.LookUps.{named_by, writes_own}
use Rattle.vc_plan.specs.Parts.{procedure_reading}
use Rattle.vc_plan.specs.Readings.{Reading}
use Rattle.vc_plan.specs.RuleShapes.{is_among, is_at}
use Rattle.vc_plan.specs.Seen.{Seen, seen_of, slot_in}
use Rattle.vc_plan.specs.StageLaws.{StagesWriteTheirOwn, SumsWriteTheirOwn}
use Rattle.vc_plan.specs.Statements.{Place, acted, all_stated, entered, fitted, has_keys, is_default_of, mark_of}
use Rattle.vc_plan.specs.Statements.{stated, takes_default, with_cell, with_cells, with_default, with_hard, with_row}
use Rattle.vc_plan.specs.Statements.{with_value, without_default}
use Rattle.vc_plan.specs.TableRows.{rows_of}
use Rattle.vc_plan.specs.Truth.{truth_at, value_at}
use Rattle.vc_plan.specs.Writes as writes
use Rattle.vc_plan.specs.Writes.{all_run, depth_writes, instances_at, is_triggered, procedures_at, run_procedure}
use Rattle.vc_plan.specs.Writes.{summing_instances, summing_writes}

-- the entry of a variable stays
abbrev Stays : ℕ → Entries → Entries → Type 0
Stays v entries after = written_at after v ≡ written_at entries v

-- whichever of two the test takes
either : (v : ℕ) (entries : Entries) (b : Bool) (x y : Entries) → Stays v entries x → Stays v entries y
    → Stays v entries (if b then x else y)
either v entries true x y p q = p
either v entries false x y p q = q

-- an entry for another variable
other_entry : (v w : ℕ) (written : Option Written) (entries : Entries) → v ≢ w
    → Stays v entries (with_entry w written entries)
other_entry v w written entries apart = get_or-set_other entries w v written None apart

hard_stays : (plan : Plan) (place : Place) (v w : ℕ) (a : Value) (entries : Entries) → v ≢ w
    → Stays v entries (with_hard plan place w a entries)
hard_stays plan place v w a entries apart =
    other_entry v w (entered place (mark_of plan w (fitted plan w a)) true) entries apart

-- a variable that isn't among those that are written
abbrev NoneOf : ℕ → List ℕ → Type 0
NoneOf v [] = Unit {0}
NoneOf v (w ∷ ws) = (v ≢ w) × NoneOf v ws

cell_stays : (plan : Plan) (place : Place) (v w : ℕ) (cell : Option Value) (entries : Entries) → v ≢ w
    → Stays v entries (with_cell plan place w cell entries)
cell_stays plan place v w None entries apart = refl
cell_stays plan place v w (Some a) entries apart = hard_stays plan place v w a entries apart

cells_stay : (plan : Plan) (place : Place) (v : ℕ) (row : List Value) (columns : List FilledColumn) (entries : Entries)
    → NoneOf v (map (λ column. column.var) columns) → Stays v entries (with_cells plan place row columns entries)
cells_stay plan place v row [] entries none = refl
cells_stay plan place v row (column ∷ columns) entries none =
    cells_stay plan place v row columns (with_cell plan place column.var (slice_get row column.column) entries) none.1
    ∙ cell_stays plan place v column.var (slice_get row column.column) entries none.0

row_stays : (plan : Plan) (place : Place) (v : ℕ) (columns : List FilledColumn) (row : Option (List Value))
    (entries : Entries)
    → NoneOf v (map (λ column. column.var) columns) → Stays v entries (with_row plan place columns row entries)
row_stays plan place v columns None entries none = refl
row_stays plan place v columns (Some row) entries none = cells_stay plan place v row columns entries none

value_stays : (v : ℕ) (put : Value → Entries → Entries) (a : Option Value) (entries : Entries)
    → ((b : Value) → Stays v entries (put b entries)) → Stays v entries (with_value put a entries)
value_stays v put None entries stays = refl
value_stays v put (Some a) entries stays = stays a

acted_stays : (plan : Plan) (seen : Seen) (reading : Reading) (place : Place) (v : ℕ) (action : Action)
    (entries : Entries)
    → NoneOf v (named_by action) → Stays v entries (acted plan seen reading place action entries)
acted_stays plan seen reading place v (Assign w term) entries none =
    value_stays v (with_hard plan place w) (value_at plan reading term) entries
    (λ a. hard_stays plan place v w a entries none.0)
acted_stays plan seen reading place v (SetDefault w term) entries none =
    value_stays v (with_default plan seen place w) (value_at plan reading term) entries
    (λ a. either v entries (takes_default plan seen w (fitted plan w a) entries) _ entries
    (other_entry v w _ entries none.0) refl)
acted_stays plan seen reading place v (DeleteDefault w term) entries none =
    value_stays v (without_default plan w) (value_at plan reading term) entries
    (λ a. either v entries (is_default_of (fitted plan w a) (written_at entries w)) _ entries
    (other_entry v w None entries none.0) refl)
acted_stays plan seen reading place v (LookUp table keys filled) entries none =
    row_stays plan place v filled (find (has_keys plan reading keys) (rows_of plan table)) entries none

stated_stays : (plan : Plan) (seen : Seen) (holds : ℕ → ℕ → Bool) (place : Place) (v : ℕ) (statement : Statement)
    (entries : Entries)
    → NoneOf v (named_by statement.action) → Stays v entries (stated plan seen holds place statement entries)
stated_stays plan seen holds place v statement entries none =
    either v entries (is_true (truth_at plan (procedure_reading plan seen entries holds) statement.condition)) _ entries
    (acted_stays plan seen (procedure_reading plan seen entries holds) place v statement.action entries none) refl

-- what is written at a slot isn't a variable of another
apart_at : (plan : Plan) (slots : List ℕ) (v : ℕ) (ws : List ℕ) → is_at plan slots v ≡ false
    → list_all (is_at plan slots) ws ≡ true → NoneOf v ws
apart_at plan slots v [] outside inside = tt
apart_at plan slots v (w ∷ ws) outside inside =
    let parts = and_parts (is_at plan slots w) (list_all (is_at plan slots) ws) inside in
    (λ same. differ (sym outside ∙ ap (is_at plan slots) same ∙ parts.0), apart_at plan slots v ws outside parts.1)
  where
    differ : false ≡ true → ⊥
    differ e = cc

all_stated_stay : (plan : Plan) (seen : Seen) (holds : ℕ → ℕ → Bool) (slots : List ℕ) (p n v : ℕ)
    (statements : List Statement) (entries : Entries)
    → is_at plan slots v ≡ false
    → list_all (λ statement. list_all (is_at plan slots) (named_by statement.action)) statements ≡ true
    → Stays v entries (all_stated plan seen holds p n statements entries)
all_stated_stay plan seen holds slots p n v [] entries outside inside = refl
all_stated_stay plan seen holds slots p n v (statement ∷ statements) entries outside inside =
    let parts
    = and_parts (list_all (is_at plan slots) (named_by statement.action))
    (list_all (λ s. list_all (is_at plan slots) (named_by s.action)) statements) inside in
    all_stated_stay plan seen holds slots p (n + 1) v statements
    (stated plan seen holds (record { procedure = p; statement = n }) statement entries) outside parts.1
    ∙ stated_stays plan seen holds (record { procedure = p; statement = n }) v statement entries
    (apart_at plan slots v (named_by statement.action) outside parts.0)

-- a procedure of the plan writes at its own slot
own : (plan : Plan) (procedures : List Procedure) (p : ℕ) (procedure : Procedure)
    → list_all (writes_own plan) procedures ≡ true
    → slice_get procedures p ≡ Some procedure → writes_own plan procedure ≡ true
own plan [] p procedure all is = absurd (cc is)
own plan (first ∷ more) zero procedure all is =
    let same : first ≡ procedure
    = cc is in ap (writes_own plan) (sym same)
    ∙ (and_parts (writes_own plan first) (list_all (writes_own plan) more) all).0
own plan (first ∷ more) (suc p) procedure all is =
    own plan more p procedure (and_parts (writes_own plan first) (list_all (writes_own plan) more) all).1 is

run_stays : (plan : Plan) (seen : Seen) (holds : ℕ → ℕ → Bool) (summing : Bool) (i p v : ℕ) (found : Option Procedure)
    (entries : Entries)
    → list_all (writes_own plan) plan.procedures ≡ true → slice_get plan.procedures p ≡ found
    → writes.is_at plan summing i found ≡ true
    → is_at plan (i ∷ []) v ≡ false → Stays v entries (run_procedure plan seen holds p found entries)
run_stays plan seen holds summing i p v None entries all is at outside = refl
run_stays plan seen holds summing i p v (Some procedure) entries all is at outside =
    let here : procedure.slot ≡ i
    = eqb-true procedure.slot i
    (and_parts (procedure.slot == i) (if writes.is_summing plan procedure then summing else not summing) at).0 in
    let elsewhere : is_at plan (procedure.slot ∷ []) v ≡ false = ap (λ j. is_at plan (j ∷ []) v) here ∙ outside in
    either v entries (is_triggered seen holds entries procedure.trigger) _ entries
    (all_stated_stay plan seen holds (procedure.slot ∷ []) p 0 v procedure.statements entries elsewhere
    (own plan plan.procedures p procedure all is)) refl

-- the procedures of one slot
slot_step : (plan : Plan) (seen : Seen) (holds : ℕ → ℕ → Bool) (summing : Bool) (i p v : ℕ) (rest : List ℕ)
    (entries : Entries) (b : Bool)
    → list_all (writes_own plan) plan.procedures ≡ true → is_at plan (i ∷ []) v ≡ false
    → writes.is_at plan summing i (slice_get plan.procedures p) ≡ b
    → ((later : Entries) → Stays v later (all_run plan seen holds rest later))
    → Stays v entries (all_run plan seen holds (cond b (p ∷ rest) rest) entries)
slot_step plan seen holds summing i p v rest entries true all outside at stays =
    stays (run_procedure plan seen holds p (slice_get plan.procedures p) entries)
    ∙ run_stays plan seen holds summing i p v (slice_get plan.procedures p) entries all refl at outside
slot_step plan seen holds summing i p v rest entries false all outside at stays = stays entries

slot_stays : (plan : Plan) (seen : Seen) (holds : ℕ → ℕ → Bool) (summing : Bool) (i v : ℕ) (ps : List ℕ)
    (entries : Entries)
    → list_all (writes_own plan) plan.procedures ≡ true → is_at plan (i ∷ []) v ≡ false
    → Stays v entries (all_run plan seen holds
    (filter (λ p. writes.is_at plan summing i (slice_get plan.procedures p)) ps) entries)
slot_stays plan seen holds summing i v [] entries all outside = refl
slot_stays plan seen holds summing i v (p ∷ ps) entries all outside =
    slot_step plan seen holds summing i p v (filter (λ q. writes.is_at plan summing i (slice_get plan.procedures q)) ps)
    entries
    (writes.is_at plan summing i (slice_get plan.procedures p)) all outside refl
    (λ later. slot_stays plan seen holds summing i v ps later all outside)

-- one after another
run_both : (plan : Plan) (seen : Seen) (holds : ℕ → ℕ → Bool) (ps qs : List ℕ) (entries : Entries)
    → all_run plan seen holds (ps ++ qs) entries ≡ all_run plan seen holds qs (all_run plan seen holds ps entries)
run_both plan seen holds [] qs entries = refl
run_both plan seen holds (p ∷ ps) qs entries =
    run_both plan seen holds ps qs (run_procedure plan seen holds p (slice_get plan.procedures p) entries)

-- a variable outside all of these slots is outside each
first_outside : (b c : Bool) → (b || c) ≡ false → (b ≡ false) × (c ≡ false)
first_outside true c e = absurd (cc e)
first_outside false c e = (refl, e)

abbrev Outside : Plan → List ℕ → ℕ → Type 0
Outside plan [] v = Unit {0}
Outside plan (i ∷ slots) v = (is_at plan (i ∷ []) v ≡ false) × Outside plan slots v

outside_each : (plan : Plan) (slots : List ℕ) (v : ℕ) (slot : Option ℕ) → slot_in (slice_get plan.vars v) ≡ slot
    → is_among slots slot ≡ false → Outside plan slots v
outside_each plan [] v slot is outside = tt
outside_each plan (i ∷ slots) v None is outside = (ap (is_among (i ∷ [])) is, outside_each plan slots v None is refl)
outside_each plan (i ∷ slots) v (Some j) is outside =
    let parts = first_outside (i == j) (list_any (λ k. k == j) slots) outside in
    (ap (is_among (i ∷ [])) is ∙ ap (λ b. b || false) parts.0, outside_each plan slots v (Some j) is parts.1)

slots_stay : (plan : Plan) (seen : Seen) (holds : ℕ → ℕ → Bool) (summing : Bool) (v : ℕ) (slots : List ℕ)
    (entries : Entries)
    → list_all (writes_own plan) plan.procedures ≡ true → Outside plan slots v
    → Stays v entries (all_run plan seen holds (flat_map (procedures_at plan summing) slots) entries)
slots_stay plan seen holds summing v [] entries all outside = refl
slots_stay plan seen holds summing v (i ∷ slots) entries all outside =
    ap (λ e. written_at e v)
    (run_both plan seen holds (procedures_at plan summing i) (flat_map (procedures_at plan summing) slots) entries)
    ∙ slots_stay plan seen holds summing v slots (all_run plan seen holds (procedures_at plan summing i) entries) all
    outside.1
    ∙ slot_stays plan seen holds summing i v (numbers_below (length plan.procedures)) entries all outside.0

-- in either direction
outside_onto : (plan : Plan) (v : ℕ) (slots done : List ℕ) → Outside plan slots v → Outside plan done v
    → Outside plan (reverse_aux slots done) v
outside_onto plan v [] done outside before = before
outside_onto plan v (i ∷ slots) done outside before = outside_onto plan v slots (i ∷ done) outside.1 (outside.0, before)

pub stages_write_their_own : StagesWriteTheirOwn
stages_write_their_own plan all holds depth set entries v outside =
    slots_stay plan (seen_of set) holds false v (instances_at plan (seen_of set) depth) entries all
    (outside_each plan (instances_at plan (seen_of set) depth) v (slot_in (slice_get plan.vars v)) refl outside)

pub sums_write_their_own : SumsWriteTheirOwn
sums_write_their_own plan all holds sets set entries v outside =
    slots_stay plan (seen_of set) holds true v (reverse (summing_instances plan sets (seen_of set))) entries all
    (outside_onto plan v (summing_instances plan sets (seen_of set)) []
    (outside_each plan (summing_instances plan sets (seen_of set)) v (slot_in (slice_get plan.vars v)) refl outside) tt)
