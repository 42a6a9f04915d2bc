-- The stages in which procedures run, and what those of a stage write.
use Rattle.std.specs.Prelude.{ℕ, zero, suc, ◌+◌, max, Bool, true, false, not, ◌&&◌, ◌||◌, ◌==◌, if◌then◌else◌, List, []}
use Rattle.std.specs.Prelude.{◌∷◌, length, reverse, slice_get, Option, None, Some}
use Rattle.std.specs.List.{filter, flat_map, list_any}
use Rattle.vc_plan.specs.declared.atoms.Atom.{Atom}
use Rattle.vc_plan.specs.declared.conditions.Condition.{Condition}
use Rattle.vc_plan.specs.declared.plans.Plan.{Plan}
use Rattle.vc_plan.specs.declared.plans.Slot.{Slot}
use Rattle.vc_plan.specs.declared.procedures.Action.{Action}
use Rattle.vc_plan.specs.declared.procedures.Action.TheVariants.{Assign, SetDefault, DeleteDefault, LookUp}
use Rattle.vc_plan.specs.declared.procedures.Procedure.{Procedure}
use Rattle.vc_plan.specs.declared.procedures.Statement.{Statement}
use Rattle.vc_plan.specs.declared.procedures.Trigger.{Trigger}
use Rattle.vc_plan.specs.declared.procedures.Trigger.TheVariants.{Anyway, ValueIn, TextIn}
use Rattle.vc_plan.specs.declared.terms.Term.{Term}
use Rattle.vc_plan.specs.Domains.{numbers_below}
use Rattle.vc_plan.specs.Entries.{Entries, value_read}
use Rattle.vc_plan.specs.Monotone.{condition_sums, has_part_sum}
use Rattle.vc_plan.specs.Pieces.{lies_in}
use Rattle.vc_plan.specs.Seen.{Seen, seen_of}
use Rattle.vc_plan.specs.Slots.{depth_in}
use Rattle.vc_plan.specs.Statements.{all_stated}
use Rattle.vc_plan.specs.TableRows.{cell_passes}

-- whether a term, or a condition, has a sum over parts, if it is there
abbrev pub term_sums : Option Term → Bool
term_sums None = false
term_sums (Some term) = has_part_sum term

abbrev pub asked_sums : Option Condition → Bool
asked_sums None = false
asked_sums (Some condition) = condition_sums condition

abbrev pub action_sums : Plan → Action → Bool
action_sums plan (Assign v term) = term_sums (slice_get plan.terms term)
action_sums plan (SetDefault v term) = term_sums (slice_get plan.terms term)
action_sums plan (DeleteDefault v term) = term_sums (slice_get plan.terms term)
action_sums plan (LookUp table keys filled) = list_any (λ key. term_sums (slice_get plan.terms key.term)) keys

abbrev pub statement_sums : Plan → Statement → Bool
statement_sums plan statement = action_sums plan statement.action
    || asked_sums (slice_get plan.conditions statement.condition)

-- a summing procedure has a sum over parts in one of its statements
abbrev pub is_summing : Plan → Procedure → Bool
is_summing plan procedure = list_any (statement_sums plan) procedure.statements

-- whether the procedure runs, by what it reads before its first statement
abbrev pub is_triggered : Seen → (ℕ → ℕ → Bool) → Entries → Trigger → Bool
is_triggered seen holds entries Anyway = true
is_triggered seen holds entries (ValueIn v piece) = cell_passes (λ a. lies_in a piece) (value_read seen entries v)
is_triggered seen holds entries (TextIn set text) = holds set text

-- what a procedure writes
abbrev pub run_procedure : Plan → Seen → (ℕ → ℕ → Bool) → ℕ → Option Procedure → Entries → Entries
run_procedure plan seen holds p None entries = entries
run_procedure plan seen holds p (Some procedure) entries =
    let after = all_stated plan seen holds p 0 procedure.statements entries in
    if is_triggered seen holds entries procedure.trigger then after else entries

-- what procedures write, one after another
abbrev pub all_run : Plan → Seen → (ℕ → ℕ → Bool) → List ℕ → Entries → Entries
all_run plan seen holds [] entries = entries
all_run plan seen holds (p ∷ procedures) entries =
    all_run plan seen holds procedures (run_procedure plan seen holds p (slice_get plan.procedures p) entries)

-- the depth of a slot, and the greatest
abbrev pub depth_of : Plan → ℕ → ℕ
depth_of plan i = depth_in (slice_get plan.slots i)

abbrev pub greatest_depth : List Slot → ℕ
greatest_depth [] = 0
greatest_depth (slot ∷ slots) = max slot.depth (greatest_depth slots)

-- the number of the last stage: stage 0 is the user's, each depth has one for its instances, and the last is for sums
abbrev pub last_stage : Plan → ℕ
last_stage plan = greatest_depth plan.slots + 2

-- how many stages there are: they are numbered from 0
abbrev pub stages : Plan → ℕ
stages plan = last_stage plan + 1

-- the summing procedures of a slot, or its others, in their order
abbrev pub is_at : Plan → Bool → ℕ → Option Procedure → Bool
is_at plan summing i None = false
is_at plan summing i (Some procedure) = (procedure.slot == i)
    && (if is_summing plan procedure then summing else not summing)

abbrev pub procedures_at : Plan → Bool → ℕ → List ℕ
procedures_at plan summing i =
    filter (λ p. is_at plan summing i (slice_get plan.procedures p)) (numbers_below (length plan.procedures))

-- the instances of a depth that are here, by slot number
abbrev pub instances_at : Plan → Seen → ℕ → List ℕ
instances_at plan seen depth =
    filter (λ i. (depth_of plan i == depth) && seen.here i) (numbers_below (length plan.slots))

-- the set of a stage, by its number
abbrev pub set_at : List (List Atom) → ℕ → List Atom
set_at [] k = []
set_at (set ∷ sets) zero = set
set_at (set ∷ sets) (suc k) = set_at sets k

-- whether the slot was here in the stage that its own procedures read: the one whose number is its depth
abbrev pub was_here : Plan → List (List Atom) → ℕ → Bool
was_here plan sets i = (seen_of (set_at sets (depth_of plan i))).here i

-- the instances whose sums are taken: here, and not late
abbrev pub summing_instances : Plan → List (List Atom) → Seen → List ℕ
summing_instances plan sets seen = filter (λ i. seen.here i && was_here plan sets i) (numbers_below (length plan.slots))

-- what the procedures write that run between a stage and the next, one depth's own
abbrev pub depth_writes : Plan → (ℕ → ℕ → Bool) → ℕ → List Atom → Entries → Entries
depth_writes plan holds depth set entries =
    let seen = seen_of set in
    all_run plan seen holds (flat_map (procedures_at plan false) (instances_at plan seen depth)) entries

-- and the summing ones before the last stage, from the last slot to the first
abbrev pub summing_writes : Plan → (ℕ → ℕ → Bool) → List (List Atom) → List Atom → Entries → Entries
summing_writes plan holds sets set entries =
    let seen = seen_of set in
    all_run plan seen holds (flat_map (procedures_at plan true) (reverse (summing_instances plan sets seen))) entries
