-- Laws of overlays and of what is written before a stage.
use Rattle.std.specs.Prelude.{◌≡◌, ℕ, suc, ◌<◌, Bool, true, false, not, List, length, replicate, slice_index_or, None}
use Rattle.vc_plan.specs.declared.atoms.Atom.{Atom}
use Rattle.vc_plan.specs.declared.plans.Plan.{Plan}
use Rattle.vc_plan.specs.Entries.{Entries, no_entries}
use Rattle.vc_plan.specs.Seen.{Seen, seen_of}
use Rattle.vc_plan.specs.Valid.{IsValid}
use Rattle.vc_plan.specs.Writes.{depth_writes, last_stage, summing_writes, was_here}
use Rattle.vc_proc.specs.Overlays.{EntriesLie}
use Rattle.vc_proc.specs.Stages.{CanRun, stage_written}

-- of a valid plan procedures can run
abbrev pub ValidCanRun : Type 0
ValidCanRun = (plan : Plan) → IsValid plan → CanRun plan

-- before a stage other than the last the procedures of one depth write
abbrev pub DepthsAreWritten : Type 0
DepthsAreWritten = (plan : Plan) (holds : ℕ → ℕ → Bool) (depth : ℕ) (late : List Bool) (set : List Atom)
    (entries : Entries)
    → suc depth < last_stage plan
    → stage_written plan holds (suc depth) late (seen_of set) entries ≡ depth_writes plan holds depth set entries

-- and before the last the summing ones, where of the instances that are here those have a flag that weren't in the
-- stage
-- that their own procedures read
abbrev pub FlagsLate : Plan → List (List Atom) → Seen → List Bool → Type 0
FlagsLate plan sets seen late = (i : ℕ) → i < length plan.slots → seen.here i ≡ true
    → slice_index_or late i false ≡ not (was_here plan sets i)

abbrev pub SumsAreWritten : Type 0
SumsAreWritten = (plan : Plan) (holds : ℕ → ℕ → Bool) (late : List Bool) (sets : List (List Atom)) (set : List Atom)
    (entries : Entries)
    → FlagsLate plan sets (seen_of set) late
    → stage_written plan holds (last_stage plan) late (seen_of set) entries ≡ summing_writes plan holds sets set entries

-- where nothing is written, nothing is that lies outside the grains
abbrev pub NothingLies : Type 0
NothingLies = (plan other : Plan) → EntriesLie plan (no_entries other)

-- an overlay of a plan's variables that is emptied has no entries of the plan
abbrev pub NoneAreReplicas : Type 0
NoneAreReplicas = (plan : Plan) → no_entries plan ≡ replicate (length plan.vars) None

-- what is written before a stage leaves as many entries as there were
abbrev pub StagesKeepLengths : Type 0
StagesKeepLengths = (plan : Plan) (holds : ℕ → ℕ → Bool) (stage : ℕ) (late : List Bool) (seen : Seen)
    (entries : Entries)
    → length (stage_written plan holds stage late seen entries) ≡ length entries
