-- The stages from the user's values to the last.
use Rattle.std.specs.Prelude.{ℕ, zero, suc, Bool, not, ◌&&◌, ◌==◌, List, [], ◌∷◌, ◌++◌, length, slice_index_or, Option}
use Rattle.std.specs.List.{list_any}
use Rattle.vc_base.specs.Rounds.{Settlement, broken, settled}
use Rattle.vc_value.specs.declared.value.Value.{Value}
use Rattle.vc_plan.specs.declared.atoms.Atom.{Atom}
use Rattle.vc_plan.specs.declared.plans.Plan.{Plan}
use Rattle.vc_plan.specs.Entries.{Entries, no_entries, sources_in}
use Rattle.vc_plan.specs.Seen.{seen_of}
use Rattle.vc_plan.specs.Settle.{settlement_of}
use Rattle.vc_plan.specs.Sources.{Sources}
use Rattle.vc_plan.specs.Writes.{depth_writes, last_stage, set_at, summing_writes, was_here}

-- what the user set: of each variable its value, and of each set its texts
pub record Users : Type 0 where
  pub values : List (Option Value)
  pub texts : List (List ℕ)

-- whether the user put the text into the set
abbrev pub holds : Users → ℕ → ℕ → Bool
holds users set text = list_any (λ t. t == text) (slice_index_or users.texts set [])

-- the sources of a stage
abbrev pub sources_of : Users → Entries → Sources
sources_of users entries = record { user = users.values; written = sources_in entries }

-- how the stages end: broken at one, with what was written before it, or settled, with the sets of all stages and what
-- was
-- written
pub data Evaluated : Type 0 where
  broken_at : ℕ → Entries → Evaluated
  reached : List (List Atom) → Entries → Evaluated

-- what is written between a stage and the next, of which this is the number: the last takes the sums
abbrev pub between : Plan → Users → ℕ → List (List Atom) → List Atom → Entries → Entries
between plan users zero sets set entries = summing_writes plan (holds users) sets set entries
between plan users (suc later) sets set entries = depth_writes plan (holds users) (length sets) set entries

-- what follows where a stage settles; where it breaks, later stages aren't asked for
abbrev pub if_settled : Settlement Atom → Evaluated → (List Atom → Evaluated) → Evaluated
if_settled broken stopped onwards = stopped
if_settled (settled set) stopped onwards = onwards set

-- the stages from one on, with the sets of those before it; so many follow it
abbrev pub stages_from : Plan → Users → ℕ → List (List Atom) → Entries → Evaluated
stages_from plan users zero sets entries =
    if_settled (settlement_of plan (sources_of users entries)) (broken_at (length sets) entries)
    (λ set. reached (sets ++ set ∷ []) entries)
stages_from plan users (suc later) sets entries =
    if_settled (settlement_of plan (sources_of users entries)) (broken_at (length sets) entries)
    (λ set. stages_from plan users later (sets ++ set ∷ []) (between plan users later sets set entries))

-- the evaluation of the user's values, from nothing
abbrev pub evaluation_of : Plan → Users → Evaluated
evaluation_of plan users = stages_from plan users (last_stage plan) [] (no_entries plan)

-- the set of the last stage
abbrev pub last_set : Plan → List (List Atom) → List Atom
last_set plan sets = set_at sets (last_stage plan)

-- whether an instance is late: it came after the stage that its own procedures read
abbrev pub is_late : Plan → List (List Atom) → ℕ → Bool
is_late plan sets i = (seen_of (last_set plan sets)).here i && not (was_here plan sets i)
