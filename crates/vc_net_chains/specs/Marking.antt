-- Flags of steps, set from the last step back.
use Rattle.std.specs.Prelude.{ℕ, zero, suc, Bool, false, ◌||◌, if◌then◌else◌, List, [], ◌∷◌, slice_index_or}
use Rattle.vc_base.specs.Chains.{is_among}
use Rattle.vc_plan.specs.declared.atoms.Step.{Step}
use Rattle.vc_net_log.specs.Numbers.{premises_of}

-- the flags with those set, of the first so many, whose number is among these; the first flag has this number
abbrev pub marked : ℕ → ℕ → List ℕ → List Bool → List Bool
marked n zero numbers flags = flags
marked n (suc m) numbers [] = []
marked n (suc m) numbers (flag ∷ flags) = (flag || is_among n numbers) ∷ marked (suc n) m numbers flags

-- with those set whose number is the one or the other of these, of the flags from number 1 on
abbrev pub marked_each : ℕ → List ℕ → List Bool → List Bool
marked_each m [] flags = flags
marked_each m (k ∷ numbers) flags = marked_each m numbers (marked 1 m (k ∷ []) flags)

-- with what the step cites before it, if it is flagged itself; steps are counted from 0
abbrev pub with_cited : List Step → ℕ → List Bool → List Bool
with_cited steps k flags =
    let cited = marked_each k (premises_of steps k) flags in if slice_index_or flags k false then cited else flags

-- the same of so many steps, from the last of them back
abbrev pub with_all_cited : List Step → ℕ → List Bool → List Bool
with_all_cited steps zero flags = flags
with_all_cited steps (suc k) flags = with_all_cited steps k (with_cited steps k flags)
