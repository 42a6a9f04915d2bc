-- Which line is told of a text that spells no chain file.
use Rattle.std.specs.Prelude.{◌≡◌, ◌≤◌, ℕ, ◌+◌, List, ◌++◌, length, take, Ok, Err}
use Rattle.vc_plan.specs.declared.plans.Plan.{Plan}
use Rattle.vc_wire_chains.specs.declared.drafts.ChainFile.{ChainFile}
use Rattle.vc_wire_chains.specs.Files.{chain_in}

-- whether the lines of some chain file begin with these
abbrev pub BeginAFile : Plan → List (List ℕ) → Type 0
BeginAFile plan front = (more : List (List ℕ)) × (file : ChainFile) × (chain_in plan (front ++ more) ≡ Ok file)

-- the lines before the one that is told begin a chain file, and with it they begin none
abbrev pub FirstFaultIsTold : Type 0
FirstFaultIsTold = (plan : Plan) (lines : List (List ℕ)) (n : ℕ) → chain_in plan lines ≡ Err n
    → ((before : ℕ) → n ≡ before + 1 → BeginAFile plan (take before lines))
    × (n ≤ length lines → BeginAFile plan (take n lines) → ⊥)
