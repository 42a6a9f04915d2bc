-- What is told of the steps of a log: those that an ending needs, and the chain of reasons for an atom.
use Rattle.std.specs.Prelude.{ℕ, suc, Bool, true, false, List, [], position, take, Option, None, Some}
use Rattle.vc_plan.specs.declared.atoms.Atom.{Atom}
use Rattle.vc_plan.specs.declared.atoms.Step.{Step}
use Rattle.vc_plan.specs.Seen.{same_atom}
use Rattle.vc_plan_reasons.specs.Checking.{concluded}
use Rattle.vc_plan_reasons.specs.Trimming.{numbers_left, trimmed, trimmed_chain}
use Rattle.vc_net_chains.specs.declared.chains.Trimmed.{Trimmed}

-- what an ending needs, and the ending's numbers then
abbrev pub trimmed_for : List ℕ → List Step → Trimmed
trimmed_for ending steps = record { steps = trimmed ending steps; ending = numbers_left ending steps }

-- what is asked of the steps before a last one besides the ending, if that cites the last
abbrev pub asked_with : Bool → Step → List ℕ
asked_with true last = last.premises
asked_with false last = []

-- the chain of the first step that concludes an atom, by its number, counted from 0
abbrev pub chain_at : List Step → Option ℕ → Option (List Step)
chain_at steps None = None
chain_at steps (Some n) = Some (trimmed_chain (take (suc n) steps))

abbrev pub chain_in : List Step → Atom → Option (List Step)
chain_in steps atom = chain_at steps (position (same_atom atom) (concluded steps))
