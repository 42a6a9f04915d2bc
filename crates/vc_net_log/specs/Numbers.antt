-- The steps of a log by number, and their premises by place.
use Rattle.std.specs.Prelude.{ℕ, List, [], slice_get, Option, None, Some}
use Rattle.vc_plan.specs.declared.atoms.Step.{Step}
use Rattle.vc_net_standing.specs.Standing.{places_of}
use Rattle.vc_net_log.specs.Keeping.{number_at}
use Rattle.vc_net_log.specs.Logs.{Logged, facts_of}

-- the number of the step that concludes what is at a place
abbrev pub number_by_place : Logged → ℕ → ℕ
number_by_place log p = number_at (places_of log.index (facts_of log.steps)) p

-- the numbers that a step cites
abbrev pub premises_in : Option Step → List ℕ
premises_in None = []
premises_in (Some step) = step.premises

abbrev pub premises_of : List Step → ℕ → List ℕ
premises_of steps n = premises_in (slice_get steps n)
