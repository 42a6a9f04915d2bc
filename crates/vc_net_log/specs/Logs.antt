-- What a net has concluded: steps, each with the premises that it follows from.
use Rattle.std.specs.Prelude.{ℕ, ◌+◌, ◌-◌, List, [], ◌∷◌, ◌++◌, length, map, slice_index_or}
use Rattle.std.specs.List.{sum_by}
use Rattle.vc_plan.specs.declared.atoms.Atom.{Atom}
use Rattle.vc_plan.specs.declared.atoms.Step.{Step}
use Rattle.vc_plan.specs.Seen.{Seen, seen_of}
use Rattle.vc_plan_blame.specs.Blame.{number_of}
use Rattle.vc_plan_reasons.specs.Checking.{concluded, set_with}
use Rattle.vc_net_places.specs.Places.{Index}
use Rattle.vc_net_standing.specs.declared.standing.Fact.{Fact}
use Rattle.vc_net_standing.specs.Standing.{Stood}

-- what is kept of a plan's places, where the cells of each place begin, and the steps, in the order in which they came
pub record Logged : Type 0 where
  pub index : Index
  pub begins : List ℕ
  pub steps : List Step

-- what the steps conclude, with who gave it
abbrev pub fact_of : Step → Fact
fact_of step = record { atom = step.conclusion; origin = step.origin }

abbrev pub facts_of : List Step → List Fact
facts_of steps = map fact_of steps

abbrev pub stood_of : Logged → Stood
stood_of log = record { index = log.index; facts = facts_of log.steps }

-- what a log says, with what stands from the start
abbrev pub set_of : Logged → List Atom
set_of log = set_with (concluded log.steps)

abbrev pub seen_by : Logged → Seen
seen_by log = seen_of (set_of log)

-- no step
abbrev pub nothing_logged : Index → List ℕ → Logged
nothing_logged index begins = record { index = index; begins = begins; steps = [] }

-- how many premises there is room for at a place
abbrev pub room_at : List ℕ → ℕ → ℕ
room_at begins p = slice_index_or begins (p + 1) 0 - slice_index_or begins p 0

-- how many premises there is room for at all places, and how many all steps have
abbrev pub cells_of : Logged → ℕ
cells_of log = slice_index_or log.begins (length log.index.things) 0

abbrev pub premise_count : List Step → ℕ
premise_count steps = sum_by (λ step. length step.premises) steps

-- the numbers by which steps cite atoms, and the step that concludes a fact from premises
abbrev pub cited_by : List Step → List Atom → List ℕ
cited_by steps premises = map (number_of (concluded steps)) premises

abbrev pub step_from : List Step → Fact → List Atom → Step
step_from steps fact premises =
    record { conclusion = fact.atom; origin = fact.origin; premises = cited_by steps premises }

-- with this step as the last
abbrev pub with_step : Logged → Fact → List Atom → Logged
with_step log fact premises =
    record { index = log.index; begins = log.begins; steps = log.steps ++ step_from log.steps fact premises ∷ [] }
