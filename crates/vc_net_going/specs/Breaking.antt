-- What broke a net, as it is kept: a clash of a giver, or a fact that can't stand beside the others.
use Rattle.std.specs.Prelude.{ℕ, List, [], ◌∷◌, ◌++◌, Option, None, Some}
use Rattle.vc_plan.specs.declared.atoms.Atom.{Atom}
use Rattle.vc_plan.specs.declared.atoms.Clash.{Clash}
use Rattle.vc_plan.specs.declared.atoms.Culprit.{Culprit}
use Rattle.vc_plan.specs.declared.atoms.Step.{Step}
use Rattle.vc_plan.specs.declared.plans.Plan.{Plan}
use Rattle.vc_plan_blame.specs.Blame.{clash_by}
use Rattle.vc_plan_reasons.specs.Checking.{concluded}
use Rattle.vc_rule_yield.specs.Filling.{Filled, emptied, with_items}
use Rattle.vc_net_standing.specs.declared.standing.Fact.{Fact}
use Rattle.vc_net_blame.specs.Finding.{colliding_with, culprit_for}
use Rattle.vc_net_log.specs.Logs.{cited_by, step_from}
use Rattle.vc_net_going.specs.declared.breaker.Breaker.{Breaker}

-- nothing, with room for so many
abbrev pub no_premises : ℕ → Filled Atom
no_premises room = record { items = []; room = room }

abbrev pub nothing_broken : ℕ → ℕ → Breaker
nothing_broken reasons premises =
    record { culprit = None; fact = None; reasons = no_premises reasons; premises = no_premises premises }

-- nothing any more
abbrev pub unbroken : Breaker → Breaker
unbroken kept =
    record { culprit = None; fact = None; reasons = emptied kept.reasons; premises = emptied kept.premises }

-- a clash from these premises
abbrev pub clashed : Breaker → Option Culprit → List Atom → Breaker
clashed kept culprit premises = record {
  culprit = culprit;
  fact = None;
  reasons = emptied kept.reasons;
  premises = with_items (emptied kept.premises) premises;
}

-- a fact that can't stand beside these, with what it follows from
abbrev pub collided : Plan → List Fact → Breaker → Fact → List Atom → Breaker
collided plan facts kept fact reasons = record {
  culprit = culprit_for plan (facts ++ fact ∷ []) (colliding_with plan facts fact.atom);
  fact = Some fact;
  reasons = with_items (emptied kept.reasons) reasons;
  premises = record { items = colliding_with plan facts fact.atom; room = kept.premises.room };
}

-- the steps that contradict: those that stand, and that of a fact that couldn't come
abbrev pub steps_with : List Step → Option Fact → List Atom → List Step
steps_with steps None reasons = steps
steps_with steps (Some fact) reasons = steps ++ step_from steps fact reasons ∷ []

-- the clash of these steps, if anything broke the net
abbrev pub clash_from : List Step → List Atom → Option Culprit → Option Clash
clash_from steps premises culprit = clash_by steps (cited_by steps premises) culprit

abbrev pub clash_in : List Step → Breaker → Option Clash
clash_in steps kept = clash_from (steps_with steps kept.fact kept.reasons.items) kept.premises.items kept.culprit

-- what these conclude
abbrev pub last_atoms : Option Fact → List Atom
last_atoms None = []
last_atoms (Some fact) = fact.atom ∷ []

abbrev pub stand_with : List Step → Option Fact → List Atom
stand_with steps last = concluded steps ++ last_atoms last
