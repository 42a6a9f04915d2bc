-- How far behind its rules the work of a net is, and what is to be done with other sources.
use Rattle.std.specs.Prelude.{List, ◌++◌, map}
use Rattle.vc_plan.specs.declared.plans.Plan.{Plan}
use Rattle.vc_plan.specs.Sources.{Sources}
use Rattle.vc_plan_reasons.specs.Keeping.{changed}
use Rattle.vc_plan_reasons.specs.Things.{Thing, var_at}
use Rattle.vc_plan_reasons.specs.Work.{reach_of}
use Rattle.vc_net_waking.specs.Spending.{AreOn}
use Rattle.vc_net_going.specs.declared.work.Work.{Work}

-- whoever waits touches what these things reach: nobody else may have more to say
abbrev pub IsBehind : Plan → List Thing → Work → Type 0
IsBehind plan behind work = AreOn plan (reach_of plan behind) work.agenda.givers

-- what is to be done with other sources: what was left undone, and the variables whose sources differ
abbrev pub to_do : Plan → List Thing → Sources → Sources → List Thing
to_do plan behind old new = behind ++ map var_at (changed plan old new)

-- when sources change, no more is behind than was and what they change
abbrev pub StaysBehind : Plan → Sources → Sources → Work → Work → Type 0
StaysBehind plan old new before after = (behind : List Thing) → IsBehind plan behind before
    → IsBehind plan (to_do plan behind old new) after
