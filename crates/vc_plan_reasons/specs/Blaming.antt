-- The status of any evaluation, a broken one too; and that whoever clashes is blamed.
use Rattle.std.specs.Prelude.{◌≡◌, true, List}
use Rattle.vc_base.specs.Rounds.{is_clash}
use Rattle.vc_plan.specs.declared.atoms.Clash.{Clash}
use Rattle.vc_plan.specs.declared.atoms.Step.{Step}
use Rattle.vc_plan.specs.declared.plans.Plan.{Plan}
use Rattle.vc_plan.specs.declared.shown.Status.{Status}
use Rattle.vc_plan.specs.declared.shown.Status.TheVariants.{Contradiction}
use Rattle.vc_plan.specs.Evaluate.{Evaluated, broken_at, reached, Users, evaluation_of, last_set, sources_of}
use Rattle.vc_plan.specs.Clear.{is_clear}
use Rattle.vc_plan.specs.Gives.{Giver, gives}
use Rattle.vc_plan.specs.Seen.{seen_of}
use Rattle.vc_plan.specs.Sources.{Sources}
use Rattle.vc_plan.specs.Showing.{settled_status}
use Rattle.vc_plan.specs.Shown.{reading_of}
use Rattle.vc_plan_reasons.specs.Checking.{concluded, is_accepted, set_with}
use Rattle.vc_plan_reasons.specs.Fitting.{sources_fit}
use Rattle.vc_plan_reasons.specs.Refuting.{refutes}

-- whether this is the status after an evaluation. Where a stage is broken, it blames the culprit of some clash that
-- refutes the stage's sources; which one is free
abbrev pub IsStatusAfter : Plan → Users → Evaluated → Status → Type 0
IsStatusAfter plan users (broken_at k entries) status =
    (clash : Clash) × (refutes plan (sources_of users entries) clash ≡ true) × (status ≡ Contradiction clash.culprit)
IsStatusAfter plan users (reached sets entries) status =
    let seen = seen_of (last_set plan sets) in status ≡ settled_status plan seen (reading_of plan users seen)

-- whether it is the status of what the user set
abbrev pub IsStatus : Plan → Users → Status → Type 0
IsStatus plan users status = IsStatusAfter plan users (evaluation_of plan users) status

-- where the sources fit, and a rule or source clashes at what an accepted log concludes, some clash of that log refutes
abbrev pub ClashesAreBlamed : Type 0
ClashesAreBlamed = (plan : Plan) (sources : Sources) (log : List Step) (giver : Giver)
    → sources_fit plan sources ≡ true → is_accepted plan sources log ≡ true
    → is_clear plan (set_with (concluded log)) ≡ true
    → is_clash (gives plan sources giver (seen_of (set_with (concluded log)))) ≡ true
    → (clash : Clash) × (clash.steps ≡ log) × (refutes plan sources clash ≡ true)
