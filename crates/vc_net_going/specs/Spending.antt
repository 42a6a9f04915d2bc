-- How many rules are asked: none that isn't paid for, by an atom that has come or since it waited at the start.
use Rattle.std.specs.Prelude.{◌≡◌, ◌+◌, ◌≤◌, ℕ, true, List, ◌++◌}
use Rattle.std.specs.List.{sum_by}
use Rattle.vc_base.specs.Sets.{has}
use Rattle.vc_plan.specs.declared.atoms.Atom.{Atom}
use Rattle.vc_plan.specs.declared.atoms.Step.{Step}
use Rattle.vc_plan.specs.declared.plans.Plan.{Plan}
use Rattle.vc_plan.specs.Gives.{Giver}
use Rattle.vc_plan.specs.Seen.{same_atom}
use Rattle.vc_plan_reasons.specs.Checking.{concluded}
use Rattle.vc_plan_reasons.specs.Things.{Thing, has_thing, thing_of}
use Rattle.vc_net_laws.specs.Wakings.{rules_at}
use Rattle.vc_net_waking.specs.Spending.{AreOn, HoldsWhatIsWritten, rules_among, touches_one}
use Rattle.vc_net_going.specs.declared.work.Work.{Work}

-- who waits touches one of the things, the steps behind those in front conclude atoms of them, and the rules asked so
-- far with those that wait are no more than what was to be paid at the start and the new atoms pay
pub record IsSpent (plan : Plan) (things : List Thing) (front : List Step) (count base : ℕ) (work : Work) : Type 0 where
  pub on : AreOn plan things work.agenda.givers
  pub fresh : List Step
  pub grown : work.log.steps ≡ front ++ fresh
  pub of : (atom : Atom) → has same_atom (concluded fresh) atom ≡ true → has_thing things (thing_of atom) ≡ true
  pub paid : count + rules_among work.agenda.givers ≤ base + sum_by (rules_at plan) (concluded fresh)

-- a giver that touches one of the things spends no more than its atoms pay
abbrev pub Spends : Plan → Giver → Work → Work → Type 0
Spends plan giver old new = (things : List Thing) (front : List Step) (count base : ℕ)
    → HoldsWhatIsWritten plan things → touches_one plan things giver ≡ true
    → IsSpent plan things front count base old → IsSpent plan things front count base new
