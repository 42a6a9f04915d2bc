-- How many rules are asked from turn to turn, and when the work has ended: none that isn't paid for.
use Rattle.std.specs.Prelude.{◌≡◌, ◌+◌, ◌≤◌, ℕ, true, List, ◌++◌}
use Rattle.std.specs.List.{sum_by}
use Rattle.vc_base.specs.Sets.{has}
use Rattle.vc_plan.specs.declared.atoms.Atom.{Atom}
use Rattle.vc_plan.specs.declared.atoms.Step.{Step}
use Rattle.vc_plan.specs.declared.plans.Plan.{Plan}
use Rattle.vc_plan.specs.Seen.{same_atom}
use Rattle.vc_plan_reasons.specs.Checking.{concluded}
use Rattle.vc_plan_reasons.specs.Things.{Thing, has_thing, thing_of}
use Rattle.vc_net_laws.specs.Wakings.{rules_at}
use Rattle.vc_net_waking.specs.Spending.{AreOn, HoldsWhatIsWritten}
use Rattle.vc_net_going.specs.declared.work.Work.{Work}
use Rattle.vc_net_going.specs.Spending.{IsSpent}

-- what was asked is paid when the work has ended, whoever waits then: who waits touches one of the things, and the
-- steps behind those in front conclude atoms of them
pub record IsPaid (plan : Plan) (things : List Thing) (front : List Step) (count base : ℕ) (work : Work) : Type 0 where
  pub on : AreOn plan things work.agenda.givers
  pub fresh : List Step
  pub grown : work.log.steps ≡ front ++ fresh
  pub of : (atom : Atom) → has same_atom (concluded fresh) atom ≡ true → has_thing things (thing_of atom) ≡ true
  pub paid : count ≤ base + sum_by (rules_at plan) (concluded fresh)

-- so does the work from a count to another
abbrev pub Pays : Plan → Work → Work → ℕ → ℕ → Type 0
Pays plan old new before after = (things : List Thing) (front : List Step) (base : ℕ) → HoldsWhatIsWritten plan things
    → IsSpent plan things front before base old → IsPaid plan things front after base new

abbrev pub GoesOnSpending : Plan → Work → Work → ℕ → ℕ → Type 0
GoesOnSpending plan old new before after = (things : List Thing) (front : List Step) (base : ℕ)
    → HoldsWhatIsWritten plan things
    → IsSpent plan things front before base old → IsSpent plan things front after base new
