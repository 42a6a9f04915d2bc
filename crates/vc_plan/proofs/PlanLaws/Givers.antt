-- What rules and sources give, and the system of a plan.
use Rattle.std.proofs.Common.{ℕ, inl, inr}
use Rattle.std.specs.Prelude.{slice_get}
use Rattle.vc_base.specs.Rounds.{Given}
use Rattle.vc_base.proofs.Settling.{Laws}
use Rattle.vc_plan.specs.declared.atoms.Atom.{Atom}
use Rattle.vc_plan.specs.declared.plans.Plan.{Plan}
use Rattle.vc_plan.specs.Gives.{Giver, by_rule, by_user, by_entry, value_says, entry_says, if_here, giver_says}
use Rattle.vc_plan.specs.Laws.{PartsAreClear, ClashesStay, GivesMonotonely}
use Rattle.vc_plan.specs.Seen.{Seen, seen_of, is_here}
use Rattle.vc_plan.specs.Settle.{system_of}
use Rattle.vc_plan.specs.Sources.{Sources, user_of, entry_of}
use Rattle.vc_plan.proofs.PlanLaws.Answers.{Below, below_self, below_when, fresh_clash, fresh_atom}
use Rattle.vc_plan.proofs.PlanLaws.Atoms.{atom_exact, atom_itself}
use Rattle.vc_plan.proofs.PlanLaws.Extending.{Extends, extends, says_has, here_stays}
use Rattle.vc_plan.proofs.PlanLaws.Facts.{part_clear}
use Rattle.vc_plan.proofs.PlanLaws.Rules.{rule_below}

source_below : (plan : Plan) (s t : Seen) → Extends plan s t → (v : ℕ) (said : Given Atom)
    → Below (if_here plan s v said) (if_here plan t v said)
source_below plan s t x v said =
    below_when (is_here plan s v) (is_here plan t v) said said (here_stays plan s t x v) (λ e. below_self said)

said_below : (plan : Plan) (sources : Sources) (s t : Seen) → Extends plan s t → (giver : Giver)
    → Below (giver_says plan sources giver s) (giver_says plan sources giver t)
said_below plan sources s t x (by_rule r) = rule_below plan s t x (slice_get plan.rules r)
said_below plan sources s t x (by_user v) = source_below plan s t x v (value_says v (user_of sources v))
said_below plan sources s t x (by_entry v) = source_below plan s t x v (entry_says v (entry_of sources v))

pub parts_are_clear : PartsAreClear
parts_are_clear = part_clear

pub clashes_stay : ClashesStay
clashes_stay plan sources giver smaller larger clear within h =
    let s = seen_of smaller in
    let t = seen_of larger in
    fresh_clash s t (giver_says plan sources giver s) (giver_says plan sources giver t)
    (said_below plan sources s t (extends plan smaller larger clear within) giver) h

pub gives_monotonely : GivesMonotonely
gives_monotonely plan sources giver smaller larger atom clear within h =
    let s = seen_of smaller in
    let t = seen_of larger in
    elim (fresh_atom s t (giver_says plan sources giver s) (giver_says plan sources giver t)
    (said_below plan sources s t (extends plan smaller larger clear within) giver) atom h) [
      | inl e ↦ inl (says_has larger atom e)
      | inr e ↦ inr e
    ]

pub system_laws : (plan : Plan) (sources : Sources) → Laws (system_of plan sources)
system_laws plan sources = record {
  exact = atom_exact;
  itself = atom_itself;
  smaller = λ P S within clear. part_clear plan P S clear within;
  clash = λ o P S i clear within h. clashes_stay plan sources o P S clear within h;
  atom = λ o P S a i clear within h. gives_monotonely plan sources o P S a clear within h;
}
