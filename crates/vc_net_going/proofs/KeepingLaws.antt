-- What is kept of the work when sources change, and that it goes on from there, where whoever differs is asked.
use Rattle.std.proofs.Common.{◌≡◌, [], List, sym, ◌∙◌, ap, subst}
use Rattle.vc_plan.specs.declared.plans.Plan.{Plan}
use Rattle.vc_plan.specs.Gives.{Giver}
use Rattle.vc_plan.specs.Sources.{Sources}
use Rattle.vc_plan.specs.Valid.{IsValid}
use Rattle.vc_plan_reasons.specs.Checking.{concluded}
use Rattle.vc_plan_reasons.specs.Keeping.{kept_of}
use Rattle.vc_plan_reasons.specs.Work.{reach_of}
use Rattle.vc_rule_yield.specs.Filling.{Filled}
use Rattle.vc_net_agenda.specs.Agendas.{Awaited}
use Rattle.vc_net_log.specs.Going.{WereTaken, with_steps}
use Rattle.vc_net_log.specs.Logs.{Logged}
use Rattle.vc_net_standing.specs.declared.standing.Fact.{Fact}
use Rattle.vc_net_standing.specs.Standing.{atoms_of}
use Rattle.vc_net_waking.specs.Laws.{IsAgendaOf}
use Rattle.vc_net_waking.specs.Waking.{with_givers}
use Rattle.vc_net_waking.specs.Spending.{AreOn}
use Rattle.vc_net_going.specs.Breaking.{unbroken}
use Rattle.vc_net_going.specs.Behind.{StaysBehind, to_do}
use Rattle.vc_net_going.specs.Going.{IsGoing}
use Rattle.vc_net_going.specs.Keeping.{HasKept}
use Rattle.vc_net_going.specs.Renewing.{dropped_wake}
use Rattle.vc_net_going.specs.Working.{IsWorkOf, with_agenda}
use Rattle.vc_net_going.specs.declared.breaker.Breaker.{Breaker}
use Rattle.vc_net_going.specs.declared.work.Work.{Work}
use Rattle.vc_net_going.proofs.ChangeLaws.{AreChanges}
use Rattle.vc_net_going.proofs.ReachLaws.{last_on}
use Rattle.vc_net_going.proofs.RenewLaws.{first, first_sizes, last, last_sizes, renewed_is_of, steps_left}
use Rattle.vc_net_going.proofs.RenewLaws.{work_renews}

-- the work that is kept when the calls were made, one after the other
module _ (plan : Plan) (old new : Sources) (work : Work) (going : IsGoing plan old work []) (log : Logged)
    (taken : Filled Fact) (kept : log ≡ with_steps work.log (kept_of old new work.log.steps))
    (were : WereTaken work.log.steps log.steps taken.items) (room : taken.room ≡ work.taken.room) (agenda : Awaited)
    (facts : List Fact) (facts_are : facts ≡ taken.items)
    (asks : agenda ≡ with_givers work.agenda (dropped_wake plan new (concluded log.steps) (atoms_of facts)))
    (breaker : Breaker) (calm : breaker ≡ unbroken work.breaker) where
  kept_steps : log.steps ≡ steps_left plan old new work going
  kept_steps = ap (λ (l : Logged). l.steps) kept

  were_left : WereTaken work.log.steps (steps_left plan old new work going) taken.items
  were_left = subst (λ steps. WereTaken work.log.steps steps taken.items) kept_steps were

  woken : agenda ≡ first plan old new work going taken.items were_left
  woken =
      asks
      ∙ (ap (λ xs. with_givers work.agenda (dropped_wake plan new (concluded log.steps) (atoms_of xs))) facts_are
      ∙ ap (λ steps. with_givers work.agenda (dropped_wake plan new (concluded steps) (atoms_of taken.items)))
      kept_steps)

  pub has_kept : HasKept plan old new work (record {
    log = log;
    agenda = agenda;
    readers = work.readers;
    untriggered = work.untriggered;
    breaker = breaker;
    taken = taken;
  })
  has_kept = record {
    of = renewed_is_of plan old work log agenda breaker taken (steps_left plan old new work going) going kept
        (subst (IsAgendaOf plan) (sym woken) (first_sizes plan old new work going taken.items were_left)) calm room;
    taken = taken.items;
    were = were_left;
    kept = kept_steps;
    asked = woken;
    calm = ap (λ (b : Breaker). b.culprit) calm;
  }

-- and the work goes on from there
module _ (plan : Plan) (old new : Sources) (before mid : Work) (going : IsGoing plan old before [])
    (kept : HasKept plan old new before mid) (changes : List Giver) (are : AreChanges plan old new changes)
    (agenda : Awaited) (is : agenda ≡ with_givers mid.agenda changes) where
  asked : agenda ≡ last plan old new before going kept.taken kept.were changes are
  asked = is ∙ ap (λ a. with_givers a changes) kept.asked

  work_of : IsWorkOf plan (with_agenda mid agenda)
  work_of = record {
    index = kept.of.index;
    begins = kept.of.begins;
    sizes = subst (IsAgendaOf plan) (sym asked)
        (last_sizes plan old new before going kept.taken kept.were changes are);
    readers = kept.of.readers;
    untriggered = kept.of.untriggered;
    reasons = kept.of.reasons;
    collisions = kept.of.collisions;
    clashes = kept.of.clashes;
    taken = kept.of.taken;
  }

  pub goes_on_with : IsGoing plan new (with_agenda mid agenda) []
  goes_on_with =
      work_renews plan old new before going kept.taken kept.were changes are (with_agenda mid agenda) work_of
      kept.kept asked

  pub stays_behind : IsValid plan → StaysBehind plan old new before (with_agenda mid agenda)
  stays_behind valid = λ behind on.
      subst (λ (a : Awaited). AreOn plan (reach_of plan (to_do plan behind old new)) a.givers) (sym asked)
      (last_on plan valid old new before going kept.taken kept.were behind on changes are)
