-- How the work begins, how it goes from turn to turn, and how it ends.
use Rattle.std.proofs.Common.{◌≡◌, ◌<◌, true, List, [], ◌∷◌, ◌++◌, refl, sym, ◌∙◌}
use Rattle.std.proofs.Common.{ap, subst, inl, inr, arith, append-nil, length-append}
use Rattle.std.specs.Prelude.{None, ◌&&◌}
use Rattle.std.specs.List.{list_all}
use Rattle.std.proofs.lemmas.Bool.{and_from}
use Rattle.vc_base.specs.Sets.{has, Within}
use Rattle.vc_base.proofs.SetLaws.{has_cases, has_either, has_first}
use Rattle.vc_plan.specs.declared.atoms.Atom.{Atom}
use Rattle.vc_plan.specs.declared.plans.Plan.{Plan}
use Rattle.vc_plan.specs.Clear.{is_clear}
use Rattle.vc_plan.specs.Gives.{Giver, givers_of}
use Rattle.vc_plan.specs.Sources.{Sources}
use Rattle.vc_plan.specs.Valid.{IsValid}
use Rattle.vc_plan_reasons.specs.Checking.{is_accepted, is_whole}
use Rattle.vc_net_agenda.specs.Agendas.{Awaited, added}
use Rattle.vc_net_agenda.proofs.AgendaLaws.{others_still_wait}
use Rattle.vc_net_laws.specs.Forced.{is_quiet}
use Rattle.vc_net_laws.specs.Working.{IsWorking, same_giver}
use Rattle.vc_net_laws.proofs.NetLaws.Working.{agendas_may_grow, giver_exact, giver_itself, work_ends}
use Rattle.vc_net_log.specs.Logs.{set_of}
use Rattle.vc_net_waking.proofs.BeginningLaws.{beginners_suffice}
use Rattle.vc_net_waking.proofs.GiverLaws.{each_waits, sizes_stay}
use Rattle.vc_net_waking.specs.Beginning.{beginners}
use Rattle.vc_net_going.specs.Breaking.{clash_from, steps_with}
use Rattle.vc_net_going.specs.Going.{IsBrokenOff, IsGoing, turns_of}
use Rattle.vc_net.specs.Ending.{EndsAs, IsSettled}
use Rattle.vc_net_going.specs.declared.work.Work.{Work}
use Rattle.vc_net_going.specs.Working.{IsWorkOf, asking_next, restarted, with_giver}
use Rattle.vc_net_going.proofs.TurnLaws.{nobody_beside}
use Rattle.vc_net_going.proofs.PlanFacts.{base_clear}

-- who is taken from the agenda stands beside it, and one turn less is left
pub giver_taken : (plan : Plan) (sources : Sources) (old new : Work) (giver : Giver) → old ≡ asking_next new giver
    → IsGoing plan sources old [] → IsGoing plan sources new (giver ∷ [])
giver_taken plan sources old new giver e going =
    let was : IsGoing plan sources (asking_next new giver) [] = subst (λ w. IsGoing plan sources w []) e going
    in record {
      of = record {
        index = was.of.index;
        begins = was.of.begins;
        sizes = was.of.sizes;
        readers = was.of.readers;
        untriggered = was.of.untriggered;
        reasons = was.of.reasons;
        collisions = was.of.collisions;
        clashes = was.of.clashes;
        taken = was.of.taken;
      };
      accepted = was.accepted;
      working = subst (λ givers. IsWorking plan sources givers (set_of new.log))
          (append-nil (new.agenda.givers ++ giver ∷ [])) was.working;
    }

pub turn_taken : (plan : Plan) (old new : Work) (giver : Giver) → old ≡ asking_next new giver
    → turns_of plan new < turns_of plan old
turn_taken plan old new giver e =
    let count = length-append new.agenda.givers (giver ∷ []) in
    let less : turns_of plan new < turns_of plan (asking_next new giver) = omega (arith, count) in
    subst (λ w. turns_of plan new < turns_of plan w) (sym e) less

-- the work begins anew
pub work_restarts : (plan : Plan) (sources : Sources) (work : Work) → IsValid plan → IsWorkOf plan work
    → IsGoing plan sources (restarted plan work) []
work_restarts plan sources work valid of =
    let agenda : Awaited = record { rules = work.agenda.rules; vars = work.agenda.vars; givers = [] } in
    let sizes = sizes_stay agenda (beginners plan) in
    nobody_beside plan sources (restarted plan work) (record {
      index = of.index;
      begins = of.begins;
      sizes = (sizes.0 ∙ of.sizes.0, sizes.1 ∙ of.sizes.1);
      readers = of.readers;
      untriggered = of.untriggered;
      reasons = of.reasons;
      collisions = of.collisions;
      clashes = of.clashes;
      taken = of.taken;
    }) refl (beginners_suffice plan sources work.agenda of.sizes (base_clear plan valid))

-- where nobody has more to say the log is whole
all_quiet : (plan : Plan) (sources : Sources) (set : List Atom) (givers : List Giver)
    → ((giver : Giver) → is_quiet plan sources set giver ≡ true) → list_all (is_quiet plan sources set) givers ≡ true
all_quiet plan sources set [] quiet = refl
all_quiet plan sources set (giver ∷ givers) quiet =
    and_from (is_quiet plan sources set giver) (list_all (is_quiet plan sources set) givers) (quiet giver)
    (all_quiet plan sources set givers quiet)

log_is_whole : (plan : Plan) (sources : Sources) (work : Work) → is_accepted plan sources work.log.steps ≡ true
    → IsWorking plan sources [] (set_of work.log) → is_whole plan sources work.log.steps ≡ true
log_is_whole plan sources work accepted working =
    let set = set_of work.log in
    and_from (is_accepted plan sources work.log.steps)
    (is_clear plan set && list_all (is_quiet plan sources set) (givers_of plan)) accepted
    (and_from (is_clear plan set) (list_all (is_quiet plan sources set) (givers_of plan)) working.sound.clear
    (all_quiet plan sources set (givers_of plan) (λ giver. working.quiet giver refl)))

-- and the work ends where nobody is left
pub work_is_done : (plan : Plan) (sources : Sources) (work : Work) → IsGoing plan sources work []
    → work.breaker.culprit ≡ None → work.agenda.givers ≡ [] → IsSettled plan sources work
work_is_done plan sources work going calm nobody = record {
  going = going;
  ends = subst (λ c. EndsAs plan sources work c) (sym (ap (λ c. clash_from
      (steps_with work.log.steps work.breaker.fact work.breaker.reasons.items) work.breaker.premises.items c) calm))
      (let calm = subst (λ givers. IsWorking plan sources (givers ++ []) (set_of work.log)) nobody going.working in
      let end = work_ends plan sources (set_of work.log) calm in
      (end.0, end.1, end.2, log_is_whole plan sources work going.accepted calm));
}

-- or where something contradicts: then the giver at hand is asked again
module _ (plan : Plan) (sources : Sources) (start work : Work) (giver : Giver)
    (off : IsBrokenOff plan sources giver start work) where
  still : IsWorkOf plan (with_giver work giver)
  still =
      let sizes = sizes_stay work.agenda (giver ∷ []) in record {
        index = off.going.of.index;
        begins = off.going.of.begins;
        sizes = (sizes.0 ∙ off.going.of.sizes.0, sizes.1 ∙ off.going.of.sizes.1);
        readers = off.going.of.readers;
        untriggered = off.going.of.untriggered;
        reasons = off.going.of.reasons;
        collisions = off.going.of.collisions;
        clashes = off.going.of.clashes;
        taken = off.going.of.taken;
      }

  waits : has same_giver (added work.agenda giver).givers giver ≡ true
  waits =
      each_waits plan work.agenda (giver ∷ []) giver off.going.of.sizes
      (has_first same_giver giver_exact giver_itself giver []) off.giver_there

  within : Within same_giver (work.agenda.givers ++ giver ∷ []) (added work.agenda giver).givers
  within other h =
      elim (has_either same_giver giver_exact giver_itself work.agenda.givers (giver ∷ []) other h) [
        | inl p ↦ others_still_wait work.agenda giver other p
        | inr p ↦ elim (has_cases same_giver giver_exact giver_itself giver [] other p) [
          | inl q ↦ ap (has same_giver (added work.agenda giver).givers) q ∙ waits
          | inr q ↦ absurd (cc)
        ]
      ]

  pub work_is_broken : IsSettled plan sources (with_giver work giver)
  work_is_broken = record {
    going =
        nobody_beside plan sources (with_giver work giver) still off.going.accepted
        (agendas_may_grow plan sources (work.agenda.givers ++ giver ∷ []) (added work.agenda giver).givers
        (set_of work.log)
        off.going.working within);
    ends =
        subst (λ c. EndsAs plan sources (with_giver work giver) c) (sym off.blames.1) (off.breaks, off.blames.2);
  }
