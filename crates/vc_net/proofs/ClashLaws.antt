-- What breaks a net refutes its sources: a clash.
use Rattle.std.proofs.Common.{◌≡◌, true, List, [], ◌∷◌, sym, ◌∙◌, append-nil, ap, subst, arith}
use Rattle.std.specs.Prelude.{Option, Some}
use Rattle.vc_base.specs.Rounds.{is_clash}
use Rattle.vc_base.specs.Sets.{has, Within}
use Rattle.vc_base.proofs.SetLaws.{all_at}
use Rattle.vc_plan.specs.declared.atoms.Atom.{Atom}
use Rattle.vc_plan.specs.declared.atoms.Culprit.{Culprit}
use Rattle.vc_plan.specs.declared.plans.Plan.{Plan}
use Rattle.vc_plan.specs.Gives.{Giver, gives}
use Rattle.vc_plan.specs.Seen.{same_atom, seen_of}
use Rattle.vc_plan.specs.Sources.{Sources}
use Rattle.vc_plan.specs.Valid.{IsValid}
use Rattle.vc_plan.proofs.PlanLaws.Atoms.{atom_exact, atom_itself}
use Rattle.vc_plan_blame.specs.Blame.{culprit_giving}
use Rattle.vc_plan_blame.specs.Laws.{Blames}
use Rattle.vc_plan_reasons.specs.Checking.{concluded}
use Rattle.vc_plan_reasons.specs.Fitting.{sources_fit}
use Rattle.vc_plan_reasons.proofs.ReasonLaws.Givers.{clashing_in}
use Rattle.vc_rule_premises.specs.Saying.{Said, clashing, given_of, held, held_from}
use Rattle.vc_rule_premises.specs.Sufficing.{each_premise}
use Rattle.vc_rule_yield.specs.Yielding.{Yielded}
use Rattle.vc_net_laws.proofs.NetLaws.Forced.{clash_breaks}
use Rattle.vc_net_log.specs.Logs.{cited_by, seen_by, set_of}
use Rattle.vc_net_log.proofs.LogLaws.{premises_are_cited}
use Rattle.vc_net_sources.specs.Asking.{found_from}
use Rattle.vc_net_sources.proofs.GiverLaws.{clash_fits_cells, found_is_concluded, found_is_given, found_refutes}
use Rattle.vc_net_going.specs.Breaking.{clash_from, clashed}
use Rattle.vc_net_going.specs.Going.{IsBrokenOff, IsGoing}
use Rattle.vc_net_going.specs.declared.breaker.Breaker.{Breaker}
use Rattle.vc_net_going.specs.declared.work.Work.{Work}
use Rattle.vc_net_going.specs.Working.{broken_by_clash, with_breaker}
use Rattle.vc_net_going.proofs.BreakLaws.{kept, room_stays}
use Rattle.vc_net_going.proofs.GoingLaws.{in_plan}

-- what a yield that clashes has found
pub clash_found : (out : Yielded) (said : Said) (premises : List Atom) → held out ≡ said → out.clash ≡ Some premises
    → said ≡ clashing premises
clash_found out said premises e f = sym e ∙ ap (λ clash. held_from clash out.found) f

-- a clash
module _ (plan : Plan) (sources : Sources) (work : Work) (giver : Giver) (premises : List Atom)
    (valid : IsValid plan) (fits : sources_fit plan sources ≡ true) (going : IsGoing plan sources work (giver ∷ []))
    (found : found_from plan sources (seen_by work.log) giver ≡ clashing premises) where
  clashes : is_clash (gives plan sources giver (seen_of (set_of work.log))) ≡ true
  clashes =
      ap is_clash (sym (found_is_given plan sources (seen_by work.log) giver) ∙ ap given_of found)

  premises_concluded : Within same_atom premises (concluded work.log.steps)
  premises_concluded a h =
      all_at same_atom atom_exact atom_itself (has same_atom (concluded work.log.steps)) premises a
      (sym (ap (each_premise (has same_atom (concluded work.log.steps))) found)
      ∙ found_is_concluded plan sources (concluded work.log.steps) giver) h

  clash_kept : (broken_by_clash work (culprit_giving sources giver) premises).breaker.premises.items ≡ premises
  clash_kept = kept work.breaker.premises premises (
      let few = clash_fits_cells plan sources work.log.steps giver premises valid going.working.sound.clear found in
      let all = going.of.clashes in
      omega (arith, few, all))

  clash_breaks_off : IsBrokenOff plan sources giver work
      (broken_by_clash work (culprit_giving sources giver) premises)
  clash_breaks_off =
      let same = room_stays work.breaker.premises premises in record {
        going = record {
          of = record {
            index = going.of.index;
            begins = going.of.begins;
            sizes = going.of.sizes;
            readers = going.of.readers;
            untriggered = going.of.untriggered;
            reasons = going.of.reasons;
            collisions = let all = going.of.collisions in omega (arith, same, all);
            clashes = let all = going.of.clashes in omega (arith, same, all);
            taken = going.of.taken;
          };
          accepted = going.accepted;
          working = going.working;
        };
        grown = ([], sym (append-nil work.log.steps));
        spends = λ things front count base holds touch spent. record {
          on = spent.on;
          fresh = spent.fresh;
          grown = spent.grown;
          of = spent.of;
          paid = spent.paid;
        };
        giver_there = in_plan plan giver (clashing_in plan sources giver (set_of work.log) clashes);
        breaks = clash_breaks plan sources (set_of work.log) giver going.working.sound clashes;
        blames =
            subst (λ items. Blames plan sources (clash_from work.log.steps items
            (culprit_giving sources giver))) (sym clash_kept)
            (found_refutes plan sources work.log.steps giver premises (cited_by work.log.steps premises) fits
            going.accepted
            going.working.sound.clear found (premises_are_cited work.log.steps premises premises_concluded));
      }

  -- so it does as it is kept
  pub clash_kept_breaks_off : (culprit : Option Culprit) (breaker : Breaker)
      → breaker ≡ clashed work.breaker culprit premises → culprit ≡ culprit_giving sources giver
      → IsBrokenOff plan sources giver work (with_breaker work breaker)
  clash_kept_breaks_off culprit breaker is blamed =
      subst (λ b. IsBrokenOff plan sources giver work (with_breaker work b)) (sym is)
      (subst (λ o. IsBrokenOff plan sources giver work (broken_by_clash work o premises)) (sym blamed)
      clash_breaks_off)
