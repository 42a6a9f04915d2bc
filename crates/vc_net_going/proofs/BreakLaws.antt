-- What breaks a net refutes its sources: a fact that can't come.
use Rattle.std.proofs.Common.{◌≡◌, ◌+◌, ◌≤◌, Bool, true, false, cond, List, [], ◌∷◌, ◌++◌, length, refl, sym, ◌∙◌}
use Rattle.std.proofs.Common.{append-nil, ap, arith}
use Rattle.std.specs.Prelude.{Some, nat_le}
use Rattle.std.proofs.lemmas.Bool.{le-leb}
use Rattle.vc_base.specs.Sets.{has}
use Rattle.vc_base.proofs.SetLaws.{has_back, has_first}
use Rattle.vc_plan.specs.declared.atoms.Atom.{Atom}
use Rattle.vc_plan.specs.declared.atoms.Step.{Step}
use Rattle.vc_plan.specs.declared.plans.Plan.{Plan}
use Rattle.vc_plan.specs.Clear.{is_clear, is_named}
use Rattle.vc_plan.specs.Gives.{Giver}
use Rattle.vc_plan.specs.Seen.{same_atom}
use Rattle.vc_plan.specs.Sources.{Sources}
use Rattle.vc_plan.specs.Valid.{IsValid}
use Rattle.vc_plan.proofs.PlanLaws.Atoms.{atom_exact, atom_itself}
use Rattle.vc_plan_blame.specs.Laws.{IsSettling}
use Rattle.vc_plan_blame.proofs.BlameLaws.Unclear.{concluded_named}
use Rattle.vc_plan_reasons.specs.Fitting.{sources_fit}
use Rattle.vc_rule_yield.specs.Filling.{Filled, emptied, with_items}
use Rattle.vc_net_blame.specs.Finding.{colliding_with, culprit_for}
use Rattle.vc_net_blame.specs.Laws.{AreFactsOf, IsBlamed}
use Rattle.vc_net_blame.proofs.CulpritLaws.{unclear_is_blamed}
use Rattle.vc_net_laws.proofs.NetLaws.Forced.{unclear_breaks}
use Rattle.vc_net_log.specs.Logs.{cited_by, facts_of, set_of, step_from}
use Rattle.vc_net_sources.specs.Asking.{origin_of}
use Rattle.vc_net_standing.specs.declared.standing.Fact.{Fact}
use Rattle.vc_net_going.specs.Breaking.{clash_from, clash_in, steps_with}
use Rattle.vc_net_going.specs.Going.{IsBrokenOff, IsGoing, MayCome}
use Rattle.vc_net_going.specs.declared.work.Work.{Work}
use Rattle.vc_net_going.specs.Working.{broken_by_fact}
use Rattle.vc_net_going.proofs.GoingLaws.{set_more, step_accepted}
use Rattle.vc_net_going.proofs.PlanFacts.{place_within}

-- what there is room for is kept, and the room stays
pub kept : (list : Filled Atom) (items : List Atom) → length items ≤ list.room
    → (let filled : Filled Atom = with_items (emptied list) items in filled.items) ≡ items
kept list items few =
    ap (λ b. let filled : Filled Atom = cond b (record { items = items; room = list.room }) (emptied list) in
    filled.items)
    (le-leb (0 + length items) list.room (omega (arith, few)))

pub room_stays : (list : Filled Atom) (items : List Atom)
    → (let filled : Filled Atom = with_items (emptied list) items in filled.room) ≡ list.room
room_stays list items = by (nat_le (0 + length items) list.room)
  where
    by : (b : Bool)
        → (let filled : Filled Atom = cond b (record { items = items; room = list.room }) (emptied list) in filled.room)
        ≡ list.room
    by true = refl
    by false = refl

-- facts are those of their steps
facts_told : (steps : List Step) → AreFactsOf (facts_of steps) steps
facts_told [] = record { atoms = refl; origins = refl }
facts_told (step ∷ steps) =
    let rest = facts_told steps in
    record { atoms = ap (λ xs. step.conclusion ∷ xs) rest.atoms; origins = ap (λ xs. step.origin ∷ xs) rest.origins }

-- a fact that can't come
module _ (plan : Plan) (sources : Sources) (work : Work) (giver : Giver) (atom : Atom) (premises : List Atom)
    (valid : IsValid plan) (fits : sources_fit plan sources ≡ true) (going : IsGoing plan sources work (giver ∷ []))
    (may : MayCome plan sources work.log.steps giver atom premises)
    (unclear : is_clear plan (set_of work.log ++ atom ∷ []) ≡ false) where
  abbrev fact : Fact
  fact = record { atom = atom; origin = origin_of sources giver }

  abbrev step : Step
  step = step_from work.log.steps fact premises

  abbrev facts : List Fact
  facts = facts_of work.log.steps

  abbrev new : Work
  new = broken_by_fact plan work fact premises

  settling : IsSettling plan sources (work.log.steps ++ step ∷ [])
  settling =
      record { valid = valid; fits = fits; accepts = step_accepted plan sources work giver atom premises going may }

  named : is_named plan atom ≡ true
  named =
      concluded_named plan sources (work.log.steps ++ step ∷ []) settling atom
      (ap (λ s. has same_atom s atom) (set_more work.log.steps step)
      ∙ has_back same_atom atom_exact atom_itself (set_of work.log) (atom ∷ []) atom
      (has_first same_atom atom_exact atom_itself atom []))

  found : IsBlamed plan sources facts fact (work.log.steps ++ step ∷ [])
  found =
      unclear_is_blamed plan sources work.log.steps step facts fact settling
      going.working.sound.clear (ap (is_clear plan) (set_more work.log.steps step) ∙ unclear)
      (facts_told work.log.steps)
      (record { atom = refl; origin = refl })

  premises_kept : new.breaker.reasons.items ≡ premises
  premises_kept = kept work.breaker.reasons premises (
      let few = may.few in
      let room = place_within plan atom named in
      let all = going.of.reasons in
      omega (arith, few, all, room))

  told_of : clash_in work.log.steps new.breaker
      ≡ Some (record {
        steps = work.log.steps ++ step ∷ [];
        culprit = found.culprit;
        premises = cited_by (work.log.steps ++ step ∷ []) (colliding_with plan facts atom);
      })
  told_of =
      ap (λ reasons. clash_from (steps_with work.log.steps (Some fact) reasons) (colliding_with plan facts atom)
      (culprit_for plan (facts ++ fact ∷ []) (colliding_with plan facts atom))) premises_kept
      ∙ ap (clash_from (work.log.steps ++ step ∷ []) (colliding_with plan facts atom)) found.is

  pub fact_breaks : IsBrokenOff plan sources giver work (broken_by_fact plan work fact premises)
  fact_breaks = record {
    going = record {
      of = record {
        index = going.of.index;
        begins = going.of.begins;
        sizes = going.of.sizes;
        readers = going.of.readers;
        untriggered = going.of.untriggered;
        reasons = let same = room_stays work.breaker.reasons premises in let all = going.of.reasons in omega
            (arith, same, all);
        collisions = going.of.collisions;
        clashes = going.of.clashes;
        taken = going.of.taken;
      };
      accepted = going.accepted;
      working = going.working;
    };
    grown = ([], sym (append-nil work.log.steps));
    spends = λ things front count base holds touch spent. record {
      on = spent.on;
      fresh = spent.fresh;
      grown = spent.grown;
      of = spent.of;
      paid = spent.paid;
    };
    giver_there = may.giver_there;
    breaks = unclear_breaks plan sources (set_of work.log) atom going.working.sound may.forced unclear;
    blames = (
      record {
        steps = work.log.steps ++ step ∷ [];
        culprit = found.culprit;
        premises = cited_by (work.log.steps ++ step ∷ []) (colliding_with plan facts atom);
      },
      told_of,
      found.refuting,
    );
  }
