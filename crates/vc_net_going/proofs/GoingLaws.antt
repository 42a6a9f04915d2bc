-- The work of a net goes on with a conclusion that may come.
use Rattle.std.proofs.Common.{◌≡◌, ℕ, ◌≤◌, true, false, List, [], ◌∷◌, ◌++◌, length, map, refl, sym, ◌∙◌, ap, subst}
use Rattle.std.proofs.Common.{inl, inr, arith, append-nil, append_assoc}
use Rattle.std.specs.Prelude.{Some, ◌||◌, slice_get}
use Rattle.std.proofs.lemmas.Bool.{false_from_ne_true, or_cases, or_left, or_right}
use Rattle.std.proofs.lemmas.List.{map-append}
use Rattle.std.proofs.lemmas.List.Sums.{sum_by_push}
use Rattle.std.specs.List.{sum_by}
use Rattle.vc_base.specs.Chains.{cited}
use Rattle.vc_base.specs.Rounds.{atoms_of}
use Rattle.vc_base.specs.Sets.{has, Within}
use Rattle.vc_base.proofs.SetLaws.{both, filter_has, has_back, has_cases, has_either, has_first, has_front, has_more}
use Rattle.vc_base.proofs.SetLaws.{distinct_more}
use Rattle.vc_base.proofs.Settling as settling
use Rattle.vc_plan.specs.declared.atoms.Atom.{Atom}
use Rattle.vc_plan.specs.declared.atoms.Atom.TheVariants.{Here}
use Rattle.vc_plan.specs.declared.atoms.Step.{Step}
use Rattle.vc_plan.specs.declared.plans.Plan.{Plan}
use Rattle.vc_plan.specs.Clear.{is_clear, is_named}
use Rattle.vc_plan.specs.Gives.{Giver, gives, givers_of}
use Rattle.vc_plan.specs.Seen.{same_atom, says, seen_of}
use Rattle.vc_plan.specs.Sources.{Sources}
use Rattle.vc_plan.specs.Valid.{IsValid}
use Rattle.vc_plan.proofs.PlanLaws.Atoms.{atom_exact, atom_itself}
use Rattle.vc_plan.proofs.PlanLaws.Facts.{facts}
use Rattle.vc_plan.specs.Bounds.{place_for}
use Rattle.vc_plan_blame.proofs.BlameLaws.Growing.{has_says}
use Rattle.vc_plan_reasons.specs.Checking.{concluded, is_accepted, set_with, step_form}
use Rattle.vc_plan_reasons.specs.Things.{has_thing, thing_of}
use Rattle.vc_net_laws.specs.Wakings.{rules_at}
use Rattle.vc_plan_reasons.proofs.ReasonLaws.Givers.{giving_in}
use Rattle.vc_rule.proofs.FollowingLaws.{next_is_accepted, next_may_wait}
use Rattle.vc_rule_yield.specs.Yielding.{Conclusion}
use Rattle.vc_net_laws.specs.Forced.{is_quiet}
use Rattle.vc_net_laws.specs.Waking.{is_woken}
use Rattle.vc_net_laws.specs.Wakings.{turns_left}
use Rattle.vc_net_laws.specs.Working.{AreAskedOrQuiet, IsWorking, same_giver, woken}
use Rattle.vc_net_laws.proofs.NetLaws.Forced.{given_is_forced}
use Rattle.vc_net_laws.proofs.NetLaws.Waking.{givers_wake_themselves}
use Rattle.vc_net_laws.proofs.NetLaws.Wakings.{atoms_pay_for_turns}
use Rattle.vc_net_laws.proofs.NetLaws.Working.{atoms_come, giver_exact, giver_itself}
use Rattle.vc_net_log.specs.Logs.{cited_by, room_at, seen_by, set_of, step_from, stood_of}
use Rattle.vc_net_log.proofs.LogLaws.{new_steps_are_free, premises_are_cited, rooms_are_bounds}
use Rattle.vc_net_places.specs.Cells.{begins_of, own_bound}
use Rattle.vc_net_places.specs.Places.{place_in}
use Rattle.vc_net_sources.specs.Asking.{origin_of}
use Rattle.vc_net_sources.specs.Laws.{IsFound}
use Rattle.vc_net_sources.proofs.GiverLaws.{found_fits_cells, found_is_new, found_is_next}
use Rattle.vc_net_standing.specs.declared.standing.Fact.{Fact}
use Rattle.vc_net_standing.specs.Standing.{is_free}
use Rattle.vc_net_waking.specs.Waking.{waking, with_givers}
use Rattle.vc_net_waking.proofs.GiverLaws.{others_wait_on, sizes_stay}
use Rattle.vc_net_waking.proofs.WakingLaws.{waking_is_few, woken_wait}
use Rattle.vc_net_going.specs.Spending.{Spends}
use Rattle.vc_net_waking.proofs.SpendLaws.{conclusions_are_of_things, rules_woken_are_few, woken_are_on}
use Rattle.vc_net_going.specs.Going.{HasCome, IsGoing, MayCome, WasFound, is_asked_or_quiet, turns_of}
use Rattle.vc_net_going.specs.declared.work.Work.{Work}
use Rattle.vc_net_going.specs.Working.{IsWorkOf, with_conclusion}

-- one step more concludes one atom more
pub set_more : (steps : List Step) (step : Step)
    → set_with (concluded (steps ++ step ∷ [])) ≡ set_with (concluded steps) ++ step.conclusion ∷ []
set_more steps step = ap (λ xs. Here 0 ∷ xs) (map-append step_form.conclusion steps (step ∷ []))

-- what was concluded still is when steps have come
pub still_concluded : (steps more : List Step) → Within same_atom (set_with (concluded steps))
    (set_with (concluded (steps ++ more)))
still_concluded steps more a h =
    ap (λ xs. has same_atom (Here 0 ∷ xs) a) (map-append step_form.conclusion steps more)
    ∙ has_front same_atom atom_exact atom_itself (set_with (concluded steps)) (map step_form.conclusion more) a h

giver_in : (giver : Giver) (givers : List Giver) → settling.IsIn giver givers → has same_giver givers giver ≡ true
giver_in giver [] i = absurd i
giver_in giver (x ∷ xs) (inl e) =
    subst (λ g. has same_giver (x ∷ xs) g ≡ true) (sym e) (has_first same_giver giver_exact giver_itself x xs)
giver_in giver (x ∷ xs) (inr i) = has_more same_giver giver_exact giver_itself x xs giver (giver_in giver xs i)

pub in_plan : (plan : Plan) (giver : Giver) → settling.IsIn giver (givers_of plan) → has same_giver
    (givers_of plan) giver ≡ true
in_plan plan giver i = giver_in giver (givers_of plan) i

-- each conclusion that is found may come
module _ (plan : Plan) (sources : Sources) (work : Work) (giver : Giver) (all : List Conclusion) (n : ℕ)
    (conclusion : Conclusion) (valid : IsValid plan) (going : IsGoing plan sources work (giver ∷ []))
    (was : WasFound plan sources work giver all) (is : slice_get all n ≡ Some conclusion) where
  found : IsFound plan sources work.log.steps giver conclusion
  found = record { all = all; place = n; found = was; is = is }

  given : has same_atom (atoms_of (gives plan sources giver (seen_of (set_of work.log)))) conclusion.atom ≡ true
  given = (found_is_new plan sources work.log.steps giver conclusion found).0

  pub found_new : says (seen_by work.log) conclusion.atom ≡ false
  found_new = (found_is_new plan sources work.log.steps giver conclusion found).1

  pub found_may_come : MayCome plan sources work.log.steps giver conclusion.atom conclusion.premises
  found_may_come = record {
    next = found_is_next plan sources work.log.steps giver conclusion going.working.sound.clear found;
    few = found_fits_cells plan sources work.log.steps giver conclusion valid going.working.sound.clear found;
    forced = given_is_forced plan sources (set_of work.log) giver conclusion.atom going.working.sound.forced given;
    giver_there = in_plan plan giver (giving_in plan sources giver (set_of work.log) conclusion.atom given);
    of = λ things holds touch.
        conclusions_are_of_things plan sources things giver (set_of work.log) conclusion.atom holds
        (in_plan plan giver (giving_in plan sources giver (set_of work.log) conclusion.atom given)) touch given;
    wakes = λ whole within.
        givers_wake_themselves plan sources (set_of work.log) whole conclusion.atom giver within given;
  }

-- and still when other steps have come
pub may_still_come : (plan : Plan) (sources : Sources) (steps more later : List Step) (giver : Giver) (atom : Atom)
    (premises : List Atom)
    → later ≡ steps ++ more → MayCome plan sources steps giver atom premises
    → MayCome plan sources later giver atom premises
may_still_come plan sources steps more later giver atom premises e may =
    subst (λ s. MayCome plan sources s giver atom premises) (sym e) (record {
      next = next_may_wait plan sources steps more atom (origin_of sources giver) premises may.next;
      few = may.few;
      forced = may.forced;
      giver_there = may.giver_there;
      of = may.of;
      wakes = λ set within. may.wakes set (λ a h. within a (still_concluded steps more a h));
    })

-- a list of givers with one beside
wait_beside : (old new : List Giver) (giver : Giver) → Within same_giver old new
    → Within same_giver (old ++ giver ∷ []) (new ++ giver ∷ [])
wait_beside old new giver within other h =
    elim (has_either same_giver giver_exact giver_itself old (giver ∷ []) other h) [
      | inl p ↦ has_front same_giver giver_exact giver_itself new (giver ∷ []) other (within other p)
      | inr p ↦ has_back same_giver giver_exact giver_itself new (giver ∷ []) other p
    ]

-- what doesn't stand in a clear set isn't in it
pub not_in : (plan : Plan) (set : List Atom) (atom : Atom) → is_clear plan set ≡ true → says (seen_of set) atom ≡ false
    → has same_atom set atom ≡ false
not_in plan set atom clear new =
    false_from_ne_true (has same_atom set atom) (λ h. both (has_says plan set clear atom h) new)

-- the conclusion comes, and the giver is asked again
module _ (plan : Plan) (sources : Sources) (work : Work) (giver : Giver) (atom : Atom) (premises : List Atom)
    (going : IsGoing plan sources work (giver ∷ [])) (may : MayCome plan sources work.log.steps giver atom premises)
  where
    abbrev fact : Fact
    fact = record { atom = atom; origin = origin_of sources giver }

    abbrev step : Step
    step = step_from work.log.steps fact premises

    abbrev new : Work
    new = with_conclusion plan sources work fact premises

    more : set_of new.log ≡ set_of work.log ++ atom ∷ []
    more = set_more work.log.steps step

    cites : cited (concluded work.log.steps) (cited_by work.log.steps premises) ≡ Some premises
    cites = premises_are_cited work.log.steps premises may.next.there

    pub step_accepted : is_accepted plan sources (work.log.steps ++ step ∷ []) ≡ true
    step_accepted =
        next_is_accepted plan sources work.log.steps atom (origin_of sources giver) premises
        (cited_by work.log.steps premises) going.accepted may.next cites

    stays : Within same_giver work.agenda.givers new.agenda.givers
    stays = others_wait_on work.agenda (waking plan sources (seen_by new.log) (thing_of atom))

    all_wait : is_clear plan (set_of work.log ++ atom ∷ []) ≡ true
        → AreAskedOrQuiet plan sources new.agenda.givers (set_of work.log ++ atom ∷ [])
        (woken plan (set_of work.log) atom)
    all_wait clear =
        subst (λ s. AreAskedOrQuiet plan sources
        (with_givers work.agenda (waking plan sources (seen_of s) (thing_of atom))).givers
        (set_of work.log ++ atom ∷ []) (woken plan (set_of work.log) atom))
        (sym more) (woken_wait plan sources (set_of work.log) atom work.agenda going.of.sizes clear)

    -- also with the giver beside them
    all_beside : is_clear plan (set_of work.log ++ atom ∷ []) ≡ true
        → AreAskedOrQuiet plan sources (new.agenda.givers ++ giver ∷ []) (set_of work.log ++ atom ∷ [])
        (woken plan (set_of work.log) atom)
    all_beside clear other h =
        let quiet = is_quiet plan sources (set_of work.log ++ atom ∷ []) other in
        let on = has same_giver (new.agenda.givers ++ giver ∷ []) other in
        elim (or_cases (has same_giver new.agenda.givers other) quiet (all_wait clear other h)) [
          | inl e ↦
              or_left on quiet (has_front same_giver giver_exact giver_itself new.agenda.givers (giver ∷ []) other e)
          | inr e ↦ or_right on quiet e
        ]

    asked : is_clear plan (set_of work.log ++ atom ∷ []) ≡ true → is_asked_or_quiet plan sources giver new ≡ true
    asked clear =
        ap (λ s. has same_giver new.agenda.givers giver || is_quiet plan sources s giver) more
        ∙ all_wait clear giver
        (filter_has same_giver giver_exact giver_itself (is_woken plan (set_of work.log) atom) (givers_of plan) giver
        may.giver_there (may.wakes (set_of work.log) (λ a h. h)))

    -- there is room for it
    pub is_placed : is_clear plan (set_of work.log ++ atom ∷ []) ≡ true → is_named plan atom ≡ true
    is_placed clear =
        (facts plan (set_of work.log ++ atom ∷ []) clear).named atom
        (has_back same_atom atom_exact atom_itself (set_of work.log) (atom ∷ []) atom
        (has_first same_atom atom_exact atom_itself atom []))

    pub has_room : is_clear plan (set_of work.log ++ atom ∷ []) ≡ true
        → length premises ≤ room_at work.log.begins (place_in work.log.index atom)
    has_room clear =
        let same : room_at work.log.begins (place_in work.log.index atom) ≡ own_bound plan (place_for atom)
        = ap (λ b. room_at b (place_in work.log.index atom)) going.of.begins
        ∙ (ap (λ i. room_at (begins_of plan) (place_in i atom)) going.of.index
        ∙ rooms_are_bounds plan atom (is_placed clear)) in
        let few = may.few in
        omega (arith, same, few)

    pub has_place : is_clear plan (set_of work.log ++ atom ∷ []) ≡ true → says (seen_by work.log) atom ≡ false
        → is_free (stood_of work.log) atom ≡ true
    has_place clear fresh = new_steps_are_free plan work.log atom going.of.index clear fresh

    works : is_clear plan (set_of work.log ++ atom ∷ []) ≡ true → says (seen_by work.log) atom ≡ false
        → IsWorking plan sources (new.agenda.givers ++ giver ∷ []) (set_of new.log)
    works clear fresh =
        subst (λ s. IsWorking plan sources (new.agenda.givers ++ giver ∷ []) s) (sym more)
        (atoms_come plan sources (work.agenda.givers ++ giver ∷ []) (new.agenda.givers ++ giver ∷ [])
        (set_of work.log) atom
        going.working may.forced (not_in plan (set_of work.log) atom going.working.sound.clear fresh) clear
        (wait_beside work.agenda.givers new.agenda.givers giver stays) (all_beside clear))

    fewer : is_clear plan (set_of work.log ++ atom ∷ []) ≡ true → says (seen_by work.log) atom ≡ false
        → turns_of plan new ≤ turns_of plan work
    fewer clear fresh =
        let few = waking_is_few plan sources (seen_by new.log) atom work.agenda (is_placed clear) in
        subst (λ s. turns_left plan s new.agenda.givers ≤ turns_of plan work) (sym more)
        (atoms_pay_for_turns plan (set_of work.log) atom work.agenda.givers new.agenda.givers clear
        (distinct_more same_atom atom_exact atom_itself (set_of work.log) atom going.working.distinct
        (not_in plan (set_of work.log) atom going.working.sound.clear fresh)) few)

    still_of : IsWorkOf plan new
    still_of =
        let sizes = sizes_stay work.agenda (waking plan sources (seen_by new.log) (thing_of atom)) in record {
          index = going.of.index;
          begins = going.of.begins;
          sizes = (sizes.0 ∙ going.of.sizes.0, sizes.1 ∙ going.of.sizes.1);
          readers = going.of.readers;
          untriggered = going.of.untriggered;
          reasons = going.of.reasons;
          collisions = going.of.collisions;
          clashes = going.of.clashes;
          taken = going.of.taken;
        }

    spends : is_clear plan (set_of work.log ++ atom ∷ []) ≡ true → Spends plan giver work new
    spends clear things front count base holds touch spent = record {
      on = woken_are_on plan sources things work.agenda (seen_by new.log) (thing_of atom) going.of.sizes
          (may.of things holds touch) spent.on;
      fresh = spent.fresh ++ step ∷ [];
      grown = ap (λ steps. steps ++ step ∷ []) spent.grown ∙ append_assoc front spent.fresh (step ∷ []);
      of = λ a h. elim (has_either same_atom atom_exact atom_itself (concluded spent.fresh) (atom ∷ []) a
          (ap (λ xs. has same_atom xs a) (sym (map-append step_form.conclusion spent.fresh (step ∷ []))) ∙ h)) [
            | inl p ↦ spent.of a p
            | inr p ↦ elim (has_cases same_atom atom_exact atom_itself atom [] a p) [
              | inl q ↦ ap (λ b. has_thing things (thing_of b)) q ∙ may.of things holds touch
              | inr q ↦ absurd (cc)
            ]
          ];
      paid =
          let few = rules_woken_are_few plan sources work.agenda (seen_by new.log) atom in
          let paid = spent.paid in
          let more = sum_by_push (rules_at plan) (concluded spent.fresh) atom in
          let same = ap (sum_by (rules_at plan)) (map-append step_form.conclusion spent.fresh (step ∷ [])) in
          omega (arith, few, paid, more, same);
    }

    pub comes : is_clear plan (set_of work.log ++ atom ∷ []) ≡ true → says (seen_by work.log) atom ≡ false
        → HasCome plan sources giver atom work (with_conclusion plan sources work fact premises)
    comes clear fresh = record {
      going = record { of = still_of; accepted = step_accepted; working = works clear fresh };
      more = step ∷ [];
      grown = refl;
      fewer = fewer clear fresh;
      calm = refl;
      wait_on = stays;
      waits = λ e. asked clear;
      unchanged = λ e. absurd (both e fresh);
      spends = spends clear;
    }

    pub stood : says (seen_by work.log) atom ≡ true → HasCome plan sources giver atom work work
    stood stands = record {
      going = going;
      more = [];
      grown = sym (append-nil work.log.steps);
      fewer = omega arith;
      calm = refl;
      wait_on = λ other h. h;
      waits = λ e. absurd (both stands e);
      unchanged = λ e. refl;
      spends = λ things front count base holds touch spent. spent;
    }
