-- The work of a net goes on with other sources, with what is kept of its log.
use Rattle.std.proofs.Common.{◌≡◌, ℕ, ◌+◌, ◌≤◌, ◌⊎◌, add-one, Bool, true, false, not, ◌||◌}
use Rattle.std.proofs.Common.{List, [], ◌∷◌, ◌++◌, length, refl, sym, ◌∙◌, ap, subst, inl, inr, arith, append-nil}
use Rattle.std.proofs.Common.{◌-◌, append_assoc, drop, get_or, take}
use Rattle.std.specs.Prelude.{Option, None, Some, if◌then◌else◌}
use Rattle.std.specs.List.{AllByRecursion, IsDistinct, filter, list_any}
use Rattle.std.proofs.lemmas.Bool.{and_parts, or_cases, or_left, or_right}
use Rattle.std.proofs.lemmas.List.{length-map, map-append, take_all}
use Rattle.vc_base.specs.Chains.{cites_earlier}
use Rattle.vc_base.specs.Kept.{count_with, kept, new_premises, number_for, with_step}
use Rattle.vc_base.specs.Sets.{has, Within}
use Rattle.vc_base.proofs.SetLaws.{both, filter_has, has_back, has_cases, has_either, has_filter, has_first, has_front}
use Rattle.vc_base.proofs.SetLaws.{has_more, same_test, told}
use Rattle.vc_base.proofs.ChainLaws.{accepted_earlier}
use Rattle.vc_plan.specs.declared.atoms.Atom.{Atom}
use Rattle.vc_plan.specs.declared.atoms.Atom.TheVariants.{Here}
use Rattle.vc_plan.specs.declared.atoms.Step.{Step}
use Rattle.vc_plan.specs.declared.plans.Plan.{Plan}
use Rattle.vc_plan.specs.Bounds.{greatest}
use Rattle.vc_plan.specs.Clear.{is_clear}
use Rattle.vc_plan.specs.Domains.{atom_count}
use Rattle.vc_plan.specs.Gives.{Giver, givers_of}
use Rattle.vc_plan.specs.Seen.{same_atom, seen_of}
use Rattle.vc_plan.specs.Settle.{base}
use Rattle.vc_plan.specs.Sources.{Sources}
use Rattle.vc_plan.proofs.PlanLaws.Atoms.{atom_exact, atom_itself}
use Rattle.vc_plan.proofs.PlanLaws.Bound.{clear_sets_are_small}
use Rattle.vc_plan.proofs.PlanLaws.Facts.{facts, part_clear}
use Rattle.vc_plan_reasons.specs.Checking.{concluded, follows, is_accepted, set_with, step_form}
use Rattle.vc_plan_reasons.specs.Keeping.{entry_differs, is_gone, kept_of, user_differs}
use Rattle.vc_plan_reasons.specs.Things.{thing_of}
use Rattle.vc_plan_reasons.proofs.ReasonLaws.Keeping.{kept_is_accepted}
use Rattle.vc_rule_yield.specs.Filling.{Filled}
use Rattle.vc_net_agenda.specs.Agendas.{Awaited}
use Rattle.vc_net_blame.specs.Finding.{collision_bound}
use Rattle.vc_net_bounds.specs.Counting.{clash_cells}
use Rattle.vc_net_laws.specs.Forced.{is_quiet}
use Rattle.vc_net_laws.specs.Triggers.{stands_in, trigger_by}
use Rattle.vc_net_laws.specs.Waking.{IsSplit, giver_differs, giver_touches, touches_some}
use Rattle.vc_net_laws.specs.Working.{AreAskedOrQuiet, IsWorking, disturbed, is_disturbed, same_giver}
use Rattle.vc_net_laws.proofs.NetLaws.Forced.{logs_are_forced}
use Rattle.vc_net_laws.proofs.NetLaws.Working.{giver_exact, giver_itself, work_is_kept}
use Rattle.vc_net_log.specs.Going.{WereTaken, with_steps}
use Rattle.vc_net_log.specs.Logs.{Logged, set_of}
use Rattle.vc_net_log.proofs.LogLaws.{atoms_stand}
use Rattle.vc_net_places.specs.Cells.{bounds_of}
use Rattle.vc_net_standing.specs.declared.standing.Fact.{Fact}
use Rattle.vc_net_standing.specs.Standing.{atoms_of}
use Rattle.vc_net_waking.specs.Laws.{IsAgendaOf}
use Rattle.vc_net_waking.specs.Waking.{sources_of, waking, with_givers}
use Rattle.vc_net_waking.proofs.GiverLaws.{both_parts, each_waits, others_wait_on, sizes_stay}
use Rattle.vc_net_waking.proofs.WakingLaws.{come_or_quiet, thing_there}
use Rattle.vc_net_going.specs.Going.{IsGoing}
use Rattle.vc_net_going.specs.Renewing.{changed_sources, dropped_wake}
use Rattle.vc_net_going.proofs.ChangeLaws.{AreChanges}
use Rattle.vc_net_going.specs.declared.breaker.Breaker.{Breaker}
use Rattle.vc_net_going.specs.declared.work.Work.{Work}
use Rattle.vc_net_going.specs.Breaking.{unbroken}
use Rattle.vc_net_going.specs.Working.{IsWorkOf}
use Rattle.vc_net_going.proofs.TurnLaws.{nobody_beside}

-- one variable more is gone through
pub changed_next : (agenda : Awaited) (old new : Sources) (n : ℕ)
    → with_givers agenda (changed_sources old new (n + 1))
    ≡ with_givers (with_givers agenda (changed_sources old new n))
    (if user_differs old new n || entry_differs old new n then sources_of n else [])
changed_next agenda old new n =
    ap (λ m. with_givers agenda (changed_sources old new m)) (add-one n)
    ∙ both_parts agenda (changed_sources old new n)
    (if user_differs old new n || entry_differs old new n then sources_of n else [])

-- whom a dropped atom wakes is among those who are woken
dropped_there : (plan : Plan) (sources : Sources) (stand atoms : List Atom) (a : Atom) (giver : Giver)
    → has same_atom atoms a ≡ true
    → has same_atom stand a ≡ false
    → has same_giver (waking plan sources (seen_of (set_with stand)) (thing_of a)) giver ≡ true
    → has same_giver (dropped_wake plan sources stand atoms) giver ≡ true
dropped_there plan sources stand [] a giver h gone woken = absurd (cc)
dropped_there plan sources stand (b ∷ atoms) a giver h gone woken =
    elim (has_cases same_atom atom_exact atom_itself b atoms a h) [
      | inl is ↦
          has_front same_giver giver_exact giver_itself (own b) (dropped_wake plan sources stand atoms) giver
          (subst (λ c. has same_giver (own c) giver ≡ true) is
          (ap (λ t. has same_giver (unless t a) giver) gone ∙ woken))
      | inr later ↦
          has_back same_giver giver_exact giver_itself (own b) (dropped_wake plan sources stand atoms) giver
          (dropped_there plan sources stand atoms a giver later gone woken)
    ]
  where
    unless : Bool → Atom → List Giver
    unless t c = if t then [] else waking plan sources (seen_of (set_with stand)) (thing_of c)

    own : Atom → List Giver
    own c = unless (has same_atom stand c) c

-- the first fact wakes whom it wakes, if it was dropped, and those after it do
pub dropped_rest : (plan : Plan) (sources : Sources) (stand : List Atom) (rest : List Fact) (d : Fact)
    (old new : Awaited) → 1 ≤ length rest
    → new ≡ with_givers old
    (if has same_atom stand (get_or rest 0 d).atom then []
    else waking plan sources (seen_of (set_with stand)) (thing_of (get_or rest 0 d).atom))
    → with_givers new (dropped_wake plan sources stand (atoms_of (take (length rest - 1) (drop 1 rest))))
    ≡ with_givers old (dropped_wake plan sources stand (atoms_of rest))
dropped_rest plan sources stand [] d old new some e = absurd (omega arith)
dropped_rest plan sources stand (fact ∷ rest) d old new some e =
    ap (λ xs. with_givers new (dropped_wake plan sources stand (atoms_of xs)))
    (take_all (length (fact ∷ rest) - 1) rest (omega arith))
    ∙ (ap (λ a. with_givers a (dropped_wake plan sources stand (atoms_of rest))) e
    ∙ sym (both_parts old
    (if has same_atom stand fact.atom then [] else waking plan sources (seen_of (set_with stand)) (thing_of fact.atom))
    (dropped_wake plan sources stand (atoms_of rest))))

some_at : (p : Atom → Bool) (xs : List Atom) → list_any p xs ≡ true
    → (a : Atom) × (has same_atom xs a ≡ true) × (p a ≡ true)
some_at p [] h = absurd (cc)
some_at p (x ∷ xs) h = by (or_cases (p x) (list_any p xs) h) (some_at p xs)
  where
    by : (p x ≡ true) ⊎ (list_any p xs ≡ true)
        → (list_any p xs ≡ true → (a : Atom) × (has same_atom xs a ≡ true) × (p a ≡ true))
        → (a : Atom) × (has same_atom (x ∷ xs) a ≡ true) × (p a ≡ true)
    by (inl e) later = (x, has_first same_atom atom_exact atom_itself x xs, e)
    by (inr e) later =
        let r = later e in (r.0, has_more same_atom atom_exact atom_itself x xs r.0 r.1, r.2)

-- what holds of a list of conclusions holds of those that are kept, if it holds without one
kept_part : (P : List Atom → Type 0)
    → ((front : List Atom) (a : Atom) (more : List Atom) → P (front ++ a ∷ more) → P (front ++ more))
    → (gone : Step → Bool) (numbers : List (Option ℕ)) (count : ℕ) (front : List Atom) (steps : List Step)
    → P (front ++ concluded steps) → P (front ++ concluded (kept step_form gone numbers count steps))
kept_part P less gone numbers count front [] h = h
kept_part P less gone numbers count front (step ∷ steps) h =
    by (new_premises step_form gone numbers step)
    (λ o. kept_part P less gone (numbers ++ number_for o count ∷ []) (count_with o count)
    (front ++ step.conclusion ∷ []) steps
    (subst P (sym (append_assoc front (step.conclusion ∷ []) (concluded steps))) h))
    (λ o. kept_part P less gone (numbers ++ number_for o count ∷ []) (count_with o count) front steps
    (less front step.conclusion (concluded steps) h))
  where
    rest : Option (List ℕ) → List Step
    rest o = kept step_form gone (numbers ++ number_for o count ∷ []) (count_with o count) steps

    by : (o : Option (List ℕ))
        → ((o : Option (List ℕ)) → P ((front ++ step.conclusion ∷ []) ++ concluded (rest o)))
        → ((o : Option (List ℕ)) → P (front ++ concluded (rest o)))
        → P (front ++ concluded (with_step step_form step o (rest o)))
    by None more less = less None
    by (Some premises) more less =
        subst P (append_assoc front (step.conclusion ∷ []) (concluded (rest (Some premises)))) (more (Some premises))

apart_less : (q : Atom) (xs : List Atom) (y : Atom) (ys : List Atom)
    → AllByRecursion (λ x. same_atom q x ≡ false) (xs ++ y ∷ ys) → AllByRecursion (λ x. same_atom q x ≡ false)
    (xs ++ ys)
apart_less q [] y ys h = h.1
apart_less q (x ∷ xs) y ys h = (h.0, apart_less q xs y ys h.1)

distinct_less : (xs : List Atom) (y : Atom) (ys : List Atom) → IsDistinct same_atom (xs ++ y ∷ ys)
    → IsDistinct same_atom (xs ++ ys)
unfolding IsDistinct
distinct_less [] y ys h = h.1
distinct_less (x ∷ xs) y ys h = (apart_less x xs y ys h.0, distinct_less xs y ys h.1)

within_less : (set xs : List Atom) (y : Atom) (ys : List Atom) → Within same_atom (xs ++ y ∷ ys) set
    → Within same_atom (xs ++ ys) set
within_less set xs y ys within a h =
    elim (has_either same_atom atom_exact atom_itself xs ys a h) [
      | inl p ↦ within a (has_front same_atom atom_exact atom_itself xs (y ∷ ys) a p)
      | inr p ↦ within a (has_back same_atom atom_exact atom_itself xs (y ∷ ys) a
          (has_more same_atom atom_exact atom_itself y ys a p))
    ]

-- what is kept of a log, and who is asked, when sources change
module _ (plan : Plan) (old new : Sources) (work : Work) (going : IsGoing plan old work []) where
  abbrev pub steps_left : List Step
  steps_left = kept_of old new work.log.steps

  abbrev set : List Atom
  set = set_of work.log

  abbrev left : List Atom
  left = set_with (concluded steps_left)

  pub earlier_cited : cites_earlier step_form 1 work.log.steps ≡ true
  earlier_cited = accepted_earlier step_form (follows plan old) [] work.log.steps going.accepted

  -- there is room for all facts
  pub few_steps : length work.log.steps ≤ work.taken.room
  few_steps =
      let small = clear_sets_are_small plan set going.working.sound.clear going.working.distinct in
      let count : length (concluded work.log.steps) ≡ length work.log.steps
      = length-map work.log.steps step_form.conclusion in
      let room = going.of.taken in
      omega (arith, small, count, room)

  left_accepted : is_accepted plan new steps_left ≡ true
  left_accepted = kept_is_accepted plan old new work.log.steps going.accepted

  left_within : Within same_atom left set
  left_within = kept_part (λ xs. Within same_atom xs set) (within_less set) (is_gone old new) [] 0 base work.log.steps
      (λ a h. h)

  left_distinct : IsDistinct same_atom left
  left_distinct = kept_part (IsDistinct same_atom) distinct_less (is_gone old new) [] 0 base work.log.steps
      going.working.distinct

  left_clear : is_clear plan left ≡ true
  left_clear = part_clear plan left set going.working.sound.clear left_within

  abbrev dropped : List Atom
  dropped = filter (λ a. not (has same_atom left a)) set

  is_split : IsSplit set left dropped
  is_split atom =
      same_test (has same_atom set atom) (has same_atom left atom || has same_atom dropped atom) parts whole
    where
      parts : has same_atom set atom ≡ true → (has same_atom left atom || has same_atom dropped atom) ≡ true
      parts h =
          elim (told (has same_atom left atom)) [
            | inl e ↦ or_left (has same_atom left atom) (has same_atom dropped atom) e
            | inr e ↦ or_right (has same_atom left atom) (has same_atom dropped atom)
                (filter_has same_atom atom_exact atom_itself (λ a. not (has same_atom left a)) set atom h (ap not e))
          ]

      whole : (has same_atom left atom || has same_atom dropped atom) ≡ true → has same_atom set atom ≡ true
      whole h =
          elim (or_cases (has same_atom left atom) (has same_atom dropped atom) h) [
            | inl e ↦ left_within atom e
            | inr e ↦ (has_filter same_atom atom_exact atom_itself (λ a. not (has same_atom left a)) set atom e).0
          ]

  module _ (taken : List Fact) (were : WereTaken work.log.steps steps_left taken) where
    -- whatever was dropped is among what was taken
    dropped_taken : (a : Atom) → has same_atom dropped a ≡ true
        → (has same_atom (atoms_of taken) a ≡ true) × (has same_atom (concluded steps_left) a ≡ false)
        × (has same_atom set a ≡ true)
    dropped_taken a h =
        let p = has_filter same_atom atom_exact atom_itself (λ b. not (has same_atom left b)) set a h in
        let gone = not_true (has same_atom left a) p.1 in (
          taken_of gone (has_cases same_atom atom_exact atom_itself (Here 0) (concluded work.log.steps) a p.0),
          none_of gone (told (has same_atom (concluded steps_left) a)),
          p.0,
        )
      where
        not_true : (b : Bool) → not b ≡ true → b ≡ false
        not_true true e = absurd (cc)
        not_true false e = refl

        none_of : has same_atom left a ≡ false
            → (has same_atom (concluded steps_left) a ≡ true) ⊎ (has same_atom (concluded steps_left) a ≡ false)
            → has same_atom (concluded steps_left) a ≡ false
        none_of gone (inl e) =
            absurd (both (has_more same_atom atom_exact atom_itself (Here 0) (concluded steps_left) a e) gone)
        none_of gone (inr e) = e

        split : concluded work.log.steps ≡ atoms_of were.front ++ atoms_of taken
        split = sym (atoms_stand work.log.steps)
            ∙ (ap atoms_of were.split ∙ map-append (λ (f : Fact). f.atom) were.front taken)

        taken_of : has same_atom left a ≡ false → (a ≡ Here 0) ⊎ (has same_atom (concluded work.log.steps) a ≡ true)
            → has same_atom (atoms_of taken) a ≡ true
        taken_of gone (inl root) =
            absurd (both (ap (has same_atom left) root
            ∙ has_first same_atom atom_exact atom_itself (Here 0) (concluded steps_left)) gone)
        taken_of gone (inr e) =
            elim (has_either same_atom atom_exact atom_itself (atoms_of were.front) (atoms_of taken) a
            (ap (λ xs. has same_atom xs a) (sym split) ∙ e)) [
              | inl q ↦ absurd (both (has_more same_atom atom_exact atom_itself (Here 0) (concluded steps_left) a
                  (were.stayed a q)) gone)
              | inr q ↦ q
            ]

    abbrev woken : List Giver
    woken = dropped_wake plan new (concluded steps_left) (atoms_of taken)

    abbrev pub first : Awaited
    first = with_givers work.agenda woken

    pub first_sizes : IsAgendaOf plan first
    first_sizes =
        let sizes = sizes_stay work.agenda woken in
        (sizes.0 ∙ going.of.sizes.0, sizes.1 ∙ going.of.sizes.1)

    module _ (changes : List Giver) (are : AreChanges plan old new changes) where
      abbrev pub last : Awaited
      last = with_givers first changes

      pub last_sizes : IsAgendaOf plan last
      last_sizes =
          let sizes = sizes_stay first changes in (sizes.0 ∙ first_sizes.0, sizes.1 ∙ first_sizes.1)

      wait_on : Within same_giver work.agenda.givers last.givers
      wait_on giver h = others_wait_on first changes giver (others_wait_on work.agenda woken giver h)

      touching_waits : (giver : Giver) → has same_giver (givers_of plan) giver ≡ true
          → touches_some plan dropped giver ≡ true → stands_in left (trigger_by plan giver) ≡ true
          → (has same_giver last.givers giver || is_quiet plan new left giver) ≡ true
      touching_waits giver there touches stands =
          let r = some_at (λ atom. giver_touches plan giver (thing_of atom)) dropped touches in
          let d = dropped_taken r.0 r.1 in
          let such = thing_there plan r.0 ((facts plan set going.working.sound.clear).named r.0 d.2) in
          elim (come_or_quiet plan new left (thing_of r.0) giver left_clear such there r.2 stands) [
            | inl comes ↦
                or_left (has same_giver last.givers giver) (is_quiet plan new left giver)
                (others_wait_on first changes giver
                (each_waits plan work.agenda woken giver going.of.sizes
                (dropped_there plan new (concluded steps_left) (atoms_of taken) r.0 giver d.0 d.1 comes) there))
            | inr quiet ↦ or_right (has same_giver last.givers giver) (is_quiet plan new left giver) quiet
          ]

      changed_waits : (giver : Giver) → has same_giver (givers_of plan) giver ≡ true
          → giver_differs old new giver ≡ true → has same_giver last.givers giver ≡ true
      changed_waits giver there differs =
          each_waits plan first changes giver first_sizes (are.all giver there differs) there

      disturbed_wait : AreAskedOrQuiet plan new last.givers left (disturbed plan old new left dropped)
      disturbed_wait giver h =
          let p = has_filter same_giver giver_exact giver_itself (is_disturbed plan old new left dropped)
          (givers_of plan) giver h in
          let q = and_parts (giver_differs old new giver || touches_some plan dropped giver)
          (stands_in left (trigger_by plan giver)) p.1 in
          elim (or_cases (giver_differs old new giver) (touches_some plan dropped giver) q.0) [
            | inl differs ↦
                or_left (has same_giver last.givers giver) (is_quiet plan new left giver)
                (changed_waits giver p.0 differs)
            | inr touches ↦ touching_waits giver p.0 touches q.1
          ]

      working : IsWorking plan new last.givers left
      working =
          work_is_kept plan old new work.agenda.givers last.givers set left dropped
          (subst (λ givers. IsWorking plan old givers set) (append-nil work.agenda.givers) going.working)
          is_split (logs_are_forced plan new steps_left left_accepted)
          (λ a h. has_front same_atom atom_exact atom_itself base (concluded steps_left) a h) left_distinct wait_on
          disturbed_wait

      -- the work goes on
      pub work_renews : (later : Work) → IsWorkOf plan later → later.log.steps ≡ steps_left → later.agenda ≡ last
          → IsGoing plan new later []
      work_renews later of kept asked =
          nobody_beside plan new later of (ap (is_accepted plan new) kept ∙ left_accepted)
          (subst (λ givers. IsWorking plan new givers (set_of later.log)) (sym (ap (λ (a : Awaited). a.givers) asked))
          (subst (λ steps. IsWorking plan new last.givers (set_with (concluded steps))) (sym kept) working))

-- the work that is left when the calls were made, one after the other
pub renewed_is_of : (plan : Plan) (old : Sources) (work : Work) (log : Logged) (agenda : Awaited) (breaker : Breaker)
    (taken : Filled Fact) (steps : List Step) → IsGoing plan old work [] → log ≡ with_steps work.log steps
    → IsAgendaOf plan agenda → breaker ≡ unbroken work.breaker → taken.room ≡ work.taken.room
    → IsWorkOf plan (record {
      log = log;
      agenda = agenda;
      readers = work.readers;
      untriggered = work.untriggered;
      breaker = breaker;
      taken = taken;
    })
renewed_is_of plan old work log agenda breaker taken steps going is sizes calm room = record {
  index = ap (λ (l : Logged). l.index) is ∙ going.of.index;
  begins = ap (λ (l : Logged). l.begins) is ∙ going.of.begins;
  sizes = sizes;
  readers = going.of.readers;
  untriggered = going.of.untriggered;
  reasons = subst (λ (b : Breaker). greatest (λ n. n) (bounds_of plan) ≤ b.reasons.room) (sym calm) going.of.reasons;
  collisions = subst (λ (b : Breaker). collision_bound plan ≤ b.premises.room) (sym calm) going.of.collisions;
  clashes = subst (λ (b : Breaker). clash_cells plan ≤ b.premises.room) (sym calm) going.of.clashes;
  taken = subst (λ n. atom_count plan ≤ n) (sym room) going.of.taken;
}
