-- How an evaluation goes from stage to stage, and ends.
use Rattle.std.proofs.Common.{◌≡◌, ℕ, zero, suc, ◌+◌, ◌-◌, ◌<◌, ◌≤◌, Bool, true, false, not, ◌&&◌, List, [], ◌∷◌, ◌++◌}
use Rattle.std.proofs.Common.{length, map, take, replicate, refl, sym, ap, ◌∙◌, subst, arith}
use Rattle.std.specs.Prelude.{Option, None, Some, ◌==◌, if◌then◌else◌, nat_eq, option_map, slice_get, slice_index_or}
use Rattle.std.specs.Prelude.{slice_set, pred}
use Rattle.std.specs.List.{AllByRecursion, flat_map}
use Rattle.std.proofs.lemmas.Bool.{eq-eqb, eqb-true, eqb-false}
use Rattle.std.proofs.lemmas.List.FromFn.{length-map-range_with_len}
use Rattle.std.proofs.lemmas.List.{length-map, length-replicate, length-set, length-take, map-append, take_all}
use Rattle.vc_base.specs.Rounds.{settled}
use Rattle.vc_base.specs.Sets.{has}
use Rattle.vc_value.specs.declared.value.Value.{Value}
use Rattle.vc_plan.specs.declared.atoms.Atom.{Atom}
use Rattle.vc_plan.specs.declared.atoms.Clash.{Clash}
use Rattle.vc_plan.specs.declared.atoms.Culprit.{Culprit}
use Rattle.vc_plan.specs.declared.atoms.Outcome.TheVariants as outcomes
use Rattle.vc_plan.specs.declared.plans.Plan.{Plan}
use Rattle.vc_plan.specs.declared.plans.Slot.{Slot}
use Rattle.vc_plan.specs.Domains.{numbers_below}
use Rattle.vc_plan.specs.Entries.{Entries, entry_in, no_entries, sources_in}
use Rattle.vc_plan.specs.Evaluate.{Users, between, broken_at, holds, sources_of}
use Rattle.vc_plan.specs.Fitting.{users_fit}
use Rattle.vc_plan.specs.Seen.{seen_of}
use Rattle.vc_plan.specs.Settle.{settlement_of}
use Rattle.vc_plan.specs.Slots.{depth_in, is_root}
use Rattle.vc_plan.specs.Sources.{Sources}
use Rattle.vc_plan.specs.Valid.{IsValid}
use Rattle.vc_plan.specs.Writes.{depth_of, depth_writes, greatest_depth, last_stage}
use Rattle.vc_plan.proofs.PlanLaws.Rounds.{rounds_suffice}
use Rattle.vc_plan_reasons.specs.Fitting.{sources_fit}
use Rattle.vc_plan_reasons.proofs.ReasonLaws.Fitting.{stages_fit}
use Rattle.vc_rule.proofs.BoundLaws.{clear_lies_in_grains}
use Rattle.vc_proc_look_ups.specs.LookUps.{AreLookUpsOf}
use Rattle.vc_plan_values.specs.Computing.{LiesInGrains}
use Rattle.vc_net_log.specs.Logs.{set_of}
use Rattle.vc_net_going.specs.Breaking.{clash_from, steps_with}
use Rattle.vc_net.specs.Differing.{AreAllWritten, SameBeside}
use Rattle.vc_net.specs.Ending.{EndsAs, IsSettled, clash_of}
use Rattle.vc_net.specs.Nets.{AreFor, IsNetOf, Netted, outcome_by}
use Rattle.vc_net.proofs.ChangeLaws.{fit_beside}
use Rattle.vc_proc.specs.Laws.{FlagsLate}
use Rattle.vc_proc.specs.Overlays.{EntriesLie}
use Rattle.vc_proc.specs.Stages.{stage_written}
use Rattle.vc_proc.proofs.LyingLemmas.{nothing_lies}
use Rattle.vc_proc.proofs.StageLaws.{depths_are_written, none_are_replicas, stages_keep_lengths, sums_are_written}
use Rattle.vc_session_stages.specs.Stages.{HaveAllSettled, HaveSettled, is_late_seen, seen_at, was_seen}
use Rattle.vc_session_stages.proofs.StageLaws.{sets_say_the_same, stages_begin, stages_break, stages_go_on}
use Rattle.vc_session_stages.proofs.StageLaws.{stages_settle, was_is}
use Rattle.vc_session_evaluation.specs.Evaluating.{AreStagesOf, HasBroken, HasEnded, HasSettled, IsCalm}
use Rattle.vc_session_evaluation.specs.Evaluating.{IsRefuted, said_by, stages_said, writes_nothing}
use Rattle.vc_session_evaluation.specs.Writing.{IsBlankBeside}
use Rattle.vc_session_evaluation.specs.Going.{FlagsLateOnes, LiesAt, SettlesAt, WritesAfter, flags_before, with_late}
use Rattle.vc_session_evaluation.specs.declared.stages.Stages.{Stages}
use Rattle.vc_session_evaluation.proofs.ListLemmas.{all_set, seen_below, seen_there, set_there, take_set, told_below}

-- the clash of a net, by whom it blames
abbrev clash_of_culprit : Netted → Option Culprit → Option Clash
clash_of_culprit net culprit =
    clash_from (steps_with net.work.log.steps net.work.breaker.fact net.work.breaker.reasons.items)
    net.work.breaker.premises.items culprit

-- before a stage of this number: those before it have settled, and what is written fits
pub record IsAt (plan : Plan) (users : Users) (stages : Stages) (k : ℕ) : Type 0 where
  pub of : AreStagesOf plan stages
  pub some : writes_nothing plan ≡ false
  pub settled : HaveSettled plan users (map said_by (take k stages.nets.items)) stages.overlay
  pub fits : sources_fit plan (sources_of users stages.overlay) ≡ true
  pub lie : EntriesLie plan stages.overlay

-- where there are procedures, each stage has a net
pub nets_apart : (plan : Plan) (stages : Stages) → AreStagesOf plan stages → writes_nothing plan ≡ false
    → length stages.nets.items ≡ suc (last_stage plan)
nets_apart plan stages of some = of.many ∙ ap (λ b. if b then 1 else suc (last_stage plan)) some

-- and each says what its net says
pub each_says : (plan : Plan) (nets : List Netted) → writes_nothing plan ≡ false
    → stages_said plan nets ≡ map said_by nets
each_says plan nets some =
    ap (λ b. if b then flat_map
    (λ net. replicate (suc (last_stage plan)) (said_by net)) nets else map said_by nets) some

-- a valid plan has a slot, and no slot is deeper than the deepest
pub some_slot : (plan : Plan) → IsValid plan → 0 < length plan.slots
some_slot plan valid = by plan.slots valid.root
  where
    by : (slots : List Slot) → is_root (slice_get slots 0) ≡ true → 0 < length slots
    by [] e = absurd (cc e)
    by (slot ∷ slots) e = omega arith

pub deepest : (slots : List Slot) (i : ℕ) → depth_in (slice_get slots i) ≤ greatest_depth slots
deepest [] i = omega arith
deepest (slot ∷ slots) zero = omega arith
deepest (slot ∷ slots) (suc i) = omega (arith, deepest slots i)

-- what is settled is clear, so values lie in grains
pub settled_lies : (plan : Plan) (users : Users) (entries : Entries) (set : List Atom) → IsValid plan
    → settlement_of plan (sources_of users entries) ≡ settled set → LiesInGrains plan (seen_of set)
settled_lies plan users entries set valid e =
    clear_lies_in_grains plan set (rounds_suffice plan (sources_of users entries) set (some_slot plan valid) e).clear

pub lies_at : (plan : Plan) (users : Users) (k : ℕ) (old new : Stages) → IsValid plan → k < length old.nets.items
    → SettlesAt plan users k old new true → LiesAt plan new.nets.items k
lies_at plan users k old new valid there s net at =
    let lies : LiesInGrains plan (said_by s.net) =
    subst (LiesInGrains plan) (sym s.settled.2) (settled_lies plan users old.overlay s.settled.0 valid s.settled.1) in
    let here : Some s.net ≡ Some net
    = sym (set_there old.nets.items k s.net there) ∙ ap (λ nets. slice_get nets k) (sym s.nets) ∙ at in
    let same : s.net ≡ net = cc in
    subst (λ n. LiesInGrains plan (said_by n)) same lies

-- what stays while a net is put in its place, and while nothing but flags or entries change
pub stages_are : (plan : Plan) (old new : Stages) → AreStagesOf plan old → AllByRecursion (IsNetOf plan) new.nets.items
    → length new.nets.items ≡ length old.nets.items → length new.overlay ≡ length old.overlay → AreFor plan new.sources
    → new.written ≡ old.written → new.look_ups ≡ old.look_ups → IsBlankBeside old.written new.sources.written
    → length new.late ≡ length old.late
    → AreStagesOf plan new
stages_are plan old new of nets many overlay sources written orders blank late = record {
  nets = nets;
  many = many ∙ of.many;
  overlay = overlay ∙ of.overlay;
  sources = sources;
  late = late ∙ of.late;
  writes = subst (AreAllWritten plan) (sym written) of.writes;
  blank = subst (λ vars. IsBlankBeside vars new.sources.written) (sym written) blank;
  look_ups = subst (AreLookUpsOf plan) (sym orders) of.look_ups;
}

-- the user's values are put into the sources, and nothing else changes
pub users_put : (plan : Plan) (old new : Stages) (values : List (Option Value)) → AreStagesOf plan old
    → length values ≡ length plan.vars → new.nets.items ≡ old.nets.items
    → new.overlay ≡ replicate (length old.overlay) None → new.sources
    ≡ record { user = values; written = old.sources.written } → new.written ≡ old.written
    → new.look_ups ≡ old.look_ups → new.late ≡ old.late → AreStagesOf plan new
users_put plan old new values of many nets overlay sources written orders late =
    let entries : new.sources.written ≡ old.sources.written = ap (λ (s : Sources). s.written) sources in
    stages_are plan old new of (subst (AllByRecursion (IsNetOf plan)) (sym nets) of.nets) (ap length nets)
    (ap length overlay ∙ length-replicate (length old.overlay) None)
    (ap (λ (s : Sources). length s.user) sources ∙ many, ap length entries ∙ of.sources.1) written orders
    (subst (IsBlankBeside old.written) (sym entries) of.blank) (ap length late)

-- where nothing is written but what statements write, what is written differs nowhere else
pub blanks_are_same : (plan : Plan) (users : Users) (stages : Stages) (vars : List ℕ) → AreStagesOf plan stages
    → vars ≡ stages.written → sources_fit plan (sources_of users stages.overlay) ≡ true
    → SameBeside vars stages.sources.written (sources_in stages.overlay)
blanks_are_same plan users stages vars of is fits v none =
    let apart = ap (λ ws. has nat_eq ws v) (sym is) ∙ none in
    of.blank v apart ∙ sym (fit_beside plan (sources_of users stages.overlay) stages.written fits of.writes v apart)

-- sources that are filled so are those of the stage
pub filled_is : (users : Users) (entries : Entries) (sources : Sources) (values : List (Option Value))
    → sources ≡ record { user = values; written = sources_in entries } → values ≡ users.values
    → sources ≡ sources_of users entries
filled_is users entries sources values is e =
    is ∙ ap (λ own. let s : Sources = record { user = own; written = sources_in entries } in s) e

-- sources that stay have nothing written where they had nothing
blank_stays : (old new : Stages) → new.sources ≡ old.sources → IsBlankBeside old.written old.sources.written
    → IsBlankBeside old.written new.sources.written
blank_stays old new same blank = subst (λ (s : Sources). IsBlankBeside old.written s.written) (sym same) blank

-- a net has settled in its place
pub settled_at : (plan : Plan) (users : Users) (k : ℕ) (old new : Stages) (net : Netted) (whole : Bool)
    → AreStagesOf plan old
    → length users.values ≡ length plan.vars → IsNetOf plan net → new.nets.items ≡ slice_set old.nets.items k net
    → new.sources ≡ sources_of users old.overlay → sources_fit plan (sources_of users old.overlay) ≡ true
    → HasSettled plan new.sources net whole → new.overlay ≡ old.overlay → new.written ≡ old.written
    → new.look_ups ≡ old.look_ups → new.late ≡ old.late → new.broken ≡ old.broken → SettlesAt plan users k old new whole
settled_at plan users k old new net whole of values its nets sources fits done overlay written orders late calm =
    record {
      of = stages_are plan old new of
          (subst (AllByRecursion (IsNetOf plan)) (sym nets) (all_set (IsNetOf plan) old.nets.items k net of.nets its))
          (ap length nets ∙ length-set old.nets.items k net) (ap length overlay)
          (subst (AreFor plan) (sym sources) (values, length-map old.overlay (option_map entry_in) ∙ of.overlay))
          written
          orders
          (subst (λ (s : Sources). IsBlankBeside old.written s.written) (sym sources)
          (fit_beside plan (sources_of users old.overlay) old.written fits of.writes))
          (ap length late);
      net = net;
      nets = nets;
      settled = subst (λ s. HasSettled plan s net whole) sources done;
      sources = sources;
      overlay = overlay;
      late = late;
      broken = calm;
    }

-- an evaluation begins with nothing written
pub begins : (plan : Plan) (users : Users) (old new : Stages) → IsValid plan → users_fit plan users ≡ true
    → AreStagesOf plan old → writes_nothing plan ≡ false
    → new.nets.items ≡ old.nets.items → new.sources ≡ old.sources → new.written ≡ old.written
    → new.look_ups ≡ old.look_ups → new.late ≡ old.late
    → new.overlay ≡ old.overlay → old.overlay ≡ replicate (length plan.vars) None → IsAt plan users new 0
begins plan users old new valid fit of some nets sources written orders late overlay cleared =
    let nothing : new.overlay ≡ no_entries plan = overlay ∙ cleared ∙ sym (none_are_replicas plan) in
    record {
      of = stages_are plan old new of (subst (AllByRecursion (IsNetOf plan)) (sym nets) of.nets) (ap length nets)
          (ap length overlay)
          (subst (AreFor plan) (sym sources) of.sources) written orders (blank_stays old new sources of.blank)
          (ap length late);
      some = some;
      settled = subst (HaveSettled plan users []) (sym nothing) (stages_begin plan users);
      fits = ap (λ entries. sources_fit plan (sources_of users entries)) nothing
          ∙ (stages_fit plan users valid.own_writes fit).first;
      lie = subst (EntriesLie plan) (sym nothing) (nothing_lies plan plan);
    }

-- as many stages so far
pub count : (plan : Plan) (users : Users) (stages : Stages) (k : ℕ) → IsAt plan users stages k → k ≤ last_stage plan
    → length (map said_by (take k stages.nets.items)) ≡ k
count plan users stages k at h =
    length-map (take k stages.nets.items) said_by ∙ length-take k stages.nets.items
    ∙ omega (arith, nets_apart plan stages at.of at.some)

-- the stages with the one that settles
with_next : (plan : Plan) (users : Users) (k : ℕ) (old new : Stages) (net : Netted) (set : List Atom)
    → k < length old.nets.items
    → new.nets.items ≡ slice_set old.nets.items k net → said_by net ≡ seen_of set
    → map said_by (take (suc k) new.nets.items) ≡ map said_by (take k old.nets.items) ++ seen_of set ∷ []
with_next plan users k old new net set there nets said =
    ap (λ all. map said_by (take (suc k) all)) nets ∙ ap (map said_by) (take_set old.nets.items k net there)
    ∙ map-append said_by (take k old.nets.items) (net ∷ [])
    ∙ ap (λ seen. map said_by (take k old.nets.items) ++ seen ∷ []) said

-- those that are flagged weren't here when their own procedures ran
flags : (plan : Plan) (users : Users) (k : ℕ) (old mid new : Stages) (at : IsAt plan users old k) (set : List Atom)
    → suc k ≡ last_stage plan → SettlesAt plan users k old mid true → WritesAfter plan users k mid new
    → FlagsLate plan at.settled.sets (seen_of set) new.late
flags plan users k old mid new at set last s w i below here =
    let told : new.late ≡ map (λ j. not (was_seen plan (map said_by mid.nets.items) j))
    (numbers_below (length plan.slots)) =
    w.late ∙ ap (λ b. if b
    then map (λ j. not (was_seen plan (map said_by mid.nets.items) j)) (numbers_below (length plan.slots))
    else mid.late)
    (eq_yes (suc k) (last_stage plan) last) in
    let d = depth_of plan i in
    let shallow : d < k = omega (arith, deepest plan.slots i, last) in
    let same : seen_at (map said_by mid.nets.items) d ≡ seen_at (map seen_of at.settled.sets) d =
    ap (λ nets. seen_at (map said_by nets) d) s.nets ∙ seen_below said_by old.nets.items k s.net d shallow
    ∙ ap (λ all. seen_at all d) (sym at.settled.seen) in
    ap (λ late. slice_index_or late i false) told
    ∙ told_below (λ j. not (was_seen plan (map said_by mid.nets.items) j)) (length plan.slots) i false below
    ∙ ap (λ seen. not (seen.here i)) same ∙ ap not (sym (was_is plan at.settled.sets i))
  where
    eq_yes : (a b : ℕ) → a ≡ b → (a == b) ≡ true
    eq_yes a b e = eq-eqb a b e

-- what is written after a stage is what the definition has there
written : (plan : Plan) (users : Users) (k : ℕ) (old mid new : Stages) (at : IsAt plan users old k)
    → k < last_stage plan
    → k < length old.nets.items → (s : SettlesAt plan users k old mid true) → WritesAfter plan users k mid new
    → new.overlay ≡ between plan users (last_stage plan - suc k) at.settled.sets s.settled.0 old.overlay
written plan users k old mid new at below there s w =
    let set = s.settled.0 in
    let found : slice_get mid.nets.items k ≡ Some s.net
    = ap (λ nets. slice_get nets k) s.nets ∙ set_there old.nets.items k s.net there in
    w.written s.net found
    ∙ ap (λ seen. stage_written plan (holds users) (suc k) new.late seen mid.overlay) s.settled.2
    ∙ ap (stage_written plan (holds users) (suc k) new.late (seen_of set)) s.overlay
    ∙ by (suc k == last_stage plan) refl
  where
    sets : List (List Atom)
    sets = at.settled.sets

    many : length sets ≡ k
    many = sym (length-map sets seen_of) ∙ ap length at.settled.seen ∙ count plan users old k at (omega (arith, below))

    by : (b : Bool) → (suc k == last_stage plan) ≡ b
        → stage_written plan (holds users) (suc k) new.late (seen_of s.settled.0) old.overlay
        ≡ between plan users (last_stage plan - suc k) sets s.settled.0 old.overlay
    by true e =
        let last : suc k ≡ last_stage plan = eqb-true (suc k) (last_stage plan) e in
        let none : last_stage plan - suc k ≡ 0 = omega (arith, last) in
        ap (λ n. stage_written plan (holds users) n new.late (seen_of s.settled.0) old.overlay) last
        ∙ sums_are_written plan (holds users) new.late sets s.settled.0 old.overlay
        (flags plan users k old mid new at s.settled.0 last s w)
        ∙ ap (λ n. between plan users n sets s.settled.0 old.overlay) (sym none)
    by false e =
        let other = eqb-false (suc k) (last_stage plan) e in
        let more : last_stage plan - suc k ≡ suc (last_stage plan - suc (suc k)) = omega (arith, below, other) in
        depths_are_written plan (holds users) k new.late s.settled.0 old.overlay (omega (arith, below, other))
        ∙ ap (λ depth. depth_writes plan (holds users) depth s.settled.0 old.overlay) (sym many)
        ∙ ap (λ n. between plan users n sets s.settled.0 old.overlay) (sym more)

-- a stage that settles, and what is written after it, lead on to the next
pub goes_on : (plan : Plan) (users : Users) (k : ℕ) (old mid new : Stages) → IsValid plan → users_fit plan users ≡ true
    → k < last_stage plan → IsAt plan users old k → SettlesAt plan users k old mid true
    → WritesAfter plan users k mid new
    → IsAt plan users new (k + 1)
goes_on plan users k old mid new valid fit below at s w =
    let set = s.settled.0 in
    let there : k < length old.nets.items = omega (arith, nets_apart plan old at.of at.some, below) in
    let later : ℕ = last_stage plan - suc k in
    let long = count plan users old k at (omega (arith, below)) in
    let is = written plan users k old mid new at below there s w in
    let next : suc k ≡ k + 1 = omega arith in
    let views : map said_by (take (k + 1) new.nets.items) ≡ map said_by (take k old.nets.items) ++ seen_of set ∷ [] =
    ap (λ n. map said_by (take n new.nets.items)) (sym next)
    ∙ with_next plan users k old new s.net set there (w.nets ∙ s.nets) s.settled.2 in
    let so_far
    = stages_go_on plan users (map said_by (take k old.nets.items)) old.overlay set later at.settled
    (omega (arith, long, below)) s.settled.1 in
    record {
      of = w.of;
      some = at.some;
      settled = subst (λ entries. HaveSettled plan users (map said_by (take (k + 1) new.nets.items)) entries) (sym is)
          (subst (λ views. HaveSettled plan users views (between plan users later at.settled.sets set old.overlay))
          (sym views) so_far);
      fits = ap (λ entries. sources_fit plan (sources_of users entries)) is
          ∙ (stages_fit plan users valid.own_writes fit).next later at.settled.sets set old.overlay at.fits;
      lie = w.lie;
    }

-- a stage that is broken ends it
pub breaks : (plan : Plan) (users : Users) (k : ℕ) (old mid new : Stages) → k ≤ last_stage plan → IsAt plan users old k
    → SettlesAt plan users k old mid false → new.nets.items ≡ mid.nets.items → new.overlay ≡ mid.overlay
    → HasBroken plan users new k
breaks plan users k old mid new below at s nets overlay =
    let long = count plan users old k at below in
    let there : k < length old.nets.items = omega (arith, nets_apart plan old at.of at.some, below) in
    let same : new.overlay ≡ old.overlay = overlay ∙ s.overlay in
    record {
      breaks =
          stages_break plan users (map said_by (take k old.nets.items)) old.overlay at.settled
          (omega (arith, long, below)) s.settled.0
          ∙ ap (λ n. broken_at n old.overlay) long ∙ ap (broken_at k) (sym same);
      net = s.net;
      its = ap (λ all. slice_get all k) (nets ∙ s.nets) ∙ set_there old.nets.items k s.net there;
      refuted = subst (λ entries. IsRefuted plan (sources_of users entries) s.net) (sym same) s.settled.1;
    }

-- so does the last, where it settles
pub ends : (plan : Plan) (users : Users) (k : ℕ) (old mid new : Stages) → k ≡ last_stage plan → IsAt plan users old k
    → SettlesAt plan users k old mid true → FlagsLateOnes plan mid new → HasEnded plan users new
ends plan users k old mid new last at s flagged =
    let set = s.settled.0 in
    let long = count plan users old k at (omega (arith, last)) in
    let there : k < length old.nets.items = omega (arith, nets_apart plan old at.of at.some, last) in
    let same : new.overlay ≡ old.overlay = flagged.overlay ∙ s.overlay in
    let nets = flagged.nets ∙ s.nets in
    let size : length new.nets.items ≡ suc k
    = ap length nets ∙ length-set old.nets.items k s.net ∙ omega (arith, nets_apart plan old at.of at.some, last) in
    let each : stages_said plan new.nets.items ≡ map said_by new.nets.items = each_says plan new.nets.items at.some in
    let views : stages_said plan new.nets.items ≡ map said_by (take k old.nets.items) ++ seen_of set ∷ [] =
    each ∙ ap (map said_by) (sym (take_all (suc k) new.nets.items (omega (arith, size))))
    ∙ with_next plan users k old new s.net set there nets s.settled.2 in
    record {
      settled = subst (HaveAllSettled plan users (stages_said plan new.nets.items)) (sym same)
          (subst (λ all. HaveAllSettled plan users all old.overlay) (sym views)
          (stages_settle plan users (map said_by (take k old.nets.items)) old.overlay set at.settled (long ∙ last)
          s.settled.1));
      late = flagged.late ∙ ap (λ all. map (is_late_seen plan (map said_by all)) (numbers_below (length plan.slots)))
          (sym flagged.nets) ∙ ap (λ said. map (is_late_seen plan said) (numbers_below (length plan.slots))) (sym each);
      net = s.net;
      its = ap (λ n. slice_get new.nets.items (pred n)) size ∙ ap (λ all. slice_get all k) nets
          ∙ set_there old.nets.items k s.net there;
      calm = subst (λ entries. IsCalm plan (sources_of users entries) s.net) (sym same) s.settled.3;
    }

-- flags before the last stage
pub flagged_before : (plan : Plan) (old : Stages) (stage last : ℕ) (nets : List Netted) (late : List Bool)
    → stage + 1 ≡ last → last ≡ last_stage plan
    → nets ≡ old.nets.items
    → late ≡ map (λ i. not (was_seen plan (map said_by nets) i)) (numbers_below (length plan.slots))
    → late ≡ flags_before plan stage old
flagged_before plan old stage last nets late e f same told =
    let is : suc stage ≡ last_stage plan = omega (arith, e, f) in
    told ∙ ap (λ all. map (λ i. not (was_seen plan (map said_by all) i)) (numbers_below (length plan.slots))) same
    ∙ ap (λ b. if b then map (λ i. not (was_seen plan (map said_by old.nets.items) i))
    (numbers_below (length plan.slots)) else old.late)
    (sym (eq-eqb (suc stage) (last_stage plan) is))

flags_long : (plan : Plan) (old : Stages) (k : ℕ) → AreStagesOf plan old
    → length (flags_before plan k old) ≡ length old.late
flags_long plan old k of = by (suc k == last_stage plan)
  where
    flags : List Bool
    flags = map (λ i. not (was_seen plan (map said_by old.nets.items) i)) (numbers_below (length plan.slots))

    by : (b : Bool) → length (if b then flags else old.late) ≡ length old.late
    by true = length-map-range_with_len (λ i. not (was_seen plan (map said_by old.nets.items) i)) 0 (length plan.slots)
        ∙ sym of.late
    by false = refl

-- what is written after a stage, where flags come first
pub wrote : (plan : Plan) (users : Users) (k stage : ℕ) (old flagged new : Stages) (net : Netted) (late : List Bool)
    → AreStagesOf plan old
    → flagged ≡ with_late old (flags_before plan k old) → stage ≡ k + 1 → slice_get flagged.nets.items k ≡ Some net
    → late ≡ flagged.late
    → new.nets.items ≡ flagged.nets.items → new.sources ≡ flagged.sources → new.written ≡ flagged.written
    → new.look_ups ≡ flagged.look_ups → new.late ≡ flagged.late → new.broken ≡ flagged.broken
    → new.overlay ≡ stage_written plan (holds users) stage late (said_by net) flagged.overlay
    → EntriesLie plan new.overlay
    → WritesAfter plan users k old new
wrote plan users k stage old flagged new net late of is next found flags nets sources vars orders kept calm written
    lie =
    let all = nets ∙ ap (λ s. s.nets.items) is in
    let told : new.late ≡ flags_before plan k old = kept ∙ ap (λ s. s.late) is in
    let entries : flagged.overlay ≡ old.overlay = ap (λ s. s.overlay) is in
    let same : new.sources ≡ old.sources = sources ∙ ap (λ s. s.sources) is in
    let long : length new.overlay ≡ length old.overlay =
    ap length written ∙ stages_keep_lengths plan (holds users) stage late (said_by net) flagged.overlay
    ∙ ap length entries in
    record {
      of = stages_are plan old new of (subst (AllByRecursion (IsNetOf plan)) (sym all) of.nets) (ap length all) long
          (subst (AreFor plan) (sym same) of.sources) (vars ∙ ap (λ s. s.written) is) (orders ∙ ap (λ s. s.look_ups) is)
          (blank_stays old new same of.blank) (ap length told ∙ flags_long plan old k of);
      nets = all;
      late = told;
      written = λ other at.
          let here : Some net ≡ Some other = sym found ∙ ap (λ s. slice_get s.nets.items k) is ∙ at in
          let same : net ≡ other = cc in
          let count : stage ≡ suc k = omega (arith, next) in
          written ∙ ap (λ n. stage_written plan (holds users) n late (said_by net) flagged.overlay) count
          ∙ ap (λ l. stage_written plan (holds users) (suc k) l (said_by net) flagged.overlay) (flags ∙ sym kept)
          ∙ ap (λ n. stage_written plan (holds users) (suc k) new.late (said_by n) flagged.overlay) same
          ∙ ap (stage_written plan (holds users) (suc k) new.late (said_by other)) entries;
      lie = lie;
      sources = same;
      broken = calm ∙ ap (λ s. s.broken) is;
    }

-- who is late is flagged, and nothing else changes
pub marked : (plan : Plan) (old new : Stages) → AreStagesOf plan old → new.nets.items ≡ old.nets.items
    → new.sources ≡ old.sources → new.written ≡ old.written → new.look_ups ≡ old.look_ups
    → new.overlay ≡ old.overlay → new.broken ≡ old.broken
    → new.late ≡ map (is_late_seen plan (map said_by old.nets.items)) (numbers_below (length plan.slots))
    → FlagsLateOnes plan old new
marked plan old new of nets sources written orders overlay calm told = record {
  of = stages_are plan old new of (subst (AllByRecursion (IsNetOf plan)) (sym nets) of.nets) (ap length nets)
      (ap length overlay)
      (subst (AreFor plan) (sym sources) of.sources) written orders (blank_stays old new sources of.blank)
      (ap length told ∙ length-map-range_with_len (is_late_seen plan (map said_by old.nets.items)) 0 (length plan.slots)
      ∙ sym of.late);
  nets = nets;
  late = told;
  overlay = overlay;
  sources = sources;
  broken = calm;
}

-- flags of who is late, read off the net of the last stage
pub late_told : (plan : Plan) (nets : List Netted) (k : ℕ) (net : Netted) (late : List Bool) → k ≡ last_stage plan
    → slice_get nets k ≡ Some net
    → late ≡ map (λ i. (said_by net).here i && not (was_seen plan (map said_by nets) i))
    (numbers_below (length plan.slots))
    → late ≡ map (is_late_seen plan (map said_by nets)) (numbers_below (length plan.slots))
late_told plan nets k net late last found told =
    told
    ∙ ap (λ seen. map (λ i. seen.here i && not (was_seen plan (map said_by nets) i))
    (numbers_below (length plan.slots)))
    (sym (seen_there said_by nets k net found) ∙ ap (seen_at (map said_by nets)) last)

-- how settling a net ends: at what its log says, or with a clash that refutes
pub settles : (plan : Plan) (sources : Sources) (net : Netted) → IsValid plan → IsSettled plan sources net.work
    → outcome_by net.work.breaker.culprit ≡ outcomes.Settled → HasSettled plan sources net true
settles plan sources net valid done calm = by net.work.breaker.culprit refl calm
  where
    by : (o : Option Culprit) → net.work.breaker.culprit ≡ o → outcome_by o ≡ outcomes.Settled
        → HasSettled plan sources net true
    by None is e =
        let end : EndsAs plan sources net.work None =
        subst (λ c. EndsAs plan sources net.work (clash_of_culprit net c)) is done.ends in
        let clear = (rounds_suffice plan sources end.0 (some_slot plan valid) end.1).clear in
        let calm : clash_of net.work ≡ None = ap (clash_of_culprit net) is in (
          end.0,
          end.1,
          sym (sets_say_the_same plan end.0 (set_of net.work.log) clear end.2),
          record { done = done; calm = calm },
        )
    by (Some culprit) is e = absurd (cc e)

pub refutes_so : (plan : Plan) (sources : Sources) (net : Netted) (culprit : Culprit) → IsSettled plan sources net.work
    → outcome_by net.work.breaker.culprit ≡ outcomes.Broken culprit → HasSettled plan sources net false
refutes_so plan sources net culprit done broke = by net.work.breaker.culprit refl broke
  where
    by : (o : Option Culprit) → net.work.breaker.culprit ≡ o → outcome_by o ≡ outcomes.Broken culprit
        → HasSettled plan sources net false
    by None is e = absurd (cc e)
    by (Some blamed) is e =
        let kept : clash_of net.work ≡ clash_of_culprit net (Some blamed) = ap (clash_of_culprit net) is in
        of (clash_of_culprit net (Some blamed)) kept refl
        (subst (λ c. EndsAs plan sources net.work (clash_of_culprit net c)) is done.ends)
      where
        of : (o : Option Clash) → clash_of net.work ≡ o → clash_of_culprit net (Some blamed) ≡ o
            → EndsAs plan sources net.work o
            → HasSettled plan sources net false
        of None kept same end = absurd (cc same)
        of (Some clash) kept same end = (end.0, record { done = done; clash = clash; kept = kept; refuting = end.1 })
