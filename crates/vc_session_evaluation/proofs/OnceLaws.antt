-- The one net of stages between which nothing is written: it settles for all of them.
use Rattle.std.proofs.Common.{◌≡◌, ℕ, zero, suc, ◌+◌, ◌≤◌, ◌<◌, Bool, true, false, not, ◌&&◌, List, [], ◌∷◌, ◌++◌}
use Rattle.std.proofs.Common.{length, map, replicate, append_assoc, append-nil, refl, sym, ap, ◌∙◌, subst, arith}
use Rattle.std.specs.Prelude.{◌==◌, reverse, Option, None, Some, if◌then◌else◌, max, slice_get, slice_set, pred}
use Rattle.std.specs.List.{AllByRecursion, flat_map, range_with_len}
use Rattle.std.proofs.lemmas.Bool.{eqb-true}
use Rattle.vc_base.specs.Rounds.{settled}
use Rattle.vc_plan.specs.declared.atoms.Atom.{Atom}
use Rattle.vc_plan.specs.declared.plans.Plan.{Plan}
use Rattle.vc_plan.specs.declared.procedures.Procedure.{Procedure}
use Rattle.vc_plan.specs.Domains.{numbers_below}
use Rattle.vc_plan.specs.Entries.{Entries, no_entries}
use Rattle.vc_plan.specs.Evaluate.{Users, between, broken_at, evaluation_of, holds, if_settled, reached, sources_of}
use Rattle.vc_plan.specs.Evaluate.{stages_from}
use Rattle.vc_plan.specs.Seen.{Seen, seen_of}
use Rattle.vc_plan.specs.Settle.{settlement_of}
use Rattle.vc_plan.specs.Sources.{Sources}
use Rattle.vc_plan.specs.Writes.{all_run, depth_of, instances_at, last_stage, procedures_at, run_procedure}
use Rattle.vc_plan.specs.Writes.{summing_instances}
use Rattle.vc_net.specs.Nets.{Netted}
use Rattle.vc_session_stages.specs.Stages.{HaveAllSettled, is_late_seen, seen_at}
use Rattle.vc_session_stages.proofs.StageLaws.{stages_begin, stages_break}
use Rattle.vc_session_evaluation.specs.Costing.{AreOfStage, GoOn, HasSynced, SyncsAt}
use Rattle.vc_session_evaluation.specs.Evaluating.{AreStagesOf, EndsAt, HasBroken, HasEnded, IsCalm, IsEvaluated}
use Rattle.vc_session_evaluation.specs.Evaluating.{IsRefuted, said_by, stages_said, writes_nothing}
use Rattle.vc_session_evaluation.specs.Going.{SettlesAt}
use Rattle.vc_session_evaluation.specs.declared.stages.Stages.{Stages}
use Rattle.vc_session_evaluation.proofs.CostLaws.{net_next}
use Rattle.vc_session_evaluation.proofs.GoingLaws.{deepest, each_says, nets_apart}
use Rattle.vc_session_evaluation.proofs.ListLemmas.{seen_there, set_there}

-- without procedures none runs, so nothing is written
none_there : (plan : Plan) → writes_nothing plan ≡ true → plan.procedures ≡ []
none_there plan e = by plan.procedures e
  where
    by : (procedures : List Procedure) → (length procedures == 0) ≡ true → procedures ≡ []
    by [] e = refl
    by (procedure ∷ procedures) e = absurd (omega (arith, eqb-true (length (procedure ∷ procedures)) 0 e))

nothing_runs : (plan : Plan) (seen : Seen) (holds : ℕ → ℕ → Bool) (ps : List ℕ) (entries : Entries)
    → plan.procedures ≡ [] → all_run plan seen holds ps entries ≡ entries
nothing_runs plan seen holds [] entries none = refl
nothing_runs plan seen holds (p ∷ ps) entries none =
    ap (λ procedures. all_run plan seen holds ps
    (run_procedure plan seen holds p (slice_get procedures p) entries)) none
    ∙ nothing_runs plan seen holds ps entries none

nothing_between : (plan : Plan) (users : Users) (later : ℕ) (sets : List (List Atom)) (set : List Atom)
    (entries : Entries)
    → plan.procedures ≡ [] → between plan users later sets set entries ≡ entries
nothing_between plan users zero sets set entries none =
    nothing_runs plan (seen_of set) (holds users)
    (flat_map (procedures_at plan true) (reverse (summing_instances plan sets (seen_of set)))) entries none
nothing_between plan users (suc later) sets set entries none =
    nothing_runs plan (seen_of set) (holds users)
    (flat_map (procedures_at plan false) (instances_at plan (seen_of set) (length sets))) entries none

-- so where the first stage settles, the others do at the same set
stages_repeat : (plan : Plan) (users : Users) (later : ℕ) (sets : List (List Atom)) (set : List Atom)
    (entries : Entries)
    → plan.procedures ≡ [] → settlement_of plan (sources_of users entries) ≡ settled set
    → stages_from plan users later sets entries ≡ reached (sets ++ replicate (suc later) set) entries
stages_repeat plan users zero sets set entries none e =
    ap (λ end. if_settled end (broken_at (length sets) entries) (λ set. reached (sets ++ set ∷ []) entries)) e
stages_repeat plan users (suc later) sets set entries none e =
    ap (λ end. if_settled end (broken_at (length sets) entries)
    (λ set. stages_from plan users later (sets ++ set ∷ []) (between plan users later sets set entries))) e
    ∙ ap (stages_from plan users later (sets ++ set ∷ [])) (nothing_between plan users later sets set entries none)
    ∙ stages_repeat plan users later (sets ++ set ∷ []) set entries none e
    ∙ ap (λ all. reached all entries) (append_assoc sets (set ∷ []) (replicate (suc later) set))

map_replicate : {A B : Type 0} (f : A → B) (n : ℕ) (x : A) → map f (replicate n x) ≡ replicate n (f x)
map_replicate f zero x = refl
map_replicate f (suc n) x = ap (λ rest. f x ∷ rest) (map_replicate f n x)

all_settle : (plan : Plan) (users : Users) (set : List Atom) → writes_nothing plan ≡ true
    → settlement_of plan (sources_of users (no_entries plan)) ≡ settled set
    → HaveAllSettled plan users (replicate (suc (last_stage plan)) (seen_of set)) (no_entries plan)
all_settle plan users set none e = record {
  sets = replicate (suc (last_stage plan)) set;
  seen = map_replicate seen_of (suc (last_stage plan)) set;
  whole = stages_repeat plan users (last_stage plan) [] set (no_entries plan) (none_there plan none) e;
}

-- nobody is late whom every stage says to be here
seen_again : (n k : ℕ) (seen : Seen) → k < n → seen_at (replicate n seen) k ≡ seen
seen_again zero k seen h = absurd (omega arith)
seen_again (suc n) zero seen h = refl
seen_again (suc n) (suc k) seen h = seen_again n k seen (omega arith)

never : (b : Bool) → (b && not b) ≡ false
never true = refl
never false = refl

nobody_late : (plan : Plan) (seen : Seen) (i : ℕ)
    → is_late_seen plan (replicate (suc (last_stage plan)) seen) i ≡ false
nobody_late plan seen i =
    let last = seen_again (suc (last_stage plan)) (last_stage plan) seen (omega arith) in
    let own
    = seen_again (suc (last_stage plan)) (depth_of plan i) seen (omega (arith, deepest plan.slots i)) in
    ap (λ s. s.here i && not ((seen_at (replicate (suc (last_stage plan)) seen) (depth_of plan i)).here i)) last
    ∙ ap (λ s. seen.here i && not (s.here i)) own ∙ never (seen.here i)

pub none_flagged : (f : ℕ → Bool) (a n : ℕ) → ((i : ℕ) → f i ≡ false)
    → replicate n false ≡ map f (range_with_len a n)
none_flagged f a zero none = refl
none_flagged f a (suc n) none =
    let first = sym (none a) in
    let more = none_flagged f (a + 1) n none in
    λ j. first j ∷ more j

-- the list of the one net
one_set : {A : Type 0} (xs : List A) (x : A) → length xs ≡ 1 → slice_set xs 0 x ≡ x ∷ []
one_set [] x e = absurd (cc e)
one_set (y ∷ []) x e = refl
one_set (y ∷ z ∷ xs) x e = absurd (omega arith)

pub one_net : (plan : Plan) (stages : Stages) → AreStagesOf plan stages → writes_nothing plan ≡ true
    → length stages.nets.items ≡ 1
one_net plan stages of none = of.many ∙ ap (λ b. if b then 1 else suc (last_stage plan)) none

one_says : (plan : Plan) (nets : List Netted) (net : Netted) → writes_nothing plan ≡ true → nets ≡ net ∷ []
    → stages_said plan nets ≡ replicate (suc (last_stage plan)) (said_by net)
one_says plan nets net none is =
    let each : Netted → List Seen = λ net. replicate (suc (last_stage plan)) (said_by net) in
    ap (λ b. if b then flat_map each nets else map said_by nets) none ∙ ap (flat_map each) is
    ∙ append-nil (each net)

-- the last net says what the last stage says
one_there : {A : Type 0} (xs : List A) (x : A) → length xs ≡ 1 → slice_get xs 0 ≡ Some x → xs ≡ x ∷ []
one_there [] x e at = absurd (cc e)
one_there (y ∷ []) x e at = let same : y ≡ x = cc at in ap (λ z. z ∷ []) same
one_there (y ∷ z ∷ xs) x e at = absurd (omega arith)

pub last_said : (plan : Plan) (stages : Stages) (net : Netted) → AreStagesOf plan stages
    → slice_get stages.nets.items (pred (length stages.nets.items)) ≡ Some net
    → seen_at (stages_said plan stages.nets.items) (last_stage plan) ≡ said_by net
last_said plan stages net of its = by (writes_nothing plan) refl
  where
    by : (b : Bool) → writes_nothing plan ≡ b
        → seen_at (stages_said plan stages.nets.items) (last_stage plan) ≡ said_by net
    by true none =
        let one = one_net plan stages of none in
        let first = ap (λ n. slice_get stages.nets.items (pred n)) (sym one) ∙ its in
        ap (λ said. seen_at said (last_stage plan))
        (one_says plan stages.nets.items net none (one_there stages.nets.items net one first))
        ∙ seen_again (suc (last_stage plan)) (last_stage plan) (said_by net) (omega arith)
    by false some =
        let last = ap (λ n. slice_get stages.nets.items (pred n)) (sym (nets_apart plan stages of some)) ∙ its in
        ap (λ said. seen_at said (last_stage plan)) (each_says plan stages.nets.items some)
        ∙ seen_there said_by stages.nets.items (last_stage plan) net last

-- where it settles, all stages have settled
once_ends : (plan : Plan) (users : Users) (old mid new : Stages) → writes_nothing plan ≡ true
    → length old.nets.items ≡ 1 → old.overlay ≡ no_entries plan → SettlesAt plan users 0 old mid true → new.nets.items
    ≡ mid.nets.items
    → new.overlay ≡ mid.overlay → new.late ≡ replicate (length mid.late) false → HasEnded plan users new
once_ends plan users old mid new none one blank s nets overlay late =
    let set = s.settled.0 in
    let same : new.overlay ≡ old.overlay = overlay ∙ s.overlay in
    let is : new.nets.items ≡ s.net ∷ [] = nets ∙ s.nets ∙ one_set old.nets.items s.net one in
    let said : stages_said plan new.nets.items ≡ replicate (suc (last_stage plan)) (seen_of set) =
    one_says plan new.nets.items s.net none is ∙ ap (replicate (suc (last_stage plan))) s.settled.2 in
    let clear = ap (λ entries. settlement_of plan (sources_of users entries)) (sym blank) ∙ s.settled.1 in
    record {
      settled = subst (HaveAllSettled plan users (stages_said plan new.nets.items)) (sym (same ∙ blank))
          (subst (λ all. HaveAllSettled plan users all (no_entries plan)) (sym said)
          (all_settle plan users set none clear));
      late = late ∙ ap (λ n. replicate n false) (s.of.late)
          ∙ none_flagged (is_late_seen plan (stages_said plan new.nets.items)) 0 (length plan.slots)
          (λ i. ap (λ all. is_late_seen plan all i) said ∙ nobody_late plan (seen_of set) i);
      net = s.net;
      its = ap (λ all. slice_get all (pred (length all))) is;
      calm = subst (λ entries. IsCalm plan (sources_of users entries) s.net) (sym same) s.settled.3;
    }

pub once_evaluated : (plan : Plan) (users : Users) (old mid new : Stages) → writes_nothing plan ≡ true
    → length old.nets.items ≡ 1 → old.overlay ≡ no_entries plan → SettlesAt plan users 0 old mid true
    → new.nets.items ≡ mid.nets.items → new.overlay ≡ mid.overlay → new.late ≡ replicate (length mid.late) false
    → new.broken ≡ None → IsEvaluated plan users new
once_evaluated plan users old mid new none one blank s nets overlay late calm =
    subst (EndsAt plan users new) (sym calm) (once_ends plan users old mid new none one blank s nets overlay late)

-- where it breaks, the first stage is broken
pub once_breaks : (plan : Plan) (users : Users) (old mid new : Stages) → length old.nets.items ≡ 1
    → old.overlay ≡ no_entries plan → SettlesAt plan users 0 old mid false → new.nets.items ≡ mid.nets.items
    → new.overlay ≡ mid.overlay → HasBroken plan users new 0
once_breaks plan users old mid new one blank s nets overlay =
    let same : new.overlay ≡ old.overlay = overlay ∙ s.overlay in
    let there : 0 < length old.nets.items = omega (arith, one) in
    let breaks = ap (λ entries. settlement_of plan (sources_of users entries)) (sym blank) ∙ s.settled.0 in
    record {
      breaks = stages_break plan users [] (no_entries plan) (stages_begin plan users) (omega arith) breaks
          ∙ ap (broken_at 0) (sym (same ∙ blank));
      net = s.net;
      its = ap (λ all. slice_get all 0) (nets ∙ s.nets) ∙ set_there old.nets.items 0 s.net there;
      refuted = subst (λ entries. IsRefuted plan (sources_of users entries) s.net) (sym same) s.settled.1;
    }

-- it goes on once
pub once_goes_on : (plan : Plan) (users : Users) (old new : Stages) (before after : ℕ) → old.overlay ≡ no_entries plan
    → SyncsAt plan users 0 old new before after → GoOn plan users 0 1 old.nets.items new.nets.items before after
once_goes_on plan users old new before after blank s =
    let number : 0 ≡ 0 + 0 = omega arith in
    let has = s.synced.has ∙ ap (sources_of users) blank in
    subst (λ nets. GoOn plan users 0 1 old.nets.items nets before after) (sym s.nets)
    (net_next plan users 0 0 old.nets.items old.nets.items s.was s.net before before after (refl, refl) s.there
    (subst (λ n. AreOfStage plan users n s.net.sources) number ([], no_entries plan, (refl, refl), has))
    (subst (λ (sources : Sources). HasSynced plan sources s.was s.net before after) (sym s.synced.has) s.synced))
