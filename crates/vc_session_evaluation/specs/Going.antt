-- What each stage does to what an evaluation works on.
use Rattle.std.specs.Prelude.{◌≡◌, ℕ, suc, Bool, true, not, ◌==◌, List, length, map, replicate, slice_get, slice_set}
use Rattle.std.specs.Prelude.{if◌then◌else◌, None, Some}
use Rattle.vc_plan.specs.declared.plans.Plan.{Plan}
use Rattle.vc_plan.specs.Domains.{numbers_below}
use Rattle.vc_plan.specs.Evaluate.{Users, holds, sources_of}
use Rattle.vc_plan.specs.Fitting.{users_fit}
use Rattle.vc_plan.specs.Writes.{last_stage}
use Rattle.vc_plan_users.specs.Choosing.{Chosen, users_of}
use Rattle.vc_net.specs.Nets.{Netted}
use Rattle.vc_proc.specs.Overlays.{EntriesLie}
use Rattle.vc_proc.specs.Stages.{stage_written}
use Rattle.vc_plan_values.specs.Computing.{LiesInGrains}
use Rattle.vc_session_stages.specs.Stages.{is_late_seen, was_seen}
use Rattle.vc_session_evaluation.specs.Costing.{EvaluationCosts}
use Rattle.vc_session_evaluation.specs.Evaluating.{AreStagesOf, HasSettled, IsEvaluated, said_by}
use Rattle.vc_session_evaluation.specs.Following.{FollowBeside}
use Rattle.vc_session_evaluation.specs.Writing.{IsBlankBeside}
use Rattle.vc_session_evaluation.specs.declared.stages.Stages.{Stages}

-- the stages may be gone through with what the user chose: the sources have it, and nothing is written yet; the first
-- so many nets have it too, but for these variables
pub record MayGo (plan : Plan) (chosen : Chosen) (following : ℕ) (touched : List ℕ) (old : Stages) : Type 0 where
  pub users : length chosen.values ≡ length plan.vars
  pub fit : users_fit plan (users_of chosen) ≡ true
  pub cleared : old.overlay ≡ replicate (length plan.vars) None
  pub taken : old.sources.user ≡ chosen.values
  pub follow : FollowBeside touched chosen.values following old.nets.items

-- they have been, up to the first that is broken; these were their nets before
pub record HaveGone (plan : Plan) (chosen : Chosen) (nets : List Netted) (new : Stages) (before after : ℕ) : Type 0
  where
    pub evaluated : IsEvaluated plan (users_of chosen) new
    pub cost : EvaluationCosts plan (users_of chosen) nets new before after
    pub taken : new.sources.user ≡ chosen.values
    pub blank : IsBlankBeside new.written new.overlay

-- the net of a stage has settled, or not, with the user's values and what was written, which then are the sources; all
-- else is as before
pub record SettlesAt (plan : Plan) (users : Users) (stage : ℕ) (old new : Stages) (whole : Bool) : Type 0 where
  pub of : AreStagesOf plan new
  pub net : Netted
  pub nets : new.nets.items ≡ slice_set old.nets.items stage net
  pub settled : HasSettled plan (sources_of users old.overlay) net whole
  pub sources : new.sources ≡ sources_of users old.overlay
  pub overlay : new.overlay ≡ old.overlay
  pub late : new.late ≡ old.late
  pub broken : new.broken ≡ old.broken

-- what the net of a stage says lies in grains
abbrev pub LiesAt : Plan → List Netted → ℕ → Type 0
LiesAt plan nets stage = (net : Netted) → slice_get nets stage ≡ Some net → LiesInGrains plan (said_by net)

-- before the last stage those are flagged who weren't here when their own procedures ran
abbrev pub flags_before : Plan → ℕ → Stages → List Bool
flags_before plan stage old =
    if suc stage == last_stage plan
    then map (λ i. not (was_seen plan (map said_by old.nets.items) i)) (numbers_below (length plan.slots)) else old.late

abbrev pub with_late : Stages → List Bool → Stages
with_late old flags = record {
  nets = old.nets;
  overlay = old.overlay;
  sources = old.sources;
  written = old.written;
  look_ups = old.look_ups;
  late = flags;
  broken = old.broken;
}

-- what procedures write by what the net of a stage says is written; all else is as before
pub record WritesAfter (plan : Plan) (users : Users) (stage : ℕ) (old new : Stages) : Type 0 where
  pub of : AreStagesOf plan new
  pub nets : new.nets.items ≡ old.nets.items
  pub late : new.late ≡ flags_before plan stage old
  pub written : (net : Netted) → slice_get old.nets.items stage ≡ Some net
      → new.overlay ≡ stage_written plan (holds users) (suc stage) new.late (said_by net) old.overlay
  pub lie : EntriesLie plan new.overlay
  pub sources : new.sources ≡ old.sources
  pub broken : new.broken ≡ old.broken

-- who is late is flagged; all else is as before
pub record FlagsLateOnes (plan : Plan) (old new : Stages) : Type 0 where
  pub of : AreStagesOf plan new
  pub nets : new.nets.items ≡ old.nets.items
  pub late : new.late ≡ map (is_late_seen plan (map said_by old.nets.items)) (numbers_below (length plan.slots))
  pub overlay : new.overlay ≡ old.overlay
  pub sources : new.sources ≡ old.sources
  pub broken : new.broken ≡ old.broken
