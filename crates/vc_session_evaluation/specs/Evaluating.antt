-- What an evaluation works on, and how it ends.
use Rattle.std.specs.Prelude.{◌≡◌, ◌==◌, ℕ, suc, pred, Bool, true, false, if◌then◌else◌, List, length, map, replicate}
use Rattle.std.specs.Prelude.{slice_get, Option, None, Some}
use Rattle.std.specs.List.{AllByRecursion, flat_map}
use Rattle.vc_base.specs.Rounds.{broken, settled}
use Rattle.vc_plan.specs.declared.atoms.Atom.{Atom}
use Rattle.vc_plan.specs.declared.atoms.Clash.{Clash}
use Rattle.vc_plan.specs.declared.plans.Plan.{Plan}
use Rattle.vc_plan.specs.Domains.{numbers_below}
use Rattle.vc_plan.specs.Evaluate.{Users, broken_at, evaluation_of, sources_of}
use Rattle.vc_plan.specs.Seen.{Seen, seen_of}
use Rattle.vc_plan.specs.Settle.{settlement_of}
use Rattle.vc_plan.specs.Sources.{Sources}
use Rattle.vc_plan.specs.Writes.{last_stage}
use Rattle.vc_plan_reasons.specs.Refuting.{refutes}
use Rattle.vc_net_log.specs.Logs.{seen_by}
use Rattle.vc_net.specs.Differing.{AreAllWritten}
use Rattle.vc_net.specs.Ending.{IsSettled, clash_of}
use Rattle.vc_net.specs.Nets.{AreFor, IsNetOf, Netted}
use Rattle.vc_proc_look_ups.specs.LookUps.{AreLookUpsOf}
use Rattle.vc_session_stages.specs.Stages.{HaveAllSettled, is_late_seen}
use Rattle.vc_session_evaluation.specs.Writing.{IsBlankBeside}
use Rattle.vc_session_evaluation.specs.declared.stages.Stages.{Stages}

-- what a net's log says
abbrev pub said_by : Netted → Seen
said_by net = seen_by net.work.log

-- something contradicts in a net, which came to an end: its clash refutes the sources
pub record IsRefuted (plan : Plan) (sources : Sources) (net : Netted) : Type 0 where
  pub done : IsSettled plan sources net.work
  pub clash : Clash
  pub kept : clash_of net.work ≡ Some clash
  pub refuting : refutes plan sources clash ≡ true

-- nothing contradicts in a net, which came to an end
pub record IsCalm (plan : Plan) (sources : Sources) (net : Netted) : Type 0 where
  pub done : IsSettled plan sources net.work
  pub calm : clash_of net.work ≡ None

-- a net has settled with sources at just what its log says, or broken
abbrev pub HasSettled : Plan → Sources → Netted → Bool → Type 0
HasSettled plan sources net true = (set : List Atom) × (settlement_of plan sources ≡ settled set)
    × (said_by net ≡ seen_of set) × IsCalm plan sources net
HasSettled plan sources net false = (settlement_of plan sources ≡ broken) × IsRefuted plan sources net

-- whether nothing is ever written between stages: the plan has no procedures. Then all have the same sources
abbrev pub writes_nothing : Plan → Bool
writes_nothing plan = length plan.procedures == 0

-- how many nets a plan's stages have: one for each, or one for all where they can't differ
abbrev pub net_count : Plan → ℕ
net_count plan = if writes_nothing plan then 1 else suc (last_stage plan)

-- what the stages say: each what its net says
abbrev pub stages_said : Plan → List Netted → List Seen
stages_said plan nets =
    if writes_nothing plan then flat_map (λ net. replicate (suc (last_stage plan)) (said_by net)) nets
    else map said_by nets

-- the nets of the plan's stages, and room for what is written and for who is late; all that statements write is
-- known, and the sources have nothing written elsewhere; orders of the plan's tables, by which statements look up
pub record AreStagesOf (plan : Plan) (stages : Stages) : Type 0 where
  pub nets : AllByRecursion (IsNetOf plan) stages.nets.items
  pub many : length stages.nets.items ≡ net_count plan
  pub overlay : length stages.overlay ≡ length plan.vars
  pub sources : AreFor plan stages.sources
  pub late : length stages.late ≡ length plan.slots
  pub writes : AreAllWritten plan stages.written
  pub blank : IsBlankBeside stages.written stages.sources.written
  pub look_ups : AreLookUpsOf plan stages.look_ups

-- how an evaluation of the user's values ended: all stages settled at what the nets say, the last with all that was
-- written, and who is late is flagged; or one is broken, and what contradicts in its net refutes its sources
pub record HasEnded (plan : Plan) (users : Users) (stages : Stages) : Type 0 where
  pub settled : HaveAllSettled plan users (stages_said plan stages.nets.items) stages.overlay
  pub late : stages.late
      ≡ map (is_late_seen plan (stages_said plan stages.nets.items)) (numbers_below (length plan.slots))
  pub net : Netted
  pub its : slice_get stages.nets.items (pred (length stages.nets.items)) ≡ Some net
  pub calm : IsCalm plan (sources_of users stages.overlay) net

pub record HasBroken (plan : Plan) (users : Users) (stages : Stages) (k : ℕ) : Type 0 where
  pub breaks : evaluation_of plan users ≡ broken_at k stages.overlay
  pub net : Netted
  pub its : slice_get stages.nets.items k ≡ Some net
  pub refuted : IsRefuted plan (sources_of users stages.overlay) net

abbrev pub EndsAt : Plan → Users → Stages → Option ℕ → Type 0
EndsAt plan users stages None = HasEnded plan users stages
EndsAt plan users stages (Some k) = HasBroken plan users stages k

abbrev pub IsEvaluated : Plan → Users → Stages → Type 0
IsEvaluated plan users stages = EndsAt plan users stages stages.broken
