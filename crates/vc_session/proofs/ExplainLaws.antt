-- What a session tells explains what stands, or what contradicts.
use Rattle.std.proofs.Common.{◌≡◌, ℕ, not, ◌&&◌, List, length, refl, sym, ◌∙◌, ap, subst}
use Rattle.std.specs.Prelude.{Option, None, Some, Result, IfOk, option_map, slice_get}
use Rattle.std.proofs.lemmas.Result.{IfOk-weaker}
use Rattle.vc_base.specs.Rounds.{settled}
use Rattle.vc_base.specs.Sets.{has}
use Rattle.vc_plan.specs.declared.atoms.Atom.{Atom}
use Rattle.vc_plan.specs.declared.atoms.Atom.TheVariants.{Here}
use Rattle.vc_plan.specs.declared.atoms.Culprit.{Culprit}
use Rattle.vc_plan.specs.declared.atoms.Step.{Step}
use Rattle.vc_plan.specs.declared.plans.Plan.{Plan}
use Rattle.vc_plan.specs.Evaluate.{Users, last_set, sources_of}
use Rattle.vc_plan.specs.Seen.{same_atom}
use Rattle.vc_plan.specs.Sources.{Sources}
use Rattle.vc_plan.specs.Valid.{IsValid}
use Rattle.vc_plan_reasons.specs.Trimming.{trimmed_clash}
use Rattle.vc_net_chains.specs.Explaining.{ExplainsAll, ExplainsAtom, ExplainsBreak, IsClash, IsClashAfter, IsLog}
use Rattle.vc_net_chains.specs.Explaining.{IsLogAfter, IsWhy, IsWhyAfter}
use Rattle.vc_net_chains.specs.Telling.{chain_in}
use Rattle.vc_net_log.specs.Logs.{set_of}
use Rattle.vc_net_going.specs.Breaking.{clash_from, steps_with}
use Rattle.vc_net.specs.Ending.{EndsAs, clash_of}
use Rattle.vc_net.specs.Nets.{Netted, outcome_by}
use Rattle.vc_net.proofs.ExplainLaws.{chains_explain, clashes_explain, logs_explain}
use Rattle.vc_net.proofs.NumberLaws.{logs_are_short}
use Rattle.vc_session_stages.proofs.StageLaws.{last_set_settles}
use Rattle.vc_session_evaluation.specs.Evaluating.{AreStagesOf, EndsAt, HasBroken, HasEnded, IsEvaluated}
use Rattle.vc_session_evaluation.specs.declared.stages.Stages.{Stages}
use Rattle.vc_session.specs.Explained.{IsShort, blamed_by, broken_by, broken_net, chain_by, clash_by, log_by}
use Rattle.vc_session.specs.Explained.{settled_by, settled_net}
use Rattle.vc_session.specs.Sessions.{outcome_at, outcome_of}

-- an atom's reasons are asked of sets that have the same atoms
explains_alike : (plan : Plan) (sources : Sources) (set other : List Atom) (atom : Atom) (chain : Option (List Step))
    → has same_atom set atom ≡ has same_atom other atom → ExplainsAtom plan sources set atom chain
    → ExplainsAtom plan sources other atom chain
explains_alike plan sources set other atom None same e =
    ap (λ b. not (same_atom (Here 0) atom) && b) (sym same) ∙ e
explains_alike plan sources set other atom (Some steps) same e =
    (ap (λ b. not (same_atom (Here 0) atom) && b) (sym same) ∙ e.0, e.1)

-- where all stages settled
module _ (plan : Plan) (users : Users) (stages : Stages) (valid : IsValid plan) (of : AreStagesOf plan stages)
    (ended : HasEnded plan users stages) where
  its_net : settled_by stages.nets.items None ≡ Some ended.net
  its_net = ended.its

  sources : Sources
  sources = sources_of users stages.overlay

  same_atoms : (atom : Atom)
      → has same_atom (set_of ended.net.work.log) atom ≡ has same_atom (last_set plan ended.settled.sets) atom
  unfolding sources
  same_atoms atom =
      let end : EndsAs plan sources ended.net.work None
      = subst (EndsAs plan sources ended.net.work) ended.calm.calm ended.calm.done.ends in
      let last = last_set_settles plan users ended.settled.sets stages.overlay ended.settled.whole in
      let both : settled end.0 ≡ settled (last_set plan ended.settled.sets) = sym end.1 ∙ last in
      let same : end.0 ≡ last_set plan ended.settled.sets = cc in
      sym (end.2 atom) ∙ ap (λ set. has same_atom set atom) same

  ended_short : IsShort (settled_by stages.nets.items None)
  unfolding sources
  ended_short =
      subst IsShort (sym its_net) (logs_are_short plan sources ended.net.work valid ended.calm.done.going)

  ended_why : (atom : Atom) → IsWhy plan users atom (chain_by (settled_by stages.nets.items None) atom)
  unfolding sources
  ended_why atom =
      subst (λ evaluated. IsWhyAfter plan users evaluated atom (chain_by (settled_by stages.nets.items None) atom))
      (sym ended.settled.whole)
      (subst (λ net. ExplainsAtom plan sources (last_set plan ended.settled.sets) atom (chain_by net atom))
      (sym its_net)
      (explains_alike plan sources (set_of ended.net.work.log) (last_set plan ended.settled.sets) atom
      (chain_in ended.net.work.log.steps atom) (same_atoms atom)
      (chains_explain plan sources ended.net.work atom ended.calm.done)))

  ended_log : IsLog plan users (log_by (settled_by stages.nets.items None))
  unfolding sources
  ended_log =
      subst (λ evaluated. IsLogAfter plan users evaluated (log_by (settled_by stages.nets.items None)))
      (sym ended.settled.whole)
      (subst (λ net. ExplainsAll plan sources (log_by net)) (sym its_net)
      (logs_explain plan sources ended.net.work ended.calm.done ended.calm.calm))

  ended_clash : IsClash plan users None
  ended_clash = subst (λ evaluated. IsClashAfter plan users evaluated None) (sym ended.settled.whole) refl

-- where one is broken
module _ (plan : Plan) (users : Users) (stages : Stages) (k : ℕ) (valid : IsValid plan)
    (ends : HasBroken plan users stages k) where
  broken_short : IsShort (slice_get stages.nets.items k)
  broken_short =
      subst IsShort (sym ends.its)
      (logs_are_short plan (sources_of users stages.overlay) ends.net.work valid ends.refuted.done.going)

  broken_clash : IsClash plan users (clash_by (slice_get stages.nets.items k))
  broken_clash =
      subst (λ evaluated. IsClashAfter plan users evaluated (clash_by (slice_get stages.nets.items k)))
      (sym ends.breaks)
      (subst (λ net. ExplainsBreak plan (sources_of users stages.overlay) (clash_by net)) (sym ends.its)
      (clashes_explain plan (sources_of users stages.overlay) ends.net.work ends.refuted.clash ends.refuted.done
      ends.refuted.kept))

-- both
module _ (plan : Plan) (users : Users) (stages : Stages) (valid : IsValid plan) (of : AreStagesOf plan stages)
    (evaluated : IsEvaluated plan users stages) where
  pub short_settled : IsShort (settled_net stages)
  short_settled = by stages.broken evaluated
    where
      by : (o : Option ℕ) → EndsAt plan users stages o → IsShort (settled_by stages.nets.items o)
      by None ended = ended_short plan users stages valid of ended
      by (Some k) ends = tt

  pub short_broken : IsShort (broken_net stages)
  short_broken = by stages.broken evaluated
    where
      by : (o : Option ℕ) → EndsAt plan users stages o → IsShort (broken_by stages.nets.items o)
      by None ended = tt
      by (Some k) ends = broken_short plan users stages k valid ends

  pub chain_is_why : (atom : Atom) → IsWhy plan users atom (chain_by (settled_net stages) atom)
  chain_is_why atom = by stages.broken evaluated
    where
      by : (o : Option ℕ) → EndsAt plan users stages o
          → IsWhy plan users atom (chain_by (settled_by stages.nets.items o) atom)
      by None ended = ended_why plan users stages valid of ended atom
      by (Some k) ends = subst (λ end. IsWhyAfter plan users end atom None) (sym ends.breaks) refl

  pub log_is_told : IsLog plan users (log_by (settled_net stages))
  log_is_told = by stages.broken evaluated
    where
      by : (o : Option ℕ) → EndsAt plan users stages o → IsLog plan users (log_by (settled_by stages.nets.items o))
      by None ended = ended_log plan users stages valid of ended
      by (Some k) ends = subst (λ end. IsLogAfter plan users end None) (sym ends.breaks) refl

  pub clash_is_told : IsClash plan users (clash_by (broken_net stages))
  clash_is_told = by stages.broken evaluated
    where
      by : (o : Option ℕ) → EndsAt plan users stages o → IsClash plan users (clash_by (broken_by stages.nets.items o))
      by None ended = ended_clash plan users stages valid of ended
      by (Some k) ends = broken_clash plan users stages k valid ends

-- the clash names whom the outcome names
blamed_in : (net : Netted) → blamed_by (option_map trimmed_clash (clash_of net.work)) ≡ net.work.breaker.culprit
blamed_in net = by net.work.breaker.culprit
  where
    by : (o : Option Culprit) → blamed_by (option_map trimmed_clash (clash_from
        (steps_with net.work.log.steps net.work.breaker.fact net.work.breaker.reasons.items)
        net.work.breaker.premises.items o)) ≡ o
    by None = refl
    by (Some culprit) = refl

pub outcome_named : (stages : Stages)
    → outcome_by (blamed_by (clash_by (broken_net stages))) ≡ outcome_of stages stages.broken
outcome_named stages = by stages.broken
  where
    of : (o : Option Netted) → outcome_by (blamed_by (clash_by o)) ≡ outcome_at o
    of None = refl
    of (Some net) = ap outcome_by (blamed_in net)

    by : (o : Option ℕ) → outcome_by (blamed_by (clash_by (broken_by stages.nets.items o))) ≡ outcome_of stages o
    by None = refl
    by (Some k) = of (slice_get stages.nets.items k)

-- what holds of the value that is told holds of the result
pub if_ok_told : {A E : Type 0} (result : Result A E) (a : A) (P : A → Type 0) → IfOk result (λ x. x ≡ a) → P a
    → IfOk result P
if_ok_told result a P e p = IfOk-weaker result (λ x. x ≡ a) P (λ x is. subst P (sym is) p) e
