-- What is behind the nets after their first evaluation: of all things those that a contradiction left undone.
use Rattle.std.proofs.Common.{◌≡◌, ℕ, zero, suc, true, List, [], ◌∷◌, length, map, sym, subst, inl, inr}
use Rattle.std.specs.Prelude.{Option, None, Some, nat_eq, ◌||◌}
use Rattle.std.specs.List.{AllByRecursion}
use Rattle.vc_base.specs.Sets.{Within}
use Rattle.vc_base.proofs.ListLaws.{number_exact, number_itself}
use Rattle.vc_base.proofs.SetLaws.{has_back, has_cases, has_either, has_filter, has_first, has_more}
use Rattle.vc_plan.specs.declared.atoms.Culprit.{Culprit}
use Rattle.vc_plan.specs.declared.plans.Plan.{Plan}
use Rattle.vc_plan.specs.Domains.{numbers_below}
use Rattle.vc_plan.specs.Sources.{Sources}
use Rattle.vc_plan_reasons.specs.Keeping.{changed, entry_differs, user_differs}
use Rattle.vc_plan_reasons.specs.Things.{has_thing, same_thing, slot_at, var_at}
use Rattle.vc_plan_reasons.specs.Work.{reach_of}
use Rattle.vc_plan_reasons.proofs.ReasonLaws.Reaching.{thing_exact, thing_itself}
use Rattle.vc_plan_reasons.proofs.ReasonLaws.Writing.{has_var}
use Rattle.vc_net_laws.specs.Wakings.{things_of}
use Rattle.vc_net_going.specs.declared.work.Work.{Work}
use Rattle.vc_net.specs.Costing.{IsBehind, left_undone, to_do}
use Rattle.vc_net.specs.Nets.{Netted}
use Rattle.vc_net_going.proofs.ReachLaws.{on_more, reach_grows}
use Rattle.vc_session_evaluation.specs.Costing.{AreBehind, HasAllBehind, NetsStartBehind, behind_at_start}

-- all things hold the variables whose sources differ
vars_within : (vs ws : List ℕ) → Within nat_eq vs ws → Within same_thing (map var_at vs) (map var_at ws)
vars_within [] ws within t h = absurd (cc)
vars_within (v ∷ vs) ws within t h =
    elim (has_cases same_thing thing_exact thing_itself (var_at v) (map var_at vs) t h) [
      | inl e ↦ subst (λ u. has_thing (map var_at ws) u ≡ true) (sym e)
          (has_var ws v (within v (has_first nat_eq number_exact number_itself v vs)))
      | inr k ↦ vars_within vs ws (λ w q. within w (has_more nat_eq number_exact number_itself v vs w q)) t k
    ]

all_to_do : (plan : Plan) (old new : Sources)
    → Within same_thing (to_do plan (things_of plan) old new) (things_of plan)
all_to_do plan old new t h =
    elim (has_either same_thing thing_exact thing_itself (things_of plan) (map var_at (changed plan old new)) t h) [
      | inl p ↦ p
      | inr p ↦
          has_back same_thing thing_exact thing_itself (map slot_at (numbers_below (length plan.slots)))
          (map var_at (numbers_below (length plan.vars))) t
          (vars_within (changed plan old new) (numbers_below (length plan.vars))
          (λ w q. (has_filter nat_eq number_exact number_itself
          (λ v. user_differs old new v || entry_differs old new v) (numbers_below (length plan.vars)) w q).0) t p)
    ]

undone_of_all : (plan : Plan) (old new : Sources) (culprit : Option Culprit) (work : Work)
    → IsBehind plan (left_undone culprit (to_do plan (things_of plan) old new)) work
    → IsBehind plan (left_undone culprit (things_of plan)) work
undone_of_all plan old new None work on = on
undone_of_all plan old new (Some culprit) work on =
    on_more plan (reach_of plan (to_do plan (things_of plan) old new)) (reach_of plan (things_of plan))
    work.agenda.givers
    (reach_grows plan (to_do plan (things_of plan) old new) (things_of plan) (all_to_do plan old new)) on

stay_behind : (plan : Plan) (nets : List Netted) → AllByRecursion (HasAllBehind plan) nets
    → AreBehind plan (behind_at_start plan zero nets) nets
stay_behind plan [] all = tt
stay_behind plan (net ∷ nets) all = (all.0.all, stay_behind plan nets all.1)

pub nets_start_behind : NetsStartBehind
nets_start_behind plan users k zero olds news before after g all =
    stay_behind plan news (subst (AllByRecursion (HasAllBehind plan)) (sym g.0) all)
nets_start_behind plan users k (suc n) [] news before after g all = absurd g
nets_start_behind plan users k (suc n) (old ∷ olds) [] before after g all = absurd g
nets_start_behind plan users k (suc n) (old ∷ olds) (new ∷ news) before after g all = (
  undone_of_all plan old.sources new.sources new.work.breaker.culprit new.work
      (g.2.cost (things_of plan) all.0.all).0,
  nets_start_behind plan users (suc k) n olds news g.0 after g.3 all.1,
)
