-- What is asked is paid for, from turn to turn and at the end.
use Rattle.std.proofs.Common.{◌≡◌, ℕ, ◌+◌, true, false, List, [], ◌∷◌, ◌++◌, refl, sym, ◌∙◌, ap, subst, inl, inr, arith}
use Rattle.std.specs.List.{AllByRecursion, IsDistinct}
use Rattle.vc_base.specs.Sets.{has}
use Rattle.vc_base.proofs.SetLaws.{has_back, has_first, has_front}
use Rattle.vc_plan.specs.declared.atoms.Step.{Step}
use Rattle.vc_plan.specs.declared.plans.Plan.{Plan}
use Rattle.vc_plan.specs.Gives.{Giver, by_rule, by_user, by_entry, givers_of}
use Rattle.vc_plan.specs.Sources.{Sources}
use Rattle.vc_plan_reasons.specs.Things.{Thing}
use Rattle.vc_net_laws.specs.Working.{same_giver}
use Rattle.vc_net_laws.proofs.NetLaws.Working.{giver_exact, giver_itself}
use Rattle.vc_net_sources.specs.Asking.{evaluations}
use Rattle.vc_net_waking.specs.Spending.{rules_among, touches_one}
use Rattle.vc_net_waking.proofs.CountLaws.{added_are, added_once, both_counted}
use Rattle.vc_net_going.specs.declared.work.Work.{Work}
use Rattle.vc_net_going.specs.Going.{HasGoneOn, IsBrokenOff}
use Rattle.vc_net_going.specs.Spending.{IsSpent}
use Rattle.vc_net.specs.Spending.{GoesOnSpending, Pays}
use Rattle.vc_net_going.specs.Working.{asking_next, with_giver}

-- a rule is evaluated once, a source not
asked_once : (giver : Giver) → evaluations giver ≡ rules_among (giver ∷ [])
asked_once (by_rule r) = refl
asked_once (by_user v) = refl
asked_once (by_entry v) = refl

-- the giver that is taken is asked in place of waiting
apart_front : (x : Giver) (xs : List Giver) (giver : Giver)
    → AllByRecursion (λ y. same_giver x y ≡ false) (xs ++ giver ∷ []) → AllByRecursion (λ y. same_giver x y ≡ false) xs
apart_front x [] giver h = tt
apart_front x (y ∷ xs) giver h = (h.0, apart_front x xs giver h.1)

once_front : (xs : List Giver) (giver : Giver) → IsDistinct same_giver (xs ++ giver ∷ []) → IsDistinct same_giver xs
unfolding IsDistinct
once_front [] giver h = tt
once_front (x ∷ xs) giver h = (apart_front x xs giver h.0, once_front xs giver h.1)

pub giver_taken_spends : (plan : Plan) (things : List Thing) (front : List Step) (count base : ℕ) (old new : Work)
    (giver : Giver) → old ≡ asking_next new giver → IsSpent plan things front count base old
    → IsSpent plan things front (count + evaluations giver) base new × (touches_one plan things giver ≡ true)
    × (has same_giver (givers_of plan) giver ≡ true)
giver_taken_spends plan things front count base old new giver e spent =
    let was : IsSpent plan things front count base (asking_next new giver)
    = subst (IsSpent plan things front count base) e spent in
    let last = has_back same_giver giver_exact giver_itself new.agenda.givers (giver ∷ []) giver
    (has_first same_giver giver_exact giver_itself giver []) in
    let into = λ (other : Giver) (h : has same_giver new.agenda.givers other ≡ true).
    has_front same_giver giver_exact giver_itself new.agenda.givers (giver ∷ []) other h in (
      record {
        on = record {
          once = once_front new.agenda.givers giver was.on.once;
          there = λ other h. was.on.there other (into other h);
          touch = λ other h. was.on.touch other (into other h);
        };
        fresh = was.fresh;
        grown = was.grown;
        of = was.of;
        paid =
            let paid = was.paid in
            let both = both_counted new.agenda.givers (giver ∷ []) in
            let one = asked_once giver in
            omega (arith, paid, both, one);
      },
      was.on.touch giver last,
      was.on.there giver last,
    )

-- a turn more
pub turn_spends : (plan : Plan) (sources : Sources) (start old now new : Work) (giver : Giver) (before count after : ℕ)
    → old ≡ asking_next now giver → after ≡ count + evaluations giver → HasGoneOn plan sources giver now new
    → GoesOnSpending plan start old before count → GoesOnSpending plan start new before after
turn_spends plan sources start old now new giver before count after e f gone so_far things front base holds spent =
    let taken = giver_taken_spends plan things front count base old now giver e
    (so_far things front base holds spent) in
    subst (λ n. IsSpent plan things front n base new) (sym f)
    (gone.spends things front (count + evaluations giver) base holds taken.1 taken.0)

-- at the end all is paid, also where the giver at hand goes back
pub end_pays : (plan : Plan) (start work : Work) (before count : ℕ) → GoesOnSpending plan start work before count
    → Pays plan start work before count
end_pays plan start work before count goes things front base holds spent =
    let s = goes things front base holds spent in
    record {
      on = s.on;
      fresh = s.fresh;
      grown = s.grown;
      of = s.of;
      paid = let paid = s.paid in omega (arith, paid);
    }

pub break_pays : (plan : Plan) (sources : Sources) (start old now new : Work) (giver : Giver) (before count after : ℕ)
    → old ≡ asking_next now giver → after ≡ count + evaluations giver → IsBrokenOff plan sources giver now new
    → GoesOnSpending plan start old before count → Pays plan start (with_giver new giver) before after
break_pays plan sources start old now new giver before count after e f off so_far things front base holds spent =
    let taken = giver_taken_spends plan things front count base old now giver e
    (so_far things front base holds spent) in
    let s = off.spends things front (count + evaluations giver) base holds taken.1 taken.0 in
    record {
      on = record {
        once = added_once new.agenda giver s.on.once;
        there = λ other h. elim (added_are new.agenda giver other h) [
          | inl k ↦ s.on.there other k
          | inr k ↦ ap (has same_giver (givers_of plan)) k.0 ∙ taken.2
        ];
        touch = λ other h. elim (added_are new.agenda giver other h) [
          | inl k ↦ s.on.touch other k
          | inr k ↦ ap (touches_one plan things) k.0 ∙ taken.1
        ];
      };
      fresh = s.fresh;
      grown = s.grown;
      of = s.of;
      paid = let paid = s.paid in omega (arith, paid, f);
    }
