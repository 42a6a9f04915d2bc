-- What is kept of a log without steps.
use Rattle.std.proofs.Common.{◌≡◌, ℕ, ◌+◌, ◌^◌, ◌<◌, ◌≤◌, List, [], ◌∷◌, length, replicate, refl, sym, ◌∙◌, ap, subst}
use Rattle.std.proofs.Common.{arith}
use Rattle.std.specs.Prelude.{Some, slice_get, slice_index_or}
use Rattle.std.specs.List.{IsDistinct}
use Rattle.std.proofs.lemmas.List.{length-replicate}
use Rattle.std.proofs.lemmas.Option.{get_or_from_slice_get}
use Rattle.vc_plan.specs.declared.plans.Plan.{Plan}
use Rattle.vc_plan.specs.Domains.{atom_count}
use Rattle.vc_net_places.specs.Cells.{begins_from, total}
use Rattle.vc_net_places.specs.Places.{index_of}
use Rattle.vc_net_places.proofs.PlaceLaws.Cells.{cells_are_apart, cells_end_at_total}
use Rattle.vc_net_places.proofs.PlaceLaws.Things.{firsts_are_counted, things_are_counted}
use Rattle.vc_net_standing.specs.Standing.{Stood, nothing_at}
use Rattle.vc_net_log.specs.Keeping.{IsCounted, IsKept}
use Rattle.vc_net_log.proofs.OutLaws.{none_counted, zero_at}

begins_long_from : (first : ℕ) (bounds : List ℕ) → length (begins_from first bounds) ≡ length bounds + 1
begins_long_from first [] = refl
begins_long_from first (n ∷ bounds) =
    let rest = begins_long_from (first + n) bounds in omega (arith, rest)

pub begins_long : (bounds cells : List ℕ) → cells ≡ begins_from 0 bounds → length bounds < length cells
begins_long bounds cells e =
    let long : length cells ≡ length bounds + 1 = ap length e ∙ begins_long_from 0 bounds in omega (arith, long)

module _ (plan : Plan) (bounds : List ℕ) (few : atom_count plan < 2 ^ 32) (long : length bounds ≡ atom_count plan)
    (small : total bounds < 2 ^ 32) (end : ℕ) (is : slice_get (begins_from 0 bounds) (length bounds) ≡ Some end) where
  things : length (index_of plan).things ≡ atom_count plan
  things = things_are_counted plan

  ends_at : end ≡ total bounds
  ends_at =
      sym (get_or_from_slice_get (begins_from 0 bounds) (length bounds) end 0 is) ∙ cells_end_at_total bounds

  ordered : (p : ℕ) → p < length (index_of plan).things
      → slice_index_or (begins_from 0 bounds) p 0 ≤ slice_index_or (begins_from 0 bounds) (p + 1) 0
  ordered p low =
      let all = things in
      let sum = cells_are_apart bounds p (omega (arith, low, all, long)) in
      omega (arith, sum)

  nothing : IsKept (nothing_at (index_of plan)) (begins_from 0 bounds) (replicate (length bounds) 0) (replicate end 0)
      (replicate (length plan.vars) 0)
  unfolding IsDistinct
  nothing = record {
    premises = record {
      once = tt;
      below = refl;
      places = (let all = things in omega (arith, all, few));
      long = (let all = things in let more = begins_long_from 0 bounds in omega (arith, all, more, long));
      ends = ap (λ n. slice_index_or (begins_from 0 bounds) n 0) (things ∙ sym long)
          ∙ (get_or_from_slice_get (begins_from 0 bounds) (length bounds) end 0 is ∙ sym (length-replicate end 0));
      small = (let at = ends_at in let count = length-replicate {A = ℕ} end 0 in omega (arith, at, count, small));
      ordered = ordered;
      counted = length-replicate (length bounds) 0 ∙ (long ∙ sym things);
      few = λ p low. (let none = zero_at (length bounds) p in omega (arith, none));
      there = λ n fact h. absurd (cc);
    };
    vars = length-replicate (length plan.vars) 0 ∙ sym (firsts_are_counted plan);
    counted = none_counted (length plan.vars);
  }

pub nothing_kept : (plan : Plan) (bounds : List ℕ) → atom_count plan < 2 ^ 32 → length bounds ≡ atom_count plan
    → total bounds < 2 ^ 32 → (stood : Stood) (begins counts cells outs : List ℕ) (n end v : ℕ)
    → stood ≡ nothing_at (index_of plan) → begins ≡ begins_from 0 bounds → n ≡ length bounds → v ≡ length plan.vars
    → slice_get begins n ≡ Some end → counts ≡ replicate n 0 → cells ≡ replicate end 0 → outs ≡ replicate v 0
    → IsKept stood begins counts cells outs
nothing_kept plan bounds few long small stood begins counts cells outs n end v s b is vars at c p o =
    let read : slice_get (begins_from 0 bounds) (length bounds) ≡ Some end
    = ap (λ xs. slice_get xs (length bounds)) (sym b) ∙ (ap (slice_get begins) (sym is) ∙ at) in
    subst (λ t. IsKept t begins counts cells outs) (sym s)
    (subst (λ t. IsKept (nothing_at (index_of plan)) t counts cells outs) (sym b)
    (subst (λ t. IsKept (nothing_at (index_of plan)) (begins_from 0 bounds) t cells outs)
    (sym (c ∙ ap (λ k. replicate k 0) is))
    (subst (λ t. IsKept (nothing_at (index_of plan)) (begins_from 0 bounds) (replicate (length bounds) 0) t outs)
    (sym p)
    (subst (λ t. IsKept (nothing_at (index_of plan)) (begins_from 0 bounds) (replicate (length bounds) 0)
    (replicate end 0) t)
    (sym (o ∙ ap (λ k. replicate k 0) vars)) (nothing plan bounds few long small end read)))))

-- all steps may go
pub nothing_left : (stood : Stood) (begins counts cells outs : List ℕ) → IsKept stood begins counts cells outs
    → (later : Stood) (left : List ℕ) → later ≡ nothing_at stood.index → IsCounted [] left → length left ≡ length outs
    → IsKept later begins counts cells left
unfolding IsDistinct
nothing_left stood begins counts cells outs kept later left is none long =
    subst (λ t. IsKept t begins counts cells left) (sym is) (record {
      premises = record {
        once = tt;
        below = refl;
        places = kept.premises.places;
        long = kept.premises.long;
        ends = kept.premises.ends;
        small = kept.premises.small;
        ordered = kept.premises.ordered;
        counted = kept.premises.counted;
        few = kept.premises.few;
        there = λ n fact h. absurd (cc);
      };
      vars = long ∙ kept.vars;
      counted = none;
    })
