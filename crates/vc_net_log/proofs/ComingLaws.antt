-- What the counts of grains say of atoms that may come to a clear set.
use Rattle.std.proofs.Common.{◌≡◌, ℕ, zero, suc, ◌+◌, ◌<◌, ◌⊎◌, Bool, true, false, not, ◌&&◌, ◌||◌, List, [], ◌∷◌, ◌++◌}
use Rattle.std.proofs.Common.{length, refl, sym, ◌∙◌, ap, subst, inl, inr, arith}
use Rattle.std.specs.Prelude.{◌==◌, if◌then◌else◌, nat_eq, nat_lt, slice_index_or}
use Rattle.std.specs.List.{IsDistinct, list_all, list_any, range_with_len}
use Rattle.std.proofs.lemmas.Bool.{cases_lt, ltb-true, or_left}
use Rattle.vc_base.specs.Sets.{has}
use Rattle.vc_base.proofs.ListLaws.{number_exact, number_itself}
use Rattle.vc_base.proofs.SetLaws.{has_cases, told}
use Rattle.vc_plan.specs.declared.atoms.Atom.{Atom}
use Rattle.vc_plan.specs.declared.atoms.Atom.TheVariants.{Here, Out}
use Rattle.vc_plan.specs.declared.plans.Plan.{Plan}
use Rattle.vc_plan.specs.Clear.{are_all_out, is_clear}
use Rattle.vc_plan.specs.Domains.{count_of, domain_of, grains_in, numbers_below}
use Rattle.vc_plan.specs.Seen.{is_here, same_atom, seen_of}
use Rattle.vc_plan.proofs.PlanLaws.Lists.{get_past}
use Rattle.vc_plan_blame.specs.Blame.{uses_up}
use Rattle.vc_plan_reasons.specs.Checking.{concluded, set_with}
use Rattle.vc_net_places.specs.Places.{Index, index_of}
use Rattle.vc_net_places.proofs.PlaceLaws.Things.{firsts_are_counted}
use Rattle.vc_net_standing.specs.Coming.{is_held_by, may_come}
use Rattle.vc_net_standing.specs.Standing.{Stood, atoms_of, seen_by}
use Rattle.vc_net_standing.proofs.ComingLaws.{who_may_come_stays_clear}
use Rattle.vc_net_standing.proofs.CountLaws.{all_alike, all_apart, counted, filled, grains_out, once, out_there}
use Rattle.vc_net_standing.proofs.CountLaws.{outs_are_counted, outs_below}
use Rattle.vc_net_log.specs.Coming.{has_full, is_full, is_full_with}
use Rattle.vc_net_log.specs.Keeping.{IsCounted, IsKept, log_kept}
use Rattle.vc_net_log.specs.Logs.{Logged, set_of}
use Rattle.vc_net_log.proofs.KeptLaws.{concludes}
use Rattle.vc_net_log.proofs.NumberLaws.{atoms_once}

any_alike : (p q : ℕ → Bool) (a n : ℕ) → ((v : ℕ) → v < a + n → p v ≡ q v)
    → list_any p (range_with_len a n) ≡ list_any q (range_with_len a n)
any_alike p q a zero same = refl
any_alike p q a (suc n) same =
    ap (λ b. b || list_any p (range_with_len (a + 1) n)) (same a (omega arith))
    ∙ ap (λ b. q a || b) (any_alike p q (a + 1) n (λ v low. same v (omega (arith, low))))

-- a variable with grains is the plan's
var_there : (plan : Plan) (v g : ℕ) → g < count_of plan v → v < length plan.vars
var_there plan v g low =
    elim (cases_lt v (length plan.vars)) [
      | inl below ↦ below
      | inr past ↦
          let none : count_of plan v ≡ 0
          = ap (λ x. length (grains_in (domain_of plan x))) (get_past plan.vars v past) in
          absurd (omega (arith, none, low))
    ]

module _ (plan : Plan) (stand : List Atom) (outs : List ℕ) (clear : is_clear plan (set_with stand) ≡ true)
    (distinct : IsDistinct same_atom stand) (counts : IsCounted stand outs)
    (vars : length outs ≡ length plan.vars) where
  full_told : (v : ℕ) → v < length plan.vars → is_full plan outs v ≡ are_all_out plan (seen_of (set_with stand)) v
  full_told v low =
      ap (λ n. n == count_of plan v) (counts v (omega (arith, low, vars)))
      ∙ sym (outs_are_counted plan stand v distinct clear)

  pub here_told : (i : ℕ) → (nat_lt i (length plan.slots) && not (has_full plan outs i))
      ≡ may_come plan (seen_of (set_with stand)) (Here i)
  here_told i =
      ap (λ b. nat_lt i (length plan.slots) && not b)
      (any_alike (λ v. uses_up plan v (Here i) && is_full plan outs v)
      (λ v. uses_up plan v (Here i) && are_all_out plan (seen_of (set_with stand)) v) 0 (length plan.vars)
      (λ v low. ap (λ b. uses_up plan v (Here i) && b) (full_told v (omega (arith, low)))))

  -- with one grain more
  with_one : (v g : ℕ) → g < count_of plan v → (b : Bool) → has nat_eq (grains_out v stand) g ≡ b
      → ((length (grains_out v stand) + (if b then 0 else 1)) == count_of plan v)
      ≡ list_all (λ h. (h == g) || has nat_eq (grains_out v stand) h) (numbers_below (count_of plan v))
  unfolding IsDistinct
  with_one v g low true e =
      let gs = grains_out v stand in
      let none : length gs + 0 ≡ length gs = omega arith in
      ap (λ n. n == count_of plan v) none
      ∙ (sym (filled (count_of plan v) gs (once v stand distinct) (outs_below plan stand v clear))
      ∙ all_alike (has nat_eq gs) (λ h. (h == g) || has nat_eq gs h) (λ h. absorbed h (told (h == g)))
      (numbers_below (count_of plan v)))
    where
      absorbed : (h : ℕ) → ((h == g) ≡ true) ⊎ ((h == g) ≡ false)
          → has nat_eq (grains_out v stand) h ≡ ((h == g) || has nat_eq (grains_out v stand) h)
      absorbed h (inl same) =
          ap (has nat_eq (grains_out v stand)) (number_exact h g same)
          ∙ (e ∙ sym (or_left (h == g) (has nat_eq (grains_out v stand) h) same))
      absorbed h (inr other) = ap (λ b. b || has nat_eq (grains_out v stand) h) (sym other)
  with_one v g low false e =
      let gs = grains_out v stand in
      let more : length gs + 1 ≡ length (g ∷ gs) = omega arith in
      ap (λ n. n == count_of plan v) more
      ∙ sym (filled (count_of plan v) (g ∷ gs) (more_once e) below)
    where
      more_once : has nat_eq (grains_out v stand) g ≡ false → IsDistinct nat_eq (g ∷ grains_out v stand)
      more_once e = (all_apart g (grains_out v stand) e, once v stand distinct)

      below : (h : ℕ) → has nat_eq (g ∷ grains_out v stand) h ≡ true → h < count_of plan v
      below h k =
          elim (has_cases nat_eq number_exact number_itself g (grains_out v stand) h k) [
            | inl same ↦ omega (arith, same, low)
            | inr later ↦ outs_below plan stand v clear h later
          ]

  full_with_told : (v g : ℕ) → g < count_of plan v → is_full_with plan (seen_of (set_with stand)) outs v g
      ≡ list_all (λ h. (h == g) || has same_atom stand (Out v h)) (numbers_below (count_of plan v))
  full_with_told v g low =
      let inside : v < length outs = (let there = var_there plan v g low in omega (arith, there, vars)) in
      let is : slice_index_or outs v 0 ≡ length (grains_out v stand) = counts v inside ∙ sym (counted v stand) in
      ap (λ n. (n + (if has same_atom stand (Out v g) then 0 else 1)) == count_of plan v) is
      ∙ (ap (λ b. (length (grains_out v stand) + (if b then 0 else 1)) == count_of plan v) (sym (out_there v g stand))
      ∙ (with_one v g low (has nat_eq (grains_out v stand) g) refl
      ∙ all_alike (λ h. (h == g) || has nat_eq (grains_out v stand) h) (λ h. (h == g) || has same_atom stand (Out v h))
      (λ h. ap (λ b. (h == g) || b) (out_there v h stand)) (numbers_below (count_of plan v))))

  pub out_told : (v g : ℕ) → (nat_lt g (count_of plan v)
      && (not (is_held_by plan v g ((seen_of (set_with stand)).value v))
      && not (is_here plan (seen_of (set_with stand)) v && is_full_with plan (seen_of (set_with stand)) outs v g)))
      ≡ may_come plan (seen_of (set_with stand)) (Out v g)
  out_told v g =
      elim (told (nat_lt g (count_of plan v))) [
        | inl low ↦
            ap (λ b. nat_lt g (count_of plan v) && (not (is_held_by plan v g ((seen_of (set_with stand)).value v))
            && not (is_here plan (seen_of (set_with stand)) v && b)))
            (full_with_told v g (ltb-true g (count_of plan v) low))
        | inr past ↦
            ap (λ b. b && (not (is_held_by plan v g ((seen_of (set_with stand)).value v))
            && not (is_here plan (seen_of (set_with stand)) v
            && is_full_with plan (seen_of (set_with stand)) outs v g))) past
            ∙ sym (ap (λ b. b && (not (is_held_by plan v g ((seen_of (set_with stand)).value v))
            && not (is_here plan (seen_of (set_with stand)) v
            && list_all (λ h. (h == g) || has same_atom stand (Out v h)) (numbers_below (count_of plan v))))) past)
      ]

-- as what is kept of a log says it
module _ (stood : Stood) (begins counts cells outs : List ℕ) (kept : IsKept stood begins counts cells outs)
    (log : Logged) (is : log_kept stood begins counts cells ≡ log) (plan : Plan) (index : log.index ≡ index_of plan)
    (clears : is_clear plan (set_of log) ≡ true) (atom : Atom) where
  clear : is_clear plan (set_with (atoms_of stood.facts)) ≡ true
  clear =
      subst (λ atoms. is_clear plan (set_with atoms) ≡ true) (sym (concludes stood begins counts cells log is)) clears

  distinct : IsDistinct same_atom (atoms_of stood.facts)
  distinct = atoms_once stood.index stood.facts kept.premises.once

  vars : length outs ≡ length plan.vars
  vars =
      kept.vars
      ∙ (ap (λ (i : Index). length i.firsts) (ap (λ (l : Logged). l.index) is ∙ index) ∙ firsts_are_counted plan)

  pub may_come_told : may_come plan (seen_of (set_with (atoms_of stood.facts))) atom
      ≡ is_clear plan (set_with (concluded log.steps ++ atom ∷ []))
  may_come_told =
      sym (who_may_come_stays_clear plan (atoms_of stood.facts) atom clear)
      ∙ ap (λ atoms. is_clear plan (set_with (atoms ++ atom ∷ []))) (concludes stood begins counts cells log is)

  pub here_comes : (i : ℕ) (os : List ℕ) → os ≡ outs → atom ≡ Here i
      → (nat_lt i (length plan.slots) && not (has_full plan os i))
      ≡ is_clear plan (set_with (concluded log.steps ++ atom ∷ []))
  here_comes i os e f =
      ap (λ xs. nat_lt i (length plan.slots) && not (has_full plan xs i)) e
      ∙ (here_told plan (atoms_of stood.facts) outs clear distinct kept.counted vars i
      ∙ (ap (may_come plan (seen_of (set_with (atoms_of stood.facts)))) (sym f) ∙ may_come_told))

  pub out_comes : (v g : ℕ) (os : List ℕ) → os ≡ outs → atom ≡ Out v g
      → (nat_lt g (count_of plan v)
      && (not (is_held_by plan v g ((seen_by stood).value v))
      && not (is_here plan (seen_by stood) v && is_full_with plan (seen_by stood) os v g)))
      ≡ is_clear plan (set_with (concluded log.steps ++ atom ∷ []))
  out_comes v g os e f =
      ap (λ xs. nat_lt g (count_of plan v) && (not (is_held_by plan v g ((seen_by stood).value v))
      && not (is_here plan (seen_by stood) v && is_full_with plan (seen_by stood) xs v g))) e
      ∙ (out_told plan (atoms_of stood.facts) outs clear distinct kept.counted vars v g
      ∙ (ap (may_come plan (seen_of (set_with (atoms_of stood.facts)))) (sym f) ∙ may_come_told))
