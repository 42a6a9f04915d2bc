-- Laws of what is written before a stage.
use Rattle.std.proofs.Common.{◌≡◌, ℕ, zero, suc, ◌+◌, ◌-◌, ◌<◌, ◌≤◌, ◌^◌, Bool, true, false, not, ◌&&◌, List, [], ◌∷◌}
use Rattle.std.proofs.Common.{length, refl, sym, ◌∙◌, ap, inl, inr, arith}
use Rattle.std.specs.Prelude.{◌||◌, ◌==◌, nat_le, nat_lt, if◌then◌else◌, flat_map, reverse, slice_index_or}
use Rattle.std.specs.List.{filter, list_all, range_with_len}
use Rattle.std.proofs.lemmas.Bool.{and_parts, eqb-true, le-leb, leb-true, ltb-true}
use Rattle.std.proofs.lemmas.Bool.Decides.{eqb_tells}
use Rattle.vc_plan.specs.declared.atoms.Atom.{Atom}
use Rattle.vc_plan.specs.declared.plans.Plan.{Plan}
use Rattle.vc_plan.specs.Classes.{are_procedures_in_order, is_not_behind, trigger_place}
use Rattle.vc_plan.specs.Domains.{atom_count}
use Rattle.vc_plan.specs.Orders.{are_in_order}
use Rattle.vc_plan.specs.Seen.{Seen, seen_of}
use Rattle.vc_plan.specs.Writes.{all_run, instances_at, last_stage, procedures_at, was_here}
use Rattle.vc_rule_readings.proofs.PartLemmas.{valid_sums_fit}
use Rattle.vc_rule_table.proofs.CellLemmas.{few_grains}
use Rattle.vc_proc.specs.Laws.{DepthsAreWritten, FlagsLate, NoneAreReplicas, StagesKeepLengths, SumsAreWritten}
use Rattle.vc_proc.specs.Laws.{ValidCanRun}
use Rattle.vc_proc.specs.Stages.{depth_written, sums_written, unflagged}
use Rattle.vc_proc.proofs.LyingLemmas.{all_run_long}
use Rattle.vc_proc.proofs.OverlayLemmas.{none_each}

-- what comes in one order comes in another that it implies
module _ {X : Type 0} (before after : X → X → Bool) (so : (x y : X) → before x y ≡ true → after x y ≡ true) where
  all_so : (x : X) (xs : List X) → list_all (before x) xs ≡ true → list_all (after x) xs ≡ true
  all_so x [] e = refl
  all_so x (y ∷ ys) e =
      let both = and_parts (before x y) (list_all (before x) ys) e in
      ap (λ b. b && list_all (after x) ys) (so x y both.0) ∙ all_so x ys both.1

  in_order_so : (xs : List X) → are_in_order before xs ≡ true → are_in_order after xs ≡ true
  in_order_so [] e = refl
  in_order_so (x ∷ xs) e =
      let both = and_parts (list_all (before x) xs) (are_in_order before xs) e in
      ap (λ b. b && are_in_order after xs) (all_so x xs both.0) ∙ in_order_so xs both.1

not_behind : (m n : ℕ) (b : Bool) → (nat_lt m n || ((m == n) && b)) ≡ true → nat_le m n ≡ true
not_behind m n b e =
    elim (nat_lt m n) as (λ c. nat_lt m n ≡ c → (c || ((m == n) && b)) ≡ true → nat_le m n ≡ true) [
      | true ↦ λ h f. let below = ltb-true m n h in le-leb m n (omega (arith, below))
      | false ↦ λ h f. let same = eqb-true m n (and_parts (m == n) b f).0 in le-leb m n (omega (arith, same))
    ]
    refl e

pub valid_can_run : ValidCanRun
valid_can_run plan valid =
    let atoms : atom_count plan ≤ 40_000 = leb-true (atom_count plan) 40_000 valid.atom_limit in record {
      sums = valid_sums_fit plan valid;
      grains = few_grains plan (omega (arith, atoms));
      few_procedures = ltb-true (length plan.procedures) (2 ^ 32) valid.procedure_limit;
      by_slot = in_order_so (are_procedures_in_order plan) (λ a b. nat_le a.slot b.slot)
          (λ a b e. not_behind a.slot b.slot
          (is_not_behind (trigger_place plan a.trigger) (trigger_place plan b.trigger)) e)
          plan.procedures valid.procedures_in_order;
      few_statements = valid.statement_limit;
    }

not_same : (a b : ℕ) → a < b → (a == b) ≡ false
not_same a b below =
    elim (eqb_tells a b) [ inl same ↦ absurd (let e = same.1 in omega (arith, below, e)) | inr apart ↦ apart.0 ]

same_self : (n : ℕ) → (n == n) ≡ true
same_self n = elim (eqb_tells n n) [ inl same ↦ same.0 | inr apart ↦ absurd (apart.1 refl) ]

pub depths_are_written : DepthsAreWritten
depths_are_written plan holds depth late set entries before =
    ap (λ b. if b then sums_written plan holds late (seen_of set) entries
    else depth_written plan holds (suc depth - 1) (seen_of set) entries)
    (not_same (suc depth) (last_stage plan) before)
    ∙ ap (λ d. depth_written plan holds d (seen_of set) entries)
    (let back : suc depth - 1 ≡ depth = omega arith in back)

-- where two tests agree on the numbers of a range, the same pass
filter_same : (p q : ℕ → Bool) (a n : ℕ) → ((i : ℕ) → i < a + n → p i ≡ q i)
    → filter p (range_with_len a n) ≡ filter q (range_with_len a n)
filter_same p q a zero same = refl
filter_same p q a (suc n) same =
    ap (λ b. if b then a ∷ filter p (range_with_len (a + 1) n) else filter p (range_with_len (a + 1) n))
    (same a (omega arith))
    ∙ ap (λ gs. if q a then a ∷ gs else gs) (filter_same p q (a + 1) n (λ i below. same i (omega (arith, below))))

not_not : (b : Bool) → not (not b) ≡ b
not_not true = refl
not_not false = refl

unflagged_same : (plan : Plan) (late : List Bool) (sets : List (List Atom)) (seen : Seen)
    → FlagsLate plan sets seen late
    → unflagged plan late seen
    ≡ filter (λ i. seen.here i && was_here plan sets i) (range_with_len 0 (length plan.slots))
unflagged_same plan late sets seen flags =
    filter_same (λ i. seen.here i && not (slice_index_or late i false)) (λ i. seen.here i && was_here plan sets i) 0
    (length plan.slots)
    (λ i below. by i (omega (arith, below)) (seen.here i) refl)
  where
    by : (i : ℕ) → i < length plan.slots → (b : Bool) → seen.here i ≡ b
        → (b && not (slice_index_or late i false)) ≡ (b && was_here plan sets i)
    by i below true here = ap not (flags i below here) ∙ not_not (was_here plan sets i)
    by i below false here = refl

pub sums_are_written : SumsAreWritten
sums_are_written plan holds late sets set entries flags =
    ap (λ b. if b then sums_written plan holds late (seen_of set) entries
    else depth_written plan holds (last_stage plan - 1) (seen_of set) entries)
    (same_self (last_stage plan))
    ∙ ap (λ slots. all_run plan (seen_of set) holds (flat_map (procedures_at plan true) (reverse slots)) entries)
    (unflagged_same plan late sets (seen_of set) flags)

pub none_are_replicas : NoneAreReplicas
none_are_replicas plan = sym (none_each plan.vars)

pub stages_keep_lengths : StagesKeepLengths
stages_keep_lengths plan holds stage late seen entries =
    by (stage == last_stage plan)
    (all_run_long plan seen holds (flat_map (procedures_at plan true) (reverse (unflagged plan late seen))) entries)
    (all_run_long plan seen holds (flat_map (procedures_at plan false) (instances_at plan seen (stage - 1))) entries)
  where
    by : (b : Bool) → length (sums_written plan holds late seen entries) ≡ length entries
        → length (depth_written plan holds (stage - 1) seen entries) ≡ length entries
        → length (if b then sums_written plan holds late seen entries
        else depth_written plan holds (stage - 1) seen entries) ≡ length entries
    by true e f = e
    by false e f = f
