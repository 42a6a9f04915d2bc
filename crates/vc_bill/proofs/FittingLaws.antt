-- A valid plan is what the calls take for granted.
use Rattle.std.proofs.Common.{◌≡◌, ℕ, ◌+◌, ◌*◌, ◌<◌, ◌≤◌, Bool, true, ◌&&◌, ◌||◌, length, subst, inl, inr, arith}
use Rattle.std.specs.Prelude.{nat_le, nat_lt, ◌==◌}
use Rattle.std.specs.List.{list_all}
use Rattle.std.proofs.lemmas.Bool.{and_parts, or_cases, eqb-true, leb-true, le-leb, ltb-true}
use Rattle.vc_base.specs.Numbers.{numbers_below}
use Rattle.vc_plan.specs.declared.plans.Line.{Line}
use Rattle.vc_plan.specs.declared.plans.Operation.{Operation}
use Rattle.vc_plan.specs.declared.plans.Plan.{Plan}
use Rattle.vc_plan.specs.Alike.{lines_at, operations_at}
use Rattle.vc_plan.specs.BillRanges.{line_there, operation_there, selection_there}
use Rattle.vc_plan.specs.Ranges.{is_of}
use Rattle.vc_plan.specs.Valid.{IsValid, is_line_before}
use Rattle.vc_show.proofs.FittingLaws.{all_weaker, each_below, few_in_all, order_weaker}
use Rattle.vc_bill.specs.Fitting.{ValidPlansBill, lines_by_slot}

slots_rise : (m n : ℕ) (later : Bool) → (nat_lt m n || ((m == n) && later)) ≡ true → nat_le m n ≡ true
slots_rise m n later e =
    elim (or_cases (nat_lt m n) ((m == n) && later) e) [
      | inl low ↦ (let h = ltb-true m n low in le-leb m n (omega (arith, h)))
      | inr same ↦
          (let parts = and_parts (m == n) later same in
          let h = eqb-true m n parts.0 in
          le-leb m n (omega (arith, h)))
    ]

at_slot : (p : ℕ → Bool) (n i : ℕ) → list_all p (numbers_below n) ≡ true → i < n → p i ≡ true
at_slot p n i e low = let same : 0 + i ≡ i = omega arith in subst (λ j. p j ≡ true) same (each_below p 0 n i e low)

module _ (plan : Plan) (valid : IsValid plan) where
  lines_rise : lines_by_slot plan.lines ≡ true
  lines_rise =
      order_weaker is_line_before (λ (a : Line) (b : Line). nat_le a.slot b.slot)
      (λ a b e. slots_rise a.slot b.slot (nat_lt a.item b.item) e) plan.lines valid.lines_in_order

  few_lines : length plan.lines ≤ length plan.slots * 1_000
  few_lines =
      few_in_all (λ (line : Line). line.slot) 1_000 (length plan.slots) plan.lines
      (all_weaker (line_there plan) (λ (line : Line). nat_lt line.slot (length plan.slots))
      (λ line e. (and_parts (is_of plan.slots line.slot)
      (is_of plan.terms line.quantity && list_all (selection_there plan) line.selections) e).0)
      plan.lines valid.lines_there)
      (λ i low. leb-true (length (lines_at plan i)) 1_000
      (at_slot (λ j. nat_le (length (lines_at plan j)) 1_000) (length plan.slots) i valid.line_limit low))

  few_operations : length plan.operations ≤ length plan.slots * 1_000
  few_operations =
      few_in_all (λ (operation : Operation). operation.slot) 1_000 (length plan.slots) plan.operations
      (all_weaker (operation_there plan) (λ (operation : Operation). nat_lt operation.slot (length plan.slots))
      (λ operation e. (and_parts (is_of plan.slots operation.slot)
      (is_of plan.terms operation.time && list_all (selection_there plan) operation.selections) e).0)
      plan.operations valid.operations_there)
      (λ i low. leb-true (length (operations_at plan i)) 1_000
      (at_slot (λ j. nat_le (length (operations_at plan j)) 1_000) (length plan.slots) i valid.operation_limit low))

pub valid_plans_bill : ValidPlansBill
valid_plans_bill plan valid =
    let slots = leb-true (length plan.slots) 40 valid.slot_limit in
    let lines = few_lines plan valid in
    let operations = few_operations plan valid in record {
      terms = record {
        domains_there = valid.domains_there;
        conditions_there = valid.conditions_there;
        terms_there = valid.terms_there;
        conditions_small = valid.conditions_small;
        terms_small = valid.terms_small;
      };
      ordered = lines_rise plan valid;
      lines = omega (arith, slots, lines);
      operations = omega (arith, slots, operations);
      slots = slots;
    }
