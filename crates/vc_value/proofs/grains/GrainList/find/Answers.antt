use Rattle.std.proofs.Common.{◌≡◌, ◌<◌, ◌≤◌, pos, ◌∙◌, ap, sym, true, arith, rules, length, get_or}
use Rattle.std.specs.Prelude.{position}
use Rattle.std.proofs.lemmas.List.Sorted.{IsPartitionPoint-from_clause}
use Rattle.vc_value.specs.Grains.{holds, interval, is_below, is_ascending}
use Rattle.vc_value.proofs.GrainLemmas.{found, found_none, partitioned}
use Rattle.vc_value.proofs.grains.GrainList.find.Goals as goal

pub returns-in-Some : goal.returns-in-Some
returns-in-Some c =
    let grains = c.deref.result.now in
    let index = c.partition_point-index.result in
    let grain = c.in-Some.grain.now in
    let ascend : is_ascending grains ≡ true = ap is_ascending c.deref.ensures.value ∙ c.self.invariant.0 in
    let point
    = IsPartitionPoint-from_clause (is_below c.args.number) grains index c.partition_point-index.ensures.partitioned
    (partitioned c.args.number grains ascend) (λ a r f called. search rules) in
    let here : grain ≡ get_or grains index grain
    = cc (c.in-Some.ensures.lookup.1, c.deref.ensures.value, c.deref-2.ensures.value) in
    let inside : index < length grains
    = omega (
      arith,
      c.in-Some.ensures.lookup.3.0,
      ap length c.deref.ensures.value,
      ap length
          c.deref-2.ensures.value,
    ) in
    sym (found c.args.number grains index grain point inside
    (ap (holds c.args.number) (sym here) ∙ sym c.holds.ensures ∙ c.if-holds.true))
    ∙ ap (position (holds c.args.number)) (c.deref.ensures.value ∙ c.self.view_is)

pub returns-in_default : goal.returns-in_default
returns-in_default c =
    let grains = c.deref.result.now in
    let index = c.partition_point-index.result in
    let grain = c.in-Some.grain.now in
    let ascend : is_ascending grains ≡ true = ap is_ascending c.deref.ensures.value ∙ c.self.invariant.0 in
    let point
    = IsPartitionPoint-from_clause (is_below c.args.number) grains index c.partition_point-index.ensures.partitioned
    (partitioned c.args.number grains ascend) (λ a r f called. search rules) in
    let here : grain ≡ get_or grains index grain
    = cc (c.in-Some.ensures.lookup.1, c.deref.ensures.value, c.deref-2.ensures.value) in
    sym (found_none c.args.number grains index grain ascend point c.partition_point-index.ensures.bound
    (λ inside. ap (holds c.args.number) (sym here) ∙ sym c.holds.ensures ∙ c.if-holds.false))
    ∙ ap (position (holds c.args.number)) (c.deref.ensures.value ∙ c.self.view_is)

pub returns-in_default-2 : goal.returns-in_default-2
returns-in_default-2 c =
    let grains = c.deref.result.now in
    let index = c.partition_point-index.result in
    let ascend : is_ascending grains ≡ true = ap is_ascending c.deref.ensures.value ∙ c.self.invariant.0 in
    let point
    = IsPartitionPoint-from_clause (is_below c.args.number) grains index c.partition_point-index.ensures.partitioned
    (partitioned c.args.number grains ascend) (λ a r f called. search rules) in
    let past : length grains ≤ index
    = omega (
      arith,
      (rw c.in_default.is at c.get.ensures.lookup).3,
      ap length c.deref.ensures.value,
      ap length
          c.deref-2.ensures.value,
    ) in
    sym (found_none c.args.number grains index (interval (pos 0) (pos 0)) ascend point
    c.partition_point-index.ensures.bound (λ inside. absurd (omega arith)))
    ∙ ap (position (holds c.args.number)) (c.deref.ensures.value ∙ c.self.view_is)
