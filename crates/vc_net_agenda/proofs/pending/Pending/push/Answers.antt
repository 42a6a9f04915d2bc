-- The number comes at the end, with its flag.
use Rattle.std.proofs.Common.{◌≡◌, ℕ, ◌<◌, false, ap, sym, take, ◌∙◌, arith, length}
use Rattle.std.specs.Prelude.{nat_eq}
use Rattle.vc_base.specs.Sets.{has}
use Rattle.vc_rule_yield.specs.Filling.{Filled}
use Rattle.vc_net_agenda.specs.Pending.{pushed}
use Rattle.vc_net_agenda.proofs.PendingLaws.{is_pushed, place_left}
use Rattle.vc_net_agenda.proofs.pending.Pending.push.Goals as goal

pub set-requires-then-not-has : goal.set-requires-then-not-has
set-requires-then-not-has c =
    let s = c.self.inside in
    let below : c.args.number < length s.places = omega (arith, c.if-number-len.true, c.len.ensures) in
    let new : has nat_eq (take s.count s.places) c.args.number ≡ false
    = ap (λ (list : Filled ℕ). has nat_eq list.items c.args.number) c.self.view_is
    ∙ (sym c.has.ensures ∙ c.if-not-has.true) in
    place_left s.flags s.places s.count c.args.number c.self.invariant below new

pub overflow_add-self : goal.overflow_add-self
overflow_add-self c =
    let s = c.self.inside in
    let below : c.args.number < length s.places = omega (arith, c.if-number-len.true, c.len.ensures) in
    let new : has nat_eq (take s.count s.places) c.args.number ≡ false
    = ap (λ (list : Filled ℕ). has nat_eq list.items c.args.number) c.self.view_is
    ∙ (sym c.has.ensures ∙ c.if-not-has.true) in
    let small = place_left s.flags s.places s.count c.args.number c.self.invariant below new in
    omega (arith, small, c.len.ensures, c.len.type_inv)

pub invariant_of-self : goal.invariant_of-self
invariant_of-self c =
    let s = c.self.inside in
    let below : c.args.number < length s.places = omega (arith, c.if-number-len.true, c.len.ensures) in
    let new : has nat_eq (take s.count s.places) c.args.number ≡ false
    = ap (λ (list : Filled ℕ). has nat_eq list.items c.args.number) c.self.view_is
    ∙ (sym c.has.ensures ∙ c.if-not-has.true) in
    let both
    = is_pushed s.flags c.set.new.self s.places c.set-then-not-has.new.self s.count c.args.number c.self.invariant
    below new c.set.ensures c.set-then-not-has.ensures in
    both.0

pub returns-then-not-has : goal.returns-then-not-has
returns-then-not-has c =
    let s = c.self.inside in
    let below : c.args.number < length s.places = omega (arith, c.if-number-len.true, c.len.ensures) in
    let new : has nat_eq (take s.count s.places) c.args.number ≡ false
    = ap (λ (list : Filled ℕ). has nat_eq list.items c.args.number) c.self.view_is
    ∙ (sym c.has.ensures ∙ c.if-not-has.true) in
    let both
    = is_pushed s.flags c.set.new.self s.places c.set-then-not-has.new.self s.count c.args.number c.self.invariant
    below new c.set.ensures c.set-then-not-has.ensures in
    both.1 ∙ ap (λ list. pushed list c.args.number) c.self.view_is
