-- With room for it the conclusion is put at the end; the others stay.
use Rattle.std.proofs.Common.{◌≡◌, ◌+◌, leb, true, length, ap, sym, ◌∙◌}
use Rattle.vc_rule_yield.specs.Yielding.{concluded}
use Rattle.vc_rule_yield.proofs.YieldLemmas.{is_concluded}
use Rattle.vc_rule_yield.proofs.yields.Yield.conclude.Goals as goal

pub invariant_of-self : goal.invariant_of-self
invariant_of-self c =
    let s = c.self.inside in
    let room : leb (length s.cells.items + length s.cites.items) s.cells.room ≡ true =
    ap (λ n. leb (length s.cells.items + n) s.cells.room) (sym c.len.ensures)
    ∙ (sym c.has_room.ensures ∙ c.if-has_room.true) in
    let space : leb (length s.found.items + 1) s.found.room ≡ true
    = sym c.has_room-then-has_room.ensures ∙ c.if-has_room-2.true in
    let both
    = is_concluded s.found s.cells s.cites s.clashes c.args.atom c.len-from.result c.len-to.result
    c.as_slice.result.now c.push.new.self c.extend.new.self
    c.self.invariant c.if-not-self.true room space c.as_slice.ensures c.extend.ensures c.len-from.ensures
    c.len-to.ensures c.push.ensures in
    both.0

pub returns-then-has_room-2 : goal.returns-then-has_room-2
returns-then-has_room-2 c =
    let s = c.self.inside in
    let room : leb (length s.cells.items + length s.cites.items) s.cells.room ≡ true =
    ap (λ n. leb (length s.cells.items + n) s.cells.room) (sym c.len.ensures)
    ∙ (sym c.has_room.ensures ∙ c.if-has_room.true) in
    let space : leb (length s.found.items + 1) s.found.room ≡ true
    = sym c.has_room-then-has_room.ensures ∙ c.if-has_room-2.true in
    let both
    = is_concluded s.found s.cells s.cites s.clashes c.args.atom c.len-from.result c.len-to.result
    c.as_slice.result.now c.push.new.self c.extend.new.self
    c.self.invariant c.if-not-self.true room space c.as_slice.ensures c.extend.ensures c.len-from.ensures
    c.len-to.ensures c.push.ensures in
    both.1 ∙ ap (λ y. concluded y c.args.atom) c.self.view_is
