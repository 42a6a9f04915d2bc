use Rattle.std.proofs.Common.{◌+◌, ◌<◌, ◌∙◌, ap, drop, get_or, length, subst, sym, None}
use Rattle.vc_compile_plan.specs.Rules.{drafts_of_slot, slot_drafts_from}
use Rattle.vc_compile_plan.specs.Refusals.{most_rules}
use Rattle.vc_compile_plan.specs.declared.standings.Standing.{Standing}
use Rattle.vc_compile_numbering.specs.Growing.{seen}
use Rattle.vc_compile_layout.specs.Standing.{layout_seen}
use Rattle.vc_compile_rules.proofs.RuleLemmas.{adds_enough, adds_too_many, first_slot, with_rules}
use Rattle.vc_compile_rules.proofs.own.push_line_rules.Goals as goal

pub loop-slot-preserved : goal.loop-slot-preserved
loop-slot-preserved c =
    let layout = layout_seen c.args.layout.now in
    let xs = c.standings-standings.result.now in
    let i = c.loop-slot.slot in
    let none : Standing = record { parent = None; depth = 0; object = 0; item = 0 } in
    let x = get_or xs i none in
    adds_enough c.in_ok-push_rules_of_slot.field-0 (seen c.args.out.now) (seen c.loop-slot.out)
    (seen c.push_rules_of_slot.new.out)
    (slot_drafts_from layout 0 xs) (drafts_of_slot layout i x x.parent)
    (slot_drafts_from layout (i + 1) (drop (i + 1) xs))
    c.in-Enough.is c.in_ok-push_rules_of_slot.ensures
    (ap (with_rules (seen c.loop-slot.out)) (sym (first_slot layout xs i none c.loop-slot-test.true))
    ∙ c.loop-slot.invariant)

pub returns-in-TooMany : goal.returns-in-TooMany
returns-in-TooMany c =
    let layout = layout_seen c.args.layout.now in
    let xs = c.standings-standings.result.now in
    let i = c.loop-slot.slot in
    let none : Standing = record { parent = None; depth = 0; object = 0; item = 0 } in
    let x = get_or xs i none in
    let too_many
    = adds_too_many c.in_ok-push_rules_of_slot.field-0 (seen c.args.out.now) (seen c.loop-slot.out)
    (seen c.push_rules_of_slot.new.out)
    (slot_drafts_from layout 0 xs) (drafts_of_slot layout i x x.parent)
    (slot_drafts_from layout (i + 1) (drop (i + 1) xs))
    c.in-TooMany.is c.in_ok-push_rules_of_slot.ensures
    (ap (with_rules (seen c.loop-slot.out)) (sym (first_slot layout xs i none c.loop-slot-test.true))
    ∙ c.loop-slot.invariant) in
    subst (λ ys. most_rules < length c.args.out.now.items + length (slot_drafts_from layout 0 ys))
    c.standings-standings.ensures too_many
