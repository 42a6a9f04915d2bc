use Rattle.std.proofs.Common.{◌+◌, arith, drop, map, length-drop}
use Rattle.std.proofs.lemmas.List.{length-map}
use Rattle.vc_compile_plan.specs.Rules.{line_drafts_from}
use Rattle.vc_compile_numbering.specs.Growing.{seen}
use Rattle.vc_compile_layout.specs.Standing.{layout_seen}
use Rattle.vc_compile_sites.specs.Standing.{asked_seen, site_seen}
use Rattle.vc_compile_rules.proofs.RuleLemmas.{selections_are_counted, too_many_if}
use Rattle.vc_compile_rules.proofs.own.push_selections.Goals as goal

pub returns-then-len-ge-MOST_RULES : goal.returns-then-len-ge-MOST_RULES
returns-then-len-ge-MOST_RULES c =
    let layout = layout_seen c.args.layout.now in
    let site = site_seen c.args.site.now in
    let place = c.loop-place.place in
    let rest = drop place c.args.selections.now in
    let counted = selections_are_counted layout site c.args.slot (1 + place) (map asked_seen rest) in
    let mapped = length-map rest asked_seen in
    let dropped = length-drop place c.args.selections.now in
    too_many_if (seen c.args.out.now) (seen c.loop-place.out)
    (line_drafts_from layout site c.args.slot 1 (map asked_seen c.args.selections.now))
    (line_drafts_from layout site c.args.slot (1 + place) (map asked_seen rest)) c.loop-place.invariant
    (omega (arith, c.len.ensures, c.if-len-ge-MOST_RULES.true))
    (omega (arith, counted, mapped, dropped, c.loop-place-test.true))
