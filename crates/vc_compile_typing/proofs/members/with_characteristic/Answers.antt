use Rattle.std.proofs.Common.{ap, sym, ◌∙◌}
use Rattle.vc_syntax_tree.specs.Trees.{Dependency}
use Rattle.vc_types.specs.declared.place.Place.{Place}
use Rattle.vc_compile_layout.specs.Standing.{layout_seen}
use Rattle.vc_compile_plan.specs.Places.{place_at}
use Rattle.vc_compile_typing.specs.Finding.{first_with, seen_if}
use Rattle.vc_compile_typing.proofs.FindingLemmas.{uses_in_parts}
use Rattle.vc_compile_plan.specs.Refusals.{at_of, typed_at}
use Rattle.vc_compile_plan.specs.Uses.{uses_of_values}
use Rattle.vc_compile_typing.proofs.members.with_characteristic.Goals as goal

pub returns : goal.returns
returns c =
    let model = (layout_seen c.args.layout.now).model in
    let place : Dependency → Place
    = λ dependency. place_at (layout_seen c.args.layout.now) c.args.slot.now (at_of dependency) in
    let characteristic = c.args.characteristic.now in
    c.in_ok-first-2.ensures
    ∙ ap (λ first. first_with model first (typed_at model place (uses_of_values characteristic.values)))
    (c.in_ok-first.ensures
    ∙ ap (λ numbers. first_with model (seen_if c.args.before) (typed_at model place numbers)) c.as_slice.ensures)
    ∙ sym (uses_in_parts model place (seen_if c.args.before) characteristic.uses (uses_of_values characteristic.values))
