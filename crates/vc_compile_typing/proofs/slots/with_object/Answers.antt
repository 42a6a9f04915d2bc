use Rattle.std.proofs.Common.{ℕ, List, Some, ap, flat_map, slice_get, ◌∙◌}
use Rattle.vc_syntax_tree.specs.Trees.{Dependency}
use Rattle.vc_types.specs.declared.place.Place.{Place}
use Rattle.vc_compile_layout.specs.Standing.{layout_seen}
use Rattle.vc_compile_plan.specs.Places.{place_at}
use Rattle.vc_compile_typing.specs.Finding.{first_with, seen_if}
use Rattle.vc_compile_typing.proofs.FindingLemmas.{object_in_parts}
use Rattle.vc_compile_plan.specs.Refusals.{at_of, typed_at, typed_line, typed_operation}
use Rattle.vc_compile_plan.specs.Uses.{uses_of_characteristic, uses_of_members}
use Rattle.vc_compile_typing.proofs.slots.with_object.Goals as goal

pub returns : goal.returns
returns c =
    let layout = layout_seen c.args.layout.now in
    let model = layout.model in
    let slot = c.args.slot.now in
    let object = c.args.object.now in
    let place : Dependency → Place
    = λ dependency. place_at (layout_seen c.args.layout.now) c.args.slot.now (at_of dependency) in
    let uses : ℕ → List ℕ = λ m. uses_of_characteristic (slice_get model.characteristics m) in
    let one = seen_if c.in_ok-first.first in
    let two = seen_if c.in_ok-first-2.first in
    let three = seen_if c.in_ok-first-3.first in
    object_in_parts model place (seen_if c.args.before) one two three (seen_if c.in_ok-first-4.first)
    object.procedures (uses_of_members model (Some object))
    (flat_map (typed_line layout slot) object.bill) (flat_map (typed_operation layout slot) object.operations)
    (c.in_ok-first.ensures
    ∙ ap (λ numbers. first_with model (seen_if c.args.before) (typed_at model place numbers)) c.as_slice.ensures)
    (c.in_ok-first-2.ensures
    ∙ ap (λ members. first_with model one (typed_at model place (flat_map uses members))) c.members_in.ensures)
    (c.in_ok-first-3.ensures
    ∙ ap (λ bill. first_with model two (flat_map (typed_line layout slot) bill)) c.as_slice-2.ensures)
    (c.in_ok-first-4.ensures
    ∙ ap (λ all. first_with model three (flat_map (typed_operation layout slot) all)) c.as_slice-3.ensures)
