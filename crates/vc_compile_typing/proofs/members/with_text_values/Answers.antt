use Rattle.std.proofs.Common.{ℕ, List, ap, ◌∙◌}
use Rattle.vc_model_parts.specs.declared.parts.TextValue.{TextValue}
use Rattle.vc_syntax_tree.specs.Trees.{Dependency}
use Rattle.vc_types.specs.declared.place.Place.{Place}
use Rattle.vc_compile_layout.specs.Standing.{layout_seen}
use Rattle.vc_compile_plan.specs.Places.{place_at}
use Rattle.vc_compile_typing.specs.Finding.{first_with, seen_if}
use Rattle.vc_compile_typing.proofs.FindingLemmas.{uses_step}
use Rattle.vc_compile_plan.specs.Refusals.{at_of, typed_at}
use Rattle.vc_compile_typing.proofs.members.with_text_values.Goals as goal

pub loop-value-preserved : goal.loop-value-preserved
loop-value-preserved c =
    let model = (layout_seen c.args.layout.now).model in
    let place : Dependency → Place
    = λ dependency. place_at (layout_seen c.args.layout.now) c.args.slot.now (at_of dependency) in
    let uses : TextValue → List ℕ = λ value. value.uses in
    uses_step model place uses c.args.values.now c.loop-value.value-index c.value-item.result _
    (seen_if c.loop-value.first) _
    c.loop-value-test.true c.loop-value.invariant
    (c.in_ok-first.ensures
    ∙ ap (λ numbers. first_with model (seen_if c.loop-value.first) (typed_at model place numbers))
    (c.as_slice.ensures ∙ ap uses c.value-item.is))
