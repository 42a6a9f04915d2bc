use Rattle.std.proofs.Common.{ℕ, List, ap, sym, flat_map, ◌∙◌}
use Rattle.vc_model_parts.specs.declared.parts.NumberValue.{NumberValue}
use Rattle.vc_model_parts.specs.declared.parts.TextValue.{TextValue}
use Rattle.vc_syntax_tree.specs.Trees.{Dependency}
use Rattle.vc_types.specs.declared.place.Place.{Place}
use Rattle.vc_compile_layout.specs.Standing.{layout_seen}
use Rattle.vc_compile_plan.specs.Places.{place_at}
use Rattle.vc_compile_typing.specs.Finding.{first_with, seen_if}
use Rattle.vc_compile_plan.specs.Uses.{uses_of_values}
use Rattle.vc_compile_plan.specs.Refusals.{at_of, typed_at}
use Rattle.vc_compile_typing.proofs.members.with_values.Goals as goal

pub returns-in_ok-first-in-Texts : goal.returns-in_ok-first-in-Texts
returns-in_ok-first-in-Texts c =
    let model = (layout_seen c.args.layout.now).model in
    let place : Dependency → Place
    = λ dependency. place_at (layout_seen c.args.layout.now) c.args.slot.now (at_of dependency) in
    let uses : TextValue → List ℕ = λ value. value.uses in
    c.in_ok-first-in-Texts.ensures
    ∙ ap (λ values. first_with model (seen_if c.args.before) (typed_at model place (flat_map uses values)))
    c.as_slice.ensures
    ∙ ap (λ values. first_with model (seen_if c.args.before) (typed_at model place (uses_of_values values)))
    (sym c.in-Texts.is)

pub returns-in_ok-first-in-Numbers : goal.returns-in_ok-first-in-Numbers
returns-in_ok-first-in-Numbers c =
    let model = (layout_seen c.args.layout.now).model in
    let place : Dependency → Place
    = λ dependency. place_at (layout_seen c.args.layout.now) c.args.slot.now (at_of dependency) in
    let uses : NumberValue → List ℕ = λ value. value.uses in
    c.in_ok-first-in-Numbers.ensures
    ∙ ap (λ values. first_with model (seen_if c.args.before) (typed_at model place (flat_map uses values)))
    c.as_slice-in-Numbers.ensures
    ∙ ap (λ values. first_with model (seen_if c.args.before) (typed_at model place (uses_of_values values)))
    (sym c.in-Numbers.is)
