use Rattle.std.proofs.Common.{◌≡◌, Some, [], ◌∷◌, ap, sym, slice_get, ◌∙◌}
use Rattle.std.specs.Option.{option_copied}
use Rattle.vc_syntax_tree.specs.Trees.{dependency_of}
use Rattle.vc_types.specs.declared.place.Place.{Place}
use Rattle.vc_compile_layout.specs.Standing.{layout_seen}
use Rattle.vc_compile_plan.specs.Places.{place_at}
use Rattle.vc_compile_typing.specs.Finding.{first_with, seen_if}
use Rattle.vc_compile_typing.proofs.FindingLemmas.{typed_if_there}
use Rattle.vc_compile_plan.specs.Refusals.{Typed, at_of}
use Rattle.vc_compile_typing.proofs.uses.with_number_at.Goals as goal

pub returns-in_ok-first-in-Some : goal.returns-in_ok-first-in-Some
returns-in_ok-first-in-Some c =
    let layout = layout_seen c.args.layout.now in
    let model = layout.model in
    let named = c.in-Some.named.now in
    let typed : Place → Typed = λ place. record { line = named.line; place = place; tree = dependency_of named.tree } in
    let there : slice_get model.dependencies c.args.number ≡ Some named
    = sym c.dependency.ensures ∙ ap option_copied c.in-Some.is in
    c.in_ok-first-in-Some.ensures
    ∙ ap (λ m. first_with m (seen_if c.args.before) (typed c.place_at-place.result ∷ [])) c.names.ensures
    ∙ ap (λ place. first_with model (seen_if c.args.before) (typed place ∷ []))
    (c.place_at-place.ensures ∙ ap (λ at. place_at layout c.args.slot.now at) c.at_of.ensures)
    ∙ ap (first_with model (seen_if c.args.before))
    (sym (typed_if_there model
    (λ dependency. place_at (layout_seen c.args.layout.now) c.args.slot.now (at_of dependency)) c.args.number named
    there))
