use Rattle.std.proofs.Common.{◌≡◌, Some, [], ◌∷◌, ap, sym, slice_get, ◌∙◌}
use Rattle.std.specs.Option.{option_copied}
use Rattle.vc_syntax_tree.specs.Trees.{dependency_of}
use Rattle.vc_compile_layout.specs.Standing.{layout_seen}
use Rattle.vc_compile_typing.specs.Finding.{first_with, seen_if}
use Rattle.vc_compile_typing.proofs.FindingLemmas.{typed_if_there}
use Rattle.vc_compile_plan.specs.Refusals.{Typed}
use Rattle.vc_compile_typing.proofs.uses.with_number.Goals as goal

pub returns-in_ok-first-in-Some : goal.returns-in_ok-first-in-Some
returns-in_ok-first-in-Some c =
    let model = (layout_seen c.args.layout.now).model in
    let named = c.in-Some.named.now in
    let typed : Typed = record { line = named.line; place = c.args.place.now; tree = dependency_of named.tree } in
    let there : slice_get model.dependencies c.args.number ≡ Some named
    = sym c.dependency.ensures ∙ ap option_copied c.in-Some.is in
    c.in_ok-first-in-Some.ensures ∙ ap (λ m. first_with m (seen_if c.args.before) (typed ∷ [])) c.names.ensures
    ∙ ap (first_with model (seen_if c.args.before))
    (sym (typed_if_there model (λ dependency. c.args.place.now) c.args.number named there))
