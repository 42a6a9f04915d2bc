use Rattle.std.proofs.Common.{[], ◌∷◌, ap, sym, ◌∙◌}
use Rattle.vc_syntax_tree.specs.Trees.{Counts, term_of}
use Rattle.vc_compile_layout.specs.Standing.{layout_seen}
use Rattle.vc_compile_typing.specs.Finding.{first_with, seen_if}
use Rattle.vc_compile_typing.proofs.FindingLemmas.{typed_in_parts}
use Rattle.vc_compile_plan.specs.Refusals.{Typed, typed_at}
use Rattle.vc_compile_typing.proofs.slots.with_counted.Goals as goal

pub returns : goal.returns
returns c =
    let model = (layout_seen c.args.layout.now).model in
    let counted : Typed
    = record { line = c.args.line; place = c.args.place.now; tree = Counts (term_of c.args.term.now) } in
    let asked = typed_at model (λ dependency. c.args.place.now) c.args.uses.now in
    c.in_ok-first-2.ensures
    ∙ ap (λ first. first_with model first asked)
    (c.in_ok-first.ensures ∙ ap (λ m. first_with m (seen_if c.args.before) (counted ∷ [])) c.names.ensures)
    ∙ sym (typed_in_parts model (seen_if c.args.before) (counted ∷ []) asked)
