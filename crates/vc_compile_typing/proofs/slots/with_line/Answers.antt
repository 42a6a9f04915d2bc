use Rattle.std.proofs.Common.{rules, ◌≡◌, ℕ, List, ◌∷◌, Option, ap, ◌∙◌}
use Rattle.vc_syntax_tree.specs.Trees.{Counts, term_of}
use Rattle.vc_syntax_tree.specs.declared.Term.{Term}
use Rattle.vc_types.specs.declared.place.At.TheVariants as at
use Rattle.vc_types.specs.declared.place.Place.{Place}
use Rattle.vc_compile_layout.specs.Standing.{layout_seen}
use Rattle.vc_compile_plan.specs.Places.{place_at}
use Rattle.vc_compile_typing.specs.Finding.{first_with, seen_if}
use Rattle.vc_compile_plan.specs.Refusals.{TypeFault, Typed, typed_at}
use Rattle.vc_compile_plan.specs.Shown.{is_configurable}
use Rattle.vc_compile_typing.proofs.slots.with_line.Goals as goal

pub returns : goal.returns
returns c =
    let layout = layout_seen c.args.layout.now in
    let item = c.args.item.now in
    let counted : Place → Term → List ℕ → List Typed = λ place term uses.
    record { line = item.line; place = place; tree = Counts (term_of term) }
    ∷ typed_at layout.model (λ dependency. place) uses in
    let first : Place → Term → List ℕ → Option TypeFault = λ place term uses.
    first_with layout.model (seen_if c.args.before) (counted place term uses) in
    let same : c.deref.result.now ≡ item.quantity.value = first_of (search rules, cc) in
    let place
    = c.place_at-place.ensures
    ∙ ap (λ b. place_at layout c.args.slot.now (at.Line b)) c.is_configurable-configurable.ensures in
    c.in_ok-first.ensures ∙ ap (λ p. first p c.deref.result.now c.as_slice-uses.result.now) place
    ∙ ap (λ term. first (place_at layout c.args.slot.now (at.Line (is_configurable item.component))) term
    c.as_slice-uses.result.now) same
    ∙ ap (first (place_at layout c.args.slot.now (at.Line (is_configurable item.component))) item.quantity.value)
    c.as_slice-uses.ensures
