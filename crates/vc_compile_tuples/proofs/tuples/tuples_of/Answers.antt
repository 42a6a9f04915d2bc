use Rattle.std.proofs.Common.{◌∙◌, ◌++◌, ap}
use Rattle.std.specs.Prelude.{option_map}
use Rattle.vc_syntax_tree.specs.Trees.{condition_of, constraint_of}
use Rattle.vc_compile_plan.specs.Layouts.{layout_over}
use Rattle.vc_compile_tuples.specs.Growing.{choices_of}
use Rattle.vc_compile_tuples.specs.Parts.{parts_of}
use Rattle.vc_compile_tuples.proofs.TupleLemmas.{all_found, too_many}
use Rattle.vc_compile_tuples.proofs.tuples.tuples_of.Goals as goal

pub returns-then-branch-clause-some : goal.returns-then-branch-clause-some
returns-then-branch-clause-some c = λ standings.
    let asked = option_map (λ boxed. condition_of boxed.value) c.args.constraint.now.condition in
    all_found (layout_over c.args.names.now.model.now standings c.args.slots.now) (constraint_of c.args.constraint.now)
    c.as_slice.result.now c.as_slice-2.result.now c.new-front.result c.new-out.result c.grow.new.out c.args.most
    c.in_ok-grow.field-0
    (c.as_slice.ensures ∙ c.in_ok-put_parts_of.ensures
    ∙ ap (λ ps. ps ++ parts_of c.as_slice-objects.result.now asked) c.new-parts.ensures
    ∙ ap (λ objects. parts_of objects asked) c.as_slice-objects.ensures)
    (c.as_slice-2.ensures ∙ c.in_ok-choices.ensures
    ∙ ap (choices_of c.args.names.now.model.now c.args.slots.now) c.as_slice-objects.ensures)
    c.new-front.ensures c.new-out.ensures c.if-branch.true c.in_ok-grow.ensures.put

pub returns-clause-none : goal.returns-clause-none
returns-clause-none c = λ standings.
    let asked = option_map (λ boxed. condition_of boxed.value) c.args.constraint.now.condition in
    too_many (layout_over c.args.names.now.model.now standings c.args.slots.now) (constraint_of c.args.constraint.now)
    c.as_slice.result.now c.as_slice-2.result.now c.new-front.result c.new-out.result c.grow.new.out c.args.most
    c.in_ok-grow.field-0
    (c.as_slice.ensures ∙ c.in_ok-put_parts_of.ensures
    ∙ ap (λ ps. ps ++ parts_of c.as_slice-objects.result.now asked) c.new-parts.ensures
    ∙ ap (λ objects. parts_of objects asked) c.as_slice-objects.ensures)
    (c.as_slice-2.ensures ∙ c.in_ok-choices.ensures
    ∙ ap (choices_of c.args.names.now.model.now c.args.slots.now) c.as_slice-objects.ensures)
    c.new-front.ensures c.new-out.ensures c.if-branch.false c.in_ok-grow.ensures.put
