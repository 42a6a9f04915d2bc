use Rattle.std.proofs.Common.{◌<◌, ◌∙◌, length, subst}
use Rattle.vc_syntax_tree.specs.Trees.{constraint_of}
use Rattle.vc_compile_plan.specs.Refusals.{most_rules}
use Rattle.vc_compile_layout.specs.Standing.{layout_seen}
use Rattle.vc_compile_constraints.proofs.ConstraintLemmas.{if_none, if_some, same_tuples}
use Rattle.vc_compile_constraints.proofs.constraints.matching.Goals as goal

pub returns-clause-some : goal.returns-clause-some
returns-clause-some c =
    let layout = layout_seen c.args.layout.now in
    let same
    = same_tuples layout c.names.result.now.model.now c.slots.result.now (constraint_of c.args.constraint.now)
    c.names.ensures c.slots.ensures.slots in
    if_some c.in_ok-found.found c.in_ok-found.ensures.some (λ all is. is layout.standings ∙ same)

pub returns-clause-none : goal.returns-clause-none
returns-clause-none c =
    let layout = layout_seen c.args.layout.now in
    let same
    = same_tuples layout c.names.result.now.model.now c.slots.result.now (constraint_of c.args.constraint.now)
    c.names.ensures c.slots.ensures.slots in
    if_none c.in_ok-found.found c.in_ok-found.ensures.none
    (λ many. subst (λ tuples. most_rules < length tuples) same (many layout.standings))
