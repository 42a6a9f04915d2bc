use Rattle.std.proofs.Common.{◌∙◌}
use Rattle.vc_compile_layout.specs.Standing.{layout_seen}
use Rattle.vc_compile_constraints.proofs.ConstraintLemmas.{same_active}
use Rattle.vc_compile_constraints.proofs.constraints.active.Goals as goal

pub returns : goal.returns
returns c =
    let layout = layout_seen c.args.layout.now in
    c.in_ok-found.ensures layout.standings
    ∙ same_active layout c.model.result.now c.slots.result.now (c.model.ensures ∙ c.names.ensures) c.slots.ensures.slots
