use Rattle.std.proofs.Common.{ap, ◌∙◌}
use Rattle.vc_compile_plan.specs.Cuts.{domains_of}
use Rattle.vc_compile_plan.specs.Layouts.{layout_over}
use Rattle.vc_compile_layout.specs.Standing.{layout_seen}
use Rattle.vc_compile_parts.proofs.taken.domains.Goals as goal

pub returns : goal.returns
returns c =
    let layout = layout_seen c.args.layout.now in
    c.in_ok-domains.ensures layout.standings
    ∙ ap (λ model. domains_of (layout_over model layout.standings c.slots.result.now) c.args.read.now) c.names.ensures
    ∙ ap (λ slots. domains_of (layout_over layout.model layout.standings slots) c.args.read.now) c.slots.ensures.slots
