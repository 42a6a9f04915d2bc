-- The flags that are set are of the steps that the ending needs.
use Rattle.std.proofs.Common.{◌∙◌, ap}
use Rattle.vc_net_chains.specs.Marking.{marked_each, with_all_cited}
use Rattle.vc_net_chains.proofs.MarkLaws.{needed_found}
use Rattle.vc_net_chains.proofs.marks.needed.Goals as goal

pub returns-clause-found : goal.returns-clause-found
returns-clause-found c =
    let steps = c.args.log.now.steps in
    c.mark_all_cited.ensures.marked
    ∙ (ap (with_all_cited steps c.args.count)
    (c.mark_all.ensures.marked ∙ ap (marked_each c.args.count c.args.ending.now) c.in_ok-flags.ensures.none)
    ∙ needed_found c.args.ending.now steps c.args.count c.requires)
