use Rattle.std.proofs.Common.{◌∙◌, ap, false, flat_map, map}
use Rattle.vc_compile_uses.specs.Marks.{mark_all, marked_from}
use Rattle.vc_compile_plan.specs.Refusals.{is_in_net}
use Rattle.vc_compile_uses.proofs.MarkLemmas.{marked, one_of_all}
use Rattle.vc_compile_uses.proofs.UseLemmas.{for_ok}
use Rattle.vc_compile_uses.proofs.uses.net_constraints.Goals as goal

pub returns : goal.returns
returns c = for_ok c.marked_numbers.result (λ found is.
    is ∙ ap (marked_from 0)
    (c.as_slice-3.ensures ∙ c.mark_nets.ensures
    ∙ ap (λ nets. mark_all c.in_ok-marks.marks (flat_map (λ net. net.constraints) nets)) c.as_slice-2.ensures
    ∙ ap (λ marks. mark_all marks (flat_map (λ net. net.constraints) c.args.model.now.nets))
    (c.in_ok-marks.ensures ∙ ap (map (λ d. false)) c.as_slice.ensures))
    ∙ marked c.args.model.now.dependencies (flat_map (λ net. net.constraints) c.args.model.now.nets)
    (is_in_net c.args.model.now)
    (one_of_all (λ net. net.constraints) c.args.model.now.nets))
    c.marked_numbers.ensures
