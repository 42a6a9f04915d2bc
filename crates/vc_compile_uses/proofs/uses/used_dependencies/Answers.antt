use Rattle.std.proofs.Common.{◌∙◌, ap, false, map}
use Rattle.vc_compile_uses.specs.Marks.{marked_from}
use Rattle.vc_compile_uses.proofs.UseLemmas.{for_ok, used_are}
use Rattle.vc_compile_uses.proofs.uses.used_dependencies.Goals as goal

pub returns : goal.returns
returns c = for_ok c.marked_numbers.result (λ found is standings.
    used_are c.args.model.now c.args.slots.now standings _ _ _ found
    (c.in_ok-marks.ensures ∙ ap (map (λ d. false)) c.as_slice.ensures) c.mark_active.ensures c.mark_standing.ensures
    (is ∙ ap (marked_from 0) c.as_slice-2.ensures))
    c.marked_numbers.ensures
