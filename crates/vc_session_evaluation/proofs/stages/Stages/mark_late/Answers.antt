-- Who is late is read off the nets.
use Rattle.std.proofs.Common.{◌≡◌, ◌∙◌, ap, arith, length, map, not, refl, ◌&&◌}
use Rattle.std.specs.Prelude.{Some, slice_get}
use Rattle.std.proofs.lemmas.Option.{slice_get_read}
use Rattle.vc_plan.specs.Domains.{numbers_below}
use Rattle.vc_session_stages.specs.Stages.{was_seen}
use Rattle.vc_session_evaluation.specs.Evaluating.{said_by}
use Rattle.vc_session_evaluation.proofs.GoingLaws.{late_told, marked, nets_apart}
use Rattle.vc_session_evaluation.proofs.stages.Stages.mark_late.Goals as goal

pub returns : goal.returns
returns c =
    let plan = c.args.plan.now in
    let nets = c.args.self.now.nets.items in
    let net = c.index.result.now in
    let found : slice_get nets c.args.last ≡ Some net =
    slice_get_read nets (length nets) c.args.last net refl
    (omega (arith, nets_apart plan c.args.self.now c.requires.of c.requires.some, c.requires.last))
    c.index.ensures in
    marked plan c.args.self.now _ c.requires.of refl refl refl refl refl refl
    (late_told plan nets c.args.last net c.flag_late.new.late c.requires.last found
    (c.flag_late.ensures
    ∙ ap (λ all. map (λ i. (said_by net).here i && not (was_seen plan (map said_by all) i))
    (numbers_below (length plan.slots)))
    c.as_slice.ensures.value))
