-- The net of the stage says it; past all nets nothing is said.
use Rattle.std.proofs.Common.{◌≡◌, ◌∙◌, ap, arith, length, map, refl, sym}
use Rattle.std.specs.Prelude.{Some, slice_get}
use Rattle.std.proofs.lemmas.Option.{slice_get_read}
use Rattle.vc_session_stages.specs.Stages.{seen_at}
use Rattle.vc_session_evaluation.specs.Evaluating.{said_by}
use Rattle.vc_session_evaluation.proofs.ListLemmas.{seen_past, seen_there}
use Rattle.vc_session_evaluation.proofs.lateness.was_here.Goals as goal

pub returns-in-Some : goal.returns-in-Some
returns-in-Some c =
    let nets = c.args.nets.now in
    let d = c.depth_of.result in
    let net = c.in-Some.net.now in
    let found = c.in-Some.ensures.lookup in
    let at : slice_get nets d ≡ Some net = slice_get_read nets (length nets) d net refl found.3.0 found.1 in
    c.here.ensures ∙ ap (λ seen. seen.here c.args.slot) (sym (seen_there said_by nets d net at))
    ∙ ap (λ k. (seen_at (map said_by nets) k).here c.args.slot) c.depth_of.ensures

pub returns-in-None : goal.returns-in-None
returns-in-None c =
    let nets = c.args.nets.now in
    ap (λ seen. seen.here c.args.slot)
    (sym (seen_past said_by nets c.depth_of.result (omega (arith, c.in-None.ensures.lookup))))
    ∙ ap (λ k. (seen_at (map said_by nets) k).here c.args.slot) c.depth_of.ensures
