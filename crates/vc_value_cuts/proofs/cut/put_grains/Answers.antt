use Rattle.std.proofs.Common.{◌+◌, ◌++◌, ◌∷◌, [], ◌∙◌, ap, append_assoc, drop}
use Rattle.vc_value_cuts.proofs.CutLemmas.{drop_there}
use Rattle.vc_value_cuts.proofs.cut.put_grains.Goals as goal

pub loop-n-preserved : goal.loop-n-preserved
loop-n-preserved c =
    let list = c.args.list.now in
    let n = c.loop-n.n in
    let items = c.loop-n.out.items in
    ap (λ gs. gs ++ drop (n + 1) list) c.in_ok-push.ensures.items
    ∙ append_assoc items (c.grain.result ∷ []) (drop (n + 1) list)
    ∙ ap (λ gs. items ++ gs) (drop_there list n c.grain.result c.grain.ensures)
    ∙ c.loop-n.invariant
