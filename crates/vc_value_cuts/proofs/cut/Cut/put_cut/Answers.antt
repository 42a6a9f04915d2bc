use Rattle.std.proofs.Common.{◌≡◌, ◌||◌, ◌++◌, ◌∙◌, true, ap, sym}
use Rattle.vc_value_cuts.specs.Made.{lies_below, lies_above}
use Rattle.vc_value_cuts.proofs.CutLemmas.{kept_apart}
use Rattle.vc_value_cuts.proofs.cut.Cut.put_cut.Goals as goal
use Rattle.vc_value_cuts.proofs.cut.Cut.put_cut.Goals.{then-is_above, else-is_above}

pub returns-in_ok-push : goal.returns-in_ok-push
returns-in_ok-push c =
    let cut = c.args.self.now in
    let apart : (lies_below cut c.args.grain || lies_above cut c.args.grain) ≡ true =
    elim c.if-is_above.branch [
      | then-is_above w ↦ ap (λ b. b || lies_above cut c.args.grain) (sym c.is_above.ensures ∙ w.if-is_above.true)
      | else-is_above w ↦
          let over : lies_above cut c.args.grain ≡ true = cc (w.value-is, w.is_below.ensures, c.if-is_below.true) in
          ap (λ b. b || lies_above cut c.args.grain) (sym c.is_above.ensures ∙ w.if-is_above.false) ∙ over
    ] in
    c.in_ok-push.ensures.items
    ∙ ap (λ gs. c.args.out.now.items ++ gs) (sym (kept_apart cut c.args.grain c.requires.cut c.requires.ordered apart))
