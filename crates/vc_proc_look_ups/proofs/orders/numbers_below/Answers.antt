use Rattle.std.proofs.Common.{◌+◌, ◌∷◌, [], ◌++◌, ◌∙◌, ap, sym, arith}
use Rattle.vc_base.proofs.ListLaws.{range_split}
use Rattle.vc_proc_look_ups.proofs.orders.numbers_below.Goals as goal

pub loop-number-preserved : goal.loop-number-preserved
loop-number-preserved c =
    let n = c.loop-number.number in
    c.in_ok-push.ensures.items
    ∙ (ap (λ ns. ns ++ n ∷ []) c.loop-number.invariant
    ∙ sym (range_split 0 n 1 (n + 1) n (omega arith) (omega arith)))
