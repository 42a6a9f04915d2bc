use Rattle.std.proofs.Common.{◌∙◌, ◌∷◌, [], ap, arith}
use Rattle.vc_compile_plan.specs.Cuts.{cut_domain}
use Rattle.vc_compile_cuts.specs.Cutting.{domain_seen}
use Rattle.vc_compile_cuts.specs.Marks.{mark_seen}
use Rattle.vc_compile_cuts.proofs.CuttingLemmas.{cut_one, cut_past, on_ok}
use Rattle.vc_compile_cuts.proofs.cutting.cut_by_mark.Goals as goal

pub returns-then-place-len : goal.returns-then-place-len
returns-then-place-len c =
    let mark = mark_seen c.args.mark in
    on_ok c.cut.result (λ is.
    cut_one mark 0 mark.characteristic c.args.all.now.items c.cut.new.self c.index_mut.result.now (omega arith)
    (omega (c.if-place-len.true, c.len.ensures, c.args.all.now.ok.0, arith))
    (is ∙ ap (λ x. cut_domain (mark.number ∷ []) (domain_seen x)) c.index_mut.ensures.value))
    c.cut.ensures

pub returns-else-place-len : goal.returns-else-place-len
returns-else-place-len c =
    cut_past (mark_seen c.args.mark) c.args.all.now.items
    (omega (c.if-place-len.false, c.len.ensures, c.args.all.now.ok.0, arith))
