use Rattle.std.proofs.Common.{◌∙◌, ap, sym}
use Rattle.vc_value.specs.Grains.{is_ascending, unit_of, cut_at}
use Rattle.vc_value.proofs.CutLemmas.{cut_ascending}
use Rattle.vc_value_cuts.specs.Made.{is_made}
use Rattle.vc_value_cuts.proofs.CutLemmas.{made_kept, cut_still}
use Rattle.vc_value_cuts.proofs.grains.CutGrains.cut.Goals as goal

pub invariant_of-self : goal.invariant_of-self
invariant_of-self c =
    ap is_ascending c.in_ok-grains.ensures
    ∙ cut_still c.new-cut.result.decimals c.new-cut.result.at c.deref-then-not-is_made.result.now
    (ap is_ascending c.deref-then-not-is_made.ensures.value ∙ c.self.invariant)

pub returns-else-not-is_made-clause-ok : goal.returns-else-not-is_made-clause-ok
returns-else-not-is_made-clause-ok c =
    let cut = c.new-cut.result in
    let grains = c.deref.result.now in
    let same = c.deref.ensures.value ∙ c.self.view_is in
    let kept = made_kept cut grains c.new-cut.ensures.cut (ap is_ascending c.deref.ensures.value ∙ c.self.invariant)
    (sym c.is_made.ensures ∙ c.if-not-is_made.false) in
    sym same ∙ sym kept
    ∙ ap (λ decimals. cut_at decimals cut.at grains) c.new-cut.ensures.decimals
    ∙ ap (λ at. cut_at c.args.decimals at grains) c.new-cut.ensures.at
    ∙ ap (cut_at c.args.decimals c.args.at) same
