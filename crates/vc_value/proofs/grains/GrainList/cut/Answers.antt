use Rattle.std.proofs.Common.{◌∙◌, ap, arith, length}
use Rattle.std.specs.List.{flat_map, list_all}
use Rattle.vc_value.specs.Grains.{is_ascending, is_multiple, is_apart, hold, parts_of}
use Rattle.vc_value.proofs.CutLemmas.{cut_ascending, cut_length}
use Rattle.vc_value.proofs.CutLaws.{cut_keeps, cut_parts}
use Rattle.vc_value.proofs.grains.GrainList.cut.Goals as goal

pub invariant_of-self : goal.invariant_of-self
invariant_of-self c =
    let unit = c.unit_of.result in
    let at = c.args.at.millionths in
    let is = c.in_ok-parts.ensures ∙ ap (flat_map (parts_of unit at)) c.deref.ensures.value in (
      ap is_ascending is ∙ cut_ascending unit at c.self.inside.grains.items c.unit_of.ensures.some c.self.invariant.0,
      omega (
        arith,
        ap length is,
        cut_length unit at c.self.inside.grains.items c.unit_of.ensures.some
            c.self.invariant.0,
        c.requires,
        ap length c.self.view_is,
      ),
    )

pub returns-clause-apart : goal.returns-clause-apart
returns-clause-apart c = ap (list_all (is_apart c.args.at)) c.in_ok-parts.ensures
    ∙ cut_parts c.unit_of.result c.args.at c.deref.result.now c.unit_of.ensures.some

pub returns-clause-kept : goal.returns-clause-kept
returns-clause-kept c = λ n whole.
    ap (hold n) c.in_ok-parts.ensures
    ∙ cut_keeps n c.unit_of.result c.args.at.millionths c.deref.result.now c.unit_of.ensures.some
    (ap (λ unit. is_multiple unit n.millionths) c.unit_of.ensures.unit ∙ whole)
    ∙ ap (hold n) (c.deref.ensures.value ∙ c.self.view_is)
