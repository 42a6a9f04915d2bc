use Rattle.std.proofs.Common.{◌++◌, ◌∙◌, ap}
use Rattle.vc_value.proofs.CutLemmas.{three_pushed}
use Rattle.vc_value.proofs.grains.push_parts.Goals as goal

pub returns : goal.returns
returns c = three_pushed c.args.parts.now.items _ _ _ c.push_part.new.parts.items c.push_part-2.new.parts.items
    c.push_part-3.new.parts.items
    (c.in_ok-push_part.ensures ∙ ap (λ p. c.args.parts.now.items ++ p) c.part_below.ensures)
    (c.in_ok-push_part-2.ensures ∙ ap (λ p. c.push_part.new.parts.items ++ p) c.part_at.ensures)
    (c.in_ok-push_part-3.ensures ∙ ap (λ p. c.push_part-2.new.parts.items ++ p) c.part_above.ensures)
