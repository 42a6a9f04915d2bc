-- The first line ends at the first LF, and a text without one is its only line.
use Rattle.std.proofs.Common.{◌∷◌, ap, ◌∙◌}
use Rattle.std.specs.Option.{option_copied}
use Rattle.vc_wire_chains_lines.specs.Cutting.{parts_if}
use Rattle.vc_wire_chains.proofs.LineLemmas.{first_of_more, only_line}
use Rattle.vc_wire_chains.proofs.lines.first_line.Goals as goal

pub returns-in-Some-clause-lines : goal.returns-in-Some-clause-lines
returns-in-Some-clause-lines c =
    first_of_more c.args.text.now c.cut.result.0.now c.in-Some.more.now
    (c.cut.ensures.parts ∙ ap (λ r. c.cut.result.0.now ∷ parts_if 10 (option_copied r)) c.in-Some.is)

pub returns-in-None-clause-lines : goal.returns-in-None-clause-lines
returns-in-None-clause-lines c =
    only_line c.args.text.now c.cut.result.0.now
    (c.cut.ensures.parts ∙ ap (λ r. c.cut.result.0.now ∷ parts_if 10 (option_copied r)) c.in-None.is) c.requires
