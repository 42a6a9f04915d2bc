-- The first part ends at the first separator, and a text without one is its only part.
use Rattle.std.proofs.Common.{sym, ◌∙◌}
use Rattle.std.proofs.lemmas.List.{take_rest}
use Rattle.vc_wire_chains_lines.proofs.CuttingLemmas.{parts_found, parts_missing}
use Rattle.vc_wire_chains_lines.proofs.cutting.cut.Goals as goal

pub returns-in-Some-clause-parts : goal.returns-in-Some-clause-parts
returns-in-Some-clause-parts c =
    rw (take_rest)
    (parts_found c.args.separator c.args.text.now c.in-Some.at (sym c.separator_at.ensures.place ∙ c.in-Some.is))

pub returns-in-None-clause-parts : goal.returns-in-None-clause-parts
returns-in-None-clause-parts c =
    parts_missing c.args.separator c.args.text.now (sym c.separator_at.ensures.place ∙ c.in-None.is)
