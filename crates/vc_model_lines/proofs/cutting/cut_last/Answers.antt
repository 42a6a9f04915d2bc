-- What isn't empty and has no LF is one line.
use Rattle.std.proofs.Common.{◌<◌, length, arith}
use Rattle.std.proofs.lemmas.Bool.Decides.{nat_tests}
use Rattle.vc_model_lines.proofs.CutLemmas.{one_line}
use Rattle.vc_model_lines.proofs.cutting.cut_last.Goals as goal

pub returns-else-is_empty-clause-lines : goal.returns-else-is_empty-clause-lines
returns-else-is_empty-clause-lines c =
    let h = c.if-is_empty.false in
    let k = c.is_empty.ensures in
    let some : 0 < length c.args.bytes.now = grind (arith, nat_tests) in
    one_line c.args.bytes.now c.requires some
