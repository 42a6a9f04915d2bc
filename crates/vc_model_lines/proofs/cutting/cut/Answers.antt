-- The line ends at the first LF.
use Rattle.std.proofs.Common.{◌+◌, ◌∷◌, drop, sym, ap, ◌∙◌}
use Rattle.std.proofs.lemmas.List.{take_rest}
use Rattle.std.specs.Str.Lines.{lines}
use Rattle.vc_model_lines.proofs.CutLemmas.{cut_at}
use Rattle.vc_model_lines.proofs.cutting.cut.Goals as goal

pub returns-in-Some-clause-lines : goal.returns-in-Some-clause-lines
returns-in-Some-clause-lines c =
    let bytes = c.args.bytes.now in
    let at = c.in-Some.at in
    rw (take_rest bytes (at + 1))
    (cut_at bytes at c.in-Some.ensures.at
    ∙ ap (λ line. line ∷ lines (drop (at + 1) bytes)) (sym c.without_return.ensures))
