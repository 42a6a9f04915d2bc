use Rattle.std.proofs.Common.{◌≡◌, ◌+◌, length, map, codes}
use Rattle.std.specs.List.{position_from}
use Rattle.vc_model_lines.specs.Forms.{unit_at, is_word}
use Rattle.vc_model_lines.proofs.forms.unit_at.Given as goal

abbrev pub invariant-loop-rest : goal.invariant-loop-rest
invariant-loop-rest l = record {
  found : position_from (λ word. is_word (codes "UNIT") word) l.at (map (λ word. word.now) l.rest)
      ≡ unit_at (map (λ word. word.now) l.words);
  counted : l.at + length l.rest ≡ length l.words;
}

abbrev pub decreases-loop-rest : goal.decreases-loop-rest
decreases-loop-rest l = length l.rest
