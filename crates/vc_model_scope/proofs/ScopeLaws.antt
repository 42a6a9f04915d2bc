-- The scope of lines with one more is that of the lines, with that line.
use Rattle.std.proofs.Common.{◌≡◌, List, ◌∷◌, refl}
use Rattle.vc_model_lines.specs.declared.line.Line.{Line}
use Rattle.vc_model_scope.specs.Scope.{scope_of, with_line}

pub scope-more : (line : Line) (earlier : List Line) → scope_of (line ∷ earlier) ≡ with_line (scope_of earlier) line
unfolding scope_of with_line
scope-more line earlier = refl
