use Rattle.std.proofs.Common.{◌≡◌, ◌≤◌, length, take}
use Rattle.vc_model_lines.specs.LineWords.{without_spaces_behind}
use Rattle.vc_model_lines.proofs.words.without_spaces_behind.Given as goal

abbrev pub invariant-loop-length : goal.invariant-loop-length
invariant-loop-length l = record {
  kept : without_spaces_behind (take l.length l.bytes) ≡ without_spaces_behind l.bytes;
  within : l.length ≤ length l.bytes;
}

abbrev pub decreases-loop-length : goal.decreases-loop-length
decreases-loop-length l = l.length
