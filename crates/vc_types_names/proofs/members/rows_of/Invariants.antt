use Rattle.std.proofs.Common.{◌≡◌, ◌++◌, drop}
use Rattle.vc_types_names.specs.Members.{rows_of}
use Rattle.vc_types_names.proofs.members.rows_of.Given as goal

abbrev pub invariant-loop-class : goal.invariant-loop-class
invariant-loop-class l = l.rows ++ rows_of (drop l.class-index l.classes) ≡ rows_of l.classes
