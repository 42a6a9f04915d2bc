use Rattle.std.proofs.Common.{◌≡◌, drop}
use Rattle.vc_outside.specs.Shelves.{content_of}
use Rattle.vc_outside.proofs.memory_shelf.file_of.Given as goal

abbrev pub invariant-loop-index : goal.invariant-loop-index
invariant-loop-index l = content_of (drop l.index l.files) l.name ≡ content_of l.files l.name
