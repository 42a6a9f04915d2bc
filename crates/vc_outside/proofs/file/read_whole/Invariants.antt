use Rattle.std.proofs.Common.{◌≡◌, ◌+◌, ◌-◌, vec_len, IsTrue}
use Rattle.std.specs.Io.KnownBytes.{Consumes}
use Rattle.vc_outside.specs.declared.file.TheConstants.{FILE_LIMIT}
use Rattle.vc_outside.proofs.file.read_whole.Given as goal

abbrev pub invariant-loop-buffer : goal.invariant-loop-buffer
invariant-loop-buffer g l = record {
  begun : IsTrue (g.F.Shelf.is_begun l.shelf);
  taken : Consumes (g.F.Shelf.left l.initial.shelf) (g.F.Shelf.left l.shelf) l.bytes.items;
  calm : g.F.Shelf.faults l.shelf ≡ g.F.Shelf.faults l.fn.shelf;
  files : g.F.Shelf.files l.shelf ≡ g.F.Shelf.files l.fn.shelf;
}

abbrev pub decreases-loop-buffer : goal.decreases-loop-buffer
decreases-loop-buffer g l = FILE_LIMIT + 1 - vec_len l.bytes
