use Rattle.std.proofs.Common.{◌≡◌, ◌≤◌, length}
use Rattle.vc_app_models.specs.Loading.{AreTablesIn}
use Rattle.vc_app_models.proofs.tables.load_tables.Given as goal

abbrev pub invariant-loop-number : goal.invariant-loop-number
invariant-loop-number g l = record {
  count : length l.tables ≡ l.number;
  read : AreTablesIn (g.F.Shelf.files l.fn.shelf) l.model l.model.tables l.tables;
  files : g.F.Shelf.files l.shelf ≡ g.F.Shelf.files l.fn.shelf;
  later : g.F.Shelf.faults l.fn.shelf ≤ g.F.Shelf.faults l.shelf;
}
