use Rattle.std.proofs.Common.{◌≡◌, ◌+◌, [], drop, map, true}
use Rattle.csv.specs.Records.{fields_of}
use Rattle.vc_table.specs.Tables.{rows_from, has_keys, key_of}
use Rattle.vc_table.proofs.table.read_rows.Given as goal

abbrev pub invariant-loop-index : goal.invariant-loop-index
invariant-loop-index l = record {
  so_far : rows_from l.columns (l.index + 2) l.rows (map fields_of (drop l.index l.records))
      ≡ rows_from l.columns 2 [] (map fields_of l.records);
  keys : has_keys l.columns ≡ true → l.keys ≡ map (λ row. key_of l.columns row.cells) l.rows;
}
