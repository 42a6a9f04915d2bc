use Rattle.std.proofs.Common.{◌≡◌, ℕ, List, take}
use Rattle.vc_table.specs.Tables.{text_number}
use Rattle.vc_table.proofs.text_index.TextIndex.new.Given as goal

abbrev pub invariant-loop-entry : goal.invariant-loop-entry
invariant-loop-entry l = (text : List ℕ) → text_number l.index text ≡ text_number (take l.entry-index l.entries) text
