use Rattle.std.proofs.Common.{◌≡◌, ◌++◌, drop}
use Rattle.std.specs.List.{flat_map}
use Rattle.vc_show_rows.specs.Texts.{quoted_byte}
use Rattle.vc_show_rows.proofs.texts.put_doubled.Given as goal

-- what is put and what is to come are all of it
abbrev pub invariant-loop-byte : goal.invariant-loop-byte
invariant-loop-byte l = l.out ++ flat_map quoted_byte (drop l.byte-index l.text)
    ≡ l.initial.out ++ flat_map quoted_byte l.text
