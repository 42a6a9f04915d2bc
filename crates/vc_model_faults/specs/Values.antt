-- Whether a value, length, decimals, version, item or interval breaks its rule.
use Rattle.std.specs.Prelude.{ℕ, ◌-◌, Bool, true, false, not, ◌&&◌, nat_lt, List, length, slice_get, Option, Some, None}
use Rattle.std.specs.Prelude.{is_none}
use Rattle.std.specs.Int.Signed.{lt_z, le_z}
use Rattle.vc_value.specs.declared.decimal.Dec.{Dec}
use Rattle.vc_value.specs.Grains.{has_decimals}
use Rattle.vc_model_lines.specs.declared.line.Line.{Line}
use Rattle.vc_model_lines.specs.declared.line.Line.TheVariants as lines
use Rattle.vc_model_scope.specs.declared.scope.Scope.{Scope}
use Rattle.vc_model_scope.specs.declared.scope.Standing.{Standing}
use Rattle.vc_model_scope.specs.declared.entries.Interval.{Interval}
use Rattle.vc_model_scope.specs.declared.stands.Under.{Under}
use Rattle.vc_model_scope.specs.declared.stands.Under.TheVariants as unders
use Rattle.vc_model_scope.specs.Entries.{last_entry}
use Rattle.vc_model_scope.specs.Names.{is_among}
use Rattle.vc_model_scope.specs.Contents.{entry_of}
use Rattle.vc_model_lines.specs.WordSpellings.{is_value_text}

-- a text of 1 to so many characters, none of them a control character
abbrev pub text_fits : Under → List ℕ → Bool
text_fits (unders.Char (Some length)) text = is_value_text length text
text_fits under text = true

abbrev pub ends_have_decimals : ℕ → Interval → Bool
ends_have_decimals decimals entry = has_decimals decimals entry.low && has_decimals decimals entry.high

abbrev pub is_ordered : Interval → Bool
is_ordered entry = le_z entry.low.millionths entry.high.millionths

abbrev pub lies_above : Option Interval → Dec → Bool
lies_above None low = true
lies_above (Some last) low = lt_z last.high.millionths low.millionths

-- its ends are in order, and lie above the entry before it
abbrev pub entry_ascends : Option Interval → Interval → Bool
entry_ascends last entry = is_ordered entry && lies_above last entry.low

-- no end has more decimals than these, and the entries ascend
abbrev pub entry_fits : Under → Option Interval → Interval → Bool
entry_fits (unders.Num (Some decimals)) last entry = ends_have_decimals decimals entry && entry_ascends last entry
entry_fits under last entry = true

abbrev pub interval_fits : Standing → Option Interval → Bool
interval_fits standing None = false
interval_fits standing (Some entry) = entry_fits standing.under (last_entry standing.entries) entry

abbrev pub last_of : List ℕ → Option ℕ
last_of numbers = slice_get numbers (length numbers - 1)

abbrev pub exceeds : Option ℕ → ℕ → Bool
exceeds None number = true
exceeds (Some last) number = nat_lt last number

-- the number is above the one listed last
abbrev pub follows : List ℕ → Option ℕ → Bool
follows numbers None = false
follows numbers (Some number) = exceeds (last_of numbers) number

-- a version, length or decimals that is none; a value that doesn't fit; a column with MULTIPLE; an item or operation
-- that doesn't ascend
unfoldable pub is_bad : Scope → Line → Bool
is_bad scope (lines.Head head) = is_none head.version
is_bad scope (lines.Char char) = is_none char.length
is_bad scope (lines.Num num) = is_none num.decimals
is_bad scope (lines.Text text) = not (text_fits scope.standing.under text)
is_bad scope (lines.Interval interval) = not (interval_fits scope.standing (entry_of (lines.Interval interval)))
is_bad scope (lines.Column column) = is_among scope.declared.multiples column.characteristic
is_bad scope (lines.Bill bill) = not (follows scope.standing.items bill.item)
is_bad scope (lines.Operation operation) = not (follows scope.standing.operations operation.number)
is_bad scope line = false
