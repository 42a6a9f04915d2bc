-- What a line stands under.
use Rattle.std.specs.Prelude.{Bool, true, false, Option, Some, None, is_some}
use Rattle.vc_model_lines.specs.declared.line.Line.{Line}
use Rattle.vc_model_lines.specs.declared.line.Line.TheVariants as lines
use Rattle.vc_model_scope.specs.declared.stands.Under.{Under}
use Rattle.vc_model_scope.specs.declared.stands.Under.TheVariants as unders
use Rattle.vc_model_scope.specs.declared.stands.UsesPlace.{UsesPlace}
use Rattle.vc_model_scope.specs.declared.stands.UsesPlace.TheVariants as places

-- what lines below belong to from a line on: lines that don't count, USES, VALUE, HAS, COLUMN, LINE and OPERATION leave
-- it as it was
abbrev pub under_at : Line → Option Under
under_at lines.Skipped = None
under_at (lines.Inner text) = None
under_at lines.LongInner = None
under_at lines.End = None
under_at (lines.Text text) = None
under_at (lines.Interval interval) = None
under_at (lines.Uses name) = None
under_at (lines.Has name) = None
under_at (lines.Column column) = None
under_at (lines.Bill bill) = None
under_at (lines.Operation operation) = None
under_at (lines.Char char) = Some (unders.Char char.length)
under_at (lines.Num num) = Some (unders.Num num.decimals)
under_at (lines.Class name) = Some unders.Class
under_at (lines.Table table) = Some unders.Table
under_at (lines.Object object) = Some unders.Object
under_at line = Some unders.Nothing

-- what a USES below is for from a line on: lines that don't count and USES leave it as it was
abbrev pub uses_place_at : Line → Option UsesPlace
uses_place_at lines.Skipped = None
uses_place_at (lines.Inner text) = None
uses_place_at lines.LongInner = None
uses_place_at lines.End = None
uses_place_at (lines.Uses name) = None
uses_place_at (lines.Char char) = Some places.Characteristic
uses_place_at (lines.Num num) = Some places.Characteristic
uses_place_at (lines.Text text) = Some places.Value
uses_place_at (lines.Interval interval) = Some places.Value
uses_place_at (lines.Bill bill) = Some places.Item
uses_place_at (lines.Operation operation) = Some places.Item
uses_place_at (lines.Net name) = Some places.Net
uses_place_at (lines.Object object) = Some places.Object
uses_place_at line = Some places.Nowhere

-- the line belongs to nothing above it
abbrev pub opens : Line → Bool
opens line = is_some (under_at line)

-- a USES below isn't for what stands above the line
abbrev pub ends_uses : Line → Bool
ends_uses line = is_some (uses_place_at line)

-- no comment, not empty and not in a block
abbrev pub counts : Line → Bool
counts lines.Skipped = false
counts (lines.Inner text) = false
counts lines.LongInner = false
counts lines.End = false
counts line = true

abbrev pub is_head : Line → Bool
is_head (lines.Head head) = true
is_head line = false

abbrev pub is_root : Line → Bool
is_root (lines.Root material) = true
is_root line = false
