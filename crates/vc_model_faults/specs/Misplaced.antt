-- Whether a line may stand where it stands.
use Rattle.std.specs.Prelude.{Bool, true, false, not, ◌||◌, List}
use Rattle.std.specs.List.{list_any}
use Rattle.vc_model_lines.specs.declared.line.Line.{Line}
use Rattle.vc_model_lines.specs.declared.line.Line.TheVariants as lines
use Rattle.vc_model_scope.specs.declared.scope.Scope.{Scope}
use Rattle.vc_model_scope.specs.declared.stands.Under.{Under}
use Rattle.vc_model_scope.specs.declared.stands.Under.TheVariants as unders
use Rattle.vc_model_scope.specs.declared.stands.UsesPlace.{UsesPlace}
use Rattle.vc_model_scope.specs.declared.stands.UsesPlace.TheVariants as places
use Rattle.vc_model_scope.specs.Stands.{counts}
use Rattle.vc_model_scope.specs.LookAhead.{is_closed}

-- VALUE with a text stands under CHAR
abbrev pub takes_texts : Under → Bool
takes_texts (unders.Char length) = true
takes_texts under = false

-- VALUE with numbers stands under NUM
abbrev pub takes_intervals : Under → Bool
takes_intervals (unders.Num decimals) = true
takes_intervals under = false

-- HAS stands under CLASS
abbrev pub takes_members : Under → Bool
takes_members unders.Class = true
takes_members under = false

-- COLUMN stands under TABLE
abbrev pub takes_columns : Under → Bool
takes_columns unders.Table = true
takes_columns under = false

-- LINE and OPERATION stand under OBJECT
abbrev pub takes_items : Under → Bool
takes_items unders.Object = true
takes_items under = false

-- USES stands under CHAR, NUM, VALUE, LINE, OPERATION, NET and OBJECT
abbrev pub takes_uses : UsesPlace → Bool
takes_uses places.Nowhere = false
takes_uses place = true

-- the head comes first and the root last; all else comes after the head, and what belongs to another line under it; a
-- block is closed
unfoldable pub is_misplaced : Scope → Line → List Line → Bool
is_misplaced scope (lines.Head head) after = scope.counted
is_misplaced scope (lines.Char char) after = not scope.head
is_misplaced scope (lines.Num num) after = not scope.head
is_misplaced scope (lines.Class name) after = not scope.head
is_misplaced scope (lines.Table table) after = not scope.head
is_misplaced scope (lines.Net name) after = not scope.head
is_misplaced scope (lines.Object object) after = not scope.head
is_misplaced scope (lines.Text text) after = not (takes_texts scope.standing.under)
is_misplaced scope (lines.Interval interval) after = not (takes_intervals scope.standing.under)
is_misplaced scope (lines.Has name) after = not (takes_members scope.standing.under)
is_misplaced scope (lines.Column column) after = not (takes_columns scope.standing.under)
is_misplaced scope (lines.Bill bill) after = not (takes_items scope.standing.under)
is_misplaced scope (lines.Operation operation) after = not (takes_items scope.standing.under)
is_misplaced scope (lines.Uses name) after = not (takes_uses scope.uses.place)
is_misplaced scope (lines.Block block) after = not scope.head || not (is_closed after)
is_misplaced scope (lines.Root material) after = not scope.head || list_any counts after
is_misplaced scope line after = false
