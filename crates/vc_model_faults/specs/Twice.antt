-- Whether a line declares, lists or uses what is declared, listed or used already.
use Rattle.std.specs.Prelude.{ℕ, Bool, false, ◌||◌, List, Option, Some, None}
use Rattle.vc_model_lines.specs.declared.line.Line.{Line}
use Rattle.vc_model_lines.specs.declared.line.Line.TheVariants as lines
use Rattle.vc_model_scope.specs.declared.scope.Scope.{Scope}
use Rattle.vc_model_scope.specs.declared.entries.Interval.{Interval}
use Rattle.vc_model_scope.specs.declared.naming.Declared.{Declared}
use Rattle.vc_model_scope.specs.declared.naming.Dependencies.{Dependencies}
use Rattle.vc_model_scope.specs.Entries.{lists_entry}
use Rattle.vc_model_scope.specs.Names.{is_among}
use Rattle.vc_model_scope.specs.Contents.{entry_of}

-- a net or a dependency has the name: they share theirs
abbrev pub is_declared : Dependencies → List ℕ → Bool
is_declared d name = is_among d.nets name || is_among d.all name

-- an object has the material, or a bill has it as a component
abbrev pub is_material_taken : Declared → List ℕ → Bool
is_material_taken d material = is_among d.objects material || is_among d.components material

abbrev pub is_listed : List Interval → Option Interval → Bool
is_listed entries None = false
is_listed entries (Some entry) = lists_entry entries entry

-- the name is declared, the value, member or column listed, the USES repeated, or the object's material taken
unfoldable pub is_twice : Scope → Line → Bool
is_twice scope (lines.Char char) = is_among scope.declared.characteristics char.name
is_twice scope (lines.Num num) = is_among scope.declared.characteristics num.name
is_twice scope (lines.Text text) = is_among scope.standing.texts text
is_twice scope (lines.Interval interval) = is_listed scope.standing.entries (entry_of (lines.Interval interval))
is_twice scope (lines.Uses name) = is_among scope.uses.names name
is_twice scope (lines.Class name) = is_among scope.declared.classes name
is_twice scope (lines.Has name) = is_among scope.standing.members name
is_twice scope (lines.Table table) = is_among scope.declared.tables table.name
is_twice scope (lines.Column column) = is_among scope.standing.columns column.characteristic
is_twice scope (lines.Net name) = is_declared scope.dependencies name
is_twice scope (lines.Block block) = is_declared scope.dependencies block.name
is_twice scope (lines.Object object) = is_material_taken scope.declared object.material
is_twice scope line = false
