-- Whether a line would make one more than a limit allows.
use Rattle.std.specs.Prelude.{Bool, false, nat_le, length}
use Rattle.vc_model_lines.specs.declared.line.Line.{Line}
use Rattle.vc_model_lines.specs.declared.line.Line.TheVariants as lines
use Rattle.vc_model_scope.specs.declared.scope.Scope.{Scope}

-- as many as are allowed stand above already
unfoldable pub is_too_many : Scope → Line → Bool
is_too_many scope (lines.Char char) = nat_le 2000 (length scope.declared.characteristics)
is_too_many scope (lines.Num num) = nat_le 2000 (length scope.declared.characteristics)
is_too_many scope (lines.Text text) = nat_le 1000 (length scope.standing.texts)
is_too_many scope (lines.Interval interval) = nat_le 1000 (length scope.standing.entries)
is_too_many scope (lines.Uses name) = nat_le 100 (length scope.uses.names)
is_too_many scope (lines.Class name) = nat_le 500 (length scope.declared.classes)
is_too_many scope (lines.Has name) = nat_le 500 (length scope.standing.members)
is_too_many scope (lines.Table table) = nat_le 200 (length scope.declared.tables)
is_too_many scope (lines.Column column) = nat_le 20 (length scope.standing.columns)
is_too_many scope (lines.Net name) = nat_le 200 (length scope.dependencies.nets)
is_too_many scope (lines.Object object) = nat_le 500 (length scope.declared.objects)
is_too_many scope (lines.Bill bill) = nat_le 1000 (length scope.standing.items)
is_too_many scope (lines.Operation operation) = nat_le 1000 (length scope.standing.operations)
is_too_many scope (lines.Block block) = nat_le 2000 (length scope.dependencies.all)
is_too_many scope line = false
