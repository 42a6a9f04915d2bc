-- Whether a line names what isn't declared above it, or isn't allowed there.
use Rattle.std.specs.Prelude.{ℕ, Bool, false, not, ◌||◌, List}
use Rattle.vc_model_lines.specs.declared.line.Line.{Line}
use Rattle.vc_model_lines.specs.declared.line.Line.TheVariants as lines
use Rattle.vc_model_scope.specs.declared.scope.Scope.{Scope}
use Rattle.vc_model_scope.specs.declared.naming.Dependencies.{Dependencies}
use Rattle.vc_model_scope.specs.declared.stands.UsesPlace.{UsesPlace}
use Rattle.vc_model_scope.specs.declared.stands.UsesPlace.TheVariants as places
use Rattle.vc_model_scope.specs.Names.{is_among}
use Rattle.vc_model_faults.specs.Twice.{is_declared}

-- the name isn't declared above, or the root is no object
unfoldable pub is_unknown : Scope → Line → Bool
is_unknown scope (lines.Uses name) = not (is_declared scope.dependencies name)
is_unknown scope (lines.Has name) = not (is_among scope.declared.characteristics name)
is_unknown scope (lines.Column column) = not (is_among scope.declared.characteristics column.characteristic)
is_unknown scope (lines.Object object) = not (is_among scope.declared.classes object.class)
is_unknown scope (lines.Root material) = not (is_among scope.declared.objects material)
is_unknown scope line = false

-- a precondition or a procedure
abbrev pub is_for_value : Dependencies → List ℕ → Bool
is_for_value d name = is_among d.preconditions name || is_among d.procedures name

-- a precondition, a procedure or a selection condition
abbrev pub is_for_characteristic : Dependencies → List ℕ → Bool
is_for_characteristic d name = is_for_value d name || is_among d.selections name

-- a net or a procedure
abbrev pub is_for_object : Dependencies → List ℕ → Bool
is_for_object d name = is_among d.nets name || is_among d.procedures name

-- the name is declared as a kind that may be used there
abbrev pub is_allowed : UsesPlace → Dependencies → List ℕ → Bool
is_allowed places.Nowhere d name = false
is_allowed places.Characteristic d name = is_for_characteristic d name
is_allowed places.Value d name = is_for_value d name
is_allowed places.Item d name = is_among d.selections name
is_allowed places.Net d name = is_among d.constraints name
is_allowed places.Object d name = is_for_object d name

-- USES names no dependency of a kind that may be used there
unfoldable pub is_wrong : Scope → Line → Bool
is_wrong scope (lines.Uses name) = not (is_allowed scope.uses.place scope.dependencies name)
is_wrong scope line = false
