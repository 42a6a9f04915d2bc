-- The names that the lines before a line declare.
use Rattle.std.specs.Prelude.{List}
use Rattle.vc_model_lines.specs.declared.line.Line.{Line}
use Rattle.vc_syntax_tokens.specs.declared.fault.Kind.TheVariants as kinds
use Rattle.vc_model_scope.specs.declared.naming.Declared.{Declared}
use Rattle.vc_model_scope.specs.declared.naming.Dependencies.{Dependencies}
use Rattle.vc_model_scope.specs.Names.{with_name}
use Rattle.vc_model_scope.specs.Recursions.{declared, with_option}
use Rattle.vc_model_scope.specs.Contents.{characteristic_of, multiple_of, class_of, table_of, object_of, component_of}
use Rattle.vc_model_scope.specs.Contents.{text_of, net_of, dependency_of, dependency_as}

-- the names of things
abbrev pub declared_in : List Line → Declared
declared_in earlier = record {
  characteristics = declared characteristic_of earlier;
  multiples = declared multiple_of earlier;
  classes = declared class_of earlier;
  tables = declared table_of earlier;
  objects = declared object_of earlier;
  components = declared component_of earlier;
  texts = declared text_of earlier;
}

-- the same with one line more
abbrev pub with_declared : Declared → Line → Declared
with_declared d line = record {
  characteristics = with_option with_name d.characteristics (characteristic_of line);
  multiples = with_option with_name d.multiples (multiple_of line);
  classes = with_option with_name d.classes (class_of line);
  tables = with_option with_name d.tables (table_of line);
  objects = with_option with_name d.objects (object_of line);
  components = with_option with_name d.components (component_of line);
  texts = with_option with_name d.texts (text_of line);
}

-- the names of nets and dependencies
abbrev pub dependencies_in : List Line → Dependencies
dependencies_in earlier = record {
  nets = declared net_of earlier;
  all = declared dependency_of earlier;
  preconditions = declared (dependency_as kinds.Precondition) earlier;
  selections = declared (dependency_as kinds.Selection) earlier;
  procedures = declared (dependency_as kinds.Procedure) earlier;
  constraints = declared (dependency_as kinds.Constraint) earlier;
}

-- the same with one line more
abbrev pub with_dependencies : Dependencies → Line → Dependencies
with_dependencies d line = record {
  nets = with_option with_name d.nets (net_of line);
  all = with_option with_name d.all (dependency_of line);
  preconditions = with_option with_name d.preconditions (dependency_as kinds.Precondition line);
  selections = with_option with_name d.selections (dependency_as kinds.Selection line);
  procedures = with_option with_name d.procedures (dependency_as kinds.Procedure line);
  constraints = with_option with_name d.constraints (dependency_as kinds.Constraint line);
}
