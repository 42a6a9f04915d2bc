-- The model that the lines of a text without fault describe.
use Rattle.std.specs.Prelude.{ℕ, ◌+◌, Bool, false, List, [], ◌∷◌, Option, Some, None, option_map, unwrap_or}
use Rattle.std.specs.Prelude.{if◌then◌else◌}
use Rattle.std.specs.List.{cons_option}
use Rattle.vc_model_lines.specs.declared.line.Line.{Line}
use Rattle.vc_model_lines.specs.declared.line.Line.TheVariants as lines
use Rattle.vc_model_scope.specs.declared.scope.Scope.{Scope}
use Rattle.vc_model_scope.specs.Scope.{scope_of}
use Rattle.vc_model_scope.specs.Names.{place_of}
use Rattle.vc_model_scope.specs.Stands.{opens, ends_uses}
use Rattle.vc_model_scope.specs.Contents.{entry_within}
use Rattle.vc_model_faults.specs.First.{backwards}
use Rattle.vc_model_faults.specs.Readings.{dependency_read, term_read, reading}
use Rattle.vc_model_parts.specs.declared.parts.TextValue.{TextValue}
use Rattle.vc_model_parts.specs.declared.parts.NumberValue.{NumberValue}
use Rattle.vc_model_parts.specs.declared.parts.Values.TheVariants as values
use Rattle.vc_model_parts.specs.declared.parts.Characteristic.{Characteristic}
use Rattle.vc_model_parts.specs.declared.parts.Class.{Class}
use Rattle.vc_model_parts.specs.declared.parts.TableColumn.{TableColumn}
use Rattle.vc_model_parts.specs.declared.parts.Table.{Table}
use Rattle.vc_model_parts.specs.declared.parts.Net.{Net}
use Rattle.vc_model_parts.specs.declared.parts.Component.{Component}
use Rattle.vc_model_parts.specs.declared.parts.Component.TheVariants as components
use Rattle.vc_model_drafts.specs.Seen.{SeenDependency, SeenItem, SeenOperation, SeenObject, SeenModel}

-- what lines say, each with its number and the lines below it, up to one that ends this; the first has the number given
abbrev pub until : {X : Type 0} → (Line → Bool) → (ℕ → Line → List Line → Option X) → ℕ → List Line → List X
until ends say number [] = []
until ends say number (line ∷ below) = if ends line
    then [] else cons_option (say number line below) (until ends say (number + 1) below)

abbrev pub never : Line → Bool
never line = false

-- what all lines say
abbrev pub throughout : {X : Type 0} → (ℕ → Line → List Line → Option X) → ℕ → List Line → List X
throughout say number lines = until never say number lines

-- what the first line says that says something
abbrev pub first_said : {X : Type 0} → X → (Line → Option X) → List Line → X
first_said none say [] = none
first_said none say (line ∷ below) = unwrap_or (say line) (first_said none say below)

-- a name's number among those declared
abbrev pub number_of : List (List ℕ) → List ℕ → ℕ
number_of names name = unwrap_or (place_of names name) 0

-- in what follows the scope is that of the whole text

-- the dependency that a line uses
abbrev pub use_at : Scope → ℕ → Line → List Line → Option ℕ
use_at scope number (lines.Uses name) below = place_of scope.dependencies.all name
use_at scope number line below = None

-- the net that a line uses
abbrev pub net_use_at : Scope → ℕ → Line → List Line → Option ℕ
net_use_at scope number (lines.Uses name) below = place_of scope.dependencies.nets name
net_use_at scope number line below = None

-- the dependencies, and the nets, used by a line below which these stand
abbrev pub uses_below : Scope → ℕ → List Line → List ℕ
uses_below scope number below = until ends_uses (use_at scope) number below

abbrev pub nets_below : Scope → ℕ → List Line → List ℕ
nets_below scope number below = until ends_uses (net_use_at scope) number below

-- the text that a line lists as a value
abbrev pub text_at : Scope → ℕ → Line → List Line → Option TextValue
text_at scope number (lines.Text text) below =
    Some record { text = number_of scope.declared.texts text; uses = uses_below scope (number + 1) below }
text_at scope number line below = None

-- the numbers that a line lists as a value
abbrev pub number_at : Scope → ℕ → Line → List Line → Option NumberValue
number_at scope number (lines.Interval interval) below =
    option_map (λ entry. record { low = entry.low; high = entry.high; uses = uses_below scope (number + 1) below })
    (entry_within interval.low interval.high)
number_at scope number line below = None

-- the characteristic that a line gives to a class
abbrev pub member_at : Scope → ℕ → Line → List Line → Option ℕ
member_at scope number (lines.Has name) below = Some (number_of scope.declared.characteristics name)
member_at scope number line below = None

-- the column that a line gives to a table
abbrev pub column_at : Scope → ℕ → Line → List Line → Option TableColumn
column_at scope number (lines.Column column) below =
    Some record { characteristic = number_of scope.declared.characteristics column.characteristic; key = column.key }
column_at scope number line below = None

-- an object of this material, or a plain component
abbrev pub component_or : List ℕ → Option ℕ → Component
component_or material None = components.Plain material
component_or material (Some object) = components.Object object

-- the line of a bill
abbrev pub item_at : Scope → ℕ → Line → List Line → Option SeenItem
item_at scope number (lines.Bill bill) below = option_map (λ term. record {
  item = unwrap_or bill.item 0;
  component = component_or bill.material (place_of scope.declared.objects bill.material);
  unit = bill.unit;
  quantity = term;
  uses = uses_below scope (number + 1) below;
  line = number;
}) (term_read (reading (lines.Bill bill) below))
item_at scope number line below = None

-- the operation of an object
abbrev pub operation_at : Scope → ℕ → Line → List Line → Option SeenOperation
operation_at scope number (lines.Operation operation) below = option_map (λ term. record {
  number = unwrap_or operation.number 0;
  centre = operation.centre;
  unit = operation.unit;
  time = term;
  uses = uses_below scope (number + 1) below;
  line = number;
}) (term_read (reading (lines.Operation operation) below))
operation_at scope number line below = None

-- the characteristic that a line declares
abbrev pub characteristic_at : Scope → ℕ → Line → List Line → Option Characteristic
characteristic_at scope number (lines.Char char) below = Some record {
  name = char.name;
  restrictable = char.restrictable;
  required = char.required;
  uses = uses_below scope (number + 1) below;
  values = values.Texts (unwrap_or char.length 0) char.multiple (until opens (text_at scope) (number + 1) below);
}
characteristic_at scope number (lines.Num num) below = Some record {
  name = num.name;
  restrictable = num.restrictable;
  required = num.required;
  uses = uses_below scope (number + 1) below;
  values = values.Numbers (unwrap_or num.decimals 0) num.unit (until opens (number_at scope) (number + 1) below);
}
characteristic_at scope number line below = None

-- the class that a line declares
abbrev pub class_at : Scope → ℕ → Line → List Line → Option Class
class_at scope number (lines.Class name) below =
    Some record { name = name; members = until opens (member_at scope) (number + 1) below }
class_at scope number line below = None

-- the table that a line declares
abbrev pub table_at : Scope → ℕ → Line → List Line → Option Table
table_at scope number (lines.Table table) below =
    Some record { name = table.name; file = table.file; columns = until opens (column_at scope) (number + 1) below }
table_at scope number line below = None

-- the dependency whose block a line opens
abbrev pub dependency_at : Scope → ℕ → Line → List Line → Option SeenDependency
dependency_at scope number (lines.Block block) below = option_map (λ tree. record {
  name = block.name;
  tree = tree;
  line = number;
}) (dependency_read (reading (lines.Block block) below))
dependency_at scope number line below = None

-- the net that a line declares
abbrev pub net_at : Scope → ℕ → Line → List Line → Option Net
net_at scope number (lines.Net name) below =
    Some record { name = name; constraints = uses_below scope (number + 1) below }
net_at scope number line below = None

-- the object that a line declares
abbrev pub object_at : Scope → ℕ → Line → List Line → Option SeenObject
object_at scope number (lines.Object object) below = Some record {
  material = object.material;
  class = number_of scope.declared.classes object.class;
  nets = nets_below scope (number + 1) below;
  procedures = uses_below scope (number + 1) below;
  bill = until opens (item_at scope) (number + 1) below;
  operations = until opens (operation_at scope) (number + 1) below;
}
object_at scope number line below = None

-- the model's name and version, and its root
abbrev pub name_at : Line → Option (List ℕ)
name_at (lines.Head head) = Some head.name
name_at line = None

abbrev pub version_at : Line → Option ℕ
version_at (lines.Head head) = Some (unwrap_or head.version 0)
version_at line = None

abbrev pub root_at : Scope → Line → Option ℕ
root_at scope (lines.Root material) = Some (number_of scope.declared.objects material)
root_at scope line = None

-- the model that lines describe, by the scope of the whole text
abbrev pub model_by : Scope → List Line → SeenModel
model_by scope lines = record {
  name = first_said [] name_at lines;
  version = first_said 0 version_at lines;
  characteristics = throughout (characteristic_at scope) 1 lines;
  texts = scope.declared.texts;
  classes = throughout (class_at scope) 1 lines;
  tables = throughout (table_at scope) 1 lines;
  dependencies = throughout (dependency_at scope) 1 lines;
  nets = throughout (net_at scope) 1 lines;
  objects = throughout (object_at scope) 1 lines;
  root = first_said 0 (root_at scope) lines;
}

-- the model of a text's lines
abbrev pub model_of : List Line → SeenModel
model_of lines = model_by (scope_of (backwards [] lines)) lines
