-- What a line makes of the model: for each part of a model the lines that make one.
use Rattle.std.proofs.Common.{◌≡◌, ℕ, ◌+◌, Bool, true, List, refl}
use Rattle.std.specs.Prelude.{unwrap_or}
use Rattle.vc_model_lines.specs.declared.line.Line.{Line}
use Rattle.vc_model_lines.specs.declared.line.Line.TheVariants as lines
use Rattle.vc_model_lines.specs.declared.line.BillLine.{BillLine}
use Rattle.vc_model_lines.specs.declared.line.BlockLine.{BlockLine}
use Rattle.vc_model_lines.specs.declared.line.CharLine.{CharLine}
use Rattle.vc_model_lines.specs.declared.line.ColumnLine.{ColumnLine}
use Rattle.vc_model_lines.specs.declared.line.IntervalLine.{IntervalLine}
use Rattle.vc_model_lines.specs.declared.line.NumLine.{NumLine}
use Rattle.vc_model_lines.specs.declared.line.ObjectLine.{ObjectLine}
use Rattle.vc_model_lines.specs.declared.line.OperationLine.{OperationLine}
use Rattle.vc_model_lines.specs.declared.line.TableLine.{TableLine}
use Rattle.vc_model_scope.specs.declared.entries.Interval.{Interval}
use Rattle.vc_model_scope.specs.declared.scope.Scope.{Scope}
use Rattle.vc_model_scope.specs.Names.{place_of}
use Rattle.vc_model_scope.specs.Stands.{opens}
use Rattle.vc_model_faults.specs.Readings.{dependency_read, term_read, reading}
use Rattle.vc_model_parts.specs.declared.parts.Characteristic.{Characteristic}
use Rattle.vc_model_parts.specs.declared.parts.Class.{Class}
use Rattle.vc_model_parts.specs.declared.parts.Net.{Net}
use Rattle.vc_model_parts.specs.declared.parts.NumberValue.{NumberValue}
use Rattle.vc_model_parts.specs.declared.parts.Table.{Table}
use Rattle.vc_model_parts.specs.declared.parts.TableColumn.{TableColumn}
use Rattle.vc_model_parts.specs.declared.parts.TextValue.{TextValue}
use Rattle.vc_model_parts.specs.declared.parts.Values.TheVariants as values
use Rattle.vc_model_drafts.specs.Models.{until, number_of, component_or, uses_below, nets_below, use_at, net_use_at}
use Rattle.vc_model_drafts.specs.Models.{text_at, number_at, member_at, column_at, item_at, operation_at}
use Rattle.vc_model_drafts.specs.Models.{characteristic_at, class_at, table_at, dependency_at, net_at, object_at}
use Rattle.vc_model_drafts.specs.Seen.{SeenDependency, SeenItem, SeenOperation, SeenObject}
use Rattle.vc_syntax_tree.specs.Trees.{Dependency, Term}
use Rattle.vc_model_laws.proofs.Holding.{each, each_map}
use Rattle.vc_model_laws.proofs.Walks.{Stands}

-- what lines make
abbrev pub char_made : Scope → ℕ → CharLine → List Line → Characteristic
char_made a n x below = record {
  name = x.name;
  restrictable = x.restrictable;
  required = x.required;
  uses = uses_below a (n + 1) below;
  values = values.Texts (unwrap_or x.length 0) x.multiple (until opens (text_at a) (n + 1) below);
}

abbrev pub num_made : Scope → ℕ → NumLine → List Line → Characteristic
num_made a n x below = record {
  name = x.name;
  restrictable = x.restrictable;
  required = x.required;
  uses = uses_below a (n + 1) below;
  values = values.Numbers (unwrap_or x.decimals 0) x.unit (until opens (number_at a) (n + 1) below);
}

abbrev pub class_made : Scope → ℕ → List ℕ → List Line → Class
class_made a n name below = record { name = name; members = until opens (member_at a) (n + 1) below }

abbrev pub table_made : Scope → ℕ → TableLine → List Line → Table
table_made a n x below = record { name = x.name; file = x.file; columns = until opens (column_at a) (n + 1) below }

abbrev pub dependency_made : ℕ → BlockLine → Dependency → SeenDependency
dependency_made n x tree = record { name = x.name; tree = tree; line = n }

abbrev pub net_made : Scope → ℕ → List ℕ → List Line → Net
net_made a n name below = record { name = name; constraints = uses_below a (n + 1) below }

abbrev pub object_made : Scope → ℕ → ObjectLine → List Line → SeenObject
object_made a n x below = record {
  material = x.material;
  class = number_of a.declared.classes x.class;
  nets = nets_below a (n + 1) below;
  procedures = uses_below a (n + 1) below;
  bill = until opens (item_at a) (n + 1) below;
  operations = until opens (operation_at a) (n + 1) below;
}

abbrev pub text_made : Scope → ℕ → List ℕ → List Line → TextValue
text_made a n text below = record { text = number_of a.declared.texts text; uses = uses_below a (n + 1) below }

abbrev pub number_with : List ℕ → Interval → NumberValue
number_with uses entry = record { low = entry.low; high = entry.high; uses = uses }

abbrev pub column_made : Scope → ColumnLine → TableColumn
column_made a x = record { characteristic = number_of a.declared.characteristics x.characteristic; key = x.key }

abbrev pub item_made : Scope → ℕ → BillLine → List Line → Term → SeenItem
item_made a n x below term = record {
  item = unwrap_or x.item 0;
  component = component_or x.material (place_of a.declared.objects x.material);
  unit = x.unit;
  quantity = term;
  uses = uses_below a (n + 1) below;
  line = n;
}

abbrev pub operation_made : Scope → ℕ → OperationLine → List Line → Term → SeenOperation
operation_made a n x below term = record {
  number = unwrap_or x.number 0;
  centre = x.centre;
  unit = x.unit;
  time = term;
  uses = uses_below a (n + 1) below;
  line = n;
}

-- what passes a test wherever a line makes it
pub at_characteristic : (all earlier : List Line) (a : Scope) (n : ℕ) (line : Line) (below : List Line)
    (test : Characteristic → Bool)
    → ((x : CharLine) → Stands all earlier (lines.Char x) below → test (char_made a n x below) ≡ true)
    → ((x : NumLine) → Stands all earlier (lines.Num x) below → test (num_made a n x below) ≡ true)
    → Stands all earlier line below → each test (characteristic_at a n line below) ≡ true
at_characteristic all earlier a n lines.Skipped below test h0 h1 s = refl
at_characteristic all earlier a n (lines.Inner x) below test h0 h1 s = refl
at_characteristic all earlier a n lines.LongInner below test h0 h1 s = refl
at_characteristic all earlier a n lines.End below test h0 h1 s = refl
at_characteristic all earlier a n (lines.TooLong x) below test h0 h1 s = refl
at_characteristic all earlier a n (lines.NoForm x) below test h0 h1 s = refl
at_characteristic all earlier a n (lines.Head x) below test h0 h1 s = refl
at_characteristic all earlier a n (lines.Char x) below test h0 h1 s = h0 x s
at_characteristic all earlier a n (lines.Num x) below test h0 h1 s = h1 x s
at_characteristic all earlier a n (lines.Text x) below test h0 h1 s = refl
at_characteristic all earlier a n (lines.Interval x) below test h0 h1 s = refl
at_characteristic all earlier a n (lines.Uses x) below test h0 h1 s = refl
at_characteristic all earlier a n (lines.Class x) below test h0 h1 s = refl
at_characteristic all earlier a n (lines.Has x) below test h0 h1 s = refl
at_characteristic all earlier a n (lines.Table x) below test h0 h1 s = refl
at_characteristic all earlier a n (lines.Column x) below test h0 h1 s = refl
at_characteristic all earlier a n (lines.Net x) below test h0 h1 s = refl
at_characteristic all earlier a n (lines.Object x) below test h0 h1 s = refl
at_characteristic all earlier a n (lines.Bill x) below test h0 h1 s = refl
at_characteristic all earlier a n (lines.Operation x) below test h0 h1 s = refl
at_characteristic all earlier a n (lines.Block x) below test h0 h1 s = refl
at_characteristic all earlier a n (lines.Root x) below test h0 h1 s = refl
at_characteristic all earlier a n lines.Action below test h0 h1 s = refl

pub at_class : (all earlier : List Line) (a : Scope) (n : ℕ) (line : Line) (below : List Line) (test : Class → Bool)
    → ((x : List ℕ) → Stands all earlier (lines.Class x) below → test (class_made a n x below) ≡ true)
    → Stands all earlier line below → each test (class_at a n line below) ≡ true
at_class all earlier a n lines.Skipped below test h s = refl
at_class all earlier a n (lines.Inner x) below test h s = refl
at_class all earlier a n lines.LongInner below test h s = refl
at_class all earlier a n lines.End below test h s = refl
at_class all earlier a n (lines.TooLong x) below test h s = refl
at_class all earlier a n (lines.NoForm x) below test h s = refl
at_class all earlier a n (lines.Head x) below test h s = refl
at_class all earlier a n (lines.Char x) below test h s = refl
at_class all earlier a n (lines.Num x) below test h s = refl
at_class all earlier a n (lines.Text x) below test h s = refl
at_class all earlier a n (lines.Interval x) below test h s = refl
at_class all earlier a n (lines.Uses x) below test h s = refl
at_class all earlier a n (lines.Class x) below test h s = h x s
at_class all earlier a n (lines.Has x) below test h s = refl
at_class all earlier a n (lines.Table x) below test h s = refl
at_class all earlier a n (lines.Column x) below test h s = refl
at_class all earlier a n (lines.Net x) below test h s = refl
at_class all earlier a n (lines.Object x) below test h s = refl
at_class all earlier a n (lines.Bill x) below test h s = refl
at_class all earlier a n (lines.Operation x) below test h s = refl
at_class all earlier a n (lines.Block x) below test h s = refl
at_class all earlier a n (lines.Root x) below test h s = refl
at_class all earlier a n lines.Action below test h s = refl

pub at_table : (all earlier : List Line) (a : Scope) (n : ℕ) (line : Line) (below : List Line) (test : Table → Bool)
    → ((x : TableLine) → Stands all earlier (lines.Table x) below → test (table_made a n x below) ≡ true)
    → Stands all earlier line below → each test (table_at a n line below) ≡ true
at_table all earlier a n lines.Skipped below test h s = refl
at_table all earlier a n (lines.Inner x) below test h s = refl
at_table all earlier a n lines.LongInner below test h s = refl
at_table all earlier a n lines.End below test h s = refl
at_table all earlier a n (lines.TooLong x) below test h s = refl
at_table all earlier a n (lines.NoForm x) below test h s = refl
at_table all earlier a n (lines.Head x) below test h s = refl
at_table all earlier a n (lines.Char x) below test h s = refl
at_table all earlier a n (lines.Num x) below test h s = refl
at_table all earlier a n (lines.Text x) below test h s = refl
at_table all earlier a n (lines.Interval x) below test h s = refl
at_table all earlier a n (lines.Uses x) below test h s = refl
at_table all earlier a n (lines.Class x) below test h s = refl
at_table all earlier a n (lines.Has x) below test h s = refl
at_table all earlier a n (lines.Table x) below test h s = h x s
at_table all earlier a n (lines.Column x) below test h s = refl
at_table all earlier a n (lines.Net x) below test h s = refl
at_table all earlier a n (lines.Object x) below test h s = refl
at_table all earlier a n (lines.Bill x) below test h s = refl
at_table all earlier a n (lines.Operation x) below test h s = refl
at_table all earlier a n (lines.Block x) below test h s = refl
at_table all earlier a n (lines.Root x) below test h s = refl
at_table all earlier a n lines.Action below test h s = refl

pub at_net : (all earlier : List Line) (a : Scope) (n : ℕ) (line : Line) (below : List Line) (test : Net → Bool)
    → ((x : List ℕ) → Stands all earlier (lines.Net x) below → test (net_made a n x below) ≡ true)
    → Stands all earlier line below → each test (net_at a n line below) ≡ true
at_net all earlier a n lines.Skipped below test h s = refl
at_net all earlier a n (lines.Inner x) below test h s = refl
at_net all earlier a n lines.LongInner below test h s = refl
at_net all earlier a n lines.End below test h s = refl
at_net all earlier a n (lines.TooLong x) below test h s = refl
at_net all earlier a n (lines.NoForm x) below test h s = refl
at_net all earlier a n (lines.Head x) below test h s = refl
at_net all earlier a n (lines.Char x) below test h s = refl
at_net all earlier a n (lines.Num x) below test h s = refl
at_net all earlier a n (lines.Text x) below test h s = refl
at_net all earlier a n (lines.Interval x) below test h s = refl
at_net all earlier a n (lines.Uses x) below test h s = refl
at_net all earlier a n (lines.Class x) below test h s = refl
at_net all earlier a n (lines.Has x) below test h s = refl
at_net all earlier a n (lines.Table x) below test h s = refl
at_net all earlier a n (lines.Column x) below test h s = refl
at_net all earlier a n (lines.Net x) below test h s = h x s
at_net all earlier a n (lines.Object x) below test h s = refl
at_net all earlier a n (lines.Bill x) below test h s = refl
at_net all earlier a n (lines.Operation x) below test h s = refl
at_net all earlier a n (lines.Block x) below test h s = refl
at_net all earlier a n (lines.Root x) below test h s = refl
at_net all earlier a n lines.Action below test h s = refl

pub at_object : (all earlier : List Line) (a : Scope) (n : ℕ) (line : Line) (below : List Line)
    (test : SeenObject → Bool)
    → ((x : ObjectLine) → Stands all earlier (lines.Object x) below → test (object_made a n x below) ≡ true)
    → Stands all earlier line below → each test (object_at a n line below) ≡ true
at_object all earlier a n lines.Skipped below test h s = refl
at_object all earlier a n (lines.Inner x) below test h s = refl
at_object all earlier a n lines.LongInner below test h s = refl
at_object all earlier a n lines.End below test h s = refl
at_object all earlier a n (lines.TooLong x) below test h s = refl
at_object all earlier a n (lines.NoForm x) below test h s = refl
at_object all earlier a n (lines.Head x) below test h s = refl
at_object all earlier a n (lines.Char x) below test h s = refl
at_object all earlier a n (lines.Num x) below test h s = refl
at_object all earlier a n (lines.Text x) below test h s = refl
at_object all earlier a n (lines.Interval x) below test h s = refl
at_object all earlier a n (lines.Uses x) below test h s = refl
at_object all earlier a n (lines.Class x) below test h s = refl
at_object all earlier a n (lines.Has x) below test h s = refl
at_object all earlier a n (lines.Table x) below test h s = refl
at_object all earlier a n (lines.Column x) below test h s = refl
at_object all earlier a n (lines.Net x) below test h s = refl
at_object all earlier a n (lines.Object x) below test h s = h x s
at_object all earlier a n (lines.Bill x) below test h s = refl
at_object all earlier a n (lines.Operation x) below test h s = refl
at_object all earlier a n (lines.Block x) below test h s = refl
at_object all earlier a n (lines.Root x) below test h s = refl
at_object all earlier a n lines.Action below test h s = refl

pub at_dependency : (all earlier : List Line) (a : Scope) (n : ℕ) (line : Line) (below : List Line)
    (test : SeenDependency → Bool)
    → ((x : BlockLine) → Stands all earlier (lines.Block x) below → (tree : Dependency)
    → test (dependency_made n x tree) ≡ true)
    → Stands all earlier line below → each test (dependency_at a n line below) ≡ true
at_dependency all earlier a n lines.Skipped below test h s = refl
at_dependency all earlier a n (lines.Inner x) below test h s = refl
at_dependency all earlier a n lines.LongInner below test h s = refl
at_dependency all earlier a n lines.End below test h s = refl
at_dependency all earlier a n (lines.TooLong x) below test h s = refl
at_dependency all earlier a n (lines.NoForm x) below test h s = refl
at_dependency all earlier a n (lines.Head x) below test h s = refl
at_dependency all earlier a n (lines.Char x) below test h s = refl
at_dependency all earlier a n (lines.Num x) below test h s = refl
at_dependency all earlier a n (lines.Text x) below test h s = refl
at_dependency all earlier a n (lines.Interval x) below test h s = refl
at_dependency all earlier a n (lines.Uses x) below test h s = refl
at_dependency all earlier a n (lines.Class x) below test h s = refl
at_dependency all earlier a n (lines.Has x) below test h s = refl
at_dependency all earlier a n (lines.Table x) below test h s = refl
at_dependency all earlier a n (lines.Column x) below test h s = refl
at_dependency all earlier a n (lines.Net x) below test h s = refl
at_dependency all earlier a n (lines.Object x) below test h s = refl
at_dependency all earlier a n (lines.Bill x) below test h s = refl
at_dependency all earlier a n (lines.Operation x) below test h s = refl
at_dependency all earlier a n (lines.Block x) below test h s =
    each_map test (dependency_made n x) (dependency_read (reading (lines.Block x) below)) (h x s)
at_dependency all earlier a n (lines.Root x) below test h s = refl
at_dependency all earlier a n lines.Action below test h s = refl

pub at_item : (all earlier : List Line) (a : Scope) (n : ℕ) (line : Line) (below : List Line) (test : SeenItem → Bool)
    → ((x : BillLine) → Stands all earlier (lines.Bill x) below → (term : Term)
    → test (item_made a n x below term) ≡ true)
    → Stands all earlier line below → each test (item_at a n line below) ≡ true
at_item all earlier a n lines.Skipped below test h s = refl
at_item all earlier a n (lines.Inner x) below test h s = refl
at_item all earlier a n lines.LongInner below test h s = refl
at_item all earlier a n lines.End below test h s = refl
at_item all earlier a n (lines.TooLong x) below test h s = refl
at_item all earlier a n (lines.NoForm x) below test h s = refl
at_item all earlier a n (lines.Head x) below test h s = refl
at_item all earlier a n (lines.Char x) below test h s = refl
at_item all earlier a n (lines.Num x) below test h s = refl
at_item all earlier a n (lines.Text x) below test h s = refl
at_item all earlier a n (lines.Interval x) below test h s = refl
at_item all earlier a n (lines.Uses x) below test h s = refl
at_item all earlier a n (lines.Class x) below test h s = refl
at_item all earlier a n (lines.Has x) below test h s = refl
at_item all earlier a n (lines.Table x) below test h s = refl
at_item all earlier a n (lines.Column x) below test h s = refl
at_item all earlier a n (lines.Net x) below test h s = refl
at_item all earlier a n (lines.Object x) below test h s = refl
at_item all earlier a n (lines.Bill x) below test h s =
    each_map test (item_made a n x below) (term_read (reading (lines.Bill x) below)) (h x s)
at_item all earlier a n (lines.Operation x) below test h s = refl
at_item all earlier a n (lines.Block x) below test h s = refl
at_item all earlier a n (lines.Root x) below test h s = refl
at_item all earlier a n lines.Action below test h s = refl

pub at_operation : (all earlier : List Line) (a : Scope) (n : ℕ) (line : Line) (below : List Line)
    (test : SeenOperation → Bool)
    → ((x : OperationLine) → Stands all earlier (lines.Operation x) below → (term : Term)
    → test (operation_made a n x below term) ≡ true)
    → Stands all earlier line below → each test (operation_at a n line below) ≡ true
at_operation all earlier a n lines.Skipped below test h s = refl
at_operation all earlier a n (lines.Inner x) below test h s = refl
at_operation all earlier a n lines.LongInner below test h s = refl
at_operation all earlier a n lines.End below test h s = refl
at_operation all earlier a n (lines.TooLong x) below test h s = refl
at_operation all earlier a n (lines.NoForm x) below test h s = refl
at_operation all earlier a n (lines.Head x) below test h s = refl
at_operation all earlier a n (lines.Char x) below test h s = refl
at_operation all earlier a n (lines.Num x) below test h s = refl
at_operation all earlier a n (lines.Text x) below test h s = refl
at_operation all earlier a n (lines.Interval x) below test h s = refl
at_operation all earlier a n (lines.Uses x) below test h s = refl
at_operation all earlier a n (lines.Class x) below test h s = refl
at_operation all earlier a n (lines.Has x) below test h s = refl
at_operation all earlier a n (lines.Table x) below test h s = refl
at_operation all earlier a n (lines.Column x) below test h s = refl
at_operation all earlier a n (lines.Net x) below test h s = refl
at_operation all earlier a n (lines.Object x) below test h s = refl
at_operation all earlier a n (lines.Bill x) below test h s = refl
at_operation all earlier a n (lines.Operation x) below test h s =
    each_map test (operation_made a n x below) (term_read (reading (lines.Operation x) below)) (h x s)
at_operation all earlier a n (lines.Block x) below test h s = refl
at_operation all earlier a n (lines.Root x) below test h s = refl
at_operation all earlier a n lines.Action below test h s = refl

pub at_text : (all earlier : List Line) (a : Scope) (n : ℕ) (line : Line) (below : List Line) (test : TextValue → Bool)
    → ((x : List ℕ) → Stands all earlier (lines.Text x) below → test (text_made a n x below) ≡ true)
    → Stands all earlier line below → each test (text_at a n line below) ≡ true
at_text all earlier a n lines.Skipped below test h s = refl
at_text all earlier a n (lines.Inner x) below test h s = refl
at_text all earlier a n lines.LongInner below test h s = refl
at_text all earlier a n lines.End below test h s = refl
at_text all earlier a n (lines.TooLong x) below test h s = refl
at_text all earlier a n (lines.NoForm x) below test h s = refl
at_text all earlier a n (lines.Head x) below test h s = refl
at_text all earlier a n (lines.Char x) below test h s = refl
at_text all earlier a n (lines.Num x) below test h s = refl
at_text all earlier a n (lines.Text x) below test h s = h x s
at_text all earlier a n (lines.Interval x) below test h s = refl
at_text all earlier a n (lines.Uses x) below test h s = refl
at_text all earlier a n (lines.Class x) below test h s = refl
at_text all earlier a n (lines.Has x) below test h s = refl
at_text all earlier a n (lines.Table x) below test h s = refl
at_text all earlier a n (lines.Column x) below test h s = refl
at_text all earlier a n (lines.Net x) below test h s = refl
at_text all earlier a n (lines.Object x) below test h s = refl
at_text all earlier a n (lines.Bill x) below test h s = refl
at_text all earlier a n (lines.Operation x) below test h s = refl
at_text all earlier a n (lines.Block x) below test h s = refl
at_text all earlier a n (lines.Root x) below test h s = refl
at_text all earlier a n lines.Action below test h s = refl

pub at_member : (all earlier : List Line) (a : Scope) (n : ℕ) (line : Line) (below : List Line) (test : ℕ → Bool)
    → ((x : List ℕ) → Stands all earlier (lines.Has x) below → test (number_of a.declared.characteristics x) ≡ true)
    → Stands all earlier line below → each test (member_at a n line below) ≡ true
at_member all earlier a n lines.Skipped below test h s = refl
at_member all earlier a n (lines.Inner x) below test h s = refl
at_member all earlier a n lines.LongInner below test h s = refl
at_member all earlier a n lines.End below test h s = refl
at_member all earlier a n (lines.TooLong x) below test h s = refl
at_member all earlier a n (lines.NoForm x) below test h s = refl
at_member all earlier a n (lines.Head x) below test h s = refl
at_member all earlier a n (lines.Char x) below test h s = refl
at_member all earlier a n (lines.Num x) below test h s = refl
at_member all earlier a n (lines.Text x) below test h s = refl
at_member all earlier a n (lines.Interval x) below test h s = refl
at_member all earlier a n (lines.Uses x) below test h s = refl
at_member all earlier a n (lines.Class x) below test h s = refl
at_member all earlier a n (lines.Has x) below test h s = h x s
at_member all earlier a n (lines.Table x) below test h s = refl
at_member all earlier a n (lines.Column x) below test h s = refl
at_member all earlier a n (lines.Net x) below test h s = refl
at_member all earlier a n (lines.Object x) below test h s = refl
at_member all earlier a n (lines.Bill x) below test h s = refl
at_member all earlier a n (lines.Operation x) below test h s = refl
at_member all earlier a n (lines.Block x) below test h s = refl
at_member all earlier a n (lines.Root x) below test h s = refl
at_member all earlier a n lines.Action below test h s = refl

pub at_column : (all earlier : List Line) (a : Scope) (n : ℕ) (line : Line) (below : List Line)
    (test : TableColumn → Bool)
    → ((x : ColumnLine) → Stands all earlier (lines.Column x) below → test (column_made a x) ≡ true)
    → Stands all earlier line below → each test (column_at a n line below) ≡ true
at_column all earlier a n lines.Skipped below test h s = refl
at_column all earlier a n (lines.Inner x) below test h s = refl
at_column all earlier a n lines.LongInner below test h s = refl
at_column all earlier a n lines.End below test h s = refl
at_column all earlier a n (lines.TooLong x) below test h s = refl
at_column all earlier a n (lines.NoForm x) below test h s = refl
at_column all earlier a n (lines.Head x) below test h s = refl
at_column all earlier a n (lines.Char x) below test h s = refl
at_column all earlier a n (lines.Num x) below test h s = refl
at_column all earlier a n (lines.Text x) below test h s = refl
at_column all earlier a n (lines.Interval x) below test h s = refl
at_column all earlier a n (lines.Uses x) below test h s = refl
at_column all earlier a n (lines.Class x) below test h s = refl
at_column all earlier a n (lines.Has x) below test h s = refl
at_column all earlier a n (lines.Table x) below test h s = refl
at_column all earlier a n (lines.Column x) below test h s = h x s
at_column all earlier a n (lines.Net x) below test h s = refl
at_column all earlier a n (lines.Object x) below test h s = refl
at_column all earlier a n (lines.Bill x) below test h s = refl
at_column all earlier a n (lines.Operation x) below test h s = refl
at_column all earlier a n (lines.Block x) below test h s = refl
at_column all earlier a n (lines.Root x) below test h s = refl
at_column all earlier a n lines.Action below test h s = refl

pub at_use : (all earlier : List Line) (a : Scope) (n : ℕ) (line : Line) (below : List Line) (test : ℕ → Bool)
    → ((x : List ℕ) → Stands all earlier (lines.Uses x) below → each test (place_of a.dependencies.all x) ≡ true)
    → Stands all earlier line below → each test (use_at a n line below) ≡ true
at_use all earlier a n lines.Skipped below test h s = refl
at_use all earlier a n (lines.Inner x) below test h s = refl
at_use all earlier a n lines.LongInner below test h s = refl
at_use all earlier a n lines.End below test h s = refl
at_use all earlier a n (lines.TooLong x) below test h s = refl
at_use all earlier a n (lines.NoForm x) below test h s = refl
at_use all earlier a n (lines.Head x) below test h s = refl
at_use all earlier a n (lines.Char x) below test h s = refl
at_use all earlier a n (lines.Num x) below test h s = refl
at_use all earlier a n (lines.Text x) below test h s = refl
at_use all earlier a n (lines.Interval x) below test h s = refl
at_use all earlier a n (lines.Uses x) below test h s = h x s
at_use all earlier a n (lines.Class x) below test h s = refl
at_use all earlier a n (lines.Has x) below test h s = refl
at_use all earlier a n (lines.Table x) below test h s = refl
at_use all earlier a n (lines.Column x) below test h s = refl
at_use all earlier a n (lines.Net x) below test h s = refl
at_use all earlier a n (lines.Object x) below test h s = refl
at_use all earlier a n (lines.Bill x) below test h s = refl
at_use all earlier a n (lines.Operation x) below test h s = refl
at_use all earlier a n (lines.Block x) below test h s = refl
at_use all earlier a n (lines.Root x) below test h s = refl
at_use all earlier a n lines.Action below test h s = refl

pub at_net_use : (all earlier : List Line) (a : Scope) (n : ℕ) (line : Line) (below : List Line) (test : ℕ → Bool)
    → ((x : List ℕ) → Stands all earlier (lines.Uses x) below → each test (place_of a.dependencies.nets x) ≡ true)
    → Stands all earlier line below → each test (net_use_at a n line below) ≡ true
at_net_use all earlier a n lines.Skipped below test h s = refl
at_net_use all earlier a n (lines.Inner x) below test h s = refl
at_net_use all earlier a n lines.LongInner below test h s = refl
at_net_use all earlier a n lines.End below test h s = refl
at_net_use all earlier a n (lines.TooLong x) below test h s = refl
at_net_use all earlier a n (lines.NoForm x) below test h s = refl
at_net_use all earlier a n (lines.Head x) below test h s = refl
at_net_use all earlier a n (lines.Char x) below test h s = refl
at_net_use all earlier a n (lines.Num x) below test h s = refl
at_net_use all earlier a n (lines.Text x) below test h s = refl
at_net_use all earlier a n (lines.Interval x) below test h s = refl
at_net_use all earlier a n (lines.Uses x) below test h s = h x s
at_net_use all earlier a n (lines.Class x) below test h s = refl
at_net_use all earlier a n (lines.Has x) below test h s = refl
at_net_use all earlier a n (lines.Table x) below test h s = refl
at_net_use all earlier a n (lines.Column x) below test h s = refl
at_net_use all earlier a n (lines.Net x) below test h s = refl
at_net_use all earlier a n (lines.Object x) below test h s = refl
at_net_use all earlier a n (lines.Bill x) below test h s = refl
at_net_use all earlier a n (lines.Operation x) below test h s = refl
at_net_use all earlier a n (lines.Block x) below test h s = refl
at_net_use all earlier a n (lines.Root x) below test h s = refl
at_net_use all earlier a n lines.Action below test h s = refl

pub at_number : (all earlier : List Line) (a : Scope) (n : ℕ) (line : Line) (below : List Line)
    (test : NumberValue → Bool)
    → ((x : IntervalLine) → Stands all earlier (lines.Interval x) below
    → each test (number_at a n (lines.Interval x) below) ≡ true)
    → Stands all earlier line below → each test (number_at a n line below) ≡ true
at_number all earlier a n lines.Skipped below test h s = refl
at_number all earlier a n (lines.Inner x) below test h s = refl
at_number all earlier a n lines.LongInner below test h s = refl
at_number all earlier a n lines.End below test h s = refl
at_number all earlier a n (lines.TooLong x) below test h s = refl
at_number all earlier a n (lines.NoForm x) below test h s = refl
at_number all earlier a n (lines.Head x) below test h s = refl
at_number all earlier a n (lines.Char x) below test h s = refl
at_number all earlier a n (lines.Num x) below test h s = refl
at_number all earlier a n (lines.Text x) below test h s = refl
at_number all earlier a n (lines.Interval x) below test h s = h x s
at_number all earlier a n (lines.Uses x) below test h s = refl
at_number all earlier a n (lines.Class x) below test h s = refl
at_number all earlier a n (lines.Has x) below test h s = refl
at_number all earlier a n (lines.Table x) below test h s = refl
at_number all earlier a n (lines.Column x) below test h s = refl
at_number all earlier a n (lines.Net x) below test h s = refl
at_number all earlier a n (lines.Object x) below test h s = refl
at_number all earlier a n (lines.Bill x) below test h s = refl
at_number all earlier a n (lines.Operation x) below test h s = refl
at_number all earlier a n (lines.Block x) below test h s = refl
at_number all earlier a n (lines.Root x) below test h s = refl
at_number all earlier a n lines.Action below test h s = refl
