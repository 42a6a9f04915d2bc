-- What lines tell, gathered from the last line to the first.
use Rattle.std.specs.Prelude.{◌≡◌, ℕ, List, [], ◌∷◌, map, Option, option_map, unwrap_or}
use Rattle.std.specs.List.{cons_option}
use Rattle.vc_model_lines.specs.declared.line.Line.{Line}
use Rattle.vc_model_lines.specs.declared.line.Line.TheVariants as lines
use Rattle.vc_model_scope.specs.declared.scope.Scope.{Scope}
use Rattle.vc_model_scope.specs.Names.{place_of}
use Rattle.vc_model_scope.specs.Stands.{opens}
use Rattle.vc_model_scope.specs.Contents.{entry_within}
use Rattle.vc_model_faults.specs.Readings.{Reading, dependency_read, term_read}
use Rattle.vc_model_parts.specs.declared.parts.Values.TheVariants as values
use Rattle.vc_model_parts.specs.declared.parts.TextValue.{TextValue}
use Rattle.vc_model_parts.specs.declared.parts.NumberValue.{NumberValue}
use Rattle.vc_model_parts.specs.declared.parts.Characteristic.{Characteristic}
use Rattle.vc_model_parts.specs.declared.parts.Class.{Class}
use Rattle.vc_model_parts.specs.declared.parts.TableColumn.{TableColumn}
use Rattle.vc_model_parts.specs.declared.parts.Table.{Table}
use Rattle.vc_model_parts.specs.declared.parts.Net.{Net}
use Rattle.vc_model_drafts.specs.declared.drafts.Below.{Below}
use Rattle.vc_model_drafts.specs.declared.drafts.Draft.{Draft}
use Rattle.vc_model_drafts.specs.Seen.{SeenDependency, SeenItem, SeenOperation, SeenObject, SeenModel, seen_dependency}
use Rattle.vc_model_drafts.specs.Seen.{seen_item, seen_operation, seen_object}
use Rattle.vc_model_drafts.specs.Models.{until, throughout, first_said, number_of, uses_below, nets_below, component_or}
use Rattle.vc_model_drafts.specs.Models.{text_at, number_at, member_at, column_at, item_at, operation_at}
use Rattle.vc_model_drafts.specs.Models.{characteristic_at, class_at, table_at, dependency_at, net_at, object_at}
use Rattle.vc_model_drafts.specs.Models.{name_at, version_at, root_at}

-- what belongs to a line that is still to come
pub record SeenBelow : Type 0 where
  pub texts : List TextValue
  pub numbers : List NumberValue
  pub members : List ℕ
  pub columns : List TableColumn
  pub items : List SeenItem
  pub operations : List SeenOperation

-- what the lines from some line on tell
pub record SeenDraft : Type 0 where
  pub name : List ℕ
  pub version : ℕ
  pub root : ℕ
  pub uses : List ℕ
  pub used_nets : List ℕ
  pub below : SeenBelow
  pub characteristics : List Characteristic
  pub classes : List Class
  pub tables : List Table
  pub dependencies : List SeenDependency
  pub nets : List Net
  pub objects : List SeenObject

-- the drafts that are kept in memory
abbrev pub seen_below : Below → SeenBelow
seen_below b = record {
  texts = b.texts;
  numbers = b.numbers;
  members = b.members;
  columns = b.columns;
  items = map seen_item b.items;
  operations = map seen_operation b.operations;
}

unfoldable pub seen_draft : Draft → SeenDraft
seen_draft d = record {
  name = d.name;
  version = d.version;
  root = d.root;
  uses = d.uses;
  used_nets = d.used_nets;
  below = seen_below d.below;
  characteristics = d.characteristics;
  classes = d.classes;
  tables = d.tables;
  dependencies = map seen_dependency d.dependencies;
  nets = d.nets;
  objects = map seen_object d.objects;
}

-- what belongs to a line below which these stand
abbrev pub below_of : Scope → ℕ → List Line → SeenBelow
below_of scope number below = record {
  texts = until opens (text_at scope) number below;
  numbers = until opens (number_at scope) number below;
  members = until opens (member_at scope) number below;
  columns = until opens (column_at scope) number below;
  items = until opens (item_at scope) number below;
  operations = until opens (operation_at scope) number below;
}

-- what lines tell, of which the first has the number
unfoldable pub draft_of : Scope → ℕ → List Line → SeenDraft
draft_of scope number lines = record {
  name = first_said [] name_at lines;
  version = first_said 0 version_at lines;
  root = first_said 0 (root_at scope) lines;
  uses = uses_below scope number lines;
  used_nets = nets_below scope number lines;
  below = below_of scope number lines;
  characteristics = throughout (characteristic_at scope) number lines;
  classes = throughout (class_at scope) number lines;
  tables = throughout (table_at scope) number lines;
  dependencies = throughout (dependency_at scope) number lines;
  nets = throughout (net_at scope) number lines;
  objects = throughout (object_at scope) number lines;
}

abbrev pub empty_below : Below
empty_below = record { texts = []; numbers = []; members = []; columns = []; items = []; operations = [] }

abbrev pub nothing_below : SeenBelow
nothing_below = record { texts = []; numbers = []; members = []; columns = []; items = []; operations = [] }

-- nothing is used above the lines any more
abbrev pub without_uses : SeenDraft → SeenDraft
without_uses d = record d { uses = []; used_nets = [] }

-- nor does anything belong to a line above them
abbrev pub closed : SeenDraft → SeenDraft
closed d = record d { uses = []; used_nets = []; below = nothing_below }

-- the same with a line in front, whose number is given and what it reads
unfoldable pub with_front : Scope → ℕ → Option Reading → Line → SeenDraft → SeenDraft
with_front scope number read lines.Skipped d = d
with_front scope number read (lines.Inner text) d = d
with_front scope number read lines.LongInner d = d
with_front scope number read lines.End d = d
with_front scope number read (lines.Uses name) d =
    record d {
      uses = cons_option (place_of scope.dependencies.all name) d.uses;
      used_nets =
          cons_option (place_of scope.dependencies.nets name) d.used_nets;
    }
with_front scope number read (lines.Text text) d =
    record (without_uses d) {
      below = record d.below
          { texts = (record { text = number_of scope.declared.texts text; uses = d.uses }) ∷ d.below.texts };
    }
with_front scope number read (lines.Interval interval) d =
    record (without_uses d) {
      below = record d.below {
        numbers = cons_option
            (option_map (λ entry. record { low = entry.low; high = entry.high; uses = d.uses })
            (entry_within interval.low interval.high)) d.below.numbers;
      };
    }
with_front scope number read (lines.Has name) d =
    record (without_uses d)
    { below = record d.below { members = number_of scope.declared.characteristics name ∷ d.below.members } }
with_front scope number read (lines.Column column) d =
    record (without_uses d) {
      below = record d.below {
        columns =
            (record {
              characteristic = number_of scope.declared.characteristics column.characteristic;
              key =
                  column.key;
            }) ∷ d.below.columns;
      };
    }
with_front scope number read (lines.Bill bill) d =
    record (without_uses d) {
      below = record d.below {
        items = cons_option (option_map (λ term. record {
          item = unwrap_or bill.item 0;
          component = component_or bill.material (place_of scope.declared.objects bill.material);
          unit = bill.unit;
          quantity = term;
          uses = d.uses;
          line = number;
        }) (term_read read)) d.below.items;
      };
    }
with_front scope number read (lines.Operation operation) d =
    record (without_uses d) {
      below = record d.below {
        operations = cons_option (option_map (λ term. record {
          number = unwrap_or operation.number 0;
          centre = operation.centre;
          unit = operation.unit;
          time = term;
          uses = d.uses;
          line = number;
        }) (term_read read)) d.below.operations;
      };
    }
with_front scope number read (lines.Char char) d =
    record (closed d) {
      characteristics = (record {
        name = char.name;
        restrictable = char.restrictable;
        required = char.required;
        uses = d.uses;
        values = values.Texts (unwrap_or char.length 0) char.multiple d.below.texts;
      }) ∷ d.characteristics;
    }
with_front scope number read (lines.Num num) d =
    record (closed d) {
      characteristics = (record {
        name = num.name;
        restrictable = num.restrictable;
        required = num.required;
        uses = d.uses;
        values = values.Numbers (unwrap_or num.decimals 0) num.unit d.below.numbers;
      }) ∷ d.characteristics;
    }
with_front scope number read (lines.Class name) d =
    record (closed d) { classes = (record { name = name; members = d.below.members }) ∷ d.classes }
with_front scope number read (lines.Table table) d =
    record (closed d) {
      tables = (record { name = table.name; file = table.file; columns = d.below.columns })
          ∷ d.tables;
    }
with_front scope number read (lines.Block block) d =
    record (closed d) {
      dependencies = cons_option (option_map (λ tree. record {
        name = block.name;
        tree = tree;
        line = number;
      }) (dependency_read read)) d.dependencies;
    }
with_front scope number read (lines.Net name) d =
    record (closed d) { nets = (record { name = name; constraints = d.uses }) ∷ d.nets }
with_front scope number read (lines.Object object) d =
    record (closed d) {
      objects = (record {
        material = object.material;
        class = number_of scope.declared.classes object.class;
        nets = d.used_nets;
        procedures = d.uses;
        bill = d.below.items;
        operations = d.below.operations;
      }) ∷ d.objects;
    }
with_front scope number read (lines.Head head) d =
    record (closed d) { name = head.name; version = unwrap_or head.version 0 }
with_front scope number read (lines.Root material) d =
    record (closed d) { root = number_of scope.declared.objects material }
with_front scope number read line d = closed d

-- in the draft that is kept in memory a line is put in front, whose number is given and what it reads
abbrev pub Puts : Scope → ℕ → Option Reading → Line → Draft → Draft → Type 0
Puts scope number read line old new = seen_draft new ≡ with_front scope number read line (seen_draft old)

-- the same for a line whose number and reading don't matter
abbrev pub PutsAny : Scope → Line → Draft → Draft → Type 0
PutsAny scope line old new = (number : ℕ) (read : Option Reading) → Puts scope number read line old new

-- the model of a draft, with the texts of the model
abbrev pub model_in : List (List ℕ) → SeenDraft → SeenModel
model_in texts d = record {
  name = d.name;
  version = d.version;
  characteristics = d.characteristics;
  texts = texts;
  classes = d.classes;
  tables = d.tables;
  dependencies = d.dependencies;
  nets = d.nets;
  objects = d.objects;
  root = d.root;
}
