-- A model with the trees of its dependencies and terms, without the places of their nodes in memory.
use Rattle.std.specs.Prelude.{ℕ, List, map}
use Rattle.vc_syntax_tree.specs.Trees.{Dependency, Term, dependency_of, term_of}
use Rattle.vc_model_parts.specs.declared.parts.Characteristic.{Characteristic}
use Rattle.vc_model_parts.specs.declared.parts.Class.{Class}
use Rattle.vc_model_parts.specs.declared.parts.Table.{Table}
use Rattle.vc_model_parts.specs.declared.parts.NamedDependency.{NamedDependency}
use Rattle.vc_model_parts.specs.declared.parts.Net.{Net}
use Rattle.vc_model_parts.specs.declared.parts.Component.{Component}
use Rattle.vc_model_parts.specs.declared.parts.BillItem.{BillItem}
use Rattle.vc_model_parts.specs.declared.parts.Operation.{Operation}
use Rattle.vc_model_parts.specs.declared.parts.Object.{Object}
use Rattle.vc_model_parts.specs.declared.parts.Model.{Model}

-- a dependency
pub record SeenDependency : Type 0 where
  pub name : List ℕ
  pub tree : Dependency
  pub line : ℕ

-- a line of a bill
pub record SeenItem : Type 0 where
  pub item : ℕ
  pub component : Component
  pub unit : List ℕ
  pub quantity : Term
  pub uses : List ℕ
  pub line : ℕ

-- an operation
pub record SeenOperation : Type 0 where
  pub number : ℕ
  pub centre : List ℕ
  pub unit : List ℕ
  pub time : Term
  pub uses : List ℕ
  pub line : ℕ

-- an object
pub record SeenObject : Type 0 where
  pub material : List ℕ
  pub class : ℕ
  pub nets : List ℕ
  pub procedures : List ℕ
  pub bill : List SeenItem
  pub operations : List SeenOperation

-- a model
pub record SeenModel : Type 0 where
  pub name : List ℕ
  pub version : ℕ
  pub characteristics : List Characteristic
  pub texts : List (List ℕ)
  pub classes : List Class
  pub tables : List Table
  pub dependencies : List SeenDependency
  pub nets : List Net
  pub objects : List SeenObject
  pub root : ℕ

abbrev pub seen_dependency : NamedDependency → SeenDependency
seen_dependency d = record { name = d.name; tree = dependency_of d.tree; line = d.line }

abbrev pub seen_item : BillItem → SeenItem
seen_item i = record {
  item = i.item;
  component = i.component;
  unit = i.unit;
  quantity = term_of i.quantity.value;
  uses = i.uses;
  line = i.line;
}

abbrev pub seen_operation : Operation → SeenOperation
seen_operation o = record {
  number = o.number;
  centre = o.centre;
  unit = o.unit;
  time = term_of o.time.value;
  uses = o.uses;
  line = o.line;
}

abbrev pub seen_object : Object → SeenObject
seen_object o = record {
  material = o.material;
  class = o.class;
  nets = o.nets;
  procedures = o.procedures;
  bill = map seen_item o.bill;
  operations = map seen_operation o.operations;
}

-- the model that is kept in memory
abbrev pub seen_model : Model → SeenModel
seen_model m = record {
  name = m.name;
  version = m.version;
  characteristics = m.characteristics;
  texts = m.texts;
  classes = m.classes;
  tables = m.tables;
  dependencies = map seen_dependency m.dependencies;
  nets = m.nets;
  objects = map seen_object m.objects;
  root = m.root;
}
