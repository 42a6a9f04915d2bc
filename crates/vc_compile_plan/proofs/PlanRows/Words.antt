-- Short words for models and their trees.
use Rattle.std.proofs.Common.{◌≡◌, ◌+◌, suc, arith, ℕ, pos, ◌*◌, false, Bool, List, [], ◌∷◌}
use Rattle.std.specs.Prelude.{Option, None, Some, Box, codes}
use Rattle.std.specs.declared.alloc.Global.{Global}
use Rattle.vc_value.specs.declared.decimal.Dec.{Dec}
use Rattle.vc_value.specs.declared.value.Value.{Value}
use Rattle.vc_model_parts.specs.declared.parts.BillItem.{BillItem}
use Rattle.vc_model_parts.specs.declared.parts.Characteristic.{Characteristic}
use Rattle.vc_model_parts.specs.declared.parts.Class.{Class}
use Rattle.vc_model_parts.specs.declared.parts.Component.{Component}
use Rattle.vc_model_parts.specs.declared.parts.Model.{Model}
use Rattle.vc_model_parts.specs.declared.parts.NamedDependency.{NamedDependency}
use Rattle.vc_model_parts.specs.declared.parts.Net.{Net}
use Rattle.vc_model_parts.specs.declared.parts.NumberValue.{NumberValue}
use Rattle.vc_model_parts.specs.declared.parts.Object as configurable
use Rattle.vc_model_parts.specs.declared.parts.TableColumn.{TableColumn}
use Rattle.vc_model_parts.specs.declared.parts.TextValue.{TextValue}
use Rattle.vc_model_parts.specs.declared.parts.Values.{Values}
use Rattle.vc_model_parts.specs.declared.parts.Values.TheVariants as values
use Rattle.vc_syntax_tree.specs.declared.Action as doing
use Rattle.vc_syntax_tree.specs.declared.Binding.{Binding}
use Rattle.vc_syntax_tree.specs.declared.Condition as asking
use Rattle.vc_syntax_tree.specs.declared.Condition.TheVariants as conditions
use Rattle.vc_syntax_tree.specs.declared.Demand as demanding
use Rattle.vc_syntax_tree.specs.declared.Dependency as depending
use Rattle.vc_syntax_tree.specs.declared.Dependency.TheVariants as dependencies
use Rattle.vc_syntax_tree.specs.declared.NameLeaf.{NameLeaf}
use Rattle.vc_syntax_tree.specs.declared.Object.{Object}
use Rattle.vc_syntax_tree.specs.declared.ObjectKind.TheVariants as kinds
use Rattle.vc_syntax_tree.specs.declared.Operand.{Operand}
use Rattle.vc_syntax_tree.specs.declared.Operand.TheVariants.{Plain, Owned, Member}
use Rattle.vc_syntax_tree.specs.declared.Owner.TheVariants.{Itself}
use Rattle.vc_syntax_tree.specs.declared.Relation as relating
use Rattle.vc_syntax_tree.specs.declared.Relation.TheVariants as relations
use Rattle.vc_syntax_tree.specs.declared.Relator.{Relator}
use Rattle.vc_syntax_tree.specs.declared.Restriction.{Restriction}
use Rattle.vc_syntax_tree.specs.declared.Statement.{Statement}
use Rattle.vc_syntax_tree.specs.declared.TableCall.{TableCall}
use Rattle.vc_syntax_tree.specs.declared.Term as counting
use Rattle.vc_syntax_tree.specs.declared.Term.TheVariants as terms
use Rattle.vc_table.specs.declared.table.Row.{Row}
use Rattle.vc_table.specs.declared.table.VariantTable.{VariantTable}
use Rattle.vc_compile_plan.specs.Trees.{Spot}

-- a number isn't a larger one
pub apart : (m k : ℕ) → m + suc k ≡ m → ⊥
apart m k e = omega arith

-- where the parts of a model's trees stand in memory, which nothing depends on
pub record Spots : Type 0 where
  pub node : Spot
  pub term : Box counting.Term Global
  pub condition : Box asking.Condition Global

abbrev pub term_box : Spots → counting.Term → Box counting.Term Global
term_box p term = record p.term { value = term }

abbrev pub condition_box : Spots → asking.Condition → Box asking.Condition Global
condition_box p condition = record p.condition { value = condition }

-- leaves
abbrev pub leaf : List ℕ → NameLeaf
leaf name = record { name = name; start = 0; end = 0 }

abbrev pub millionths : ℕ → Dec
millionths n = record { millionths = pos n }

abbrev pub text : List ℕ → counting.Term
text bytes = terms.Text (record { text = bytes; start = 0; end = 0 })

abbrev pub number : ℕ → counting.Term
number n = terms.Number (record { number = millionths n; start = 0; end = 0 })

abbrev pub whole : ℕ → counting.Term
whole n = number (n * 1_000_000)

abbrev pub plain : List ℕ → counting.Term
plain name = terms.Operand (Plain (leaf name))

abbrev pub own : List ℕ → counting.Term
own name = terms.Operand (Owned Itself (leaf name))

abbrev pub member : List ℕ → List ℕ → counting.Term
member x name = terms.Operand (Member (leaf x) (leaf name))

-- relations and conditions
abbrev pub relation : Spots → counting.Term → Relator → counting.Term → relating.Relation
relation p left relator right = relations.Compared (term_box p left) relator (term_box p right)

abbrev pub asks : Spots → counting.Term → Relator → counting.Term → asking.Condition
asks p left relator right = conditions.Relation (relation p left relator right)

abbrev pub both : Spots → asking.Condition → asking.Condition → asking.Condition
both p left right = conditions.And' p.node left p.node right

-- constraints
abbrev pub of_class : List ℕ → List ℕ → Object
of_class x class = record { variable = leaf x; kind = kinds.Class (leaf class); aliases = [] }

abbrev pub binds : Spots → List ℕ → counting.Term → Binding
binds p column term = record { column = leaf column; value = term_box p term }

abbrev pub calls : List ℕ → List Binding → TableCall
calls table bindings = record { table = leaf table; bindings = bindings }

abbrev pub always : demanding.Demand → Restriction
always demand = record { demand = demand; condition = None }

abbrev pub where_true : Spots → asking.Condition → demanding.Demand → Restriction
where_true p condition demand = record { demand = demand; condition = Some (condition_box p condition) }

abbrev pub constraint : List Object → Option (Box asking.Condition Global) → List Restriction → List Operand
    → depending.Dependency
constraint objects condition restrictions inferences = dependencies.Constraint (record {
  objects = objects;
  condition = condition;
  restrictions = restrictions;
  inferences = inferences;
})

abbrev pub inferred : List ℕ → List ℕ → Operand
inferred x name = Member (leaf x) (leaf name)

-- dependencies
abbrev pub called : List ℕ → depending.Dependency → NamedDependency
called name tree = record { name = name; tree = tree; line = 0 }

abbrev pub selection : Spots → List ℕ → asking.Condition → NamedDependency
selection p name condition = called name (dependencies.Selection (condition_box p condition))

abbrev pub precondition : Spots → List ℕ → asking.Condition → NamedDependency
precondition p name condition = called name (dependencies.Precondition (condition_box p condition))

abbrev pub procedure : List ℕ → List Statement → NamedDependency
procedure name statements = called name (dependencies.Procedure statements)

abbrev pub does : doing.Action → Statement
does action = record { action = action; condition = None }

abbrev pub does_if : Spots → asking.Condition → doing.Action → Statement
does_if p condition action = record { action = action; condition = Some (condition_box p condition) }

-- characteristics: of texts, by their numbers, and of numbers
abbrev pub listed_text : ℕ → TextValue
listed_text t = record { text = t; uses = [] }

abbrev pub texts : Bool → List TextValue → Values
texts multiple entries = values.Texts 30 multiple entries

abbrev pub from_to : ℕ → ℕ → NumberValue
from_to low high = record { low = millionths (low * 1_000_000); high = millionths (high * 1_000_000); uses = [] }

abbrev pub numbers : ℕ → List NumberValue → Values
numbers decimals entries = values.Numbers decimals None entries

abbrev pub characteristic : List ℕ → Bool → Values → Characteristic
characteristic name restrictable listed =
    record { name = name; restrictable = restrictable; required = false; uses = []; values = listed }

abbrev pub class : List ℕ → List ℕ → Class
class name members = record { name = name; members = members }

abbrev pub column : ℕ → TableColumn
column c = record { characteristic = c; key = false }

abbrev pub net : List ℕ → Net
net constraints = record { name = codes "MAIN"; constraints = constraints }

-- lines of so many pieces, and objects
abbrev pub line : Spots → ℕ → Component → ℕ → List ℕ → BillItem
line p item component quantity uses = record {
  item = item;
  component = component;
  unit = codes "PC";
  quantity = term_box p (whole quantity);
  uses = uses;
  line = 0;
}

abbrev pub object : List ℕ → ℕ → List BillItem → configurable.Object
object material class bill = record {
  material = material;
  class = class;
  nets = [];
  procedures = [];
  bill = bill;
  operations = [];
}

-- a model of nothing
abbrev pub empty : Model
empty = record {
  name = [];
  version = 1;
  characteristics = [];
  texts = [];
  classes = [];
  tables = [];
  dependencies = [];
  nets = [];
  objects = [];
  root = 0;
}

-- a table's rows
abbrev pub rows : List (List Value) → VariantTable
rows cells = record { rows = rows_of cells }
  where
    rows_of : List (List Value) → List Row
    rows_of [] = []
    rows_of (row ∷ more) = record { cells = row } ∷ rows_of more
