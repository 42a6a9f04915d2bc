-- A small model, and short words for trees. M is the root, of class K with A, N, S, B; its bill has P, of class D with
-- W
-- and A. A is a text, N is 0 to 100 by tenths, S has sets of texts, B is up to 10^9, W is -9 to 5. T has the key A, and
-- N
-- and B; U has no key.
use Rattle.std.proofs.Common.{ℕ, pos, neg_ℤ, true, false, List, [], ◌∷◌}
use Rattle.std.specs.Prelude.{None, Some, Box, codes}
use Rattle.std.specs.declared.alloc.Global.{Global}
use Rattle.vc_model_parts.specs.declared.parts.Characteristic.{Characteristic}
use Rattle.vc_model_parts.specs.declared.parts.Component.TheVariants as components
use Rattle.vc_model_parts.specs.declared.parts.Model.{Model}
use Rattle.vc_model_parts.specs.declared.parts.Values.{Values}
use Rattle.vc_model_parts.specs.declared.parts.Values.TheVariants as values
use Rattle.vc_syntax_tree.specs.declared.NameLeaf.{NameLeaf}
use Rattle.vc_syntax_tree.specs.declared.Object.{Object}
use Rattle.vc_syntax_tree.specs.declared.ObjectKind.TheVariants as objects
use Rattle.vc_syntax_tree.specs.declared.Operand.{Operand as Name}
use Rattle.vc_syntax_tree.specs.declared.Operand.TheVariants.{Plain, Owned, Member, Variable}
use Rattle.vc_syntax_tree.specs.declared.Owner.{Owner}
use Rattle.vc_syntax_tree.specs.declared.Relator.{Relator}
use Rattle.vc_syntax_tree.specs.declared.Relator.TheVariants.{Equal}
use Rattle.vc_syntax_tree.specs.declared.Term.{Term as StoredTerm}
use Rattle.vc_syntax_tree.specs.Trees.{Term, Number, Text, Operand, Condition, Related, Compared, Dependency}
use Rattle.vc_syntax_tree.specs.Trees.{Constrains}
use Rattle.vc_types.specs.declared.place.At.TheVariants as at
use Rattle.vc_types.specs.declared.place.Place.{Place}

-- the place of a quantity's tree in memory, which nothing here looks at
abbrev pub Quantity : Type 0
Quantity = Box StoredTerm Global

abbrev pub texts : List ℕ → Values → Characteristic
texts name listed = record { name = name; restrictable = false; required = false; uses = []; values = listed }

-- numbers from -low to high, in millionths
abbrev pub numbers : ℕ → ℕ → ℕ → Values
numbers decimals low high =
    values.Numbers decimals None
    (record { low = record { millionths = neg_ℤ (pos low) }; high = record { millionths = pos high }; uses = [] }
    ∷ [])

abbrev pub small : Quantity → Model
small quantity = record {
  name = codes "M";
  version = 1;
  characteristics =
      texts (codes "A") (values.Texts 1 false []) ∷ texts (codes "N") (numbers 1 0 100_000_000)
      ∷ texts (codes "S") (values.Texts 1 true [])
      ∷ texts (codes "B") (numbers 0 0 999_999_999_000_000) ∷ texts (codes "W") (numbers 0 9_000_000 5_000_000) ∷ [];
  texts = [];
  classes =
      record { name = codes "K"; members = 0 ∷ 1 ∷ 2 ∷ 3 ∷ [] } ∷ record { name = codes "D"; members = 4 ∷ 0 ∷ [] }
      ∷ [];
  tables =
      record {
        name = codes "T";
        file = [];
        columns = record { characteristic = 0; key = true } ∷ record { characteristic = 1; key = false }
            ∷ record { characteristic = 3; key = false } ∷ [];
      }
      ∷ record {
        name = codes "U";
        file = [];
        columns = record { characteristic = 0; key = false } ∷ record { characteristic = 1; key = false } ∷ [];
      } ∷ [];
  dependencies = [];
  nets = [];
  objects =
      record { material = codes "P"; class = 1; nets = []; procedures = []; bill = []; operations = [] }
      ∷ record {
        material = codes "M";
        class = 0;
        nets = [];
        procedures = [];
        bill = record {
          item = 10;
          component = components.Object 0;
          unit = codes "PC";
          quantity = quantity;
          uses =
              [];
          line = 9;
        } ∷ [];
        operations = [];
      } ∷ [];
  root = 1;
}

-- places: in a net; at a characteristic of the root, and of the component; at a configurable line, a plain one, an
-- operation
abbrev pub in_net : Place
in_net = record { object = 1; parent = None; at = at.Constraint }

abbrev pub at_root : Place
at_root = record { object = 1; parent = None; at = at.Characteristic }

abbrev pub at_part : Place
at_part = record { object = 0; parent = Some 1; at = at.Characteristic }

abbrev pub by_root : Place
by_root = record { object = 1; parent = None; at = at.Procedure }

abbrev pub at_line : Place
at_line = record { object = 1; parent = None; at = at.Line true }

abbrev pub at_plain_line : Place
at_plain_line = record { object = 1; parent = None; at = at.Line false }

abbrev pub at_part_operation : Place
at_part_operation = record { object = 0; parent = Some 1; at = at.Operation }

abbrev pub at_operation : Place
at_operation = record { object = 1; parent = None; at = at.Operation }

-- trees
abbrev pub leaf : List ℕ → NameLeaf
leaf name = record { name = name; start = 0; end = 0 }

abbrev pub plain : List ℕ → Name
plain name = Plain (leaf name)

abbrev pub owned : Owner → List ℕ → Name
owned owner name = Owned owner (leaf name)

abbrev pub member : List ℕ → List ℕ → Name
member variable name = Member (leaf variable) (leaf name)

abbrev pub variable : List ℕ → Name
variable name = Variable (leaf name)

abbrev pub text : List ℕ → Term
text bytes = Text (record { text = bytes; start = 0; end = 0 })

abbrev pub number : ℕ → Term
number millionths = Number (record { number = record { millionths = pos millionths }; start = 0; end = 0 })

abbrev pub related : Term → Relator → Term → Condition
related left relator right = Related (Compared left relator right)

abbrev pub equals : Name → Term → Condition
equals operand term = related (Operand operand) Equal term

-- an object of a class, without WHERE
abbrev pub of_class : List ℕ → List ℕ → Object
of_class name class = record { variable = leaf name; kind = objects.Class (leaf class); aliases = [] }

-- an object with a WHERE
abbrev pub of_class_where : List ℕ → List ℕ → List ℕ → List ℕ → Object
of_class_where name class value c =
    record {
      variable = leaf name;
      kind = objects.Class (leaf class);
      aliases =
          record { variable = leaf value; characteristic = leaf c } ∷ [];
    }

-- a constraint of one restriction, a relation, that infers nothing
abbrev pub restricts : List Object → Condition → Dependency
restricts declared condition = Constrains (record {
  objects = declared;
  condition = Some condition;
  restrictions = [];
  inferences = [];
})
