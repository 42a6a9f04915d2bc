-- Names, dependencies and nets of the model.
use Rattle.std.proofs.Common.{◌≡◌, ap, ℕ, pos, List, [], ◌∷◌, refl}
use Rattle.std.specs.Prelude.{◌≢◌, None, codes, map}
use Rattle.vc_syntax_tree.specs.declared.NameLeaf.{NameLeaf}
use Rattle.vc_syntax_tree.specs.declared.ObjectKind.TheVariants as objects
use Rattle.vc_syntax_tree.specs.declared.Operand.TheVariants.{Plain, Member}
use Rattle.vc_syntax_tree.specs.declared.Relator.TheVariants.{Equal, LessEqual}
use Rattle.vc_syntax_tree.specs.Trees.{Dependency, And, Related, Compared, Specified, Number, Text, Operand}
use Rattle.vc_syntax_tree.specs.Trees.{Precondition, Selection, Procedure, Constrains, Assign, Demand, Relates, Never}
use Rattle.vc_model_scope.specs.Scope.{scope_of}
use Rattle.vc_model_faults.specs.Readings.{reading, tree_in}
use Rattle.vc_model_parts.specs.declared.parts.Net.{Net}
use Rattle.vc_model_drafts.specs.Seen.{SeenDependency}
use Rattle.vc_model_tests.proofs.ModelRows.Pumps.{model, differs}

name : model.name ≡ codes "PUMP"
name = refl

version : model.version ≡ 12
version = refl

-- each text once, by the value where it stands first
texts : model.texts ≡ codes "S" ∷ codes "L" ∷ codes "XL" ∷ codes "A" ∷ []
unfolding scope_of
texts = refl

-- a name that begins at a byte of its block's text
abbrev name_at : ℕ → ℕ → List ℕ → NameLeaf
name_at start end name = record { name = name; start = start; end = end }

-- a constraint on the pumps, whose object is the first line of its text
abbrev on_pumps : Demand → Dependency
on_pumps demand = Constrains (record {
  objects = record {
    variable = name_at 9 11 (codes "P");
    kind = objects.Class (name_at 23 28 (codes "PUMPS"));
    aliases = [];
  } ∷ [];
  condition = None;
  restrictions = record { demand = demand; condition = None } ∷ [];
  inferences = [];
})

abbrev dry : Dependency
dry = Precondition (Specified (Plain (name_at 10 14 (codes "FLOW"))))

abbrev large : Dependency
large =
    Selection (Related (Compared (Operand (Plain (name_at 0 4 (codes "SIZE")))) Equal
    (Text (record { text = codes "L"; start = 7; end = 10 }))))

abbrev sets_flow : Dependency
sets_flow = Procedure (record {
  action = Assign (name_at 6 10 (codes "FLOW"))
      (Number (record { number = record { millionths = pos 5_000_000 }; start = 13; end = 14 }));
  condition = None;
} ∷ [])

abbrev at_most_five : Dependency
at_most_five =
    on_pumps (Relates (Compared (Operand (Member (name_at 44 46 (codes "P")) (name_at 47 51 (codes "FLOW")))) LessEqual
    (Number (record { number = record { millionths = pos 5_000_000 }; start = 55; end = 56 }))))

-- the spaces before its second line don't count
abbrev any : Dependency
any =
    Selection (And (Specified (Plain (name_at 10 14 (codes "SIZE"))))
    (Specified (Plain (name_at 29 33 (codes "FLOW")))))

abbrev sets_size : Dependency
sets_size = Procedure (record {
  action = Assign (name_at 6 10 (codes "SIZE")) (Text (record { text = codes "L"; start = 13; end = 16 }));
  condition = None;
} ∷ [])

-- in the order of the text, each with the number of the line that opens its block
dependencies : model.dependencies
    ≡ record { name = codes "P_DRY"; tree = dry; line = 4 }
    ∷ record { name = codes "S_LARGE"; tree = large; line = 7 }
    ∷ record { name = codes "R_FLOW"; tree = sets_flow; line = 10 }
    ∷ record { name = codes "C_FLOW"; tree = at_most_five; line = 13 }
    ∷ record { name = codes "C_NONE"; tree = on_pumps Never; line = 17 }
    ∷ record { name = codes "S_ANY"; tree = any; line = 25 }
    ∷ record { name = codes "R_SIZE"; tree = sets_size; line = 29 }
    ∷ []
unfolding reading tree_in
dependencies = refl

abbrev lines : List SeenDependency → List ℕ
lines listed = map (λ d. d.line) listed

-- lines count from 1, and it isn't the first of the block's text that is told
from_zero : lines model.dependencies ≢ 3 ∷ 6 ∷ 9 ∷ 12 ∷ 16 ∷ 24 ∷ 28 ∷ []
from_zero = differs (ap lines dependencies) (λ e. cc)

line_below : lines model.dependencies ≢ 5 ∷ 8 ∷ 11 ∷ 14 ∷ 18 ∷ 26 ∷ 30 ∷ []
line_below = differs (ap lines dependencies) (λ e. cc)

-- a net has its constraints by their numbers among all dependencies, in the order of its USES
nets : model.nets
    ≡ record { name = codes "IDLE"; constraints = [] } ∷ record { name = codes "MAIN"; constraints = 4 ∷ 3 ∷ [] } ∷ []
unfolding scope_of
nets = refl

abbrev constraints : List Net → List (List ℕ)
constraints listed = map (λ n. n.constraints) listed

last_dropped : constraints model.nets ≢ [] ∷ (4 ∷ []) ∷ []
last_dropped = differs (ap constraints nets) (λ e. cc)

given_to_the_net_before : constraints model.nets ≢ (4 ∷ 3 ∷ []) ∷ (4 ∷ 3 ∷ []) ∷ []
given_to_the_net_before = differs (ap constraints nets) (λ e. cc)

in_their_own_order : constraints model.nets ≢ [] ∷ (3 ∷ 4 ∷ []) ∷ []
in_their_own_order = differs (ap constraints nets) (λ e. cc)

among_constraints : constraints model.nets ≢ [] ∷ (1 ∷ 0 ∷ []) ∷ []
among_constraints = differs (ap constraints nets) (λ e. cc)
