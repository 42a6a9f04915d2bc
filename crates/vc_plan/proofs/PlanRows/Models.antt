-- Plans of the rows.
use Rattle.std.proofs.Common.{ℕ, ℤ, pos, Bool, true, false, ◌&&◌, ◌*◌, List, [], ◌∷◌}
use Rattle.std.specs.Prelude.{Option, None, Some}
use Rattle.std.specs.List.{list_all}
use Rattle.vc_base.specs.Rounds.{Settlement, broken, settled}
use Rattle.vc_base.specs.Sets.{has}
use Rattle.vc_value.specs.Grains.{interval}
use Rattle.vc_value.specs.declared.grains.Grain.{Grain}
use Rattle.vc_value.specs.declared.table_header.Domain.{Domain}
use Rattle.vc_value.specs.declared.table_header.Domain.TheVariants.{Texts, Nums}
use Rattle.vc_value.specs.declared.value.Value.{Value}
use Rattle.vc_value.specs.declared.value.Value.TheVariants.{Text, Num}
use Rattle.vc_plan.specs.declared.atoms.Atom.{Atom}
use Rattle.vc_plan.specs.declared.conditions.Condition.TheVariants.{Always}
use Rattle.vc_plan.specs.declared.plans.Plan.{Plan}
use Rattle.vc_plan.specs.declared.plans.Slot.{Slot}
use Rattle.vc_plan.specs.declared.plans.Table.{Table}
use Rattle.vc_plan.specs.declared.plans.Var.{Var}
use Rattle.vc_plan.specs.declared.rules.Binding.{Binding}
use Rattle.vc_plan.specs.declared.rules.Kind.{Kind}
use Rattle.vc_plan.specs.declared.rules.Kind.TheVariants.{Last, ByTable}
use Rattle.vc_plan.specs.declared.rules.Operand.TheVariants.{Variable}
use Rattle.vc_plan.specs.declared.rules.Rule.{Rule}
use Rattle.vc_plan.specs.declared.terms.Term.{Term}
use Rattle.vc_plan.specs.Seen.{same_atom}
use Rattle.vc_plan.specs.Settle.{settlement_of}
use Rattle.vc_plan.specs.Sources.{Sources}

-- a plan of nothing; condition 0 is always true
abbrev pub empty : Plan
empty = record {
  name = [];
  version = 1;
  texts = [];
  dependencies = [];
  characteristics = [];
  objects = [];
  domains = [];
  tables = [];
  slots = [];
  vars = [];
  sets = [];
  conditions = Always ∷ [];
  terms = [];
  rules = [];
  procedures = [];
  lines = [];
  operations = [];
  guards = [];
  requirements = [];
}

-- the root
abbrev pub root : Slot
root = record { parent = None; depth = 0; object = 0; line = 0 }

-- a variable of the root, with the domain of its characteristic's number, the net may exclude its grains or not
abbrev pub open_var : ℕ → Var
open_var c = record { slot = 0; characteristic = c; domain = c; restrictable = true }

abbrev pub fixed_var : ℕ → Var
fixed_var c = record { slot = 0; characteristic = c; domain = c; restrictable = false }

-- a constraint's rule at the root, with its condition and what it infers
abbrev pub rule : ℕ → List ℕ → Kind → Rule
rule condition inferred kind = record {
  dependency = Some 0;
  number = 1;
  slots = 0 ∷ [];
  condition = condition;
  inferred = inferred;
  kind = kind;
}

-- a rule of no constraint and no selection condition
abbrev pub own_rule : ℕ → Kind → Rule
own_rule condition kind =
    record { dependency = None; number = 0; slots = []; condition = condition; inferred = []; kind = kind }

-- the rule as a restriction of this number, of this constraint, or as a selection condition
abbrev pub of : ℕ → ℕ → Rule → Rule
of dependency number r = record r { dependency = Some dependency; number = number }

abbrev pub last : ℕ → Rule
last v = own_rule 0 (Last v)

-- a column that a variable is given to
abbrev pub column : ℕ → ℕ → Binding
column c v = record { column = c; operand = Variable v }

-- a table without keys
abbrev pub table_of : List (List Value) → Table
table_of rows = record { name = []; columns = []; rows = rows }

-- a number of millionths
abbrev pub number : ℤ → Value
number z = Num (record { millionths = z })

-- the user's values, and nothing written
abbrev pub users : List (Option Value) → Sources
users values = record { user = values; written = [] }

-- whether rounds end settled, at a set of just these atoms
abbrev pub has_just : Settlement Atom → List Atom → Bool
has_just broken atoms = false
has_just (settled set) atoms = list_all (has same_atom set) atoms && list_all (has same_atom atoms) set

abbrev pub settles_at : Plan → Sources → List Atom → Bool
settles_at plan sources atoms = has_just (settlement_of plan sources) atoms

-- whole numbers, as values and as the grain from one to another
abbrev pub whole : ℕ → Value
whole n = number (pos (n * 1_000_000))

abbrev pub from_to : ℕ → ℕ → Grain
from_to low high = interval (pos (low * 1_000_000)) (pos (high * 1_000_000))

-- two variables with the grains 1, 2 .. 3 and 4, and a rule
abbrev pub three_grains : Domain
three_grains = Nums 0 (from_to 1 1 ∷ from_to 2 3 ∷ from_to 4 4 ∷ [])

abbrev pub pair : List Var → List Term → Rule → Plan
pair vars terms r = record empty {
  domains = three_grains ∷ three_grains ∷ [];
  slots = root ∷ [];
  vars = vars;
  terms = terms;
  rules = r ∷ [];
}

abbrev pub open_pair : List Term → Rule → Plan
open_pair = pair (open_var 0 ∷ open_var 1 ∷ [])

abbrev pub fixed_pair : List Term → Rule → Plan
fixed_pair = pair (fixed_var 0 ∷ fixed_var 1 ∷ [])

-- PUMP: size S, M or L, motor E1, E2 or E3, by a table; and a flow
abbrev pub pump : Plan
pump = record empty {
  domains = Texts (0 ∷ 1 ∷ 2 ∷ []) ∷ Texts (3 ∷ 4 ∷ 5 ∷ []) ∷ Nums 1 (interval (pos 0) (pos 100_000_000) ∷ []) ∷ [];
  tables = table_of (
      (Text 0 ∷ Text 3 ∷ []) ∷ (Text 1 ∷ Text 3 ∷ []) ∷ (Text 1 ∷ Text 4 ∷ []) ∷ (Text 2 ∷ Text 5 ∷ []) ∷ []
      ) ∷ [];
  slots = root ∷ [];
  vars = open_var 0 ∷ open_var 1 ∷ open_var 2 ∷ [];
  rules = rule 0 (0 ∷ 1 ∷ []) (ByTable 0 (column 0 0 ∷ column 1 1 ∷ [])) ∷ last 0 ∷ last 1 ∷ last 2 ∷ [];
}
