-- What the names and numbers of a chain's lines mean in a plan.
use Rattle.std.specs.Prelude.{◌<◌, ℕ, ◌-◌, ◌^◌, Bool, true, false, ◌&&◌, ◌==◌, nat_lt, nat_le, if◌then◌else◌}
use Rattle.std.specs.Prelude.{List, [], ◌∷◌, length, map}
use Rattle.std.specs.Prelude.{position, slice_get, Option, None, Some}
use Rattle.vc_value.specs.Words.{same_ignoring_case}
use Rattle.vc_plan.specs.declared.plans.Plan.{Plan}
use Rattle.vc_plan.specs.declared.plans.Var.{Var}
use Rattle.vc_plan.specs.declared.procedures.FilledColumn.{FilledColumn}
use Rattle.vc_plan.specs.declared.procedures.Procedure.{Procedure}
use Rattle.vc_plan.specs.declared.rules.Rule.{Rule}
use Rattle.vc_plan.specs.Domains.{atom_count}
use Rattle.vc_plan.specs.Orders.{is_number}
use Rattle.vc_plan.specs.RuleShapes.{is_last_of, is_line_of}
use Rattle.vc_plan_reasons.specs.Fitting.{statement_writes}
use Rattle.vc_plan_reasons.specs.Refuting.{is_restriction}
use Rattle.vc_wire_requests.specs.Requests.{◌>>=◌}

-- what numbers of 32 bits name
pub record HasNumbers (plan : Plan) : Type 0 where
  pub characteristics : length plan.characteristics < 2 ^ 32
  pub dependencies : length plan.dependencies < 2 ^ 32
  pub vars : length plan.vars < 2 ^ 32
  pub rules : length plan.rules < 2 ^ 32
  pub procedures : length plan.procedures < 2 ^ 32
  pub atoms : atom_count plan < 2 ^ 32

-- a characteristic and a dependency by their names, in letters of either case
abbrev pub characteristic_named : Plan → List ℕ → Option ℕ
characteristic_named plan name = position (λ c. same_ignoring_case c.name name) plan.characteristics

abbrev pub dependency_named : Plan → List ℕ → Option ℕ
dependency_named plan name = position (λ word. same_ignoring_case word name) plan.dependencies

-- the variable of a slot with the characteristic; a set is none
abbrev pub is_variable : ℕ → ℕ → Var → Bool
is_variable i c x = (x.slot == i) && (x.characteristic == c)

abbrev pub variable_of : Plan → ℕ → ℕ → Option ℕ
variable_of plan i c = position (is_variable i c) plan.vars

abbrev pub variable_named : Plan → ℕ → List ℕ → Option ℕ
variable_named plan i name = do
  c ← characteristic_named plan name
  variable_of plan i c

-- whether two lists of slots are one
abbrev pub same_slots : List ℕ → List ℕ → Bool
same_slots [] [] = true
same_slots [] (j ∷ others) = false
same_slots (i ∷ slots) [] = false
same_slots (i ∷ slots) (j ∷ others) = (i == j) && same_slots slots others

-- the rule of a constraint's restriction at these slots
abbrev pub is_called_so : ℕ → ℕ → Rule → Bool
is_called_so d k rule = is_number d rule.dependency && (rule.number == k)

abbrev pub stands_at : List ℕ → Rule → Bool
stands_at slots rule = is_restriction rule.kind && same_slots rule.slots slots

abbrev pub is_restriction_of : ℕ → ℕ → List ℕ → Rule → Bool
is_restriction_of d k slots rule = is_called_so d k rule && stands_at slots rule

abbrev pub constraint_of : Plan → ℕ → ℕ → List ℕ → Option ℕ
constraint_of plan d k slots = position (is_restriction_of d k slots) plan.rules

abbrev pub constraint_named : Plan → List ℕ → ℕ → List ℕ → Option ℕ
constraint_named plan name k slots = do
  d ← dependency_named plan name
  constraint_of plan d k slots

-- the rule by which a slot is here, under its selection condition of this number
abbrev pub is_line : ℕ → ℕ → Rule → Bool
is_line i k rule = is_line_of i rule.kind && (rule.number == k)

abbrev pub line_numbered : Plan → ℕ → ℕ → Option ℕ
line_numbered plan i k = position (is_line i k) plan.rules

-- the rule by which a variable has its last grain
abbrev pub is_last : ℕ → Rule → Bool
is_last v rule = is_last_of v rule.kind

abbrev pub last_of : Plan → ℕ → Option ℕ
last_of plan v = position (is_last v) plan.rules

-- the first place of a procedure at a slot, and its statement of this number, from 1
abbrev pub is_place_of : ℕ → ℕ → Procedure → Bool
is_place_of d i procedure = (procedure.slot == i) && (procedure.dependency == d)

abbrev pub procedure_of : Plan → ℕ → ℕ → Option ℕ
procedure_of plan d i = position (is_place_of d i) plan.procedures

abbrev pub procedure_named : Plan → List ℕ → ℕ → Option ℕ
procedure_named plan name i = do
  d ← dependency_named plan name
  procedure_of plan d i

abbrev pub statement_in : ℕ → Procedure → Option ℕ
statement_in n procedure = if nat_lt 0 n && nat_le n (length procedure.statements) then Some (n - 1) else None

abbrev pub statement_numbered : Plan → List ℕ → ℕ → ℕ → Option (ℕ × ℕ)
statement_numbered plan name n i = do
  p ← procedure_named plan name i
  procedure ← slice_get plan.procedures p
  statement ← statement_in n procedure
  Some (p, statement)

-- the variables that columns fill
abbrev pub filled_vars : List FilledColumn → List ℕ
filled_vars filled = map (λ column. column.var) filled

-- whether the statement writes the variable
abbrev pub writes_if : ℕ → ℕ → Option Procedure → Bool
writes_if v statement None = false
writes_if v statement (Some procedure) = statement_writes v (slice_get procedure.statements statement)

abbrev pub is_writer : Plan → ℕ → ℕ → ℕ → Bool
is_writer plan v procedure statement = writes_if v statement (slice_get plan.procedures procedure)
