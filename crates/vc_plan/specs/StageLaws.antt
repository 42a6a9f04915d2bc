-- Laws over the definitions of stages, and of bills.
use Rattle.std.specs.Prelude.{◌≡◌, ◌<◌, ◌≤◌, ℕ, ◌+◌, Bool, true, false, ◌==◌, nat_lt, nat_le, if◌then◌else◌, List, []}
use Rattle.std.specs.Prelude.{◌∷◌, ◌++◌, length, map, slice_get, slice_index_or, Option, None, Some}
use Rattle.std.specs.List.{filter, list_all, list_any}
use Rattle.vc_base.specs.Rounds.{settled}
use Rattle.vc_value.specs.declared.value.Value.{Value}
use Rattle.vc_plan.specs.declared.atoms.Atom.{Atom}
use Rattle.vc_plan.specs.declared.plans.Line as lines
use Rattle.vc_plan.specs.declared.plans.Plan.{Plan}
use Rattle.vc_plan.specs.declared.plans.Slot.{Slot}
use Rattle.vc_plan.specs.declared.shown.BillLine.{BillLine}
use Rattle.vc_plan.specs.Bills.{below, bill_from, bill_line, bill_of, component_of, lines_of, own_bill}
use Rattle.vc_plan.specs.Entries.{Entries, written_at}
use Rattle.vc_plan.specs.Evaluate.{Users, evaluation_of, holds, last_set, reached, sources_of}
use Rattle.vc_plan.specs.LookUps.{writes_own}
use Rattle.vc_plan.specs.Orders.{are_in_order}
use Rattle.vc_plan.specs.Readings.{Reading}
use Rattle.vc_plan.specs.RuleShapes.{is_at}
use Rattle.vc_plan.specs.Seen.{Seen, seen_of}
use Rattle.vc_plan.specs.Settle.{settlement_of}
use Rattle.vc_plan.specs.Shown.{bill, reading_of}
use Rattle.vc_plan.specs.Sources.{Sources}
use Rattle.vc_plan.specs.Valid.{IsValid}
use Rattle.vc_plan.specs.Writes.{depth_of, depth_writes, instances_at, summing_instances, summing_writes}

-- two users chose the same: of each variable the same value, or none, and of each set the same texts
abbrev pub value_chosen : Users → ℕ → Option Value
value_chosen users v = slice_index_or users.values v None

pub record ChooseAlike (users others : Users) : Type 0 where
  pub values : (v : ℕ) → value_chosen users v ≡ value_chosen others v
  pub texts : (set text : ℕ) → holds users set text ≡ holds others set text

-- what the user chose decides the evaluation, all of it
abbrev pub UsersDecide : Type 0
UsersDecide = (plan : Plan) (users others : Users) → ChooseAlike users others
    → evaluation_of plan users ≡ evaluation_of plan others

-- where each procedure writes at its own slot, those of a stage leave all variables of other slots alone
abbrev pub StagesWriteTheirOwn : Type 0
StagesWriteTheirOwn = (plan : Plan) → list_all (writes_own plan) plan.procedures ≡ true
    → (user_holds : ℕ → ℕ → Bool) (depth : ℕ) (set : List Atom) (entries : Entries) (v : ℕ)
    → is_at plan (instances_at plan (seen_of set) depth) v ≡ false
    → written_at (depth_writes plan user_holds depth set entries) v ≡ written_at entries v

abbrev pub SumsWriteTheirOwn : Type 0
SumsWriteTheirOwn = (plan : Plan) → list_all (writes_own plan) plan.procedures ≡ true
    → (user_holds : ℕ → ℕ → Bool) (sets : List (List Atom)) (set : List Atom) (entries : Entries) (v : ℕ)
    → is_at plan (summing_instances plan sets (seen_of set)) v ≡ false
    → written_at (summing_writes plan user_holds sets set entries) v ≡ written_at entries v

-- the lines of an instance come in item order
abbrev pub ItemsAscend : Type 0
ItemsAscend = (plan : Plan) (seen : Seen) (reading : Reading) (i : ℕ)
    → are_in_order nat_lt (lines_of plan seen reading i) ≡ true

-- a configurable line is taken exactly where its slot is here
abbrev pub ComponentsAreTakenWhereHere : Type 0
ComponentsAreTakenWhereHere = (plan : Plan) (seen : Seen) (reading : Reading) (n j : ℕ) (line : lines.Line)
    → slice_get plan.lines n ≡ Some line → component_of plan n ≡ Some j
    → list_any (λ m. m == n) (lines_of plan seen reading line.slot) ≡ seen.here j

-- in a valid plan each slot comes after its parent
abbrev pub ParentsComeFirst : Type 0
ParentsComeFirst = (plan : Plan) → IsValid plan → (i p : ℕ) (slot : Slot) → slice_get plan.slots i ≡ Some slot
    → slot.parent ≡ Some p → p < i

-- the own bill of a bill line's component, one level deeper; none where the line isn't configurable
abbrev pub component_bill : Plan → Seen → Reading → BillLine → List BillLine
component_bill plan seen reading row = below (own_bill plan seen reading (row.level + 1)) (component_of plan row.line)

-- whether a list is at its end, or goes on with a line that isn't deeper
abbrev pub IsNoDeeper : ℕ → List BillLine → Type 0
IsNoDeeper level [] = Unit {0}
IsNoDeeper level (row ∷ rows) = row.level ≤ level

-- in the bill of a valid plan each line is followed at once by its component's own bill, and that by no deeper line: a
-- component's whole bill stands before its owner's next line
abbrev pub ComponentsFollow : Type 0
ComponentsFollow = (plan : Plan) → IsValid plan
    → (seen : Seen) (reading : Reading) (before after : List BillLine) (row : BillLine)
    → bill_of plan seen reading ≡ before ++ row ∷ after
    → (rest : List BillLine) × (after ≡ component_bill plan seen reading row ++ rest) × IsNoDeeper row.level rest

-- an instance's bill has at its level the lines that are taken, in item order, and else deeper ones
pub record HasOwnLines (plan : Plan) (seen : Seen) (reading : Reading) (level i : ℕ) : Type 0 where
  pub own : filter (λ row. row.level == level) (own_bill plan seen reading level i)
      ≡ map (bill_line plan reading level i) (lines_of plan seen reading i)
  pub deeper : list_all (λ row. nat_le level row.level) (own_bill plan seen reading level i) ≡ true

abbrev pub OwnLinesInOrder : Type 0
OwnLinesInOrder = (plan : Plan) → 0 < length plan.slots → (seen : Seen) (reading : Reading) (level i : ℕ)
    → HasOwnLines plan seen reading level i

-- to the bill of a slot of a valid plan more levels than there are slots add nothing
abbrev pub LevelsSuffice : Type 0
LevelsSuffice = (plan : Plan) → IsValid plan → (seen : Seen) (reading : Reading) (levels level i : ℕ)
    → length plan.slots ≤ levels → i < length plan.slots
    → bill_from plan seen reading levels level i ≡ own_bill plan seen reading level i

-- the root is here, and each slot that is here has its parent here
pub record IsUpward (plan : Plan) (seen : Seen) : Type 0 where
  pub root : seen.here 0 ≡ true
  pub parents : (i p : ℕ) (slot : Slot) → slice_get plan.slots i ≡ Some slot → slot.parent ≡ Some p → seen.here i ≡ true
      → seen.here p ≡ true

-- of each slot the bill of a valid plan has the lines that it takes where it is here, once each, in item order, one
-- level
-- below its depth; and no others
abbrev pub taken_lines : Plan → Seen → Reading → ℕ → List BillLine
taken_lines plan seen reading i =
    if seen.here i then map (bill_line plan reading (depth_of plan i + 1) i) (lines_of plan seen reading i) else []

abbrev pub BillsHaveTakenLines : Type 0
BillsHaveTakenLines = (plan : Plan) → IsValid plan → (seen : Seen) (reading : Reading) → IsUpward plan seen → (i : ℕ)
    → i < length plan.slots
    → filter (λ row. row.slot == i) (bill_of plan seen reading) ≡ taken_lines plan seen reading i

-- where settling ends for a valid plan, the root is here, and with each slot its parent
abbrev pub ParentsAreHere : Type 0
ParentsAreHere = (plan : Plan) → IsValid plan → (sources : Sources) (set : List Atom)
    → settlement_of plan sources ≡ settled set
    → IsUpward plan (seen_of set)

-- what is read at the end is where the last stage settles, by the user's values and all that was written
abbrev pub LastStageSettles : Type 0
LastStageSettles = (plan : Plan) (users : Users) (sets : List (List Atom)) (entries : Entries)
    → evaluation_of plan users ≡ reached sets entries
    → settlement_of plan (sources_of users entries) ≡ settled (last_set plan sets)

-- so the bill that is shown of a valid plan has of each slot the lines that it takes at the last stage, if it is here
abbrev pub BillsShowTakenLines : Type 0
BillsShowTakenLines = (plan : Plan) → IsValid plan → (users : Users) (sets : List (List Atom)) (entries : Entries)
    → evaluation_of plan users ≡ reached sets entries → (i : ℕ) → i < length plan.slots
    → let seen = seen_of (last_set plan sets) in
    filter (λ row. row.slot == i) (bill plan users) ≡ taken_lines plan seen (reading_of plan users seen) i
