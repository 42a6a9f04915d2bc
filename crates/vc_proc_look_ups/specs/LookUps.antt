-- Orders of a plan's tables, by which its statements look rows up.
use Rattle.std.specs.Prelude.{◌≡◌, ℕ, Bool, true, List}
use Rattle.std.specs.List.{AllByRecursion, list_all, list_any}
use Rattle.vc_plan.specs.declared.plans.Plan.{Plan}
use Rattle.vc_plan.specs.declared.procedures.Action.{Action}
use Rattle.vc_plan.specs.declared.procedures.Action.TheVariants.{Assign, SetDefault, DeleteDefault, LookUp}
use Rattle.vc_plan.specs.declared.procedures.KeyTerm.{KeyTerm}
use Rattle.vc_plan.specs.declared.procedures.Procedure.{Procedure}
use Rattle.vc_plan.specs.declared.procedures.Statement.{Statement}
use Rattle.vc_plan.specs.TableRows.{rows_of}
use Rattle.vc_proc_look_ups.specs.declared.look_ups.LookUps.{LookUps}
use Rattle.vc_proc_look_ups.specs.declared.orders.Order.{Order}
use Rattle.vc_proc_look_ups.specs.Orders.{IsOrderOf, is_for}

-- the rows of a table of the plan in their order
abbrev pub IsOrderIn : Plan → Order → Type 0
IsOrderIn plan order = IsOrderOf (rows_of plan order.table) order.columns order.rows

abbrev pub AreOrdersIn : Plan → List Order → Type 0
AreOrdersIn plan orders = AllByRecursion (IsOrderIn plan) orders

-- each order is one of the plan's tables
abbrev pub AreLookUpsOf : Plan → LookUps → Type 0
AreLookUpsOf plan look_ups = AreOrdersIn plan look_ups.orders

-- whether there is an order of the table by the keys, and one for what is looked up
abbrev pub has_order : ℕ → List KeyTerm → List Order → Bool
has_order table keys orders = list_any (is_for table keys) orders

abbrev pub serves : List Order → Action → Bool
serves orders (Assign v term) = true
serves orders (SetDefault v term) = true
serves orders (DeleteDefault v term) = true
serves orders (LookUp table keys filled) = has_order table keys orders

abbrev pub serves_statement : List Order → Statement → Bool
serves_statement orders statement = serves orders statement.action

abbrev pub serves_procedure : List Order → Procedure → Bool
serves_procedure orders procedure = list_all (serves_statement orders) procedure.statements

-- what is put are orders of the plan's tables; those that were there stay; and something then holds
abbrev pub KeepOrders : List Order → List Order → Type 0
KeepOrders old new = (table : ℕ) (keys : List KeyTerm) → has_order table keys old ≡ true
    → has_order table keys new ≡ true

pub record Puts (plan : Plan) (old new : List Order) (holds : Bool) : Type 0 where
  pub of : AreOrdersIn plan new
  pub keeps : KeepOrders old new
  pub done : holds ≡ true
