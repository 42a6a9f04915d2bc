-- Orders that are put one after another.
use Rattle.std.proofs.Common.{◌≡◌, ℕ, zero, suc, ◌+◌, ◌^◌, ◌<◌, ◌≤◌, Bool, true, false, cond, ◌&&◌, List, [], ◌∷◌, ◌++◌}
use Rattle.std.proofs.Common.{length, take}
use Rattle.std.proofs.Common.{get_or, refl, sym, ◌∙◌, ap, subst, arith}
use Rattle.std.specs.Prelude.{◌||◌, ◌==◌, nat_lt, Option, None, Some, slice_get}
use Rattle.std.specs.List.{AllByRecursion, find, list_all, list_any}
use Rattle.std.proofs.lemmas.Bool.{and_parts, ltb-true}
use Rattle.std.proofs.lemmas.List.{take_all}
use Rattle.std.proofs.lemmas.Option.{none-some}
use Rattle.vc_base.proofs.ListLaws.{number_itself}
use Rattle.vc_plan.specs.declared.plans.Plan.{Plan}
use Rattle.vc_plan.specs.declared.plans.Table.{Table}
use Rattle.vc_plan.specs.declared.procedures.Action.{Action}
use Rattle.vc_plan.specs.declared.procedures.Action.TheVariants.{Assign, SetDefault, DeleteDefault, LookUp}
use Rattle.vc_plan.specs.declared.procedures.KeyTerm.{KeyTerm}
use Rattle.vc_plan.specs.declared.procedures.Procedure.{Procedure}
use Rattle.vc_plan.specs.declared.procedures.Statement.{Statement}
use Rattle.vc_plan.specs.TableRows.{rows_in, rows_of}
use Rattle.vc_plan_values.proofs.TermLemmas.{PassesIf, all_get}
use Rattle.vc_proc_look_ups.specs.declared.orders.Order.{Order}
use Rattle.vc_proc_look_ups.specs.LookUps.{AreOrdersIn, IsOrderIn, KeepOrders, Puts, has_order, serves}
use Rattle.vc_proc_look_ups.specs.LookUps.{serves_procedure}
use Rattle.vc_proc_look_ups.specs.LookUps.{serves_statement}
use Rattle.vc_proc_look_ups.specs.Orders.{are_columns_of, columns_of, is_for}

own_columns : (keys : List KeyTerm) → are_columns_of (columns_of keys) keys ≡ true
own_columns [] = refl
own_columns (key ∷ keys) =
    ap (λ b. b && are_columns_of (columns_of keys) keys) (number_itself key.column) ∙ own_columns keys

-- a table of the plan has few rows
abbrev is_short : Table → Bool
is_short table = nat_lt (length table.rows) (2 ^ 32)

pub few_rows : (plan : Plan) (table : ℕ) → list_all is_short plan.tables ≡ true → length (rows_of plan table) < 2 ^ 32
few_rows plan table few = by (slice_get plan.tables table) (all_get is_short plan.tables table few)
  where
    by : (o : Option Table) → PassesIf is_short o → length (rows_in o) < 2 ^ 32
    by None e = omega arith
    by (Some t) e = ltb-true (length t.rows) (2 ^ 32) e

-- an order of the table by the keys' columns is one for them
pub own_order : (table : ℕ) (keys : List KeyTerm) (order : Order) → order.table ≡ table
    → order.columns ≡ columns_of keys → is_for table keys order ≡ true
own_order table keys order same columns =
    ap (λ t. (t == table) && are_columns_of order.columns keys) same
    ∙ (ap (λ b. b && are_columns_of order.columns keys) (number_itself table)
    ∙ (ap (λ cs. are_columns_of cs keys) columns ∙ own_columns keys))

or_true : (b : Bool) → (b || true) ≡ true
or_true true = refl
or_true false = refl

any_first : {X : Type 0} (p : X → Bool) (xs ys : List X) → list_any p xs ≡ true → list_any p (xs ++ ys) ≡ true
any_first p [] ys e = absurd (cc)
any_first p (x ∷ xs) ys e =
    elim (p x) as (λ b. (b || list_any p xs) ≡ true → (b || list_any p (xs ++ ys)) ≡ true)
    [ true ↦ λ f. refl | false ↦ λ f. any_first p xs ys f ]
    e

any_last : {X : Type 0} (p : X → Bool) (xs : List X) (x : X) → p x ≡ true → list_any p (xs ++ x ∷ []) ≡ true
any_last p [] x e = ap (λ b. b || false) e
any_last p (y ∷ ys) x e = ap (λ b. p y || b) (any_last p ys x e) ∙ or_true (p y)

pub any_found : {X : Type 0} (p : X → Bool) (xs : List X) (x : X) → find p xs ≡ Some x → list_any p xs ≡ true
any_found p [] x e = absurd (none-some x e)
any_found p (y ∷ ys) x e =
    elim (p y) as (λ b. p y ≡ b → (b || list_any p ys) ≡ true)
    [ true ↦ λ h. refl | false ↦ λ h. any_found p ys x (sym (ap (λ b. cond b (Some y) (find p ys)) h) ∙ e) ]
    refl

each_last : {X : Type 0} (P : X → Type 0) (xs : List X) (x : X) → AllByRecursion P xs → P x
    → AllByRecursion P (xs ++ x ∷ [])
each_last P [] x all e = (e, tt)
each_last P (y ∷ ys) x all e = (all.0, each_last P ys x all.1 e)

pub one_put : (plan : Plan) (old new : List Order) (order : Order) (table : ℕ) (keys : List KeyTerm)
    → new ≡ old ++ order ∷ [] → AreOrdersIn plan old → IsOrderIn plan order → is_for table keys order ≡ true
    → Puts plan old new (has_order table keys new)
one_put plan old new order table keys is of right own = record {
  of = subst (AreOrdersIn plan) (sym is) (each_last (IsOrderIn plan) old order of right);
  keeps = λ t ks e. ap (has_order t ks) is ∙ any_first (is_for t ks) old (order ∷ []) e;
  done = ap (has_order table keys) is ∙ any_last (is_for table keys) old order own;
}

pub none_put : (plan : Plan) (orders : List Order) (holds : Bool) → AreOrdersIn plan orders → holds ≡ true
    → Puts plan orders orders holds
none_put plan orders holds of done = record { of = of; keeps = λ t ks e. e; done = done }

-- what served serves still
action_kept : (old new : List Order) → KeepOrders old new → (action : Action) → serves old action ≡ true
    → serves new action ≡ true
action_kept old new keeps (Assign v term) e = refl
action_kept old new keeps (SetDefault v term) e = refl
action_kept old new keeps (DeleteDefault v term) e = refl
action_kept old new keeps (LookUp table keys filled) e = keeps table keys e

all_kept : {X : Type 0} (p q : X → Bool) → ((x : X) → p x ≡ true → q x ≡ true) → (xs : List X) → list_all p xs ≡ true
    → list_all q xs ≡ true
all_kept p q so [] e = refl
all_kept p q so (x ∷ xs) e =
    let both = and_parts (p x) (list_all p xs) e in
    ap (λ b. b && list_all q xs) (so x both.0) ∙ all_kept p q so xs both.1

all_next : {X : Type 0} (p : X → Bool) (xs : List X) (n : ℕ) (x : X) → n < length xs → x ≡ get_or xs n x → p x ≡ true
    → list_all p (take n xs) ≡ true → list_all p (take (n + 1) xs) ≡ true
all_next p [] n x low is e all = absurd (omega (arith, low))
all_next p (y ∷ ys) zero x low is e all = ap (λ b. b && true) (ap p (sym is) ∙ e)
all_next p (y ∷ ys) (suc n) x low is e all =
    let both = and_parts (p y) (list_all p (take n ys)) all in
    let next : suc n + 1 ≡ suc (n + 1) = omega arith in
    ap (λ k. list_all p (take k (y ∷ ys))) next
    ∙ ap (λ b. b && list_all p (take (n + 1) ys)) both.0
    ∙ all_next p ys n x (omega (arith, low)) is e both.1

module _ {X : Type 0} (test : List Order → X → Bool)
    (kept : (old new : List Order) → KeepOrders old new → (x : X) → test old x ≡ true → test new x ≡ true)
    (plan : Plan) (first old new : List Order) (xs : List X) where
  pub puts_next : (n : ℕ) (x : X) → n < length xs → x ≡ get_or xs n x
      → Puts plan first old (list_all (test old) (take n xs)) → Puts plan old new (test new x)
      → Puts plan first new (list_all (test new) (take (n + 1) xs))
  puts_next n x low is so next = record {
    of = next.of;
    keeps = λ t ks e. next.keeps t ks (so.keeps t ks e);
    done = all_next (test new) xs n x low is next.done
        (all_kept (test old) (test new) (kept old new next.keeps) (take n xs) so.done);
  }

pub puts_all : {X : Type 0} (test : X → Bool) (plan : Plan) (first last : List Order) (xs : List X) (n : ℕ)
    → length xs ≤ n
    → Puts plan first last (list_all test (take n xs)) → Puts plan first last (list_all test xs)
puts_all test plan first last xs n long so =
    subst (λ ys. Puts plan first last (list_all test ys)) (take_all n xs long) so

pub statement_kept : (old new : List Order) → KeepOrders old new → (statement : Statement)
    → serves_statement old statement ≡ true → serves_statement new statement ≡ true
statement_kept old new keeps statement e = action_kept old new keeps statement.action e

pub procedure_kept : (old new : List Order) → KeepOrders old new → (procedure : Procedure)
    → serves_procedure old procedure ≡ true → serves_procedure new procedure ≡ true
procedure_kept old new keeps procedure e =
    all_kept (serves_statement old) (serves_statement new) (statement_kept old new keeps) procedure.statements e
