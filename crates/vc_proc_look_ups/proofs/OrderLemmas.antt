-- Columns that are those of keys, and an order that is found.
use Rattle.std.proofs.Common.{◌≡◌, ℕ, suc, Bool, true, false, cond, ◌&&◌, List, [], ◌∷◌, length, refl, sym, ◌∙◌, ap}
use Rattle.std.proofs.Common.{subst}
use Rattle.std.proofs.Common.{true≢false}
use Rattle.std.specs.Prelude.{Option, None, Some, ◌==◌}
use Rattle.std.specs.List.{AllByRecursion, find}
use Rattle.std.proofs.lemmas.Bool.{and_parts, eqb-true}
use Rattle.std.proofs.lemmas.Option.{none-some}
use Rattle.vc_plan.specs.declared.plans.Plan.{Plan}
use Rattle.vc_plan.specs.declared.procedures.KeyTerm.{KeyTerm}
use Rattle.vc_plan.specs.TableRows.{rows_of}
use Rattle.vc_proc_look_ups.specs.declared.orders.Order.{Order}
use Rattle.vc_proc_look_ups.specs.LookUps.{AreOrdersIn, IsOrderIn}
use Rattle.vc_proc_look_ups.specs.Orders.{IsOrderOf, are_columns_of, columns_of, is_for}

pub other_lengths : (columns : List ℕ) (keys : List KeyTerm) → (length columns ≡ length keys → ⊥)
    → false ≡ are_columns_of columns keys
other_lengths [] [] out = absurd (out refl)
other_lengths [] (key ∷ keys) out = refl
other_lengths (c ∷ columns) [] out = refl
other_lengths (c ∷ columns) (key ∷ keys) out =
    by (c == key.column) (other_lengths columns keys (λ e. out (ap (λ n. suc n) e)))
  where
    by : (b : Bool) → false ≡ are_columns_of columns keys → false ≡ (b && are_columns_of columns keys)
    by true e = e
    by false e = refl

are_columns : (columns : List ℕ) (keys : List KeyTerm) → are_columns_of columns keys ≡ true
    → columns ≡ columns_of keys
are_columns [] [] e = refl
are_columns [] (key ∷ keys) e = absurd (true≢false (sym e))
are_columns (c ∷ columns) [] e = absurd (true≢false (sym e))
are_columns (c ∷ columns) (key ∷ keys) e =
    let both = and_parts (c == key.column) (are_columns_of columns keys) e in
    ap (λ k. k ∷ columns) (eqb-true c key.column both.0) ∙ ap (λ ks. key.column ∷ ks) (are_columns columns keys both.1)

-- what is found passes, and is one of those of which each has a property
found : {X : Type 0} (P : X → Type 0) (p : X → Bool) (xs : List X) (x : X) → AllByRecursion P xs → find p xs ≡ Some x
    → (p x ≡ true) × P x
found P p [] x all e = absurd (none-some x e)
found {X} P p (y ∷ ys) x all e =
    elim (p y) as (λ b. p y ≡ b → (p x ≡ true) × P x) [
      | true ↦ λ h.
          let same : Some y ≡ Some x = sym (ap (λ b. cond b (Some y) (find p ys)) h) ∙ e in
          let is : y ≡ x = ap given same in (ap p (sym is) ∙ h, subst P is all.0)
      | false ↦ λ h. found P p ys x all.1 (sym (ap (λ b. cond b (Some y) (find p ys)) h) ∙ e)
    ]
    refl
  where
    given : Option X → X
    given None = y
    given (Some z) = z

-- an order that is found for a table and keys has the table's rows in the order of the keys' columns
pub found_order : (plan : Plan) (orders : List Order) (table : ℕ) (keys : List KeyTerm) (order : Order)
    → AreOrdersIn plan orders
    → find (is_for table keys) orders ≡ Some order
    → IsOrderOf (rows_of plan table) (columns_of keys) order.rows
found_order plan orders table keys order all e =
    let its = found (IsOrderIn plan) (is_for table keys) orders order all e in
    let both = and_parts (order.table == table) (are_columns_of order.columns keys) its.0 in
    subst (λ columns. IsOrderOf (rows_of plan table) columns order.rows) (are_columns order.columns keys both.1)
    (subst (λ t. IsOrderOf (rows_of plan t) order.columns order.rows) (eqb-true order.table table both.0) its.1)
