-- What is said has at most one premise a row: of the grains of a valid plan's variable one alone holds a cell.
use Rattle.std.proofs.Common.{◌≡◌, ℕ, suc, ◌+◌, ◌≤◌, Bool, true, false, cond, not, ◌&&◌, List, [], ◌∷◌, ◌++◌, length}
use Rattle.std.proofs.Common.{map, refl, sym, ◌∙◌, ap, arith, append_assoc, length-append}
use Rattle.std.specs.Prelude.{◌==◌, flat_map, slice_get, Option, None, Some}
use Rattle.std.specs.List.{filter, find, list_any, list_all, range_with_len, AllByRecursion}
use Rattle.std.specs.Int.Signed.{lt_z}
use Rattle.std.proofs.lemmas.Bool.{and_parts, or_parts, not-true, eqb-true, eq-eqb}
use Rattle.std.proofs.lemmas.Int.{ints}
use Rattle.std.proofs.lemmas.List.{length-map}
use Rattle.vc_base.proofs.SetLaws.{both}
use Rattle.vc_value.specs.Grains.{holds, is_below, is_ordered, is_ascending, has_decimals}
use Rattle.vc_value.specs.declared.decimal.Dec.{Dec}
use Rattle.vc_value.specs.declared.grains.Grain.{Grain}
use Rattle.vc_value.specs.declared.table_header.Domain.{Domain}
use Rattle.vc_value.specs.declared.table_header.Domain.TheVariants.{Texts, Nums}
use Rattle.vc_value.specs.declared.value.Value.{Value}
use Rattle.vc_value.specs.declared.value.Value.TheVariants.{Text, Num}
use Rattle.vc_plan.specs.declared.atoms.Atom.TheVariants.{Out, Is}
use Rattle.vc_plan.specs.declared.conditions.Piece.{Piece}
use Rattle.vc_plan.specs.declared.conditions.Piece.TheVariants.{OneText, Stretch}
use Rattle.vc_plan.specs.declared.plans.Plan.{Plan}
use Rattle.vc_plan.specs.declared.plans.Var.{Var}
use Rattle.vc_plan.specs.declared.rules.Binding.{Binding}
use Rattle.vc_plan.specs.declared.rules.Operand.{Operand}
use Rattle.vc_plan.specs.declared.rules.Operand.TheVariants.{Constant, Variable}
use Rattle.vc_plan.specs.Alike.{is_proper}
use Rattle.vc_plan.specs.Domains.{numbers_below, grains_in, domain_of, grains_of, count_of, passes, is_restrictable}
use Rattle.vc_plan.specs.Domains.{is_grain_with}
use Rattle.vc_plan.specs.Orders.{are_apart}
use Rattle.vc_plan.specs.Pieces.{lies_in, lies_in_some}
use Rattle.vc_plan.specs.Seen.{Seen, says}
use Rattle.vc_plan.specs.TableRows.{rows_of, is_possible, is_possible_in, columns_of, other_columns, has_grain}
use Rattle.vc_plan.specs.TableRows.{has_cell, missing_grains, first_cell, value_if, agreed, narrowed}
use Rattle.vc_plan.specs.Valid.{IsValid}
use Rattle.vc_plan_values.proofs.TermLemmas.{PassesIf, all_get}
use Rattle.vc_rule_yield.specs.Yielding.{Conclusion}
use Rattle.vc_rule_premises.specs.Saying.{concluding, clash_when}
use Rattle.vc_rule_table.specs.Laws.{premises_at_most, IsFew, TableIsFew}
use Rattle.vc_rule_table.specs.Reasons.{cell_reasons, operand_reasons, misfit_reasons, row_reasons, rows_reasons}
use Rattle.vc_rule_table.specs.TableSaid.{grain_out, cell_agreed, concluded_for, concluded_newly}
use Rattle.vc_rule_table.proofs.CellLemmas.{element_after}
use Rattle.vc_rule_table.proofs.FollowingLaws.{all_kept, all_joined}

-- as many numbers pass as elements do, where others come before
pub numbers_counted : (test : Piece → Bool) (before after : List Piece)
    → length (filter (λ g. passes test (slice_get (before ++ after) g)) (range_with_len (length before) (length after)))
    ≡ length (filter test after)
numbers_counted test before [] = refl
numbers_counted test before (x ∷ after) =
    let rest
    = filter (λ g. passes test (slice_get (before ++ x ∷ after) g))
    (range_with_len (length before + 1) (length after)) in
    let whole : before ++ x ∷ after ≡ (before ++ x ∷ []) ++ after = sym (append_assoc before (x ∷ []) after) in
    let long : length (before ++ x ∷ []) ≡ length before + 1 = length-append before (x ∷ []) in
    let first : passes test (slice_get (before ++ x ∷ after) (length before)) ≡ test x
    = ap (passes test) (element_after before after x) in
    let later : length rest ≡ length (filter test after) =
    ap (λ xs. length (filter (λ g. passes test (slice_get xs g)) (range_with_len (length before + 1) (length after))))
    whole
    ∙ (ap (λ n. length (filter (λ g. passes test (slice_get ((before ++ x ∷ []) ++ after) g))
    (range_with_len n (length after)))) (sym long)
    ∙ numbers_counted test (before ++ x ∷ []) after) in
    ap (λ b. length (cond b (length before ∷ rest) rest)) first
    ∙ elim (test x) as (λ b. length (cond b (length before ∷ rest) rest)
    ≡ length (cond b (x ∷ filter test after) (filter test after))) [
      | true ↦ ap suc later
      | false ↦ later
    ]

-- texts that are apart hold a text at most once
none_text : (t s : ℕ) (texts : List ℕ) → s ≡ t → list_any (λ u. s == u) texts ≡ false
    → filter (lies_in (Text t)) (map OneText texts) ≡ []
none_text t s [] e h = refl
none_text t s (u ∷ texts) e h =
    let p : ((s == u) ≡ false) × (list_any (λ w. s == w) texts ≡ false)
    = or_parts (s == u) (list_any (λ w. s == w) texts) h in
    elim (u == t) as (λ b. (u == t) ≡ b
    → cond b (OneText u ∷ filter (lies_in (Text t)) (map OneText texts))
    (filter (lies_in (Text t)) (map OneText texts)) ≡ []) [
      | true ↦ λ q. absurd (both (eq-eqb s u (e ∙ sym (eqb-true u t q))) p.0)
      | false ↦ λ q. none_text t s texts e p.1
    ] refl

text_once : (t : ℕ) (texts : List ℕ) → are_apart (λ s u. s == u) texts ≡ true
    → length (filter (lies_in (Text t)) (map OneText texts)) ≤ 1
text_once t [] h = omega arith
text_once t (s ∷ texts) h =
    let p : (not (list_any (λ u. s == u) texts) ≡ true) × (are_apart (λ w u. w == u) texts ≡ true) =
    and_parts (not (list_any (λ u. s == u) texts)) (are_apart (λ w u. w == u) texts) h in
    let rest = filter (lies_in (Text t)) (map OneText texts) in
    elim (s == t) as (λ b. (s == t) ≡ b → length (cond b (OneText s ∷ rest) rest) ≤ 1) [
      | true ↦ λ q.
          let none : length rest ≡ 0
          = ap length (none_text t s texts (eqb-true s t q) (not-true (list_any (λ u. s == u) texts) p.0)) in
          omega arith
      | false ↦ λ q. text_once t texts p.1
    ] refl

-- grains that ascend hold a number at most once
apart_above : (n : Dec) (grain later : Grain) → holds n grain ≡ true
    → lt_z grain.high.millionths later.low.millionths ≡ true → holds n later ≡ false
apart_above n grain later h k = grind (arith, ints)

none_number : (n : Dec) (grain : Grain) (grains : List Grain) → holds n grain ≡ true
    → list_all (λ later. is_below later.low grain) grains ≡ true
    → filter (lies_in (Num n)) (map Stretch grains) ≡ []
none_number n grain [] e h = refl
none_number n grain (later ∷ grains) e h =
    let p : (is_below later.low grain ≡ true) × (list_all (λ other. is_below other.low grain) grains ≡ true) =
    and_parts (is_below later.low grain) (list_all (λ other. is_below other.low grain) grains) h in
    let rest = filter (lies_in (Num n)) (map Stretch grains) in
    ap (λ b. cond b (Stretch later ∷ rest) rest) (apart_above n grain later e p.0) ∙ none_number n grain grains e p.1

number_once : (n : Dec) (grains : List Grain) → is_ascending grains ≡ true
    → length (filter (lies_in (Num n)) (map Stretch grains)) ≤ 1
number_once n [] h = omega arith
number_once n (grain ∷ grains) h =
    let p : (is_ordered grain ≡ true)
    × ((list_all (λ later. is_below later.low grain) grains && is_ascending grains) ≡ true) =
    and_parts (is_ordered grain) (list_all (λ later. is_below later.low grain) grains && is_ascending grains) h in
    let q : (list_all (λ later. is_below later.low grain) grains ≡ true) × (is_ascending grains ≡ true) =
    and_parts (list_all (λ later. is_below later.low grain) grains) (is_ascending grains) p.1 in
    let rest = filter (lies_in (Num n)) (map Stretch grains) in
    elim (holds n grain) as (λ b. holds n grain ≡ b → length (cond b (Stretch grain ∷ rest) rest) ≤ 1) [
      | true ↦ λ e. let none : length rest ≡ 0 = ap length (none_number n grain grains e q.0) in omega arith
      | false ↦ λ e. number_once n grains q.1
    ] refl

-- a text lies in no stretch, and a number is no text
text_no_number : (t : ℕ) (grains : List Grain) → filter (lies_in (Text t)) (map Stretch grains) ≡ []
text_no_number t [] = refl
text_no_number t (grain ∷ grains) = text_no_number t grains

number_no_text : (n : Dec) (texts : List ℕ) → filter (lies_in (Num n)) (map OneText texts) ≡ []
number_no_text n [] = refl
number_no_text n (text ∷ texts) = number_no_text n texts

held_once : (domain : Domain) (a : Value) → is_proper domain ≡ true
    → length (filter (lies_in a) (grains_in (Some domain))) ≤ 1
held_once (Texts texts) (Text t) h = text_once t texts h
held_once (Texts texts) (Num n) h = let none : length (filter (lies_in (Num n)) (map OneText texts))
    ≡ 0 = ap length (number_no_text n texts) in omega arith
held_once (Nums decimals grains) (Text t) h =
    let none : length (filter (lies_in (Text t)) (map Stretch grains)) ≡ 0
    = ap length (text_no_number t grains) in omega arith
held_once (Nums decimals grains) (Num n) h =
    let p : (is_ascending grains ≡ true)
    × (list_all (λ grain. has_decimals decimals grain.low && has_decimals decimals grain.high) grains ≡ true) =
    and_parts (is_ascending grains)
    (list_all (λ grain. has_decimals decimals grain.low && has_decimals decimals grain.high) grains) h in
    number_once n grains p.0

pub variable_holds_once : (plan : Plan) → list_all is_proper plan.domains ≡ true → (o : Option Var) (a : Value)
    → length (filter (lies_in a) (grains_in (domain_of plan o))) ≤ 1
variable_holds_once plan proper None a = omega arith
variable_holds_once plan proper (Some x) a =
    by (slice_get plan.domains x.domain) (all_get is_proper plan.domains x.domain proper)
  where
    by : (d : Option Domain) → PassesIf is_proper d → length (filter (lies_in a) (grains_in d)) ≤ 1
    by None h = omega arith
    by (Some domain) h = held_once domain a h

-- so a row has at most one reason
few_of_cell : (plan : Plan) → IsValid plan → (v : ℕ) (a : Value) (o : Option Value)
    → length (cell_reasons plan v a o) ≤ 1
few_of_cell plan valid v a None =
    let those = filter (is_grain_with plan v (lies_in a)) (numbers_below (count_of plan v)) in
    let same : length (map (Out v) those) ≡ length those = length-map those (Out v) in
    let counted : length those ≡ length (filter (lies_in a) (grains_of plan v))
    = numbers_counted (lies_in a) [] (grains_of plan v) in
    let once = variable_holds_once plan valid.proper (slice_get plan.vars v) a in
    omega arith
few_of_cell plan valid v a (Some b) = omega arith

few_of_operand : (plan : Plan) → IsValid plan → (seen : Seen) (operand : Operand) (cell : Option Value)
    → length (operand_reasons plan seen operand cell) ≤ 1
few_of_operand plan valid seen (Constant b) cell = omega arith
few_of_operand plan valid seen (Variable v) None = omega arith
few_of_operand plan valid seen (Variable v) (Some a) = few_of_cell plan valid v a (seen.value v)

few_of_misfit : (plan : Plan) → IsValid plan → (seen : Seen) (row : List Value) (o : Option Binding)
    → length (misfit_reasons plan seen row o) ≤ 1
few_of_misfit plan valid seen row None = omega arith
few_of_misfit plan valid seen row (Some column) =
    few_of_operand plan valid seen column.operand (slice_get row column.column)

few_of_rows : (plan : Plan) → IsValid plan → (seen : Seen) (columns : List Binding) (rows : List (List Value))
    → length (rows_reasons plan seen columns rows) ≤ length rows
few_of_rows plan valid seen columns [] = omega arith
few_of_rows plan valid seen columns (row ∷ rows) =
    let long : length (rows_reasons plan seen columns (row ∷ rows))
    ≡ length (row_reasons plan seen columns row) + length (rows_reasons plan seen columns rows) =
    length-append (row_reasons plan seen columns row) (rows_reasons plan seen columns rows) in
    let one : length (row_reasons plan seen columns row) ≤ 1 =
    few_of_misfit plan valid seen row (find (λ column. not (is_possible plan seen row column)) columns) in
    let more : length (rows_reasons plan seen columns rows) ≤ length rows = few_of_rows plan valid seen columns rows in
    omega arith

abbrev HasFew : Plan → ℕ → List Binding → Conclusion → Type 0
HasFew plan table columns c = length c.premises ≤ premises_at_most plan table columns c.atom

few_grains_out : (plan : Plan) → IsValid plan → (seen : Seen) (table : ℕ) (columns : List Binding) (v : ℕ) (gs : List ℕ)
    → AllByRecursion (HasFew plan table columns) (map (grain_out plan seen (rows_of plan table) columns v) gs)
few_grains_out plan valid seen table columns v [] = tt
few_grains_out plan valid seen table columns v (g ∷ gs) = (
  few_of_rows plan valid seen (other_columns v columns)
      (filter (has_grain plan v (columns_of v columns) g) (rows_of plan table)),
  few_grains_out plan valid seen table columns v gs,
)

few_agreed : (plan : Plan) → IsValid plan
    → (seen : Seen) (table : ℕ) (columns : List Binding) (v : ℕ) (rows : List (List Value))
    → AllByRecursion (HasFew plan table columns)
    (map (cell_agreed plan seen (rows_of plan table) columns v) (agreed plan v (columns_of v columns) rows))
few_agreed plan valid seen table columns v [] = tt
few_agreed plan valid seen table columns v (row ∷ rows) = by (first_cell (columns_of v columns) row)
  where
    test : Value → Bool
    test a = list_all (has_cell (columns_of v columns) a) (row ∷ rows) && lies_in_some (grains_of plan v) a

    by : (o : Option Value)
        → AllByRecursion (HasFew plan table columns)
        (map (cell_agreed plan seen (rows_of plan table) columns v) (value_if test v o))
    by None = tt
    by (Some a) =
        elim (test a) as (λ b. AllByRecursion (HasFew plan table columns)
        (map (cell_agreed plan seen (rows_of plan table) columns v) (cond b (Is v a ∷ []) []))) [
          | true ↦ (few_of_rows plan valid seen (other_columns v columns) (rows_of plan table), tt)
          | false ↦ tt
        ]

few_concluded : (plan : Plan) → IsValid plan → (seen : Seen) (table : ℕ) (columns : List Binding) (vs : List ℕ)
    → AllByRecursion (HasFew plan table columns) (flat_map (concluded_newly plan seen (rows_of plan table) columns) vs)
few_concluded plan valid seen table columns [] = tt
few_concluded plan valid seen table columns (v ∷ vs) =
    let rows = rows_of plan table in
    let possible = filter (is_possible_in plan seen (other_columns v columns)) rows in
    let own = columns_of v columns in
    all_joined (HasFew plan table columns) (concluded_newly plan seen rows columns v)
    (flat_map (concluded_newly plan seen rows columns) vs)
    (all_kept (HasFew plan table columns) (λ c. not (says seen c.atom)) (concluded_for plan seen rows columns v)
    (elim (is_restrictable plan v) as (λ b. AllByRecursion (HasFew plan table columns)
    (cond b (map (grain_out plan seen rows columns v) (missing_grains plan v own possible))
    (map (cell_agreed plan seen rows columns v) (agreed plan v own possible)))) [
      | true ↦ few_grains_out plan valid seen table columns v (missing_grains plan v own possible)
      | false ↦ few_agreed plan valid seen table columns v possible
    ]))
    (few_concluded plan valid seen table columns vs)

pub table_is_few : TableIsFew
table_is_few plan seen rule table columns valid =
    let rows = rows_of plan table in
    elim (not (list_any (is_possible_in plan seen columns) rows)) as (λ b. IsFew plan table columns
    (clash_when b (rows_reasons plan seen columns rows)
    (concluding (flat_map (concluded_newly plan seen rows columns) (narrowed rule columns))))) [
      | true ↦ few_of_rows plan valid seen columns rows
      | false ↦ few_concluded plan valid seen table columns (narrowed rule columns)
    ]
