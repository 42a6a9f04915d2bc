-- Items and operations ascend, and so do the entries of a NUM, which have its decimals.
use Rattle.std.proofs.Common.{◌≡◌, ℕ, zero, suc, ◌+◌, ◌-◌, Bool, true, false, ◌&&◌, nat_lt, List, []}
use Rattle.std.proofs.Common.{◌∷◌, ◌++◌, length, map, get_or, option_to_list, Option, Some, None, if◌then◌else◌}
use Rattle.std.proofs.Common.{refl, sym, ap, subst, ◌∙◌, append-nil, arith}
use Rattle.std.specs.Prelude.{is_none, is_some, slice_get, unwrap_or}
use Rattle.std.specs.List.{list_all}
use Rattle.std.specs.Int.Signed.{le_z}
use Rattle.std.proofs.lemmas.Bool.{and_parts, and_from, not-false}
use Rattle.std.proofs.lemmas.Bool.{ltb-true, lt-ltb}
use Rattle.std.proofs.lemmas.List.{map-append, map-id, length-map}
use Rattle.std.proofs.lemmas.List.Folds.{list_all-append}
use Rattle.vc_value.specs.declared.decimal.Dec.{Dec}
use Rattle.vc_value.specs.declared.grains.Grain.{Grain}
use Rattle.vc_value.specs.Grains.{has_decimals, is_ascending, is_below}
use Rattle.vc_value.proofs.GrainLemmas.{ascending_more, last_below}
use Rattle.vc_model_lines.specs.declared.line.Line.{Line}
use Rattle.vc_model_lines.specs.declared.line.Line.TheVariants as lines
use Rattle.vc_model_lines.specs.declared.line.BillLine.{BillLine}
use Rattle.vc_model_lines.specs.declared.line.IntervalLine.{IntervalLine}
use Rattle.vc_model_lines.specs.declared.line.NumLine.{NumLine}
use Rattle.vc_model_lines.specs.declared.line.OperationLine.{OperationLine}
use Rattle.vc_model_scope.specs.Contents.{entry_of}
use Rattle.vc_model_scope.specs.Contents.{item_of, operation_of}
use Rattle.vc_model_scope.specs.Entries.{last_entry, with_entry}
use Rattle.vc_model_scope.specs.Recursions.{last_said, listed, with_last, with_option}
use Rattle.vc_model_scope.specs.Scope.{scope_of}
use Rattle.vc_model_scope.specs.Stands.{under_at, opens}
use Rattle.vc_model_scope.specs.declared.entries.Interval.{Interval}
use Rattle.vc_model_scope.specs.declared.scope.Scope.{Scope}
use Rattle.vc_model_scope.specs.declared.stands.Under.{Under}
use Rattle.vc_model_scope.specs.declared.stands.Under.TheVariants as unders
use Rattle.vc_model_faults.specs.Values.{ends_have_decimals, entry_ascends, entry_fits, exceeds, follows, interval_fits}
use Rattle.vc_model_faults.specs.Values.{is_bad, last_of, lies_above}
use Rattle.vc_model_parts.specs.Headers.{grain_of}
use Rattle.vc_model_parts.specs.declared.parts.NumberValue.{NumberValue}
use Rattle.vc_model_drafts.specs.Models.{until}
use Rattle.vc_model_drafts.specs.Models.{number_at}
use Rattle.vc_plan.specs.Orders.{are_in_order}
use Rattle.vc_model_laws.specs.Lists.{are_proper}
use Rattle.vc_model_laws.proofs.LineCases.{num_made}
use Rattle.vc_model_laws.proofs.ListingLaws.{entry_add, last_added}
use Rattle.vc_model_laws.proofs.MadeLaws.{ends_of, numbers_made}
use Rattle.vc_model_laws.proofs.NameCases.{by_entry, by_item, by_operation}
use Rattle.vc_model_laws.proofs.Walks.{Passes, Sound, Stands, said, until_keeps, until_maps}

minus_one : (n : ℕ) → suc n - 1 ≡ n
minus_one n = omega arith

-- numbers that each exceed the one before ascend
abbrev pub Ascends : List ℕ → Type 0
Ascends numbers = are_in_order nat_lt numbers ≡ true

all_below : (numbers : List ℕ) (n : ℕ) → Ascends numbers → exceeds (last_of numbers) n ≡ true
    → list_all (λ k. nat_lt k n) numbers ≡ true
all_below [] n h e = refl
all_below (first ∷ []) n h e = and_from (nat_lt first n) true e refl
all_below (first ∷ second ∷ numbers) n h e =
    let parts = and_parts (list_all (nat_lt first) (second ∷ numbers)) (are_in_order nat_lt (second ∷ numbers)) h in
    let last = ap (λ (k : ℕ). exceeds (slice_get (second ∷ numbers) k) n) (minus_one (length numbers))
    ∙ sym (ap (λ (k : ℕ). exceeds (slice_get (first ∷ second ∷ numbers) k) n) (minus_one (suc (length numbers)))) ∙ e in
    let rest = all_below (second ∷ numbers) n parts.1 last in
    let one = ltb-true first second (and_parts (nat_lt first second) (list_all (nat_lt first) numbers) parts.0).0 in
    let two = ltb-true second n (and_parts (nat_lt second n) (list_all (λ k. nat_lt k n) numbers) rest).0 in
    and_from (nat_lt first n) (list_all (λ k. nat_lt k n) (second ∷ numbers))
    (lt-ltb first n (omega (arith, one, two))) rest

order_push : (numbers : List ℕ) (n : ℕ) → Ascends numbers → list_all (λ k. nat_lt k n) numbers ≡ true
    → Ascends (numbers ++ n ∷ [])
order_push [] n h b = refl
order_push (first ∷ numbers) n h b =
    let parts = and_parts (list_all (nat_lt first) numbers) (are_in_order nat_lt numbers) h in
    let below = and_parts (nat_lt first n) (list_all (λ k. nat_lt k n) numbers) b in
    and_from (list_all (nat_lt first) (numbers ++ n ∷ [])) (are_in_order nat_lt (numbers ++ n ∷ []))
    (list_all-append (nat_lt first) numbers (n ∷ [])
    ∙ and_from (list_all (nat_lt first) numbers) (nat_lt first n && true) parts.0
    (and_from (nat_lt first n) true below.0 refl))
    (order_push numbers n parts.1 below.1)

follows_on : (numbers : List ℕ) (o : Option ℕ) → Ascends numbers → follows numbers o ≡ true
    → Ascends (numbers ++ option_to_list o)
follows_on numbers None h f = absurd (cc)
follows_on numbers (Some n) h f = order_push numbers n h (all_below numbers n h f)

-- things are in order where their numbers are
pub order_map : {X : Type 0} (f : X → ℕ) (xs : List X)
    → are_in_order (λ a b. nat_lt (f a) (f b)) xs ≡ are_in_order nat_lt (map f xs)
order_map f [] = refl
order_map {X = X} f (x ∷ xs) =
    ap (λ b. b && are_in_order (λ a b. nat_lt (f a) (f b)) xs) (all_map xs)
    ∙ ap (λ b. list_all (nat_lt (f x)) (map f xs) && b) (order_map f xs)
  where
    all_map : (ys : List X) → list_all (λ y. nat_lt (f x) (f y)) ys ≡ list_all (nat_lt (f x)) (map f ys)
    all_map [] = refl
    all_map (y ∷ ys) = ap (λ b. nat_lt (f x) (f y) && b) (all_map ys)

item_follows : (earlier : List Line) (x : BillLine) → is_bad (scope_of earlier) (lines.Bill x) ≡ false
    → follows (listed with_last opens item_of earlier) x.item ≡ true
unfolding is_bad scope_of
item_follows earlier x fit = not-false (follows (listed with_last opens item_of earlier) x.item) fit

item_ascends : (earlier : List Line) (line : Line) (below : List Line) → Passes (scope_of earlier) line below
    → opens line ≡ false
    → Ascends (listed with_last opens item_of earlier) → Ascends (listed with_last opens item_of (line ∷ earlier))
item_ascends earlier line below p going h =
    let xs = listed with_last opens item_of earlier in
    subst Ascends (sym (ap (λ b. if b then [] else with_option with_last xs (item_of line)) going
    ∙ last_added xs (item_of line)))
    (by_item (scope_of earlier) line below (λ o. Ascends (xs ++ option_to_list o))
    (subst Ascends (sym (append-nil xs)) h)
    (λ x q. follows_on xs x.item h (item_follows earlier x q.fit)) p)

pub items_ascend : (earlier ls : List Line) → Sound earlier ls → listed with_last opens item_of earlier ≡ []
    → Ascends (said opens item_of ls)
items_ascend earlier ls s e =
    let kept = until_keeps with_last opens item_of (λ earlier. Ascends (listed with_last opens item_of earlier))
    item_ascends
    (λ earlier line below p going h. last_added (listed with_last opens item_of earlier) (item_of line)) earlier ls s
    (subst Ascends (sym e) refl) in
    subst Ascends (kept.2 ∙ ap (λ xs. xs ++ said opens item_of ls) e) kept.1

operation_follows : (earlier : List Line) (x : OperationLine) → is_bad (scope_of earlier) (lines.Operation x) ≡ false
    → follows (listed with_last opens operation_of earlier) x.number ≡ true
unfolding is_bad scope_of
operation_follows earlier x fit = not-false (follows (listed with_last opens operation_of earlier) x.number) fit

operation_ascends : (earlier : List Line) (line : Line) (below : List Line) → Passes (scope_of earlier) line below
    → opens line ≡ false
    → Ascends (listed with_last opens operation_of earlier)
    → Ascends (listed with_last opens operation_of (line ∷ earlier))
operation_ascends earlier line below p going h =
    let xs = listed with_last opens operation_of earlier in
    subst Ascends (sym (ap (λ b. if b then [] else with_option with_last xs (operation_of line)) going
    ∙ last_added xs (operation_of line)))
    (by_operation (scope_of earlier) line below (λ o. Ascends (xs ++ option_to_list o))
    (subst Ascends (sym (append-nil xs)) h)
    (λ x q. follows_on xs x.number h (operation_follows earlier x q.fit)) p)

pub operations_ascend : (earlier ls : List Line) → Sound earlier ls → listed with_last opens operation_of earlier ≡ []
    → Ascends (said opens operation_of ls)
operations_ascend earlier ls s e =
    let kept = until_keeps with_last opens operation_of
    (λ earlier. Ascends (listed with_last opens operation_of earlier)) operation_ascends
    (λ earlier line below p going h. last_added (listed with_last opens operation_of earlier) (operation_of line))
    earlier ls s (subst Ascends (sym e) refl) in
    subst Ascends (kept.2 ∙ ap (λ xs. xs ++ said opens operation_of ls) e) kept.1

-- entries ascend, and have the decimals of their line
abbrev grain_at : Interval → Grain
grain_at entry = record { low = entry.low; high = entry.high }

abbrev pub has_ends : ℕ → Grain → Bool
has_ends decimals grain = has_decimals decimals grain.low && has_decimals decimals grain.high

abbrev IsProper : ℕ → List Interval → Type 0
IsProper decimals entries = (is_ascending (map grain_at entries) ≡ true)
    × (list_all (has_ends decimals) (map grain_at entries) ≡ true)

last_at : (entries : List Interval) (k : ℕ) (entry : Interval) (d : Grain) → slice_get entries k ≡ Some entry
    → get_or (map grain_at entries) k d ≡ grain_at entry
last_at [] k entry d e = absurd (cc)
last_at (first ∷ entries) zero entry d e = let same : first ≡ entry = cc in ap grain_at same
last_at (first ∷ entries) (suc k) entry d e = last_at entries k entry d e

last_missing : (entries : List Interval) → last_entry entries ≡ None → entries ≡ []
last_missing [] e = refl
last_missing (first ∷ entries) e = absurd
    (gone first entries (sym (ap (slice_get (first ∷ entries)) (minus_one (length entries))) ∙ e))
  where
    gone : (first : Interval) (entries : List Interval) → slice_get (first ∷ entries) (length entries) ≡ None → ⊥
    gone first [] e = cc
    gone first (second ∷ entries) e = gone second entries e

lies_last : (entries : List Interval) (low : Dec) → is_ascending (map grain_at entries) ≡ true
    → lies_above (last_entry entries) low ≡ true
    → list_all (is_below low) (map grain_at entries) ≡ true
lies_last [] low h l = refl
lies_last (first ∷ entries) low h l = by (last_entry (first ∷ entries)) refl l
  where
    all : List Interval
    all = first ∷ entries

    same_end : length (map grain_at all) - 1 ≡ length all - 1
    same_end = ap (λ n. n - 1) (length-map all grain_at)

    by : (o : Option Interval) → last_entry all ≡ o → lies_above o low ≡ true
        → list_all (is_below low) (map grain_at all) ≡ true
    by None is l = absurd (let none : first ∷ entries ≡ [] = last_missing all is in cc)
    by (Some entry) is l =
        let d : Grain = grain_at first in
        let at : get_or (map grain_at all) (length (map grain_at all) - 1) d ≡ grain_at entry =
        ap (λ k. get_or (map grain_at all) k d) same_end ∙ last_at all (length all - 1) entry d is in
        sym (last_below low (map grain_at all) d h (omega (arith, length-map all grain_at))) ∙ ap (is_below low) at ∙ l

-- whether an entry is there and fits behind others
abbrev fits_at : ℕ → List Interval → Option Interval → Bool
fits_at decimals entries None = false
fits_at decimals entries (Some entry) = ends_have_decimals decimals entry && entry_ascends (last_entry entries) entry

entry_more : (decimals : ℕ) (entries : List Interval) (o : Option Interval) → IsProper decimals entries
    → fits_at decimals entries o ≡ true → IsProper decimals (entries ++ option_to_list o)
entry_more decimals entries None p f = absurd (cc)
entry_more decimals entries (Some entry) p f =
    let parts = and_parts (ends_have_decimals decimals entry) (entry_ascends (last_entry entries) entry) f in
    let order = and_parts (le_z entry.low.millionths entry.high.millionths) (lies_above (last_entry entries) entry.low)
    parts.1 in
    let joined = sym (map-append grain_at entries (entry ∷ [])) in (
      subst (λ gs. is_ascending gs ≡ true) joined
          (ascending_more (map grain_at entries) (grain_at entry) p.0 (lies_last entries entry.low p.0 order.1)
          order.0),
      subst (λ gs. list_all (has_ends decimals) gs ≡ true) joined
          (list_all-append (has_ends decimals) (map grain_at entries) (grain_at entry ∷ [])
          ∙ and_from (list_all (has_ends decimals) (map grain_at entries)) (has_ends decimals (grain_at entry) && true)
          p.1
          (and_from (has_ends decimals (grain_at entry)) true parts.0 refl)),
    )

-- what lines below a line stand under
abbrev pub Stood : List Line → Under
Stood earlier = last_said unders.Nothing under_at earlier

pub under_stays : (earlier : List Line) (line : Line) (under : Under) → opens line ≡ false → Stood earlier ≡ under
    → Stood (line ∷ earlier) ≡ under
under_stays earlier line under going h = by (under_at line) refl
  where
    by : (o : Option Under) → under_at line ≡ o → unwrap_or o (Stood earlier) ≡ under
    by None is = h
    by (Some other) is = absurd (let told : true ≡ false = ap (λ o. is_some o) (sym is) ∙ going in cc)

interval_is : (earlier : List Line) (x : IntervalLine) (decimals : ℕ)
    → is_bad (scope_of earlier) (lines.Interval x) ≡ false
    → Stood earlier ≡ unders.Num (Some decimals)
    → fits_at decimals (listed with_entry opens entry_of earlier) (entry_of (lines.Interval x)) ≡ true
unfolding is_bad scope_of
interval_is earlier x decimals fit under =
    by (entry_of (lines.Interval x)) (not-false
    (interval_fits (scope_of earlier).standing (entry_of (lines.Interval x))) fit)
  where
    by : (o : Option Interval) → interval_fits (scope_of earlier).standing o ≡ true
        → fits_at decimals (listed with_entry opens entry_of earlier) o ≡ true
    by None h = h
    by (Some entry) h = ap (λ u. entry_fits u (last_entry (listed with_entry opens entry_of earlier)) entry)
        (sym under) ∙ h

abbrev Fits : ℕ → List Line → Type 0
Fits decimals earlier = (Stood earlier ≡ unders.Num (Some decimals)) × IsProper decimals
    (listed with_entry opens entry_of earlier)

entries_fit : (decimals : ℕ) (earlier : List Line) (line : Line) (below : List Line)
    → Passes (scope_of earlier) line below → opens line ≡ false
    → Fits decimals earlier → Fits decimals (line ∷ earlier)
entries_fit decimals earlier line below p going h =
    let xs = listed with_entry opens entry_of earlier in
    let here = ap (λ b. if b then [] else with_option with_entry xs (entry_of line)) going
    ∙ entry_add earlier line below p in (
      under_stays earlier line (unders.Num (Some decimals)) going h.0,
      subst (IsProper decimals) (sym here)
          (by_entry (scope_of earlier) line below (λ o. IsProper decimals (xs ++ option_to_list o))
          (subst (IsProper decimals) (sym (append-nil xs)) h.1)
          (λ x q. entry_more decimals xs (entry_of (lines.Interval x)) h.1 (interval_is earlier x decimals q.fit h.0))
          p),
    )

said_proper : (decimals : ℕ) (earlier ls : List Line) → Sound earlier ls → Stood earlier ≡ unders.Num (Some decimals)
    → listed with_entry opens entry_of earlier ≡ [] → IsProper decimals (said opens entry_of ls)
said_proper decimals earlier ls s u e =
    let kept = until_keeps with_entry opens entry_of (Fits decimals) (entries_fit decimals)
    (λ earlier line below p going h. entry_add earlier line below p) earlier ls s
    (u, subst (IsProper decimals) (sym e) (refl, refl)) in
    subst (IsProper decimals) (kept.2 ∙ ap (λ xs. xs ++ said opens entry_of ls) e) kept.1.1

-- the values of a NUM
same_grains : (entries : List Interval) (values : List NumberValue) → map ends_of values ≡ map (λ e. e) entries
    → map grain_of values ≡ map grain_at entries
same_grains entries values e =
    turned values ∙ ap (map grain_at) (e ∙ map-id entries)
  where
    turned : (values : List NumberValue) → map grain_of values ≡ map grain_at (map ends_of values)
    turned [] = refl
    turned (value ∷ values) = ap (λ gs. grain_of value ∷ gs) (turned values)

decimals_there : (scope : Scope) (x : NumLine) → is_bad scope (lines.Num x) ≡ false → is_none x.decimals ≡ false
unfolding is_bad
decimals_there scope x fit = fit

pub numbers_proper : (a : Scope) (all earlier : List Line) (n : ℕ) (x : NumLine) (below : List Line)
    → Stands all earlier (lines.Num x) below
    → are_proper (num_made a n x below).values ≡ true
numbers_proper a all earlier n x below s = by x.decimals refl (decimals_there (scope_of earlier) x s.passes.fit)
  where
    values : List NumberValue
    values = until opens (number_at a) (n + 1) below

    grains : map grain_of values ≡ map grain_at (said opens entry_of below)
    grains = same_grains (said opens entry_of below) values
        (until_maps opens (number_at a) ends_of entry_of (λ e. e) (λ e n l b p. numbers_made a n l b)
        (lines.Num x ∷ earlier) (n + 1) below s.after)

    by : (o : Option ℕ) → x.decimals ≡ o → is_none o ≡ false
        → (is_ascending (map grain_of values) && list_all (has_ends (unwrap_or x.decimals 0)) (map grain_of values))
        ≡ true
    by None is none = absurd (cc)
    by (Some decimals) is none =
        let proper = said_proper decimals (lines.Num x ∷ earlier) below s.after (ap unders.Num is) refl in
        let of : unwrap_or x.decimals 0 ≡ decimals = ap (λ o. unwrap_or o 0) is in
        and_from (is_ascending (map grain_of values))
        (list_all (has_ends (unwrap_or x.decimals 0)) (map grain_of values))
        (ap is_ascending grains ∙ proper.0)
        (ap (λ k. list_all (has_ends k) (map grain_of values)) of ∙ ap (list_all (has_ends decimals)) grains ∙ proper.1)
