-- What lines list below another is added each time, and is no more than may be.
use Rattle.std.proofs.Common.{◌≡◌, ℕ, ◌+◌, ◌<◌, ◌≤◌, Bool, true, false, not, nat_le, List, [], ◌∷◌, ◌++◌, length, map}
use Rattle.std.proofs.Common.{option_to_list, Option, Some, None, if◌then◌else◌}
use Rattle.std.proofs.Common.{refl, sym, ap, subst, ◌∙◌, append-nil, length-append, arith}
use Rattle.std.specs.List.{cons_option}
use Rattle.std.proofs.lemmas.Bool.{not_from_false, not-true, leb-false}
use Rattle.std.proofs.lemmas.List.{length-map}
use Rattle.vc_model_lines.specs.declared.line.Line.{Line}
use Rattle.vc_model_lines.specs.declared.line.Line.TheVariants as lines
use Rattle.vc_model_lines.specs.declared.line.BillLine.{BillLine}
use Rattle.vc_model_lines.specs.declared.line.BlockLine.{BlockLine}
use Rattle.vc_model_lines.specs.declared.line.CharLine.{CharLine}
use Rattle.vc_model_lines.specs.declared.line.ColumnLine.{ColumnLine}
use Rattle.vc_model_lines.specs.declared.line.IntervalLine.{IntervalLine}
use Rattle.vc_model_lines.specs.declared.line.NumLine.{NumLine}
use Rattle.vc_model_lines.specs.declared.line.ObjectLine.{ObjectLine}
use Rattle.vc_model_lines.specs.declared.line.OperationLine.{OperationLine}
use Rattle.vc_model_lines.specs.declared.line.TableLine.{TableLine}
use Rattle.vc_model_scope.specs.Contents.{characteristic_of, class_of, table_of, object_of, net_of, dependency_of}
use Rattle.vc_model_scope.specs.Contents.{text_of, entry_of, member_of, column_of, use_of, item_of, operation_of}
use Rattle.vc_model_scope.specs.Entries.{with_entry}
use Rattle.vc_model_scope.specs.Names.{is_among, with_name, place_of}
use Rattle.vc_model_scope.specs.Recursions.{declared, listed, with_last, with_option}
use Rattle.vc_model_scope.specs.Scope.{scope_of}
use Rattle.vc_model_scope.specs.Stands.{opens, ends_uses}
use Rattle.vc_model_scope.specs.declared.entries.Interval.{Interval}
use Rattle.vc_model_scope.specs.declared.scope.Scope.{Scope}
use Rattle.vc_model_faults.specs.First.{backwards}
use Rattle.vc_model_faults.specs.Limits.{is_too_many}
use Rattle.vc_model_faults.specs.Twice.{is_listed, is_twice}
use Rattle.vc_model_drafts.specs.Models.{until, use_at, net_use_at}
use Rattle.vc_model_laws.proofs.DeclaringLaws.{Adds, characteristic_add, class_add, table_add, object_add, net_add}
use Rattle.vc_model_laws.proofs.DeclaringLaws.{dependency_add}
use Rattle.vc_model_laws.proofs.Holding.{each}
use Rattle.vc_model_laws.proofs.NameCases.{by_characteristic, by_class, by_table, by_object, by_net, by_dependency}
use Rattle.vc_model_laws.proofs.NameCases.{by_text, by_entry, by_member, by_column, by_use, by_item, by_operation}
use Rattle.vc_model_laws.proofs.NameLemmas.{put_last}
use Rattle.vc_model_laws.proofs.Walks.{Passes, Sound, said, all_keep, until_keeps}

-- what is added stands there already, or comes last
abbrev pub AddsTo : {K : Type 0} → (List K → K → List K) → List K → Option K → Type 0
AddsTo add xs o = with_option add xs o ≡ xs ++ option_to_list o

once_text : (earlier : List Line) (x : List ℕ) → is_twice (scope_of earlier) (lines.Text x) ≡ false
    → is_among (listed with_name opens text_of earlier) x ≡ false
unfolding is_twice scope_of
once_text earlier x once = once

pub text_add : (earlier : List Line) (line : Line) (below : List Line) → Passes (scope_of earlier) line below
    → AddsTo with_name (listed with_name opens text_of earlier) (text_of line)
text_add earlier line below s =
    let xs = listed with_name opens text_of earlier in
    by_text (scope_of earlier) line below (AddsTo with_name xs) (sym (append-nil xs))
    (λ x p. put_last xs x (once_text earlier x p.once)) s

once_has : (earlier : List Line) (x : List ℕ) → is_twice (scope_of earlier) (lines.Has x) ≡ false
    → is_among (listed with_name opens member_of earlier) x ≡ false
unfolding is_twice scope_of
once_has earlier x once = once

pub member_add : (earlier : List Line) (line : Line) (below : List Line) → Passes (scope_of earlier) line below
    → AddsTo with_name (listed with_name opens member_of earlier) (member_of line)
member_add earlier line below s =
    let xs = listed with_name opens member_of earlier in
    by_member (scope_of earlier) line below (AddsTo with_name xs) (sym (append-nil xs))
    (λ x p. put_last xs x (once_has earlier x p.once)) s

once_column : (earlier : List Line) (x : ColumnLine) → is_twice (scope_of earlier) (lines.Column x) ≡ false
    → is_among (listed with_name opens column_of earlier) x.characteristic ≡ false
unfolding is_twice scope_of
once_column earlier x once = once

pub column_add : (earlier : List Line) (line : Line) (below : List Line) → Passes (scope_of earlier) line below
    → AddsTo with_name (listed with_name opens column_of earlier) (column_of line)
column_add earlier line below s =
    let xs = listed with_name opens column_of earlier in
    by_column (scope_of earlier) line below (AddsTo with_name xs) (sym (append-nil xs))
    (λ x p. put_last xs x.characteristic (once_column earlier x p.once)) s

once_uses : (earlier : List Line) (x : List ℕ) → is_twice (scope_of earlier) (lines.Uses x) ≡ false
    → is_among (listed with_name ends_uses use_of earlier) x ≡ false
unfolding is_twice scope_of
once_uses earlier x once = once

pub use_add : (earlier : List Line) (line : Line) (below : List Line) → Passes (scope_of earlier) line below
    → AddsTo with_name (listed with_name ends_uses use_of earlier) (use_of line)
use_add earlier line below s =
    let xs = listed with_name ends_uses use_of earlier in
    by_use (scope_of earlier) line below (AddsTo with_name xs) (sym (append-nil xs))
    (λ x p. put_last xs x (once_uses earlier x p.once)) s

once_interval : (earlier : List Line) (x : IntervalLine) → is_twice (scope_of earlier) (lines.Interval x) ≡ false
    → is_listed (listed with_entry opens entry_of earlier) (entry_of (lines.Interval x)) ≡ false
unfolding is_twice scope_of
once_interval earlier x once = once

entry_last : (xs : List Interval) (o : Option Interval) → is_listed xs o ≡ false → AddsTo with_entry xs o
entry_last xs None h = sym (append-nil xs)
entry_last xs (Some entry) h = ap (λ b. if b then xs else xs ++ entry ∷ []) h

pub entry_add : (earlier : List Line) (line : Line) (below : List Line) → Passes (scope_of earlier) line below
    → AddsTo with_entry (listed with_entry opens entry_of earlier) (entry_of line)
entry_add earlier line below s =
    let xs = listed with_entry opens entry_of earlier in
    by_entry (scope_of earlier) line below (AddsTo with_entry xs) (sym (append-nil xs))
    (λ x p. entry_last xs (entry_of (lines.Interval x)) (once_interval earlier x p.once)) s

pub last_added : {K : Type 0} (xs : List K) (o : Option K) → AddsTo with_last xs o
last_added xs None = sym (append-nil xs)
last_added xs (Some x) = refl

-- there is room for one more, if one comes
abbrev pub HasRoom : {K : Type 0} → ℕ → List K → Option K → Type 0
HasRoom limit xs o = each (λ x. not (nat_le limit (length xs))) o ≡ true

some_room : {K X : Type 0} (limit : ℕ) (xs : List K) (o : Option X) → nat_le limit (length xs) ≡ false
    → each (λ x. not (nat_le limit (length xs))) o ≡ true
some_room limit xs None h = refl
some_room limit xs (Some x) h = not_from_false (nat_le limit (length xs)) h

few_char : (earlier : List Line) (x : CharLine) → is_too_many (scope_of earlier) (lines.Char x) ≡ false
    → nat_le 2000 (length (declared characteristic_of earlier)) ≡ false
unfolding is_too_many scope_of
few_char earlier x few = few

few_num : (earlier : List Line) (x : NumLine) → is_too_many (scope_of earlier) (lines.Num x) ≡ false
    → nat_le 2000 (length (declared characteristic_of earlier)) ≡ false
unfolding is_too_many scope_of
few_num earlier x few = few

characteristic_room : (earlier : List Line) (line : Line) (below : List Line) → Passes (scope_of earlier) line below
    → HasRoom 2000 (declared characteristic_of earlier) (characteristic_of line)
characteristic_room earlier line below s =
    let xs = declared characteristic_of earlier in
    by_characteristic (scope_of earlier) line below (HasRoom 2000 xs) refl
    (λ x p. some_room 2000 xs (Some x.name) (few_char earlier x p.few))
    (λ x p. some_room 2000 xs (Some x.name) (few_num earlier x p.few))
    s

few_class : (earlier : List Line) (x : List ℕ) → is_too_many (scope_of earlier) (lines.Class x) ≡ false
    → nat_le 500 (length (declared class_of earlier)) ≡ false
unfolding is_too_many scope_of
few_class earlier x few = few

class_room : (earlier : List Line) (line : Line) (below : List Line) → Passes (scope_of earlier) line below
    → HasRoom 500 (declared class_of earlier) (class_of line)
class_room earlier line below s =
    let xs = declared class_of earlier in
    by_class (scope_of earlier) line below (HasRoom 500 xs) refl
    (λ x p. some_room 500 xs (Some x) (few_class earlier x p.few))
    s

few_table : (earlier : List Line) (x : TableLine) → is_too_many (scope_of earlier) (lines.Table x) ≡ false
    → nat_le 200 (length (declared table_of earlier)) ≡ false
unfolding is_too_many scope_of
few_table earlier x few = few

table_room : (earlier : List Line) (line : Line) (below : List Line) → Passes (scope_of earlier) line below
    → HasRoom 200 (declared table_of earlier) (table_of line)
table_room earlier line below s =
    let xs = declared table_of earlier in
    by_table (scope_of earlier) line below (HasRoom 200 xs) refl
    (λ x p. some_room 200 xs (Some x.name) (few_table earlier x p.few))
    s

few_object : (earlier : List Line) (x : ObjectLine) → is_too_many (scope_of earlier) (lines.Object x) ≡ false
    → nat_le 500 (length (declared object_of earlier)) ≡ false
unfolding is_too_many scope_of
few_object earlier x few = few

object_room : (earlier : List Line) (line : Line) (below : List Line) → Passes (scope_of earlier) line below
    → HasRoom 500 (declared object_of earlier) (object_of line)
object_room earlier line below s =
    let xs = declared object_of earlier in
    by_object (scope_of earlier) line below (HasRoom 500 xs) refl
    (λ x p. some_room 500 xs (Some x.material) (few_object earlier x p.few))
    s

few_net : (earlier : List Line) (x : List ℕ) → is_too_many (scope_of earlier) (lines.Net x) ≡ false
    → nat_le 200 (length (declared net_of earlier)) ≡ false
unfolding is_too_many scope_of
few_net earlier x few = few

net_room : (earlier : List Line) (line : Line) (below : List Line) → Passes (scope_of earlier) line below
    → HasRoom 200 (declared net_of earlier) (net_of line)
net_room earlier line below s =
    let xs = declared net_of earlier in
    by_net (scope_of earlier) line below (HasRoom 200 xs) refl
    (λ x p. some_room 200 xs (Some x) (few_net earlier x p.few))
    s

few_block : (earlier : List Line) (x : BlockLine) → is_too_many (scope_of earlier) (lines.Block x) ≡ false
    → nat_le 2000 (length (declared dependency_of earlier)) ≡ false
unfolding is_too_many scope_of
few_block earlier x few = few

dependency_room : (earlier : List Line) (line : Line) (below : List Line) → Passes (scope_of earlier) line below
    → HasRoom 2000 (declared dependency_of earlier) (dependency_of line)
dependency_room earlier line below s =
    let xs = declared dependency_of earlier in
    by_dependency (scope_of earlier) line below (HasRoom 2000 xs) refl
    (λ x p. some_room 2000 xs (Some x.name) (few_block earlier x p.few))
    s

few_text : (earlier : List Line) (x : List ℕ) → is_too_many (scope_of earlier) (lines.Text x) ≡ false
    → nat_le 1000 (length (listed with_name opens text_of earlier)) ≡ false
unfolding is_too_many scope_of
few_text earlier x few = few

text_room : (earlier : List Line) (line : Line) (below : List Line) → Passes (scope_of earlier) line below
    → HasRoom 1000 (listed with_name opens text_of earlier) (text_of line)
text_room earlier line below s =
    let xs = listed with_name opens text_of earlier in
    by_text (scope_of earlier) line below (HasRoom 1000 xs) refl
    (λ x p. some_room 1000 xs (Some x) (few_text earlier x p.few))
    s

few_interval : (earlier : List Line) (x : IntervalLine) → is_too_many (scope_of earlier) (lines.Interval x) ≡ false
    → nat_le 1000 (length (listed with_entry opens entry_of earlier)) ≡ false
unfolding is_too_many scope_of
few_interval earlier x few = few

entry_room : (earlier : List Line) (line : Line) (below : List Line) → Passes (scope_of earlier) line below
    → HasRoom 1000 (listed with_entry opens entry_of earlier) (entry_of line)
entry_room earlier line below s =
    let xs = listed with_entry opens entry_of earlier in
    by_entry (scope_of earlier) line below (HasRoom 1000 xs) refl
    (λ x p. some_room 1000 xs (entry_of (lines.Interval x)) (few_interval earlier x p.few))
    s

few_has : (earlier : List Line) (x : List ℕ) → is_too_many (scope_of earlier) (lines.Has x) ≡ false
    → nat_le 500 (length (listed with_name opens member_of earlier)) ≡ false
unfolding is_too_many scope_of
few_has earlier x few = few

member_room : (earlier : List Line) (line : Line) (below : List Line) → Passes (scope_of earlier) line below
    → HasRoom 500 (listed with_name opens member_of earlier) (member_of line)
member_room earlier line below s =
    let xs = listed with_name opens member_of earlier in
    by_member (scope_of earlier) line below (HasRoom 500 xs) refl
    (λ x p. some_room 500 xs (Some x) (few_has earlier x p.few))
    s

few_column : (earlier : List Line) (x : ColumnLine) → is_too_many (scope_of earlier) (lines.Column x) ≡ false
    → nat_le 20 (length (listed with_name opens column_of earlier)) ≡ false
unfolding is_too_many scope_of
few_column earlier x few = few

column_room : (earlier : List Line) (line : Line) (below : List Line) → Passes (scope_of earlier) line below
    → HasRoom 20 (listed with_name opens column_of earlier) (column_of line)
column_room earlier line below s =
    let xs = listed with_name opens column_of earlier in
    by_column (scope_of earlier) line below (HasRoom 20 xs) refl
    (λ x p. some_room 20 xs (Some x.characteristic) (few_column earlier x p.few))
    s

few_uses : (earlier : List Line) (x : List ℕ) → is_too_many (scope_of earlier) (lines.Uses x) ≡ false
    → nat_le 100 (length (listed with_name ends_uses use_of earlier)) ≡ false
unfolding is_too_many scope_of
few_uses earlier x few = few

use_room : (earlier : List Line) (line : Line) (below : List Line) → Passes (scope_of earlier) line below
    → HasRoom 100 (listed with_name ends_uses use_of earlier) (use_of line)
use_room earlier line below s =
    let xs = listed with_name ends_uses use_of earlier in
    by_use (scope_of earlier) line below (HasRoom 100 xs) refl
    (λ x p. some_room 100 xs (Some x) (few_uses earlier x p.few))
    s

few_bill : (earlier : List Line) (x : BillLine) → is_too_many (scope_of earlier) (lines.Bill x) ≡ false
    → nat_le 1000 (length (listed with_last opens item_of earlier)) ≡ false
unfolding is_too_many scope_of
few_bill earlier x few = few

item_room : (earlier : List Line) (line : Line) (below : List Line) → Passes (scope_of earlier) line below
    → HasRoom 1000 (listed with_last opens item_of earlier) (item_of line)
item_room earlier line below s =
    let xs = listed with_last opens item_of earlier in
    by_item (scope_of earlier) line below (HasRoom 1000 xs) refl
    (λ x p. some_room 1000 xs x.item (few_bill earlier x p.few))
    s

few_operation : (earlier : List Line) (x : OperationLine) → is_too_many (scope_of earlier) (lines.Operation x) ≡ false
    → nat_le 1000 (length (listed with_last opens operation_of earlier)) ≡ false
unfolding is_too_many scope_of
few_operation earlier x few = few

operation_room : (earlier : List Line) (line : Line) (below : List Line) → Passes (scope_of earlier) line below
    → HasRoom 1000 (listed with_last opens operation_of earlier) (operation_of line)
operation_room earlier line below s =
    let xs = listed with_last opens operation_of earlier in
    by_operation (scope_of earlier) line below (HasRoom 1000 xs) refl
    (λ x p. some_room 1000 xs x.number (few_operation earlier x p.few))
    s

-- so no more come than may be
within : {K : Type 0} (limit : ℕ) (xs : List K) (o : Option K) → length xs ≤ limit → HasRoom limit xs o
    → length (xs ++ option_to_list o) ≤ limit
within limit xs None h r = subst (λ n. n ≤ limit) (sym (ap length (append-nil xs))) h
within limit xs (Some x) h r =
    let below : length xs < limit = leb-false limit (length xs) (not-true (nat_le limit (length xs)) r) in
    omega (arith, length-append xs (x ∷ []), below)

pub all_within : (limit : ℕ) (f : Line → Option (List ℕ))
    → ((earlier : List Line) (line : Line) (below : List Line) → Passes (scope_of earlier) line below
    → Adds f earlier (f line))
    → ((earlier : List Line) (line : Line) (below : List Line) → Passes (scope_of earlier) line below
    → HasRoom limit (declared f earlier) (f line))
    → (ls : List Line) → Sound [] ls → length (declared f (backwards [] ls)) ≤ limit
all_within limit f adds room ls s =
    all_keep (λ earlier. length (declared f earlier) ≤ limit)
    (λ earlier line below p h.
    subst (λ xs. length xs ≤ limit) (sym (adds earlier line below p))
    (within limit (declared f earlier) (f line) h (room earlier line below p)))
    [] ls s (omega arith)

pub said_within : {K : Type 0} (add : List K → K → List K) (ends : Line → Bool) (f : Line → Option K) (limit : ℕ)
    → ((earlier : List Line) (line : Line) (below : List Line) → Passes (scope_of earlier) line below
    → AddsTo add (listed add ends f earlier) (f line))
    → ((earlier : List Line) (line : Line) (below : List Line) → Passes (scope_of earlier) line below
    → HasRoom limit (listed add ends f earlier) (f line))
    → (earlier ls : List Line) → Sound earlier ls → listed add ends f earlier ≡ [] → length (said ends f ls) ≤ limit
said_within {K = K} add ends f limit adds room earlier ls s e =
    let kept = until_keeps add ends f (λ earlier. length (listed add ends f earlier) ≤ limit) step
    (λ earlier line below p going h. adds earlier line below p) earlier ls s
    (subst (λ (xs : List K). length xs ≤ limit) (sym e) (omega arith)) in
    subst (λ (xs : List K). length xs ≤ limit) (kept.2 ∙ ap (λ (xs : List K). xs ++ said ends f ls) e) kept.1
  where
    step : (earlier : List Line) (line : Line) (below : List Line) → Passes (scope_of earlier) line below
        → ends line ≡ false
        → length (listed add ends f earlier) ≤ limit → length (listed add ends f (line ∷ earlier)) ≤ limit
    step earlier line below p going h =
        let here : listed add ends f (line ∷ earlier) ≡ listed add ends f earlier ++ option_to_list (f line) =
        ap (λ b. if b then [] else with_option add (listed add ends f earlier) (f line)) going
        ∙ adds earlier line below p in
        subst (λ (xs : List K). length xs ≤ limit) (sym here)
        (within limit (listed add ends f earlier) (f line) h (room earlier line below p))

-- all that is listed below a line
pub texts_few : (earlier ls : List Line) → Sound earlier ls → listed with_name opens text_of earlier ≡ []
    → length (said opens text_of ls) ≤ 1000
texts_few earlier ls s e = said_within with_name opens text_of 1000 text_add text_room earlier ls s e

pub entrys_few : (earlier ls : List Line) → Sound earlier ls → listed with_entry opens entry_of earlier ≡ []
    → length (said opens entry_of ls) ≤ 1000
entrys_few earlier ls s e = said_within with_entry opens entry_of 1000 entry_add entry_room earlier ls s e

pub members_few : (earlier ls : List Line) → Sound earlier ls → listed with_name opens member_of earlier ≡ []
    → length (said opens member_of ls) ≤ 500
members_few earlier ls s e = said_within with_name opens member_of 500 member_add member_room earlier ls s e

pub columns_few : (earlier ls : List Line) → Sound earlier ls → listed with_name opens column_of earlier ≡ []
    → length (said opens column_of ls) ≤ 20
columns_few earlier ls s e = said_within with_name opens column_of 20 column_add column_room earlier ls s e

pub uses_few : (earlier ls : List Line) → Sound earlier ls → listed with_name ends_uses use_of earlier ≡ []
    → length (said ends_uses use_of ls) ≤ 100
uses_few earlier ls s e = said_within with_name ends_uses use_of 100 use_add use_room earlier ls s e

pub items_few : (earlier ls : List Line) → Sound earlier ls → listed with_last opens item_of earlier ≡ []
    → length (said opens item_of ls) ≤ 1000
items_few earlier ls s e =
    said_within with_last opens item_of 1000
    (λ earlier line below p. last_added (listed with_last opens item_of earlier) (item_of line)) item_room earlier
    ls s e

pub operations_few : (earlier ls : List Line) → Sound earlier ls → listed with_last opens operation_of earlier ≡ []
    → length (said opens operation_of ls) ≤ 1000
operations_few earlier ls s e =
    said_within with_last opens operation_of 1000
    (λ earlier line below p. last_added (listed with_last opens operation_of earlier) (operation_of line))
    operation_room earlier ls s e

-- all that is declared
pub characteristics_few : (ls : List Line) → Sound [] ls → length (declared characteristic_of (backwards [] ls)) ≤ 2000
characteristics_few ls s = all_within 2000 characteristic_of characteristic_add characteristic_room ls s

pub classes_few : (ls : List Line) → Sound [] ls → length (declared class_of (backwards [] ls)) ≤ 500
classes_few ls s = all_within 500 class_of class_add class_room ls s

pub tables_few : (ls : List Line) → Sound [] ls → length (declared table_of (backwards [] ls)) ≤ 200
tables_few ls s = all_within 200 table_of table_add table_room ls s

pub objects_few : (ls : List Line) → Sound [] ls → length (declared object_of (backwards [] ls)) ≤ 500
objects_few ls s = all_within 500 object_of object_add object_room ls s

pub nets_few : (ls : List Line) → Sound [] ls → length (declared net_of (backwards [] ls)) ≤ 200
nets_few ls s = all_within 200 net_of net_add net_room ls s

pub dependencies_few : (ls : List Line) → Sound [] ls → length (declared dependency_of (backwards [] ls)) ≤ 2000
dependencies_few ls s = all_within 2000 dependency_of dependency_add dependency_room ls s

-- lines make no more than they list
pub same_length : {X K N : Type 0} (key : X → N) (g : K → N) (xs : List X) (ys : List K) → map key xs ≡ map g ys
    → length xs ≡ length ys
same_length key g xs ys e = sym (length-map xs key) ∙ ap length e ∙ length-map ys g

abbrev AtMost : {X K : Type 0} → Option X → Option K → Type 0
AtMost o p = length (option_to_list o) ≤ length (option_to_list p)

length_cons : {X : Type 0} (o : Option X) (xs : List X)
    → length (cons_option o xs) ≡ length (option_to_list o) + length xs
length_cons None xs = omega arith
length_cons (Some x) xs = omega arith

pub until_fewer : {X K : Type 0} (ends : Line → Bool) (say : ℕ → Line → List Line → Option X) (f : Line → Option K)
    → ((number : ℕ) (line : Line) (below : List Line) → AtMost (say number line below) (f line))
    → (number : ℕ) (ls : List Line) → length (until ends say number ls) ≤ length (said ends f ls)
until_fewer ends say f fewer number [] = omega arith
until_fewer ends say f fewer number (line ∷ below) = by (ends line) (until_fewer ends say f fewer (number + 1) below)
  where
    by : (b : Bool) → length (until ends say (number + 1) below) ≤ length (said ends f below)
        → length (if b then [] else cons_option (say number line below) (until ends say (number + 1) below))
        ≤ length (if b then [] else cons_option (f line) (said ends f below))
    by true rest = omega arith
    by false rest = omega (
      arith,
      rest,
      fewer number line below,
      length_cons (say number line below) (until ends say (number + 1) below),
      length_cons (f line) (said ends f below),
    )

one_at_most : {X : Type 0} (o : Option X) (name : List ℕ) → AtMost o (Some name)
one_at_most None name = omega arith
one_at_most (Some x) name = omega arith

none_at_most : (X K : Type 0) → AtMost {X = X} {K = K} None None
none_at_most X K = omega arith

pub use_fewer : (a : Scope) (n : ℕ) (line : Line) (below : List Line) → AtMost (use_at a n line below) (use_of line)
use_fewer a n lines.Skipped below = none_at_most ℕ (List ℕ)
use_fewer a n (lines.Inner x) below = none_at_most ℕ (List ℕ)
use_fewer a n lines.LongInner below = none_at_most ℕ (List ℕ)
use_fewer a n lines.End below = none_at_most ℕ (List ℕ)
use_fewer a n (lines.TooLong x) below = none_at_most ℕ (List ℕ)
use_fewer a n (lines.NoForm x) below = none_at_most ℕ (List ℕ)
use_fewer a n (lines.Head x) below = none_at_most ℕ (List ℕ)
use_fewer a n (lines.Char x) below = none_at_most ℕ (List ℕ)
use_fewer a n (lines.Num x) below = none_at_most ℕ (List ℕ)
use_fewer a n (lines.Text x) below = none_at_most ℕ (List ℕ)
use_fewer a n (lines.Interval x) below = none_at_most ℕ (List ℕ)
use_fewer a n (lines.Uses x) below = one_at_most (place_of a.dependencies.all x) x
use_fewer a n (lines.Class x) below = none_at_most ℕ (List ℕ)
use_fewer a n (lines.Has x) below = none_at_most ℕ (List ℕ)
use_fewer a n (lines.Table x) below = none_at_most ℕ (List ℕ)
use_fewer a n (lines.Column x) below = none_at_most ℕ (List ℕ)
use_fewer a n (lines.Net x) below = none_at_most ℕ (List ℕ)
use_fewer a n (lines.Object x) below = none_at_most ℕ (List ℕ)
use_fewer a n (lines.Bill x) below = none_at_most ℕ (List ℕ)
use_fewer a n (lines.Operation x) below = none_at_most ℕ (List ℕ)
use_fewer a n (lines.Block x) below = none_at_most ℕ (List ℕ)
use_fewer a n (lines.Root x) below = none_at_most ℕ (List ℕ)
use_fewer a n lines.Action below = none_at_most ℕ (List ℕ)

pub net_use_fewer : (a : Scope) (n : ℕ) (line : Line) (below : List Line)
    → AtMost (net_use_at a n line below) (use_of line)
net_use_fewer a n lines.Skipped below = none_at_most ℕ (List ℕ)
net_use_fewer a n (lines.Inner x) below = none_at_most ℕ (List ℕ)
net_use_fewer a n lines.LongInner below = none_at_most ℕ (List ℕ)
net_use_fewer a n lines.End below = none_at_most ℕ (List ℕ)
net_use_fewer a n (lines.TooLong x) below = none_at_most ℕ (List ℕ)
net_use_fewer a n (lines.NoForm x) below = none_at_most ℕ (List ℕ)
net_use_fewer a n (lines.Head x) below = none_at_most ℕ (List ℕ)
net_use_fewer a n (lines.Char x) below = none_at_most ℕ (List ℕ)
net_use_fewer a n (lines.Num x) below = none_at_most ℕ (List ℕ)
net_use_fewer a n (lines.Text x) below = none_at_most ℕ (List ℕ)
net_use_fewer a n (lines.Interval x) below = none_at_most ℕ (List ℕ)
net_use_fewer a n (lines.Uses x) below = one_at_most (place_of a.dependencies.nets x) x
net_use_fewer a n (lines.Class x) below = none_at_most ℕ (List ℕ)
net_use_fewer a n (lines.Has x) below = none_at_most ℕ (List ℕ)
net_use_fewer a n (lines.Table x) below = none_at_most ℕ (List ℕ)
net_use_fewer a n (lines.Column x) below = none_at_most ℕ (List ℕ)
net_use_fewer a n (lines.Net x) below = none_at_most ℕ (List ℕ)
net_use_fewer a n (lines.Object x) below = none_at_most ℕ (List ℕ)
net_use_fewer a n (lines.Bill x) below = none_at_most ℕ (List ℕ)
net_use_fewer a n (lines.Operation x) below = none_at_most ℕ (List ℕ)
net_use_fewer a n (lines.Block x) below = none_at_most ℕ (List ℕ)
net_use_fewer a n (lines.Root x) below = none_at_most ℕ (List ℕ)
net_use_fewer a n lines.Action below = none_at_most ℕ (List ℕ)
