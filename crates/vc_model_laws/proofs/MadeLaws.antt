-- What lines make is what they list, seen by its numbers.
use Rattle.std.proofs.Common.{◌≡◌, ℕ, ◌+◌, true, false, List, Option, Some, None, refl, sym, ap, ◌∙◌}
use Rattle.std.specs.Prelude.{option_map, unwrap_or}
use Rattle.std.proofs.lemmas.Bool.{not-false}
use Rattle.vc_syntax_tree.specs.Trees.{Term}
use Rattle.vc_model_lines.specs.declared.line.Line.{Line}
use Rattle.vc_model_lines.specs.declared.line.Line.TheVariants as lines
use Rattle.vc_model_lines.specs.declared.line.BillLine.{BillLine}
use Rattle.vc_model_lines.specs.declared.line.OperationLine.{OperationLine}
use Rattle.vc_model_scope.specs.Contents.{text_of, entry_of, entry_within, member_of, column_of, item_of, operation_of}
use Rattle.vc_model_scope.specs.declared.entries.Interval.{Interval}
use Rattle.vc_model_scope.specs.declared.scope.Scope.{Scope}
use Rattle.vc_model_faults.specs.Readings.{count_reading, reading, tells_unread, is_unread, term_read, term_in}
use Rattle.vc_model_faults.specs.Values.{follows, is_bad}
use Rattle.vc_model_parts.specs.declared.parts.NumberValue.{NumberValue}
use Rattle.vc_model_drafts.specs.Models.{number_of, uses_below, text_at, number_at, member_at, column_at, item_at}
use Rattle.vc_model_drafts.specs.Models.{operation_at}
use Rattle.vc_model_laws.proofs.LineCases.{item_made, operation_made}
use Rattle.vc_model_laws.proofs.Walks.{Passes}

pub texts_made : (a : Scope) (n : ℕ) (line : Line) (below : List Line)
    → option_map (λ v. v.text) (text_at a n line below) ≡ option_map (number_of a.declared.texts) (text_of line)
texts_made a n lines.Skipped below = refl
texts_made a n (lines.Inner x) below = refl
texts_made a n lines.LongInner below = refl
texts_made a n lines.End below = refl
texts_made a n (lines.TooLong x) below = refl
texts_made a n (lines.NoForm x) below = refl
texts_made a n (lines.Head x) below = refl
texts_made a n (lines.Char x) below = refl
texts_made a n (lines.Num x) below = refl
texts_made a n (lines.Text x) below = refl
texts_made a n (lines.Interval x) below = refl
texts_made a n (lines.Uses x) below = refl
texts_made a n (lines.Class x) below = refl
texts_made a n (lines.Has x) below = refl
texts_made a n (lines.Table x) below = refl
texts_made a n (lines.Column x) below = refl
texts_made a n (lines.Net x) below = refl
texts_made a n (lines.Object x) below = refl
texts_made a n (lines.Bill x) below = refl
texts_made a n (lines.Operation x) below = refl
texts_made a n (lines.Block x) below = refl
texts_made a n (lines.Root x) below = refl
texts_made a n lines.Action below = refl

pub members_made : (a : Scope) (n : ℕ) (line : Line) (below : List Line)
    → option_map (λ m. m) (member_at a n line below) ≡ option_map (number_of a.declared.characteristics)
    (member_of line)
members_made a n lines.Skipped below = refl
members_made a n (lines.Inner x) below = refl
members_made a n lines.LongInner below = refl
members_made a n lines.End below = refl
members_made a n (lines.TooLong x) below = refl
members_made a n (lines.NoForm x) below = refl
members_made a n (lines.Head x) below = refl
members_made a n (lines.Char x) below = refl
members_made a n (lines.Num x) below = refl
members_made a n (lines.Text x) below = refl
members_made a n (lines.Interval x) below = refl
members_made a n (lines.Uses x) below = refl
members_made a n (lines.Class x) below = refl
members_made a n (lines.Has x) below = refl
members_made a n (lines.Table x) below = refl
members_made a n (lines.Column x) below = refl
members_made a n (lines.Net x) below = refl
members_made a n (lines.Object x) below = refl
members_made a n (lines.Bill x) below = refl
members_made a n (lines.Operation x) below = refl
members_made a n (lines.Block x) below = refl
members_made a n (lines.Root x) below = refl
members_made a n lines.Action below = refl

pub columns_made : (a : Scope) (n : ℕ) (line : Line) (below : List Line)
    → option_map (λ c. c.characteristic) (column_at a n line below) ≡ option_map (number_of a.declared.characteristics)
    (column_of line)
columns_made a n lines.Skipped below = refl
columns_made a n (lines.Inner x) below = refl
columns_made a n lines.LongInner below = refl
columns_made a n lines.End below = refl
columns_made a n (lines.TooLong x) below = refl
columns_made a n (lines.NoForm x) below = refl
columns_made a n (lines.Head x) below = refl
columns_made a n (lines.Char x) below = refl
columns_made a n (lines.Num x) below = refl
columns_made a n (lines.Text x) below = refl
columns_made a n (lines.Interval x) below = refl
columns_made a n (lines.Uses x) below = refl
columns_made a n (lines.Class x) below = refl
columns_made a n (lines.Has x) below = refl
columns_made a n (lines.Table x) below = refl
columns_made a n (lines.Column x) below = refl
columns_made a n (lines.Net x) below = refl
columns_made a n (lines.Object x) below = refl
columns_made a n (lines.Bill x) below = refl
columns_made a n (lines.Operation x) below = refl
columns_made a n (lines.Block x) below = refl
columns_made a n (lines.Root x) below = refl
columns_made a n lines.Action below = refl

-- the ends of a number's value
abbrev pub ends_of : NumberValue → Interval
ends_of value = record { low = value.low; high = value.high }

entry_made : (uses : List ℕ) (o : Option Interval)
    → option_map ends_of (option_map (λ entry. record { low = entry.low; high = entry.high; uses = uses }) o)
    ≡ option_map (λ e. e) o
entry_made uses None = refl
entry_made uses (Some entry) = refl

pub numbers_made : (a : Scope) (n : ℕ) (line : Line) (below : List Line)
    → option_map ends_of (number_at a n line below) ≡ option_map (λ e. e) (entry_of line)
numbers_made a n lines.Skipped below = refl
numbers_made a n (lines.Inner x) below = refl
numbers_made a n lines.LongInner below = refl
numbers_made a n lines.End below = refl
numbers_made a n (lines.TooLong x) below = refl
numbers_made a n (lines.NoForm x) below = refl
numbers_made a n (lines.Head x) below = refl
numbers_made a n (lines.Char x) below = refl
numbers_made a n (lines.Num x) below = refl
numbers_made a n (lines.Text x) below = refl
numbers_made a n (lines.Interval x) below = entry_made (uses_below a (n + 1) below) (entry_within x.low x.high)
numbers_made a n (lines.Uses x) below = refl
numbers_made a n (lines.Class x) below = refl
numbers_made a n (lines.Has x) below = refl
numbers_made a n (lines.Table x) below = refl
numbers_made a n (lines.Column x) below = refl
numbers_made a n (lines.Net x) below = refl
numbers_made a n (lines.Object x) below = refl
numbers_made a n (lines.Bill x) below = refl
numbers_made a n (lines.Operation x) below = refl
numbers_made a n (lines.Block x) below = refl
numbers_made a n (lines.Root x) below = refl
numbers_made a n lines.Action below = refl

item_read : (a : Scope) (n : ℕ) (x : BillLine) (below : List Line) (numbers : List ℕ) (o : Option Term)
    (number : Option ℕ)
    → x.item ≡ number → tells_unread (Some (count_reading o)) ≡ false → follows numbers number ≡ true
    → option_map (λ i. i.item) (option_map (item_made a n x below) (term_read (Some (count_reading o)))) ≡ option_map
    (λ k. k) x.item
item_read a n x below numbers None number e read fit = absurd (cc)
item_read a n x below numbers (Some term) None e read fit = absurd (cc)
item_read a n x below numbers (Some term) (Some number) e read fit = ap (λ k. Some (unwrap_or k 0)) e
    ∙ sym (ap (option_map (λ k. k)) e)

item_numbered : (a scope : Scope) (n : ℕ) (x : BillLine) (below : List Line) → is_unread (lines.Bill x) below ≡ false
    → is_bad scope (lines.Bill x) ≡ false
    → option_map (λ i. i.item) (option_map (item_made a n x below) (term_read (reading (lines.Bill x) below)))
    ≡ option_map (λ k. k) x.item
unfolding reading is_unread is_bad
item_numbered a scope n x below read fit =
    item_read a n x below scope.standing.items (term_in x.quantity) x.item refl read
    (not-false (follows scope.standing.items x.item) fit)

pub items_made : (a scope : Scope) (n : ℕ) (line : Line) (below : List Line) → Passes scope line below
    → option_map (λ i. i.item) (item_at a n line below) ≡ option_map (λ k. k) (item_of line)
items_made a scope n lines.Skipped below p = refl
items_made a scope n (lines.Inner x) below p = refl
items_made a scope n lines.LongInner below p = refl
items_made a scope n lines.End below p = refl
items_made a scope n (lines.TooLong x) below p = refl
items_made a scope n (lines.NoForm x) below p = refl
items_made a scope n (lines.Head x) below p = refl
items_made a scope n (lines.Char x) below p = refl
items_made a scope n (lines.Num x) below p = refl
items_made a scope n (lines.Text x) below p = refl
items_made a scope n (lines.Interval x) below p = refl
items_made a scope n (lines.Uses x) below p = refl
items_made a scope n (lines.Class x) below p = refl
items_made a scope n (lines.Has x) below p = refl
items_made a scope n (lines.Table x) below p = refl
items_made a scope n (lines.Column x) below p = refl
items_made a scope n (lines.Net x) below p = refl
items_made a scope n (lines.Object x) below p = refl
items_made a scope n (lines.Bill x) below p = item_numbered a scope n x below p.read p.fit
items_made a scope n (lines.Operation x) below p = refl
items_made a scope n (lines.Block x) below p = refl
items_made a scope n (lines.Root x) below p = refl
items_made a scope n lines.Action below p = refl

operation_read : (a : Scope) (n : ℕ) (x : OperationLine) (below : List Line) (numbers : List ℕ) (o : Option Term)
    (number : Option ℕ)
    → x.number ≡ number → tells_unread (Some (count_reading o)) ≡ false → follows numbers number ≡ true
    → option_map (λ o. o.number) (option_map (operation_made a n x below) (term_read (Some (count_reading o))))
    ≡ option_map (λ k. k) x.number
operation_read a n x below numbers None number e read fit = absurd (cc)
operation_read a n x below numbers (Some term) None e read fit = absurd (cc)
operation_read a n x below numbers (Some term) (Some number) e read fit = ap (λ k. Some (unwrap_or k 0)) e
    ∙ sym (ap (option_map (λ k. k)) e)

operation_numbered : (a scope : Scope) (n : ℕ) (x : OperationLine) (below : List Line)
    → is_unread (lines.Operation x) below ≡ false → is_bad scope (lines.Operation x) ≡ false
    → option_map (λ o. o.number) (option_map (operation_made a n x below)
    (term_read (reading (lines.Operation x) below))) ≡ option_map (λ k. k) x.number
unfolding reading is_unread is_bad
operation_numbered a scope n x below read fit =
    operation_read a n x below scope.standing.operations (term_in x.time) x.number refl read
    (not-false (follows scope.standing.operations x.number) fit)

pub operations_made : (a scope : Scope) (n : ℕ) (line : Line) (below : List Line) → Passes scope line below
    → option_map (λ o. o.number) (operation_at a n line below) ≡ option_map (λ k. k) (operation_of line)
operations_made a scope n lines.Skipped below p = refl
operations_made a scope n (lines.Inner x) below p = refl
operations_made a scope n lines.LongInner below p = refl
operations_made a scope n lines.End below p = refl
operations_made a scope n (lines.TooLong x) below p = refl
operations_made a scope n (lines.NoForm x) below p = refl
operations_made a scope n (lines.Head x) below p = refl
operations_made a scope n (lines.Char x) below p = refl
operations_made a scope n (lines.Num x) below p = refl
operations_made a scope n (lines.Text x) below p = refl
operations_made a scope n (lines.Interval x) below p = refl
operations_made a scope n (lines.Uses x) below p = refl
operations_made a scope n (lines.Class x) below p = refl
operations_made a scope n (lines.Has x) below p = refl
operations_made a scope n (lines.Table x) below p = refl
operations_made a scope n (lines.Column x) below p = refl
operations_made a scope n (lines.Net x) below p = refl
operations_made a scope n (lines.Object x) below p = refl
operations_made a scope n (lines.Bill x) below p = refl
operations_made a scope n (lines.Operation x) below p = operation_numbered a scope n x below p.read p.fit
operations_made a scope n (lines.Block x) below p = refl
operations_made a scope n (lines.Root x) below p = refl
operations_made a scope n lines.Action below p = refl
