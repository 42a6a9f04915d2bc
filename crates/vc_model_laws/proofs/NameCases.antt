-- What a line declares, lists or uses: for each of these the lines that do.
use Rattle.std.proofs.Common.{ℕ, List, Option, Some, None}
use Rattle.vc_model_lines.specs.declared.line.Line.{Line}
use Rattle.vc_model_lines.specs.declared.line.Line.TheVariants as lines
use Rattle.vc_model_lines.specs.declared.line.BillLine.{BillLine}
use Rattle.vc_model_lines.specs.declared.line.BlockLine.{BlockLine}
use Rattle.vc_model_lines.specs.declared.line.CharLine.{CharLine}
use Rattle.vc_model_lines.specs.declared.line.ColumnLine.{ColumnLine}
use Rattle.vc_model_lines.specs.declared.line.IntervalLine.{IntervalLine}
use Rattle.vc_model_lines.specs.declared.line.NumLine.{NumLine}
use Rattle.vc_model_lines.specs.declared.line.ObjectLine.{ObjectLine}
use Rattle.vc_model_lines.specs.declared.line.OperationLine.{OperationLine}
use Rattle.vc_model_lines.specs.declared.line.TableLine.{TableLine}
use Rattle.vc_model_scope.specs.declared.entries.Interval.{Interval}
use Rattle.vc_model_scope.specs.declared.scope.Scope.{Scope}
use Rattle.vc_model_scope.specs.Contents.{characteristic_of, class_of, table_of, object_of, text_of, net_of}
use Rattle.vc_model_scope.specs.Contents.{dependency_of, entry_of, member_of, column_of, use_of, item_of, operation_of}
use Rattle.vc_model_laws.proofs.Walks.{Passes}

pub by_characteristic : (a : Scope) (line : Line) (below : List Line) (P : Option (List ℕ) → Type 0) → P None
    → ((x : CharLine) → Passes a (lines.Char x) below → P (Some x.name))
    → ((x : NumLine) → Passes a (lines.Num x) below → P (Some x.name))
    → Passes a line below → P (characteristic_of line)
by_characteristic a lines.Skipped below P none h0 h1 s = none
by_characteristic a (lines.Inner x) below P none h0 h1 s = none
by_characteristic a lines.LongInner below P none h0 h1 s = none
by_characteristic a lines.End below P none h0 h1 s = none
by_characteristic a (lines.TooLong x) below P none h0 h1 s = none
by_characteristic a (lines.NoForm x) below P none h0 h1 s = none
by_characteristic a (lines.Head x) below P none h0 h1 s = none
by_characteristic a (lines.Char x) below P none h0 h1 s = h0 x s
by_characteristic a (lines.Num x) below P none h0 h1 s = h1 x s
by_characteristic a (lines.Text x) below P none h0 h1 s = none
by_characteristic a (lines.Interval x) below P none h0 h1 s = none
by_characteristic a (lines.Uses x) below P none h0 h1 s = none
by_characteristic a (lines.Class x) below P none h0 h1 s = none
by_characteristic a (lines.Has x) below P none h0 h1 s = none
by_characteristic a (lines.Table x) below P none h0 h1 s = none
by_characteristic a (lines.Column x) below P none h0 h1 s = none
by_characteristic a (lines.Net x) below P none h0 h1 s = none
by_characteristic a (lines.Object x) below P none h0 h1 s = none
by_characteristic a (lines.Bill x) below P none h0 h1 s = none
by_characteristic a (lines.Operation x) below P none h0 h1 s = none
by_characteristic a (lines.Block x) below P none h0 h1 s = none
by_characteristic a (lines.Root x) below P none h0 h1 s = none
by_characteristic a lines.Action below P none h0 h1 s = none

pub by_class : (a : Scope) (line : Line) (below : List Line) (P : Option (List ℕ) → Type 0) → P None
    → ((x : List ℕ) → Passes a (lines.Class x) below → P (Some x))
    → Passes a line below → P (class_of line)
by_class a lines.Skipped below P none h s = none
by_class a (lines.Inner x) below P none h s = none
by_class a lines.LongInner below P none h s = none
by_class a lines.End below P none h s = none
by_class a (lines.TooLong x) below P none h s = none
by_class a (lines.NoForm x) below P none h s = none
by_class a (lines.Head x) below P none h s = none
by_class a (lines.Char x) below P none h s = none
by_class a (lines.Num x) below P none h s = none
by_class a (lines.Text x) below P none h s = none
by_class a (lines.Interval x) below P none h s = none
by_class a (lines.Uses x) below P none h s = none
by_class a (lines.Class x) below P none h s = h x s
by_class a (lines.Has x) below P none h s = none
by_class a (lines.Table x) below P none h s = none
by_class a (lines.Column x) below P none h s = none
by_class a (lines.Net x) below P none h s = none
by_class a (lines.Object x) below P none h s = none
by_class a (lines.Bill x) below P none h s = none
by_class a (lines.Operation x) below P none h s = none
by_class a (lines.Block x) below P none h s = none
by_class a (lines.Root x) below P none h s = none
by_class a lines.Action below P none h s = none

pub by_table : (a : Scope) (line : Line) (below : List Line) (P : Option (List ℕ) → Type 0) → P None
    → ((x : TableLine) → Passes a (lines.Table x) below → P (Some x.name))
    → Passes a line below → P (table_of line)
by_table a lines.Skipped below P none h s = none
by_table a (lines.Inner x) below P none h s = none
by_table a lines.LongInner below P none h s = none
by_table a lines.End below P none h s = none
by_table a (lines.TooLong x) below P none h s = none
by_table a (lines.NoForm x) below P none h s = none
by_table a (lines.Head x) below P none h s = none
by_table a (lines.Char x) below P none h s = none
by_table a (lines.Num x) below P none h s = none
by_table a (lines.Text x) below P none h s = none
by_table a (lines.Interval x) below P none h s = none
by_table a (lines.Uses x) below P none h s = none
by_table a (lines.Class x) below P none h s = none
by_table a (lines.Has x) below P none h s = none
by_table a (lines.Table x) below P none h s = h x s
by_table a (lines.Column x) below P none h s = none
by_table a (lines.Net x) below P none h s = none
by_table a (lines.Object x) below P none h s = none
by_table a (lines.Bill x) below P none h s = none
by_table a (lines.Operation x) below P none h s = none
by_table a (lines.Block x) below P none h s = none
by_table a (lines.Root x) below P none h s = none
by_table a lines.Action below P none h s = none

pub by_object : (a : Scope) (line : Line) (below : List Line) (P : Option (List ℕ) → Type 0) → P None
    → ((x : ObjectLine) → Passes a (lines.Object x) below → P (Some x.material))
    → Passes a line below → P (object_of line)
by_object a lines.Skipped below P none h s = none
by_object a (lines.Inner x) below P none h s = none
by_object a lines.LongInner below P none h s = none
by_object a lines.End below P none h s = none
by_object a (lines.TooLong x) below P none h s = none
by_object a (lines.NoForm x) below P none h s = none
by_object a (lines.Head x) below P none h s = none
by_object a (lines.Char x) below P none h s = none
by_object a (lines.Num x) below P none h s = none
by_object a (lines.Text x) below P none h s = none
by_object a (lines.Interval x) below P none h s = none
by_object a (lines.Uses x) below P none h s = none
by_object a (lines.Class x) below P none h s = none
by_object a (lines.Has x) below P none h s = none
by_object a (lines.Table x) below P none h s = none
by_object a (lines.Column x) below P none h s = none
by_object a (lines.Net x) below P none h s = none
by_object a (lines.Object x) below P none h s = h x s
by_object a (lines.Bill x) below P none h s = none
by_object a (lines.Operation x) below P none h s = none
by_object a (lines.Block x) below P none h s = none
by_object a (lines.Root x) below P none h s = none
by_object a lines.Action below P none h s = none

pub by_net : (a : Scope) (line : Line) (below : List Line) (P : Option (List ℕ) → Type 0) → P None
    → ((x : List ℕ) → Passes a (lines.Net x) below → P (Some x))
    → Passes a line below → P (net_of line)
by_net a lines.Skipped below P none h s = none
by_net a (lines.Inner x) below P none h s = none
by_net a lines.LongInner below P none h s = none
by_net a lines.End below P none h s = none
by_net a (lines.TooLong x) below P none h s = none
by_net a (lines.NoForm x) below P none h s = none
by_net a (lines.Head x) below P none h s = none
by_net a (lines.Char x) below P none h s = none
by_net a (lines.Num x) below P none h s = none
by_net a (lines.Text x) below P none h s = none
by_net a (lines.Interval x) below P none h s = none
by_net a (lines.Uses x) below P none h s = none
by_net a (lines.Class x) below P none h s = none
by_net a (lines.Has x) below P none h s = none
by_net a (lines.Table x) below P none h s = none
by_net a (lines.Column x) below P none h s = none
by_net a (lines.Net x) below P none h s = h x s
by_net a (lines.Object x) below P none h s = none
by_net a (lines.Bill x) below P none h s = none
by_net a (lines.Operation x) below P none h s = none
by_net a (lines.Block x) below P none h s = none
by_net a (lines.Root x) below P none h s = none
by_net a lines.Action below P none h s = none

pub by_dependency : (a : Scope) (line : Line) (below : List Line) (P : Option (List ℕ) → Type 0) → P None
    → ((x : BlockLine) → Passes a (lines.Block x) below → P (Some x.name))
    → Passes a line below → P (dependency_of line)
by_dependency a lines.Skipped below P none h s = none
by_dependency a (lines.Inner x) below P none h s = none
by_dependency a lines.LongInner below P none h s = none
by_dependency a lines.End below P none h s = none
by_dependency a (lines.TooLong x) below P none h s = none
by_dependency a (lines.NoForm x) below P none h s = none
by_dependency a (lines.Head x) below P none h s = none
by_dependency a (lines.Char x) below P none h s = none
by_dependency a (lines.Num x) below P none h s = none
by_dependency a (lines.Text x) below P none h s = none
by_dependency a (lines.Interval x) below P none h s = none
by_dependency a (lines.Uses x) below P none h s = none
by_dependency a (lines.Class x) below P none h s = none
by_dependency a (lines.Has x) below P none h s = none
by_dependency a (lines.Table x) below P none h s = none
by_dependency a (lines.Column x) below P none h s = none
by_dependency a (lines.Net x) below P none h s = none
by_dependency a (lines.Object x) below P none h s = none
by_dependency a (lines.Bill x) below P none h s = none
by_dependency a (lines.Operation x) below P none h s = none
by_dependency a (lines.Block x) below P none h s = h x s
by_dependency a (lines.Root x) below P none h s = none
by_dependency a lines.Action below P none h s = none

pub by_text : (a : Scope) (line : Line) (below : List Line) (P : Option (List ℕ) → Type 0) → P None
    → ((x : List ℕ) → Passes a (lines.Text x) below → P (Some x))
    → Passes a line below → P (text_of line)
by_text a lines.Skipped below P none h s = none
by_text a (lines.Inner x) below P none h s = none
by_text a lines.LongInner below P none h s = none
by_text a lines.End below P none h s = none
by_text a (lines.TooLong x) below P none h s = none
by_text a (lines.NoForm x) below P none h s = none
by_text a (lines.Head x) below P none h s = none
by_text a (lines.Char x) below P none h s = none
by_text a (lines.Num x) below P none h s = none
by_text a (lines.Text x) below P none h s = h x s
by_text a (lines.Interval x) below P none h s = none
by_text a (lines.Uses x) below P none h s = none
by_text a (lines.Class x) below P none h s = none
by_text a (lines.Has x) below P none h s = none
by_text a (lines.Table x) below P none h s = none
by_text a (lines.Column x) below P none h s = none
by_text a (lines.Net x) below P none h s = none
by_text a (lines.Object x) below P none h s = none
by_text a (lines.Bill x) below P none h s = none
by_text a (lines.Operation x) below P none h s = none
by_text a (lines.Block x) below P none h s = none
by_text a (lines.Root x) below P none h s = none
by_text a lines.Action below P none h s = none

pub by_member : (a : Scope) (line : Line) (below : List Line) (P : Option (List ℕ) → Type 0) → P None
    → ((x : List ℕ) → Passes a (lines.Has x) below → P (Some x))
    → Passes a line below → P (member_of line)
by_member a lines.Skipped below P none h s = none
by_member a (lines.Inner x) below P none h s = none
by_member a lines.LongInner below P none h s = none
by_member a lines.End below P none h s = none
by_member a (lines.TooLong x) below P none h s = none
by_member a (lines.NoForm x) below P none h s = none
by_member a (lines.Head x) below P none h s = none
by_member a (lines.Char x) below P none h s = none
by_member a (lines.Num x) below P none h s = none
by_member a (lines.Text x) below P none h s = none
by_member a (lines.Interval x) below P none h s = none
by_member a (lines.Uses x) below P none h s = none
by_member a (lines.Class x) below P none h s = none
by_member a (lines.Has x) below P none h s = h x s
by_member a (lines.Table x) below P none h s = none
by_member a (lines.Column x) below P none h s = none
by_member a (lines.Net x) below P none h s = none
by_member a (lines.Object x) below P none h s = none
by_member a (lines.Bill x) below P none h s = none
by_member a (lines.Operation x) below P none h s = none
by_member a (lines.Block x) below P none h s = none
by_member a (lines.Root x) below P none h s = none
by_member a lines.Action below P none h s = none

pub by_column : (a : Scope) (line : Line) (below : List Line) (P : Option (List ℕ) → Type 0) → P None
    → ((x : ColumnLine) → Passes a (lines.Column x) below → P (Some x.characteristic))
    → Passes a line below → P (column_of line)
by_column a lines.Skipped below P none h s = none
by_column a (lines.Inner x) below P none h s = none
by_column a lines.LongInner below P none h s = none
by_column a lines.End below P none h s = none
by_column a (lines.TooLong x) below P none h s = none
by_column a (lines.NoForm x) below P none h s = none
by_column a (lines.Head x) below P none h s = none
by_column a (lines.Char x) below P none h s = none
by_column a (lines.Num x) below P none h s = none
by_column a (lines.Text x) below P none h s = none
by_column a (lines.Interval x) below P none h s = none
by_column a (lines.Uses x) below P none h s = none
by_column a (lines.Class x) below P none h s = none
by_column a (lines.Has x) below P none h s = none
by_column a (lines.Table x) below P none h s = none
by_column a (lines.Column x) below P none h s = h x s
by_column a (lines.Net x) below P none h s = none
by_column a (lines.Object x) below P none h s = none
by_column a (lines.Bill x) below P none h s = none
by_column a (lines.Operation x) below P none h s = none
by_column a (lines.Block x) below P none h s = none
by_column a (lines.Root x) below P none h s = none
by_column a lines.Action below P none h s = none

pub by_use : (a : Scope) (line : Line) (below : List Line) (P : Option (List ℕ) → Type 0) → P None
    → ((x : List ℕ) → Passes a (lines.Uses x) below → P (Some x))
    → Passes a line below → P (use_of line)
by_use a lines.Skipped below P none h s = none
by_use a (lines.Inner x) below P none h s = none
by_use a lines.LongInner below P none h s = none
by_use a lines.End below P none h s = none
by_use a (lines.TooLong x) below P none h s = none
by_use a (lines.NoForm x) below P none h s = none
by_use a (lines.Head x) below P none h s = none
by_use a (lines.Char x) below P none h s = none
by_use a (lines.Num x) below P none h s = none
by_use a (lines.Text x) below P none h s = none
by_use a (lines.Interval x) below P none h s = none
by_use a (lines.Uses x) below P none h s = h x s
by_use a (lines.Class x) below P none h s = none
by_use a (lines.Has x) below P none h s = none
by_use a (lines.Table x) below P none h s = none
by_use a (lines.Column x) below P none h s = none
by_use a (lines.Net x) below P none h s = none
by_use a (lines.Object x) below P none h s = none
by_use a (lines.Bill x) below P none h s = none
by_use a (lines.Operation x) below P none h s = none
by_use a (lines.Block x) below P none h s = none
by_use a (lines.Root x) below P none h s = none
by_use a lines.Action below P none h s = none

pub by_entry : (a : Scope) (line : Line) (below : List Line) (P : Option (Interval) → Type 0) → P None
    → ((x : IntervalLine) → Passes a (lines.Interval x) below → P (entry_of (lines.Interval x)))
    → Passes a line below → P (entry_of line)
by_entry a lines.Skipped below P none h s = none
by_entry a (lines.Inner x) below P none h s = none
by_entry a lines.LongInner below P none h s = none
by_entry a lines.End below P none h s = none
by_entry a (lines.TooLong x) below P none h s = none
by_entry a (lines.NoForm x) below P none h s = none
by_entry a (lines.Head x) below P none h s = none
by_entry a (lines.Char x) below P none h s = none
by_entry a (lines.Num x) below P none h s = none
by_entry a (lines.Text x) below P none h s = none
by_entry a (lines.Interval x) below P none h s = h x s
by_entry a (lines.Uses x) below P none h s = none
by_entry a (lines.Class x) below P none h s = none
by_entry a (lines.Has x) below P none h s = none
by_entry a (lines.Table x) below P none h s = none
by_entry a (lines.Column x) below P none h s = none
by_entry a (lines.Net x) below P none h s = none
by_entry a (lines.Object x) below P none h s = none
by_entry a (lines.Bill x) below P none h s = none
by_entry a (lines.Operation x) below P none h s = none
by_entry a (lines.Block x) below P none h s = none
by_entry a (lines.Root x) below P none h s = none
by_entry a lines.Action below P none h s = none

pub by_item : (a : Scope) (line : Line) (below : List Line) (P : Option (ℕ) → Type 0) → P None
    → ((x : BillLine) → Passes a (lines.Bill x) below → P x.item)
    → Passes a line below → P (item_of line)
by_item a lines.Skipped below P none h s = none
by_item a (lines.Inner x) below P none h s = none
by_item a lines.LongInner below P none h s = none
by_item a lines.End below P none h s = none
by_item a (lines.TooLong x) below P none h s = none
by_item a (lines.NoForm x) below P none h s = none
by_item a (lines.Head x) below P none h s = none
by_item a (lines.Char x) below P none h s = none
by_item a (lines.Num x) below P none h s = none
by_item a (lines.Text x) below P none h s = none
by_item a (lines.Interval x) below P none h s = none
by_item a (lines.Uses x) below P none h s = none
by_item a (lines.Class x) below P none h s = none
by_item a (lines.Has x) below P none h s = none
by_item a (lines.Table x) below P none h s = none
by_item a (lines.Column x) below P none h s = none
by_item a (lines.Net x) below P none h s = none
by_item a (lines.Object x) below P none h s = none
by_item a (lines.Bill x) below P none h s = h x s
by_item a (lines.Operation x) below P none h s = none
by_item a (lines.Block x) below P none h s = none
by_item a (lines.Root x) below P none h s = none
by_item a lines.Action below P none h s = none

pub by_operation : (a : Scope) (line : Line) (below : List Line) (P : Option (ℕ) → Type 0) → P None
    → ((x : OperationLine) → Passes a (lines.Operation x) below → P x.number)
    → Passes a line below → P (operation_of line)
by_operation a lines.Skipped below P none h s = none
by_operation a (lines.Inner x) below P none h s = none
by_operation a lines.LongInner below P none h s = none
by_operation a lines.End below P none h s = none
by_operation a (lines.TooLong x) below P none h s = none
by_operation a (lines.NoForm x) below P none h s = none
by_operation a (lines.Head x) below P none h s = none
by_operation a (lines.Char x) below P none h s = none
by_operation a (lines.Num x) below P none h s = none
by_operation a (lines.Text x) below P none h s = none
by_operation a (lines.Interval x) below P none h s = none
by_operation a (lines.Uses x) below P none h s = none
by_operation a (lines.Class x) below P none h s = none
by_operation a (lines.Has x) below P none h s = none
by_operation a (lines.Table x) below P none h s = none
by_operation a (lines.Column x) below P none h s = none
by_operation a (lines.Net x) below P none h s = none
by_operation a (lines.Object x) below P none h s = none
by_operation a (lines.Bill x) below P none h s = none
by_operation a (lines.Operation x) below P none h s = h x s
by_operation a (lines.Block x) below P none h s = none
by_operation a (lines.Root x) below P none h s = none
by_operation a lines.Action below P none h s = none
