use Rattle.std.proofs.Common.{◌≡◌, ◌+◌, ◌&&◌, ◌∙◌, ap, sym, drop, true, false}
use Rattle.csv.specs.Records.{fields_of}
use Rattle.vc_value.specs.Words.{same_ignoring_case}
use Rattle.vc_table.specs.Tables.{are_names}
use Rattle.vc_table.proofs.TableLemmas.{drop_at, field_drop, field_none, names_step, names_none}
use Rattle.vc_table.proofs.cells.fields_are_names.Goals as goal

pub returns-in_default : goal.returns-in_default
returns-in_default c =
    let i = c.loop-index.index in
    let columns = c.args.columns.now in
    let fields = fields_of c.args.row.now in
    let column = c.index-columns-index.result in
    let field = c.in-Some.field.now in
    let so_far : are_names (drop i columns) (drop i fields) ≡ are_names columns fields = c.loop-index.invariant in
    let here = names_step (drop i columns) (drop (i + 1) columns) (drop i fields) (drop (i + 1) fields) column field
    (drop_at columns i column c.loop-index-test.true c.index-columns-index.is)
    (field_drop fields i field (sym c.in-Some.ensures.value)) in
    let other : same_ignoring_case column.name field ≡ false
    = sym (ap (λ name. same_ignoring_case name field) c.bytes.ensures) ∙ sym c.equals_ignoring_case.ensures
    ∙ c.if-equals_ignoring_case.false in
    sym (sym so_far ∙ here ∙ ap (λ b. b && are_names (drop (i + 1) columns) (drop (i + 1) fields)) other)

pub returns-in_default-2 : goal.returns-in_default-2
returns-in_default-2 c =
    let i = c.loop-index.index in
    let columns = c.args.columns.now in
    let fields = fields_of c.args.row.now in
    let column = c.index-columns-index.result in
    let so_far : are_names (drop i columns) (drop i fields) ≡ are_names columns fields = c.loop-index.invariant in
    let missing = rw c.in_default.is at c.get.ensures.value in
    sym (sym so_far ∙ names_none (drop i columns) (drop (i + 1) columns) (drop i fields) column
    (drop_at columns i column c.loop-index-test.true c.index-columns-index.is) (field_none fields i (sym missing)))

pub loop-index-preserved : goal.loop-index-preserved
loop-index-preserved c =
    let i = c.loop-index.index in
    let columns = c.args.columns.now in
    let fields = fields_of c.args.row.now in
    let column = c.index-columns-index.result in
    let field = c.in-Some.field.now in
    let so_far : are_names (drop i columns) (drop i fields) ≡ are_names columns fields = c.loop-index.invariant in
    let here = names_step (drop i columns) (drop (i + 1) columns) (drop i fields) (drop (i + 1) fields) column field
    (drop_at columns i column c.loop-index-test.true c.index-columns-index.is)
    (field_drop fields i field (sym c.in-Some.ensures.value)) in
    let same : same_ignoring_case column.name field ≡ true
    = sym (ap (λ name. same_ignoring_case name field) c.bytes.ensures) ∙ sym c.equals_ignoring_case.ensures
    ∙ c.if-equals_ignoring_case.true in
    sym (here ∙ ap (λ b. b && are_names (drop (i + 1) columns) (drop (i + 1) fields)) same) ∙ so_far
