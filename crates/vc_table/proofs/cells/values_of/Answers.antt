use Rattle.std.proofs.Common.{◌≡◌, ◌+◌, ◌∷◌, ◌++◌, ◌∙◌, ap, sym, drop, Some, None}
use Rattle.std.specs.Option.{option_map, option_and_then}
use Rattle.csv.specs.Records.{fields_of}
use Rattle.vc_table.specs.Tables.{values_of, value_of}
use Rattle.vc_table.proofs.TableLemmas.{drop_at, field_drop, field_none, values_step, values_none, values_more}
use Rattle.vc_table.proofs.cells.values_of.Goals as goal

pub returns-in_default : goal.returns-in_default
returns-in_default c =
    let i = c.loop-index.index in
    let columns = c.args.columns.now in
    let fields = fields_of c.args.row.now in
    let column = c.index-columns-index.result in
    let found = c.loop-index.cells.items in
    let so_far : option_map (λ more. found ++ more) (values_of (drop i columns) (drop i fields))
    ≡ values_of columns fields = c.loop-index.invariant in
    let none
    = values_none (drop i columns) (drop (i + 1) columns) (drop i fields) column
    (drop_at columns i column c.loop-index-test.true c.index-columns-index.is)
    (field_none fields i (sym c.in_default.ensures.value)) in
    sym (sym so_far ∙ ap (option_map (λ more. found ++ more)) none)

pub returns-in_default-value_of : goal.returns-in_default-value_of
returns-in_default-value_of c =
    let i = c.loop-index.index in
    let columns = c.args.columns.now in
    let fields = fields_of c.args.row.now in
    let column = c.index-columns-index.result in
    let field = c.in-Some.field.now in
    let found = c.loop-index.cells.items in
    let so_far : option_map (λ more. found ++ more) (values_of (drop i columns) (drop i fields))
    ≡ values_of columns fields = c.loop-index.invariant in
    let here = values_step (drop i columns) (drop (i + 1) columns) (drop i fields) (drop (i + 1) fields) column field
    (drop_at columns i column c.loop-index-test.true c.index-columns-index.is)
    (field_drop fields i field (sym c.in-Some.ensures.value)) in
    let none : value_of column field ≡ None = sym c.value_of.ensures ∙ c.in_default-value_of.is in
    sym (sym so_far ∙ ap (option_map (λ more. found ++ more))
    (here ∙ ap (option_and_then
    (λ value. option_map (λ values. value ∷ values) (values_of (drop (i + 1) columns) (drop (i + 1) fields))))
    none))

pub loop-index-preserved : goal.loop-index-preserved
loop-index-preserved c =
    let i = c.loop-index.index in
    let columns = c.args.columns.now in
    let fields = fields_of c.args.row.now in
    let column = c.index-columns-index.result in
    let field = c.in-Some.field.now in
    let found = c.loop-index.cells.items in
    let more = values_of (drop (i + 1) columns) (drop (i + 1) fields) in
    let value = c.in-Some-value_of.value in
    let so_far : option_map (λ more. found ++ more) (values_of (drop i columns) (drop i fields))
    ≡ values_of columns fields = c.loop-index.invariant in
    let here = values_step (drop i columns) (drop (i + 1) columns) (drop i fields) (drop (i + 1) fields) column field
    (drop_at columns i column c.loop-index-test.true c.index-columns-index.is)
    (field_drop fields i field (sym c.in-Some.ensures.value)) in
    let is : value_of column field ≡ Some value = sym c.value_of.ensures ∙ c.in-Some-value_of.is in
    let step = here ∙ ap (option_and_then (λ value. option_map (λ values. value ∷ values) more)) is in
    ap (λ found. option_map (λ rest. found ++ rest) more) c.in_ok-push.ensures.items
    ∙ sym (values_more found value more) ∙ sym (ap (option_map (λ more. found ++ more)) step) ∙ so_far
