use Rattle.std.proofs.Common.{slice_get, sym, ap, refl, ◌∙◌}
use Rattle.vc_net_bounds.specs.Keeping.{own_columns}
use Rattle.vc_net_bounds.proofs.KeepingLemmas.{one_column, own_grains, sole_is_all}
use Rattle.vc_net_bounds.proofs.keeping.column_for.Goals as goal

pub returns-clause-counts : goal.returns-clause-counts
returns-clause-counts c =
    one_column c.args.plan.now c.args.var c.args.columns.now
    (record { table = c.args.table; column = c.in_ok-column.column; domain = c.in_ok-x.x.now.domain }) c.in_ok-x.x.now
    (sole_is_all (own_columns c.args.var c.args.columns.now) c.in_ok-column.column (sym c.in_ok-column.ensures))
    (ap (λ xs. slice_get xs c.args.var) (sym c.as_slice.ensures) ∙ c.in_ok-x.ensures.some) refl

pub returns-clause-grains : goal.returns-clause-grains
returns-clause-grains c =
    own_grains c.args.plan.now c.args.var c.in_ok-x.x.now.domain c.in_ok-x.x.now
    (ap (λ xs. slice_get xs c.args.var) (sym c.as_slice.ensures) ∙ c.in_ok-x.ensures.some) refl
