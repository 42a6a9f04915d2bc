-- The plan is valid: its model was read from a text, and its tables with the model's headers.
use Rattle.std.proofs.Common.{subst}
use Rattle.vc_compile.specs.Compiled.{IsValidIfRead}
use Rattle.vc_app_models.proofs.LoadingLaws.{valid_in}
use Rattle.vc_app_models.proofs.loading.load_plan.Goals as goal

pub returns-clause-valid : goal.returns-clause-valid
returns-clause-valid g c =
    let model = c.in_ok-model.model in
    let tables = c.in_ok-tables.tables in
    let plan = c.in_ok-plan.plan in
    valid_in (g.F.Shelf.files c.args.shelf.now) (g.F.Shelf.files c.load_text.new.shelf) c.args.name.now model tables
    plan
    c.in_ok-model.ensures.model c.in_ok-tables.ensures.tables
    (subst (λ read. IsValidIfRead model read plan) c.as_slice.ensures c.in_ok-plan.ensures.valid)
