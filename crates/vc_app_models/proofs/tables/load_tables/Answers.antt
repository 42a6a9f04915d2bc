-- One table more is read, and why a table isn't there.
use Rattle.std.proofs.Common.{◌+◌, ap, sym, subst, arith, ◌∙◌, length}
use Rattle.std.proofs.lemmas.List.{length_push}
use Rattle.vc_app_models.specs.Loading.{AreTablesIn, IsTableAt}
use Rattle.vc_app_models.proofs.LoadingLaws.{tables_push}
use Rattle.vc_app_models.proofs.tables.load_tables.Goals as goal

pub loop-number-preserved : goal.loop-number-preserved
loop-number-preserved g c =
    let before = c.loop-number.invariant in
    let files = g.F.Shelf.files c.args.shelf.now in
    let model = c.args.model.now in
    let pushed = c.in_ok-push.ensures.ok in
    let read
    = subst (λ fs. IsTableAt fs model c.loop-number.number c.in_ok-table.table) before.files
    c.in_ok-table.ensures.table in
    let first = before.later in
    let then = c.load_table.ensures.later in
    record {
      count = ap length pushed ∙ length_push c.loop-number.tables c.in_ok-table.table ∙ ap (λ n. n + 1) before.count;
      read = subst (λ tables. AreTablesIn files model model.tables tables) (sym pushed)
          (tables_push files model c.loop-number.number c.loop-number.tables c.in_ok-table.table before.count
          before.read read);
      files = c.load_table.ensures.files ∙ before.files;
      later = omega arith;
    }
