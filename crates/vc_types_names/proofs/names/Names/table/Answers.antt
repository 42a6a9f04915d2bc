use Rattle.std.proofs.Common.{◌∙◌, ap, sym}
use Rattle.std.specs.List.{slice_get}
use Rattle.std.specs.Str.{bytes_eq}
use Rattle.vc_types_names.proofs.NameLemmas.{found_there, found_nowhere}
use Rattle.vc_types_names.proofs.names.Names.table.Goals as goal

pub returns-in-Some : goal.returns-in-Some
returns-in-Some c =
    let names = c.args.self.now in
    c.element.ensures ∙ ap (λ tables. slice_get tables c.in-Some.number) c.as_slice.ensures
    ∙ found_there (λ table. bytes_eq table.name c.args.name.now) names.model.now.tables c.in-Some.number
    (sym (names.tables_are c.args.name.now) ∙ sym c.find.ensures ∙ c.in-Some.is)

pub returns-in-None : goal.returns-in-None
returns-in-None c =
    let names = c.args.self.now in
    found_nowhere (λ table. bytes_eq table.name c.args.name.now) names.model.now.tables
    (sym (names.tables_are c.args.name.now) ∙ sym c.find.ensures ∙ c.in-None.is)
