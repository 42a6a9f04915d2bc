use Rattle.std.proofs.Common.{◌∙◌, ap, sym, length}
use Rattle.std.specs.Str.{bytes_eq}
use Rattle.vc_compile_cuts.proofs.TableLemmas.{no_place}
use Rattle.vc_compile_cuts.proofs.tables.table_number.Goals as goal

pub returns-in-None : goal.returns-in-None
returns-in-None c =
    let model = c.args.setting.now.names.now.model.now in
    let name = c.args.name.now in
    c.len.ensures ∙ ap (λ m. length m.tables) (c.model.ensures ∙ c.names.ensures)
    ∙ no_place (λ table. bytes_eq table.name name) model.tables
    (sym (c.requires name) ∙ sym c.find.ensures ∙ c.in-None.is)
