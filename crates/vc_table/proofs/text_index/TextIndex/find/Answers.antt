use Rattle.std.proofs.Common.{◌∙◌, ap}
use Rattle.vc_table.specs.Tables.{text_number}
use Rattle.vc_table.proofs.TextLemmas.{lookup_number}
use Rattle.vc_table.proofs.text_index.TextIndex.find.Goals as goal

pub returns : goal.returns
returns c =
    c.copied.ensures ∙ c.get.ensures.value
    ∙ lookup_number (λ text. text.items) c.args.text.now c.self.inside.numbers.entries
    ∙ ap (λ entries. text_number entries c.args.text.now) c.self.view_is
