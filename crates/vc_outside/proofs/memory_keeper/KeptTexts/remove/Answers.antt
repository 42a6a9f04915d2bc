-- The text of the name is taken out, or none has the name.
use Rattle.std.proofs.Common.{◌∙◌, ap, sym}
use Rattle.std.specs.FinMap.{from_entries, get, remove}
use Rattle.std.specs.Prelude.{map, is_some}
use Rattle.vc_outside.specs.MemoryKeepers.{named_text}
use Rattle.vc_outside.proofs.NameLaws.{found, removed}
use Rattle.vc_outside.proofs.memory_keeper.KeptTexts.remove.Goals as goal

pub returns-clause-there : goal.returns-clause-there
returns-clause-there c =
    c.is_some-there.ensures
    ∙ ap is_some (c.remove-removed.ensures.value
    ∙ sym (ap (λ m. get m c.args.name.now) (sym c.self.view_is)
    ∙ found (λ key. key.items) c.self.inside.by_name.entries c.args.name.now))

pub returns-clause-texts : goal.returns-clause-texts
returns-clause-texts c =
    ap (λ es. from_entries (map named_text es)) c.remove-removed.ensures.entries
    ∙ removed (λ key. key.items) c.self.inside.by_name.entries c.args.name.now c.len-count.ensures.ordered
    ∙ ap (λ m. remove m c.args.name.now) c.self.view_is
