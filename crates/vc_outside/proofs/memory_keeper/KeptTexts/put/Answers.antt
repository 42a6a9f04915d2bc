-- The text stands beside the others.
use Rattle.std.proofs.Common.{◌∙◌, ap}
use Rattle.std.specs.FinMap.{from_entries, insert}
use Rattle.std.specs.Prelude.{map}
use Rattle.vc_outside.specs.MemoryKeepers.{named_text}
use Rattle.vc_outside.proofs.NameLaws.{inserted}
use Rattle.vc_outside.proofs.memory_keeper.KeptTexts.put.Goals as goal

pub returns-clause-ok : goal.returns-clause-ok
returns-clause-ok c =
    let old = c.args.self.now in
    ap (λ es. from_entries (map named_text es)) c.in_ok-insert.ensures.entries
    ∙ inserted (λ key. key.items) c.self.inside.by_name.entries c.in_ok-key.key c.in_ok-kept.kept
    ∙ ap (λ m. insert m c.in_ok-key.key.items c.in_ok-kept.kept) c.self.view_is
    ∙ ap (λ name. insert old name c.in_ok-kept.kept) c.in_ok-key.ensures.items
    ∙ ap (insert old c.args.name.now) c.in_ok-kept.ensures
