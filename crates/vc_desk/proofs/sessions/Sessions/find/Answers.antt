-- The entry that is found is the map's.
use Rattle.std.proofs.Common.{◌∙◌, ap, sym}
use Rattle.std.specs.FinMap.{get}
use Rattle.vc_outside.proofs.NameLaws.{found}
use Rattle.vc_desk.proofs.sessions.Sessions.find.Goals as goal

pub returns : goal.returns
returns c =
    c.get.ensures.value
    ∙ sym (ap (λ m. get m c.bytes.result.now) (sym c.self.view_is)
    ∙ found (λ key. key.items) c.self.inside.by_name.entries c.bytes.result.now)
    ∙ ap (get c.args.self.now) c.bytes.ensures
