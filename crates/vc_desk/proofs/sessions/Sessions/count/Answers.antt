-- The names ascend, so each entry counts.
use Rattle.std.proofs.Common.{◌∙◌, ap, sym}
use Rattle.std.specs.FinMap.{len}
use Rattle.vc_outside.proofs.NameLaws.{counted}
use Rattle.vc_desk.proofs.sessions.Sessions.count.Goals as goal

pub returns : goal.returns
returns c =
    c.len.ensures.len ∙ sym (counted (λ key. key.items) c.self.inside.by_name.entries c.len.ensures.ordered)
    ∙ ap len c.self.view_is
