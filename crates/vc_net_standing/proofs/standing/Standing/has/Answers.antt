-- A fact that has a number is one.
use Rattle.std.proofs.Common.{◌∙◌, ap}
use Rattle.std.specs.Option.{is_some}
use Rattle.vc_net_standing.proofs.StandingLaws.{some_has}
use Rattle.vc_net_standing.proofs.standing.Standing.has.Goals as goal

pub returns : goal.returns
returns c = c.is_some.ensures ∙ (ap is_some c.number_of.ensures ∙ some_has c.args.self.now.facts c.args.atom)
