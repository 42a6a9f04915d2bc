-- An atom that the log doesn't conclude has a number after those of the log.
use Rattle.std.proofs.Common.{sym, ◌∙◌}
use Rattle.vc_net.proofs.NumberLaws.{number_past_all}
use Rattle.vc_net.proofs.clashes.number_of.Goals as goal

pub returns-in-None : goal.returns-in-None
returns-in-None c =
    number_past_all c.args.log.now.steps c.args.last c.args.atom c.facts.result.now c.number_past.result
    c.number_past.ensures c.facts.ensures (sym c.number_of.ensures ∙ c.in-None.is)
