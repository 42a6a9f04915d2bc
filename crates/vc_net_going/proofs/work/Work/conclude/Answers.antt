-- Where the atom stands already the work goes on as it was.
use Rattle.std.proofs.Common.{sym, ◌∙◌}
use Rattle.vc_net_agenda.specs.Agendas.{meant}
use Rattle.vc_net_going.proofs.GoingLaws.{stood}
use Rattle.vc_net_going.proofs.work.Work.conclude.Goals as goal

pub returns-then-stands : goal.returns-then-stands
returns-then-stands c =
    stood c.args.plan.now c.args.sources.now c.args.self.now (meant c.args.giver) c.args.atom c.args.premises.now
    c.requires.going c.requires.may (sym c.stands.ensures ∙ c.if-stands.true)
