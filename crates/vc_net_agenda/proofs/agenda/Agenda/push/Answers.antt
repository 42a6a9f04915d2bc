-- A giver comes where its number does.
use Rattle.std.proofs.Common.{◌≡◌, ap, sym, ◌∙◌}
use Rattle.std.specs.Prelude.{Some}
use Rattle.vc_net_agenda.specs.Agendas.{Awaited, added, meant, number_of}
use Rattle.vc_net_agenda.proofs.AgendaLaws.{is_added}
use Rattle.vc_net_agenda.proofs.agenda.Agenda.push.Goals as goal

pub returns-in-Some : goal.returns-in-Some
returns-in-Some c =
    let s = c.self.inside in
    let giver = meant c.args.giver in
    let e : number_of s.rules s.vars giver ≡ Some c.in-Some.number
    = ap (λ (a : Awaited). number_of a.rules a.vars giver) c.self.view_is ∙ sym c.in-Some.ensures in
    is_added s.rules s.vars c.in-Some.number s.pending c.push.new.self giver c.self.invariant e c.push.ensures
    ∙ ap (λ a. added a giver) c.self.view_is
