-- A giver waits just where its number does.
use Rattle.std.proofs.Common.{◌≡◌, ap, sym, ◌∙◌}
use Rattle.std.specs.Prelude.{None, Some}
use Rattle.vc_base.specs.Sets.{has}
use Rattle.vc_net_laws.specs.Working.{same_giver}
use Rattle.vc_net_agenda.specs.Agendas.{Awaited, meant, number_of}
use Rattle.vc_net_agenda.proofs.AgendaLaws.{has_nobody, has_number}
use Rattle.vc_net_agenda.proofs.agenda.Agenda.has.Goals as goal

pub returns-in-Some : goal.returns-in-Some
returns-in-Some c =
    let s = c.self.inside in
    let giver = meant c.args.giver in
    let e : number_of s.rules s.vars giver ≡ Some c.in-Some.number
    = ap (λ (a : Awaited). number_of a.rules a.vars giver) c.self.view_is ∙ sym c.in-Some.ensures in
    c.has.ensures
    ∙ (sym (has_number s.rules s.vars c.in-Some.number giver s.pending.items e c.self.invariant.below)
    ∙ ap (λ (a : Awaited). has same_giver a.givers giver) c.self.view_is)

pub returns-in-None : goal.returns-in-None
returns-in-None c =
    let s = c.self.inside in
    let giver = meant c.args.giver in
    let e : number_of s.rules s.vars giver ≡ None
    = ap (λ (a : Awaited). number_of a.rules a.vars giver) c.self.view_is ∙ sym c.in-None.ensures in
    sym (has_nobody s.rules s.vars giver s.pending.items e c.self.invariant.below)
    ∙ ap (λ (a : Awaited). has same_giver a.givers giver) c.self.view_is
