-- A source that tells nothing changes nothing. What another giver says fits the room; a clash breaks the net.
use Rattle.std.proofs.Common.{◌≡◌, [], sym, ◌∙◌, subst, arith}
use Rattle.vc_rule.proofs.BoundLaws.{clear_lies_in_grains}
use Rattle.vc_rule_premises.specs.Saying.{HasRoomFor}
use Rattle.vc_net_agenda.specs.Agendas.{meant}
use Rattle.vc_net_log.specs.Logs.{seen_by, set_of}
use Rattle.vc_net_sources.specs.Asking.{evaluations, found_from}
use Rattle.vc_net_sources.proofs.RoomLaws.{rooms_suffice}
use Rattle.vc_net_sources.proofs.SilenceLaws.{silent_sources_cost_nothing, silent_sources_find_nothing}
use Rattle.vc_net.proofs.ClashLaws.{clash_found, clash_kept_breaks_off}
use Rattle.vc_net_going.proofs.TurnLaws.{turn_begins, turn_ends}
use Rattle.vc_net.proofs.settling.turn.Goals as goal

pub returns-then-tells_nothing-clause-counted : goal.returns-then-tells_nothing-clause-counted
returns-then-tells_nothing-clause-counted g c =
    let none : evaluations (meant c.args.giver) ≡ 0 =
    silent_sources_cost_nothing c.args.sources.now (meant c.args.giver)
    (sym c.tells_nothing.ensures ∙ c.if-tells_nothing.true) in
    omega (arith, none)

pub returns-then-tells_nothing-clause-ends : goal.returns-then-tells_nothing-clause-ends
returns-then-tells_nothing-clause-ends g c =
    let plan = c.args.plan.now in
    let sources = c.args.sources.now in
    let work = c.args.work.now in
    let giver = meant c.args.giver in
    turn_ends plan sources giver work work []
    (silent_sources_find_nothing plan sources (seen_by work.log) giver
    (sym c.tells_nothing.ensures ∙ c.if-tells_nothing.true))
    (turn_begins plan sources giver work c.requires.going)

pub ask-requires-clause-values : goal.ask-requires-clause-values
ask-requires-clause-values g c =
    clear_lies_in_grains c.args.plan.now (set_of c.args.work.now.log) c.requires.going.working.sound.clear

pub ask-requires-clause-room : goal.ask-requires-clause-room
ask-requires-clause-room g c =
    let plan = c.args.plan.now in
    let seen = seen_by c.args.work.now.log in
    subst (λ rooms. HasRoomFor rooms (found_from plan c.args.sources.now seen (meant c.args.giver)))
    (sym c.requires.rooms)
    (rooms_suffice plan c.args.sources.now seen (meant c.args.giver) c.requires.valid
    (clear_lies_in_grains plan (set_of c.args.work.now.log) c.requires.going.working.sound.clear))

pub returns-in-Some-clause-ends : goal.returns-in-Some-clause-ends
returns-in-Some-clause-ends g c =
    let plan = c.args.plan.now in
    let sources = c.args.sources.now in
    let work = c.args.work.now in
    let giver = meant c.args.giver in
    let premises = c.in-Some.premises.now in
    clash_kept_breaks_off plan sources work giver premises c.requires.valid c.requires.fits c.requires.going
    (clash_found c.ask.new.out (found_from plan sources (seen_by work.log) giver) premises c.ask.ensures.found
    c.in-Some.ensures.some) _ _ c.keep_clash.ensures c.culprit_of.ensures
