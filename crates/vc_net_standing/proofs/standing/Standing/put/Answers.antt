-- The fact comes at the end, with its number at its place.
use Rattle.std.proofs.Common.{◌∙◌, List, ap, arith}
use Rattle.std.specs.Prelude.{slice_set}
use Rattle.vc_net_places.specs.Places.{place_in}
use Rattle.vc_net_standing.specs.declared.standing.Fact.{Fact}
use Rattle.vc_net_standing.specs.Standing.{Stood, is_free, with_fact}
use Rattle.vc_net_standing.proofs.StandingLaws.{comes, inside, room_left}
use Rattle.vc_net_standing.proofs.standing.Standing.put.Goals as goal

pub overflow_cast-len : goal.overflow_cast-len
overflow_cast-len c =
    let s = c.self.inside in
    let free = ap (λ (stood : Stood). is_free stood c.args.fact.atom) c.self.view_is ∙ c.requires in
    let room = room_left s.places s.numbers s.facts c.self.invariant c.args.fact free in
    omega (arith, room, c.self.invariant.small, c.len.ensures)

pub set-requires : goal.set-requires
set-requires c =
    let s = c.self.inside in
    let free = ap (λ (stood : Stood). is_free stood c.args.fact.atom) c.self.view_is ∙ c.requires in
    let low = inside s.places s.numbers s.facts c.self.invariant c.args.fact free in
    omega (arith, low, c.place_of-place.ensures)

pub invariant_of-self : goal.invariant_of-self
invariant_of-self c =
    let s = c.self.inside in
    let free = ap (λ (stood : Stood). is_free stood c.args.fact.atom) c.self.view_is ∙ c.requires in
    let set = c.set.ensures
    ∙ (ap (λ p. slice_set s.numbers p c.len.result) c.place_of-place.ensures
    ∙ ap (slice_set s.numbers (place_in s.places c.args.fact.atom)) c.len.ensures) in
    (comes s.places s.numbers s.facts c.self.invariant c.args.fact free c.set.new.self c.push.new.self set
    c.push.ensures).0

pub returns : goal.returns
returns c =
    let s = c.self.inside in
    let free = ap (λ (stood : Stood). is_free stood c.args.fact.atom) c.self.view_is ∙ c.requires in
    let set = c.set.ensures
    ∙ (ap (λ p. slice_set s.numbers p c.len.result) c.place_of-place.ensures
    ∙ ap (slice_set s.numbers (place_in s.places c.args.fact.atom)) c.len.ensures) in
    let both
    = comes s.places s.numbers s.facts c.self.invariant c.args.fact free c.set.new.self c.push.new.self set
    c.push.ensures in
    ap (λ (facts : List Fact). record { index = s.places; facts = facts }) both.1
    ∙ ap (λ stood. with_fact stood c.args.fact) c.self.view_is
