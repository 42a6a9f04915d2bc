-- The step comes at the end, its premises into the cells of its place.
use Rattle.std.proofs.Common.{◌≡◌, ◌∙◌, ◌^◌, ◌<◌, ap, arith, length, sym}
use Rattle.vc_net_places.specs.Places.{Index, place_in}
use Rattle.vc_net_log.proofs.PushLaws.{cells_suffice, free, outs_small, places_small, premises_small, stays_kept}
use Rattle.vc_net_log.proofs.PushLaws.{step_comes}
use Rattle.vc_net_log.proofs.log.Log.push.Goals as goal

pub write_places-requires-clause-room : goal.write_places-requires-clause-room
write_places-requires-clause-room c =
    let s = c.self.inside in
    cells_suffice s.standing s.cells s.counts s.premises s.outs c.self.invariant c.args.self.now c.self.view_is
    c.args.fact c.args.premises.now c.requires.free c.requires.concluded c.requires.few
    c.places.result.now c.place_of-place.result c.begin-begin.result c.places.ensures c.place_of-place.ensures
    c.begin-begin.ensures

pub write_places-requires-clause-small : goal.write_places-requires-clause-small
write_places-requires-clause-small c =
    let s = c.self.inside in
    places_small s.standing s.cells s.counts s.premises s.outs c.self.invariant c.args.self.now c.self.view_is
    c.args.fact c.args.premises.now c.requires.free c.requires.concluded c.requires.few
    c.places-2.result.now c.places-2.ensures

pub overflow_cast-premises : goal.overflow_cast-premises
overflow_cast-premises c =
    let s = c.self.inside in
    let small : length c.args.premises.now < 2 ^ 32
    = premises_small s.standing s.cells s.counts s.premises s.outs c.self.invariant c.args.self.now c.self.view_is
    c.args.fact c.args.premises.now c.requires.free c.requires.concluded c.requires.few in
    omega (arith, small)

pub count_one_more-requires : goal.count_one_more-requires
count_one_more-requires c =
    let s = c.self.inside in
    outs_small s.standing s.cells s.counts s.premises s.outs c.self.invariant c.args.self.now c.self.view_is
    c.args.fact c.args.premises.now c.requires.free c.requires.concluded c.requires.few

pub put-requires : goal.put-requires
put-requires c =
    let s = c.self.inside in
    free s.standing s.cells s.counts s.premises s.outs c.self.invariant c.args.self.now c.self.view_is
    c.args.fact c.args.premises.now c.requires.free c.requires.concluded c.requires.few

pub invariant_of-self : goal.invariant_of-self
invariant_of-self c =
    let s = c.self.inside in
    let index = c.places-2.result.now in
    let place : c.place_of-place.result ≡ place_in index c.args.fact.atom
    = c.place_of-place.ensures
    ∙ ap (λ (i : Index). place_in i c.args.fact.atom) (c.places.ensures ∙ sym c.places-2.ensures) in
    stays_kept s.standing s.cells s.counts s.premises s.outs c.self.invariant c.args.self.now c.self.view_is
    c.args.fact c.args.premises.now c.requires.free c.requires.concluded c.requires.few
    index c.place_of-place.result c.begin-begin.result c.places-2.ensures place c.begin-begin.ensures c.put.new.self
    c.set.new.self c.write_places.new.cells c.count_one_more.new.outs c.put.ensures c.set.ensures
    c.write_places.ensures c.count_one_more.ensures

pub returns : goal.returns
returns c =
    let s = c.self.inside in
    let index = c.places-2.result.now in
    let place : c.place_of-place.result ≡ place_in index c.args.fact.atom
    = c.place_of-place.ensures
    ∙ ap (λ (i : Index). place_in i c.args.fact.atom) (c.places.ensures ∙ sym c.places-2.ensures) in
    step_comes s.standing s.cells s.counts s.premises s.outs c.self.invariant c.args.self.now c.self.view_is
    c.args.fact c.args.premises.now c.requires.free c.requires.concluded c.requires.few
    index c.place_of-place.result c.begin-begin.result c.places-2.ensures place c.begin-begin.ensures c.put.new.self
    c.set.new.self c.write_places.new.cells c.count_one_more.new.outs c.put.ensures c.set.ensures
    c.write_places.ensures c.count_one_more.ensures
