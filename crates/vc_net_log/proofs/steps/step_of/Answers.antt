-- The cells in use at a place are cells.
use Rattle.std.proofs.Common.{◌≡◌, ◌<◌, ◌∙◌, ap, length, subst, sym}
use Rattle.vc_net_places.specs.Places.{place_in}
use Rattle.vc_net_log.proofs.KeptLaws.{inside_cells}
use Rattle.vc_net_log.proofs.steps.step_of.Goals as goal

pub premises_at-premises-requires-clause-inside : goal.premises_at-premises-requires-clause-inside
premises_at-premises-requires-clause-inside c =
    let stood = c.args.standing.now in
    let p = c.place_of-place.result in
    let is : p ≡ place_in stood.index c.args.fact.atom
    = c.place_of-place.ensures ∙ ap (λ index. place_in index c.args.fact.atom) c.places.ensures in
    inside_cells stood c.args.cells.now c.args.counts.now c.args.premises.now c.requires.kept p
    (subst (λ q. q < length stood.index.things) (sym is) c.requires.place)
