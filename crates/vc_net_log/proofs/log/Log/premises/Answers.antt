-- The cells in use at the step's place are cells, and the premises there are those of the step.
use Rattle.std.proofs.Common.{◌+◌, ◌<◌, ◌≤◌, ◌∙◌, ℕ, List, ap, length, subst, sym}
use Rattle.std.specs.Prelude.{slice_index_or}
use Rattle.vc_plan.specs.declared.atoms.Atom.TheVariants.{Here}
use Rattle.vc_plan.specs.declared.atoms.Origin.TheVariants.{Rule}
use Rattle.vc_net_standing.specs.declared.standing.Fact.{Fact}
use Rattle.vc_net_log.specs.Keeping.{cells_at}
use Rattle.vc_net_log.proofs.PremiseLaws.{begin_there, cells_inside, count_there, premises_told}
use Rattle.vc_net_log.proofs.log.Log.premises.Goals as goal

-- what is read past the end
abbrev nobody : Fact
nobody = record { atom = Here 0; origin = Rule 0 }

pub premises_at-requires-clause-begins : goal.premises_at-requires-clause-begins
premises_at-requires-clause-begins c =
    let s = c.self.inside in
    begin_there s.standing s.cells s.counts s.premises c.self.invariant.premises c.args.self.now c.self.view_is
    c.args.step c.requires nobody c.places.result.now c.facts.result.now c.place_of-place.result c.places.ensures
    c.facts.ensures c.place_of-place.ensures

pub premises_at-requires-clause-counts : goal.premises_at-requires-clause-counts
premises_at-requires-clause-counts c =
    let s = c.self.inside in
    subst (λ (counts : List ℕ). c.place_of-place.result < length counts) (sym c.as_slice.ensures)
    (count_there s.standing s.cells s.counts s.premises c.self.invariant.premises c.args.self.now c.self.view_is
    c.args.step c.requires nobody c.places.result.now c.facts.result.now c.place_of-place.result c.places.ensures
    c.facts.ensures c.place_of-place.ensures)

pub premises_at-requires-clause-inside : goal.premises_at-requires-clause-inside
premises_at-requires-clause-inside c =
    let s = c.self.inside in
    subst (λ (counts : List ℕ). slice_index_or s.cells c.place_of-place.result 0
    + slice_index_or counts c.place_of-place.result 0 ≤ length c.as_slice-2.result.now) (sym c.as_slice.ensures)
    (subst (λ (cells : List ℕ). slice_index_or s.cells c.place_of-place.result 0
    + slice_index_or s.counts c.place_of-place.result 0 ≤ length cells) (sym c.as_slice-2.ensures)
    (cells_inside s.standing s.cells s.counts s.premises c.self.invariant.premises c.args.self.now c.self.view_is
    c.args.step c.requires nobody c.places.result.now c.facts.result.now c.place_of-place.result c.places.ensures
    c.facts.ensures c.place_of-place.ensures))

pub returns : goal.returns
returns c =
    let s = c.self.inside in
    premises_told s.standing s.cells s.counts s.premises c.self.invariant.premises c.args.self.now c.self.view_is
    c.args.step c.requires nobody c.places.result.now c.facts.result.now c.place_of-place.result c.places.ensures
    c.facts.ensures c.place_of-place.ensures c.premises_at.result.now
    (c.premises_at.ensures
    ∙ (ap (λ (counts : List ℕ). cells_at s.cells counts c.as_slice-2.result.now c.place_of-place.result)
    c.as_slice.ensures
    ∙ ap (λ (cells : List ℕ). cells_at s.cells s.counts cells c.place_of-place.result) c.as_slice-2.ensures))
