-- Laws of logs: what numbers cite, whose place is free, and how much room there is.
use Rattle.std.proofs.Common.{◌≡◌, ◌<◌, true, false, List, [], ◌∷◌, ◌++◌, length, refl, sym, ◌∙◌, ap, subst, arith}
use Rattle.std.specs.Prelude.{Some, slice_get, slice_index_or}
use Rattle.std.proofs.lemmas.List.{length-map}
use Rattle.std.proofs.lemmas.Option.{get_or_from_slice_get, slice_get_within}
use Rattle.vc_plan.specs.declared.atoms.Step.{Step}
use Rattle.vc_plan.specs.Clear.{is_clear}
use Rattle.vc_plan.specs.Seen.{says, seen_of}
use Rattle.vc_plan.specs.Bounds.{place_for}
use Rattle.vc_plan_blame.proofs.BlameLaws.Citing.{numbers_found}
use Rattle.vc_plan_reasons.specs.Checking.{concluded, set_with}
use Rattle.vc_net_places.specs.Cells.{all_places, begins_of, bounds_of, own_bound}
use Rattle.vc_net_places.specs.Places.{number_of}
use Rattle.vc_net_places.proofs.PlaceLaws.Cells.{bounds_are_by_place, cells_are_apart, places_length}
use Rattle.vc_net_places.proofs.PlaceLaws.Numbering.{named_have_places}
use Rattle.vc_net_places.proofs.PlaceLaws.Things.{index_tells_places}
use Rattle.vc_net_standing.specs.Standing.{atoms_of}
use Rattle.vc_net_standing.proofs.FreeLaws.{new_atoms_are_free}
use Rattle.vc_net_log.specs.Laws.{BoundsAreCounted, NewStepsAreFree, PremisesAreCited, RoomsAreBounds}
use Rattle.vc_net_log.specs.Logs.{facts_of, room_at, stood_of}

pub premises_are_cited : PremisesAreCited
premises_are_cited steps premises within = numbers_found (concluded steps) premises within

pub atoms_stand : (steps : List Step) → atoms_of (facts_of steps) ≡ concluded steps
atoms_stand [] = refl
atoms_stand (step ∷ steps) = ap (λ xs. step.conclusion ∷ xs) (atoms_stand steps)

pub new_steps_are_free : NewStepsAreFree
new_steps_are_free plan log atom is clear new =
    let same = sym (atoms_stand log.steps) in
    new_atoms_are_free plan (stood_of log) atom is
    (subst (λ atoms. is_clear plan (set_with (atoms ++ atom ∷ [])) ≡ true) same clear)
    (subst (λ atoms. says (seen_of (set_with atoms)) atom ≡ false) same new)

pub bounds_are_counted : BoundsAreCounted
bounds_are_counted plan =
    length-map (all_places plan) (own_bound plan) ∙ places_length plan (length plan.vars)

pub rooms_are_bounds : RoomsAreBounds
rooms_are_bounds plan atom named =
    let place = place_for atom in
    let there = named_have_places plan atom named in
    let number = number_of plan place in
    let is : slice_get (bounds_of plan) number ≡ Some (own_bound plan place) = bounds_are_by_place plan place there in
    let low : number < length (bounds_of plan) = slice_get_within (bounds_of plan) number (own_bound plan place) is in
    let bound : slice_index_or (bounds_of plan) number 0 ≡ own_bound plan place
    = get_or_from_slice_get (bounds_of plan) number (own_bound plan place) 0 is in
    let sum = cells_are_apart (bounds_of plan) number low in
    ap (room_at (begins_of plan)) (index_tells_places plan atom there) ∙ omega (arith, sum, bound)
