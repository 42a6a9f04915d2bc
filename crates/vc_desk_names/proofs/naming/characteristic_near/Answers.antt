-- What is found near the place is found first of all, as a name is that of one characteristic alone.
use Rattle.std.proofs.Common.{sym, ap, ◌∙◌}
use Rattle.std.specs.Prelude.{slice_get}
use Rattle.std.specs.List.{find}
use Rattle.vc_desk_names.specs.Meant.{is_called}
use Rattle.vc_desk_names.proofs.NameLaws.{found_later}
use Rattle.vc_desk_names.proofs.naming.characteristic_near.Goals as goal

pub returns-in-Some : goal.returns-in-Some
returns-in-Some c =
    let plan = c.args.plan.now in
    let name = c.args.name.now in
    sym (found_later plan c.requires name c.class_of-class.result.now c.args.place.now c.in-Some.characteristic
    (sym c.named_from.ensures ∙ c.in-Some.is))
    ∙ ap (find (λ d. is_called name (slice_get plan.characteristics d))) c.class_of-class.ensures

pub returns-in-None : goal.returns-in-None
returns-in-None c =
    let plan = c.args.plan.now in
    let name = c.args.name.now in
    c.named_from-in-None.ensures
    ∙ ap (find (λ d. is_called name (slice_get plan.characteristics d))) c.class_of-class.ensures
