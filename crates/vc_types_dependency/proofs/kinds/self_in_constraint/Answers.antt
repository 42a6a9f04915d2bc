use Rattle.std.proofs.Common.{◌∙◌, ap}
use Rattle.std.specs.List.{list_any}
use Rattle.vc_types.specs.NameFaults.{is_self_in_constraint}
use Rattle.vc_types.specs.Occurrences.{uses_in}
use Rattle.vc_types_dependency.specs.Found.{setting_in, tree_in}
use Rattle.vc_types_faults.proofs.AnyLemmas.{any_map}
use Rattle.vc_types_occurrences.specs.Met.{met}
use Rattle.vc_types_dependency.proofs.kinds.self_in_constraint.Goals as goal

pub returns : goal.returns
returns c =
    let found = c.args.found.now in
    c.some_self_in_constraint.ensures
    ∙ ap (list_any (λ u. is_self_in_constraint u.meaning)) (c.as_slice.ensures ∙ c.requires.leaves.uses)
    ∙ any_map (λ u. is_self_in_constraint u.meaning) (met (setting_in found)) (uses_in (tree_in found))
