use Rattle.std.proofs.Common.{◌∙◌, ap}
use Rattle.std.specs.List.{list_any}
use Rattle.vc_types.specs.Settings.{is_set}
use Rattle.vc_types.specs.Occurrences.{uses_in}
use Rattle.vc_types_dependency.specs.Found.{setting_in, tree_in}
use Rattle.vc_types_faults.proofs.AnyLemmas.{any_map}
use Rattle.vc_types_occurrences.specs.Met.{met}
use Rattle.vc_types_dependency.proofs.kinds.uses_set.Goals as goal

pub returns : goal.returns
returns c =
    let found = c.args.found.now in
    c.some_set.ensures ∙ ap (λ m. list_any (λ u. is_set m u.meaning) c.as_slice.result.now) c.names.ensures
    ∙ ap (list_any (λ u. is_set (setting_in found).model u.meaning)) (c.as_slice.ensures ∙ c.requires.leaves.uses)
    ∙ any_map (λ u. is_set (setting_in found).model u.meaning) (met (setting_in found)) (uses_in (tree_in found))
