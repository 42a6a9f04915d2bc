-- A dependency at a place, with all that stands in it.
use Rattle.std.specs.Prelude.{◌≡◌}
use Rattle.vc_syntax_tree.specs.Trees.{Dependency}
use Rattle.vc_types.specs.Settings.{Setting, variables_in}
use Rattle.vc_types_meanings.specs.Borrowed.{tree_of}
use Rattle.vc_types_meanings.specs.Seen.{seen}
use Rattle.vc_types_occurrences.specs.Gathered.{AreParts, AreTerms, AreLeaves}
use Rattle.vc_types_dependency.specs.declared.found.Found.{Found}

abbrev pub setting_in : Found → Setting
setting_in found = seen found.setting.now

abbrev pub tree_in : Found → Dependency
tree_in found = tree_of found.tree

-- all that stands in it, and nothing else
pub record IsFound (found : Found) : Type 0 where
  pub variables : (setting_in found).variables ≡ variables_in (setting_in found).model (tree_in found)
  pub parts : AreParts (tree_in found) found.parts.now
  pub terms : AreTerms (tree_in found) found.terms.now
  pub leaves : AreLeaves (setting_in found) (tree_in found) found.leaves.now
