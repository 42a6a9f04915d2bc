-- All that stands in a dependency.
use Rattle.std.specs.Prelude.{◌≡◌, ◌++◌, flat_map}
use Rattle.vc_syntax_tree.specs.Trees.{Dependency}
use Rattle.vc_types.specs.Occurrences.{conditions_in, relations_in, calls_in, own_terms, values_in, terms_in, uses_in}
use Rattle.vc_types.specs.Occurrences.{parted_names, summed_names}
use Rattle.vc_types.specs.Settings.{Setting}
use Rattle.vc_types_occurrences.specs.Met.{all_met}
use Rattle.vc_types_occurrences.specs.Seen.{conditions_seen, relations_seen, calls_seen, terms_seen, leaves_seen}
use Rattle.vc_types_occurrences.specs.declared.gathering.Given.{Given}
use Rattle.vc_types_occurrences.specs.declared.gathering.Leaves.{Leaves}
use Rattle.vc_types_occurrences.specs.declared.gathering.Parts.{Parts}

pub record AreParts (dependency : Dependency) (parts : Parts) : Type 0 where
  pub conditions : conditions_seen parts.conditions ≡ conditions_in dependency
  pub relations : relations_seen parts.relations ≡ relations_in dependency
  pub calls : calls_seen parts.calls ≡ calls_in dependency

-- the terms, of which some are given and no sides of relations
pub record AreTerms (dependency : Dependency) (terms : Given) : Type 0 where
  pub given : terms_seen terms.given ≡ own_terms dependency ++ flat_map values_in (calls_in dependency)
  pub all : terms_seen terms.all ≡ terms_in dependency

pub record AreLeaves (setting : Setting) (dependency : Dependency) (leaves : Leaves) : Type 0 where
  pub uses : leaves.uses ≡ all_met setting (uses_in dependency)
  pub parted : leaves_seen leaves.parted ≡ parted_names dependency
  pub summed : leaves_seen leaves.summed ≡ summed_names dependency
