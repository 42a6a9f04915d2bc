-- The texts that stand in dependencies are texts.
use Rattle.std.specs.Prelude.{◌≡◌, ℕ, Bool, true, ◌&&◌, List, Ok, IsUtf8}
use Rattle.std.specs.List.{list_all}
use Rattle.std.specs.Str.{is_utf8}
use Rattle.vc_syntax_tokens.specs.declared.fault.Kind.{Kind}
use Rattle.vc_syntax_tree.specs.Trees.{Dependency}
use Rattle.vc_syntax.specs.DependencyTexts.{dependency_in}
use Rattle.vc_model_drafts.specs.Seen.{SeenModel}
use Rattle.vc_plan.specs.Spelling.{is_text}
use Rattle.vc_compile_plan.specs.Texts.{texts_in}

-- 1 to 30 characters of UTF-8
abbrev pub is_literal : List ℕ → Bool
is_literal text = is_text text && is_utf8 text

-- whatever is read as a dependency
abbrev pub ReadTextsAreTexts : Type 0
ReadTextsAreTexts = (kind : Kind) (text : List ℕ) (tree : Dependency) → IsUtf8 text → dependency_in kind text ≡ Ok tree
    → list_all is_literal (texts_in tree) ≡ true

-- the dependencies of a model
pub record KeepsLiterals (model : SeenModel) : Type 0 where
  pub literals : list_all (λ dependency. list_all is_literal (texts_in dependency.tree)) model.dependencies ≡ true
