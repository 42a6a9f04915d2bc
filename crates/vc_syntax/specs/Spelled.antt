-- Which tree a text spells as a dependency of a kind, and which fault it has.
use Rattle.std.specs.Prelude.{◌≡◌, ℕ, true, false, List, Ok, Err}
use Rattle.vc_syntax_tokens.specs.declared.token.Token.{Token}
use Rattle.vc_syntax_tokens.specs.declared.fault.Kind.{Kind}
use Rattle.vc_syntax_tokens.specs.declared.fault.SyntaxKind.{SyntaxKind}
use Rattle.vc_syntax_tokens.specs.declared.fault.SyntaxKind.TheVariants as faults
use Rattle.vc_syntax_tokens.specs.declared.fault.SyntaxFault.TheVariants.{Bad}
use Rattle.vc_syntax.specs.DependencyGrammar.{IsDependency}
use Rattle.vc_syntax_tokens.specs.Limits.{is_too_long, is_too_deep}
use Rattle.vc_syntax_tokens.specs.Tokens.{tokens_of}
use Rattle.vc_syntax_tree.specs.Trees.{Dependency}

-- the text is cut into tokens within the limits, and these spell the tree
pub record Spells (kind : Kind) (text : List ℕ) (tree : Dependency) : Type 0 where
  pub tokens : List Token
  pub cut : tokens_of text ≡ Ok tokens
  pub short : is_too_long tokens ≡ false
  pub shallow : is_too_deep tokens ≡ false
  pub spelled : IsDependency kind tokens tree

-- the fault of a text: its first bad token with its place, else too many tokens, else too deep nesting, else that the
-- tokens spell no tree
pub data IsFault (kind : Kind) (text : List ℕ) : SyntaxKind → ℕ → Type 0 where
  bad_token : {fault : SyntaxKind} {place : ℕ} → tokens_of text ≡ Err (Bad fault place) → IsFault kind text fault place
  too_long : (tokens : List Token) → tokens_of text ≡ Ok tokens → is_too_long tokens ≡ true
      → IsFault kind text faults.TooLong 0
  too_deep : (tokens : List Token) → tokens_of text ≡ Ok tokens → is_too_long tokens ≡ false → is_too_deep tokens ≡ true
      → IsFault kind text faults.TooDeep 0
  no_tree : (tokens : List Token) → tokens_of text ≡ Ok tokens → is_too_long tokens ≡ false → is_too_deep tokens ≡ false
      → ((tree : Dependency) → ¬ IsDependency kind tokens tree) → IsFault kind text faults.NotADependency 0
