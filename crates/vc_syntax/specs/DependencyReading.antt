-- How a dependency of a kind is read, from all of its tokens.
use Rattle.std.specs.Prelude.{ℕ, List, [], ◌∷◌, Bool, true, false, Option, Some, None, option_map, cond}
use Rattle.vc_syntax_tokens.specs.declared.token.Token.{Token}
use Rattle.vc_syntax_tokens.specs.declared.token.Sign.TheVariants as signs
use Rattle.vc_syntax_tokens.specs.declared.fault.Kind.{Kind}
use Rattle.vc_syntax_tokens.specs.declared.fault.Kind.TheVariants as kinds
use Rattle.vc_syntax_terms.specs.Leaves.{after_sign}
use Rattle.vc_syntax_terms.specs.Reading.{then, listed}
use Rattle.vc_syntax_terms.specs.TermReading.{sum}
use Rattle.vc_syntax_terms.specs.ConditionReading.{condition}
use Rattle.vc_syntax.specs.StatementReading.{statement}
use Rattle.vc_syntax.specs.ConstraintReading.{constraint}
use Rattle.vc_syntax_tree.specs.Trees as trees
use Rattle.vc_syntax_tree.specs.Trees.{Dependency}

abbrev pub is_end : List Token → Bool
is_end [] = true
is_end (t ∷ ts) = false

abbrev pub without_period : Option (List Token) → List Token → List Token
without_period None ts = ts
without_period (Some rest) ts = rest

-- nothing, or a period and nothing more
abbrev pub is_stop : List Token → Bool
is_stop ts = is_end (without_period (after_sign signs.Period ts) ts)

-- what was read, if the tokens after it are an end
abbrev pub up_to : {A : Type 0} → (List Token → Bool) → Option (A × List Token) → Option A
up_to ends read = then read (λ found. cond (ends found.1) (Some found.0) None)

abbrev pub dependency : Kind → ℕ → List Token → Option Dependency
dependency kinds.Precondition left ts = option_map trees.Precondition (up_to is_stop (condition left ts))
dependency kinds.Selection left ts = option_map trees.Selection (up_to is_stop (condition left ts))
dependency kinds.Procedure left ts = option_map trees.Procedure (up_to is_stop (listed signs.Comma (statement left) ts))
dependency kinds.Constraint left ts = option_map trees.Constrains (up_to is_end (constraint left ts))
dependency kinds.Term left ts = option_map trees.Counts (up_to is_end (sum left ts))
