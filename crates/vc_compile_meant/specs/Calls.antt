-- The columns of a plan's table rules.
use Rattle.std.specs.Prelude.{◌≡◌, Bool, true, nat_lt, length}
use Rattle.std.specs.List.{list_all}
use Rattle.vc_model_parts.specs.declared.parts.Model.{Model}
use Rattle.vc_plan.specs.RuleShapes.{columns_once}
use Rattle.vc_plan.specs.declared.plans.Plan.{Plan}
use Rattle.vc_syntax_tree.specs.Trees.{Dependency, dependency_of}
use Rattle.vc_types.specs.Occurrences.{calls_in}

-- whether each call of a table names a column
abbrev pub names_columns : Dependency → Bool
names_columns tree = list_all (λ call. nat_lt 0 (length call.bindings)) (calls_in tree)

pub record KeepsBindings (model : Model) : Type 0 where
  pub bindings : list_all (λ named. names_columns (dependency_of named.tree)) model.dependencies ≡ true

pub record HasColumns (plan : Plan) : Type 0 where
  pub columns : list_all (λ rule. columns_once rule.kind) plan.rules ≡ true
