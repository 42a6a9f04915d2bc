-- The texts of a plan: those of the model's values by their numbers, and behind them what else dependencies name.
use Rattle.std.specs.Prelude.{ℕ, Bool, not, List, [], ◌∷◌, ◌++◌, flat_map}
use Rattle.std.specs.List.{filter, list_any, position_or_len}
use Rattle.std.specs.Str.{bytes_eq}
use Rattle.vc_model_parts.specs.declared.parts.Model.{Model}
use Rattle.vc_syntax_tree.specs.declared.Item.{Item}
use Rattle.vc_syntax_tree.specs.declared.Item.TheVariants as items
use Rattle.vc_syntax_tree.specs.Trees.{Term, Number, Text, Operand, Negated, Combined, Applied, SumOfParts}
use Rattle.vc_syntax_tree.specs.Trees.{CountOfParts}
use Rattle.vc_syntax_tree.specs.Trees.{Relation, Compared, Within, Condition, Or, And, Not, Related, Specified, PartOf}
use Rattle.vc_syntax_tree.specs.Trees.{TableCall, Action, Assign, SetDefault, DelDefault, Calls, Statement}
use Rattle.vc_syntax_tree.specs.Trees.{Demand, Relates, Holds, Never, Restriction}
use Rattle.vc_syntax_tree.specs.Trees.{Dependency, Precondition, Selection, Procedure, Constrains, Counts}
use Rattle.vc_syntax_tree.specs.Trees.{dependency_of}
use Rattle.vc_types.specs.Occurrences.{if_there}

-- the texts that stand in a tree, in its order; the material of a constraint's object is none of them
abbrev pub texts_in_term : Term → List (List ℕ)
texts_in_term (Number leaf) = []
texts_in_term (Text leaf) = leaf.text ∷ []
texts_in_term (Operand operand) = []
texts_in_term (Negated term) = texts_in_term term
texts_in_term (Combined left operator right) = texts_in_term left ++ texts_in_term right
texts_in_term (Applied function term) = texts_in_term term
texts_in_term (SumOfParts name) = []
texts_in_term CountOfParts = []

abbrev pub texts_in_item : Item → List (List ℕ)
texts_in_item (items.Text leaf) = leaf.text ∷ []
texts_in_item (items.Number number) = []
texts_in_item (items.Interval low high) = []

abbrev pub texts_in_relation : Relation → List (List ℕ)
texts_in_relation (Compared left relator right) = texts_in_term left ++ texts_in_term right
texts_in_relation (Within operand listed) = flat_map texts_in_item listed

abbrev pub texts_in_condition : Condition → List (List ℕ)
texts_in_condition (Or left right) = texts_in_condition left ++ texts_in_condition right
texts_in_condition (And left right) = texts_in_condition left ++ texts_in_condition right
texts_in_condition (Not condition) = texts_in_condition condition
texts_in_condition (Related relation) = texts_in_relation relation
texts_in_condition (Specified operand) = []
texts_in_condition (PartOf part whole) = []

abbrev pub texts_in_call : TableCall → List (List ℕ)
texts_in_call call = flat_map (λ binding. texts_in_term binding.value) call.bindings

abbrev pub texts_in_action : Action → List (List ℕ)
texts_in_action (Assign name term) = texts_in_term term
texts_in_action (SetDefault name term) = texts_in_term term
texts_in_action (DelDefault name term) = texts_in_term term
texts_in_action (Calls call) = texts_in_call call

abbrev pub texts_in_statement : Statement → List (List ℕ)
texts_in_statement statement = texts_in_action statement.action ++ if_there texts_in_condition statement.condition

abbrev pub texts_in_demand : Demand → List (List ℕ)
texts_in_demand (Relates relation) = texts_in_relation relation
texts_in_demand (Holds call) = texts_in_call call
texts_in_demand Never = []

abbrev pub texts_in_restriction : Restriction → List (List ℕ)
texts_in_restriction restriction = texts_in_demand restriction.demand
    ++ if_there texts_in_condition restriction.condition

abbrev pub texts_in : Dependency → List (List ℕ)
texts_in (Precondition condition) = texts_in_condition condition
texts_in (Selection condition) = texts_in_condition condition
texts_in (Procedure statements) = flat_map texts_in_statement statements
texts_in (Constrains constraint) =
    if_there texts_in_condition constraint.condition ++ flat_map texts_in_restriction constraint.restrictions
texts_in (Counts term) = texts_in_term term

-- whether a text is one of these
abbrev pub is_text_of : List (List ℕ) → List ℕ → Bool
is_text_of texts text = list_any (λ other. bytes_eq other text) texts

-- each text once, where it stands first
abbrev pub each_once : List (List ℕ) → List (List ℕ)
each_once [] = []
each_once (text ∷ texts) = text ∷ filter (λ other. not (bytes_eq text other)) (each_once texts)

-- what the dependencies name and no value is, each once, by first occurrence
abbrev pub named_texts : Model → List (List ℕ)
named_texts model = flat_map (λ named. texts_in (dependency_of named.tree)) model.dependencies

abbrev pub unlisted_texts : Model → List (List ℕ)
unlisted_texts model = each_once (filter (λ text. not (is_text_of model.texts text)) (named_texts model))

abbrev pub texts_of : Model → List (List ℕ)
texts_of model = model.texts ++ unlisted_texts model

abbrev pub text_number : List (List ℕ) → List ℕ → ℕ
text_number texts text = position_or_len (λ other. bytes_eq other text) texts
