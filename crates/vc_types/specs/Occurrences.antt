-- What stands in a dependency: its operands, relations, terms and calls of tables.
use Rattle.std.specs.Prelude.{Bool, ◌||◌, true, false, ◌&&◌, List, [], ◌∷◌, ◌++◌, map, flat_map, Option, Some, None}
use Rattle.std.specs.List.{list_any}
use Rattle.vc_syntax_tree.specs.declared.Operand.{Operand as Name}
use Rattle.vc_syntax_tree.specs.declared.Operand.TheVariants.{Owned}
use Rattle.vc_syntax_tree.specs.declared.NameLeaf.{NameLeaf}
use Rattle.vc_syntax_tree.specs.declared.Owner.TheVariants.{Itself}
use Rattle.vc_syntax_tree.specs.declared.Relator.{Relator}
use Rattle.vc_syntax_tree.specs.declared.Relator.TheVariants.{Equal, Unequal, Less, LessEqual, Greater}
use Rattle.vc_syntax_tree.specs.declared.Relator.TheVariants.{GreaterEqual}
use Rattle.vc_syntax_tree.specs.Trees.{Term, Number, Text, Operand, Negated, Combined, Applied, SumOfParts}
use Rattle.vc_syntax_tree.specs.Trees.{CountOfParts}
use Rattle.vc_syntax_tree.specs.Trees.{Relation, Compared, Within, Condition, Or, And, Not, Related, Specified, PartOf}
use Rattle.vc_syntax_tree.specs.Trees.{TableCall, Action, Assign, SetDefault, DelDefault, Calls, Statement}
use Rattle.vc_syntax_tree.specs.Trees.{Demand, Relates, Holds, Restriction}
use Rattle.vc_syntax_tree.specs.Trees.{Dependency, Precondition, Selection, Procedure, Constrains, Counts}

-- what something that may be absent has
abbrev pub if_there : {X Y : Type 0} → (X → List Y) → Option X → List Y
if_there f None = []
if_there f (Some x) = f x

-- a text, or a number with or without a minus
abbrev pub is_literal : Term → Bool
is_literal (Number leaf) = true
is_literal (Text leaf) = true
is_literal (Negated (Number leaf)) = true
is_literal term = false

-- the relation holds of equal values, or of others
abbrev pub is_equality : Relator → Bool
is_equality Equal = true
is_equality Unequal = true
is_equality Less = false
is_equality LessEqual = false
is_equality Greater = false
is_equality GreaterEqual = false

-- the conditions of a dependency: its own, or those of its parts
abbrev pub condition_of_restriction : Restriction → List Condition
condition_of_restriction restriction = if_there (λ c. c ∷ []) restriction.condition

abbrev pub condition_of_statement : Statement → List Condition
condition_of_statement statement = if_there (λ c. c ∷ []) statement.condition

abbrev pub conditions_in : Dependency → List Condition
conditions_in (Precondition condition) = condition ∷ []
conditions_in (Selection condition) = condition ∷ []
conditions_in (Procedure statements) = flat_map condition_of_statement statements
conditions_in (Constrains constraint) =
    if_there (λ c. c ∷ []) constraint.condition ++ flat_map condition_of_restriction constraint.restrictions
conditions_in (Counts term) = []

-- the calls of tables
abbrev pub call_of_action : Action → List TableCall
call_of_action (Calls call) = call ∷ []
call_of_action action = []

abbrev pub call_of_demand : Demand → List TableCall
call_of_demand (Holds call) = call ∷ []
call_of_demand demand = []

abbrev pub calls_in : Dependency → List TableCall
calls_in (Precondition condition) = []
calls_in (Selection condition) = []
calls_in (Procedure statements) = flat_map (λ statement. call_of_action statement.action) statements
calls_in (Constrains constraint) = flat_map (λ restriction. call_of_demand restriction.demand) constraint.restrictions
calls_in (Counts term) = []

-- the relations of a condition, and of a dependency
abbrev pub relations_of : Condition → List Relation
relations_of (Or left right) = relations_of left ++ relations_of right
relations_of (And left right) = relations_of left ++ relations_of right
relations_of (Not condition) = relations_of condition
relations_of (Related relation) = relation ∷ []
relations_of (Specified operand) = []
relations_of (PartOf part whole) = []

abbrev pub relation_of_demand : Demand → List Relation
relation_of_demand (Relates relation) = relation ∷ []
relation_of_demand demand = []

abbrev pub demanded_relations : Dependency → List Relation
demanded_relations (Constrains constraint) =
    flat_map (λ restriction. relation_of_demand restriction.demand) constraint.restrictions
demanded_relations dependency = []

abbrev pub relations_in : Dependency → List Relation
relations_in dependency = flat_map relations_of (conditions_in dependency) ++ demanded_relations dependency

-- the terms: the sides of relations, what columns and characteristics are given, a quantity or a time
abbrev pub sides_of : Relation → List Term
sides_of (Compared left relator right) = left ∷ right ∷ []
sides_of (Within operand items) = []

abbrev pub term_of_action : Action → List Term
term_of_action (Assign name term) = term ∷ []
term_of_action (SetDefault name term) = term ∷ []
term_of_action (DelDefault name term) = term ∷ []
term_of_action (Calls call) = []

abbrev pub own_terms : Dependency → List Term
own_terms (Procedure statements) = flat_map (λ statement. term_of_action statement.action) statements
own_terms (Counts term) = term ∷ []
own_terms dependency = []

abbrev pub values_in : TableCall → List Term
values_in call = map (λ binding. binding.value) call.bindings

abbrev pub terms_in : Dependency → List Term
terms_in dependency =
    flat_map sides_of (relations_in dependency) ++ (own_terms dependency ++ flat_map values_in (calls_in dependency))

-- an operand, and whether a set of texts may stand there
pub record Use : Type 0 where
  pub operand : Name
  pub for_set : Bool

abbrev pub as_value : Name → Use
as_value operand = record { operand = operand; for_set = false }

abbrev pub as_set : Name → Use
as_set operand = record { operand = operand; for_set = true }

abbrev pub operands_of : Term → List Name
operands_of (Number leaf) = []
operands_of (Text leaf) = []
operands_of (Operand operand) = operand ∷ []
operands_of (Negated term) = operands_of term
operands_of (Combined left operator right) = operands_of left ++ operands_of right
operands_of (Applied function term) = operands_of term
operands_of (SumOfParts name) = []
operands_of CountOfParts = []

abbrev pub uses_of_term : Term → List Use
uses_of_term term = map as_value (operands_of term)

-- a set may be compared with a literal at its right by `=` and `<>`
abbrev pub uses_of_left : Bool → Term → List Use
uses_of_left true (Operand operand) = as_set operand ∷ []
uses_of_left true term = uses_of_term term
uses_of_left false term = uses_of_term term

abbrev pub uses_of_relation : Relation → List Use
uses_of_relation (Compared left relator right) = uses_of_left (is_equality relator && is_literal right) left
    ++ uses_of_term right
uses_of_relation (Within operand items) = as_set operand ∷ []

-- what SPECIFIED asks for
abbrev pub specified_in : Condition → List Name
specified_in (Or left right) = specified_in left ++ specified_in right
specified_in (And left right) = specified_in left ++ specified_in right
specified_in (Not condition) = specified_in condition
specified_in (Related relation) = []
specified_in (Specified operand) = operand ∷ []
specified_in (PartOf part whole) = []

-- what a statement writes to
abbrev pub target_of : Action → List Name
target_of (Assign name term) = Owned Itself name ∷ []
target_of (SetDefault name term) = Owned Itself name ∷ []
target_of (DelDefault name term) = Owned Itself name ∷ []
target_of (Calls call) = []

abbrev pub other_names : Dependency → List Name
other_names (Procedure statements) = flat_map (λ statement. target_of statement.action) statements
other_names (Constrains constraint) = constraint.inferences
other_names dependency = []

-- all operands of a dependency
abbrev pub uses_in : Dependency → List Use
uses_in dependency =
    (flat_map uses_of_relation (relations_in dependency)
    ++ map as_set (flat_map specified_in (conditions_in dependency)))
    ++ (flat_map uses_of_term (own_terms dependency ++ flat_map values_in (calls_in dependency))
    ++ map as_value (other_names dependency))

-- the variables of PART_OF, and the characteristics of part sums
abbrev pub parted_in : Condition → List NameLeaf
parted_in (Or left right) = parted_in left ++ parted_in right
parted_in (And left right) = parted_in left ++ parted_in right
parted_in (Not condition) = parted_in condition
parted_in (Related relation) = []
parted_in (Specified operand) = []
parted_in (PartOf part whole) = part ∷ whole ∷ []

abbrev pub parted_names : Dependency → List NameLeaf
parted_names dependency = flat_map parted_in (conditions_in dependency)

abbrev pub summed_in : Term → List NameLeaf
summed_in (Number leaf) = []
summed_in (Text leaf) = []
summed_in (Operand operand) = []
summed_in (Negated term) = summed_in term
summed_in (Combined left operator right) = summed_in left ++ summed_in right
summed_in (Applied function term) = summed_in term
summed_in (SumOfParts name) = name ∷ []
summed_in CountOfParts = []

abbrev pub summed_names : Dependency → List NameLeaf
summed_names dependency = flat_map summed_in (terms_in dependency)

-- whether a part sum stands in a term, and in a dependency; each speaks of `$SELF`
abbrev pub has_sum : Term → Bool
has_sum (Number leaf) = false
has_sum (Text leaf) = false
has_sum (Operand operand) = false
has_sum (Negated term) = has_sum term
has_sum (Combined left operator right) = has_sum left || has_sum right
has_sum (Applied function term) = has_sum term
has_sum (SumOfParts name) = true
has_sum CountOfParts = true

abbrev pub asks_sum : Dependency → Bool
asks_sum dependency = list_any has_sum (terms_in dependency)
