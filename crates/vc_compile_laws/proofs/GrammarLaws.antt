-- What the grammar says of trees: a constraint speaks of an object, and a call of a table names a column.
use Rattle.std.proofs.Common.{◌≡◌, Bool, true, ◌&&◌, nat_lt, List, [], ◌∷◌, ◌++◌, length, length-append, arith, refl}
use Rattle.std.proofs.Common.{sym, ◌∙◌}
use Rattle.std.specs.Prelude.{flat_map}
use Rattle.std.specs.List.{list_all}
use Rattle.std.proofs.lemmas.Bool.{and_from, and_parts, lt-ltb}
use Rattle.std.proofs.lemmas.List.Folds.{list_all-append, list_all-map}
use Rattle.vc_syntax_tokens.specs.declared.fault.Kind.{Kind}
use Rattle.vc_syntax_tokens.specs.declared.token.Sign.{Sign}
use Rattle.vc_syntax_tokens.specs.declared.token.Token.{Token}
use Rattle.vc_syntax_terms.specs.ConditionGrammar as lists
use Rattle.vc_syntax_terms.specs.ConditionGrammar.{IsListed}
use Rattle.vc_syntax_tree.specs.declared.Object.{Object}
use Rattle.vc_syntax_tree.specs.Trees.{Action, Demand, Dependency, Restriction, Statement, TableCall}
use Rattle.vc_syntax.specs.ConstraintGrammar as constraints
use Rattle.vc_syntax.specs.ConstraintGrammar.{IsConstraint, IsObjectSection, IsRestrictionSection, IsSection}
use Rattle.vc_syntax.specs.DependencyGrammar as grammar
use Rattle.vc_syntax.specs.DependencyGrammar.{IsDependency}
use Rattle.vc_syntax.specs.StatementGrammar as statements
use Rattle.vc_syntax.specs.StatementGrammar.{IsAction, IsDemand, IsRestriction, IsStatement, IsTable}
use Rattle.vc_types.specs.Occurrences.{call_of_action, call_of_demand, calls_in}
use Rattle.vc_model_parts.specs.declared.parts.Model.{Model}
use Rattle.vc_model_drafts.specs.Seen.{seen_dependency, seen_model}
use Rattle.vc_tree_laws.specs.Spelled.{KeepsTrees}
use Rattle.vc_compile_meant.specs.Calls.{KeepsBindings, names_columns}
use Rattle.vc_compile_meant.specs.Trees.{KeepsObjects, has_objects}

some_more : {A : Type 0} (xs : List A) (x : A) → nat_lt 0 (length (xs ++ x ∷ [])) ≡ true
some_more xs x = lt-ltb 0 (length (xs ++ x ∷ [])) (omega (arith, length-append xs (x ∷ [])))

-- one thing at least is listed
listed_some : {A : Type 0} (separator : Sign) (IsA : List Token → A → Type 0) (ts : List Token) (xs : List A)
    → IsListed separator IsA ts xs → nat_lt 0 (length xs) ≡ true
listed_some separator IsA _ _ (lists.one first) = refl
listed_some separator IsA _ _ (lists.more ts t us xs x before sign last) = some_more xs x

-- what holds of each thing holds of all that are listed
listed_all : {A : Type 0} (test : A → Bool) (separator : Sign) (IsA : List Token → A → Type 0)
    → ((ts : List Token) (x : A) → IsA ts x → test x ≡ true) → (ts : List Token) (xs : List A)
    → IsListed separator IsA ts xs → list_all test xs ≡ true
listed_all test separator IsA holds _ _ (lists.one {ts = ts} {x = x} first) =
    and_from (test x) true (holds ts x first) refl
listed_all test separator IsA holds _ _ (lists.more ts t us xs x before sign last) =
    list_all-append test xs (x ∷ [])
    ∙ and_from (list_all test xs) (test x && true) (listed_all test separator IsA holds ts xs before)
    (and_from (test x) true (holds us x last) refl)

all_flat : {A B : Type 0} (test : B → Bool) (f : A → List B) (xs : List A)
    → list_all (λ x. list_all test (f x)) xs ≡ true → list_all test (flat_map f xs) ≡ true
all_flat test f [] h = refl
all_flat test f (x ∷ xs) h =
    let parts = and_parts (list_all test (f x)) (list_all (λ y. list_all test (f y)) xs) h in
    list_all-append test (f x) (flat_map f xs)
    ∙ and_from (list_all test (f x)) (list_all test (flat_map f xs)) parts.0 (all_flat test f xs parts.1)

abbrev names_some : TableCall → Bool
names_some call = nat_lt 0 (length call.bindings)

table_names : (ts : List Token) (call : TableCall) → IsTable ts call → names_some call ≡ true
table_names _ _ (statements.called t u opening ts closing {bindings = bindings} word name begins listed ends) =
    listed_some _ _ ts bindings listed

action_names : (ts : List Token) (action : Action) → IsAction ts action
    → list_all names_some (call_of_action action) ≡ true
action_names _ _ (statements.assign t dot u equal ts itself is_dot name is value) = refl
action_names _ _ (statements.set_default t ts comma us closing word name is value closes) = refl
action_names _ _ (statements.del_default t ts comma us closing word name is value closes) = refl
action_names _ _ (statements.table {ts = ts} {call = call} table) =
    and_from (names_some call) true (table_names ts call table) refl

statement_names : (ts : List Token) (statement : Statement) → IsStatement ts statement
    → list_all names_some (call_of_action statement.action) ≡ true
statement_names _ _ (statements.stated ts us {action = action} acts asks) = action_names ts action acts

demand_names : (ts : List Token) (demand : Demand) → IsDemand ts demand
    → list_all names_some (call_of_demand demand) ≡ true
demand_names _ _ (statements.relation related) = refl
demand_names _ _ (statements.table {ts = ts} {call = call} table) =
    and_from (names_some call) true (table_names ts call table) refl
demand_names _ _ (statements.never word) = refl

restriction_names : (ts : List Token) (restriction : Restriction) → IsRestriction ts restriction
    → list_all names_some (call_of_demand restriction.demand) ≡ true
restriction_names _ _ (statements.demanded ts us {what = what} demands asks) = demand_names ts what demands

section_names : (ts : List Token) (restrictions : List Restriction) → IsRestrictionSection ts restrictions
    → list_all names_some (flat_map (λ restriction. call_of_demand restriction.demand) restrictions) ≡ true
section_names _ _ (constraints.restriction t _ word
    (constraints.section colon ts period restrictions begins listed ends)) =
    all_flat names_some (λ restriction. call_of_demand restriction.demand) restrictions
    (listed_all _ _ _ restriction_names ts restrictions listed)
section_names _ _ (constraints.restrictions t _ word
    (constraints.section colon ts period restrictions begins listed ends)) =
    all_flat names_some (λ restriction. call_of_demand restriction.demand) restrictions
    (listed_all _ _ _ restriction_names ts restrictions listed)

tree_names : (kind : Kind) (ts : List Token) (tree : Dependency) → IsDependency kind ts tree
    → list_all names_some (calls_in tree) ≡ true
tree_names _ _ _ (grammar.precondition ts us condition stops) = refl
tree_names _ _ _ (grammar.selection ts us condition stops) = refl
tree_names _ _ _ (grammar.procedure ts us {xs = xs} listed stops) =
    all_flat names_some (λ statement. call_of_action statement.action) xs
    (listed_all _ _ _ statement_names ts xs listed)
tree_names _ _ _ (grammar.constraint
    (constraints.constraint ts us vs ws {restrictions = restrictions} some_objects asks demands infers)) =
    section_names vs restrictions demands
tree_names _ _ _ (grammar.term term) = refl

section_objects : (ts : List Token) (objects : List Object) → IsObjectSection ts objects
    → nat_lt 0 (length objects) ≡ true
section_objects _ _ (constraints.objects t _ word (constraints.section colon ts period objects begins listed ends)) =
    listed_some _ _ ts objects listed

tree_objects : (kind : Kind) (ts : List Token) (tree : Dependency) → IsDependency kind ts tree → has_objects tree ≡ true
tree_objects _ _ _ (grammar.precondition ts us condition stops) = refl
tree_objects _ _ _ (grammar.selection ts us condition stops) = refl
tree_objects _ _ _ (grammar.procedure ts us listed stops) = refl
tree_objects _ _ _ (grammar.constraint
    (constraints.constraint ts us vs ws {objects = objects} some_objects asks demands infers)) =
    section_objects ts objects some_objects
tree_objects _ _ _ (grammar.term term) = refl

-- so each dependency of a model that some text spells
pub keeps_objects : (model : Model) → KeepsTrees (seen_model model) → KeepsObjects model
keeps_objects model keeps = record {
  objects = sym (list_all-map (λ dependency. has_objects dependency.tree) seen_dependency model.dependencies)
      ∙ keeps.trees has_objects
      (λ tree spelled. tree_objects spelled.kind spelled.spells.tokens tree spelled.spells.spelled);
}

pub keeps_bindings : (model : Model) → KeepsTrees (seen_model model) → KeepsBindings model
keeps_bindings model keeps = record {
  bindings = sym (list_all-map (λ dependency. names_columns dependency.tree) seen_dependency model.dependencies)
      ∙ keeps.trees names_columns
      (λ tree spelled. tree_names spelled.kind spelled.spells.tokens tree spelled.spells.spelled);
}
