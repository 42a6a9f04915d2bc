-- The texts in statements and constraints that are read are texts.
use Rattle.std.proofs.Common.{◌≡◌, ℕ, true, List, [], ◌∷◌, ◌++◌, Option, Some}
use Rattle.std.proofs.Common.{None}
use Rattle.std.proofs.Common.{refl}
use Rattle.std.specs.Prelude.{flat_map}
use Rattle.vc_syntax_tokens.specs.declared.token.Dollar.TheVariants as dollars
use Rattle.vc_syntax_tokens.specs.declared.token.Lexeme.{Lexeme}
use Rattle.vc_syntax_tokens.specs.declared.token.Lexeme.TheVariants as lexemes
use Rattle.vc_syntax_tokens.specs.declared.token.Reserved.TheVariants as words
use Rattle.vc_syntax_tokens.specs.declared.token.Sign.TheVariants as signs
use Rattle.vc_syntax_tokens.specs.declared.token.Token.{Token}
use Rattle.vc_syntax_tree.specs.declared.NameLeaf.{NameLeaf}
use Rattle.vc_syntax_tree.specs.Trees as trees
use Rattle.vc_syntax_terms.specs.Reading.{Reader, then, or_else, made, leaving_as, closed, grouped}
use Rattle.vc_syntax_terms.specs.Reading.{listed}
use Rattle.vc_tree_laws.specs.Literals.{is_literal}
use Rattle.vc_tree_laws.proofs.TokenLaws.{Good}
use Rattle.vc_tree_laws.proofs.ReadingLemmas.{Keeps, Leaves, Reads, Anything, Texts, texts_append, more_texts}
use Rattle.vc_tree_laws.proofs.ReadingLemmas.{one_text}
use Rattle.vc_tree_laws.proofs.ReadingLemmas.{then_keeps, then_rest, then_leaves, either_rest, made_keeps}
use Rattle.vc_tree_laws.proofs.ReadingLemmas.{put_keeps, rest_good, some_if, sign_leaves}
use Rattle.vc_tree_laws.proofs.ReadingLemmas.{word_leaves}
use Rattle.vc_tree_laws.proofs.ReadingLemmas.{closed_keeps, grouped_reads}
use Rattle.vc_tree_laws.proofs.ReadingLemmas.{listed_reads}
use Rattle.vc_syntax_tree.specs.declared.ObjectKind.TheVariants as kinds
use Rattle.vc_syntax_terms.specs.Leaves.{after_sign, after_word, named, any_named}
use Rattle.vc_syntax_tree.specs.Trees.{Term, Relation, Condition, Binding, TableCall, Action, Statement, Demand}
use Rattle.vc_syntax_tree.specs.Trees.{Restriction, Constraint}
use Rattle.vc_syntax_terms.specs.TermReading.{dotted, operand, self_and_name, sum}
use Rattle.vc_syntax_terms.specs.ConditionReading.{relation, condition, text_ahead, variable_ahead}
use Rattle.vc_syntax.specs.StatementReading.{bind, call, state, demand, binding, table_call, assignment, defaulted}
use Rattle.vc_syntax.specs.StatementReading.{action_in, action, condition_if, statement}
use Rattle.vc_syntax.specs.StatementReading.{demand_in, demanded, restriction}
use Rattle.vc_syntax.specs.ConstraintReading.{is_class_type, after_class_type, class_type, material_word, class_kind}
use Rattle.vc_syntax.specs.ConstraintReading.{material_number, material_kind}
use Rattle.vc_syntax.specs.ConstraintReading.{object_kind, with_alias, with_object, alias, aliases, object, section}
use Rattle.vc_syntax.specs.ConstraintReading.{object_section, condition_section}
use Rattle.vc_syntax.specs.ConstraintReading.{restriction_word, restriction_section, inference_section, with_constraint}
use Rattle.vc_syntax.specs.ConstraintReading.{constraint}
use Rattle.vc_types.specs.Occurrences.{if_there}
use Rattle.vc_compile_plan.specs.Texts.{texts_in_term, texts_in_condition, texts_in_call}
use Rattle.vc_compile_plan.specs.Texts.{texts_in_action, texts_in_statement, texts_in_demand, texts_in_restriction}
use Rattle.vc_tree_laws.proofs.TermLaws.{GoodTerm, named_reads, any_named_reads, dotted_reads, operand_reads}
use Rattle.vc_tree_laws.proofs.TermLaws.{self_and_name_reads, sum_reads}
use Rattle.vc_tree_laws.proofs.ConditionLaws.{GoodRelation, GoodCondition, text_reads, variable_reads}
use Rattle.vc_tree_laws.proofs.ConditionLaws.{relation_reads, condition_reads}

-- calls of tables
abbrev GoodBinding : Binding → Type 0
GoodBinding binding = Texts (texts_in_term binding.value)

binding_reads : (left : ℕ) → Reads GoodBinding (binding left)
binding_reads left ts h =
    then_keeps Anything GoodBinding (named ts)
    (λ column. then (after_sign signs.Equal column.1) (λ rest. made (bind column.0) (sum left rest)))
    (named_reads ts h)
    (λ column p g. then_rest GoodBinding (after_sign signs.Equal column.1)
    (λ rest. made (bind column.0) (sum left rest)) (sign_leaves signs.Equal column.1 g)
    (λ rest k. made_keeps GoodTerm GoodBinding (bind column.0) (sum left rest) (sum_reads left rest k) (λ a q. q)))

abbrev GoodBindings : List Binding → Type 0
GoodBindings bindings = Texts (flat_map (λ binding. texts_in_term binding.value) bindings)

abbrev GoodCall : TableCall → Type 0
GoodCall call = Texts (texts_in_call call)

call_reads : (left : ℕ) → Reads GoodCall (table_call left)
call_reads left ts h =
    then_keeps Anything GoodCall (any_named ts)
    (λ table. made (call table.0) (grouped (listed signs.Comma (binding left)) table.1)) (any_named_reads ts h)
    (λ table p g. made_keeps GoodBindings GoodCall (call table.0) (grouped (listed signs.Comma (binding left)) table.1)
    (grouped_reads GoodBindings (listed signs.Comma (binding left))
    (listed_reads GoodBinding GoodBindings signs.Comma (binding left) (binding_reads left)
    (λ x q. one_text (λ binding. texts_in_term binding.value) x q)
    (λ xs ys q r. more_texts (λ binding. texts_in_term binding.value) xs ys q r)) table.1 g)
    (λ a q. q))

-- statements
abbrev GoodAction : Action → Type 0
GoodAction action = Texts (texts_in_action action)

assignment_reads : (left : ℕ) → Reads GoodAction (assignment left)
assignment_reads left ts h =
    then_keeps Anything GoodAction (dotted ts)
    (λ name. then (after_sign signs.Equal name.1) (λ rest. made (trees.Assign name.0) (sum left rest)))
    (dotted_reads ts h)
    (λ name p g. then_rest GoodAction (after_sign signs.Equal name.1)
    (λ rest. made (trees.Assign name.0) (sum left rest)) (sign_leaves signs.Equal name.1 g)
    (λ rest k. made_keeps GoodTerm GoodAction (trees.Assign name.0) (sum left rest) (sum_reads left rest k)
    (λ a q. q)))

defaulted_reads : (make : NameLeaf → Term → Action)
    → ((name : NameLeaf) (term : Term) → GoodTerm term → GoodAction (make name term)) → (left : ℕ)
    → Reads GoodAction (defaulted make left)
defaulted_reads make makes left ts h =
    then_keeps Anything GoodAction (self_and_name ts)
    (λ name. then (after_sign signs.Comma name.1) (λ rest. made (make name.0) (closed (sum left rest))))
    (self_and_name_reads ts h)
    (λ name p g. then_rest GoodAction (after_sign signs.Comma name.1)
    (λ rest. made (make name.0) (closed (sum left rest))) (sign_leaves signs.Comma name.1 g)
    (λ rest k. made_keeps GoodTerm GoodAction (make name.0) (closed (sum left rest))
    (closed_keeps GoodTerm (sum left rest) (sum_reads left rest k)) (makes name.0)))

action_in_keeps : (left : ℕ) (lexeme : Lexeme) (ts : List Token) → Good ts → Keeps GoodAction (action_in left lexeme ts)
action_in_keeps left (lexemes.Name x) ts h = tt
action_in_keeps left (lexemes.Variable x) ts h = tt
action_in_keeps left (lexemes.Text x) ts h = tt
action_in_keeps left (lexemes.Number x) ts h = tt
action_in_keeps left (lexemes.Reserved words.And) ts h = tt
action_in_keeps left (lexemes.Reserved words.Or) ts h = tt
action_in_keeps left (lexemes.Reserved words.Not) ts h = tt
action_in_keeps left (lexemes.Reserved words.In) ts h = tt
action_in_keeps left (lexemes.Reserved words.If) ts h = tt
action_in_keeps left (lexemes.Reserved words.Specified) ts h = tt
action_in_keeps left (lexemes.Reserved words.Table) ts h =
    made_keeps GoodCall GoodAction trees.Calls (table_call left ts) (call_reads left ts h) (λ a p. p)
action_in_keeps left (lexemes.Reserved words.False) ts h = tt
action_in_keeps left (lexemes.Reserved words.IsA) ts h = tt
action_in_keeps left (lexemes.Reserved words.IsObject) ts h = tt
action_in_keeps left (lexemes.Reserved words.Material) ts h = tt
action_in_keeps left (lexemes.Reserved words.Where) ts h = tt
action_in_keeps left (lexemes.Reserved words.PartOf) ts h = tt
action_in_keeps left (lexemes.Reserved words.Eq) ts h = tt
action_in_keeps left (lexemes.Reserved words.Ne) ts h = tt
action_in_keeps left (lexemes.Reserved words.Lt) ts h = tt
action_in_keeps left (lexemes.Reserved words.Le) ts h = tt
action_in_keeps left (lexemes.Reserved words.Gt) ts h = tt
action_in_keeps left (lexemes.Reserved words.Ge) ts h = tt
action_in_keeps left (lexemes.Reserved words.Objects) ts h = tt
action_in_keeps left (lexemes.Reserved words.Condition) ts h = tt
action_in_keeps left (lexemes.Reserved words.Restriction) ts h = tt
action_in_keeps left (lexemes.Reserved words.Restrictions) ts h = tt
action_in_keeps left (lexemes.Reserved words.Inferences) ts h = tt
action_in_keeps left (lexemes.Reserved words.Nr) ts h = tt
action_in_keeps left (lexemes.Reserved words.End) ts h = tt
action_in_keeps left (lexemes.Reserved words.Abs) ts h = tt
action_in_keeps left (lexemes.Reserved words.Sign) ts h = tt
action_in_keeps left (lexemes.Reserved words.Trunc) ts h = tt
action_in_keeps left (lexemes.Reserved words.Floor) ts h = tt
action_in_keeps left (lexemes.Reserved words.Ceil) ts h = tt
action_in_keeps left (lexemes.Reserved words.Frac) ts h = tt
action_in_keeps left (lexemes.Dollar dollars.Itself) ts h = assignment_reads left ts h
action_in_keeps left (lexemes.Dollar dollars.Parent) ts h = tt
action_in_keeps left (lexemes.Dollar dollars.Root) ts h = tt
action_in_keeps left (lexemes.Dollar dollars.SetDefault) ts h =
    defaulted_reads trees.SetDefault (λ name term p. p) left ts h
action_in_keeps left (lexemes.Dollar dollars.DelDefault) ts h =
    defaulted_reads trees.DelDefault (λ name term p. p) left ts h
action_in_keeps left (lexemes.Dollar dollars.SumParts) ts h = tt
action_in_keeps left (lexemes.Dollar dollars.CountParts) ts h = tt
action_in_keeps left (lexemes.Sign x) ts h = tt

action_reads : (left : ℕ) → Reads GoodAction (action left)
action_reads left [] h = tt
action_reads left (t ∷ ts) h = action_in_keeps left t.lexeme ts (rest_good t ts h)

abbrev GoodIf : Option Condition → Type 0
GoodIf condition = Texts (if_there texts_in_condition condition)

if_reads : (left : ℕ) → Reads GoodIf (condition_if left)
if_reads left ts h =
    either_rest GoodIf (after_word words.If ts) (Some (None, ts)) (λ rest. made Some (condition left rest))
    (word_leaves words.If ts h) (refl, h)
    (λ rest g. made_keeps GoodCondition GoodIf Some (condition left rest) (condition_reads left rest g) (λ a p. p))

abbrev pub GoodStatement : Statement → Type 0
GoodStatement statement = Texts (texts_in_statement statement)

pub statement_reads : (left : ℕ) → Reads GoodStatement (statement left)
statement_reads left ts h =
    then_keeps GoodAction GoodStatement (action left ts) (λ found. made (state found.0) (condition_if left found.1))
    (action_reads left ts h)
    (λ found p g. made_keeps GoodIf GoodStatement (state found.0) (condition_if left found.1) (if_reads left found.1 g)
    (λ condition q. texts_append (texts_in_action found.0) (if_there texts_in_condition condition) p q))

-- demands
abbrev GoodDemand : Demand → Type 0
GoodDemand demand = Texts (texts_in_demand demand)

relates : (left : ℕ) (ts : List Token) → Good ts → Keeps GoodDemand (made trees.Relates (relation left ts))
relates left ts h = made_keeps GoodRelation GoodDemand trees.Relates (relation left ts) (relation_reads left ts h)
    (λ a p. p)

demand_in_keeps : (left : ℕ) (lexeme : Lexeme) (t : Token) (ts : List Token) → Good (t ∷ ts)
    → Keeps GoodDemand (demand_in left lexeme t ts)
demand_in_keeps left (lexemes.Name x) t ts h = relates left (t ∷ ts) h
demand_in_keeps left (lexemes.Variable x) t ts h = relates left (t ∷ ts) h
demand_in_keeps left (lexemes.Text x) t ts h = relates left (t ∷ ts) h
demand_in_keeps left (lexemes.Number x) t ts h = relates left (t ∷ ts) h
demand_in_keeps left (lexemes.Reserved words.And) t ts h = relates left (t ∷ ts) h
demand_in_keeps left (lexemes.Reserved words.Or) t ts h = relates left (t ∷ ts) h
demand_in_keeps left (lexemes.Reserved words.Not) t ts h = relates left (t ∷ ts) h
demand_in_keeps left (lexemes.Reserved words.In) t ts h = relates left (t ∷ ts) h
demand_in_keeps left (lexemes.Reserved words.If) t ts h = relates left (t ∷ ts) h
demand_in_keeps left (lexemes.Reserved words.Specified) t ts h = relates left (t ∷ ts) h
demand_in_keeps left (lexemes.Reserved words.Table) t ts h =
    made_keeps GoodCall GoodDemand trees.Holds (table_call left ts) (call_reads left ts (rest_good t ts h)) (λ a p. p)
demand_in_keeps left (lexemes.Reserved words.False) t ts h = (refl, rest_good t ts h)
demand_in_keeps left (lexemes.Reserved words.IsA) t ts h = relates left (t ∷ ts) h
demand_in_keeps left (lexemes.Reserved words.IsObject) t ts h = relates left (t ∷ ts) h
demand_in_keeps left (lexemes.Reserved words.Material) t ts h = relates left (t ∷ ts) h
demand_in_keeps left (lexemes.Reserved words.Where) t ts h = relates left (t ∷ ts) h
demand_in_keeps left (lexemes.Reserved words.PartOf) t ts h = relates left (t ∷ ts) h
demand_in_keeps left (lexemes.Reserved words.Eq) t ts h = relates left (t ∷ ts) h
demand_in_keeps left (lexemes.Reserved words.Ne) t ts h = relates left (t ∷ ts) h
demand_in_keeps left (lexemes.Reserved words.Lt) t ts h = relates left (t ∷ ts) h
demand_in_keeps left (lexemes.Reserved words.Le) t ts h = relates left (t ∷ ts) h
demand_in_keeps left (lexemes.Reserved words.Gt) t ts h = relates left (t ∷ ts) h
demand_in_keeps left (lexemes.Reserved words.Ge) t ts h = relates left (t ∷ ts) h
demand_in_keeps left (lexemes.Reserved words.Objects) t ts h = relates left (t ∷ ts) h
demand_in_keeps left (lexemes.Reserved words.Condition) t ts h = relates left (t ∷ ts) h
demand_in_keeps left (lexemes.Reserved words.Restriction) t ts h = relates left (t ∷ ts) h
demand_in_keeps left (lexemes.Reserved words.Restrictions) t ts h = relates left (t ∷ ts) h
demand_in_keeps left (lexemes.Reserved words.Inferences) t ts h = relates left (t ∷ ts) h
demand_in_keeps left (lexemes.Reserved words.Nr) t ts h = relates left (t ∷ ts) h
demand_in_keeps left (lexemes.Reserved words.End) t ts h = relates left (t ∷ ts) h
demand_in_keeps left (lexemes.Reserved words.Abs) t ts h = relates left (t ∷ ts) h
demand_in_keeps left (lexemes.Reserved words.Sign) t ts h = relates left (t ∷ ts) h
demand_in_keeps left (lexemes.Reserved words.Trunc) t ts h = relates left (t ∷ ts) h
demand_in_keeps left (lexemes.Reserved words.Floor) t ts h = relates left (t ∷ ts) h
demand_in_keeps left (lexemes.Reserved words.Ceil) t ts h = relates left (t ∷ ts) h
demand_in_keeps left (lexemes.Reserved words.Frac) t ts h = relates left (t ∷ ts) h
demand_in_keeps left (lexemes.Dollar x) t ts h = relates left (t ∷ ts) h
demand_in_keeps left (lexemes.Sign x) t ts h = relates left (t ∷ ts) h

demanded_reads : (left : ℕ) → Reads GoodDemand (demanded left)
demanded_reads left [] h = relates left [] h
demanded_reads left (t ∷ ts) h = demand_in_keeps left t.lexeme t ts h

abbrev GoodRestriction : Restriction → Type 0
GoodRestriction restriction = Texts (texts_in_restriction restriction)

restriction_reads : (left : ℕ) → Reads GoodRestriction (restriction left)
restriction_reads left ts h =
    then_keeps GoodDemand GoodRestriction (demanded left ts)
    (λ found. made (demand found.0) (condition_if left found.1)) (demanded_reads left ts h)
    (λ found p g. made_keeps GoodIf GoodRestriction (demand found.0) (condition_if left found.1)
    (if_reads left found.1 g)
    (λ condition q. texts_append (texts_in_demand found.0) (if_there texts_in_condition condition) p q))

-- a constraint's objects, which hold no text that counts
class_leaves : (ts : List Token) → Good ts → Leaves (class_type ts)
class_leaves ts h =
    then_leaves (after_sign signs.OpenParen ts) (λ first. then (after_class_type first) (after_sign signs.CloseParen))
    (sign_leaves signs.OpenParen ts h)
    (λ first g. then_leaves (after_class_type first) (after_sign signs.CloseParen) (number_leaves first g)
    (sign_leaves signs.CloseParen))
  where
    number_leaves : (ts : List Token) → Good ts → Leaves (after_class_type ts)
    number_leaves [] h = tt
    number_leaves (t ∷ ts) h = some_if (is_class_type t.lexeme) ts (rest_good t ts h)

material_leaves : (ts : List Token) → Good ts → Leaves (material_word ts)
material_leaves ts h =
    then_leaves (after_sign signs.OpenParen ts)
    (λ first. then (after_word words.Material first) (after_sign signs.CloseParen))
    (sign_leaves signs.OpenParen ts h)
    (λ first g. then_leaves (after_word words.Material first) (after_sign signs.CloseParen)
    (word_leaves words.Material first g) (sign_leaves signs.CloseParen))

class_reads : Reads Anything class_kind
class_reads ts h =
    then_rest Anything (class_type ts) (λ rest. made kinds.Class (any_named rest)) (class_leaves ts h)
    (λ rest g. made_keeps Anything Anything kinds.Class (any_named rest) (any_named_reads rest g) (λ a p. tt))

material_number_reads : Reads Anything material_number
material_number_reads ts h =
    then_rest Anything (after_sign signs.OpenParen ts) (λ first. then (after_word words.Nr first) (λ second.
    then (after_sign signs.Equal second) (λ rest. made kinds.Material (closed (text_ahead rest)))))
    (sign_leaves signs.OpenParen ts h)
    (λ first g. then_rest Anything (after_word words.Nr first)
    (λ second. then (after_sign signs.Equal second) (λ rest. made kinds.Material (closed (text_ahead rest))))
    (word_leaves words.Nr first g)
    (λ second k. then_rest Anything (after_sign signs.Equal second)
    (λ rest. made kinds.Material (closed (text_ahead rest))) (sign_leaves signs.Equal second k)
    (λ rest m. made_keeps (λ leaf. is_literal leaf.text ≡ true) Anything kinds.Material (closed (text_ahead rest))
    (closed_keeps (λ leaf. is_literal leaf.text ≡ true) (text_ahead rest) (text_reads rest m)) (λ a p. tt))))

material_reads : Reads Anything material_kind
material_reads ts h =
    then_rest Anything (material_word ts) (λ rest. then (class_type rest) material_number) (material_leaves ts h)
    (λ rest g. then_rest Anything (class_type rest) material_number (class_leaves rest g) material_number_reads)

kind_reads : Reads Anything object_kind
kind_reads ts h =
    either_rest Anything (after_word words.IsA ts) (then (after_word words.IsObject ts) material_kind) class_kind
    (word_leaves words.IsA ts h)
    (then_rest Anything (after_word words.IsObject ts) material_kind (word_leaves words.IsObject ts h) material_reads)
    class_reads

alias_reads : Reads Anything alias
alias_reads ts h =
    then_keeps Anything Anything (variable_ahead ts)
    (λ variable. then (after_sign signs.Equal variable.1) (λ rest. made (with_alias variable.0) (named rest)))
    (variable_reads ts h)
    (λ variable p g. then_rest Anything (after_sign signs.Equal variable.1)
    (λ rest. made (with_alias variable.0) (named rest)) (sign_leaves signs.Equal variable.1 g)
    (λ rest k. made_keeps Anything Anything (with_alias variable.0) (named rest) (named_reads rest k) (λ a q. tt)))

aliases_reads : Reads Anything aliases
aliases_reads ts h =
    either_rest Anything (after_word words.Where ts) (Some ([], ts)) (listed signs.Semicolon alias)
    (word_leaves words.Where ts h) (tt, h)
    (listed_reads Anything Anything signs.Semicolon alias alias_reads (λ x p. tt) (λ xs ys p q. tt))

object_reads : Reads Anything object
object_reads ts h =
    then_keeps Anything Anything (variable_ahead ts)
    (λ variable. then (object_kind variable.1) (λ kind. made (with_object variable.0 kind.0) (aliases kind.1)))
    (variable_reads ts h)
    (λ variable p g. then_keeps Anything Anything (object_kind variable.1)
    (λ kind. made (with_object variable.0 kind.0) (aliases kind.1)) (kind_reads variable.1 g)
    (λ kind q k. made_keeps Anything Anything (with_object variable.0 kind.0) (aliases kind.1)
    (aliases_reads kind.1 k) (λ a r. tt)))

-- sections
section_reads : {A : Type 0} (P : A → Type 0) (read : Reader A) → Reads P read → Reads P (section read)
section_reads P read reads ts h =
    then_rest P (after_sign signs.Colon ts) (λ rest. then (read rest)
    (λ found. leaving_as found.0 (after_sign signs.Period found.1))) (sign_leaves signs.Colon ts h)
    (λ rest g. then_keeps P P (read rest) (λ found. leaving_as found.0 (after_sign signs.Period found.1)) (reads rest g)
    (λ found p k. put_keeps P found.0 (after_sign signs.Period found.1) p (sign_leaves signs.Period found.1 k)))

objects_reads : Reads Anything object_section
objects_reads ts h =
    then_rest Anything (after_word words.Objects ts) (section (listed signs.Comma object))
    (word_leaves words.Objects ts h)
    (section_reads Anything (listed signs.Comma object)
    (listed_reads Anything Anything signs.Comma object object_reads (λ x p. tt) (λ xs ys p q. tt)))

asked_reads : (left : ℕ) → Reads GoodIf (condition_section left)
asked_reads left ts h =
    either_rest GoodIf (after_word words.Condition ts) (Some (None, ts))
    (λ rest. made Some (section (condition left) rest)) (word_leaves words.Condition ts h) (refl, h)
    (λ rest g. made_keeps GoodCondition GoodIf Some (section (condition left) rest)
    (section_reads GoodCondition (condition left) (condition_reads left) rest g) (λ a p. p))

word_or_leaves : (o other : Option (List Token)) → Leaves o → Leaves other → Leaves (or_else o other)
word_or_leaves None other h g = g
word_or_leaves (Some ts) other h g = h

abbrev GoodRestrictions : List Restriction → Type 0
GoodRestrictions restrictions = Texts (flat_map texts_in_restriction restrictions)

restrictions_reads : (left : ℕ) → Reads GoodRestrictions (restriction_section left)
restrictions_reads left ts h =
    then_rest GoodRestrictions (restriction_word ts) (section (listed signs.Comma (restriction left)))
    (word_or_leaves (after_word words.Restriction ts) (after_word words.Restrictions ts)
    (word_leaves words.Restriction ts h) (word_leaves words.Restrictions ts h))
    (section_reads GoodRestrictions (listed signs.Comma (restriction left))
    (listed_reads GoodRestriction GoodRestrictions signs.Comma (restriction left) (restriction_reads left)
    (λ x q. one_text texts_in_restriction x q) (λ xs ys q r. more_texts texts_in_restriction xs ys q r)))

inferences_reads : Reads Anything inference_section
inferences_reads ts h =
    either_rest Anything (after_word words.Inferences ts) (Some ([], ts)) (section (listed signs.Comma operand))
    (word_leaves words.Inferences ts h) (tt, h)
    (section_reads Anything (listed signs.Comma operand)
    (listed_reads Anything Anything signs.Comma operand operand_reads (λ x p. tt) (λ xs ys p q. tt)))

abbrev pub GoodConstraint : Constraint → Type 0
GoodConstraint constraint = Texts (if_there texts_in_condition constraint.condition ++ flat_map texts_in_restriction
    constraint.restrictions)

pub constraint_reads : (left : ℕ) → Reads GoodConstraint (constraint left)
constraint_reads left ts h =
    then_keeps Anything GoodConstraint (object_section ts)
    (λ objects. then (condition_section left objects.1) (λ condition.
    then (restriction_section left condition.1)
    (λ restrictions. made (with_constraint objects.0 condition.0 restrictions.0)
    (inference_section restrictions.1))))
    (objects_reads ts h)
    (λ objects p g. then_keeps GoodIf GoodConstraint (condition_section left objects.1) (λ condition.
    then (restriction_section left condition.1)
    (λ restrictions. made (with_constraint objects.0 condition.0 restrictions.0)
    (inference_section restrictions.1)))
    (asked_reads left objects.1 g)
    (λ condition q k. then_keeps GoodRestrictions GoodConstraint (restriction_section left condition.1)
    (λ restrictions. made (with_constraint objects.0 condition.0 restrictions.0)
    (inference_section restrictions.1)) (restrictions_reads left condition.1 k)
    (λ restrictions r m. made_keeps Anything GoodConstraint (with_constraint objects.0 condition.0 restrictions.0)
    (inference_section restrictions.1)
    (inferences_reads restrictions.1 m)
    (λ a u. texts_append (if_there texts_in_condition condition.0) (flat_map texts_in_restriction restrictions.0)
    q r))))
