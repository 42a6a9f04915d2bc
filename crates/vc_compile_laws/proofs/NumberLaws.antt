-- What the grammar says of numbers: those of a dependency that a text spells have at most nine digits before the point.
use Rattle.std.proofs.Common.{◌≡◌, Bool, true, ◌&&◌, List, [], ◌∷◌, ◌++◌, flat_map, Option, Some, refl, sym, ap, ◌∙◌}
use Rattle.std.specs.List.{list_all}
use Rattle.std.proofs.lemmas.Bool.{and_from, and_parts}
use Rattle.std.proofs.lemmas.List.Folds.{list_all-append, list_all-map}
use Rattle.vc_syntax_tokens.specs.declared.fault.Kind.{Kind}
use Rattle.vc_syntax_tokens.specs.declared.token.Lexeme.{Lexeme}
use Rattle.vc_syntax_tokens.specs.declared.token.Lexeme.TheVariants as lexemes
use Rattle.vc_syntax_tokens.specs.declared.token.Sign.{Sign}
use Rattle.vc_syntax_tokens.specs.declared.token.Token.{Token}
use Rattle.vc_syntax_tree.specs.declared.Item.{Item}
use Rattle.vc_syntax_tree.specs.declared.NumberLeaf.{NumberLeaf}
use Rattle.vc_syntax_tree.specs.declared.SignedNumber.{SignedNumber}
use Rattle.vc_syntax_terms.specs.ConditionGrammar as conditions
use Rattle.vc_syntax_terms.specs.ConditionGrammar.{IsCondition, IsConjunction, IsItem, IsListed, IsNegation, IsRelation}
use Rattle.vc_syntax_terms.specs.ConditionGrammar.{IsSignedNumber}
use Rattle.vc_syntax_terms.specs.Leaves.{number_in}
use Rattle.vc_syntax_terms.specs.TermGrammar as terms
use Rattle.vc_syntax_terms.specs.TermGrammar.{IsFactor, IsNumber, IsProduct, IsSum}
use Rattle.vc_syntax_tree.specs.Trees.{Action, Binding, Condition, Demand, Dependency, Relation, Restriction}
use Rattle.vc_syntax_tree.specs.Trees.{Statement, TableCall, Term}
use Rattle.vc_syntax.specs.ConstraintGrammar as constraints
use Rattle.vc_syntax.specs.ConstraintGrammar.{IsConditionSection, IsRestrictionSection}
use Rattle.vc_syntax.specs.DependencyGrammar as grammar
use Rattle.vc_syntax.specs.DependencyGrammar.{IsDependency}
use Rattle.vc_syntax.specs.StatementGrammar as statements
use Rattle.vc_syntax.specs.StatementGrammar.{IsAction, IsBinding, IsDemand, IsIf, IsRestriction, IsStatement, IsTable}
use Rattle.vc_types.specs.Occurrences.{call_of_action, call_of_demand, calls_in, condition_of_restriction}
use Rattle.vc_types.specs.Occurrences.{condition_of_statement, conditions_in, demanded_relations, if_there, own_terms}
use Rattle.vc_types.specs.Occurrences.{relation_of_demand, relations_in, relations_of, sides_of, term_of_action}
use Rattle.vc_types.specs.Occurrences.{terms_in, values_in}
use Rattle.vc_plan.specs.Ranges.{is_stored}
use Rattle.vc_tree_laws.specs.Spelled.{IsSpelled}
use Rattle.vc_compile_valid.proofs.ListLaws.{all_flat, all_joined, weaker}
use Rattle.vc_compile_ranges.specs.Numbers.{has_stored_numbers, is_stored_item, listed_in, stores_numbers}
use Rattle.vc_compile_laws.proofs.NumberTokenLaws.{AllKept, is_kept, text_kept}

-- tokens in two parts
kept_parts : (ts us : List Token) → AllKept (ts ++ us) → AllKept ts × AllKept us
kept_parts ts us h =
    let parts = and_parts (list_all (λ t. is_kept t.lexeme) ts) (list_all (λ t. is_kept t.lexeme) us)
    (sym (list_all-append (λ t. is_kept t.lexeme) ts us) ∙ h) in
    (parts.0, parts.1)

kept_rest : (t : Token) (ts : List Token) → AllKept (t ∷ ts) → AllKept ts
kept_rest t ts h = (and_parts (is_kept t.lexeme) (list_all (λ t. is_kept t.lexeme) ts) h).1

-- what stands on both sides of a token, and within brackets
kept_sides : (ts : List Token) (t : Token) (us : List Token) → AllKept (ts ++ t ∷ us) → AllKept ts × AllKept us
kept_sides ts t us h = let parts = kept_parts ts (t ∷ us) h in (parts.0, kept_rest t us parts.1)

kept_within : (ts : List Token) (closing : Token) → AllKept (ts ++ closing ∷ []) → AllKept ts
kept_within ts closing h = (kept_parts ts (closing ∷ []) h).0

number_kept : (t : Token) (leaf : NumberLeaf) → IsNumber t leaf → is_kept t.lexeme ≡ true → is_stored leaf.number ≡ true
number_kept t leaf is h = by t.lexeme is h
  where
    by : (x : Lexeme) → number_in x t.start t.end ≡ Some leaf → is_kept x ≡ true → is_stored leaf.number ≡ true
    by (lexemes.Number number) e k = of number (cc) k
      where
        of : (n : _) → n ≡ leaf.number → is_stored n ≡ true → is_stored leaf.number ≡ true
        of n same g = sym (ap is_stored same) ∙ g
    by (lexemes.Name x) e k = absurd (cc)
    by (lexemes.Reserved x) e k = absurd (cc)
    by (lexemes.Variable x) e k = absurd (cc)
    by (lexemes.Dollar x) e k = absurd (cc)
    by (lexemes.Text x) e k = absurd (cc)
    by (lexemes.Sign x) e k = absurd (cc)

-- a term
mutual
  factor_stores : (ts : List Token) (term : Term) → IsFactor ts term → AllKept ts → stores_numbers term ≡ true
  factor_stores _ _ (terms.number {t = t} {leaf = leaf} is) h = number_kept t leaf is
      (and_parts (is_kept t.lexeme) true h).0
  factor_stores _ _ (terms.text is) h = refl
  factor_stores _ _ (terms.operand is) h = refl
  factor_stores _ _ (terms.negated minus ts {term = term} is factor) h = factor_stores ts term factor
      (kept_rest minus ts h)
  factor_stores _ _ (terms.grouped opening ts closing {term = term} begins sum ends) h =
      sum_stores ts term sum (kept_within ts closing (kept_rest opening (ts ++ closing ∷ []) h))
  factor_stores _ _ (terms.applied t opening ts closing {term = term} is begins sum ends) h =
      sum_stores ts term sum (kept_within ts closing
      (kept_rest opening (ts ++ closing ∷ []) (kept_rest t (opening ∷ (ts ++ closing ∷ [])) h)))
  factor_stores _ _ (terms.sum_of_parts t ts closing is of ends) h = refl
  factor_stores _ _ (terms.count_of_parts t ts is of) h = refl

  product_stores : (ts : List Token) (term : Term) → IsProduct ts term → AllKept ts → stores_numbers term ≡ true
  product_stores _ _ (terms.factor {ts = ts} {term = term} factor) h = factor_stores ts term factor h
  product_stores _ _ (terms.multiplied ts t us {left = left} {right = right} product operator factor) h =
      let parts = kept_sides ts t us h in
      and_from (stores_numbers left) (stores_numbers right) (product_stores ts left product parts.0)
      (factor_stores us right factor parts.1)

  sum_stores : (ts : List Token) (term : Term) → IsSum ts term → AllKept ts → stores_numbers term ≡ true
  sum_stores _ _ (terms.product {ts = ts} {term = term} product) h = product_stores ts term product h
  sum_stores _ _ (terms.added ts t us {left = left} {right = right} sum operator product) h =
      let parts = kept_sides ts t us h in
      and_from (stores_numbers left) (stores_numbers right) (sum_stores ts left sum parts.0)
      (product_stores us right product parts.1)

-- what holds of each thing holds of all that are listed
listed_stores : {A : Type 0} (test : A → Bool) (separator : Sign) (IsA : List Token → A → Type 0)
    → ((ts : List Token) (x : A) → IsA ts x → AllKept ts → test x ≡ true) → (ts : List Token) (xs : List A)
    → IsListed separator IsA ts xs → AllKept ts → list_all test xs ≡ true
listed_stores test separator IsA holds _ _ (conditions.one {ts = ts} {x = x} first) h =
    and_from (test x) true (holds ts x first h) refl
listed_stores test separator IsA holds _ _ (conditions.more ts t us xs x before sign last) h =
    let parts = kept_sides ts t us h in
    list_all-append test xs (x ∷ [])
    ∙ and_from (list_all test xs) (test x && true) (listed_stores test separator IsA holds ts xs before parts.0)
    (and_from (test x) true (holds us x last parts.1) refl)

-- a relation
signed_stores : (ts : List Token) (number : SignedNumber) → IsSignedNumber ts number → AllKept ts
    → is_stored number.leaf.number ≡ true
signed_stores _ _ (conditions.positive {t = t} {leaf = leaf} is) h = number_kept t leaf is
    (and_parts (is_kept t.lexeme) true h).0
signed_stores _ _ (conditions.negative {minus = minus} {t = t} {leaf = leaf} sign is) h =
    number_kept t leaf is (and_parts (is_kept t.lexeme) true (kept_rest minus (t ∷ []) h)).0

item_stores : (ts : List Token) (item : Item) → IsItem ts item → AllKept ts → is_stored_item item ≡ true
item_stores _ _ (conditions.text is) h = refl
item_stores _ _ (conditions.number {ts = ts} {number = number} is) h = signed_stores ts number is h
item_stores _ _ (conditions.interval ts minus us {low = low} {high = high} first sign last) h =
    let parts = kept_sides ts minus us h in
    and_from (is_stored low.leaf.number) (is_stored high.leaf.number) (signed_stores ts low first parts.0)
    (signed_stores us high last parts.1)

abbrev stored_relation : Relation → Bool
stored_relation r = list_all stores_numbers (sides_of r) && list_all is_stored_item (listed_in r)

relation_stores : (ts : List Token) (relation : Relation) → IsRelation ts relation → AllKept ts
    → stored_relation relation ≡ true
relation_stores _ _ (conditions.compared ts t us {left = left} {right = right} first relator last) h =
    let parts = kept_sides ts t us h in
    and_from (stores_numbers left && (stores_numbers right && true)) true
    (and_from (stores_numbers left) (stores_numbers right && true) (sum_stores ts left first parts.0)
    (and_from (stores_numbers right) true (sum_stores us right last parts.1) refl)) refl
relation_stores _ _ (conditions.within ts t opening us closing {items = items} operand word begins listed ends) h =
    let behind = kept_rest opening (us ++ closing ∷ []) (kept_sides ts t (opening ∷ (us ++ closing ∷ [])) h).1 in
    listed_stores is_stored_item _ IsItem item_stores us items listed (kept_within us closing behind)

-- a condition
abbrev stored_condition : Condition → Bool
stored_condition c = list_all stored_relation (relations_of c)

mutual
  negation_stores : (ts : List Token) (c : Condition) → IsNegation ts c → AllKept ts → stored_condition c ≡ true
  negation_stores _ _ (conditions.negated t ts {condition = c} word negation) h = negation_stores ts c negation
      (kept_rest t ts h)
  negation_stores _ _ (conditions.grouped opening ts closing {condition = c} begins condition ends) h =
      condition_stores ts c condition (kept_within ts closing (kept_rest opening (ts ++ closing ∷ []) h))
  negation_stores _ _ (conditions.related {ts = ts} {relation = relation} is) h =
      and_from (stored_relation relation) true (relation_stores ts relation is h) refl
  negation_stores _ _ (conditions.specified t ts word operand) h = refl
  negation_stores _ _ (conditions.specified_behind ts t operand word) h = refl
  negation_stores _ _ (conditions.part_of word begins part comma whole ends) h = refl

  conjunction_stores : (ts : List Token) (c : Condition) → IsConjunction ts c → AllKept ts → stored_condition c ≡ true
  conjunction_stores _ _ (conditions.negation {ts = ts} {condition = c} negation) h = negation_stores ts c negation h
  conjunction_stores _ _ (conditions.and ts t us {left = left} {right = right} first word last) h =
      let parts = kept_sides ts t us h in
      all_joined stored_relation (relations_of left) (relations_of right) (conjunction_stores ts left first parts.0)
      (negation_stores us right last parts.1)

  condition_stores : (ts : List Token) (c : Condition) → IsCondition ts c → AllKept ts → stored_condition c ≡ true
  condition_stores _ _ (conditions.conjunction {ts = ts} {condition = c} conjunction) h =
      conjunction_stores ts c conjunction h
  condition_stores _ _ (conditions.or ts t us {left = left} {right = right} first word last) h =
      let parts = kept_sides ts t us h in
      all_joined stored_relation (relations_of left) (relations_of right) (condition_stores ts left first parts.0)
      (conjunction_stores us right last parts.1)

abbrev stored_if : Option Condition → Bool
stored_if o = list_all stored_condition (if_there (λ c. c ∷ []) o)

if_stores : (ts : List Token) (o : Option Condition) → IsIf ts o → AllKept ts → stored_if o ≡ true
if_stores _ _ statements.always h = refl
if_stores _ _ (statements.when t ts {condition = c} word is) h =
    and_from (stored_condition c) true (condition_stores ts c is (kept_rest t ts h)) refl

-- a call of a table
abbrev stored_call : TableCall → Bool
stored_call call = list_all stores_numbers (values_in call)

binding_stores : (ts : List Token) (b : Binding) → IsBinding ts b → AllKept ts → stores_numbers b.value ≡ true
binding_stores _ _ (statements.bound t equal ts {value = value} name sign sum) h =
    sum_stores ts value sum (kept_rest equal ts (kept_rest t (equal ∷ ts) h))

call_stores : (ts : List Token) (call : TableCall) → IsTable ts call → AllKept ts → stored_call call ≡ true
call_stores _ _ (statements.called t u opening ts closing {bindings = bindings} word name begins listed ends) h =
    let behind = kept_rest opening (ts ++ closing ∷ []) (kept_rest u (opening ∷ (ts ++ closing ∷ []))
    (kept_rest t (u ∷ opening ∷ (ts ++ closing ∷ [])) h)) in
    list_all-map stores_numbers (λ b. b.value) bindings
    ∙ listed_stores (λ b. stores_numbers b.value) _ IsBinding binding_stores ts bindings listed
    (kept_within ts closing behind)

-- a statement
abbrev stored_statement : Statement → Bool
stored_statement s =
    (list_all stores_numbers (term_of_action s.action) && list_all stored_call
    (call_of_action s.action)) && stored_if s.condition

action_stores : (ts : List Token) (a : Action) → IsAction ts a → AllKept ts
    → (list_all stores_numbers (term_of_action a) && list_all stored_call (call_of_action a)) ≡ true
action_stores _ _ (statements.assign t dot u equal ts {value = value} itself is_dot name is sum) h =
    let behind = kept_rest equal ts (kept_rest u (equal ∷ ts)
    (kept_rest dot (u ∷ equal ∷ ts) (kept_rest t (dot ∷ u ∷ equal ∷ ts) h))) in
    and_from (stores_numbers value && true) true (and_from (stores_numbers value) true
    (sum_stores ts value sum behind) refl) refl
action_stores _ _ (statements.set_default t ts comma us closing {value = value} word name is sum closes) h =
    let behind = (kept_sides ts comma (us ++ closing ∷ []) (kept_rest t (ts ++ comma ∷ (us ++ closing ∷ [])) h)).1 in
    and_from (stores_numbers value && true) true
    (and_from (stores_numbers value) true (sum_stores us value sum (kept_within us closing behind)) refl) refl
action_stores _ _ (statements.del_default t ts comma us closing {value = value} word name is sum closes) h =
    let behind = (kept_sides ts comma (us ++ closing ∷ []) (kept_rest t (ts ++ comma ∷ (us ++ closing ∷ [])) h)).1 in
    and_from (stores_numbers value && true) true
    (and_from (stores_numbers value) true (sum_stores us value sum (kept_within us closing behind)) refl) refl
action_stores _ _ (statements.table {ts = ts} {call = call} table) h =
    and_from (stored_call call) true (call_stores ts call table h) refl

statement_stores : (ts : List Token) (s : Statement) → IsStatement ts s → AllKept ts → stored_statement s ≡ true
statement_stores _ _ (statements.stated ts us {action = action} {condition = condition} acts asks) h =
    let parts = kept_parts ts us h in
    and_from (list_all stores_numbers (term_of_action action) && list_all stored_call (call_of_action action))
    (stored_if condition)
    (action_stores ts action acts parts.0) (if_stores us condition asks parts.1)

-- a restriction
abbrev stored_restriction : Restriction → Bool
stored_restriction r =
    (list_all stored_relation (relation_of_demand r.demand) && list_all stored_call
    (call_of_demand r.demand)) && stored_if r.condition

demand_stores : (ts : List Token) (d : Demand) → IsDemand ts d → AllKept ts
    → (list_all stored_relation (relation_of_demand d) && list_all stored_call (call_of_demand d)) ≡ true
demand_stores _ _ (statements.relation {ts = ts} {relation = relation} related) h =
    and_from (stored_relation relation && true) true
    (and_from (stored_relation relation) true (relation_stores ts relation related h) refl) refl
demand_stores _ _ (statements.table {ts = ts} {call = call} table) h =
    and_from (stored_call call) true (call_stores ts call table h) refl
demand_stores _ _ (statements.never word) h = refl

restriction_stores : (ts : List Token) (r : Restriction) → IsRestriction ts r → AllKept ts → stored_restriction r ≡ true
restriction_stores _ _ (statements.demanded ts us {what = what} {condition = condition} demands asks) h =
    let parts = kept_parts ts us h in
    and_from (list_all stored_relation (relation_of_demand what) && list_all stored_call (call_of_demand what))
    (stored_if condition)
    (demand_stores ts what demands parts.0) (if_stores us condition asks parts.1)

-- the sections of a constraint
asked_stores : (ts : List Token) (o : Option Condition) → IsConditionSection ts o → AllKept ts → stored_if o ≡ true
asked_stores _ _ constraints.always h = refl
asked_stores _ _ (constraints.when t _ word (constraints.section colon ts period c begins is ends)) h =
    and_from (stored_condition c) true
    (condition_stores ts c is (kept_within ts period
    (kept_rest colon (ts ++ period ∷ []) (kept_rest t (colon ∷ (ts ++ period ∷ [])) h)))) refl

section_stores : (ts : List Token) (rs : List Restriction) → IsRestrictionSection ts rs → AllKept ts
    → list_all stored_restriction rs ≡ true
section_stores _ _ (constraints.restriction t _ word (constraints.section colon ts period rs begins listed ends)) h =
    listed_stores stored_restriction _ IsRestriction restriction_stores ts rs listed
    (kept_within ts period (kept_rest colon (ts ++ period ∷ []) (kept_rest t (colon ∷ (ts ++ period ∷ [])) h)))
section_stores _ _ (constraints.restrictions t _ word (constraints.section colon ts period rs begins listed ends)) h =
    listed_stores stored_restriction _ IsRestriction restriction_stores ts rs listed
    (kept_within ts period (kept_rest colon (ts ++ period ∷ []) (kept_rest t (colon ∷ (ts ++ period ∷ [])) h)))

-- a dependency, in its parts
record IsStored (tree : Dependency) : Type 0 where
  conditions : list_all stored_condition (conditions_in tree) ≡ true
  demanded : list_all stored_relation (demanded_relations tree) ≡ true
  own : list_all stores_numbers (own_terms tree) ≡ true
  calls : list_all stored_call (calls_in tree) ≡ true

procedure_stores : (ss : List Statement) → list_all stored_statement ss ≡ true
    → (list_all stored_condition (flat_map condition_of_statement ss) ≡ true)
    × (list_all stores_numbers (flat_map (λ s. term_of_action s.action) ss) ≡ true)
    × (list_all stored_call (flat_map (λ s. call_of_action s.action) ss) ≡ true)
procedure_stores ss h = (
  all_flat stored_condition condition_of_statement ss
      (weaker stored_statement (λ s. stored_if s.condition) ss
      (λ s k. (and_parts (list_all stores_numbers (term_of_action s.action) && list_all stored_call
      (call_of_action s.action))
      (stored_if s.condition) k).1) h),
  all_flat stores_numbers (λ s. term_of_action s.action) ss
      (weaker stored_statement (λ s. list_all stores_numbers (term_of_action s.action)) ss
      (λ s k. (and_parts (list_all stores_numbers (term_of_action s.action))
      (list_all stored_call (call_of_action s.action))
      (and_parts (list_all stores_numbers (term_of_action s.action) && list_all stored_call
      (call_of_action s.action))
      (stored_if s.condition) k).0).0) h),
  all_flat stored_call (λ s. call_of_action s.action) ss
      (weaker stored_statement (λ s. list_all stored_call (call_of_action s.action)) ss
      (λ s k. (and_parts (list_all stores_numbers (term_of_action s.action))
      (list_all stored_call (call_of_action s.action))
      (and_parts (list_all stores_numbers (term_of_action s.action) && list_all stored_call
      (call_of_action s.action))
      (stored_if s.condition) k).0).1) h),
)

restrictions_store : (rs : List Restriction) → list_all stored_restriction rs ≡ true
    → (list_all stored_condition (flat_map condition_of_restriction rs) ≡ true)
    × (list_all stored_relation (flat_map (λ r. relation_of_demand r.demand) rs) ≡ true)
    × (list_all stored_call (flat_map (λ r. call_of_demand r.demand) rs) ≡ true)
restrictions_store rs h = (
  all_flat stored_condition condition_of_restriction rs
      (weaker stored_restriction (λ r. stored_if r.condition) rs
      (λ r k. (and_parts (list_all stored_relation (relation_of_demand r.demand) && list_all stored_call
      (call_of_demand r.demand))
      (stored_if r.condition) k).1) h),
  all_flat stored_relation (λ r. relation_of_demand r.demand) rs
      (weaker stored_restriction (λ r. list_all stored_relation (relation_of_demand r.demand)) rs
      (λ r k. (and_parts (list_all stored_relation (relation_of_demand r.demand))
      (list_all stored_call (call_of_demand r.demand))
      (and_parts (list_all stored_relation (relation_of_demand r.demand) && list_all stored_call
      (call_of_demand r.demand))
      (stored_if r.condition) k).0).0) h),
  all_flat stored_call (λ r. call_of_demand r.demand) rs
      (weaker stored_restriction (λ r. list_all stored_call (call_of_demand r.demand)) rs
      (λ r k. (and_parts (list_all stored_relation (relation_of_demand r.demand))
      (list_all stored_call (call_of_demand r.demand))
      (and_parts (list_all stored_relation (relation_of_demand r.demand) && list_all stored_call
      (call_of_demand r.demand))
      (stored_if r.condition) k).0).1) h),
)

tree_stores : (kind : Kind) (ts : List Token) (tree : Dependency) → IsDependency kind ts tree → AllKept ts
    → IsStored tree
tree_stores _ _ _ (grammar.precondition ts us {x = c} condition stops) h = record {
  conditions = and_from (stored_condition c) true (condition_stores ts c condition (kept_parts ts us h).0) refl;
  demanded = refl;
  own = refl;
  calls = refl;
}
tree_stores _ _ _ (grammar.selection ts us {x = c} condition stops) h = record {
  conditions = and_from (stored_condition c) true (condition_stores ts c condition (kept_parts ts us h).0) refl;
  demanded = refl;
  own = refl;
  calls = refl;
}
tree_stores _ _ _ (grammar.procedure ts us {xs = ss} listed stops) h =
    let parts = procedure_stores ss (listed_stores stored_statement _ IsStatement statement_stores ts ss listed
    (kept_parts ts us h).0) in
    record { conditions = parts.0; demanded = refl; own = parts.1; calls = parts.2 }
tree_stores _ _ _ (grammar.constraint
    (constraints.constraint ts us vs ws {condition = condition} {restrictions = rs} some_objects asks demands infers))
    h =
    let behind = kept_parts us (vs ++ ws) (kept_parts ts (us ++ (vs ++ ws)) h).1 in
    let parts = restrictions_store rs (section_stores vs rs demands (kept_parts vs ws behind.1).0) in
    record {
      conditions = all_joined stored_condition (if_there (λ c. c ∷ []) condition) (flat_map condition_of_restriction rs)
          (asked_stores us condition asks behind.0) parts.0;
      demanded = parts.1;
      own = refl;
      calls = parts.2;
    }
tree_stores _ _ _ (grammar.term {ts = ts} {x = term} sum) h = record {
  conditions = refl;
  demanded = refl;
  own = and_from (stores_numbers term) true (sum_stores ts term sum h) refl;
  calls = refl;
}

-- so all of it
whole_stores : (tree : Dependency) → IsStored tree → has_stored_numbers tree ≡ true
whole_stores tree stored =
    let relations = all_joined stored_relation (flat_map relations_of (conditions_in tree)) (demanded_relations tree)
    (all_flat stored_relation relations_of (conditions_in tree) stored.conditions) stored.demanded in
    and_from (list_all stores_numbers (terms_in tree))
    (list_all is_stored_item (flat_map listed_in (relations_in tree)))
    (all_joined stores_numbers (flat_map sides_of (relations_in tree))
    (own_terms tree ++ flat_map values_in (calls_in tree))
    (all_flat stores_numbers sides_of (relations_in tree)
    (weaker stored_relation (λ r. list_all stores_numbers (sides_of r)) (relations_in tree)
    (λ r k. (and_parts (list_all stores_numbers (sides_of r)) (list_all is_stored_item (listed_in r)) k).0) relations))
    (all_joined stores_numbers (own_terms tree) (flat_map values_in (calls_in tree)) stored.own
    (all_flat stores_numbers values_in (calls_in tree) stored.calls)))
    (all_flat is_stored_item listed_in (relations_in tree)
    (weaker stored_relation (λ r. list_all is_stored_item (listed_in r)) (relations_in tree)
    (λ r k. (and_parts (list_all stores_numbers (sides_of r)) (list_all is_stored_item (listed_in r)) k).1) relations))

pub spelled_stores : (tree : Dependency) → IsSpelled tree → has_stored_numbers tree ≡ true
spelled_stores tree spelled =
    let spells = spelled.spells in
    whole_stores tree (tree_stores spelled.kind spells.tokens tree spells.spelled
    (text_kept spelled.text spells.tokens spells.cut))
