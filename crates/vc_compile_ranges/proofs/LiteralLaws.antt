-- The literals of a dependency, term by term and relation by relation.
use Rattle.std.proofs.Common.{◌≡◌, ℕ, false, ◌||◌, List, [], ◌∷◌, ◌++◌, flat_map, Option, Some, None}
use Rattle.std.proofs.lemmas.Bool.{or_parts}
use Rattle.vc_syntax_tree.specs.Trees.{Term, Number, Text, Operand, Negated, Combined, Applied, SumOfParts}
use Rattle.vc_syntax_tree.specs.Trees.{CountOfParts}
use Rattle.vc_syntax_tree.specs.Trees.{Relation, Compared, Within, Condition, Or, And, Not, Related, Specified, PartOf}
use Rattle.vc_syntax_tree.specs.Trees.{TableCall, Action, Assign, SetDefault, DelDefault, Calls, Statement}
use Rattle.vc_syntax_tree.specs.Trees.{Demand, Relates, Holds, Never, Restriction}
use Rattle.vc_syntax_tree.specs.Trees.{Dependency, Precondition, Selection, Procedure, Constrains, Counts}
use Rattle.vc_types.specs.Occurrences.{call_of_action, call_of_demand, calls_in, condition_of_restriction}
use Rattle.vc_types.specs.Occurrences.{condition_of_statement, conditions_in, demanded_relations, if_there, own_terms}
use Rattle.vc_types.specs.Occurrences.{relation_of_demand, relations_in, relations_of, sides_of, term_of_action}
use Rattle.vc_types.specs.Occurrences.{terms_in, values_in}
use Rattle.vc_types.specs.Settings.{Setting}
use Rattle.vc_types.specs.SortFaults.{computes_with_text, is_text, sort_of}
use Rattle.vc_compile_plan.specs.Texts.{texts_in, texts_in_action, texts_in_call, texts_in_condition, texts_in_demand}
use Rattle.vc_compile_plan.specs.Texts.{texts_in_item, texts_in_relation, texts_in_restriction, texts_in_statement}
use Rattle.vc_compile_plan.specs.Texts.{texts_in_term}
use Rattle.vc_compile_valid.proofs.EachLaws.{Each, each_flat, each_joined, each_mapped, each_more}
use Rattle.vc_compile_meant.proofs.FaultLaws.{each_split, each_unflat}
use Rattle.vc_compile_ranges.specs.Numbers.{listed_in}

-- what the texts of a dependency have, those of each of its relations and terms have
module _ (P : List ℕ → Type 0) where
  condition_texts : (c : Condition) → Each P (texts_in_condition c)
      → Each (λ r. Each P (texts_in_relation r)) (relations_of c)
  condition_texts (Or left right) h =
      let both = each_split P (texts_in_condition left) (texts_in_condition right) h in
      each_joined (λ r. Each P (texts_in_relation r)) (relations_of left) (relations_of right)
      (condition_texts left both.0)
      (condition_texts right both.1)
  condition_texts (And left right) h =
      let both = each_split P (texts_in_condition left) (texts_in_condition right) h in
      each_joined (λ r. Each P (texts_in_relation r)) (relations_of left) (relations_of right)
      (condition_texts left both.0)
      (condition_texts right both.1)
  condition_texts (Not condition) h = condition_texts condition h
  condition_texts (Related relation) h = (h, tt)
  condition_texts (Specified operand) h = tt
  condition_texts (PartOf part whole) h = tt

  if_texts : (o : Option Condition) → Each P (if_there texts_in_condition o)
      → Each (λ c. Each P (texts_in_condition c)) (if_there (λ c. c ∷ []) o)
  if_texts None h = tt
  if_texts (Some c) h = (h, tt)

  call_texts : (call : TableCall) → Each P (texts_in_call call) → Each (λ t. Each P (texts_in_term t)) (values_in call)
  call_texts call h =
      each_mapped (λ t. Each P (texts_in_term t)) (λ binding. binding.value) call.bindings
      (each_unflat P (λ binding. texts_in_term binding.value) call.bindings h)

  action_terms : (a : Action) → Each P (texts_in_action a) → Each (λ t. Each P (texts_in_term t)) (term_of_action a)
  action_terms (Assign name term) h = (h, tt)
  action_terms (SetDefault name term) h = (h, tt)
  action_terms (DelDefault name term) h = (h, tt)
  action_terms (Calls call) h = tt

  action_calls : (a : Action) → Each P (texts_in_action a)
      → Each (λ call. Each P (texts_in_call call)) (call_of_action a)
  action_calls (Assign name term) h = tt
  action_calls (SetDefault name term) h = tt
  action_calls (DelDefault name term) h = tt
  action_calls (Calls call) h = (h, tt)

  demand_relations : (d : Demand) → Each P (texts_in_demand d)
      → Each (λ r. Each P (texts_in_relation r)) (relation_of_demand d)
  demand_relations (Relates relation) h = (h, tt)
  demand_relations (Holds call) h = tt
  demand_relations Never h = tt

  demand_calls : (d : Demand) → Each P (texts_in_demand d)
      → Each (λ call. Each P (texts_in_call call)) (call_of_demand d)
  demand_calls (Relates relation) h = tt
  demand_calls (Holds call) h = (h, tt)
  demand_calls Never h = tt

  -- in its parts
  record HasTexts (tree : Dependency) : Type 0 where
    conditions : Each (λ c. Each P (texts_in_condition c)) (conditions_in tree)
    demanded : Each (λ r. Each P (texts_in_relation r)) (demanded_relations tree)
    own : Each (λ t. Each P (texts_in_term t)) (own_terms tree)
    calls : Each (λ call. Each P (texts_in_call call)) (calls_in tree)

  tree_texts : (tree : Dependency) → Each P (texts_in tree) → HasTexts tree
  tree_texts (Precondition condition) h = record { conditions = (h, tt); demanded = tt; own = tt; calls = tt }
  tree_texts (Selection condition) h = record { conditions = (h, tt); demanded = tt; own = tt; calls = tt }
  tree_texts (Counts term) h = record { conditions = tt; demanded = tt; own = (h, tt); calls = tt }
  tree_texts (Procedure statements) h =
      let each = each_more (λ s. Each P (texts_in_statement s))
      (λ s. Each P (texts_in_action s.action) × Each P (if_there texts_in_condition s.condition))
      (λ s k. each_split P (texts_in_action s.action) (if_there texts_in_condition s.condition) k) statements
      (each_unflat P texts_in_statement statements h) in
      let Both : Statement → Type 0 = λ s. Each P (texts_in_action s.action) × Each P
      (if_there texts_in_condition s.condition) in
      record {
        conditions = each_flat (λ c. Each P (texts_in_condition c)) condition_of_statement statements
            (each_more Both (λ s. Each (λ c. Each P (texts_in_condition c)) (condition_of_statement s))
            (λ s k. if_texts s.condition k.1)
            statements each);
        demanded = tt;
        own = each_flat (λ t. Each P (texts_in_term t)) (λ s. term_of_action s.action) statements
            (each_more Both (λ s. Each (λ t. Each P (texts_in_term t)) (term_of_action s.action))
            (λ s k. action_terms s.action k.0)
            statements each);
        calls = each_flat (λ call. Each P (texts_in_call call)) (λ s. call_of_action s.action) statements
            (each_more Both (λ s. Each (λ call. Each P (texts_in_call call)) (call_of_action s.action))
            (λ s k. action_calls s.action k.0)
            statements each);
      }
  tree_texts (Constrains constraint) h =
      let rs = constraint.restrictions in
      let parts = each_split P (if_there texts_in_condition constraint.condition)
      (flat_map texts_in_restriction rs) h in
      let each = each_more (λ r. Each P (texts_in_restriction r))
      (λ r. Each P (texts_in_demand r.demand) × Each P (if_there texts_in_condition r.condition))
      (λ r k. each_split P (texts_in_demand r.demand) (if_there texts_in_condition r.condition) k) rs
      (each_unflat P texts_in_restriction rs parts.1) in
      let Both : Restriction → Type 0 = λ r. Each P (texts_in_demand r.demand) × Each P
      (if_there texts_in_condition r.condition) in
      record {
        conditions = each_joined (λ c. Each P (texts_in_condition c)) (if_there (λ c. c ∷ []) constraint.condition)
            (flat_map condition_of_restriction rs) (if_texts constraint.condition parts.0)
            (each_flat (λ c. Each P (texts_in_condition c)) condition_of_restriction rs
            (each_more Both (λ r. Each (λ c. Each P (texts_in_condition c)) (condition_of_restriction r))
            (λ r k. if_texts r.condition k.1)
            rs each));
        demanded = each_flat (λ r. Each P (texts_in_relation r)) (λ r. relation_of_demand r.demand) rs
            (each_more Both (λ r. Each (λ x. Each P (texts_in_relation x)) (relation_of_demand r.demand))
            (λ r k. demand_relations r.demand k.0) rs each);
        own = tt;
        calls = each_flat (λ call. Each P (texts_in_call call)) (λ r. call_of_demand r.demand) rs
            (each_more Both (λ r. Each (λ call. Each P (texts_in_call call)) (call_of_demand r.demand))
            (λ r k. demand_calls r.demand k.0)
            rs each);
      }

  relation_sides : (r : Relation) → Each P (texts_in_relation r) → Each (λ t. Each P (texts_in_term t)) (sides_of r)
  relation_sides (Compared left relator right) h =
      let both = each_split P (texts_in_term left) (texts_in_term right) h in (both.0, (both.1, tt))
  relation_sides (Within operand listed) h = tt

  relation_items : (r : Relation) → Each P (texts_in_relation r)
      → Each (λ item. Each P (texts_in_item item)) (listed_in r)
  relation_items (Compared left relator right) h = tt
  relation_items (Within operand listed) h = each_unflat P texts_in_item listed h

  relation_texts : (tree : Dependency) → HasTexts tree → Each (λ r. Each P (texts_in_relation r)) (relations_in tree)
  relation_texts tree h =
      each_joined (λ r. Each P (texts_in_relation r)) (flat_map relations_of (conditions_in tree))
      (demanded_relations tree)
      (each_flat (λ r. Each P (texts_in_relation r)) relations_of (conditions_in tree)
      (each_more (λ c. Each P (texts_in_condition c))
      (λ c. Each (λ r. Each P (texts_in_relation r)) (relations_of c)) condition_texts
      (conditions_in tree) h.conditions)) h.demanded

  pub texts_by_term : (tree : Dependency) → Each P (texts_in tree)
      → Each (λ t. Each P (texts_in_term t)) (terms_in tree)
  texts_by_term tree h =
      let has = tree_texts tree h in
      each_joined (λ t. Each P (texts_in_term t)) (flat_map sides_of (relations_in tree))
      (own_terms tree ++ flat_map values_in (calls_in tree))
      (each_flat (λ t. Each P (texts_in_term t)) sides_of (relations_in tree)
      (each_more (λ r. Each P (texts_in_relation r))
      (λ r. Each (λ t. Each P (texts_in_term t)) (sides_of r)) relation_sides (relations_in tree)
      (relation_texts tree has)))
      (each_joined (λ t. Each P (texts_in_term t)) (own_terms tree) (flat_map values_in (calls_in tree)) has.own
      (each_flat (λ t. Each P (texts_in_term t)) values_in (calls_in tree)
      (each_more (λ call. Each P (texts_in_call call))
      (λ call. Each (λ t. Each P (texts_in_term t)) (values_in call)) call_texts (calls_in tree)
      has.calls)))

  pub texts_by_item : (tree : Dependency) → Each P (texts_in tree)
      → Each (λ r. Each (λ item. Each P (texts_in_item item)) (listed_in r)) (relations_in tree)
  texts_by_item tree h =
      each_more (λ r. Each P (texts_in_relation r))
      (λ r. Each (λ item. Each P (texts_in_item item)) (listed_in r)) relation_items
      (relations_in tree) (relation_texts tree (tree_texts tree h))

-- a term that is no text, and computes with none, has no text
pub no_texts : (P : List ℕ → Type 0) (setting : Setting) (t : Term) → is_text (sort_of setting t) ≡ false
    → computes_with_text setting t ≡ false → Each P (texts_in_term t)
no_texts P setting (Number leaf) text computes = tt
no_texts P setting (Text leaf) text computes = absurd (cc)
no_texts P setting (Operand operand) text computes = tt
no_texts P setting (Negated term) text computes =
    let parts = or_parts (is_text (sort_of setting term)) (computes_with_text setting term) computes in
    no_texts P setting term parts.0 parts.1
no_texts P setting (Combined left operator right) text computes =
    let parts = or_parts (is_text (sort_of setting left) || is_text (sort_of setting right))
    (computes_with_text setting left || computes_with_text setting right) computes in
    let sorts = or_parts (is_text (sort_of setting left)) (is_text (sort_of setting right)) parts.0 in
    let more = or_parts (computes_with_text setting left) (computes_with_text setting right) parts.1 in
    each_joined P (texts_in_term left) (texts_in_term right) (no_texts P setting left sorts.0 more.0)
    (no_texts P setting right sorts.1 more.1)
no_texts P setting (Applied function term) text computes =
    let parts = or_parts (is_text (sort_of setting term)) (computes_with_text setting term) computes in
    no_texts P setting term parts.0 parts.1
no_texts P setting (SumOfParts name) text computes = tt
no_texts P setting CountOfParts text computes = tt
