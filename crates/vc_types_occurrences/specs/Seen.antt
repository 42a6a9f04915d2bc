-- Parts of a tree that is kept in memory, as they are without their places there.
use Rattle.std.specs.Prelude.{Bool, true, false, List, map}
use Rattle.std.proofs.Common.{Bor}
use Rattle.vc_syntax_tree.specs.declared.Condition.{Condition as StoredCondition}
use Rattle.vc_syntax_tree.specs.declared.NameLeaf.{NameLeaf}
use Rattle.vc_syntax_tree.specs.declared.Relation.{Relation as StoredRelation}
use Rattle.vc_syntax_tree.specs.declared.TableCall.{TableCall as StoredTableCall}
use Rattle.vc_syntax_tree.specs.declared.Term.{Term as StoredTerm}
use Rattle.vc_syntax_tree.specs.Trees.{Condition, condition_of, Relation, relation_of, TableCall, table_call_of, Term}
use Rattle.vc_syntax_tree.specs.Trees.{Number, term_of}

abbrev pub conditions_seen : List (Bor StoredCondition) → List Condition
conditions_seen conditions = map (λ c. condition_of c.now) conditions

abbrev pub relations_seen : List (Bor StoredRelation) → List Relation
relations_seen relations = map (λ r. relation_of r.now) relations

abbrev pub calls_seen : List (Bor StoredTableCall) → List TableCall
calls_seen calls = map (λ c. table_call_of c.now) calls

abbrev pub terms_seen : List (Bor StoredTerm) → List Term
terms_seen terms = map (λ t. term_of t.now) terms

abbrev pub leaves_seen : List (Bor NameLeaf) → List NameLeaf
leaves_seen leaves = map (λ l. l.now) leaves

-- a number without a minus
abbrev pub is_number : Term → Bool
is_number (Number leaf) = true
is_number term = false
