-- Where a tree stands it is the same term and the same condition in two models of which the same is seen.
use Rattle.std.proofs.Common.{◌≡◌, ℕ, if◌then◌else◌, [], map, refl, Option, None, Some}
use Rattle.vc_syntax_tree.specs.declared.Operand.{Operand as OperandLeaf}
use Rattle.vc_syntax_tree.specs.declared.Operand.TheVariants as operands
use Rattle.vc_syntax_tree.specs.declared.Owner.{Owner}
use Rattle.vc_syntax_tree.specs.declared.Owner.TheVariants as owners
use Rattle.vc_syntax_tree.specs.declared.Relator.{Relator}
use Rattle.vc_syntax_tree.specs.Trees.{Term, Number, Text, Operand, Negated, Combined, Applied, SumOfParts}
use Rattle.vc_syntax_tree.specs.Trees.{CountOfParts, Relation, Compared, Within, Condition, Or, And, Not, Related}
use Rattle.vc_syntax_tree.specs.Trees.{Specified, PartOf}
use Rattle.vc_types.specs.Settings.{is_line, is_multiple}
use Rattle.vc_types.specs.declared.place.At.{At}
use Rattle.vc_types.specs.declared.place.Place.{Place}
use Rattle.vc_plan.specs.declared.plans.Slot.{Slot}
use Rattle.vc_compile_plan.specs.Conditions.{compared_at, condition_at, holds_one, piece_of, relation_at, relation_of}
use Rattle.vc_compile_plan.specs.Conditions.{set_against, specified_at, text_in, text_in_piece}
use Rattle.vc_compile_plan.specs.Layouts.{object_if}
use Rattle.vc_compile_plan.specs.Places.{place_at}
use Rattle.vc_compile_plan.specs.Sites.{characteristic_in, characteristic_meant, is_set_meant, number_or_zero}
use Rattle.vc_compile_plan.specs.Sites.{set_meant}
use Rattle.vc_compile_plan.specs.Sites.{slot_meant, slot_of_owner, var_meant}
use Rattle.vc_compile_plan.specs.Terms.{function_of, literal_of, lone_of, minus, minus_literal, operator_of, term_at}
use Rattle.vc_compile_plan.specs.Trees as plan
use Rattle.vc_compile_plan.specs.Variables.{set_number, var_number}
use Rattle.vc_compile_same.specs.Twins.{Laid, Stand, Twins, laid_out, other, site_in}
use Rattle.vc_compile_same.proofs.NameLaws.{meaning_same}

-- a place at a slot, and what its site has beside the model
module _ (t : Twins) (l : Laid) where
  object_if_same : (i : Option ℕ) → object_if (laid_out t.one l) i ≡ object_if (laid_out (other t) l) i
  object_if_same None = refl
  object_if_same (Some i) = refl

  pub place_same : (slot : Slot) (where_at : At)
      → place_at (laid_out t.one l) slot where_at ≡ place_at (laid_out (other t) l) slot where_at
  place_same slot where_at = λ i.
      record { object = slot.object; parent = object_if_same slot.parent i; at = where_at }

abbrev pub stand_at : ℕ → Slot → Place → At → Stand
stand_at n slot place where_at = record {
  place = place;
  variables = [];
  own = n;
  parent = if is_line where_at then n else number_or_zero slot.parent;
  objects = [];
  slots = [];
}

module _ (t : Twins) (s : Stand) where
  owner_same : (owner : Owner) → slot_of_owner (site_in t.one s) owner ≡ slot_of_owner (site_in (other t) s) owner
  owner_same owners.Itself = refl
  owner_same owners.Parent = refl
  owner_same owners.Root = refl

  slot_meant_same : (operand : OperandLeaf)
      → slot_meant (site_in t.one s) operand ≡ slot_meant (site_in (other t) s) operand
  slot_meant_same (operands.Plain leaf) = refl
  slot_meant_same (operands.Owned owner leaf) = owner_same owner
  slot_meant_same (operands.Member variable leaf) = refl
  slot_meant_same (operands.Variable leaf) = refl

  meant_same : (operand : OperandLeaf)
      → characteristic_meant (site_in t.one s) operand ≡ characteristic_meant (site_in (other t) s) operand
  meant_same operand = λ i. characteristic_in (meaning_same t s.place s.variables operand i)

  is_set_meant_same : (operand : OperandLeaf)
      → is_set_meant (site_in t.one s) operand ≡ is_set_meant (site_in (other t) s) operand
  is_set_meant_same operand = λ i. is_multiple t.one (meant_same operand i)

module _ (t : Twins) (l : Laid) (s : Stand) where
  pub var_meant_same : (operand : OperandLeaf)
      → var_meant (laid_out t.one l) (site_in t.one s) operand
      ≡ var_meant (laid_out (other t) l) (site_in (other t) s) operand
  var_meant_same operand = λ i. var_number l.vars (slot_meant_same t s operand i) (meant_same t s operand i)

  set_meant_same : (operand : OperandLeaf)
      → set_meant (laid_out t.one l) (site_in t.one s) operand
      ≡ set_meant (laid_out (other t) l) (site_in (other t) s) operand
  set_meant_same operand = λ i. set_number l.sets (slot_meant_same t s operand i) (meant_same t s operand i)

  pub term_same : (term : Term)
      → term_at (laid_out t.one l) (site_in t.one s) term ≡ term_at (laid_out (other t) l) (site_in (other t) s) term
  term_same (Number leaf) = refl
  term_same (Text leaf) = refl
  term_same (Operand operand) = λ i. plan.Read (var_meant_same operand i)
  term_same (Negated term) = λ i. minus (minus_literal term) (term_same term i)
  term_same (Combined left operator right) = λ i.
      plan.Joined (operator_of operator) (term_same left i) (term_same right i)
  term_same (Applied function term) = λ i. plan.Applied (function_of function) (term_same term i)
  term_same (SumOfParts name) = refl
  term_same CountOfParts = refl

  compared_same : (operand : Option OperandLeaf) (left : Term) (relator : Relator) (right : Term)
      → compared_at (laid_out t.one l) (site_in t.one s) operand left relator right
      ≡ compared_at (laid_out (other t) l) (site_in (other t) s) operand left relator right
  compared_same None left relator right = λ i.
      plan.Compared (relation_of relator) (term_same left i) (term_same right i)
  compared_same (Some operand) left relator right = λ i.
      if is_set_meant_same t s operand i
      then set_against relator (plan.Holds (set_meant_same operand i) (text_in (literal_of l.texts right)))
      else plan.Compared (relation_of relator) (term_same left i) (term_same right i)

  relation_same : (relation : Relation)
      → relation_at (laid_out t.one l) (site_in t.one s) relation
      ≡ relation_at (laid_out (other t) l) (site_in (other t) s) relation
  relation_same (Compared left relator right) = compared_same (lone_of left) left relator right
  relation_same (Within operand listed) = λ i.
      if is_set_meant_same t s operand i
      then holds_one (set_meant_same operand i) (map text_in_piece (map (piece_of l.texts) listed))
      else plan.IsIn (var_meant_same operand i) (map (piece_of l.texts) listed)

  specified_same : (operand : OperandLeaf)
      → specified_at (laid_out t.one l) (site_in t.one s) operand
      ≡ specified_at (laid_out (other t) l) (site_in (other t) s) operand
  specified_same operand = λ i.
      if is_set_meant_same t s operand i
      then plan.Filled (set_meant_same operand i)
      else plan.Specified (var_meant_same operand i)

  pub condition_same : (condition : Condition)
      → condition_at (laid_out t.one l) (site_in t.one s) condition
      ≡ condition_at (laid_out (other t) l) (site_in (other t) s) condition
  condition_same (Or left right) = λ i. plan.Or (condition_same left i) (condition_same right i)
  condition_same (And left right) = λ i. plan.And (condition_same left i) (condition_same right i)
  condition_same (Not condition) = λ i. plan.Not (condition_same condition i)
  condition_same (Related relation) = relation_same relation
  condition_same (Specified operand) = specified_same operand
  condition_same (PartOf part whole) = refl
