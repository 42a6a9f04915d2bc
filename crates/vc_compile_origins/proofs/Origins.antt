-- Where what a plan asks, means, demands and does comes from: a tree without a fault at a slot, or at a tuple.
use Rattle.std.proofs.Common.{◌≡◌, ℕ, ◌⊎◌, true, false, nat_lt, List, ◌++◌, length, flat_map, Some, None}
use Rattle.std.specs.Prelude.{slice_get}
use Rattle.vc_model_parts.specs.declared.parts.BillItem.{BillItem}
use Rattle.vc_model_parts.specs.declared.parts.Model.{Model}
use Rattle.vc_model_parts.specs.declared.parts.Operation as parts
use Rattle.vc_plan.specs.declared.plans.Slot.{Slot}
use Rattle.vc_syntax_tree.specs.Trees as syntax
use Rattle.vc_types.specs.Faults.{fault_of}
use Rattle.vc_types.specs.Occurrences.{calls_in, conditions_in, demanded_relations, own_terms, sides_of, values_in}
use Rattle.vc_types.specs.PlaceFaults.{is_procedure}
use Rattle.vc_types.specs.Settings.{is_constraint, setting_of}
use Rattle.vc_types.specs.declared.place.At.{At}
use Rattle.vc_types.specs.declared.place.At.TheVariants as at
use Rattle.vc_compile_plan.specs.Conditions.{condition_at}
use Rattle.vc_compile_plan.specs.Layouts.{layout_of, tree_of}
use Rattle.vc_compile_plan.specs.Places.{place_at, procedure_site, site_at}
use Rattle.vc_compile_plan.specs.Procedures.{Action, action_at}
use Rattle.vc_compile_plan.specs.Rules.{Demand, constraint_site, demand_at, in_net, last, line}
use Rattle.vc_compile_plan.specs.Shown.{operations_in}
use Rattle.vc_compile_plan.specs.Slots.{bill_of, slots_of}
use Rattle.vc_compile_plan.specs.Terms.{term_at}
use Rattle.vc_compile_plan.specs.Trees as trees
use Rattle.vc_compile_plan.specs.Tuples.{matches}
use Rattle.vc_compile_plan.specs.Uses.{is_active, is_used}
use Rattle.vc_compile_valid.proofs.EachLaws.{Each}

-- which tree of the model it is: a dependency that is used, or what a line or an operation counts
pub record IsQuantity (model : Model) (tree : syntax.Dependency) : Type 0 where
  pub object : ℕ
  pub place : ℕ
  pub item : BillItem
  pub listed : slice_get (bill_of model object) place ≡ Some item
  pub counts : tree ≡ syntax.Counts (syntax.term_of item.quantity.value)

pub record IsTime (model : Model) (tree : syntax.Dependency) : Type 0 where
  pub object : ℕ
  pub place : ℕ
  pub operation : parts.Operation
  pub listed : slice_get (operations_in (slice_get model.objects object)) place ≡ Some operation
  pub counts : tree ≡ syntax.Counts (syntax.term_of operation.time.value)

abbrev pub IsDependency : Model → syntax.Dependency → Type 0
IsDependency model tree = (d : ℕ) × (tree_of model d ≡ Some tree) × (is_used (layout_of model) d ≡ true)

abbrev pub IsTreeOf : Model → syntax.Dependency → Type 0
IsTreeOf model tree = IsDependency model tree ⊎ (IsQuantity model tree ⊎ IsTime model tree)

-- a tree that stands without a fault at a slot's place, which is no constraint's
pub record StandsAt (model : Model) (i : ℕ) (slot : Slot) (place : At) (tree : syntax.Dependency) : Type 0 where
  pub there : slice_get (slots_of model) i ≡ Some slot
  pub apart : is_constraint place ≡ false
  pub sound : fault_of model (place_at (layout_of model) slot place) tree ≡ None
  pub setting : setting_of model (place_at (layout_of model) slot place) tree
      ≡ (site_at (layout_of model) i slot place).setting
  pub acts : is_procedure tree ≡ true → place ≡ at.Procedure
  pub origin : IsTreeOf model tree

-- a constraint that stands without a fault in a net, at a tuple that matches
pub record StandsIn (model : Model) (constraint : syntax.Constraint) (tuple : List ℕ) : Type 0 where
  pub d : ℕ
  pub active : is_active (layout_of model) d ≡ true
  pub tree : tree_of model d ≡ Some (syntax.Constrains constraint)
  pub sound : fault_of model in_net (syntax.Constrains constraint) ≡ None
  pub matching : matches (layout_of model) constraint tuple ≡ true
  pub size : length tuple ≡ length constraint.objects
  pub slots : Each (λ i. nat_lt i (length (slots_of model)) ≡ true) tuple

-- what holds of all conditions of a plan, as it holds where they stand
pub record HoldsOfConditions (Q : trees.Condition → Type 0) (model : Model) : Type 0 where
  pub always : Q trees.Always
  pub parts : (c d : trees.Condition) → Q (trees.And c d) → Q c × Q d
  pub whole : (c d : trees.Condition) → Q c → Q d → Q (trees.And c d)
  pub at_slot : (i : ℕ) (slot : Slot) (at : At) (tree : syntax.Dependency) → StandsAt model i slot at tree
      → Each (λ c. Q (condition_at (layout_of model) (site_at (layout_of model) i slot at) c)) (conditions_in tree)
  pub at_tuple : (constraint : syntax.Constraint) (tuple : List ℕ) → StandsIn model constraint tuple
      → Each (λ c. Q (condition_at (layout_of model) (constraint_site (layout_of model) constraint tuple) c))
      (conditions_in (syntax.Constrains constraint))

-- of all terms
pub record HoldsOfTerms (P : trees.Term → Type 0) (model : Model) : Type 0 where
  pub at_slot : (i : ℕ) (slot : Slot) (at : At) (tree : syntax.Dependency) → StandsAt model i slot at tree
      → Each (λ t. P (term_at (layout_of model) (site_at (layout_of model) i slot at) t))
      (own_terms tree ++ flat_map values_in (calls_in tree))
  pub at_tuple : (constraint : syntax.Constraint) (tuple : List ℕ) → StandsIn model constraint tuple
      → Each (λ t. P (term_at (layout_of model) (constraint_site (layout_of model) constraint tuple) t))
      (flat_map sides_of (demanded_relations (syntax.Constrains constraint)))

-- of what each rule demands
pub record HoldsOfDemands (K : Demand → Type 0) (model : Model) : Type 0 where
  pub at_tuple : (constraint : syntax.Constraint) (tuple : List ℕ) → StandsIn model constraint tuple
      → Each (λ r. K (demand_at (layout_of model) (constraint_site (layout_of model) constraint tuple) r.demand))
      constraint.restrictions
  pub of_var : (v : ℕ) → nat_lt v (length (layout_of model).vars) ≡ true → K (last v)
  pub of_slot : (i : ℕ) → nat_lt i (length (slots_of model)) ≡ true → K (line i)

-- and of what each statement does
pub record HoldsOfActions (A : Action → Type 0) (model : Model) : Type 0 where
  pub at_slot : (i : ℕ) (slot : Slot) (statements : List syntax.Statement)
      → StandsAt model i slot at.Procedure (syntax.Procedure statements)
      → Each (λ s. A (action_at (layout_of model) (procedure_site (layout_of model) i slot) s.action)) statements
