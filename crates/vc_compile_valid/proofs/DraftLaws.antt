-- What drafts of rules are: those of constraints, of variables and of slots.
use Rattle.std.proofs.Common.{◌≡◌, ℕ, suc, ◌<◌, Bool, true, false, not, ◌&&◌, ◌||◌, List, [], ◌∷◌, length, map}
use Rattle.std.proofs.Common.{Option, Some, None, refl, arith}
use Rattle.std.proofs.lemmas.Bool.{and_left, and_right, not_from_false, or_from}
use Rattle.vc_value.specs.declared.value.Value.{Value}
use Rattle.vc_syntax_tree.specs.declared.Operand.{Operand as OperandLeaf}
use Rattle.vc_syntax_tree.specs.declared.Relator.{Relator}
use Rattle.vc_syntax_tree.specs.declared.Relator.TheVariants as relators
use Rattle.vc_syntax_tree.specs.Trees as syntax
use Rattle.vc_model_parts.specs.declared.parts.BillItem.{BillItem}
use Rattle.vc_plan.specs.Domains.{numbers_below}
use Rattle.vc_plan.specs.RuleShapes.{is_last, is_last_of, is_line_of, is_of_constraint, line_slot}
use Rattle.vc_plan.specs.declared.plans.Slot.{Slot}
use Rattle.vc_plan.specs.declared.rules.Kind.{Kind}
use Rattle.vc_compile_plan.specs.Layouts.{Layout, object_at, tree_of}
use Rattle.vc_compile_plan.specs.Numbering.{kind_from}
use Rattle.vc_compile_plan.specs.Places.{Asked, selections_among, site_at}
use Rattle.vc_compile_plan.specs.Rules.{Demand, Draft, among, by_table, compare, constraint_drafts, constraints_drafts}
use Rattle.vc_compile_plan.specs.Rules.{demand_at, drafts_of_line, drafts_of_slot, equate, last, last_drafts, line}
use Rattle.vc_compile_plan.specs.Rules.{line_draft, line_drafts, line_drafts_from, never, of_left_operand}
use Rattle.vc_compile_plan.specs.Rules.{of_right_operand, of_terms, own_draft, relation_demand, restriction_draft}
use Rattle.vc_compile_plan.specs.Rules.{restriction_drafts, slot_drafts_from}
use Rattle.vc_compile_plan.specs.Sites.{Site}
use Rattle.vc_compile_plan.specs.Slots.{bill_if}
use Rattle.vc_compile_plan.specs.Terms.{literal_of, lone_of, minus, minus_literal, term_at}
use Rattle.vc_compile_plan.specs.Trees as plan
use Rattle.vc_compile_plan.specs.Tuples.{tuples_of}
use Rattle.vc_compile_plan.specs.Uses.{active_constraints}
use Rattle.vc_compile_plan.specs.declared.standings.Standing.{Standing}
use Rattle.std.specs.Prelude.{slice_get}
use Rattle.vc_types.specs.declared.place.At.TheVariants as at
use Rattle.vc_compile_valid.proofs.EachLaws.{Each, each_flat, each_joined, each_of_all}

-- what a draft's rule is, whatever the numbers of its terms
abbrev pub kind_of : Demand → Kind
kind_of demand = kind_from 0 demand

pub constraint_same : (t : ℕ) (demand : Demand)
    → is_of_constraint (kind_from t demand) ≡ is_of_constraint (kind_of demand)
constraint_same t (among v restriction) = refl
constraint_same t (compare relation left right) = refl
constraint_same t (equate left right) = refl
constraint_same t (by_table table columns) = refl
constraint_same t never = refl
constraint_same t (last v) = refl
constraint_same t (line i) = refl

pub slot_same : (t : ℕ) (demand : Demand) → line_slot (kind_from t demand) ≡ line_slot (kind_of demand)
slot_same t (among v restriction) = refl
slot_same t (compare relation left right) = refl
slot_same t (equate left right) = refl
slot_same t (by_table table columns) = refl
slot_same t never = refl
slot_same t (last v) = refl
slot_same t (line i) = refl

pub last_same : (t : ℕ) (demand : Demand) → is_last (kind_from t demand) ≡ is_last (kind_of demand)
last_same t (among v restriction) = refl
last_same t (compare relation left right) = refl
last_same t (equate left right) = refl
last_same t (by_table table columns) = refl
last_same t never = refl
last_same t (last v) = refl
last_same t (line i) = refl

pub last_of_same : (v t : ℕ) (demand : Demand) → is_last_of v (kind_from t demand) ≡ is_last_of v (kind_of demand)
last_of_same v t (among w restriction) = refl
last_of_same v t (compare relation left right) = refl
last_of_same v t (equate left right) = refl
last_of_same v t (by_table table columns) = refl
last_of_same v t never = refl
last_of_same v t (last w) = refl
last_of_same v t (line i) = refl

pub line_of_same : (i t : ℕ) (demand : Demand) → is_line_of i (kind_from t demand) ≡ is_line_of i (kind_of demand)
line_of_same i t (among w restriction) = refl
line_of_same i t (compare relation left right) = refl
line_of_same i t (equate left right) = refl
line_of_same i t (by_table table columns) = refl
line_of_same i t never = refl
line_of_same i t (last w) = refl
line_of_same i t (line j) = refl

-- a kind of a constraint is neither a Last nor a Line
pub no_last : (v : ℕ) (demand : Demand) → is_of_constraint (kind_of demand) ≡ true
    → is_last_of v (kind_of demand) ≡ false
no_last v (among w restriction) h = refl
no_last v (compare relation left right) h = refl
no_last v (equate left right) h = refl
no_last v (by_table table columns) h = refl
no_last v never h = refl
no_last v (last w) h = absurd (cc)
no_last v (line i) h = refl

pub never_last : (demand : Demand) → is_of_constraint (kind_of demand) ≡ true → is_last (kind_of demand) ≡ false
never_last (among w restriction) h = refl
never_last (compare relation left right) h = refl
never_last (equate left right) h = refl
never_last (by_table table columns) h = refl
never_last never h = refl
never_last (last w) h = absurd (cc)
never_last (line i) h = refl

pub no_line : (i : ℕ) (demand : Demand) → is_of_constraint (kind_of demand) ≡ true
    → is_line_of i (kind_of demand) ≡ false
no_line i (among w restriction) h = refl
no_line i (compare relation left right) h = refl
no_line i (equate left right) h = refl
no_line i (by_table table columns) h = refl
no_line i never h = refl
no_line i (last w) h = refl
no_line i (line j) h = absurd (cc)

pub no_slot : (demand : Demand) → is_of_constraint (kind_of demand) ≡ true → line_slot (kind_of demand) ≡ None
no_slot (among w restriction) h = refl
no_slot (compare relation left right) h = refl
no_slot (equate left right) h = refl
no_slot (by_table table columns) h = refl
no_slot never h = refl
no_slot (last w) h = refl
no_slot (line j) h = absurd (cc)

-- what a constraint demands is of a constraint
terms_constrain : (layout : Layout) (site : Site) (relator : Relator) (left right : syntax.Term)
    → is_of_constraint (kind_of (of_terms layout site relator left right)) ≡ true
terms_constrain layout site relators.Equal left right = refl
terms_constrain layout site relators.Unequal left right = refl
terms_constrain layout site relators.Less left right = refl
terms_constrain layout site relators.LessEqual left right = refl
terms_constrain layout site relators.Greater left right = refl
terms_constrain layout site relators.GreaterEqual left right = refl

right_constrains : (layout : Layout) (site : Site) (o : Option OperandLeaf) (a : Option Value) (relator : Relator)
    (left right : syntax.Term) → is_of_constraint (kind_of (of_right_operand layout site o a relator left right)) ≡ true
right_constrains layout site None a relator left right = terms_constrain layout site relator left right
right_constrains layout site (Some operand) None relator left right = terms_constrain layout site relator left right
right_constrains layout site (Some operand) (Some a) relator left right = refl

left_constrains : (layout : Layout) (site : Site) (o : Option OperandLeaf) (a : Option Value) (relator : Relator)
    (left right : syntax.Term) → is_of_constraint (kind_of (of_left_operand layout site o a relator left right)) ≡ true
left_constrains layout site (Some operand) (Some a) relator left right = refl
left_constrains layout site (Some operand) None relator left right = terms_constrain layout site relator left right
left_constrains layout site None a relator left right =
    right_constrains layout site (lone_of right) (literal_of layout.texts left) relator left right

relation_constrains : (layout : Layout) (site : Site) (relation : syntax.Relation)
    → is_of_constraint (kind_of (relation_demand layout site relation)) ≡ true
relation_constrains layout site (syntax.Compared left relator right) =
    left_constrains layout site (lone_of left) (literal_of layout.texts right) relator left right
relation_constrains layout site (syntax.Within operand listed) = refl

pub demand_constrains : (layout : Layout) (site : Site) (demand : syntax.Demand)
    → is_of_constraint (kind_of (demand_at layout site demand)) ≡ true
demand_constrains layout site (syntax.Relates relation) = relation_constrains layout site relation
demand_constrains layout site (syntax.Holds call) = refl
demand_constrains layout site syntax.Never = refl

-- a lone variable against a literal is restricted by it, and not compared
abbrev pub is_lone : plan.Term → Bool
is_lone (plan.Literal a) = false
is_lone (plan.Read v) = true
is_lone (plan.PartSum slot c) = false
is_lone (plan.PartCount slot) = false
is_lone (plan.Applied function a) = false
is_lone (plan.Joined operator a b) = false

abbrev pub is_value : plan.Term → Bool
is_value (plan.Literal a) = true
is_value (plan.Read v) = false
is_value (plan.PartSum slot c) = false
is_value (plan.PartCount slot) = false
is_value (plan.Applied function a) = false
is_value (plan.Joined operator a b) = false

abbrev pub are_apart_terms : plan.Term → plan.Term → Bool
are_apart_terms a b = not ((is_lone a && is_value b) || (is_value a && is_lone b))

abbrev pub keeps_apart : Demand → Bool
keeps_apart (among v restriction) = true
keeps_apart (compare relation left right) = are_apart_terms left right
keeps_apart (equate left right) = are_apart_terms left right
keeps_apart (by_table table columns) = true
keeps_apart never = true
keeps_apart (last v) = true
keeps_apart (line i) = true

minus_not_lone : (a : Option Value) (term : plan.Term) → is_lone (minus a term) ≡ false
minus_not_lone None term = refl
minus_not_lone (Some a) term = refl

not_lone : (layout : Layout) (site : Site) (term : syntax.Term) → lone_of term ≡ None
    → is_lone (term_at layout site term) ≡ false
not_lone layout site (syntax.Number leaf) h = refl
not_lone layout site (syntax.Text leaf) h = refl
not_lone layout site (syntax.Operand operand) h = absurd (cc)
not_lone layout site (syntax.Negated term) h = minus_not_lone (minus_literal term) (term_at layout site term)
not_lone layout site (syntax.Combined left operator right) h = refl
not_lone layout site (syntax.Applied function term) h = refl
not_lone layout site (syntax.SumOfParts name) h = refl
not_lone layout site syntax.CountOfParts h = refl

lone_no_value : (layout : Layout) (site : Site) (term : syntax.Term) (operand : OperandLeaf)
    → lone_of term ≡ Some operand
    → is_value (term_at layout site term) ≡ false
lone_no_value layout site (syntax.Number leaf) operand h = absurd (cc)
lone_no_value layout site (syntax.Text leaf) operand h = absurd (cc)
lone_no_value layout site (syntax.Operand o) operand h = refl
lone_no_value layout site (syntax.Negated term) operand h = absurd (cc)
lone_no_value layout site (syntax.Combined left operator right) operand h = absurd (cc)
lone_no_value layout site (syntax.Applied function term) operand h = absurd (cc)
lone_no_value layout site (syntax.SumOfParts name) operand h = absurd (cc)
lone_no_value layout site syntax.CountOfParts operand h = absurd (cc)

minus_no_value : (a : Option Value) (term : plan.Term) → a ≡ None → is_value (minus a term) ≡ false
minus_no_value None term h = refl
minus_no_value (Some a) term h = absurd (cc)

no_value : (layout : Layout) (site : Site) (term : syntax.Term) → literal_of layout.texts term ≡ None
    → is_value (term_at layout site term) ≡ false
no_value layout site (syntax.Number leaf) h = absurd (cc)
no_value layout site (syntax.Text leaf) h = absurd (cc)
no_value layout site (syntax.Operand operand) h = refl
no_value layout site (syntax.Negated term) h = minus_no_value (minus_literal term) (term_at layout site term) h
no_value layout site (syntax.Combined left operator right) h = refl
no_value layout site (syntax.Applied function term) h = refl
no_value layout site (syntax.SumOfParts name) h = refl
no_value layout site syntax.CountOfParts h = refl

apart_if : (a b c d : Bool) → (a && b) ≡ false → (c && d) ≡ false → not ((a && b) || (c && d)) ≡ true
apart_if a b c d h k = not_from_false ((a && b) || (c && d)) (or_from (a && b) (c && d) h k)

terms_kept : (layout : Layout) (site : Site) (relator : Relator) (left right : syntax.Term)
    → are_apart_terms (term_at layout site left) (term_at layout site right) ≡ true
    → keeps_apart (of_terms layout site relator left right) ≡ true
terms_kept layout site relators.Equal left right h = h
terms_kept layout site relators.Unequal left right h = h
terms_kept layout site relators.Less left right h = h
terms_kept layout site relators.LessEqual left right h = h
terms_kept layout site relators.Greater left right h = h
terms_kept layout site relators.GreaterEqual left right h = h

-- the sides are no lone operand and literal if each of both ways fails
apart_terms : (layout : Layout) (site : Site) (left right : syntax.Term)
    → (is_lone (term_at layout site left) && is_value (term_at layout site right)) ≡ false
    → (is_value (term_at layout site left) && is_lone (term_at layout site right)) ≡ false
    → are_apart_terms (term_at layout site left) (term_at layout site right) ≡ true
apart_terms layout site left right h k =
    apart_if (is_lone (term_at layout site left)) (is_value (term_at layout site right))
    (is_value (term_at layout site left))
    (is_lone (term_at layout site right)) h k

right_kept : (layout : Layout) (site : Site) (relator : Relator) (left right : syntax.Term) → lone_of left ≡ None
    → (o : Option OperandLeaf) → lone_of right ≡ o → (a : Option Value) → literal_of layout.texts left ≡ a
    → keeps_apart (of_right_operand layout site o a relator left right) ≡ true
right_kept layout site relator left right none None is a literal =
    terms_kept layout site relator left right (apart_terms layout site left right
    (and_left (is_lone (term_at layout site left)) (is_value (term_at layout site right))
    (not_lone layout site left none))
    (and_right (is_value (term_at layout site left)) (is_lone (term_at layout site right))
    (not_lone layout site right is)))
right_kept layout site relator left right none (Some operand) is None literal =
    terms_kept layout site relator left right (apart_terms layout site left right
    (and_left (is_lone (term_at layout site left)) (is_value (term_at layout site right))
    (not_lone layout site left none))
    (and_left (is_value (term_at layout site left)) (is_lone (term_at layout site right))
    (no_value layout site left literal)))
right_kept layout site relator left right none (Some operand) is (Some a) literal = refl

left_kept : (layout : Layout) (site : Site) (relator : Relator) (left right : syntax.Term) (o : Option OperandLeaf)
    → lone_of left ≡ o → (a : Option Value) → literal_of layout.texts right ≡ a
    → keeps_apart (of_left_operand layout site o a relator left right) ≡ true
left_kept layout site relator left right (Some operand) is (Some a) literal = refl
left_kept layout site relator left right (Some operand) is None literal =
    terms_kept layout site relator left right (apart_terms layout site left right
    (and_right (is_lone (term_at layout site left)) (is_value (term_at layout site right))
    (no_value layout site right literal))
    (and_left (is_value (term_at layout site left)) (is_lone (term_at layout site right))
    (lone_no_value layout site left operand is)))
left_kept layout site relator left right None is a literal =
    right_kept layout site relator left right is (lone_of right) refl (literal_of layout.texts left) refl

pub demand_kept : (layout : Layout) (site : Site) (demand : syntax.Demand)
    → keeps_apart (demand_at layout site demand) ≡ true
demand_kept layout site (syntax.Relates (syntax.Compared left relator right)) =
    left_kept layout site relator left right (lone_of left) refl (literal_of layout.texts right) refl
demand_kept layout site (syntax.Relates (syntax.Within operand listed)) = refl
demand_kept layout site (syntax.Holds call) = refl
demand_kept layout site syntax.Never = refl

-- each draft of a constraint is that of a restriction at a tuple
pub each_restriction : (P : Draft → Type 0) (layout : Layout) (d : ℕ) (constraint : syntax.Constraint) (tuple : List ℕ)
    → ((number : ℕ) (restriction : syntax.Restriction) → 0 < number
    → P (restriction_draft layout d constraint tuple number restriction))
    → (number : ℕ) → 0 < number → (restrictions : List syntax.Restriction)
    → Each P (restriction_drafts layout d constraint tuple number restrictions)
each_restriction P layout d constraint tuple of number some [] = tt
each_restriction P layout d constraint tuple of number some (restriction ∷ restrictions) = (
  of number restriction some,
  each_restriction P layout d constraint tuple of (suc number) (omega arith)
      restrictions,
)

abbrev pub OfRestrictions : (Draft → Type 0) → Layout → Type 0
OfRestrictions P layout =
    (d : ℕ) (constraint : syntax.Constraint) (tuple : List ℕ) (number : ℕ) (restriction : syntax.Restriction)
    → 0 < number
    → P (restriction_draft layout d constraint tuple number restriction)

pub each_of_tree : (P : Draft → Type 0) (layout : Layout) → OfRestrictions P layout
    → (d : ℕ) (tree : Option syntax.Dependency)
    → Each P (constraint_drafts layout d tree)
each_of_tree P layout of d None = tt
each_of_tree P layout of d (Some (syntax.Precondition condition)) = tt
each_of_tree P layout of d (Some (syntax.Selection condition)) = tt
each_of_tree P layout of d (Some (syntax.Procedure statements)) = tt
each_of_tree P layout of d (Some (syntax.Counts term)) = tt
each_of_tree P layout of d (Some (syntax.Constrains constraint)) =
    each_flat P (λ tuple. restriction_drafts layout d constraint tuple 1 constraint.restrictions)
    (tuples_of layout constraint)
    (each_of_all (λ tuple. Each P (restriction_drafts layout d constraint tuple 1 constraint.restrictions))
    (λ tuple. each_restriction P layout d constraint tuple (of d constraint tuple) 1 (omega arith)
    constraint.restrictions)
    (tuples_of layout constraint))

pub each_constraint : (P : Draft → Type 0) (layout : Layout) → OfRestrictions P layout
    → Each P (constraints_drafts layout)
each_constraint P layout of =
    each_flat P (λ d. constraint_drafts layout d (tree_of layout.model d)) (active_constraints layout)
    (each_of_all (λ d. Each P (constraint_drafts layout d (tree_of layout.model d)))
    (λ d. each_of_tree P layout of d (tree_of layout.model d)) (active_constraints layout))

pub each_last : (P : Draft → Type 0) (layout : Layout) → ((v : ℕ) → P (own_draft (last v)))
    → Each P (last_drafts layout)
each_last P layout of = all (numbers_below (length layout.vars))
  where
    all : (vs : List ℕ) → Each P (map (λ v. own_draft (last v)) vs)
    all [] = tt
    all (v ∷ vs) = (of v, all vs)

-- each draft of a slot is a Line of it, alone or of a selection condition
abbrev pub OfSlot : (Draft → Type 0) → Layout → ℕ → Type 0
OfSlot P layout i =
    P (own_draft (line i))
    × ((site : Site) (number : ℕ) (asked : Asked) → 0 < number → P (line_draft layout site i number asked))

lines_from : (P : Draft → Type 0) (layout : Layout) (i : ℕ) → OfSlot P layout i → (site : Site) (number : ℕ)
    → 0 < number
    → (asks : List Asked) → Each P (line_drafts_from layout site i number asks)
lines_from P layout i of site number some [] = tt
lines_from P layout i of site number some (asked ∷ more) =
    (of.1 site number asked some, lines_from P layout i of site (suc number) (omega arith) more)

each_line : (P : Draft → Type 0) (layout : Layout) (i : ℕ) → OfSlot P layout i → (site : Site) (asks : List Asked)
    → Each P (line_drafts layout site i asks)
each_line P layout i of site [] = (of.0, tt)
each_line P layout i of site (asked ∷ more) = lines_from P layout i of site 1 (omega arith) (asked ∷ more)

of_line : (P : Draft → Type 0) (layout : Layout) (p i : ℕ) → OfSlot P layout i
    → (owner : Option Slot) (item : Option BillItem)
    → Each P (drafts_of_line layout p i owner item)
of_line P layout p i of None None = tt
of_line P layout p i of (Some owner) None = tt
of_line P layout p i of None (Some item) = tt
of_line P layout p i of (Some owner) (Some item) =
    each_line P layout i of (site_at layout p owner (at.Line true)) (selections_among layout.model item.uses)

pub each_of_slot : (P : Draft → Type 0) (layout : Layout) (i : ℕ) → OfSlot P layout i
    → (s : Standing) (parent : Option ℕ)
    → Each P (drafts_of_slot layout i s parent)
each_of_slot P layout i of s None = tt
each_of_slot P layout i of s (Some p) =
    of_line P layout p i of (slice_get layout.slots p) (slice_get (bill_if layout.model (object_at layout p)) s.item)

pub each_slot_draft : (P : Draft → Type 0) (layout : Layout) → ((i : ℕ) → OfSlot P layout i)
    → (i : ℕ) (standings : List Standing)
    → Each P (slot_drafts_from layout i standings)
each_slot_draft P layout of i [] = tt
each_slot_draft P layout of i (s ∷ standings) =
    each_joined P (drafts_of_slot layout i s s.parent) (slot_drafts_from layout (suc i) standings)
    (each_of_slot P layout i (of i) s s.parent) (each_slot_draft P layout of (suc i) standings)
