-- A compiled term is no larger than the typing reckons, and each of its steps stays within the limit.
use Rattle.std.proofs.Common.{◌≡◌, ℕ, ◌+◌, ◌*◌, ◌/◌, ◌^◌, ◌≤◌, ◌<◌, Bool, true, false, not, ◌&&◌, ◌||◌, List, Option}
use Rattle.std.proofs.Common.{Some, None, refl, sym, ap, ◌∙◌, arith, subst, unsigned_abs}
use Rattle.std.specs.Prelude.{◌==◌, nat_le, slice_get}
use Rattle.std.proofs.Math.Nat.{div-mul-le_self, mul-le-mul}
use Rattle.std.proofs.lemmas.Bool.{and_from, and_parts, eqb-true, le-leb, leb-true, ltb-true, or_parts}
use Rattle.std.proofs.lemmas.List.Folds.{find_at}
use Rattle.std.proofs.lemmas.Nat.{le-div}
use Rattle.vc_value.specs.declared.value.Value.TheVariants as values
use Rattle.vc_model_parts.specs.declared.parts.Model.{Model}
use Rattle.vc_plan.specs.Domains as plans
use Rattle.vc_value.specs.Millionths as millionths
use Rattle.vc_plan.specs.Ranges.{term_there}
use Rattle.vc_plan.specs.Sizes.{applied_size, domain_size, is_small, joined_load, joined_size, size_limit, term_size}
use Rattle.vc_plan.specs.Sizes.{value_size}
use Rattle.vc_plan.specs.declared.plans.Plan.{Plan}
use Rattle.vc_plan.specs.declared.plans.Var.{Var}
use Rattle.vc_plan.specs.declared.terms.Function.{Function}
use Rattle.vc_plan.specs.declared.terms.Function.TheVariants as functions
use Rattle.vc_plan.specs.declared.terms.Operator.{Operator}
use Rattle.vc_plan.specs.declared.terms.Term.{Term as StoredTerm}
use Rattle.vc_plan.specs.declared.terms.Term.TheVariants as terms
use Rattle.vc_syntax_tree.specs.declared.Function.{Function as NamedFunction}
use Rattle.vc_syntax_tree.specs.declared.Function.TheVariants as named_functions
use Rattle.vc_syntax_tree.specs.declared.Operand.{Operand as Name}
use Rattle.vc_syntax_tree.specs.declared.Operator.{Operator as NamedOperator}
use Rattle.vc_syntax_tree.specs.declared.Operator.TheVariants as named_operators
use Rattle.vc_syntax_tree.specs.Trees as syntax
use Rattle.vc_table.specs.declared.table.VariantTable.{VariantTable}
use Rattle.vc_types.specs.Occurrences.{operands_of}
use Rattle.vc_types.specs.RangeFaults as ranges
use Rattle.vc_types.specs.Settings.{meaning}
use Rattle.vc_types.specs.declared.meaning.Meaning.TheVariants as meanings
use Rattle.vc_compile_plan.specs.Cuts.{all_marks, cuts_at}
use Rattle.vc_compile_plan.specs.Layouts.{layout_of}
use Rattle.vc_compile_plan.specs.PlanOf.{IsPlanOf}
use Rattle.vc_compile_plan.specs.Sites.{Site, characteristic_in, characteristic_meant, slot_meant, var_meant}
use Rattle.vc_compile_plan.specs.Slots.{slots_of}
use Rattle.vc_compile_plan.specs.Terms.{function_of, minus, minus_literal, operator_of, term_at}
use Rattle.vc_compile_plan.specs.Trees as trees
use Rattle.vc_compile_plan.specs.Variables.{vars_of}
use Rattle.vc_compile_valid.specs.Domains.{HasLists}
use Rattle.vc_compile_valid.proofs.DomainLaws as listed
use Rattle.vc_compile_valid.proofs.EachLaws.{Each}
use Rattle.vc_compile_meant.proofs.ColumnLaws.{found_passes}
use Rattle.vc_compile_meant.proofs.FaultLaws.{each_split}
use Rattle.vc_compile_origins.proofs.SignLaws.{minus_size}
use Rattle.vc_compile_sizes.proofs.ListSizeLaws.{domain_within}

-- the size of a compiled term's number
abbrev pub tree_size : Plan → trees.Term → ℕ
tree_size plan (trees.Literal a) = value_size a
tree_size plan (trees.Read v) = domain_size (plans.domain_of plan (slice_get plan.vars v))
tree_size plan (trees.PartSum slot c) = 10 ^ 27
tree_size plan (trees.PartCount slot) = 10 ^ 27
tree_size plan (trees.Applied function a) = applied_size function (tree_size plan a)
tree_size plan (trees.Joined operator a b) = joined_size operator (tree_size plan a) (tree_size plan b)

pub size_same : (plan : Plan) (t : StoredTerm) → term_size plan t ≡ tree_size plan (trees.term_of t)
size_same plan (terms.Literal a) = refl
size_same plan (terms.Read v) = refl
size_same plan (terms.PartSum slot c) = refl
size_same plan (terms.PartCount slot) = refl
size_same plan (terms.Applied' function p a) = ap (applied_size function) (size_same plan a)
size_same plan (terms.Joined' operator p a q b) =
    ap (λ m. joined_size operator m (term_size plan b)) (size_same plan a)
    ∙ ap (joined_size operator (tree_size plan (trees.term_of a))) (size_same plan b)

-- whether each step stays within the limit; a minus is no step, as the typing reckons
abbrev pub function_within : Function → ℕ → Bool
function_within functions.Negative n = true
function_within functions.Abs n = nat_le (applied_size functions.Abs n) size_limit
function_within functions.Sign n = nat_le (applied_size functions.Sign n) size_limit
function_within functions.Trunc n = nat_le (applied_size functions.Trunc n) size_limit
function_within functions.Floor n = nat_le (applied_size functions.Floor n) size_limit
function_within functions.Ceil n = nat_le (applied_size functions.Ceil n) size_limit
function_within functions.Frac n = nat_le (applied_size functions.Frac n) size_limit

abbrev pub operator_within : Operator → ℕ → ℕ → Bool
operator_within operator m n = nat_le (joined_load operator m n) size_limit
    && nat_le (joined_size operator m n) size_limit

abbrev pub tree_within : Plan → trees.Term → Bool
tree_within plan (trees.Literal a) = true
tree_within plan (trees.Read v) = true
tree_within plan (trees.PartSum slot c) = true
tree_within plan (trees.PartCount slot) = true
tree_within plan (trees.Applied function a) = function_within function (tree_size plan a) && tree_within plan a
tree_within plan (trees.Joined operator a b) =
    operator_within operator (tree_size plan a) (tree_size plan b) && (tree_within plan a && tree_within plan b)

-- a minus keeps within the limit too, where what it stands before is there
pub record HasStoredVars (plan : Plan) : Type 0 where
  pub stored : (v : ℕ) → domain_size (plans.domain_of plan (slice_get plan.vars v)) ≤ size_limit

pub term_within : (plan : Plan) → HasStoredVars plan → (t : StoredTerm) → term_there plan t ≡ true
    → tree_within plan (trees.term_of t) ≡ true → term_size plan t ≤ size_limit
term_within plan vars (terms.Literal (values.Text a)) there h = omega arith
term_within plan vars (terms.Literal (values.Num a)) there h =
    let few = ltb-true (unsigned_abs a.millionths) (10 ^ 15) there in omega (arith, few)
term_within plan vars (terms.Read v) there h = vars.stored v
term_within plan vars (terms.PartSum slot c) there h = omega arith
term_within plan vars (terms.PartCount slot) there h = omega arith
term_within plan vars (terms.Applied' function p a) there h =
    let parts
    = and_parts (function_within function (tree_size plan (trees.term_of a))) (tree_within plan (trees.term_of a))
    h in
    subst (λ n. applied_size function n ≤ size_limit) (sym (size_same plan a))
    (by function (tree_size plan (trees.term_of a)) parts.0
    (subst (λ n. n ≤ size_limit) (size_same plan a) (term_within plan vars a there parts.1)))
  where
    by : (f : Function) (n : ℕ) → function_within f n ≡ true → n ≤ size_limit → applied_size f n ≤ size_limit
    by functions.Negative n k small = small
    by functions.Abs n k small = leb-true (applied_size functions.Abs n) size_limit k
    by functions.Sign n k small = leb-true (applied_size functions.Sign n) size_limit k
    by functions.Trunc n k small = leb-true (applied_size functions.Trunc n) size_limit k
    by functions.Floor n k small = leb-true (applied_size functions.Floor n) size_limit k
    by functions.Ceil n k small = leb-true (applied_size functions.Ceil n) size_limit k
    by functions.Frac n k small = leb-true (applied_size functions.Frac n) size_limit k
term_within plan vars (terms.Joined' operator p a q b) there h =
    let m = tree_size plan (trees.term_of a) in
    let n = tree_size plan (trees.term_of b) in
    let parts
    = and_parts (operator_within operator m n)
    (tree_within plan (trees.term_of a) && tree_within plan (trees.term_of b)) h in
    let sizes
    = and_parts (nat_le (joined_load operator m n) size_limit) (nat_le (joined_size operator m n) size_limit)
    parts.0 in
    subst (λ k. k ≤ size_limit) (sym (size_same plan (terms.Joined' operator p a q b)))
    (leb-true (joined_size operator m n) size_limit sizes.1)

pub term_small : (plan : Plan) → HasStoredVars plan → (t : StoredTerm) → term_there plan t ≡ true
    → tree_within plan (trees.term_of t) ≡ true → is_small plan t ≡ true
term_small plan vars (terms.Literal a) there h = refl
term_small plan vars (terms.Read v) there h = refl
term_small plan vars (terms.PartSum slot c) there h = refl
term_small plan vars (terms.PartCount slot) there h = refl
term_small plan vars (terms.Applied' function p a) there h =
    let parts
    = and_parts (function_within function (tree_size plan (trees.term_of a))) (tree_within plan (trees.term_of a))
    h in
    and_from (nat_le (applied_size function (term_size plan a)) size_limit) (is_small plan a)
    (le-leb (applied_size function (term_size plan a)) size_limit
    (term_within plan vars (terms.Applied' function p a) there h))
    (term_small plan vars a there parts.1)
term_small plan vars (terms.Joined' operator p a q b) there h =
    let m = tree_size plan (trees.term_of a) in
    let n = tree_size plan (trees.term_of b) in
    let parts
    = and_parts (operator_within operator m n)
    (tree_within plan (trees.term_of a) && tree_within plan (trees.term_of b)) h in
    let both = and_parts (tree_within plan (trees.term_of a)) (tree_within plan (trees.term_of b)) parts.1 in
    let here = and_parts (term_there plan a) (term_there plan b) there in
    and_from (operator_within operator (term_size plan a) (term_size plan b)) (is_small plan a && is_small plan b)
    (ap (λ k. operator_within operator k (term_size plan b)) (size_same plan a)
    ∙ ap (operator_within operator m) (size_same plan b) ∙ parts.0)
    (and_from (is_small plan a) (is_small plan b) (term_small plan vars a here.0 both.0)
    (term_small plan vars b here.1 both.1))

-- sizes grow with what they are made of
applied_grows : (f : NamedFunction) (m n : ℕ) → m ≤ n → applied_size (function_of f) m ≤ ranges.applied_size f n
applied_grows named_functions.Abs m n h = h
applied_grows named_functions.Sign m n h = omega arith
applied_grows named_functions.Trunc m n h = h
applied_grows named_functions.Floor m n h = omega (arith, h)
applied_grows named_functions.Ceil m n h = omega (arith, h)
applied_grows named_functions.Frac m n h = omega arith

divided_grows : (m n d : ℕ) → 0 < d → m ≤ n → m / d ≤ n / d
divided_grows m n d some h =
    let low = div-mul-le_self m d in le-div (m / d) n d some (omega (arith, low, h))

load_grows : (o : NamedOperator) (a b m n : ℕ) → a ≤ m → b ≤ n
    → joined_load (operator_of o) a b ≤ ranges.combined_load o m n
load_grows named_operators.Plus a b m n h k = omega (arith, h, k)
load_grows named_operators.Minus a b m n h k = omega (arith, h, k)
load_grows named_operators.Times a b m n h k = mul-le-mul h k
load_grows named_operators.Over a b m n h k = omega (arith, h)

joined_grows : (o : NamedOperator) (a b m n : ℕ) → a ≤ m → b ≤ n
    → joined_size (operator_of o) a b ≤ ranges.combined_size o m n
joined_grows named_operators.Plus a b m n h k = omega (arith, h, k)
joined_grows named_operators.Minus a b m n h k = omega (arith, h, k)
joined_grows named_operators.Times a b m n h k =
    let less = divided_grows (a * b) (m * n) millionths.one (omega arith) (mul-le-mul h k) in omega (arith, less)
joined_grows named_operators.Over a b m n h k = omega (arith, h)

-- what is no fault is within
fits : (m n : ℕ) → m ≤ n → ranges.is_too_large n ≡ false → nat_le m size_limit ≡ true
fits m n h small = by (nat_le n ranges.size_limit) refl small
  where
    by : (b : Bool) → nat_le n ranges.size_limit ≡ b → not b ≡ false → nat_le m size_limit ≡ true
    by true e k = let top = leb-true n ranges.size_limit e in le-leb m size_limit (omega (arith, h, top))
    by false e k = absurd (cc)

function_fits : (f : NamedFunction) (m n : ℕ) → m ≤ n → ranges.is_too_large (ranges.applied_size f n) ≡ false
    → function_within (function_of f) m ≡ true
function_fits named_functions.Abs m n h k = fits m n h k
function_fits named_functions.Sign m n h k = refl
function_fits named_functions.Trunc m n h k = fits m n h k
function_fits named_functions.Floor m n h k =
    fits (m + millionths.one) (n + millionths.one) (applied_grows named_functions.Floor m n h) k
function_fits named_functions.Ceil m n h k =
    fits (m + millionths.one) (n + millionths.one) (applied_grows named_functions.Ceil m n h) k
function_fits named_functions.Frac m n h k = refl

-- an operand that means a characteristic
pub record IsKnown (site : Site) (operand : Name) : Type 0 where
  pub c : ℕ
  pub means : meaning site.setting operand ≡ meanings.Characteristic c

-- a variable that is there is of the characteristic that is meant
pub var_meant_is : (model : Model) (site : Site) (operand : Name) (x : Var)
    → slice_get (vars_of model (slots_of model)) (var_meant (layout_of model) site operand) ≡ Some x
    → x.characteristic ≡ characteristic_meant site operand
var_meant_is model site operand x e =
    let i = slot_meant site operand in
    let c = characteristic_meant site operand in
    let test : Var → Bool = λ y. (y.slot == i) && (y.characteristic == c) in
    eqb-true x.characteristic c
    (and_parts (x.slot == i) (x.characteristic == c)
    (found_passes test (vars_of model (slots_of model)) x (find_at test (vars_of model (slots_of model)) ∙ e))).1

read_size : (model : Model) (tables : List VariantTable) (plan : Plan) → IsPlanOf model tables plan → HasLists plan
    → (site : Site)
    → site.setting.model ≡ model → (operand : Name) → IsKnown site operand
    → tree_size plan (trees.Read (var_meant (layout_of model) site operand)) ≤ ranges.size_meant site.setting.model
    (meaning site.setting operand)
read_size model tables plan is lists site of operand known = by (slice_get plan.vars v) refl
  where
    v : ℕ
    v = var_meant (layout_of model) site operand

    by : (o : Option Var) → slice_get plan.vars v ≡ o
        → domain_size (plans.domain_of plan o) ≤ ranges.size_meant site.setting.model (meaning site.setting operand)
    by None e = omega arith
    by (Some x) e =
        let var = listed.var_is model tables plan is lists v x e in
        let own
        = var_meant_is model site operand x (ap (λ xs. slice_get xs v) (sym is.vars) ∙ e)
        ∙ ap characteristic_in known.means in
        let size : ranges.size_meant site.setting.model (meaning site.setting operand)
        ≡ ranges.size_of_values var.known.x.values =
        ap (ranges.size_meant site.setting.model) known.means
        ∙ ap (λ m. ranges.size_in (slice_get m.characteristics known.c)) of
        ∙ ap (λ c. ranges.size_in (slice_get model.characteristics c)) (sym own)
        ∙ ap ranges.size_in var.known.at in
        subst (λ n. domain_size (slice_get plan.domains x.domain) ≤ n) (sym size)
        (subst (λ d. domain_size d ≤ ranges.size_of_values var.known.x.values) (sym var.domain)
        (domain_within (cuts_at (all_marks (layout_of model) tables) (0 + x.characteristic)) var.known.x.values))

-- a term without a fault of range
pub record IsWithin (plan : Plan) (compiled : trees.Term) (most : ℕ) : Type 0 where
  pub size : tree_size plan compiled ≤ most
  pub steps : tree_within plan compiled ≡ true

pub within_at : (model : Model) (tables : List VariantTable) (plan : Plan) → IsPlanOf model tables plan → HasLists plan
    → (site : Site)
    → site.setting.model ≡ model → (t : syntax.Term) → ranges.gets_too_large site.setting t ≡ false
    → Each (IsKnown site) (operands_of t)
    → IsWithin plan (term_at (layout_of model) site t) (ranges.size_of site.setting t)
within_at model tables plan is lists site of (syntax.Number leaf) h known = record { size = omega arith; steps = refl }
within_at model tables plan is lists site of (syntax.Text leaf) h known = record { size = omega arith; steps = refl }
within_at model tables plan is lists site of (syntax.Operand operand) h known =
    record { size = read_size model tables plan is lists site of operand known.0; steps = refl }
within_at model tables plan is lists site of (syntax.Negated t) h known =
    by t (within_at model tables plan is lists site of t h known)
  where
    kept : (u : syntax.Term) → minus_literal u ≡ None
        → IsWithin plan (term_at (layout_of model) site u) (ranges.size_of site.setting u)
        → IsWithin plan (minus (minus_literal u) (term_at (layout_of model) site u)) (ranges.size_of site.setting u)
    kept u none w =
        subst (λ o. IsWithin plan (minus o (term_at (layout_of model) site u)) (ranges.size_of site.setting u))
        (sym none)
        (record { size = w.size; steps = w.steps })

    by : (u : syntax.Term) → IsWithin plan (term_at (layout_of model) site u) (ranges.size_of site.setting u)
        → IsWithin plan (minus (minus_literal u) (term_at (layout_of model) site u)) (ranges.size_of site.setting u)
    by (syntax.Number leaf) w = let same = minus_size leaf.number.millionths in
        record { size = omega (arith, same); steps = refl }
    by (syntax.Text leaf) w = kept (syntax.Text leaf) refl w
    by (syntax.Operand operand) w = kept (syntax.Operand operand) refl w
    by (syntax.Negated u) w = kept (syntax.Negated u) refl w
    by (syntax.Combined left operator right) w = kept (syntax.Combined left operator right) refl w
    by (syntax.Applied function u) w = kept (syntax.Applied function u) refl w
    by (syntax.SumOfParts name) w = kept (syntax.SumOfParts name) refl w
    by syntax.CountOfParts w = kept syntax.CountOfParts refl w
within_at model tables plan is lists site of (syntax.Combined left operator right) h known =
    let m = ranges.size_of site.setting left in
    let n = ranges.size_of site.setting right in
    let parts
    = or_parts (ranges.is_too_large (ranges.combined_load operator m n)
    || ranges.is_too_large (ranges.combined_size operator m n))
    (ranges.gets_too_large site.setting left || ranges.gets_too_large site.setting right) h in
    let own
    = or_parts (ranges.is_too_large (ranges.combined_load operator m n))
    (ranges.is_too_large (ranges.combined_size operator m n)) parts.0 in
    let sides = or_parts (ranges.gets_too_large site.setting left) (ranges.gets_too_large site.setting right) parts.1 in
    let both = each_split (IsKnown site) (operands_of left) (operands_of right) known in
    let a = within_at model tables plan is lists site of left sides.0 both.0 in
    let b = within_at model tables plan is lists site of right sides.1 both.1 in
    let first = term_at (layout_of model) site left in
    let second = term_at (layout_of model) site right in
    let load = load_grows operator (tree_size plan first) (tree_size plan second) m n a.size b.size in
    let whole = joined_grows operator (tree_size plan first) (tree_size plan second) m n a.size b.size in
    record {
      size = whole;
      steps = and_from (operator_within (operator_of operator) (tree_size plan first) (tree_size plan second))
          (tree_within plan first && tree_within plan second)
          (and_from (nat_le (joined_load (operator_of operator) (tree_size plan first) (tree_size plan second))
          size_limit)
          (nat_le (joined_size (operator_of operator) (tree_size plan first) (tree_size plan second)) size_limit)
          (fits (joined_load (operator_of operator) (tree_size plan first) (tree_size plan second))
          (ranges.combined_load operator m n) load own.0)
          (fits (joined_size (operator_of operator) (tree_size plan first) (tree_size plan second))
          (ranges.combined_size operator m n) whole own.1))
          (and_from (tree_within plan first) (tree_within plan second) a.steps b.steps);
    }
within_at model tables plan is lists site of (syntax.Applied function t) h known =
    let n = ranges.size_of site.setting t in
    let parts
    = or_parts (ranges.is_too_large (ranges.applied_size function n)) (ranges.gets_too_large site.setting t) h in
    let a = within_at model tables plan is lists site of t parts.1 known in
    let compiled = term_at (layout_of model) site t in
    record {
      size = applied_grows function (tree_size plan compiled) n a.size;
      steps = and_from (function_within (function_of function) (tree_size plan compiled)) (tree_within plan compiled)
          (function_fits function (tree_size plan compiled) n a.size parts.0) a.steps;
    }
within_at model tables plan is lists site of (syntax.SumOfParts name) h known =
    record { size = omega arith; steps = refl }
within_at model tables plan is lists site of syntax.CountOfParts h known = record { size = omega arith; steps = refl }
