-- In a valid plan no step of a term is too wide, whatever reads it, where values and sums are bounded.
use Rattle.std.proofs.Common.{◌≡◌, ℕ, zero, suc, ◌^◌, ◌<◌, ◌≤◌, max, ℤ, unsigned_abs, leb, Bool, true, false, ◌&&◌}
use Rattle.std.proofs.Common.{List, [], ◌∷◌, map, refl, subst, inl, inr, arith}
use Rattle.std.specs.Prelude.{Option, None, Some, option_map, slice_get}
use Rattle.std.specs.List.{list_all}
use Rattle.std.specs.Int.Signed.{le_z}
use Rattle.std.proofs.lemmas.Bool.{and_parts, or_cases, ltb-true, leb-true}
use Rattle.std.proofs.lemmas.Int.{ints}
use Rattle.vc_value.specs.Grains as grains
use Rattle.vc_value.specs.declared.decimal.Dec.{Dec}
use Rattle.vc_value.specs.declared.grains.Grain.{Grain}
use Rattle.vc_value.specs.declared.table_header.Domain.{Domain}
use Rattle.vc_value.specs.declared.table_header.Domain.TheVariants.{Texts, Nums}
use Rattle.vc_value.specs.declared.value.Value.{Value}
use Rattle.vc_value.specs.declared.value.Value.TheVariants.{Text, Num}
use Rattle.vc_plan.specs.declared.conditions.Condition.{Condition}
use Rattle.vc_plan.specs.declared.conditions.Condition.TheVariants.{Always, Compared, IsIn, Specified, Holds, Filled}
use Rattle.vc_plan.specs.declared.conditions.Condition.TheVariants.{Not', And', Or'}
use Rattle.vc_plan.specs.declared.conditions.Piece.TheVariants.{OneText, Stretch}
use Rattle.vc_plan.specs.declared.plans.Plan.{Plan}
use Rattle.vc_plan.specs.declared.plans.Var.{Var}
use Rattle.vc_plan.specs.declared.terms.Function.{Function}
use Rattle.vc_plan.specs.declared.terms.Operator.{Operator}
use Rattle.vc_plan.specs.declared.terms.Term.{Term}
use Rattle.vc_plan.specs.declared.terms.Term.TheVariants.{Literal, Read, PartSum, PartCount, Applied', Joined'}
use Rattle.vc_plan.specs.Bounds.{greatest}
use Rattle.vc_plan.specs.Domains.{grains_in, domain_of}
use Rattle.vc_plan.specs.Numbers.{applied, joined}
use Rattle.vc_plan.specs.Pieces.{lies_in_some}
use Rattle.vc_plan.specs.Ranges.{is_stored, grain_there, domain_there, value_there, term_there, condition_there}
use Rattle.vc_plan.specs.Readings.{Reading, full_reading, net_reading}
use Rattle.vc_plan.specs.Seen.{Seen}
use Rattle.vc_plan.specs.Sizes.{grain_size, domain_size, value_size, applied_size, joined_load, joined_size, term_size}
use Rattle.vc_plan.specs.Sizes.{size_limit, is_small, condition_small}
use Rattle.vc_plan.specs.Truth.{number_in, number_of_value, number}
use Rattle.vc_plan_values.specs.Computing.{TermsFit, LiesInGrains, ArgumentFits, OperandsFit, Computes}
use Rattle.vc_plan_values.specs.Computing.{ConditionComputes}
use Rattle.vc_plan_values.proofs.SizeLemmas.{AtMost, load_within, operated_within, applied_within}

-- what is there of a list passes the test that all pass
abbrev pub PassesIf : {A : Type 0} → (A → Bool) → Option A → Type 0
PassesIf p None = Unit {0}
PassesIf p (Some x) = p x ≡ true

pub all_get : {A : Type 0} (p : A → Bool) (xs : List A) (i : ℕ) → list_all p xs ≡ true → PassesIf p (slice_get xs i)
all_get p [] i e = tt
all_get p (x ∷ xs) zero e = let h : (p x ≡ true) × (list_all p xs ≡ true) = and_parts (p x) (list_all p xs) e in h.0
all_get p (x ∷ xs) (suc i) e = let h : (p x ≡ true)
    × (list_all p xs ≡ true) = and_parts (p x) (list_all p xs) e in all_get p xs i h.1

-- the size of a number of a grain, of a list of grains, of a domain
grain_holds : (n : Dec) (grain : Grain) → grains.holds n grain ≡ true → unsigned_abs n.millionths ≤ grain_size grain
grain_holds n grain e =
    let h : (le_z grain.low.millionths n.millionths ≡ true) × (le_z n.millionths grain.high.millionths ≡ true) =
    and_parts (le_z grain.low.millionths n.millionths) (le_z n.millionths grain.high.millionths) e in
    between grain.low.millionths n.millionths grain.high.millionths h.0 h.1
  where
    between : (low z high : ℤ) → le_z low z ≡ true → le_z z high ≡ true
        → unsigned_abs z ≤ max (unsigned_abs low) (unsigned_abs high)
    between low z high p q = grind (arith, ints)

grains_hold : (n : Dec) (list : List Grain) → lies_in_some (map Stretch list) (Num n) ≡ true
    → unsigned_abs n.millionths ≤ greatest grain_size list
grains_hold n [] e = absurd (cc)
grains_hold n (grain ∷ list) e =
    elim (or_cases (grains.holds n grain) (lies_in_some (map Stretch list) (Num n)) e) [
      | inl first ↦ let h = grain_holds n grain first in omega arith
      | inr later ↦ let h = grains_hold n list later in omega arith
    ]

no_number : (n : Dec) (texts : List ℕ) → lies_in_some (map OneText texts) (Num n) ≡ false
no_number n [] = refl
no_number n (t ∷ texts) = no_number n texts

domain_holds : (a : Value) (domain : Option Domain) → lies_in_some (grains_in domain) a ≡ true
    → AtMost (number_in a) (domain_size domain)
domain_holds (Text t) domain e = tt
domain_holds (Num n) None e = absurd (cc)
domain_holds (Num n) (Some (Texts texts)) e = absurd (let none = no_number n texts in cc)
domain_holds (Num n) (Some (Nums decimals list)) e = grains_hold n list e

pub read_within : (plan : Plan) (seen : Seen) → LiesInGrains plan seen → (v : ℕ)
    → AtMost (number_of_value (seen.value v)) (domain_size (domain_of plan (slice_get plan.vars v)))
read_within plan seen lies v = by_value (seen.value v) (λ a e. lies v a e)
  where
    by_value : (o : Option Value)
        → ((a : Value) → o ≡ Some a → lies_in_some (grains_in (domain_of plan (slice_get plan.vars v))) a ≡ true)
        → AtMost (number_of_value o) (domain_size (domain_of plan (slice_get plan.vars v)))
    by_value None f = tt
    by_value (Some a) f = domain_holds a (domain_of plan (slice_get plan.vars v)) (f a refl)

-- stored numbers, and those of a domain, are small
stored_small : (n : Dec) → is_stored n ≡ true → unsigned_abs n.millionths < 10 ^ 15
stored_small n e = ltb-true (unsigned_abs n.millionths) (10 ^ 15) e

grains_small : (list : List Grain) → list_all grain_there list ≡ true → greatest grain_size list ≤ 10 ^ 15
grains_small [] e = omega arith
grains_small (grain ∷ list) e =
    let h : (grain_there grain ≡ true) × (list_all grain_there list ≡ true)
    = and_parts (grain_there grain) (list_all grain_there list) e in
    let ends : (is_stored grain.low ≡ true) × (is_stored grain.high ≡ true)
    = and_parts (is_stored grain.low) (is_stored grain.high) h.0 in
    let low = stored_small grain.low ends.0 in
    let high = stored_small grain.high ends.1 in
    let later = grains_small list h.1 in
    omega arith

domain_small : (plan : Plan) (domain : Option Domain) → PassesIf (domain_there plan) domain
    → domain_size domain ≤ 10 ^ 15
domain_small plan None e = omega arith
domain_small plan (Some (Texts texts)) e = omega arith
domain_small plan (Some (Nums decimals list)) e =
    let h : (leb decimals 6 ≡ true) × (list_all grain_there list ≡ true)
    = and_parts (leb decimals 6) (list_all grain_there list) e in
    grains_small list h.1

pub var_small : (plan : Plan) → list_all (domain_there plan) plan.domains ≡ true → (x : Option Var)
    → domain_size (domain_of plan x) ≤ 10 ^ 15
var_small plan all None = omega arith
var_small plan all (Some x) =
    domain_small plan (slice_get plan.domains x.domain) (all_get (domain_there plan) plan.domains x.domain all)

value_small : (plan : Plan) (a : Value) → value_there plan a ≡ true → value_size a ≤ size_limit
value_small plan (Text t) e = omega arith
value_small plan (Num n) e = let h = stored_small n e in omega arith

-- the size of a term that is small is small
module _ (plan : Plan) (domains : list_all (domain_there plan) plan.domains ≡ true) where
  pub size_small : (term : Term) → term_there plan term ≡ true → is_small plan term ≡ true
      → term_size plan term ≤ size_limit
  size_small (Literal a) there small = value_small plan a there
  size_small (Read v) there small =
      let few = var_small plan domains (slice_get plan.vars v) in omega (arith, few)
  size_small (PartSum slot characteristic) there small = omega arith
  size_small (PartCount slot) there small = omega arith
  size_small (Applied' function p a) there small =
      let n = applied_size function (term_size plan a) in
      let h : (leb n size_limit ≡ true) × (is_small plan a ≡ true)
      = and_parts (leb n size_limit) (is_small plan a) small in
      leb-true n size_limit h.0
  size_small (Joined' operator p a q b) there small =
      let load = joined_load operator (term_size plan a) (term_size plan b) in
      let n = joined_size operator (term_size plan a) (term_size plan b) in
      let h : ((leb load size_limit && leb n size_limit) ≡ true) × ((is_small plan a && is_small plan b) ≡ true) =
      and_parts (leb load size_limit && leb n size_limit) (is_small plan a && is_small plan b) small in
      let k : (leb load size_limit ≡ true) × (leb n size_limit ≡ true)
      = and_parts (leb load size_limit) (leb n size_limit) h.0 in
      leb-true n size_limit k.1

-- what a number of at most this size fits
pub argument_fits : (o : Option ℤ) (n : ℕ) → AtMost o n → n ≤ size_limit → ArgumentFits o
argument_fits None n s small = tt
argument_fits (Some z) n s small = omega arith

applied_if : (function : Function) (o : Option ℤ) (n : ℕ) → AtMost o n
    → AtMost (option_map (applied function) o) (applied_size function n)
applied_if function None n s = tt
applied_if function (Some z) n s = applied_within function z n s

pub operands_fit : (operator : Operator) (o p : Option ℤ) (m n : ℕ) → AtMost o m → AtMost p n
    → joined_load operator m n ≤ size_limit
    → OperandsFit operator o p
operands_fit operator None p m n s t small = tt
operands_fit operator (Some a) None m n s t small = tt
operands_fit operator (Some a) (Some b) m n s t small = let h = load_within operator a b m n s t in omega arith

pub joined_if : (operator : Operator) (o p : Option ℤ) (m n : ℕ) → AtMost o m → AtMost p n
    → AtMost (joined operator o p) (joined_size operator m n)
joined_if operator None p m n s t = tt
joined_if operator (Some a) None m n s t = tt
joined_if operator (Some a) (Some b) m n s t = operated_within operator a b m n s t

value_within : (a : Value) → AtMost (number_in a) (value_size a)
value_within (Text t) = tt
value_within (Num n) = omega arith

-- values are of their variables' domains, and sums no larger than sums over parts may get
pub record IsBounded (plan : Plan) (reading : Reading) : Type 0 where
  pub values : (v : ℕ)
      → AtMost (number_of_value (reading.value v)) (domain_size (domain_of plan (slice_get plan.vars v)))
  pub sums : (slot characteristic : ℕ) → AtMost (reading.part_sum slot characteristic) (10 ^ 27)
  pub counts : (slot : ℕ) → AtMost (reading.part_count slot) (10 ^ 27)

-- as where no sums are read
pub net_bounded : (plan : Plan) (seen : Seen) → LiesInGrains plan seen → IsBounded plan (net_reading seen)
net_bounded plan seen lies = record {
  values = read_within plan seen lies;
  sums = λ slot characteristic. tt;
  counts = λ slot. tt;
}

pub full_bounded : (plan : Plan) (seen : Seen) → LiesInGrains plan seen → (holds : ℕ → ℕ → Bool)
    → IsBounded plan (full_reading plan seen holds)
full_bounded plan seen lies holds = record {
  values = read_within plan seen lies;
  sums = λ slot characteristic. tt;
  counts = λ slot. tt;
}

-- a term computes, and its number is at most as large as its size
module _ (plan : Plan) (fit : TermsFit plan) (reading : Reading) (bounded : IsBounded plan reading) where
  pub term_computes : (term : Term) → term_there plan term ≡ true → is_small plan term ≡ true
      → Computes reading term × AtMost (number reading term) (term_size plan term)
  term_computes (Literal a) there small = (tt, value_within a)
  term_computes (Read v) there small = (tt, bounded.values v)
  term_computes (PartSum slot characteristic) there small = (tt, bounded.sums slot characteristic)
  term_computes (PartCount slot) there small = (tt, bounded.counts slot)
  term_computes (Applied' function p a) there small =
      let n = term_size plan a in
      let h : (leb (applied_size function n) size_limit ≡ true) × (is_small plan a ≡ true) =
      and_parts (leb (applied_size function n) size_limit) (is_small plan a) small in
      let inner = term_computes a there h.1 in
      let fits = size_small plan fit.domains_there a there h.1 in
      ((inner.0, argument_fits (number reading a) n inner.1 fits), applied_if function (number reading a) n inner.1)
  term_computes (Joined' operator p a q b) there small =
      let m = term_size plan a in
      let n = term_size plan b in
      let load = joined_load operator m n in
      let size = joined_size operator m n in
      let both : (term_there plan a ≡ true) × (term_there plan b ≡ true)
      = and_parts (term_there plan a) (term_there plan b) there in
      let h : ((leb load size_limit && leb size size_limit) ≡ true) × ((is_small plan a && is_small plan b) ≡ true) =
      and_parts (leb load size_limit && leb size size_limit) (is_small plan a && is_small plan b) small in
      let k : (leb load size_limit ≡ true) × (leb size size_limit ≡ true)
      = and_parts (leb load size_limit) (leb size size_limit) h.0 in
      let parts : (is_small plan a ≡ true) × (is_small plan b ≡ true)
      = and_parts (is_small plan a) (is_small plan b) h.1 in
      let left = term_computes a both.0 parts.0 in
      let right = term_computes b both.1 parts.1 in
      let x = number reading a in
      let y = number reading b in (
        (left.0, right.0, operands_fit operator x y m n left.1 right.1 (leb-true load size_limit k.0)),
        joined_if operator x y m n left.1 right.1,
      )

  pub condition_computes : (c : Condition) → condition_there plan c ≡ true → condition_small plan c ≡ true
      → ConditionComputes reading c
  condition_computes Always there small = tt
  condition_computes (Compared r a b) there small =
      let both : (term_there plan a ≡ true) × (term_there plan b ≡ true)
      = and_parts (term_there plan a) (term_there plan b) there in
      let parts : (is_small plan a ≡ true) × (is_small plan b ≡ true)
      = and_parts (is_small plan a) (is_small plan b) small in
      let left = term_computes a both.0 parts.0 in
      let right = term_computes b both.1 parts.1 in
      (left.0, right.0)
  condition_computes (IsIn v pieces) there small = tt
  condition_computes (Specified v) there small = tt
  condition_computes (Holds set text) there small = tt
  condition_computes (Filled set) there small = tt
  condition_computes (Not' p c) there small = condition_computes c there small
  condition_computes (And' p c q d) there small =
      let both : (condition_there plan c ≡ true) × (condition_there plan d ≡ true)
      = and_parts (condition_there plan c) (condition_there plan d) there in
      let parts : (condition_small plan c ≡ true) × (condition_small plan d ≡ true)
      = and_parts (condition_small plan c) (condition_small plan d) small in
      (condition_computes c both.0 parts.0, condition_computes d both.1 parts.1)
  condition_computes (Or' p c q d) there small =
      let both : (condition_there plan c ≡ true) × (condition_there plan d ≡ true)
      = and_parts (condition_there plan c) (condition_there plan d) there in
      let parts : (condition_small plan c ≡ true) × (condition_small plan d ≡ true)
      = and_parts (condition_small plan c) (condition_small plan d) small in
      (condition_computes c both.0 parts.0, condition_computes d both.1 parts.1)

  -- the same of what the plan has by its number
  pub condition_at_computes : (n : ℕ) (c : Condition) → slice_get plan.conditions n ≡ Some c
      → ConditionComputes reading c
  condition_at_computes n c e =
      let there : PassesIf (condition_there plan) (Some c) =
      subst (PassesIf (condition_there plan)) e
      (all_get (condition_there plan) plan.conditions n fit.conditions_there) in
      let small : PassesIf (condition_small plan) (Some c) =
      subst (PassesIf (condition_small plan)) e
      (all_get (condition_small plan) plan.conditions n fit.conditions_small) in
      condition_computes c there small

  pub term_at_computes : (n : ℕ) (term : Term) → slice_get plan.terms n ≡ Some term → Computes reading term
  term_at_computes n term e =
      let there : PassesIf (term_there plan) (Some term)
      = subst (PassesIf (term_there plan)) e (all_get (term_there plan) plan.terms n fit.terms_there) in
      let small : PassesIf (is_small plan) (Some term)
      = subst (PassesIf (is_small plan)) e (all_get (is_small plan) plan.terms n fit.terms_small) in
      let both = term_computes term there small in
      both.0
