-- Which values a plan's grains can hold, and which numbers of terms can be rounded.
use Rattle.std.proofs.Common.{◌≡◌, ℕ, ◌^◌, ◌<◌, ◌≤◌, leb, ℤ, unsigned_abs, Bool, true, false, cond, List, [], ◌∷◌}
use Rattle.std.proofs.Common.{map, refl, sym, subst, inl, inr, ap, arith}
use Rattle.std.specs.Prelude.{nat_lt, Option, None, Some, option_map, slice_get}
use Rattle.std.specs.List.{list_all}
use Rattle.std.specs.Int.Signed.{le_z}
use Rattle.std.proofs.lemmas.Bool.{and_parts, or_cases, ltb-true, lt-ltb, leb-true}
use Rattle.std.proofs.lemmas.Int.{ints}
use Rattle.vc_value.specs.Grains as grains
use Rattle.vc_value.specs.declared.decimal.Dec.{Dec}
use Rattle.vc_value.specs.declared.grains.Grain.{Grain}
use Rattle.vc_value.specs.declared.table_header.Domain.{Domain}
use Rattle.vc_value.specs.declared.table_header.Domain.TheVariants.{Texts, Nums}
use Rattle.vc_value.specs.declared.value.Value.{Value}
use Rattle.vc_value.specs.declared.value.Value.TheVariants.{Text, Num}
use Rattle.vc_plan.specs.declared.conditions.Piece.TheVariants.{Stretch}
use Rattle.vc_plan.specs.declared.plans.Plan.{Plan}
use Rattle.vc_plan.specs.declared.plans.Var.{Var}
use Rattle.vc_plan.specs.declared.terms.Term.{Term}
use Rattle.vc_plan.specs.declared.terms.Term.TheVariants.{Literal, Read, PartSum, PartCount, Applied', Joined'}
use Rattle.vc_plan.specs.Domains.{grains_in, decimals_in, domain_of, grains_of}
use Rattle.vc_plan.specs.Pieces.{lies_in_some}
use Rattle.vc_plan.specs.Ranges.{is_stored, grain_there, domain_there, term_there}
use Rattle.vc_plan.specs.Readings.{Reading}
use Rattle.vc_plan.specs.Sizes.{term_size, is_small}
use Rattle.vc_plan.specs.Truth.{number_of_value, value_of_number, number, term_value, value_in_term, value_at}
use Rattle.vc_plan_values.proofs.GrainLemmas.{no_number}
use Rattle.vc_plan_values.specs.Computing.{TermsFit, ArgumentFits}
use Rattle.vc_plan_values.proofs.TermLemmas.{IsBounded, PassesIf, all_get, argument_fits, size_small, term_computes}
use Rattle.vc_plan_values.specs.Values.{stored_value}

-- a domain's numbers have at most six decimals
there_few : (plan : Plan) (domain : Domain) → domain_there plan domain ≡ true → decimals_in (Some domain) ≤ 6
there_few plan (Texts texts) e = omega arith
there_few plan (Nums decimals grains) e =
    let h : (leb decimals 6 ≡ true) × (list_all grain_there grains ≡ true)
    = and_parts (leb decimals 6) (list_all grain_there grains) e in
    leb-true decimals 6 h.0

pub few_decimals : (plan : Plan) (i n : ℕ) (domain : Domain) → n ≡ decimals_in (Some domain)
    → slice_get plan.domains i ≡ Some domain
    → list_all (domain_there plan) plan.domains ≡ true → n ≤ 6
few_decimals plan i n domain e at all =
    let there : PassesIf (domain_there plan) (Some domain) =
    subst (PassesIf (domain_there plan)) at (all_get (domain_there plan) plan.domains i all) in
    let few = there_few plan domain there in omega arith

-- a number that a plan's grain holds is small enough to be stored
stretches_stored : (n : Dec) (list : List Grain) → list_all grain_there list ≡ true
    → lies_in_some (map Stretch list) (Num n) ≡ true
    → unsigned_abs n.millionths < 10 ^ 15
stretches_stored n [] all e = absurd (cc)
stretches_stored n (grain ∷ list) all e =
    let h : (grain_there grain ≡ true) × (list_all grain_there list ≡ true)
    = and_parts (grain_there grain) (list_all grain_there list) all in
    elim (or_cases (grains.holds n grain) (lies_in_some (map Stretch list) (Num n)) e) [
      | inl first ↦
          let ends : (is_stored grain.low ≡ true) × (is_stored grain.high ≡ true)
          = and_parts (is_stored grain.low) (is_stored grain.high) h.0 in
          let k : (le_z grain.low.millionths n.millionths ≡ true) × (le_z n.millionths grain.high.millionths ≡ true) =
          and_parts (le_z grain.low.millionths n.millionths) (le_z n.millionths grain.high.millionths) first in
          between grain.low.millionths n.millionths grain.high.millionths (10 ^ 15) k.0 k.1
          (ltb-true (unsigned_abs grain.low.millionths) (10 ^ 15) ends.0)
          (ltb-true (unsigned_abs grain.high.millionths) (10 ^ 15) ends.1)
      | inr later ↦ stretches_stored n list h.1 later
    ]
  where
    between : (low z high : ℤ) (m : ℕ) → le_z low z ≡ true → le_z z high ≡ true → unsigned_abs low < m
        → unsigned_abs high < m → unsigned_abs z < m
    between low z high m p q r s = grind (arith, ints)

domain_stored : (plan : Plan) (domain : Option Domain) (n : Dec) → PassesIf (domain_there plan) domain
    → lies_in_some (grains_in domain) (Num n) ≡ true
    → unsigned_abs n.millionths < 10 ^ 15
domain_stored plan None n there e = absurd (cc)
domain_stored plan (Some (Texts texts)) n there e = absurd (let none = no_number texts n in cc)
domain_stored plan (Some (Nums decimals list)) n there e =
    let h : (leb decimals 6 ≡ true) × (list_all grain_there list ≡ true)
    = and_parts (leb decimals 6) (list_all grain_there list) there in
    stretches_stored n list h.1 e

var_stored : (plan : Plan) → list_all (domain_there plan) plan.domains ≡ true → (x : Option Var) (n : Dec)
    → lies_in_some (grains_in (domain_of plan x)) (Num n) ≡ true → unsigned_abs n.millionths < 10 ^ 15
var_stored plan all None n e = absurd (cc)
var_stored plan all (Some x) n e =
    domain_stored plan (slice_get plan.domains x.domain) n (all_get (domain_there plan) plan.domains x.domain all) e

-- what is stored is the value itself, and what can't be stored no grain holds
pub stored_is : (a b : Value) → stored_value a ≡ Some b → a ≡ b
stored_is (Text t) b e = cc
stored_is (Num n) b e = by (nat_lt (unsigned_abs n.millionths) (10 ^ 15)) e
  where
    by : (c : Bool) → option_map Num (cond c (Some (record { millionths = n.millionths })) None) ≡ Some b → Num n ≡ b
    by true k = cc
    by false k = absurd (cc)

pub not_stored : (plan : Plan) → TermsFit plan → (v : ℕ) (a : Value) → stored_value a ≡ None
    → lies_in_some (grains_of plan v) a ≡ false
not_stored plan fit v (Text t) e = absurd (cc)
not_stored plan fit v (Num n) e = by (lies_in_some (grains_of plan v) (Num n)) refl
  where
    too_large : nat_lt (unsigned_abs n.millionths) (10 ^ 15) ≡ true → stored_value (Num n) ≡ None → ⊥
    too_large k q = let same = ap (λ c. option_map Num (cond c (Some (record { millionths = n.millionths })) None)) k in
        absurd (cc)

    by : (b : Bool) → lies_in_some (grains_of plan v) (Num n) ≡ b → b ≡ false
    by false k = refl
    by true k =
        let small = var_stored plan fit.domains_there (slice_get plan.vars v) n k in
        absurd (too_large (lt-ltb (unsigned_abs n.millionths) (10 ^ 15) small) e)

-- the number of a term's value is the term's number
value_has : (o : Option ℤ) → number_of_value (value_of_number o) ≡ o
value_has None = refl
value_has (Some z) = refl

number_told : (reading : Reading) (term : Term) → number_of_value (term_value reading term) ≡ number reading term
number_told reading (Literal a) = refl
number_told reading (Read v) = refl
number_told reading (PartSum slot characteristic) = value_has (reading.part_sum slot characteristic)
number_told reading (PartCount slot) = value_has (reading.part_count slot)
number_told reading (Applied' function p a) = value_has (number reading (Applied' function p a))
number_told reading (Joined' operator p a q b) = value_has (number reading (Joined' operator p a q b))

-- the number of a term of a plan can be rounded
pub value_fits : (plan : Plan) → TermsFit plan → (reading : Reading) → IsBounded plan reading → (n : ℕ)
    → ArgumentFits (number_of_value (value_at plan reading n))
value_fits plan fit reading bounded n =
    by (slice_get plan.terms n) (all_get (term_there plan) plan.terms n fit.terms_there)
    (all_get (is_small plan) plan.terms n fit.terms_small)
  where
    by : (o : Option Term) → PassesIf (term_there plan) o → PassesIf (is_small plan) o
        → ArgumentFits (number_of_value (value_in_term reading o))
    by None there small = tt
    by (Some term) there small =
        let both = term_computes plan fit reading bounded term there small in
        subst ArgumentFits (sym (number_told reading term))
        (argument_fits (number reading term) (term_size plan term) both.1
        (size_small plan fit.domains_there term there small))
