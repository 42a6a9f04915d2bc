-- How large the numbers of a list are, and of what is cut from it.
use Rattle.std.proofs.Common.{◌≡◌, ℕ, suc, ◌≤◌, Bool, true, false, cond, ◌&&◌, max, List, [], ◌∷◌, ◌++◌, Some, refl}
use Rattle.std.proofs.Common.{arith, ℤ, unsigned_abs}
use Rattle.std.specs.Prelude.{nat_le}
use Rattle.std.specs.List.{list_all}
use Rattle.std.specs.Int.Signed.{le_z}
use Rattle.std.proofs.Math.Nat.{le-max_left, le-max_right, max-le}
use Rattle.std.proofs.lemmas.Bool.{and_from, and_parts, le-leb, leb-true}
use Rattle.vc_value.specs.Grains.{interval, is_below, is_ordered}
use Rattle.vc_value.specs.declared.decimal.Dec.{Dec}
use Rattle.vc_value.specs.declared.grains.Grain.{Grain}
use Rattle.vc_model_parts.specs.Headers.{domain_of, grain_above, grain_of, grains_of}
use Rattle.vc_model_parts.specs.declared.parts.NumberValue.{NumberValue}
use Rattle.vc_model_parts.specs.declared.parts.Values.{Values}
use Rattle.vc_model_parts.specs.declared.parts.Values.TheVariants as values
use Rattle.vc_plan.specs.Bounds.{greatest}
use Rattle.vc_plan.specs.Sizes.{domain_size, grain_size}
use Rattle.vc_types.specs.RangeFaults.{largest, size_of_values, value_size}
use Rattle.vc_compile_plan.specs.Cuts.{cut_all, cut_domain}
use Rattle.vc_compile_valid.proofs.CuttingLaws.{Goes, between, cuts_pass, le_le}
use Rattle.vc_compile_valid.proofs.ListLaws.{all_joined}

-- no grain larger than this
abbrev pub is_up_to : ℕ → Grain → Bool
is_up_to m grain = nat_le (grain_size grain) m

pub greatest_within : (m : ℕ) (grains : List Grain) → list_all (is_up_to m) grains ≡ true
    → greatest grain_size grains ≤ m
greatest_within m [] h = omega arith
greatest_within m (grain ∷ grains) h =
    let parts = and_parts (is_up_to m grain) (list_all (is_up_to m) grains) h in
    max-le (leb-true (grain_size grain) m parts.0) (greatest_within m grains parts.1)

-- a part of a grain is no larger
size_between : (low z high : ℤ) (m : ℕ) → le_z low z ≡ true → le_z z high ≡ true
    → max (unsigned_abs low) (unsigned_abs high) ≤ m
    → unsigned_abs z ≤ m
size_between low z high m from to h =
    let first = le-max_left (unsigned_abs low) (unsigned_abs high) in
    let second = le-max_right (unsigned_abs low) (unsigned_abs high) in
    let below = between low z high (suc m) from to (omega (arith, h, first)) (omega (arith, h, second)) in
    omega (arith, below)

goes_up_to : (m : ℕ) (grain : Grain) → is_up_to m grain ≡ true → Goes (is_up_to m) grain
goes_up_to m grain h from to low ordered high =
    let size = leb-true (grain_size grain) m h in
    le-leb (grain_size (interval from to)) m
    (max-le
    (size_between grain.low.millionths from grain.high.millionths m low
    (le_le from to grain.high.millionths ordered high) size)
    (size_between grain.low.millionths to grain.high.millionths m (le_le grain.low.millionths from to low ordered) high
    size))

pub cut_within : (m decimals : ℕ) (grains : List Grain) (numbers : List Dec) → list_all (is_up_to m) grains ≡ true
    → list_all (is_up_to m) (cut_all decimals grains numbers) ≡ true
cut_within m decimals grains numbers h = cuts_pass (is_up_to m) (goes_up_to m) decimals grains numbers h

-- what a list has is among its values
kept_within : (m : ℕ) (before : List Grain) (value : NumberValue) → value_size value ≤ m
    → list_all (is_up_to m) (grain_above before value) ≡ true
kept_within m before value h = by (is_ordered (grain_of value) && list_all (is_below value.low) before)
  where
    by : (b : Bool) → list_all (is_up_to m) (cond b (grain_of value ∷ []) []) ≡ true
    by true = and_from (is_up_to m (grain_of value)) true (le-leb (grain_size (grain_of value)) m h) refl
    by false = refl

listed_within : (m : ℕ) (before : List Grain) (listed : List NumberValue) → list_all (is_up_to m) before ≡ true
    → largest listed ≤ m
    → list_all (is_up_to m) (grains_of before listed) ≡ true
listed_within m before [] h l = h
listed_within m before (value ∷ listed) h l =
    let first = le-max_left (value_size value) (largest listed) in
    let rest = le-max_right (value_size value) (largest listed) in
    listed_within m (before ++ grain_above before value) listed
    (all_joined (is_up_to m) before (grain_above before value) h (kept_within m before value (omega (arith, l, first))))
    (omega (arith, l, rest))

-- so a characteristic's domain is no larger than its list
pub domain_within : (numbers : List Dec) (v : Values)
    → domain_size (Some (cut_domain numbers (domain_of v))) ≤ size_of_values v
domain_within numbers (values.Texts size multiple listed) = omega arith
domain_within numbers (values.Numbers decimals unit listed) =
    greatest_within (largest listed) (cut_all decimals (grains_of [] listed) numbers)
    (cut_within (largest listed) decimals (grains_of [] listed) numbers
    (listed_within (largest listed) [] listed refl (omega arith)))
