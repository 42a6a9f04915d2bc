-- How large numbers may get: both sides of each limit.
use Rattle.std.proofs.Common.{◌≡◌, ℕ, ◌-◌, ◌^◌, [], ◌∷◌, refl}
use Rattle.std.specs.Prelude.{None, Some, codes}
use Rattle.vc_syntax_tree.specs.declared.Function.TheVariants.{Abs, Sign, Trunc, Floor, Ceil, Frac}
use Rattle.vc_syntax_tree.specs.declared.Operator.TheVariants.{Plus, Minus, Times, Over}
use Rattle.vc_syntax_tree.specs.declared.Relator.TheVariants.{Equal}
use Rattle.vc_syntax_tree.specs.Trees.{Term, Operand, Negated, Combined, Applied, SumOfParts, CountOfParts, Counts}
use Rattle.vc_syntax_tree.specs.Trees.{Procedure, Precondition, Assign}
use Rattle.vc_types.specs.Faults.{fault_of}
use Rattle.vc_types.specs.RangeFaults.{size_of}
use Rattle.vc_types.specs.Settings.{setting_of}
use Rattle.vc_types.specs.declared.fault.TypeFaultKind.TheVariants.{RangeTooWide}
use Rattle.vc_types.proofs.FaultRows.Small.{Quantity, small, at_root, at_part, at_operation, by_root, leaf, plain}
use Rattle.vc_types.proofs.FaultRows.Small.{number, related}

abbrev n : Term
n = Operand (plain (codes "N"))

abbrev b : Term
b = Operand (plain (codes "B"))

abbrev w : Term
w = SumOfParts (leaf (codes "W"))

abbrev times : Term → Term → Term
times left right = Combined left Times right

abbrev size : Quantity → Term → ℕ
size q term = size_of (setting_of (small q) by_root (Counts term)) term

-- sizes: the larger end of a list, sums and differences alike, a product with a millionth more, a quotient by the least
-- divisor
of_list : (q : Quantity) → size q n ≡ 100_000_000
of_list q = refl

of_low_end : (q : Quantity)
    → size_of (setting_of (small q) at_part (Counts (Operand (plain (codes "W"))))) (Operand (plain (codes "W")))
    ≡ 9_000_000
of_low_end q = refl

of_texts : (q : Quantity) → size q (Operand (plain (codes "A"))) ≡ 0
of_texts q = refl

of_sum : (q : Quantity) → size q (Combined n Plus (number 5)) ≡ 100_000_005
of_sum q = refl

of_difference : (q : Quantity) → size q (Combined n Minus (number 5)) ≡ 100_000_005
of_difference q = refl

of_product : (q : Quantity) → size q (times n (number 3_000_000)) ≡ 300_000_001
of_product q = refl

of_small_product : (q : Quantity) → size q (times (number 1) (number 1)) ≡ 1
of_small_product q = refl

of_quotient : (q : Quantity) → size q (Combined n Over (number 5_000_000)) ≡ 100_000_000_000_000
of_quotient q = refl

of_minus : (q : Quantity) → size q (Negated n) ≡ 100_000_000
of_minus q = refl

of_abs : (q : Quantity) → size q (Applied Abs n) ≡ 100_000_000
of_abs q = refl

of_sign : (q : Quantity) → size q (Applied Sign n) ≡ 1_000_000
of_sign q = refl

of_trunc : (q : Quantity) → size q (Applied Trunc n) ≡ 100_000_000
of_trunc q = refl

of_floor : (q : Quantity) → size q (Applied Floor n) ≡ 101_000_000
of_floor q = refl

of_ceil : (q : Quantity) → size q (Applied Ceil n) ≡ 101_000_000
of_ceil q = refl

of_frac : (q : Quantity) → size q (Applied Frac n) ≡ 1_000_000
of_frac q = refl

of_part_sum : (q : Quantity) → size q w ≡ 10 ^ 27
of_part_sum q = refl

-- three factors of a thousand million are too many, two are not
two_factors : (q : Quantity) → fault_of (small q) at_operation (Counts (times b b)) ≡ None
two_factors q = refl

three_factors : (q : Quantity) → fault_of (small q) at_operation (Counts (times (times b b) b)) ≡ Some RangeTooWide
three_factors q = refl

-- the fault is told wherever the term stands: under a function, in a divisor, at either side
under_function : (q : Quantity)
    → fault_of (small q) at_operation (Counts (Applied Sign (times (times b b) b))) ≡ Some RangeTooWide
under_function q = refl

in_divisor : (q : Quantity)
    → fault_of (small q) at_operation (Counts (Combined n Over (times (times b b) b))) ≡ Some RangeTooWide
in_divisor q = refl

at_right : (q : Quantity)
    → fault_of (small q) at_root (Precondition (related n Equal (times (times b b) b))) ≡ Some RangeTooWide
at_right q = refl

-- a part sum may be added and divided, and not multiplied by another; with a factor of a hundred it may
sum_times_count : (q : Quantity)
    → fault_of (small q) by_root
    (Procedure (record { action = Assign (leaf (codes "N")) (times w CountOfParts); condition = None } ∷ []))
    ≡ Some RangeTooWide
sum_times_count q = refl

sum_by_count : (q : Quantity)
    → fault_of (small q) by_root
    (Procedure (record { action = Assign (leaf (codes "N")) (Combined w Over CountOfParts); condition = None } ∷ []))
    ≡ None
sum_by_count q = refl

sum_times_hundred : (q : Quantity)
    → fault_of (small q) by_root
    (Procedure (record { action = Assign (leaf (codes "N")) (times w n); condition = None } ∷ [])) ≡ None
sum_times_hundred q = refl

-- the limit itself, by a quotient: what is computed on the way is 10^36 less 10^6, and 10^36
at_the_limit : (q : Quantity) → fault_of (small q) at_operation (Counts (Combined (number (10 ^ 30 - 1)) Over n)) ≡ None
at_the_limit q = refl

past_the_limit : (q : Quantity)
    → fault_of (small q) at_operation (Counts (Combined (number (10 ^ 30)) Over n)) ≡ Some RangeTooWide
past_the_limit q = refl
