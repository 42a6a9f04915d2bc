-- The grains that variables have.
use Rattle.std.specs.Prelude.{ℕ, ◌+◌, Bool, false, List, [], length, map, slice_get, Option, None, Some}
use Rattle.std.specs.List.{sum_by}
use Rattle.vc_value.specs.declared.table_header.Domain.{Domain}
use Rattle.vc_value.specs.declared.table_header.Domain.TheVariants.{Texts, Nums}
use Rattle.vc_plan.specs.declared.conditions.Piece.{Piece}
use Rattle.vc_plan.specs.declared.conditions.Piece.TheVariants.{OneText, Stretch}
use Rattle.vc_plan.specs.declared.plans.Plan.{Plan}
use Rattle.vc_plan.specs.declared.plans.TextSet.{TextSet}
use Rattle.vc_plan.specs.declared.plans.Var.{Var}
pub use Rattle.vc_base.specs.Numbers.{numbers_below}

-- the grains of a domain
abbrev pub grains_in : Option Domain → List Piece
grains_in None = []
grains_in (Some (Texts texts)) = map OneText texts
grains_in (Some (Nums decimals grains)) = map Stretch grains

-- how many decimals its numbers have; 6 where it has no numbers
abbrev pub decimals_in : Option Domain → ℕ
decimals_in None = 6
decimals_in (Some (Texts texts)) = 6
decimals_in (Some (Nums decimals grains)) = decimals

-- the texts of a domain
abbrev pub texts_in : Option Domain → List ℕ
texts_in None = []
texts_in (Some (Texts texts)) = texts
texts_in (Some (Nums decimals grains)) = []

-- what a plan says of a variable, a set or a slot, if it has it
abbrev pub domain_of : Plan → Option Var → Option Domain
domain_of plan None = None
domain_of plan (Some x) = slice_get plan.domains x.domain

abbrev pub domain_of_set : Plan → Option TextSet → Option Domain
domain_of_set plan None = None
domain_of_set plan (Some x) = slice_get plan.domains x.domain

abbrev pub is_restrictable_in : Option Var → Bool
is_restrictable_in None = false
is_restrictable_in (Some x) = x.restrictable

-- the grains of the variable, in order; none where there is no such variable
abbrev pub grains_of : Plan → ℕ → List Piece
grains_of plan v = grains_in (domain_of plan (slice_get plan.vars v))

-- how many there are
abbrev pub count_of : Plan → ℕ → ℕ
count_of plan v = length (grains_of plan v)

-- how many decimals the variable's numbers have
abbrev pub decimals_of : Plan → ℕ → ℕ
decimals_of plan v = decimals_in (domain_of plan (slice_get plan.vars v))

-- the texts that the set may have
abbrev pub texts_of : Plan → ℕ → List ℕ
texts_of plan set = texts_in (domain_of_set plan (slice_get plan.sets set))

-- whether the net may exclude grains of the variable
abbrev pub is_restrictable : Plan → ℕ → Bool
is_restrictable plan v = is_restrictable_in (slice_get plan.vars v)

-- whether the piece, if there is one, passes the test
abbrev pub passes : (Piece → Bool) → Option Piece → Bool
passes test None = false
passes test (Some piece) = test piece

-- whether the variable has a grain of this number that passes the test
abbrev pub is_grain_with : Plan → ℕ → (Piece → Bool) → ℕ → Bool
is_grain_with plan v test g = passes test (slice_get (grains_of plan v) g)

-- the most atoms that a clear set has: the slots, and each variable's grains and its value
abbrev pub atom_count : Plan → ℕ
atom_count plan = length plan.slots + sum_by (λ v. count_of plan v + 1) (numbers_below (length plan.vars))
