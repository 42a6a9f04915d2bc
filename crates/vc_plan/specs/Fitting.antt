-- What a user may choose.
use Rattle.std.specs.Prelude.{ℕ, Bool, true, ◌&&◌, ◌==◌, List, [], length, slice_index_or, Option, None, Some}
use Rattle.std.specs.List.{list_all, list_any}
use Rattle.vc_value.specs.Grains.{has_decimals}
use Rattle.vc_value.specs.declared.value.Value.{Value}
use Rattle.vc_value.specs.declared.value.Value.TheVariants.{Text, Num}
use Rattle.vc_plan.specs.declared.plans.Plan.{Plan}
use Rattle.vc_plan.specs.Domains.{numbers_below, grains_of, decimals_of, texts_of}
use Rattle.vc_plan.specs.Evaluate.{Users}
use Rattle.vc_plan.specs.Pieces.{lies_in_some}

-- whether a value is a text, or a number of at most so many decimals
abbrev pub has_at_most : ℕ → Value → Bool
has_at_most decimals (Text t) = true
has_at_most decimals (Num a) = has_decimals decimals a

-- whether the user may give the variable the value: a grain holds it, and it has no more decimals than the variable's
-- numbers
abbrev pub may_have : Plan → ℕ → Value → Bool
may_have plan v a = lies_in_some (grains_of plan v) a && has_at_most (decimals_of plan v) a

abbrev pub may_have_if : Plan → ℕ → Option Value → Bool
may_have_if plan v None = true
may_have_if plan v (Some a) = may_have plan v a

-- whether the user may put each of the texts into the set: it is one of the list
abbrev pub may_hold : Plan → ℕ → List ℕ → Bool
may_hold plan set texts = list_all (λ t. list_any (λ listed. listed == t) (texts_of plan set)) texts

-- whether all that the user chose is of the plan
abbrev pub users_fit : Plan → Users → Bool
users_fit plan users =
    list_all (λ v. may_have_if plan v (slice_index_or users.values v None)) (numbers_below (length users.values))
    && list_all (λ set. may_hold plan set (slice_index_or users.texts set [])) (numbers_below (length users.texts))
