-- Which sets of atoms are clear, of a pair of variables with the grains 1, 2 .. 3 and 4.
use Rattle.std.proofs.Common.{◌≡◌, true, false, [], ◌∷◌, refl}
use Rattle.std.specs.Prelude.{◌≢◌}
use Rattle.vc_plan.specs.declared.atoms.Atom.TheVariants.{Here, Out, Is}
use Rattle.vc_plan.specs.declared.plans.Plan.{Plan}
use Rattle.vc_plan.specs.Clear.{is_clear}
use Rattle.vc_plan.specs.Seen.{seen_of, left}
use Rattle.vc_plan.proofs.PlanRows.Models.{open_pair, last, whole}

abbrev plan : Plan
plan = open_pair [] (last 0)

-- a value and two other grains out
clear : is_clear plan (Is 0 (whole 2) ∷ Out 0 0 ∷ Out 0 2 ∷ Here 0 ∷ []) ≡ true
clear = refl

-- its grain out
grain_out : is_clear plan (Is 0 (whole 2) ∷ Out 0 1 ∷ Here 0 ∷ []) ≡ false
grain_out = refl

-- the same grain of another variable
other_out : is_clear plan (Is 0 (whole 2) ∷ Out 1 1 ∷ Here 0 ∷ []) ≢ false
other_out e = cc

-- two values, also of one grain
two_values : is_clear plan (Is 0 (whole 2) ∷ Is 0 (whole 3) ∷ Here 0 ∷ []) ≡ false
two_values = refl

-- every grain out, where the slot is here; where it isn't, it may be
exhausted : is_clear plan (Out 0 0 ∷ Out 0 1 ∷ Out 0 2 ∷ Here 0 ∷ []) ≡ false
exhausted = refl

exhausted_absent : is_clear plan (Out 0 0 ∷ Out 0 1 ∷ Out 0 2 ∷ []) ≢ false
exhausted_absent e = cc

-- a slot, a variable, a grain and a value that aren't the plan's
unknown_slot : is_clear plan (Here 1 ∷ []) ≡ false
unknown_slot = refl

unknown_variable : is_clear plan (Out 2 0 ∷ []) ≡ false
unknown_variable = refl

unknown_grain : is_clear plan (Out 0 3 ∷ []) ≡ false
unknown_grain = refl

unknown_value : is_clear plan (Is 0 (whole 5) ∷ []) ≡ false
unknown_value = refl

-- a value leaves its grain alone
left_of_value : left plan (seen_of (Is 0 (whole 3) ∷ Here 0 ∷ [])) 0 ≡ 1 ∷ []
left_of_value = refl

left_of_none : left plan (seen_of (Out 0 1 ∷ Here 0 ∷ [])) 0 ≡ 0 ∷ 2 ∷ []
left_of_none = refl

not_all : left plan (seen_of (Is 0 (whole 3) ∷ Here 0 ∷ [])) 0 ≢ 0 ∷ 1 ∷ 2 ∷ []
not_all e = cc
