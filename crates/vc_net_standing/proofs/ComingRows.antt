-- Which atoms may come beside what stands, computed: of PUMP, and of a box with two lids that each have one grain.
use Rattle.std.proofs.Common.{◌≡◌, Bool, true, List, [], ◌∷◌, refl}
use Rattle.std.specs.Prelude.{◌≢◌}
use Rattle.vc_value.specs.declared.value.Value.TheVariants.{Text}
use Rattle.vc_plan.specs.declared.atoms.Atom.{Atom}
use Rattle.vc_plan.specs.declared.atoms.Atom.TheVariants.{Here, Out, Is}
use Rattle.vc_plan.specs.Seen.{seen_of}
use Rattle.vc_plan.proofs.PlanRows.Models.{pump, whole}
use Rattle.vc_plan.proofs.PlanRows.SmallModels.{box}
use Rattle.vc_plan_reasons.specs.Checking.{set_with}
use Rattle.vc_net_standing.specs.Coming.{may_come, outs_of}

abbrev beside : List Atom → Atom → Bool
beside stand atom = may_come pump (seen_of (set_with stand)) atom

-- grains of a variable may go but for the last
one_grain : beside [] (Out 0 0) ≡ true
one_grain = refl

two_grains : beside (Out 0 0 ∷ []) (Out 0 2) ≡ true
two_grains = refl

last_grain : beside (Out 0 0 ∷ Out 0 2 ∷ []) (Out 0 1) ≢ true
last_grain e = cc

only_grain : beside [] (Out 2 0) ≢ true
only_grain e = cc

-- a variable's first value may come, and no other, nor one whose grain is out, nor one that isn't its
value_comes : beside (Out 0 0 ∷ []) (Is 2 (whole 7)) ≡ true
value_comes = refl

no_such_value : beside [] (Is 2 (whole 101)) ≢ true
no_such_value e = cc

first_text : beside [] (Is 0 (Text 0)) ≡ true
first_text = refl

second_text : beside (Is 0 (Text 0) ∷ []) (Is 0 (Text 1)) ≢ true
second_text e = cc

text_is_out : beside (Out 0 0 ∷ []) (Is 0 (Text 0)) ≢ true
text_is_out e = cc

grain_is_held : beside (Is 0 (Text 0) ∷ []) (Out 0 0) ≢ true
grain_is_held e = cc

other_grain : beside (Is 0 (Text 0) ∷ []) (Out 0 1) ≡ true
other_grain = refl

-- a slot whose variable has no grain left may not come, and others may; a grain may go where the slot isn't here
lid_without : may_come box (seen_of (set_with (Out 0 0 ∷ []))) (Here 1) ≢ true
lid_without e = cc

other_lid : may_come box (seen_of (set_with (Out 0 0 ∷ []))) (Here 2) ≡ true
other_lid = refl

away : may_come box (seen_of (set_with [])) (Out 0 0) ≡ true
away = refl

here : may_come box (seen_of (set_with (Here 1 ∷ []))) (Out 0 0) ≢ true
here e = cc

no_slot : may_come box (seen_of (set_with [])) (Here 3) ≢ true
no_slot e = cc

-- atoms that say of one variable that a grain is out
outs : outs_of 0 (Here 1 ∷ Out 0 2 ∷ Out 1 0 ∷ Is 0 (Text 0) ∷ Out 0 1 ∷ []) ≡ 2
outs = refl

not_all_atoms : outs_of 1 (Out 0 2 ∷ Out 1 0 ∷ Is 1 (Text 3) ∷ []) ≢ 3
not_all_atoms e = cc
