-- What restrictions against literals give, and Never and Last, at variables with the grains 1, 2 .. 3 and 4.
use Rattle.std.proofs.Common.{◌≡◌, pos, List, [], ◌∷◌, refl}
use Rattle.std.specs.Prelude.{Some, ◌≢◌}
use Rattle.vc_base.specs.Rounds.{Given, clash, atoms, broken}
use Rattle.vc_plan.specs.declared.atoms.Atom.{Atom}
use Rattle.vc_plan.specs.declared.atoms.Atom.TheVariants.{Here, Out, Is}
use Rattle.vc_plan.specs.declared.atoms.Mark.TheVariants.{Held, Outside}
use Rattle.vc_plan.specs.declared.conditions.Piece.TheVariants.{Stretch}
use Rattle.vc_plan.specs.declared.conditions.Relation.TheVariants.{Equal, Unequal, Less, AtMost, AtLeast}
use Rattle.vc_plan.specs.declared.plans.Plan.{Plan}
use Rattle.vc_plan.specs.declared.rules.Kind.TheVariants.{Among, Never}
use Rattle.vc_plan.specs.declared.rules.Restriction.{Restriction}
use Rattle.vc_plan.specs.declared.rules.Restriction.TheVariants.{Against, OneOf}
use Rattle.vc_plan.specs.Gives.{by_rule, by_entry, gives}
use Rattle.vc_plan.specs.Seen.{seen_of}
use Rattle.vc_plan.specs.Settle.{settlement_of}
use Rattle.vc_plan.proofs.PlanRows.Models.{open_pair, fixed_pair, rule, last, users, whole, number, from_to}

-- what the one rule of a plan gives at a set
abbrev given : Plan → List Atom → Given Atom
given plan set = gives plan (users []) (by_rule 0) (seen_of set)

-- the first variable restricted: inferred and restrictable, inferred and not restrictable, not inferred
abbrev narrows : Restriction → Plan
narrows restriction = open_pair [] (rule 0 (0 ∷ []) (Among 0 restriction))

abbrev infers : Restriction → Plan
infers restriction = fixed_pair [] (rule 0 (0 ∷ []) (Among 0 restriction))

abbrev checks : Restriction → Plan
checks restriction = fixed_pair [] (rule 0 [] (Among 0 restriction))

-- at most 2: what isn't inside is out, 2 .. 3 too
at_most : given (narrows (Against AtMost (whole 2))) (Here 0 ∷ []) ≡ atoms (Out 0 1 ∷ Out 0 2 ∷ [])
at_most = refl

overlapping : given (narrows (Against AtMost (whole 2))) (Here 0 ∷ []) ≢ atoms (Out 0 2 ∷ [])
overlapping e = cc

-- what is out already isn't given again, and none left is no clash of the rule's
again : given (narrows (Against AtMost (whole 2))) (Out 0 1 ∷ Here 0 ∷ []) ≡ atoms (Out 0 2 ∷ [])
again = refl

none_left : given (narrows (Against Less (whole 1))) (Here 0 ∷ []) ≡ atoms (Out 0 0 ∷ Out 0 1 ∷ Out 0 2 ∷ [])
none_left = refl

-- and the set that follows isn't clear
none_left_broken : settlement_of (narrows (Against Less (whole 1))) (users []) ≡ broken
none_left_broken = refl

-- not restrictable: the value of the only grain that is left and inside
value : given (infers (Against AtMost (whole 1))) (Here 0 ∷ []) ≡ atoms (Is 0 (whole 1) ∷ [])
value = refl

two_grains : given (infers (Against AtLeast (whole 2))) (Here 0 ∷ []) ≡ atoms []
two_grains = refl

one_is_out : given (infers (Against AtLeast (whole 2))) (Out 0 1 ∷ Here 0 ∷ []) ≡ atoms (Is 0 (whole 4) ∷ [])
one_is_out = refl

-- a grain of two values has no value alone
no_one_value : given (infers (OneOf (Stretch (from_to 2 3) ∷ []))) (Here 0 ∷ []) ≡ atoms []
no_one_value = refl

first_of_grain : given (infers (OneOf (Stretch (from_to 2 3) ∷ []))) (Here 0 ∷ []) ≢ atoms (Is 0 (whole 2) ∷ [])
first_of_grain e = cc

none_inside : given (infers (Against Less (whole 1))) (Here 0 ∷ []) ≡ clash
none_inside = refl

-- a literal behind `=` is rounded to no decimals, and behind another relation or in a list it isn't
rounded : given (infers (Against Equal (number (pos 1_400_000)))) (Here 0 ∷ []) ≡ atoms (Is 0 (whole 1) ∷ [])
rounded = refl

not_in_list : given (infers
    (OneOf (Stretch (record
    { low = record { millionths = pos 1_400_000 }; high = record { millionths = pos 1_400_000 } }) ∷ [])))
    (Here 0 ∷ []) ≡ clash
not_in_list = refl

unequal : given (narrows (Against Unequal (number (pos 1_400_000)))) (Here 0 ∷ []) ≢ atoms (Out 0 0 ∷ [])
unequal e = cc

-- not inferred: a clash where nothing left is inside, and never a value
checked : given (checks (Against AtMost (whole 1))) (Here 0 ∷ []) ≡ atoms []
checked = refl

fails : given (checks (Against AtMost (whole 1))) (Is 0 (whole 4) ∷ Here 0 ∷ []) ≡ clash
fails = refl

-- a value in 2 .. 3 counts by its grain, which isn't inside
by_grain : given (checks (Against AtMost (whole 2))) (Is 0 (whole 2) ∷ Here 0 ∷ []) ≡ clash
by_grain = refl

-- Never clashes where its slots are here
never : given (open_pair [] (rule 0 [] Never)) (Here 0 ∷ []) ≡ clash
never = refl

never_absent : given (open_pair [] (rule 0 [] Never)) [] ≢ clash
never_absent e = cc

-- Last: the one value of the only grain that isn't out
last_value : given (open_pair [] (last 0)) (Out 0 1 ∷ Out 0 2 ∷ Here 0 ∷ []) ≡ atoms (Is 0 (whole 1) ∷ [])
last_value = refl

last_of_two : given (open_pair [] (last 0)) (Out 0 2 ∷ Here 0 ∷ []) ≢ atoms (Is 0 (whole 1) ∷ [])
last_of_two e = cc

last_stretch : given (open_pair [] (last 0)) (Out 0 0 ∷ Out 0 2 ∷ Here 0 ∷ []) ≡ atoms []
last_stretch = refl

-- it doesn't look at the value: a value leaves its grain, but puts none out
last_known : given (open_pair [] (last 0)) (Is 0 (whole 4) ∷ Here 0 ∷ []) ≡ atoms []
last_known = refl

last_absent : given (open_pair [] (last 0)) (Out 0 1 ∷ Out 0 2 ∷ []) ≡ atoms []
last_absent = refl

-- what a statement wrote: its value, or a clash where no grain holds it
written : gives (open_pair [] (last 0))
    (record { user = []; written = Some (record { mark = Held (whole 4); procedure = 0; statement = 0 }) ∷ [] })
    (by_entry 0) (seen_of (Here 0 ∷ [])) ≡ atoms (Is 0 (whole 4) ∷ [])
written = refl

outside : gives (open_pair [] (last 0))
    (record { user = []; written = Some (record { mark = Outside; procedure = 0; statement = 0 }) ∷ [] })
    (by_entry 0) (seen_of (Here 0 ∷ [])) ≡ clash
outside = refl

sleeping : gives (open_pair [] (last 0))
    (record { user = []; written = Some (record { mark = Outside; procedure = 0; statement = 0 }) ∷ [] })
    (by_entry 0) (seen_of []) ≢ clash
sleeping e = cc
