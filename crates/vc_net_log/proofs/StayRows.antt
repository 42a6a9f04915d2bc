-- Which facts of a slot with one variable of two texts stay when sources change, computed.
use Rattle.std.proofs.Common.{◌≡◌, ◌≢◌, ℕ, true, List, [], ◌∷◌, refl}
use Rattle.std.specs.Prelude.{None, Some}
use Rattle.vc_value.specs.declared.value.Value.TheVariants.{Text}
use Rattle.vc_plan.specs.declared.atoms.Atom.TheVariants.{Is, Out}
use Rattle.vc_plan.specs.declared.atoms.Origin.TheVariants.{Rule, User}
use Rattle.vc_plan.specs.Sources.{Sources}
use Rattle.vc_net_places.specs.Cells.{begins_from}
use Rattle.vc_net_places.specs.Places.{Index}
use Rattle.vc_net_places.specs.declared.places.Thing.TheVariants.{Slot, Var}
use Rattle.vc_net_standing.specs.declared.standing.Fact.{Fact}
use Rattle.vc_net_log.specs.Staying.{all_stand, differs, needed, staying}

abbrev lamp : Index
lamp = record { firsts = 1 ∷ []; things = Slot 0 ∷ Var 0 ∷ Var 0 ∷ Var 0 ∷ [] }

abbrev value : Fact
value = record { atom = Is 0 (Text 1); origin = User }

abbrev out : Fact
out = record { atom = Out 0 0; origin = Rule 3 }

abbrev chosen : Sources
chosen = record { user = Some (Text 1) ∷ []; written = None ∷ [] }

abbrev nothing : Sources
nothing = record { user = None ∷ []; written = None ∷ [] }

-- that the grain is out needs the value, whose place is 1
abbrev needs : Fact → List ℕ
needs = needed lamp (begins_from 0 (0 ∷ 2 ∷ 1 ∷ 1 ∷ [])) (0 ∷ 0 ∷ 1 ∷ 0 ∷ []) (0 ∷ 0 ∷ 1 ∷ 0 ∷ [])

-- and where it needs nothing
abbrev freely : Fact → List ℕ
freely fact = []

value_gone : differs chosen nothing value ≡ true
value_gone = refl

rules_never_differ : differs chosen nothing out ≢ true
rules_never_differ e = cc

both_stay : staying lamp (differs chosen chosen) needs [] (value ∷ out ∷ []) ≡ value ∷ out ∷ []
both_stay = refl

-- what needs the value goes with it, and stays where it doesn't
both_go : staying lamp (differs chosen nothing) needs [] (value ∷ out ∷ []) ≡ []
both_go = refl

its_citer_stays : staying lamp (differs chosen nothing) needs [] (value ∷ out ∷ []) ≢ out ∷ []
its_citer_stays e = cc

the_other_stays : staying lamp (differs chosen nothing) freely [] (value ∷ out ∷ []) ≡ out ∷ []
the_other_stays = refl

-- what comes later isn't there yet
none_before : staying lamp (differs chosen chosen) needs [] (out ∷ value ∷ []) ≡ value ∷ []
none_before = refl

stands : all_stand lamp (value ∷ []) (1 ∷ []) ≡ true
stands = refl

stands_not : all_stand lamp (value ∷ []) (1 ∷ 2 ∷ []) ≢ true
stands_not e = cc
