-- What is cited of lists, and how yields take what is said, computed.
use Rattle.std.proofs.Common.{◌≡◌, ◌≢◌, List, [], ◌∷◌, true, false, refl}
use Rattle.vc_base.specs.Rounds.{clash, atoms}
use Rattle.vc_plan.specs.declared.atoms.Atom.{Atom}
use Rattle.vc_plan.specs.declared.atoms.Atom.TheVariants.{Here, Out}
use Rattle.vc_plan.specs.Seen.{seen_of}
use Rattle.vc_rule_yield.specs.Yielding.{Rooms, nothing_in}
use Rattle.vc_rule_premises.specs.Cited.{cited_once}
use Rattle.vc_rule_premises.specs.Citing.{cited_all}
use Rattle.vc_rule_premises.specs.Saying.{Said, clashing, concluding, conclusion_from, said_from, together, clash_when}
use Rattle.vc_rule_premises.specs.Saying.{taken, said_with, held}

once_in_order : cited_once (Out 1 2 ∷ (Here 3 ∷ (Here 0 ∷ (Out 1 2 ∷ (Out 1 1 ∷ [])))))
    ≡ Out 1 2 ∷ (Here 3 ∷ (Out 1 1 ∷ []))
once_in_order = refl

not_the_root : cited_once (Here 0 ∷ []) ≢ Here 0 ∷ []
not_the_root = λ e. cc

-- room for two premises of each of two conclusions
abbrev rooms : Rooms
rooms = record { cites = 2; atoms = 2; premises = 4 }

abbrev why : List Atom
why = Here 1 ∷ []

abbrev two : Said
two = concluding (conclusion_from (Out 0 0 ∷ []) (Out 1 0) ∷ (conclusion_from (Here 1 ∷ []) (Out 1 1) ∷ []))

-- each has why the rule acts before its own premises, and not those of the one before
taken_in_order : held (taken (cited_all (nothing_in rooms) why) two)
    ≡ concluding (conclusion_from (Here 1 ∷ (Out 0 0 ∷ [])) (Out 1 0) ∷ (conclusion_from (Here 1 ∷ []) (Out 1 1) ∷ []))
taken_in_order = refl

with_why : said_with why two
    ≡ concluding (conclusion_from (Here 1 ∷ (Out 0 0 ∷ [])) (Out 1 0) ∷ (conclusion_from (Here 1 ∷ []) (Out 1 1) ∷ []))
with_why = refl

clash_taken : held (taken (cited_all (nothing_in rooms) why) (clashing (Out 0 0 ∷ [])))
    ≡ clashing (Here 1 ∷ (Out 0 0 ∷ []))
clash_taken = refl

-- a clash comes before all that is concluded beside it
clash_beside : together two (clashing why) ≡ clashing why
clash_beside = refl

first_clash : together (clashing why) (clashing []) ≡ clashing why
first_clash = refl

clash_where_tested : clash_when true why two ≡ clashing why
clash_where_tested = refl

else_said : clash_when false why two ≡ two
else_said = refl

-- what stands already isn't said again, a clash always
without_what_stands : said_from (seen_of (Out 1 0 ∷ [])) why (atoms (Out 1 0 ∷ (Out 1 1 ∷ [])))
    ≡ concluding (conclusion_from why (Out 1 1) ∷ [])
without_what_stands = refl

clash_said : said_from (seen_of []) why clash ≡ clashing why
clash_said = refl
