-- Walks over a variable's grains: what they count, cite and conclude.
use Rattle.std.proofs.Common.{◌≡◌, ℕ, zero, suc, ◌+◌, ◌-◌, ◌<◌, ◌≤◌, Bool, true, false, cond, not, ◌&&◌, List, [], ◌∷◌}
use Rattle.std.proofs.Common.{length, map, take, refl, sym, ◌∙◌, ap, arith}
use Rattle.std.specs.Prelude.{slice_get, None}
use Rattle.std.specs.List.{filter, range_with_len}
use Rattle.vc_base.specs.Rounds.{Given, clash, atoms}
use Rattle.vc_plan.specs.declared.atoms.Atom.{Atom}
use Rattle.vc_plan.specs.declared.atoms.Atom.TheVariants.{Out}
use Rattle.vc_plan.specs.declared.conditions.Piece.{Piece}
use Rattle.vc_plan.specs.declared.plans.Plan.{Plan}
use Rattle.vc_plan.specs.Answers.{nothing, value_atoms, only_value, last_atoms}
use Rattle.vc_plan.specs.Domains.{grains_of, count_of, passes, is_grain_with, numbers_below}
use Rattle.vc_plan.specs.Gives.{not_out}
use Rattle.vc_plan.specs.Restrictions.{of_remaining}
use Rattle.vc_plan.specs.Seen.{Seen, says}
use Rattle.vc_rule_yield.specs.Yielding.{Conclusion, Yielded, with_cites, cited, concluded}
use Rattle.vc_rule_premises.specs.Citing.{cited_all}
use Rattle.vc_rule_premises.specs.Saying.{conclusion_from, said_from, take_conclusions, taken}
use Rattle.vc_rule_premises.proofs.SayingLaws.{plain_taken, conclusion_taken}
use Rattle.vc_rule_grains.specs.Kinds.{any_piece}
use Rattle.vc_rule_grains.specs.Remaining.{is_several, remaining_of, with_one, counted, left_by}
use Rattle.vc_rule_grains.specs.declared.remaining.Remaining.{Remaining}
use Rattle.vc_rule_grains.specs.declared.remaining.Remaining.TheVariants.{Nothing, One, Several}
use Rattle.vc_rule_grains.proofs.Walking.{Walks, walked, walk_on}

-- the value that is the last
abbrev pub last_by : Plan → ℕ → Remaining → List Atom
last_by plan v Nothing = []
last_by plan v (One g) = value_atoms v (only_value plan v g)
last_by plan v Several = []

-- a step of each walk
abbrev pub count_step : (ℕ → Bool) → Remaining → ℕ → Remaining
count_step p remaining g = cond (p g) (with_one remaining g) remaining

abbrev pub cite_step : (ℕ → Bool) → ℕ → Yielded → ℕ → Yielded
cite_step p v y g = cond (p g) (cited y (Out v g)) y

abbrev pub exclude_step : Seen → (ℕ → Bool) → ℕ → Yielded → ℕ → Yielded
exclude_step seen p v y g = cond (p g && not (seen.out v g)) (concluded y (Out v g)) y

several_stay : (gs : List ℕ) → counted Several gs ≡ Several
several_stay [] = refl
several_stay (g ∷ gs) = several_stay gs

all_counted : (gs : List ℕ) → counted Nothing gs ≡ remaining_of gs
all_counted [] = refl
all_counted (g ∷ []) = refl
all_counted (g ∷ (h ∷ more)) = several_stay more

count_walked : (p : ℕ → Bool) (remaining : Remaining) (gs : List ℕ)
    → walked (count_step p) remaining gs ≡ counted remaining (filter p gs)
count_walked p remaining [] = refl
count_walked p remaining (g ∷ gs) =
    count_walked p (count_step p remaining g) gs
    ∙ elim (p g) as (λ b. counted (cond b (with_one remaining g) remaining) (filter p gs)
    ≡ counted remaining (cond b (g ∷ filter p gs) (filter p gs))) [
      | true ↦ refl
      | false ↦ refl
    ]

pub remaining_walked : (p : ℕ → Bool) (gs : List ℕ) → walked (count_step p) Nothing gs ≡ remaining_of (filter p gs)
remaining_walked p gs = count_walked p Nothing gs ∙ all_counted (filter p gs)

-- once there are several, what is to come makes no difference
several_walked : (p : ℕ → Bool) (gs : List ℕ) → walked (count_step p) Several gs ≡ Several
several_walked p gs = count_walked p Several gs ∙ several_stay (filter p gs)

pub several_ends : (p : ℕ → Bool) (now next : Remaining) (at count : ℕ) → Walks (count_step p) Nothing now at count
    → at < count → next ≡ count_step p now at → is_several next ≡ true
    → Several ≡ remaining_of (filter p (numbers_below count))
several_ends p now next at count w below e several =
    let then = walk_on (count_step p) Nothing now next at count w below e in
    sym (several_walked p (range_with_len (at + 1) (count - (at + 1))))
    ∙ (ap (λ r. walked (count_step p) r (range_with_len (at + 1) (count - (at + 1)))) (sym (is next several))
    ∙ (then.left ∙ remaining_walked p (numbers_below count)))
  where
    is : (r : Remaining) → is_several r ≡ true → r ≡ Several
    is Nothing h = absurd (cc)
    is (One g) h = absurd (cc)
    is Several h = refl

pub cites_walked : (p : ℕ → Bool) (v : ℕ) (y : Yielded) (gs : List ℕ)
    → walked (cite_step p v) y gs ≡ cited_all y (map (Out v) (filter p gs))
cites_walked p v y [] = refl
cites_walked p v y (g ∷ gs) =
    cites_walked p v (cite_step p v y g) gs
    ∙ elim (p g) as (λ b. cited_all (cond b (cited y (Out v g)) y) (map (Out v) (filter p gs))
    ≡ cited_all y (map (Out v) (cond b (g ∷ filter p gs) (filter p gs)))) [
      | true ↦ refl
      | false ↦ refl
    ]

-- the atoms that don't stand yet, without premises of their own
abbrev plain : Seen → List Atom → List Conclusion
plain seen given = map (conclusion_from []) (filter (λ a. not (says seen a)) given)

pub excludes_walked : (seen : Seen) (p : ℕ → Bool) (v : ℕ) (y : Yielded) (gs : List ℕ)
    → walked (exclude_step seen p v) y gs ≡ take_conclusions y (plain seen (map (Out v) (filter p gs)))
excludes_walked seen p v y [] = refl
excludes_walked seen p v y (g ∷ gs) =
    excludes_walked seen p v (exclude_step seen p v y g) gs
    ∙ step (p g) (seen.out v g) refl
  where
    step : (b o : Bool) → seen.out v g ≡ o
        → take_conclusions (cond (b && not o) (concluded y (Out v g)) y) (plain seen (map (Out v) (filter p gs)))
        ≡ take_conclusions y (plain seen (map (Out v) (cond b (g ∷ filter p gs) (filter p gs))))
    step true true e =
        ap (λ o. take_conclusions y
        (map (conclusion_from [])
        (cond (not o) (Out v g ∷ filter (λ a. not (says seen a)) (map (Out v) (filter p gs)))
        (filter (λ a. not (says seen a)) (map (Out v) (filter p gs)))))) (sym e)
    step true false e =
        ap (λ z. take_conclusions z (plain seen (map (Out v) (filter p gs))))
        (plain_taken y (concluded y (Out v g)) (Out v g) refl)
        ∙ ap (λ o. take_conclusions y
        (map (conclusion_from []) (cond (not o) (Out v g ∷ filter (λ a. not (says seen a)) (map (Out v) (filter p gs)))
        (filter (λ a. not (says seen a)) (map (Out v) (filter p gs)))))) (sym e)
    step false o e = refl

-- what is said of a value that one grain has
pub value_said : (seen : Seen) (why : List Atom) (y cites concludes keeps : Yielded) (a : Atom) → says seen a ≡ false
    → cites ≡ cited_all y why
    → concludes ≡ concluded cites a → keeps ≡ with_cites concludes (take (length y.cites) concludes.cites)
    → keeps ≡ taken y (said_from seen why (atoms (a ∷ [])))
value_said seen why y cites concludes keeps a e p q r =
    conclusion_taken y cites concludes keeps why a p q r
    ∙ ap (λ b. take_conclusions y (map (conclusion_from why) (cond (not b) (a ∷ []) []))) (sym e)

-- the grains that aren't out are those left where there is no value
pub not_out_left : (plan : Plan) (seen : Seen) (v : ℕ) → left_by plan seen v None any_piece ≡ not_out plan seen v
not_out_left plan seen v = below 0 (count_of plan v) (omega arith)
  where
    and_true : (b : Bool) → (b && true) ≡ b
    and_true true = refl
    and_true false = refl

    there : (pieces : List Piece) (g : ℕ) → g < length pieces → passes any_piece (slice_get pieces g) ≡ true
    there [] g h = absurd (omega arith)
    there (x ∷ pieces) zero h = refl
    there (x ∷ pieces) (suc g) h = there pieces g (omega arith)

    below : (from n : ℕ) → from + n ≤ count_of plan v
        → filter (λ g. not (seen.out v g) && is_grain_with plan v any_piece g) (range_with_len from n)
        ≡ filter (λ g. not (seen.out v g)) (range_with_len from n)
    below from zero h = refl
    below from (suc n) h =
        ap (λ b. cond (not (seen.out v from) && b)
        (from ∷ filter (λ g. not (seen.out v g) && is_grain_with plan v any_piece g) (range_with_len (from + 1) n))
        (filter (λ g. not (seen.out v g) && is_grain_with plan v any_piece g) (range_with_len (from + 1) n)))
        (there (grains_of plan v) from (omega arith))
        ∙ (ap (λ b. cond b (from
        ∷ filter (λ g. not (seen.out v g) && is_grain_with plan v any_piece g) (range_with_len (from + 1) n))
        (filter (λ g. not (seen.out v g) && is_grain_with plan v any_piece g) (range_with_len (from + 1) n)))
        (and_true (not (seen.out v from)))
        ∙ ap (λ gs. cond (not (seen.out v from)) (from ∷ gs) gs) (below (from + 1) n (omega arith)))

-- what follows of how many grains are not out, by cases
pub last_is : (plan : Plan) (seen : Seen) (v : ℕ) (r : Remaining)
    → r ≡ remaining_of (left_by plan seen v None any_piece)
    → last_atoms plan v (not_out plan seen v) ≡ last_by plan v r
last_is plan seen v r e =
    by_cases (not_out plan seen v) ∙ ap (last_by plan v) (sym (e ∙ ap remaining_of (not_out_left plan seen v)))
  where
    by_cases : (gs : List ℕ) → last_atoms plan v gs ≡ last_by plan v (remaining_of gs)
    by_cases [] = refl
    by_cases (g ∷ []) = refl
    by_cases (g ∷ (h ∷ more)) = refl

-- what follows of how many grains are left that pass a test, by cases
abbrev pub remaining_by : Plan → ℕ → Remaining → Given Atom
remaining_by plan v Nothing = clash
remaining_by plan v (One g) = atoms (value_atoms v (only_value plan v g))
remaining_by plan v Several = nothing

pub remaining_is : (plan : Plan) (v : ℕ) (gs : List ℕ) (r : Remaining) → r ≡ remaining_of gs
    → of_remaining plan v gs ≡ remaining_by plan v r
remaining_is plan v gs r e = by_cases gs ∙ ap (remaining_by plan v) (sym e)
  where
    by_cases : (gs : List ℕ) → of_remaining plan v gs ≡ remaining_by plan v (remaining_of gs)
    by_cases [] = refl
    by_cases (g ∷ []) = refl
    by_cases (g ∷ (h ∷ more)) = refl
