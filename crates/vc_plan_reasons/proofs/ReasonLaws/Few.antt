-- Of each thing a clear set has few atoms.
use Rattle.std.proofs.Common.{◌≡◌, ℕ, ◌≤◌, ◌<◌, Bool, true, false, cond, List, [], ◌∷◌, ◌++◌, length, map, ap, ◌∙◌}
use Rattle.std.proofs.Common.{subst, arith, length-append}
use Rattle.std.specs.Prelude.{Option, None, Some}
use Rattle.std.specs.List.{filter, AllByRecursion, IsDistinct}
use Rattle.std.proofs.lemmas.Bool.{eqb-true, ltb-true}
use Rattle.std.proofs.lemmas.List.{length-map}
use Rattle.std.proofs.lemmas.List.FromFn.{length-range_with_len}
use Rattle.std.proofs.lemmas.Map.Made.{length-le_from_is_member}
use Rattle.vc_base.specs.Sets.{has}
use Rattle.vc_base.proofs.ListLaws.{range_has}
use Rattle.vc_base.proofs.SetLaws.{has_back, has_filter, has_first, has_front}
use Rattle.vc_value.specs.declared.value.Value.{Value}
use Rattle.vc_plan.specs.declared.atoms.Atom.{Atom}
use Rattle.vc_plan.specs.declared.atoms.Atom.TheVariants.{Here, Out, Is}
use Rattle.vc_plan.specs.declared.plans.Plan.{Plan}
use Rattle.vc_plan.specs.Answers.{value_atoms}
use Rattle.vc_plan.specs.Domains.{numbers_below, count_of}
use Rattle.vc_plan.specs.Seen.{same_atom, value_in}
use Rattle.vc_plan.proofs.PlanLaws.Atoms.{atom_equivalence, atom_exact, atom_itself}
use Rattle.vc_plan.proofs.PlanLaws.Bound.{has_image}
use Rattle.vc_plan.proofs.PlanLaws.Extending.{one_value, value_has, value_read}
use Rattle.vc_plan.proofs.PlanLaws.Facts.{Facts, facts}
use Rattle.vc_plan_reasons.specs.Laws.{FewOfAThing}
use Rattle.vc_plan_reasons.specs.Things.{Thing, slot_at, var_at, same_thing, thing_of, size_of}

-- a part of a list without doubles has none
all_kept : (P : Atom → Type 0) (p : Atom → Bool) (xs : List Atom) → AllByRecursion P xs → AllByRecursion P (filter p xs)
all_kept P p [] h = tt
all_kept P p (x ∷ xs) h = choice (p x) (filter p xs) h.0 (all_kept P p xs h.1)
  where
    choice : (b : Bool) (rest : List Atom) → P x → AllByRecursion P rest → AllByRecursion P (cond b (x ∷ rest) rest)
    choice true rest one all = (one, all)
    choice false rest one all = all

distinct_kept : (p : Atom → Bool) (xs : List Atom) → IsDistinct same_atom xs → IsDistinct same_atom (filter p xs)
unfolding IsDistinct
distinct_kept p [] d = tt
distinct_kept p (x ∷ xs) d =
    choice (p x) (filter p xs) (all_kept (λ b. same_atom x b ≡ false) p xs d.0) (distinct_kept p xs d.1)
  where
    choice : (b : Bool) (rest : List Atom) → AllByRecursion (λ c. same_atom x c ≡ false) rest
        → IsDistinct same_atom rest
        → IsDistinct same_atom (cond b (x ∷ rest) rest)
    choice true rest one all = (one, all)
    choice false rest one all = all

-- the atoms of a thing that a clear set may have: its slot, or its value there and its grains
abbrev atoms_at : Plan → List Atom → Thing → List Atom
atoms_at plan set (slot_at i) = Here i ∷ []
atoms_at plan set (var_at v) = value_atoms v (value_in set v) ++ map (Out v) (numbers_below (count_of plan v))

few_values : (v : ℕ) (o : Option Value) → length (value_atoms v o) ≤ 1
few_values v None = omega arith
few_values v (Some a) = omega arith

few_at : (plan : Plan) (set : List Atom) (thing : Thing) → length (atoms_at plan set thing) ≤ size_of plan thing
few_at plan set (slot_at i) = omega arith
few_at plan set (var_at v) =
    let outs : length (map (Out v) (numbers_below (count_of plan v))) ≡ count_of plan v
    = length-map (numbers_below (count_of plan v)) (Out v) ∙ length-range_with_len 0 (count_of plan v) in
    let values = few_values v (value_in set v) in
    omega (
      arith,
      length-append (value_atoms v (value_in set v)) (map (Out v) (numbers_below (count_of plan v))),
      outs,
      values,
    )

-- each atom of the thing is one of them
value_here : (v : ℕ) (a : Value) (o : Option Value) → o ≡ Some a → has same_atom (value_atoms v o) (Is v a) ≡ true
value_here v a o e = ap (λ p. has same_atom (value_atoms v p) (Is v a)) e
    ∙ has_first same_atom atom_exact atom_itself (Is v a) []

at_thing : (plan : Plan) (set : List Atom) → Facts plan set → (thing : Thing) (a : Atom) → has same_atom set a ≡ true
    → same_thing (thing_of a) thing ≡ true → has same_atom (atoms_at plan set thing) a ≡ true
at_thing plan set f (slot_at i) (Here j) h e =
    let is : j ≡ i = eqb-true j i e in
    subst (λ k. has same_atom (Here k ∷ []) (Here j) ≡ true) is (has_first same_atom atom_exact atom_itself (Here j) [])
at_thing plan set f (slot_at i) (Out w g) h e = absurd (cc e)
at_thing plan set f (slot_at i) (Is w b) h e = absurd (cc e)
at_thing plan set f (var_at v) (Here j) h e = absurd (cc e)
at_thing plan set f (var_at v) (Out w g) h e =
    let is : w ≡ v = eqb-true w v e in
    let below : g < count_of plan w = ltb-true g (count_of plan w) (f.named (Out w g) h) in
    subst (λ u. has same_atom (atoms_at plan set (var_at u)) (Out w g) ≡ true) is
    (has_back same_atom atom_exact atom_itself (value_atoms w (value_in set w))
    (map (Out w) (numbers_below (count_of plan w))) (Out w g)
    (has_image (Out w) (numbers_below (count_of plan w)) g
    (range_has 0 (count_of plan w) g (omega arith) (omega (arith, below)))))
at_thing plan set f (var_at v) (Is w b) h e =
    let is : w ≡ v = eqb-true w v e in
    let r = value_read set w b h in
    let same : r.0 ≡ b = one_value plan set f w r.0 b (value_has set w r.0 r.1) h in
    subst (λ u. has same_atom (atoms_at plan set (var_at u)) (Is w b) ≡ true) is
    (has_front same_atom atom_exact atom_itself (value_atoms w (value_in set w))
    (map (Out w) (numbers_below (count_of plan w))) (Is w b)
    (value_here w b (value_in set w) (r.1 ∙ ap Some same)))

pub few_of_a_thing : FewOfAThing
few_of_a_thing plan set thing clear distinct =
    let f : Facts plan set = facts plan set clear in
    let own : Atom → Bool = λ atom. same_thing (thing_of atom) thing in
    let most : length (filter own set) ≤ length (atoms_at plan set thing)
    = length-le_from_is_member atom_equivalence (filter own set) (atoms_at plan set thing)
    (distinct_kept own set distinct)
    (λ a h. let p = has_filter same_atom atom_exact atom_itself own set a h in at_thing plan set f thing a p.0 p.1) in
    let few = few_at plan set thing in
    omega (arith, most, few)
