-- What premises that stand say is a part of what is seen; and what is said from one list of premises follows where
-- those are enough.
use Rattle.std.proofs.Common.{◌≡◌, ℕ, Bool, true, not, List, [], ◌∷◌, map, refl, sym, ◌∙◌, ap, subst}
use Rattle.std.specs.Prelude.{Option, None, Some}
use Rattle.std.specs.List.{filter, list_all, AllByRecursion}
use Rattle.std.proofs.lemmas.Bool.{and_from, not-true, not_from_false, false_from_ne_true}
use Rattle.vc_base.specs.Rounds.{Given, clash, atoms, is_clash, atoms_of}
use Rattle.vc_base.specs.Sets.{has}
use Rattle.vc_base.proofs.SetLaws.{all_at, all_from, has_more, has_first, has_filter, both}
use Rattle.vc_value.specs.declared.value.Value.{Value}
use Rattle.vc_plan.specs.declared.atoms.Atom.{Atom}
use Rattle.vc_plan.specs.declared.atoms.Atom.TheVariants.{Here, Out, Is}
use Rattle.vc_plan.specs.declared.plans.Plan.{Plan}
use Rattle.vc_plan.specs.Domains.{is_grain_with}
use Rattle.vc_plan.specs.Pieces.{lies_in}
use Rattle.vc_plan.specs.Seen.{Seen, same_atom, seen_of, value_in, is_value, says, is_left_by}
use Rattle.vc_plan.proofs.PlanLaws.Atoms.{atom_exact, atom_itself, value_exact, value_itself}
use Rattle.vc_plan.proofs.PlanLaws.Extending.{value_has, value_read}
use Rattle.vc_plan_values.specs.Computing.{ValuesAreLeft}
use Rattle.vc_rule_premises.specs.Laws.{PremisesAreAPart}
use Rattle.vc_rule_premises.specs.Saying.{conclusion_from, said_from}
use Rattle.vc_rule_premises.specs.Sufficing.{IsPartOf, SaysAll, each_premise, Follows, EachFollows, seen_from}

-- a value that is said is the one that is seen
pub value_said : (seen : Seen) (v : ℕ) (a : Value) → says seen (Is v a) ≡ true → seen.value v ≡ Some a
value_said seen v a e = by (seen.value v) refl e
  where
    by : (o : Option Value) → seen.value v ≡ o → is_value a o ≡ true → seen.value v ≡ Some a
    by None p k = absurd (cc)
    by (Some b) p k = p ∙ ap Some (sym (value_exact a b k))

pub value_says : (seen : Seen) (v : ℕ) (a : Value) → seen.value v ≡ Some a → says seen (Is v a) ≡ true
value_says seen v a e = ap (is_value a) e ∙ value_itself a

-- what is said by a part is said by the whole
pub part_says : (part whole : Seen) → IsPartOf part whole → (a : Atom) → says part a ≡ true → says whole a ≡ true
part_says part whole w (Here i) e = w.here i e
part_says part whole w (Out v g) e = w.out v g e
part_says part whole w (Is v a) e = value_says whole v a (w.value v a (value_said part v a e))

set_is_part : (seen : Seen) (set : List Atom) → SaysAll seen set → IsPartOf (seen_of set) seen
set_is_part seen set all = record {
  here = λ i h. all_at same_atom atom_exact atom_itself (says seen) set (Here i) all h;
  out = λ v g h. all_at same_atom atom_exact atom_itself (says seen) set (Out v g) all h;
  value = λ v a e. value_said seen v a
      (all_at same_atom atom_exact atom_itself (says seen) set (Is v a) all (value_has set v a e));
}

set_says : (seen : Seen) (set : List Atom) → SaysAll seen set → (a : Atom) → has same_atom set a ≡ true
    → says (seen_of set) a ≡ true
set_says seen set all (Here i) h = h
set_says seen set all (Out v g) h = h
set_says seen set all (Is v a) h =
    let r : (b : Value) × (value_in set v ≡ Some b) = value_read set v a h in
    let whole : seen.value v ≡ Some a
    = value_said seen v a (all_at same_atom atom_exact atom_itself (says seen) set (Is v a) all h) in
    let part : IsPartOf (seen_of set) seen = set_is_part seen set all in
    value_says (seen_of set) v a (r.1 ∙ (sym (part.value v r.0 r.1) ∙ whole))

pub premises_are_a_part : PremisesAreAPart
premises_are_a_part seen premises root all =
    let whole : SaysAll seen (Here 0 ∷ premises) = and_from (seen.here 0) (list_all (says seen) premises) root all in (
      set_is_part seen (Here 0 ∷ premises) whole,
      all_from same_atom atom_exact atom_itself (says (seen_from premises)) premises
          (λ a h. set_says seen (Here 0 ∷ premises) whole a
          (has_more same_atom atom_exact atom_itself (Here 0) premises a h)),
    )

-- what all premises pass, those of each conclusion pass
pub each_from : (test : Atom → Bool) (seen : Seen) (why : List Atom) (given : Given Atom) → list_all test why ≡ true
    → each_premise test (said_from seen why given) ≡ true
each_from test seen why clash e = e
each_from test seen why (atoms xs) e = all_of (filter (λ a. not (says seen a)) xs)
  where
    all_of : (ys : List Atom) → list_all (λ c. list_all test c.premises) (map (conclusion_from why) ys) ≡ true
    all_of [] = refl
    all_of (y ∷ ys) = and_from (list_all test why)
        (list_all (λ c. list_all test c.premises) (map (conclusion_from why) ys)) e (all_of ys)

-- where premises make what is given the same, all of it follows from them
pub follows_from : (gives : Seen → Given Atom) (seen : Seen) (why : List Atom)
    → ((part : Seen) → IsPartOf part seen → SaysAll part why → gives part ≡ gives seen)
    → EachFollows gives seen (said_from seen why (gives seen))
follows_from gives seen why f = by (gives seen) refl
  where
    each : (xs ys : List Atom) → gives seen ≡ atoms xs
        → ((a : Atom) → has same_atom ys a ≡ true → has same_atom xs a ≡ true)
        → AllByRecursion (Follows gives seen) (map (conclusion_from why) ys)
    each xs [] e within = tt
    each xs (y ∷ ys) e within = (
      λ part p h. ap (λ z. has same_atom (atoms_of z) y) (f part p h ∙ e)
          ∙ within y (has_first same_atom atom_exact atom_itself y ys),
      each xs ys e (λ a h. within a (has_more same_atom atom_exact atom_itself y ys a h)),
    )

    by : (given : Given Atom) → gives seen ≡ given → EachFollows gives seen (said_from seen why given)
    by clash e = λ part p h. ap is_clash (f part p h ∙ e)
    by (atoms xs) e =
        each xs (filter (λ a. not (says seen a)) xs) e
        (λ a h. let k = has_filter same_atom atom_exact atom_itself (λ c. not (says seen c)) xs a h in k.0)

-- a grain that is left stays left at a part
pub left_by : (plan : Plan) (seen part : Seen) → IsPartOf part seen → ValuesAreLeft plan seen
    → (v g : ℕ) (o p : Option Value)
    → part.value v ≡ o → seen.value v ≡ p → is_left_by plan seen v g p ≡ true → is_left_by plan part v g o ≡ true
left_by plan seen part w kept v g None None e k h =
    not_from_false (part.out v g)
    (false_from_ne_true (part.out v g) (λ q. both (w.out v g q) (not-true (seen.out v g) h)))
left_by plan seen part w kept v g None (Some b) e k h =
    not_from_false (part.out v g) (false_from_ne_true (part.out v g) (λ q. both (w.out v g q) (kept v g b k h)))
left_by plan seen part w kept v g (Some a) None e k h =
    let no : None ≡ Some a = sym k ∙ w.value v a e in absurd (cc)
left_by plan seen part w kept v g (Some a) (Some b) e k h =
    let now : Some b ≡ Some a = sym k ∙ w.value v a e in
    let same : b ≡ a = cc in
    subst (λ z. is_grain_with plan v (lies_in z) g ≡ true) same h
