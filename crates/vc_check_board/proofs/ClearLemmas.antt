-- A set is clear just where its atoms are named and each stands well in it.
use Rattle.std.proofs.Common.{◌≡◌, ℕ, ◌<◌, Bool, true, false, cond, not, ◌&&◌, ◌==◌, List, length, refl}
use Rattle.std.proofs.Common.{sym, ◌∙◌, ap, subst, inl, inr, arith}
use Rattle.std.specs.Prelude.{nat_eq, Option, None, Some}
use Rattle.std.specs.List.{list_all}
use Rattle.std.proofs.lemmas.Bool.{and_parts, and_from, not-true, not_from_false, false_from_ne_true, eqb-true}
use Rattle.std.proofs.lemmas.Bool.{cases_lt}
use Rattle.vc_base.specs.Sets.{has}
use Rattle.vc_base.proofs.ListLaws.{number_exact, number_itself, range_has}
use Rattle.vc_base.proofs.SetLaws.{both, same_test, all_at, all_from}
use Rattle.vc_value.specs.declared.value.Value.{Value}
use Rattle.vc_plan.specs.declared.atoms.Atom.{Atom}
use Rattle.vc_plan.specs.declared.atoms.Atom.TheVariants.{Here, Out, Is}
use Rattle.vc_plan.specs.declared.plans.Plan.{Plan}
use Rattle.vc_plan.specs.Clear.{is_named, collides, are_all_out, is_exhausted, is_clear}
use Rattle.vc_plan.specs.Domains.{numbers_below, count_of, is_grain_with}
use Rattle.vc_plan.specs.Pieces.{same_value, lies_in}
use Rattle.vc_plan.specs.Seen.{Seen, same_atom, seen_of, value_in, is_value, is_here}
use Rattle.vc_plan.proofs.PlanLaws.Atoms.{atom_exact, atom_itself, value_exact, value_itself}
use Rattle.vc_plan.proofs.PlanLaws.Extending.{value_has, value_read}
use Rattle.vc_plan.proofs.PlanLaws.Facts.{Facts, facts, clear_from, not_exhausted_past}
use Rattle.vc_check_board.specs.Fitting.{HaveGrains, is_apart, grain_fits, fits}

-- where the value that is read is this one
read_is : (set : List Atom) (v : ℕ) (a : Value) → is_value a (value_in set v) ≡ true → value_in set v ≡ Some a
read_is set v a e = by (value_in set v) refl e
  where
    by : (o : Option Value) → value_in set v ≡ o → is_value a o ≡ true → value_in set v ≡ Some a
    by None q k = absurd (cc)
    by (Some b) q k = q ∙ ap Some (sym (value_exact a b k))

module _ (plan : Plan) (set : List Atom) where
  seen : Seen
  seen = seen_of set

  -- each atom of a clear set stands well
  apart_in : Facts plan set → (v g : ℕ) → has same_atom set (Out v g) ≡ true → is_apart plan v g (value_in set v) ≡ true
  apart_in f v g h = by (value_in set v) refl
    where
      by : (o : Option Value) → value_in set v ≡ o → is_apart plan v g o ≡ true
      by None e = refl
      by (Some a) e =
          not_from_false (is_grain_with plan v (lies_in a) g)
          (let p = f.apart (Is v a) (Out v g) (value_has set v a e) h in
          ap (λ b. b && is_grain_with plan v (lies_in a) g) (sym (number_itself v)) ∙ p)

  grain_in : Facts plan set → (v g : ℕ) → grain_fits plan (seen_of set) v g ≡ true
  grain_in f v g = either (g == 0) (not (is_exhausted plan (seen_of set) v))
      (not_from_false (is_exhausted plan (seen_of set) v) (f.room v))
    where
      either : (b c : Bool) → c ≡ true → cond b c true ≡ true
      either true c e = e
      either false c e = refl

  value_fits : Facts plan set → (v : ℕ) (a : Value) → has same_atom set (Is v a) ≡ true
      → is_value a (value_in set v) ≡ true
  value_fits f v a h =
      let r = value_read set v a h in
      let b = r.0 in
      let p = f.apart (Is v a) (Is v b) h (value_has set v b r.1) in
      let same : not (same_value a b) ≡ false
      = ap (λ c. c && not (same_value a b)) (sym (number_itself v)) ∙ p in
      ap (is_value a) r.1 ∙ is_true_not (same_value a b) same
    where
      is_true_not : (b : Bool) → not b ≡ false → b ≡ true
      is_true_not true e = refl
      is_true_not false e = absurd (cc)

  atom_fits : Facts plan set → (a : Atom) → has same_atom set a ≡ true → fits plan (seen_of set) a ≡ true
  atom_fits f (Here i) h = refl
  atom_fits f (Out v g) h =
      and_from (is_apart plan v g (value_in set v)) (grain_fits plan (seen_of set) v g) (apart_in f v g h)
      (grain_in f v g)
  atom_fits f (Is v a) h = value_fits f v a h

  -- where each does, no two collide, and no variable has run out of grains
  module _ (all : (a : Atom) → has same_atom set a ≡ true → fits plan (seen_of set) a ≡ true) where
    value_at : (v : ℕ) (a : Value) → has same_atom set (Is v a) ≡ true → value_in set v ≡ Some a
    value_at v a h = read_is set v a (all (Is v a) h)

    no_collision : (a b : Atom) → has same_atom set a ≡ true → has same_atom set b ≡ true → collides plan a b ≡ false
    no_collision (Here i) b h k = refl
    no_collision (Out v g) b h k = refl
    no_collision (Is v a) (Here j) h k = refl
    no_collision (Is v a) (Out w g) h k =
        false_from_ne_true ((v == w) && is_grain_with plan v (lies_in a) g) (λ e.
        let p : ((v == w) ≡ true) × (is_grain_with plan v (lies_in a) g ≡ true)
        = and_parts (v == w) (is_grain_with plan v (lies_in a) g) e in
        let same : v ≡ w = eqb-true v w p.0 in
        let q : (is_apart plan w g (value_in set w) ≡ true) × (grain_fits plan (seen_of set) w g ≡ true)
        = and_parts (is_apart plan w g (value_in set w)) (grain_fits plan (seen_of set) w g) (all (Out w g) k) in
        let read : value_in set w ≡ Some a = ap (value_in set) (sym same) ∙ value_at v a h in
        let free : is_apart plan w g (Some a) ≡ true = ap (is_apart plan w g) (sym read) ∙ q.0 in
        both (ap (λ u. is_grain_with plan u (lies_in a) g) (sym same) ∙ p.1)
        (not-true (is_grain_with plan w (lies_in a) g) free))
    no_collision (Is v a) (Is w b) h k =
        false_from_ne_true ((v == w) && not (same_value a b)) (λ e.
        let p : ((v == w) ≡ true) × (not (same_value a b) ≡ true)
        = and_parts (v == w) (not (same_value a b)) e in
        let same : v ≡ w = eqb-true v w p.0 in
        let one : Some a ≡ Some b
        = sym (value_at v a h) ∙ (ap (value_in set) same ∙ value_at w b k) in
        let alike : a ≡ b = cc in
        both (subst (λ c. same_value a c ≡ true) alike (value_itself a)) (not-true (same_value a b) p.1))

    module _ (grains : HaveGrains plan) where
      first_out : (v n : ℕ) → n ≡ count_of plan v → 0 < n → are_all_out plan (seen_of set) v ≡ true
          → has same_atom set (Out v 0) ≡ true
      first_out v n e some out =
          all_at nat_eq number_exact number_itself ((seen_of set).out v) (numbers_below (count_of plan v)) 0 out
          (range_has 0 (count_of plan v) 0 (omega arith) (omega (arith, e)))

      room_below : (v : ℕ) → v < length plan.vars → is_exhausted plan (seen_of set) v ≡ false
      room_below v below =
          false_from_ne_true (is_exhausted plan (seen_of set) v) (λ e.
          let p : (is_here plan (seen_of set) v ≡ true) × (are_all_out plan (seen_of set) v ≡ true)
          = and_parts (is_here plan (seen_of set) v) (are_all_out plan (seen_of set) v) e in
          let first = first_out v (count_of plan v) refl (grains v below) p.1 in
          let q : (is_apart plan v 0 (value_in set v) ≡ true) × (grain_fits plan (seen_of set) v 0 ≡ true)
          = and_parts (is_apart plan v 0 (value_in set v)) (grain_fits plan (seen_of set) v 0)
          (all (Out v 0) first) in
          both e (not-true (is_exhausted plan (seen_of set) v) q.1))

      facts_from : ((a : Atom) → has same_atom set a ≡ true → is_named plan a ≡ true) → Facts plan set
      facts_from named = record {
        named = named;
        apart = no_collision;
        room = λ v. elim (cases_lt v (length plan.vars)) [
          | inl below ↦ room_below v below
          | inr past ↦ not_exhausted_past plan (seen_of set) v past
        ];
      }

-- the test that looks up is the definition
pub clear_where_named : (plan : Plan) → HaveGrains plan → (set : List Atom) (said : Seen) → said ≡ seen_of set
    → list_all (is_named plan) set ≡ true
    → list_all (fits plan said) set ≡ is_clear plan set
clear_where_named plan grains set said is names =
    ap (λ s. list_all (fits plan s) set) is ∙ same_test
    (list_all (fits plan (seen_of set)) set) (is_clear plan set)
    (λ e.
    clear_from plan set
    (facts_from plan set
    (λ a h. all_at same_atom atom_exact atom_itself (fits plan (seen_of set)) set a e h) grains
    (λ a h. all_at same_atom atom_exact atom_itself (is_named plan) set a names h)))
    (λ e. all_from same_atom atom_exact atom_itself (fits plan (seen_of set)) set
    (atom_fits plan set (facts plan set e)))

pub unclear_where_not : (plan : Plan) (set : List Atom) → list_all (is_named plan) set ≡ false
    → is_clear plan set ≡ false
unclear_where_not plan set none =
    false_from_ne_true (is_clear plan set)
    (λ e. both (all_from same_atom atom_exact atom_itself (is_named plan) set (facts plan set e).named) none)

pub ruleset looking_up = (clear_where_named, unclear_where_not)
