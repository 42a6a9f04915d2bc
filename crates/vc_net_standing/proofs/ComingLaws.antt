-- A clear set stays clear with an atom just where that may come.
use Rattle.std.proofs.Common.{◌≡◌, ℕ, ◌<◌, Bool, true, false, not, ◌&&◌, ◌||◌, ◌⊎◌, List, [], ◌∷◌, ◌++◌, length, refl}
use Rattle.std.proofs.Common.{sym, ◌∙◌, ap, subst, inl, inr, arith}
use Rattle.std.specs.Prelude.{None, Some, Option, option_to_list, slice_get, ◌==◌, nat_eq}
use Rattle.std.specs.List.{list_any, list_all}
use Rattle.std.proofs.lemmas.Bool.{and_from, and_parts, cases_lt, false_from_ne_true, ltb-true, not_from_false}
use Rattle.std.proofs.lemmas.Bool.{or_cases, or_left, or_right}
use Rattle.vc_base.specs.Sets.{has}
use Rattle.vc_base.proofs.ListLaws.{number_exact, number_itself, range_has}
use Rattle.vc_base.proofs.SetLaws.{both, has_back, has_cases, has_either, has_first, has_front, same_test, told}
use Rattle.vc_value.specs.declared.value.Value.{Value}
use Rattle.vc_plan.specs.declared.atoms.Atom.{Atom}
use Rattle.vc_plan.specs.declared.atoms.Atom.TheVariants.{Here, Out, Is}
use Rattle.vc_plan.specs.declared.plans.Plan.{Plan}
use Rattle.vc_plan.specs.Clear.{are_all_out, collides, is_clear, is_exhausted, is_named}
use Rattle.vc_plan.specs.Domains.{numbers_below, count_of, is_grain_with}
use Rattle.vc_plan.specs.Pieces.{same_value, lies_in}
use Rattle.vc_plan.specs.Seen.{is_here, is_slot_here, same_atom, seen_of, slot_in, value_in}
use Rattle.vc_plan.proofs.PlanLaws.Atoms.{atom_exact, atom_itself, value_exact, value_itself}
use Rattle.vc_plan.proofs.PlanLaws.Extending.{one_value, value_has, value_read}
use Rattle.vc_plan.proofs.PlanLaws.Facts.{Facts, clear_from, facts, not_exhausted_past, slot_stays}
use Rattle.vc_plan.proofs.PlanLaws.Lists.{all_grows}
use Rattle.vc_plan_reasons.specs.Checking.{set_with}
use Rattle.vc_plan_blame.specs.Blame.{uses_up}
use Rattle.vc_plan_blame.proofs.BlameLaws.Unclear.{exhausted_is_touched}
use Rattle.vc_net_standing.specs.Coming.{agrees, is_held_by, leaves_grains, may_be, may_come}
use Rattle.vc_net_standing.specs.Laws.{WhoMayComeStaysClear}

pub not_true : (b : Bool) → not b ≡ true → b ≡ false
not_true true e = absurd (cc)
not_true false e = refl

pub none_any : (p : ℕ → Bool) (xs : List ℕ) → ((x : ℕ) → p x ≡ false) → list_any p xs ≡ false
none_any p [] f = refl
none_any p (x ∷ xs) f = ap (λ b. b || list_any p xs) (f x) ∙ none_any p xs f

none_at : (p : ℕ → Bool) (xs : List ℕ) (n : ℕ) → has nat_eq xs n ≡ true → list_any p xs ≡ false → p n ≡ false
none_at p [] n h e = absurd (cc)
none_at p (x ∷ xs) n h e =
    elim (has_cases nat_eq number_exact number_itself x xs n h) [
      | inl same ↦ ap p same ∙ (halves (p x) (list_any p xs) e).0
      | inr later ↦ none_at p xs n later (halves (p x) (list_any p xs) e).1
    ]
  where
    halves : (b c : Bool) → (b || c) ≡ false → (b ≡ false) × (c ≡ false)
    halves true c e = absurd (cc)
    halves false c e = (refl, e)

none_below : (p : ℕ → Bool) (count n : ℕ) → n < count → list_any p (numbers_below count) ≡ false → p n ≡ false
none_below p count n low e = none_at p (numbers_below count) n
    (range_has 0 count n (omega arith) (omega (arith, low))) e

-- both parts of a test can't hold
half : (b c : Bool) → (b && c) ≡ false → b ≡ true → c ≡ false
half true c e f = e
half false c e f = absurd (cc)

unless : (b c : Bool) → (b && not c) ≡ false → b ≡ true → c ≡ true
unless true true e f = refl
unless true false e f = absurd (cc)
unless false c e f = absurd (cc)

module _ (plan : Plan) (stand : List Atom) (atom : Atom) (clear : is_clear plan (set_with stand) ≡ true) where
  abbrev old : List Atom
  old = set_with stand

  abbrev new : List Atom
  new = set_with (stand ++ atom ∷ [])

  known : Facts plan old
  known = facts plan old clear

  itself : has same_atom new atom ≡ true
  itself = has_back same_atom atom_exact atom_itself old (atom ∷ []) atom
      (has_first same_atom atom_exact atom_itself atom [])

  stays : (a : Atom) → has same_atom old a ≡ true → has same_atom new a ≡ true
  stays a h = has_front same_atom atom_exact atom_itself old (atom ∷ []) a h

  came : (a : Atom) → has same_atom new a ≡ true → (a ≡ atom) ⊎ (has same_atom old a ≡ true)
  came a h =
      elim (has_either same_atom atom_exact atom_itself old (atom ∷ []) a h) [
        | inl p ↦ inr p
        | inr p ↦ elim (has_cases same_atom atom_exact atom_itself atom [] a p) [
          | inl e ↦ inl e
          | inr none ↦ absurd (cc)
        ]
      ]

-- what is clear with the atom says that it may come
module _ (plan : Plan) (stand : List Atom) where
  held : (v g : ℕ) → Facts plan (set_with (stand ++ Out v g ∷ [])) → (o : Option Value)
      → value_in (set_with stand) v ≡ o → is_held_by plan v g o ≡ false
  held v g f None e = refl
  held v g f (Some a) e =
      let old : has same_atom (set_with stand) (Is v a) ≡ true = value_has (set_with stand) v a e in
      half (v == v) (is_grain_with plan v (lies_in a) g)
      (f.apart (Is v a) (Out v g)
      (has_front same_atom atom_exact atom_itself (set_with stand) (Out v g ∷ []) (Is v a) old)
      (has_back same_atom atom_exact atom_itself (set_with stand) (Out v g ∷ []) (Out v g)
      (has_first same_atom atom_exact atom_itself (Out v g) []))) (number_itself v)

  valued : (v : ℕ) (a : Value) → Facts plan (set_with (stand ++ Is v a ∷ [])) → (o : Option Value)
      → value_in (set_with stand) v ≡ o → may_be a o ≡ true
  valued v a f None e = refl
  valued v a f (Some b) e =
      let old : has same_atom (set_with stand) (Is v b) ≡ true = value_has (set_with stand) v b e in
      unless (v == v) (same_value a b)
      (f.apart (Is v a) (Is v b)
      (has_back same_atom atom_exact atom_itself (set_with stand) (Is v a ∷ []) (Is v a)
      (has_first same_atom atom_exact atom_itself (Is v a) []))
      (has_front same_atom atom_exact atom_itself (set_with stand) (Is v a ∷ []) (Is v b) old)) (number_itself v)

  not_out : (v : ℕ) (a : Value) → Facts plan (set_with (stand ++ Is v a ∷ [])) → (g : ℕ) (b : Bool)
      → has same_atom (set_with stand) (Out v g) ≡ b → (is_grain_with plan v (lies_in a) g && b) ≡ false
  not_out v a f g false e = by (is_grain_with plan v (lies_in a) g)
    where
      by : (b : Bool) → (b && false) ≡ false
      by true = refl
      by false = refl
  not_out v a f g true e =
      ap (λ b. b && true) (half (v == v) (is_grain_with plan v (lies_in a) g)
      (f.apart (Is v a) (Out v g)
      (has_back same_atom atom_exact atom_itself (set_with stand) (Is v a ∷ []) (Is v a)
      (has_first same_atom atom_exact atom_itself (Is v a) []))
      (has_front same_atom atom_exact atom_itself (set_with stand) (Is v a ∷ []) (Out v g) e)) (number_itself v))

  here_stays : (atom : Atom) (v : ℕ) → is_here plan (seen_of (set_with stand)) v ≡ true
      → is_here plan (seen_of (set_with (stand ++ atom ∷ []))) v ≡ true
  here_stays atom v e =
      slot_stays (seen_of (set_with stand)) (seen_of (set_with (stand ++ atom ∷ [])))
      (λ i h. has_front same_atom atom_exact atom_itself (set_with stand) (atom ∷ []) (Here i) h)
      (slot_in (slice_get plan.vars v)) e

  out_stays : (atom : Atom) (v h : ℕ) → has same_atom (set_with stand) (Out v h) ≡ true
      → has same_atom (set_with (stand ++ atom ∷ [])) (Out v h) ≡ true
  out_stays atom v h e = has_front same_atom atom_exact atom_itself (set_with stand) (atom ∷ []) (Out v h) e

  slot_brought : (o : Option ℕ) (i : ℕ) → list_any (λ j. j == i) (option_to_list o) ≡ true
      → is_slot_here (seen_of (set_with (stand ++ Here i ∷ []))) o ≡ true
  slot_brought None i e = absurd (cc)
  slot_brought (Some j) i e =
      elim (or_cases (j == i) false e) [
        | inl same ↦ subst (λ k. has same_atom (set_with (stand ++ Here i ∷ [])) (Here k) ≡ true)
            (sym (number_exact j i same))
            (has_back same_atom atom_exact atom_itself (set_with stand) (Here i ∷ []) (Here i)
            (has_first same_atom atom_exact atom_itself (Here i) []))
        | inr none ↦ absurd (cc)
      ]

  agreed : (atom : Atom) → Facts plan (set_with (stand ++ atom ∷ []))
      → agrees plan (seen_of (set_with stand)) atom ≡ true
  agreed (Here i) f = refl
  agreed (Out v g) f = not_from_false (is_held_by plan v g (value_in (set_with stand) v))
      (held v g f (value_in (set_with stand) v) refl)
  agreed (Is v a) f =
      let out = list_any (λ g. is_grain_with plan v (lies_in a) g && has same_atom (set_with stand) (Out v g))
      (numbers_below (count_of plan v)) in
      and_from (may_be a (value_in (set_with stand) v)) (not out) (valued v a f (value_in (set_with stand) v) refl)
      (not_from_false out (none_any (λ g. is_grain_with plan v (lies_in a) g && has same_atom (set_with stand)
      (Out v g)) (numbers_below (count_of plan v))
      (λ g. not_out v a f g (has same_atom (set_with stand) (Out v g)) refl)))

  left_over : (atom : Atom) → Facts plan (set_with (stand ++ atom ∷ [])) → leaves_grains plan
      (seen_of (set_with stand)) atom ≡ true
  left_over (Here i) f =
      let seen = seen_of (set_with stand) in
      not_from_false (list_any (λ v. uses_up plan v (Here i) && are_all_out plan seen v)
      (numbers_below (length plan.vars)))
      (none_any (λ v. uses_up plan v (Here i) && are_all_out plan seen v) (numbers_below (length plan.vars))
      (λ v. false_from_ne_true (uses_up plan v (Here i) && are_all_out plan seen v) (λ e.
      let p = and_parts (uses_up plan v (Here i)) (are_all_out plan seen v) e in
      both (and_from (is_here plan (seen_of (set_with (stand ++ Here i ∷ []))) v)
      (are_all_out plan (seen_of (set_with (stand ++ Here i ∷ []))) v)
      (slot_brought (slot_in (slice_get plan.vars v)) i p.0)
      (all_grows (λ h. has same_atom (set_with stand) (Out v h))
      (λ h. has same_atom (set_with (stand ++ Here i ∷ [])) (Out v h))
      (λ h k. out_stays (Here i) v h k) (numbers_below (count_of plan v)) p.1)) (f.room v))))
  left_over (Out v g) f =
      let seen = seen_of (set_with stand) in
      let others = list_all (λ h. (h == g) || has same_atom (set_with stand) (Out v h))
      (numbers_below (count_of plan v)) in
      not_from_false (is_here plan seen v && others) (false_from_ne_true (is_here plan seen v && others) (λ e.
      let p = and_parts (is_here plan seen v) others e in
      both (and_from (is_here plan (seen_of (set_with (stand ++ Out v g ∷ []))) v)
      (are_all_out plan (seen_of (set_with (stand ++ Out v g ∷ []))) v)
      (here_stays (Out v g) v p.0)
      (all_grows (λ h. (h == g) || has same_atom (set_with stand) (Out v h))
      (λ h. has same_atom (set_with (stand ++ Out v g ∷ [])) (Out v h))
      (λ h k. elim (or_cases (h == g) (has same_atom (set_with stand) (Out v h)) k) [
        | inl same ↦ subst (λ x. has same_atom (set_with (stand ++ Out v g ∷ [])) (Out v x) ≡ true)
            (sym (number_exact h g same))
            (has_back same_atom atom_exact atom_itself (set_with stand) (Out v g ∷ []) (Out v g)
            (has_first same_atom atom_exact atom_itself (Out v g) []))
        | inr before ↦ out_stays (Out v g) v h before
      ]) (numbers_below (count_of plan v)) p.1)) (f.room v)))
  left_over (Is v a) f = refl

-- who may come collides with nothing
and_false : (b c : Bool) → c ≡ false → (b && c) ≡ false
and_false true c e = e
and_false false c e = refl

other_half : (b c : Bool) → (b && c) ≡ false → c ≡ true → b ≡ false
other_half true c e f = absurd (both f e)
other_half false c e f = refl

same_back : (a b : Value) → same_value b a ≡ true → not (same_value a b) ≡ false
same_back a b e = ap not (ap (same_value a) (value_exact b a e) ∙ value_itself a)

value_of : (plan : Plan) (set : List Atom) → Facts plan set → (v w : ℕ) (a : Value) → has same_atom set (Is v a) ≡ true
    → (v == w) ≡ true → value_in set w ≡ Some a
value_of plan set f v w a h e =
    let r = value_read set v a h in
    let same : a ≡ r.0 = one_value plan set f v a r.0 h (value_has set v r.0 r.1) in
    ap (value_in set) (sym (number_exact v w e)) ∙ (r.1 ∙ ap (λ b. Some b) (sym same))

old_beside : (plan : Plan) (set : List Atom) → Facts plan set → (a atom : Atom) → agrees plan (seen_of set) atom ≡ true
    → has same_atom set a ≡ true → collides plan a atom ≡ false
old_beside plan set f (Here i) atom m h = refl
old_beside plan set f (Out v g) atom m h = refl
old_beside plan set f (Is v a) (Here j) m h = refl
old_beside plan set f (Is v a) (Out w g) m h =
    elim (told (v == w)) [
      | inl e ↦
          let free : is_grain_with plan w (lies_in a) g ≡ false
          = sym (ap (is_held_by plan w g) (value_of plan set f v w a h e)) ∙ not_true
          (is_held_by plan w g (value_in set w)) m in
          and_false (v == w) (is_grain_with plan v (lies_in a) g)
          (ap (λ x. is_grain_with plan x (lies_in a) g) (number_exact v w e) ∙ free)
      | inr e ↦ ap (λ b. b && is_grain_with plan v (lies_in a) g) e
    ]
old_beside plan set f (Is v a) (Is w b) m h =
    elim (told (v == w)) [
      | inl e ↦
          let fits = (and_parts (may_be b (value_in set w)) (not
          (list_any (λ g. is_grain_with plan w (lies_in b) g && has same_atom set (Out w g))
          (numbers_below (count_of plan w)))) m).0 in
          and_false (v == w) (not (same_value a b)) (same_back a b
          (sym (ap (may_be b) (value_of plan set f v w a h e)) ∙ fits))
      | inr e ↦ ap (λ t. t && not (same_value a b)) e
    ]

beside_old : (plan : Plan) (set : List Atom) → Facts plan set → (atom b : Atom) → agrees plan (seen_of set) atom ≡ true
    → has same_atom set b ≡ true → collides plan atom b ≡ false
beside_old plan set f (Here i) b m h = refl
beside_old plan set f (Out v g) b m h = refl
beside_old plan set f (Is v a) (Here j) m h = refl
beside_old plan set f (Is v a) (Out w g) m h =
    elim (told (v == w)) [
      | inl e ↦
          let is : w ≡ v = sym (number_exact v w e) in
          let out : has same_atom set (Out v g) ≡ true = subst (λ x. has same_atom set (Out x g) ≡ true) is h in
          let low : g < count_of plan v = ltb-true g (count_of plan v) (f.named (Out v g) out) in
          let none = list_any (λ k. is_grain_with plan v (lies_in a) k && has same_atom set (Out v k))
          (numbers_below (count_of plan v)) in
          let free = not_true none (and_parts (may_be a (value_in set v)) (not none) m).1 in
          and_false (v == w) (is_grain_with plan v (lies_in a) g)
          (other_half (is_grain_with plan v (lies_in a) g) (has same_atom set (Out v g))
          (none_below (λ k. is_grain_with plan v (lies_in a) k && has same_atom set (Out v k))
          (count_of plan v) g low free) out)
      | inr e ↦ ap (λ b. b && is_grain_with plan v (lies_in a) g) e
    ]
beside_old plan set f (Is v a) (Is w b) m h =
    elim (told (v == w)) [
      | inl e ↦
          let fits = (and_parts (may_be a (value_in set v)) (not
          (list_any (λ g. is_grain_with plan v (lies_in a) g && has same_atom set (Out v g))
          (numbers_below (count_of plan v)))) m).0 in
          let turned : (w == v) ≡ true = ap (λ x. x == v) (sym (number_exact v w e)) ∙ number_itself v in
          and_false (v == w) (not (same_value a b)) (ap not (sym (ap (may_be a) (value_of plan set f w v b h turned))
          ∙ fits))
      | inr e ↦ ap (λ t. t && not (same_value a b)) e
    ]

beside_itself : (plan : Plan) (atom : Atom) → collides plan atom atom ≡ false
beside_itself plan (Here i) = refl
beside_itself plan (Out v g) = refl
beside_itself plan (Is v a) = and_false (v == v) (not (same_value a a)) (ap not (value_itself a))

-- and leaves each variable a grain
grain_of : Atom → ℕ
grain_of (Here i) = 0
grain_of (Out v g) = g
grain_of (Is v a) = 0

out_before : (set : List Atom) (i v h : ℕ) → has same_atom (set ++ Here i ∷ []) (Out v h) ≡ true → has same_atom set
    (Out v h) ≡ true
out_before set i v h k =
    elim (has_either same_atom atom_exact atom_itself set (Here i ∷ []) (Out v h) k) [
      | inl p ↦ p
      | inr p ↦ absurd (cc)
    ]

out_or_it : (set : List Atom) (w g v h : ℕ) → has same_atom (set ++ Out w g ∷ []) (Out v h) ≡ true
    → ((h == g) || has same_atom set (Out v h)) ≡ true
unfolding grain_of
out_or_it set w g v h k =
    elim (has_either same_atom atom_exact atom_itself set (Out w g ∷ []) (Out v h) k) [
      | inl p ↦ or_right (h == g) (has same_atom set (Out v h)) p
      | inr p ↦ elim (has_cases same_atom atom_exact atom_itself (Out w g) [] (Out v h) p) [
        | inl e ↦ or_left (h == g) (has same_atom set (Out v h))
            (subst (λ x. (h == x) ≡ true) (ap grain_of e) (number_itself h))
        | inr none ↦ absurd (cc)
      ]
    ]

here_before : (set : List Atom) (w g i : ℕ) → has same_atom (set ++ Out w g ∷ []) (Here i) ≡ true → has same_atom set
    (Here i) ≡ true
here_before set w g i k =
    elim (has_either same_atom atom_exact atom_itself set (Out w g ∷ []) (Here i) k) [
      | inl p ↦ p
      | inr p ↦ absurd (cc)
    ]

none_exhausted : (plan : Plan) (set : List Atom) (atom : Atom) → leaves_grains plan (seen_of set) atom ≡ true
    → (v : ℕ) → v < length plan.vars → is_exhausted plan (seen_of (set ++ atom ∷ [])) v ≡ true
    → uses_up plan v atom ≡ true → ⊥
none_exhausted plan set (Here i) may v low e u =
    let p = and_parts (is_here plan (seen_of (set ++ Here i ∷ [])) v)
    (are_all_out plan (seen_of (set ++ Here i ∷ [])) v) e in
    let all = all_grows (λ h. has same_atom (set ++ Here i ∷ []) (Out v h)) (λ h. has same_atom set (Out v h))
    (λ h k. out_before set i v h k) (numbers_below (count_of plan v)) p.1 in
    let exhausting = λ (x : ℕ). uses_up plan x (Here i) && are_all_out plan (seen_of set) x in
    both (and_from (uses_up plan v (Here i)) (are_all_out plan (seen_of set) v) u all)
    (none_below exhausting (length plan.vars) v low (not_true
    (list_any exhausting (numbers_below (length plan.vars))) may))
none_exhausted plan set (Out w g) may v low e u =
    let p = and_parts (is_here plan (seen_of (set ++ Out w g ∷ [])) v)
    (are_all_out plan (seen_of (set ++ Out w g ∷ [])) v) e in
    let all = all_grows (λ h. has same_atom (set ++ Out w g ∷ []) (Out v h))
    (λ h. (h == g) || has same_atom set (Out v h))
    (λ h k. out_or_it set w g v h k) (numbers_below (count_of plan v)) p.1 in
    let here = slot_stays (seen_of (set ++ Out w g ∷ [])) (seen_of set) (λ i h. here_before set w g i h)
    (slot_in (slice_get plan.vars v)) p.0 in
    let others = list_all (λ h. (h == g) || has same_atom set (Out v h)) (numbers_below (count_of plan v)) in
    let moved : leaves_grains plan (seen_of set) (Out v g) ≡ true
    = subst (λ x. leaves_grains plan (seen_of set) (Out x g) ≡ true) (sym (number_exact v w u)) may in
    both (and_from (is_here plan (seen_of set) v) others here all)
    (not_true (is_here plan (seen_of set) v && others) moved)
none_exhausted plan set (Is w a) may v low e u = absurd (cc)

pub who_may_come_stays_clear : WhoMayComeStaysClear
who_may_come_stays_clear plan stand atom clear =
    let old = set_with stand in
    let new = set_with (stand ++ atom ∷ []) in
    let known : Facts plan old = facts plan old clear in
    let itself : has same_atom new atom ≡ true
    = has_back same_atom atom_exact atom_itself old (atom ∷ []) atom
    (has_first same_atom atom_exact atom_itself atom []) in
    let rest = agrees plan (seen_of old) atom && leaves_grains plan (seen_of old) atom in
    same_test (is_clear plan new) (may_come plan (seen_of old) atom)
    (λ e.
    let f : Facts plan new = facts plan new e in
    and_from (is_named plan atom) rest (f.named atom itself)
    (and_from (agrees plan (seen_of old) atom) (leaves_grains plan (seen_of old) atom) (agreed plan stand atom f)
    (left_over plan stand atom f)))
    (λ e.
    let p = and_parts (is_named plan atom) rest e in
    let q = and_parts (agrees plan (seen_of old) atom) (leaves_grains plan (seen_of old) atom) p.1 in
    clear_from plan new (record {
      named = λ a h. elim (came plan stand atom clear a h) [
        | inl is ↦ subst (λ b. is_named plan b ≡ true) (sym is) p.0
        | inr o ↦ known.named a o
      ];
      apart = λ a b h k. elim (came plan stand atom clear a h) [
        | inl is ↦ elim (came plan stand atom clear b k) [
          | inl too ↦ ap (λ x. collides plan x b) is ∙ (ap (collides plan atom) too ∙ beside_itself plan atom)
          | inr o ↦ ap (λ x. collides plan x b) is ∙ beside_old plan old known atom b q.0 o
        ]
        | inr o ↦ elim (came plan stand atom clear b k) [
          | inl too ↦ ap (collides plan a) too ∙ old_beside plan old known a atom q.0 o
          | inr also ↦ known.apart a b o also
        ]
      ];
      room = λ v. false_from_ne_true (is_exhausted plan (seen_of new) v) (λ x.
          elim (cases_lt v (length plan.vars)) [
            | inl low ↦ none_exhausted plan old atom q.1 v low x (exhausted_is_touched plan stand atom v clear x)
            | inr past ↦ both x (not_exhausted_past plan (seen_of new) v past)
          ]);
    }))
