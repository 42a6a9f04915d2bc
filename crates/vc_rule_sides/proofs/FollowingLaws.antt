-- What is said of two sides follows from its premises alone: what a side reads has the same values where these are
-- said, and a
-- part of what is seen tells no clash that the whole doesn't.
use Rattle.std.proofs.Common.{◌≡◌, ℕ, Bool, true, false, cond, ◌&&◌, List, [], ◌∷◌, ◌++◌, map, refl, sym, ◌∙◌, ap}
use Rattle.std.proofs.Common.{subst}
use Rattle.std.specs.Prelude.{slice_get, min, is_none, not, Option, None, Some}
use Rattle.std.specs.List.{filter, list_all, AllByRecursion}
use Rattle.std.proofs.lemmas.Bool.{and_parts, and_from, false_from_ne_true}
use Rattle.std.proofs.lemmas.List.Folds.{list_all-append}
use Rattle.vc_base.specs.Rounds.{Given, clash, atoms, is_clash, atoms_of}
use Rattle.vc_base.specs.Sets.{has}
use Rattle.vc_base.proofs.ListLaws.{filter_none_stays}
use Rattle.vc_base.proofs.SetLaws.{both, has_front, has_back, has_first, has_more, has_filter}
use Rattle.vc_value.specs.declared.value.Value.{Value}
use Rattle.vc_plan.specs.declared.atoms.Atom.{Atom}
use Rattle.vc_plan.specs.declared.atoms.Atom.TheVariants.{Out, Is}
use Rattle.vc_plan.specs.declared.conditions.Piece.{Piece}
use Rattle.vc_plan.specs.declared.conditions.Relation.{Relation}
use Rattle.vc_plan.specs.declared.plans.Plan.{Plan}
use Rattle.vc_plan.specs.declared.rules.Rule.{Rule}
use Rattle.vc_plan.specs.Answers.{value_atoms, clash_if, beside, is_nothing}
use Rattle.vc_plan.specs.Domains.{numbers_below, count_of, is_restrictable, is_grain_with}
use Rattle.vc_plan.specs.Kleene.{is_false}
use Rattle.vc_plan.specs.Pieces.{turned}
use Rattle.vc_plan.specs.Readings.{net_reading}
use Rattle.vc_plan.specs.Reads.{vars_of_term}
use Rattle.vc_plan.specs.Restrictions.{failing, left_with, of_remaining, confined, related, lone, lone_inferred}
use Rattle.vc_plan.specs.Restrictions.{equal_to, decimals_in_side, differ}
use Rattle.vc_plan.specs.Seen.{Seen, same_atom, says, is_left}
use Rattle.vc_plan.specs.Truth.{compared, value_at}
use Rattle.vc_plan.proofs.PlanLaws.Atoms.{atom_exact, atom_itself}
use Rattle.vc_plan.proofs.PlanLaws.Truths.{Later, sharper_false, sharper_compared, value_at_later}
use Rattle.vc_plan_values.specs.Computing.{ValuesAreLeft}
use Rattle.vc_plan_reasons.proofs.ReasonLaws.Agreeing.{SameValues, value_same}
use Rattle.vc_rule_yield.specs.Yielding.{Conclusion}
use Rattle.vc_rule_premises.specs.Citing.{values_of}
use Rattle.vc_rule_premises.specs.Saying.{Said, together, clash_when, conclusion_from, said_from}
use Rattle.vc_rule_premises.specs.Sufficing.{IsPartOf, SaysAll, Follows, EachFollows}
use Rattle.vc_rule_premises.proofs.SufficingLaws.{value_said, left_by}
use Rattle.vc_rule_grains.specs.Confining.{why_confined}
use Rattle.vc_rule_grains.proofs.KindLaws.{confining_suffices}
use Rattle.vc_rule_sides.specs.Comparing.{values_in, may_relate, related_said}
use Rattle.vc_rule_sides.specs.Laws.{CompareFollows, EquateFollows}
use Rattle.vc_rule_sides.proofs.SidesLaws.{related_premises, from_premises}

-- what is said of all of two lists is said of each
pub parts_said : (part : Seen) (xs ys : List Atom) → SaysAll part (xs ++ ys) → SaysAll part xs × SaysAll part ys
parts_said part xs ys h =
    and_parts (list_all (says part) xs) (list_all (says part) ys) (sym (list_all-append (says part) xs ys) ∙ h)

-- variables whose values are said have the same values
pub values_same : (part seen : Seen) → IsPartOf part seen → (vs : List ℕ) → SaysAll part (values_of seen vs)
    → SameValues part seen vs
values_same part seen w [] h = tt
values_same part seen w (v ∷ vs) h =
    let p = parts_said part (value_atoms v (seen.value v)) (values_of seen vs) h in
    (one (seen.value v) refl p.0, values_same part seen w vs p.1)
  where
    none : (o : Option Value) → part.value v ≡ o → seen.value v ≡ None → part.value v ≡ None
    none None e n = e
    none (Some b) e n = let there : seen.value v ≡ Some b = w.value v b e in absurd (cc)

    one : (o : Option Value) → seen.value v ≡ o → SaysAll part (value_atoms v o) → part.value v ≡ seen.value v
    one None e k = none (part.value v) refl e ∙ sym e
    one (Some a) e k =
        let q : (says part (Is v a) ≡ true) × (true ≡ true) = and_parts (says part (Is v a)) true k in
        value_said part v a q.0 ∙ sym e

-- what two sides give, and a clash where a test holds, where neither side nor the test tells a clash at a part that
-- isn't there
-- at the whole
module _ (seen : Seen) (t : Seen → Bool) (g h : Seen → Given Atom) (why p q : List Atom) where
  abbrev gives : Seen → Given Atom
  gives s = clash_if (t s) (beside (g s) (h s))

  first_has : (c : Bool) (xs : List Atom) (x y : Given Atom) (a : Atom) → c ≡ false → x ≡ atoms xs → is_clash y ≡ false
      → has same_atom xs a ≡ true
      → has same_atom (atoms_of (clash_if c (beside x y))) a ≡ true
  first_has true xs x y a c e k i = absurd (cc)
  first_has false xs clash y a c e k i = absurd (cc)
  first_has false xs (atoms zs) clash a c e k i = absurd (cc)
  first_has false xs (atoms zs) (atoms ys) a c e k i =
      has_front same_atom atom_exact atom_itself zs ys a (ap (λ z. has same_atom (atoms_of z) a) e ∙ i)

  second_has : (c : Bool) (ys : List Atom) (x y : Given Atom) (a : Atom) → c ≡ false → y ≡ atoms ys → is_clash x ≡ false
      → has same_atom ys a ≡ true
      → has same_atom (atoms_of (clash_if c (beside x y))) a ≡ true
  second_has true ys x y a c e k i = absurd (cc)
  second_has false ys clash y a c e k i = absurd (cc)
  second_has false ys (atoms xs) clash a c e k i = absurd (cc)
  second_has false ys (atoms xs) (atoms zs) a c e k i =
      has_back same_atom atom_exact atom_itself xs zs a (ap (λ z. has same_atom (atoms_of z) a) e ∙ i)

  first_clash : (c : Bool) (x y : Given Atom) → x ≡ clash → is_clash (clash_if c (beside x y)) ≡ true
  first_clash true x y e = refl
  first_clash false x y e = ap (λ z. is_clash (beside z y)) e

  second_clash : (c : Bool) (x y : Given Atom) → y ≡ clash → is_clash (clash_if c (beside x y)) ≡ true
  second_clash true x y e = refl
  second_clash false clash y e = refl
  second_clash false (atoms xs) y e = ap (λ z. is_clash (beside (atoms xs) z)) e

  each_follows : (from xs ys : List Atom)
      → ((part : Seen) → IsPartOf part seen → SaysAll part from → (a : Atom) → has same_atom xs a ≡ true
      → has same_atom (atoms_of (gives part)) a ≡ true)
      → ((a : Atom) → has same_atom ys a ≡ true → has same_atom xs a ≡ true)
      → AllByRecursion (Follows gives seen) (map (conclusion_from from) ys)
  each_follows from xs [] f within = tt
  each_follows from xs (y ∷ ys) f within = (
    λ part w s. f part w s y (within y (has_first same_atom atom_exact atom_itself y ys)),
    each_follows from xs ys f (λ a i. within a (has_more same_atom atom_exact atom_itself y ys a i)),
  )

  all_follow : (from xs : List Atom)
      → ((part : Seen) → IsPartOf part seen → SaysAll part from → (a : Atom) → has same_atom xs a ≡ true
      → has same_atom (atoms_of (gives part)) a ≡ true)
      → AllByRecursion (Follows gives seen) (map (conclusion_from from) (filter (λ a. not (says seen a)) xs))
  all_follow from xs f =
      each_follows from xs (filter (λ a. not (says seen a)) xs) f
      (λ a i. let k = has_filter same_atom atom_exact atom_itself (λ c. not (says seen c)) xs a i in k.0)

  joined : (xs ys : List Conclusion) → AllByRecursion (Follows gives seen) xs → AllByRecursion (Follows gives seen) ys
      → AllByRecursion (Follows gives seen) (xs ++ ys)
  joined [] ys e f = f
  joined (x ∷ xs) ys e f = (e.0, joined xs ys e.1 f)

  sides_follow : ((part : Seen) → IsPartOf part seen → SaysAll part why → t part ≡ t seen)
      → ((part : Seen) → IsPartOf part seen → t seen ≡ false → t part ≡ false)
      → ((part : Seen) → IsPartOf part seen → SaysAll part p → g part ≡ g seen)
      → ((part : Seen) → IsPartOf part seen → SaysAll part q → h part ≡ h seen)
      → ((part : Seen) → IsPartOf part seen → is_clash (g seen) ≡ false → is_clash (g part) ≡ false)
      → ((part : Seen) → IsPartOf part seen → is_clash (h seen) ≡ false → is_clash (h part) ≡ false)
      → EachFollows gives seen
      (clash_when (t seen) why (together (said_from seen p (g seen)) (said_from seen q (h seen))))
  sides_follow same none first second first_clear second_clear = by (t seen) (g seen) (h seen) refl refl refl
    where
      by : (c : Bool) (x y : Given Atom) → t seen ≡ c → g seen ≡ x → h seen ≡ y
          → EachFollows gives seen (clash_when c why (together (said_from seen p x) (said_from seen q y)))
      by true x y c e f = λ part w s. ap (λ b. is_clash (clash_if b (beside (g part) (h part)))) (same part w s ∙ c)
      by false clash y c e f = λ part w s. first_clash (t part) (g part) (h part) (first part w s ∙ e)
      by false (atoms xs) clash c e f = λ part w s. second_clash (t part) (g part) (h part) (second part w s ∙ f)
      by false (atoms xs) (atoms ys) c e f =
          joined (map (conclusion_from p) (filter (λ a. not (says seen a)) xs))
          (map (conclusion_from q) (filter (λ a. not (says seen a)) ys))
          (all_follow p xs (λ part w s a i. first_has (t part) xs (g part) (h part) a (none part w c)
          (first part w s ∙ e)
          (second_clear part w (ap is_clash f)) i))
          (all_follow q ys (λ part w s a i. second_has (t part) ys (g part) (h part) a (none part w c)
          (second part w s ∙ f)
          (first_clear part w (ap is_clash e)) i))

-- what a part says confines a variable without a clash where the whole does
confined_clear : (plan : Plan) (seen part : Seen) → IsPartOf part seen → ValuesAreLeft plan seen
    → (v : ℕ) (test : Piece → Bool)
    → is_clash (confined plan seen v test) ≡ false → is_clash (confined plan part v test) ≡ false
confined_clear plan seen part w kept v test = by (is_restrictable plan v)
  where
    at_seen : ℕ → Bool
    at_seen g = is_left plan seen v g && is_grain_with plan v test g

    at_part : ℕ → Bool
    at_part g = is_left plan part v g && is_grain_with plan v test g

    left : (g : ℕ) → at_seen g ≡ true → at_part g ≡ true
    left g h =
        let p : (is_left plan seen v g ≡ true) × (is_grain_with plan v test g ≡ true)
        = and_parts (is_left plan seen v g) (is_grain_with plan v test g) h in
        and_from (is_left plan part v g) (is_grain_with plan v test g)
        (left_by plan seen part w kept v g (part.value v) (seen.value v) refl refl p.0) p.1

    remaining : (gs : List ℕ) → is_clash (of_remaining plan v gs) ≡ is_nothing gs
    remaining [] = refl
    remaining (g ∷ gs) = refl

    no_grain : (gs : List ℕ) → is_nothing gs ≡ true → gs ≡ []
    no_grain [] e = refl
    no_grain (g ∷ gs) e = absurd (cc)

    some : is_nothing (left_with plan seen v test) ≡ false → is_nothing (left_with plan part v test) ≡ false
    some e =
        false_from_ne_true (is_nothing (left_with plan part v test)) (λ k.
        both (ap is_nothing (filter_none_stays at_part at_seen left (numbers_below (count_of plan v))
        (no_grain (left_with plan part v test) k))) e)

    by : (b : Bool) → is_clash
        (cond b (atoms (map (Out v) (failing plan v test))) (of_remaining plan v (left_with plan seen v test))) ≡ false
        → is_clash (cond b (atoms (map (Out v) (failing plan v test)))
        (of_remaining plan v (left_with plan part v test))) ≡ false
    by true e = refl
    by false e = remaining (left_with plan part v test) ∙ some (sym (remaining (left_with plan seen v test)) ∙ e)

related_clear : (plan : Plan) (seen part : Seen) → IsPartOf part seen → ValuesAreLeft plan seen
    → (r : Relation) (v : Option ℕ) (o p : Option Value)
    → Later o p → is_clash (related plan seen r v p) ≡ false → is_clash (related plan part r v o) ≡ false
related_clear plan seen part w kept r None o p f e = refl
related_clear plan seen part w kept r (Some v) None p f e = refl
related_clear plan seen part w kept r (Some v) (Some a) p f e =
    confined_clear plan seen part w kept v (may_relate r a)
    (sym (ap (λ z. is_clash (related plan seen r (Some v) z)) (f a refl)) ∙ e)

-- what follows for a side is the same where the values of the other are said, and why no more grains are left
related_same : (plan : Plan) (seen part : Seen) → IsPartOf part seen
    → (r : Relation) (v : Option ℕ) (others : List Atom) (o p : Option Value) → Later o p
    → (SaysAll part others → o ≡ p) → SaysAll part (related_premises plan seen r v others p)
    → related plan part r v o ≡ related plan seen r v p
related_same plan seen part w r None others o p f same h = refl
related_same plan seen part w r (Some v) others None None f same h = refl
related_same plan seen part w r (Some v) others (Some a) None f same h = let no : None
    ≡ Some a = f a refl in absurd (cc)
related_same plan seen part w r (Some v) others o (Some a) f same h =
    let p = parts_said part others (why_confined plan seen v (may_relate r a)) h in
    ap (related plan part r (Some v)) (same p.0) ∙ confining_suffices plan seen part v (may_relate r a) w p.1

equal_clear : (plan : Plan) (v : Option ℕ) (o p : Option Value) → Later o p → is_clash (equal_to plan v p) ≡ false
    → is_clash (equal_to plan v o) ≡ false
equal_clear plan None o p f e = refl
equal_clear plan (Some v) None p f e = refl
equal_clear plan (Some v) (Some a) p f e = sym (ap (λ z. is_clash (equal_to plan (Some v) z)) (f a refl)) ∙ e

differ_clear : (alone : Bool) (decimals : ℕ) (o x p y : Option Value) → Later o p → Later x y
    → (alone && differ decimals p y) ≡ false
    → (alone && differ decimals o x) ≡ false
differ_clear false decimals o x p y f g e = refl
differ_clear true decimals None x p y f g e = refl
differ_clear true decimals (Some a) None p y f g e = refl
differ_clear true decimals (Some a) (Some b) p y f g e =
    sym (ap (λ z. differ decimals z y) (f a refl) ∙ ap (differ decimals (Some a)) (g b refl)) ∙ e

module _ (plan : Plan) (seen : Seen) (rule : Rule) (a b : ℕ) where
  abbrev first : Seen → Option Value
  first s = value_at plan (net_reading s) a

  abbrev second : Seen → Option Value
  second s = value_at plan (net_reading s) b

  abbrev v : Option ℕ
  v = lone_inferred plan rule a

  abbrev w : Option ℕ
  w = lone_inferred plan rule b

  first_later : (part : Seen) → IsPartOf part seen → Later (first part) (first seen)
  first_later part k = value_at_later part seen k.value plan a

  second_later : (part : Seen) → IsPartOf part seen → Later (second part) (second seen)
  second_later part k = value_at_later part seen k.value plan b

  first_same : (part : Seen) → IsPartOf part seen → SaysAll part (values_in plan seen a) → first part ≡ first seen
  first_same part k h = value_same plan part seen a (values_same part seen k (vars_of_term (slice_get plan.terms a)) h)

  second_same : (part : Seen) → IsPartOf part seen → SaysAll part (values_in plan seen b) → second part ≡ second seen
  second_same part k h = value_same plan part seen b (values_same part seen k (vars_of_term (slice_get plan.terms b)) h)

  abbrev both_read : List Atom
  both_read = values_in plan seen a ++ values_in plan seen b

  comparison_follows : (r : Relation) → ValuesAreLeft plan seen
      → EachFollows (λ s. clash_if (is_false (compared r (first s) (second s)))
      (beside (related plan s r v (second s)) (related plan s (turned r) w (first s))))
      seen (clash_when (is_false (compared r (first seen) (second seen))) both_read
      (together (related_said plan seen r v (values_in plan seen b) (second seen))
      (related_said plan seen (turned r) w (values_in plan seen a) (first seen))))
  comparison_follows r kept =
      let p = related_premises plan seen r v (values_in plan seen b) (second seen) in
      let q = related_premises plan seen (turned r) w (values_in plan seen a) (first seen) in
      let t = λ (s : Seen). is_false (compared r (first s) (second s)) in
      let g = λ (s : Seen). related plan s r v (second s) in
      let h = λ (s : Seen). related plan s (turned r) w (first s) in
      let said = λ (x : Said) (y : Said). clash_when (t seen) both_read (together x y) in
      subst (EachFollows (λ s. clash_if (t s) (beside (g s) (h s))) seen)
      (sym (ap (λ x. said x (related_said plan seen (turned r) w (values_in plan seen a) (first seen)))
      (from_premises plan seen r v (values_in plan seen b) (second seen))
      ∙ ap (said (said_from seen p (g seen)))
      (from_premises plan seen (turned r) w (values_in plan seen a) (first seen))))
      (sides_follow seen t g h both_read p q
      (λ part k e.
      let parts = parts_said part (values_in plan seen a) (values_in plan seen b) e in
      ap (λ x. is_false (compared r x (second part))) (first_same part k parts.0)
      ∙ ap (λ x. is_false (compared r (first seen) x)) (second_same part k parts.1))
      (λ part k e.
      false_from_ne_true (t part) (λ so.
      both (sharper_false (compared r (first part) (second part)) (compared r (first seen) (second seen))
      (sharper_compared r (first part) (first seen) (second part) (second seen) (first_later part k)
      (second_later part k)) so) e))
      (λ part k e. related_same plan seen part k r v (values_in plan seen b) (second part) (second seen)
      (second_later part k) (second_same part k) e)
      (λ part k e. related_same plan seen part k (turned r) w (values_in plan seen a) (first part) (first seen)
      (first_later part k) (first_same part k) e)
      (λ part k e. related_clear plan seen part k kept r v (second part) (second seen) (second_later part k) e)
      (λ part k e. related_clear plan seen part k kept (turned r) w (first part) (first seen) (first_later part k) e))

  equation_follows : (decimals : ℕ)
      → EachFollows (λ s. clash_if ((is_none v && is_none w) && differ decimals (first s) (second s))
      (beside (equal_to plan v (second s)) (equal_to plan w (first s))))
      seen (clash_when ((is_none v && is_none w) && differ decimals (first seen) (second seen)) both_read
      (together (said_from seen (values_in plan seen b) (equal_to plan v (second seen)))
      (said_from seen (values_in plan seen a) (equal_to plan w (first seen)))))
  equation_follows decimals =
      let alone = is_none v && is_none w in
      let t = λ (s : Seen). alone && differ decimals (first s) (second s) in
      sides_follow seen t (λ s. equal_to plan v (second s)) (λ s. equal_to plan w (first s)) both_read
      (values_in plan seen b) (values_in plan seen a)
      (λ part k e.
      let parts = parts_said part (values_in plan seen a) (values_in plan seen b) e in
      ap (λ x. alone && differ decimals x (second part)) (first_same part k parts.0)
      ∙ ap (λ x. alone && differ decimals (first seen) x) (second_same part k parts.1))
      (λ part k e. differ_clear alone decimals (first part) (second part) (first seen) (second seen)
      (first_later part k) (second_later part k) e)
      (λ part k e. ap (equal_to plan v) (second_same part k e))
      (λ part k e. ap (equal_to plan w) (first_same part k e))
      (λ part k e. equal_clear plan v (second part) (second seen) (second_later part k) e)
      (λ part k e. equal_clear plan w (first part) (first seen) (first_later part k) e)

pub compare_follows : CompareFollows
compare_follows plan seen rule r a b kept = comparison_follows plan seen rule a b r kept

pub equate_follows : EquateFollows
equate_follows plan seen rule a b =
    equation_follows plan seen rule a b
    (min (decimals_in_side plan (lone plan a)) (decimals_in_side plan (lone plan b)))
