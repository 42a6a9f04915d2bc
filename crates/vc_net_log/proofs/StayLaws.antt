-- The facts that stay, found by their places, are those of the steps that are kept, and cite each other by new numbers.
use Rattle.std.proofs.Common.{◌≡◌, ℕ, zero, suc, ◌+◌, ◌<◌, ◌⊎◌, Bool, true, false, cond, not, ◌&&◌, ◌||◌, List, []}
use Rattle.std.proofs.Common.{◌∷◌, ◌++◌, length, map, refl, sym, ◌∙◌, ap, subst, inl, inr, arith, append_assoc}
use Rattle.std.proofs.Common.{append-nil}
use Rattle.std.proofs.Common.{length-append}
use Rattle.std.specs.Prelude.{Option, None, Some, get_or, if◌then◌else◌, nat_eq, nat_lt, position, slice_get}
use Rattle.std.specs.List.{AllByRecursion, IsDistinct, list_all, position_or_len}
use Rattle.std.proofs.lemmas.Bool.{and_from, and_parts, ltb-true, or_parts}
use Rattle.std.proofs.lemmas.List.{length-map, map-append}
use Rattle.std.proofs.lemmas.List.Sums.{passes_at_first}
use Rattle.std.proofs.lemmas.Option.{slice_get-get_or}
use Rattle.vc_base.specs.Kept.{kept, kept_number, new_numbers, new_premises, with_step, number_for, count_with}
use Rattle.vc_base.specs.Chains.{before_all, cites_earlier}
use Rattle.vc_base.specs.Sets.{has}
use Rattle.vc_base.proofs.ChainLaws.{get_has}
use Rattle.vc_base.proofs.KeptLaws.{get_end}
use Rattle.vc_base.proofs.ListLaws.{number_exact, number_itself}
use Rattle.vc_base.proofs.SetLaws.{both, has_back, has_first, has_front, has_more, told}
use Rattle.vc_plan.specs.declared.atoms.Step.{Step}
use Rattle.vc_plan.specs.Sources.{Sources}
use Rattle.vc_plan.proofs.PlanLaws.Lists.{all_grows}
use Rattle.vc_plan_reasons.specs.Checking.{step_form}
use Rattle.vc_plan_reasons.specs.Keeping.{is_gone}
use Rattle.vc_net_places.specs.Places.{Index, place_in}
use Rattle.vc_net_standing.specs.declared.standing.Fact.{Fact}
use Rattle.vc_net_standing.specs.Standing.{places_of}
use Rattle.vc_net_log.specs.Keeping.{number_at, number_if}
use Rattle.vc_net_log.specs.Staying.{all_stand, differs, staying, stays}
use Rattle.vc_net_log.proofs.NumberLaws.{first_inside, found_first, mapped_if, number_stays}

-- where a number is among others
pub number_there : (ps : List ℕ) (p : ℕ) → has nat_eq ps p ≡ true
    → (n : ℕ) × (number_at ps p ≡ suc n) × (slice_get ps n ≡ Some p)
number_there ps p h =
    let n = position_or_len (nat_eq p) ps in
    let low : n < length ps = first_inside (nat_eq p) ps h in (
      n,
      ap number_if (found_first (nat_eq p) ps h),
      slice_get-get_or ps n 0 low
          ∙ ap Some (sym (number_exact p (get_or ps n 0) (passes_at_first (nat_eq p) ps 0 low))),
    )

all_get : (q : ℕ) (ps : List ℕ) (n p : ℕ) → AllByRecursion (λ x. nat_eq q x ≡ false) ps → slice_get ps n ≡ Some p
    → nat_eq q p ≡ false
all_get q [] n p h e = absurd (cc)
all_get q (x ∷ ps) zero p h e = let is : x ≡ p = cc in subst (λ y. nat_eq q y ≡ false) is h.0
all_get q (x ∷ ps) (suc n) p h e = all_get q ps n p h.1 e

once_only : (ps : List ℕ) (n m p : ℕ) → IsDistinct nat_eq ps → slice_get ps n ≡ Some p → slice_get ps m ≡ Some p → n ≡ m
unfolding IsDistinct
once_only [] n m p once e f = absurd (cc)
once_only (q ∷ ps) zero zero p once e f = refl
once_only (q ∷ ps) zero (suc m) p once e f =
    let is : q ≡ p = cc in
    absurd (both (subst (λ y. nat_eq q y ≡ true) is (number_itself q)) (all_get q ps m p once.0 f))
once_only (q ∷ ps) (suc n) zero p once e f =
    let is : q ≡ p = cc in
    absurd (both (subst (λ y. nat_eq q y ≡ true) is (number_itself q)) (all_get q ps n p once.0 e))
once_only (q ∷ ps) (suc n) (suc m) p once e f = ap suc (once_only ps n m p once.1 e f)

-- a number that stands once among others stands first where it stands
pub one_place : (ps : List ℕ) (n p : ℕ) → IsDistinct nat_eq ps → slice_get ps n ≡ Some p
    → position (nat_eq p) ps ≡ Some n
unfolding number_there
one_place ps n p once e =
    let h = get_has nat_eq number_exact number_itself ps n p e in
    let r = number_there ps p h in
    found_first (nat_eq p) ps h ∙ ap Some (once_only ps r.0 n p once r.2 e)

-- a list with one more
get_past : {X : Type 0} (xs : List X) → slice_get xs (length xs) ≡ None
get_past [] = refl
get_past (x ∷ xs) = get_past xs

get_elsewhere : {X : Type 0} (xs : List X) (y : X) (n : ℕ) → (n ≡ length xs → ⊥)
    → slice_get (xs ++ y ∷ []) n ≡ slice_get xs n
get_elsewhere [] y zero h = absurd (h refl)
get_elsewhere [] y (suc n) h = refl
get_elsewhere (x ∷ xs) y zero h = refl
get_elsewhere (x ∷ xs) y (suc n) h = get_elsewhere xs y n (λ e. h (ap suc e))

has_but_last : (ps : List ℕ) (q p : ℕ) → nat_eq p q ≡ false → has nat_eq (ps ++ q ∷ []) p ≡ has nat_eq ps p
has_but_last [] q p e = ap (λ b. b || false) e
has_but_last (r ∷ ps) q p e = ap (λ b. nat_eq p r || b) (has_but_last ps q p e)

last_position : (ps : List ℕ) (q : ℕ) → has nat_eq ps q ≡ false → position_or_len (nat_eq q) (ps ++ q ∷ []) ≡ length ps
last_position [] q e = ap (λ b. cond (not b) (1 + 0) 0) (number_itself q)
last_position (r ∷ ps) q e =
    let p = or_parts (nat_eq q r) (has nat_eq ps q) e in
    ap (λ b. cond (not b) (1 + position_or_len (nat_eq q) (ps ++ q ∷ [])) 0) p.0
    ∙ (ap (λ n. 1 + n) (last_position ps q p.1) ∙ one_more)
  where
    one_more : 1 + length ps ≡ suc (length ps)
    one_more = omega arith

number_last : (ps : List ℕ) (q : ℕ) → has nat_eq ps q ≡ false → number_at (ps ++ q ∷ []) q ≡ suc (length ps)
number_last ps q e =
    ap number_if (found_first (nat_eq q) (ps ++ q ∷ [])
    (has_back nat_eq number_exact number_itself ps (q ∷ []) q (has_first nat_eq number_exact number_itself q [])))
    ∙ ap suc (last_position ps q e)

get_in_front : (ps qs : List ℕ) (n p : ℕ) → n < length ps → slice_get (ps ++ qs) n ≡ Some p → has nat_eq ps p ≡ true
get_in_front [] qs n p low e = absurd (omega (arith, low))
get_in_front (x ∷ ps) qs zero p low e =
    let is : x ≡ p = cc in
    subst (λ y. has nat_eq (x ∷ ps) y ≡ true) is (has_first nat_eq number_exact number_itself x ps)
get_in_front (x ∷ ps) qs (suc n) p low e =
    has_more nat_eq number_exact number_itself x ps p (get_in_front ps qs n p (omega (arith, low)) e)

get_middle : (done rest : List ℕ) (q : ℕ) → slice_get (done ++ q ∷ rest) (length done) ≡ Some q
get_middle [] rest q = refl
get_middle (x ∷ done) rest q = get_middle done rest q

joined : {X : Type 0} (a b : Bool) (x : X) (xs : List X)
    → before_all (if a then Some x else None) (if b then Some xs else None) ≡ (if a && b then Some (x ∷ xs) else None)
joined true true x xs = refl
joined true false x xs = refl
joined false true x xs = refl
joined false false x xs = refl

unless : {X : Type 0} (g b : Bool) (x : X)
    → (if g then None else (if b then Some x else None)) ≡ (if not g && b then Some x else None)
unless true b x = refl
unless false b x = refl

pub all_front : {X : Type 0} (p : X → Bool) (xs ys : List X) → list_all p (xs ++ ys) ≡ true → list_all p xs ≡ true
all_front p [] ys h = refl
all_front p (x ∷ xs) ys h =
    let parts = and_parts (p x) (list_all p (xs ++ ys)) h in
    and_from (p x) (list_all p xs) parts.0 (all_front p xs ys parts.1)

-- the steps that conclude facts, of which each needs what stands at some places
module _ (index : Index) (old new : Sources) (needs : Fact → List ℕ) (facts : List Fact)
    (once : IsDistinct nat_eq (places_of index facts)) where
  abbrev all : List ℕ
  all = places_of index facts

  abbrev at : Fact → ℕ
  at fact = place_in index fact.atom

  abbrev pub step_in : List Fact → Fact → Step
  step_in stand fact = record {
    conclusion = fact.atom;
    origin = fact.origin;
    premises = map (number_at (places_of index stand)) (needs fact);
  }

  abbrev pub left_of : List Fact → List Fact → List Fact
  left_of before rest = staying index (differs old new) needs before rest

  -- what each needs is there
  abbrev pub NeedsThere : List Fact → Type 0
  NeedsThere rest = list_all (λ fact. list_all (has nat_eq all) (needs fact)) rest ≡ true

  places_more : (before more : List Fact) → places_of index (before ++ more)
      ≡ places_of index before ++ places_of index more
  places_more before more = map-append (λ (f : Fact). place_in index f.atom) before more

  -- the new number of what stands at a place, where it stayed
  abbrev found : List Fact → ℕ → Option ℕ
  found before p =
      if has nat_eq (places_of index before) p then Some (number_at (places_of index before) p) else None

  AreNumbers : List (Option ℕ) → List Fact → Type 0
  AreNumbers numbers before = (n p : ℕ) → slice_get all n ≡ Some p → kept_number (slice_get numbers n) ≡ found before p

  found_other : (before : List Fact) (fact : Fact) (p : ℕ) → nat_eq p (at fact) ≡ false
      → found (before ++ fact ∷ []) p ≡ found before p
  found_other before fact p e =
      ap (λ ps. if has nat_eq ps p then Some (number_at ps p) else None) (places_more before (fact ∷ []))
      ∙ (ap (λ b. if b then Some (number_at (places_of index before ++ at fact ∷ []) p) else None)
      (has_but_last (places_of index before) (at fact) p e)
      ∙ by (told (has nat_eq (places_of index before) p)))
    where
      by : (has nat_eq (places_of index before) p ≡ true) ⊎ (has nat_eq (places_of index before) p ≡ false)
          → (if has nat_eq (places_of index before) p
          then Some (number_at (places_of index before ++ at fact ∷ []) p) else None) ≡ found before p
      by (inl h) =
          ap (λ n. if has nat_eq (places_of index before) p then Some n else None)
          (number_stays (places_of index before) (at fact ∷ []) p h)
      by (inr h) =
          ap (λ b. if b then Some (number_at (places_of index before ++ at fact ∷ []) p) else None) h
          ∙ sym (ap (λ b. if b then Some (number_at (places_of index before) p) else None) h)

  found_itself : (before : List Fact) (fact : Fact) → has nat_eq (places_of index before) (at fact) ≡ false
      → found (before ++ fact ∷ []) (at fact) ≡ Some (suc (length before))
  found_itself before fact e =
      ap (λ ps. if has nat_eq ps (at fact) then Some (number_at ps (at fact)) else None)
      (places_more before (fact ∷ []))
      ∙ (ap (λ b. if b then Some (number_at (places_of index before ++ at fact ∷ []) (at fact)) else None)
      (has_back nat_eq number_exact number_itself (places_of index before) (at fact ∷ []) (at fact)
      (has_first nat_eq number_exact number_itself (at fact) []))
      ∙ ap Some (number_last (places_of index before) (at fact) e
      ∙ ap suc (length-map before (λ (f : Fact). place_in index f.atom))))

  not_yet : (numbers : List (Option ℕ)) (before : List Fact) (q : ℕ) → AreNumbers numbers before
      → slice_get all (length numbers) ≡ Some q → has nat_eq (places_of index before) q ≡ false
  unfolding AreNumbers
  not_yet numbers before q are e =
      by (told (has nat_eq (places_of index before) q))
    where
      none : None ≡ found before q
      none = sym (ap kept_number (get_past numbers)) ∙ are (length numbers) q e

      by : (has nat_eq (places_of index before) q ≡ true) ⊎ (has nat_eq (places_of index before) q ≡ false)
          → has nat_eq (places_of index before) q ≡ false
      by (inl h) =
          let some : None ≡ Some (number_at (places_of index before) q)
          = none ∙ ap (λ b. if b then Some (number_at (places_of index before) q) else None) h in
          absurd (cc)
      by (inr h) = h

  -- the numbers with those of one step more
  module _ (numbers : List (Option ℕ)) (before : List Fact) (fact : Fact) (are : AreNumbers numbers before)
      (here : slice_get all (length numbers) ≡ Some (at fact)) where
    elsewhere : (n p : ℕ) → slice_get all n ≡ Some p → (n ≡ length numbers → ⊥) → nat_eq p (at fact) ≡ false
    elsewhere n p h apart = by (told (nat_eq p (at fact)))
      where
        by : (nat_eq p (at fact) ≡ true) ⊎ (nat_eq p (at fact) ≡ false) → nat_eq p (at fact) ≡ false
        by (inl same) =
            absurd (apart (once_only all n (length numbers) (at fact) once
            (h ∙ ap Some (number_exact p (at fact) same)) here))
        by (inr other) = other

    numbers_keep : AreNumbers (numbers ++ Some (suc (length before)) ∷ []) (before ++ fact ∷ [])
    unfolding AreNumbers
    numbers_keep n p h = by (told (nat_eq n (length numbers)))
      where
        by : (nat_eq n (length numbers) ≡ true) ⊎ (nat_eq n (length numbers) ≡ false)
            → kept_number (slice_get (numbers ++ Some (suc (length before)) ∷ []) n) ≡ found (before ++ fact ∷ []) p
        by (inl same) =
            let is : n ≡ length numbers = number_exact n (length numbers) same in
            let one : p ≡ at fact = cc in
            ap (λ k. kept_number (slice_get (numbers ++ Some (suc (length before)) ∷ []) k)) is
            ∙ (ap kept_number (get_end numbers (Some (suc (length before))))
            ∙ (sym (found_itself before fact (not_yet numbers before (at fact) are here))
            ∙ ap (found (before ++ fact ∷ [])) (sym one)))
        by (inr other) =
            let apart : n ≡ length numbers → ⊥
            = λ is. both (ap (λ k. nat_eq k (length numbers)) is ∙ number_itself (length numbers)) other in
            ap kept_number (get_elsewhere numbers (Some (suc (length before))) n apart)
            ∙ (are n p h ∙ sym (found_other before fact p (elsewhere n p h apart)))

    numbers_drop : AreNumbers (numbers ++ None ∷ []) before
    unfolding AreNumbers
    numbers_drop n p h = by (told (nat_eq n (length numbers)))
      where
        by : (nat_eq n (length numbers) ≡ true) ⊎ (nat_eq n (length numbers) ≡ false)
            → kept_number (slice_get (numbers ++ None ∷ []) n) ≡ found before p
        by (inl same) =
            let is : n ≡ length numbers = number_exact n (length numbers) same in
            let one : p ≡ at fact = cc in
            ap (λ k. kept_number (slice_get (numbers ++ None ∷ []) k)) is
            ∙ (ap kept_number (get_end numbers None)
            ∙ sym (ap (λ b. if b then Some (number_at (places_of index before) p) else None)
            (ap (has nat_eq (places_of index before)) one ∙ not_yet numbers before (at fact) are here)))
        by (inr other) =
            let apart : n ≡ length numbers → ⊥
            = λ is. both (ap (λ k. nat_eq k (length numbers)) is ∙ number_itself (length numbers)) other in
            ap kept_number (get_elsewhere numbers None n apart) ∙ are n p h

  -- so the new numbers of what a fact needs are those by the places that are left
  new_numbers_are : (numbers : List (Option ℕ)) (before : List Fact) → AreNumbers numbers before → (ps : List ℕ)
      → list_all (has nat_eq all) ps ≡ true
      → new_numbers numbers (map (number_at all) ps)
      ≡ (if all_stand index before ps then Some (map (number_at (places_of index before)) ps) else None)
  unfolding AreNumbers
  new_numbers_are numbers before are [] h = refl
  new_numbers_are numbers before are (p ∷ ps) h =
      let parts = and_parts (has nat_eq all p) (list_all (has nat_eq all) ps) h in
      let r = number_there all p parts.0 in
      let later = map (number_at all) ps in
      ap (λ k. new_numbers numbers (k ∷ later)) r.1
      ∙ (ap (λ o. before_all o (new_numbers numbers later)) (are r.0 p r.2)
      ∙ (ap (before_all (found before p)) (new_numbers_are numbers before are ps parts.1)
      ∙ joined (has nat_eq (places_of index before) p) (all_stand index before ps)
      (number_at (places_of index before) p) (map (number_at (places_of index before)) ps)))

  premises_are : (numbers : List (Option ℕ)) (before : List Fact) (fact : Fact) → AreNumbers numbers before
      → list_all (has nat_eq all) (needs fact) ≡ true
      → new_premises step_form (is_gone old new) numbers (step_in facts fact)
      ≡ (if stays index (differs old new) needs before fact
      then Some (map (number_at (places_of index before)) (needs fact)) else None)
  premises_are numbers before fact are h =
      ap (λ o. if differs old new fact then None else o) (new_numbers_are numbers before are (needs fact) h)
      ∙ unless (differs old new fact) (all_stand index before (needs fact))
      (map (number_at (places_of index before)) (needs fact))

  -- a fact that stayed cites the same when more stay
  cites_same : (before more : List Fact) (fact : Fact) → all_stand index before (needs fact) ≡ true
      → step_in before fact ≡ step_in (before ++ more) fact
  cites_same before more fact h =
      ap (λ ns. let step : Step = record { conclusion = fact.atom; origin = fact.origin; premises = ns } in step)
      (mapped_if (number_at (places_of index before)) (number_at (places_of index (before ++ more)))
      (has nat_eq (places_of index before))
      (λ p there. sym (number_stays (places_of index before) (places_of index more) p there)
      ∙ ap (λ ps. number_at ps p) (sym (places_more before more))) (needs fact) h)

  -- the steps that are kept conclude the facts that stay
  staying_is_kept : (numbers : List (Option ℕ)) (count : ℕ) (done : List ℕ) (before rest : List Fact)
      → all ≡ done ++ places_of index rest → length numbers ≡ length done → count ≡ length before
      → AreNumbers numbers before → NeedsThere rest
      → kept step_form (is_gone old new) numbers count (map (step_in facts) rest)
      ≡ map (step_in (before ++ left_of before rest)) (left_of before rest)
  staying_is_kept numbers count done before [] split long counts are there = refl
  staying_is_kept numbers count done before (fact ∷ rest) split long counts are there =
      ap after (premises_are numbers before fact are parts.0)
      ∙ by (stays index (differs old new) needs before fact) refl
      (staying_is_kept (numbers ++ Some (suc count) ∷ []) (suc count) (done ++ at fact ∷ []) (before ++ fact ∷ []) rest
      split_next (long_next (Some (suc count))) counts_next
      (subst (λ n. AreNumbers (numbers ++ Some (suc n) ∷ []) (before ++ fact ∷ [])) (sym counts)
      (numbers_keep numbers before fact are here)) parts.1)
      (staying_is_kept (numbers ++ None ∷ []) count (done ++ at fact ∷ []) before rest split_next
      (long_next None) counts
      (numbers_drop numbers before fact are here) parts.1)
    where
      parts : (list_all (has nat_eq all) (needs fact) ≡ true) × NeedsThere rest
      parts = and_parts (list_all (has nat_eq all) (needs fact))
          (list_all (λ f. list_all (has nat_eq all) (needs f)) rest) there

      here : slice_get all (length numbers) ≡ Some (at fact)
      here = ap (slice_get all) long
          ∙ (ap (λ xs. slice_get xs (length done)) split ∙ get_middle done (places_of index rest) (at fact))

      split_next : all ≡ (done ++ at fact ∷ []) ++ places_of index rest
      split_next = split ∙ sym (append_assoc done (at fact ∷ []) (places_of index rest))

      long_next : (k : Option ℕ) → length (numbers ++ k ∷ []) ≡ length (done ++ at fact ∷ [])
      long_next k =
          let one = length-append numbers (k ∷ []) in
          let other = length-append done (at fact ∷ []) in
          omega (arith, one, other, long)

      counts_next : suc count ≡ length (before ++ fact ∷ [])
      counts_next = let one = length-append before (fact ∷ []) in omega (arith, one, counts)

      rest_kept : Option (List ℕ) → List Step
      rest_kept o =
          kept step_form (is_gone old new) (numbers ++ number_for o count ∷ []) (count_with o count)
          (map (step_in facts) rest)

      after : Option (List ℕ) → List Step
      after o = with_step step_form (step_in facts fact) o (rest_kept o)

      cited : List ℕ
      cited = map (number_at (places_of index before)) (needs fact)

      more : List Fact
      more = left_of (before ++ fact ∷ []) rest

      left : Bool → List Fact
      left b = if b then fact ∷ more else left_of before rest

      by : (b : Bool) → stays index (differs old new) needs before fact ≡ b
          → rest_kept (Some cited) ≡ map (step_in ((before ++ fact ∷ []) ++ more)) more
          → rest_kept None ≡ map (step_in (before ++ left_of before rest)) (left_of before rest)
          → after (if b then Some cited else None) ≡ map (step_in (before ++ left b)) (left b)
      by true e h k =
          let stood = (and_parts (not (differs old new fact)) (all_stand index before (needs fact)) e).1 in
          ap (λ step. step ∷ rest_kept (Some cited)) (cites_same before (fact ∷ more) fact stood)
          ∙ ap (λ steps. step_in (before ++ fact ∷ more) fact ∷ steps)
          (h ∙ ap (λ xs. map (step_in xs) more) (append_assoc before (fact ∷ []) more))
      by false e h k = k

  none_numbered : AreNumbers [] []
  unfolding AreNumbers
  none_numbered n p h = refl

  -- facts before which nothing goes stay
  FrontStays : List Fact → List Fact → Type 0
  FrontStays before [] = Unit {0}
  FrontStays before (fact ∷ front) =
      (stays index (differs old new) needs before fact ≡ true) × FrontStays (before ++ fact ∷ []) front

  front_stays : (before front rest : List Fact) → FrontStays before front
      → before ++ left_of before (front ++ rest) ≡ (before ++ front) ++ left_of (before ++ front) rest
  unfolding FrontStays
  front_stays before [] rest h = ap (λ xs. xs ++ left_of xs rest) (sym (append-nil before))
  front_stays before (fact ∷ front) rest h =
      let later = left_of (before ++ fact ∷ []) (front ++ rest) in
      ap (λ b. before ++ (if b then fact ∷ later else left_of before (front ++ rest))) h.0
      ∙ (sym (append_assoc before (fact ∷ []) later)
      ∙ (front_stays (before ++ fact ∷ []) front rest h.1
      ∙ ap (λ xs. xs ++ left_of xs rest) (append_assoc before (fact ∷ []) front)))

  earlier_stand : (before : List Fact) (more ps : List ℕ) → all ≡ places_of index before ++ more
      → list_all (λ k. nat_lt k (suc (length before))) (map (number_at all) ps) ≡ true
      → list_all (has nat_eq all) ps ≡ true → all_stand index before ps ≡ true
  earlier_stand before more [] split low there = refl
  earlier_stand before more (p ∷ ps) split low there =
      let lows = and_parts (nat_lt (number_at all p) (suc (length before)))
      (list_all (λ k. nat_lt k (suc (length before))) (map (number_at all) ps)) low in
      let parts = and_parts (has nat_eq all p) (list_all (has nat_eq all) ps) there in
      let r = number_there all p parts.0 in
      let number = r.1 in
      let below = ltb-true (number_at all p) (suc (length before)) lows.0 in
      let long = length-map before (λ (f : Fact). place_in index f.atom) in
      let inside : r.0 < length (places_of index before) = omega (arith, number, below, long) in
      and_from (has nat_eq (places_of index before) p) (all_stand index before ps)
      (get_in_front (places_of index before) more r.0 p inside (ap (λ xs. slice_get xs r.0) (sym split) ∙ r.2))
      (earlier_stand before more ps split lows.1 parts.1)

  front_earlier : (before front rest : List Fact) → facts ≡ before ++ (front ++ rest)
      → cites_earlier step_form (suc (length before)) (map (step_in facts) front) ≡ true → NeedsThere front
      → list_all (λ f. not (differs old new f)) front ≡ true → FrontStays before front
  unfolding FrontStays
  front_earlier before [] rest split earlier there stay = tt
  front_earlier before (fact ∷ front) rest split earlier there stay =
      let cites = and_parts (list_all (λ k. nat_lt k (suc (length before))) (map (number_at all) (needs fact)))
      (cites_earlier step_form (suc (suc (length before))) (map (step_in facts) front)) earlier in
      let needed = and_parts (list_all (has nat_eq all) (needs fact))
      (list_all (λ f. list_all (has nat_eq all) (needs f)) front) there in
      let stays = and_parts (not (differs old new fact)) (list_all (λ f. not (differs old new f)) front) stay in
      let places : all ≡ places_of index before ++ places_of index (fact ∷ (front ++ rest))
      = ap (places_of index) split ∙ places_more before (fact ∷ (front ++ rest)) in
      let long : suc (length before) ≡ length (before ++ fact ∷ [])
      = (let one = length-append before (fact ∷ []) in omega (arith, one)) in (
        and_from (not (differs old new fact)) (all_stand index before (needs fact)) stays.0
            (earlier_stand before (places_of index (fact ∷ (front ++ rest))) (needs fact) places cites.0 needed.0),
        front_earlier (before ++ fact ∷ []) front rest
            (split ∙ sym (append_assoc before (fact ∷ []) (front ++ rest)))
            (ap (λ n. cites_earlier step_form (suc n) (map (step_in facts) front)) (sym long) ∙ cites.1)
            needed.1 stays.1,
      )

  -- what holds of a list holds of those that stay, if it holds without an element
  pub staying_part : (P : List Fact → Type 0)
      → ((front : List Fact) (fact : Fact) (more : List Fact) → P (front ++ fact ∷ more) → P (front ++ more))
      → (before rest : List Fact) → P (before ++ rest) → P (before ++ left_of before rest)
  staying_part P less before [] h = h
  staying_part P less before (fact ∷ rest) h =
      by (stays index (differs old new) needs before fact)
      (staying_part P less (before ++ fact ∷ []) rest (subst P (sym (append_assoc before (fact ∷ []) rest)) h))
      (staying_part P less before rest (less before fact rest h))
    where
      more : List Fact
      more = left_of (before ++ fact ∷ []) rest

      by : (b : Bool) → P ((before ++ fact ∷ []) ++ more) → P (before ++ left_of before rest)
          → P (before ++ (if b then fact ∷ more else left_of before rest))
      by true h k = subst P (append_assoc before (fact ∷ []) more) h
      by false h k = k

  -- each that stays needs only what stays
  NeedsIn : List Fact → List Fact → Type 0
  NeedsIn stand rest = list_all (λ fact. all_stand index stand (needs fact)) rest ≡ true

  all_stand_on : (before more : List Fact) (ps : List ℕ) → all_stand index before ps ≡ true
      → all_stand index (before ++ more) ps ≡ true
  all_stand_on before more ps h =
      all_grows (has nat_eq (places_of index before)) (has nat_eq (places_of index (before ++ more)))
      (λ p e. subst (λ xs. has nat_eq xs p ≡ true) (sym (places_more before more))
      (has_front nat_eq number_exact number_itself (places_of index before) (places_of index more) p e)) ps h

  needs_on : (before more rest : List Fact) → NeedsIn before rest → NeedsIn (before ++ more) rest
  unfolding NeedsIn
  needs_on before more [] h = refl
  needs_on before more (fact ∷ rest) h =
      let parts = and_parts (all_stand index before (needs fact))
      (list_all (λ f. all_stand index before (needs f)) rest) h in
      and_from (all_stand index (before ++ more) (needs fact))
      (list_all (λ f. all_stand index (before ++ more) (needs f)) rest)
      (all_stand_on before more (needs fact) parts.0) (needs_on before more rest parts.1)

  needs_last : (stand rest : List Fact) (fact : Fact) → NeedsIn stand rest → all_stand index stand (needs fact) ≡ true
      → NeedsIn stand (rest ++ fact ∷ [])
  unfolding NeedsIn
  needs_last stand [] fact h e = and_from (all_stand index stand (needs fact)) true e refl
  needs_last stand (first ∷ rest) fact h e =
      let parts = and_parts (all_stand index stand (needs first))
      (list_all (λ f. all_stand index stand (needs f)) rest) h in
      and_from (all_stand index stand (needs first))
      (list_all (λ f. all_stand index stand (needs f)) (rest ++ fact ∷ []))
      parts.0 (needs_last stand rest fact parts.1 e)

  needs_left : (before rest : List Fact) → NeedsIn before before
      → NeedsIn (before ++ left_of before rest) (before ++ left_of before rest)
  unfolding NeedsIn
  needs_left before [] h = subst (λ xs. NeedsIn xs xs) (sym (append-nil before)) h
  needs_left before (fact ∷ rest) h =
      by (stays index (differs old new) needs before fact) refl
      (needs_left (before ++ fact ∷ []) rest) (needs_left before rest h)
    where
      more : List Fact
      more = left_of (before ++ fact ∷ []) rest

      by : (b : Bool) → stays index (differs old new) needs before fact ≡ b
          → (NeedsIn (before ++ fact ∷ []) (before ++ fact ∷ [])
          → NeedsIn ((before ++ fact ∷ []) ++ more) ((before ++ fact ∷ []) ++ more))
          → NeedsIn (before ++ left_of before rest) (before ++ left_of before rest)
          → NeedsIn (before ++ (if b then fact ∷ more else left_of before rest))
          (before ++ (if b then fact ∷ more else left_of before rest))
      by true e next k =
          let stood = (and_parts (not (differs old new fact)) (all_stand index before (needs fact)) e).1 in
          subst (λ xs. NeedsIn xs xs) (append_assoc before (fact ∷ []) more)
          (next (needs_last (before ++ fact ∷ []) before fact (needs_on before (fact ∷ []) before h)
          (all_stand_on before (fact ∷ []) (needs fact) stood)))
      by false e next k = k

  -- so of all facts, of which those in front aren't gone and cite earlier ones
  module _ (front rest : List Fact) (split : facts ≡ front ++ rest) (there : NeedsThere facts)
      (earlier : cites_earlier step_form 1 (map (step_in facts) facts) ≡ true)
      (stay : list_all (λ f. not (differs old new f)) front ≡ true) where
    abbrev pub those_left : List Fact
    those_left = front ++ left_of front rest

    front_there : NeedsThere front
    front_there = all_front (λ fact. list_all (has nat_eq all) (needs fact)) front rest
        (subst NeedsThere split there)

    front_cites : cites_earlier step_form 1 (map (step_in facts) front) ≡ true
    front_cites = cites_front 1 front rest
        (subst (λ xs. cites_earlier step_form 1 (map (step_in facts) xs) ≡ true) split earlier)
      where
        cites_front : (n : ℕ) (xs ys : List Fact) → cites_earlier step_form n (map (step_in facts) (xs ++ ys)) ≡ true
            → cites_earlier step_form n (map (step_in facts) xs) ≡ true
        cites_front n [] ys h = refl
        cites_front n (x ∷ xs) ys h =
            let parts = and_parts (list_all (λ k. nat_lt k n) (map (number_at all) (needs x)))
            (cites_earlier step_form (suc n) (map (step_in facts) (xs ++ ys))) h in
            and_from (list_all (λ k. nat_lt k n) (map (number_at all) (needs x)))
            (cites_earlier step_form (suc n) (map (step_in facts) xs)) parts.0 (cites_front (suc n) xs ys parts.1)

    all_left : left_of [] facts ≡ those_left
    all_left = ap (left_of []) split
        ∙ front_stays [] front rest (front_earlier [] front rest split front_cites front_there stay)

    pub left_are_kept : kept step_form (is_gone old new) [] 0 (map (step_in facts) facts)
        ≡ map (step_in those_left) those_left
    left_are_kept =
        staying_is_kept [] 0 [] [] facts refl refl refl none_numbered there
        ∙ ap (λ xs. map (step_in xs) xs) all_left

    pub left_need_left : list_all (λ fact. all_stand index those_left (needs fact)) those_left ≡ true
    unfolding NeedsIn
    left_need_left = subst (λ xs. NeedsIn xs xs) all_left (needs_left [] facts refl)
