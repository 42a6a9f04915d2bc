-- Lists of rules after each was put at its places: at each place stand those that have it, in their order.
use Rattle.std.proofs.Common.{◌≡◌, ℕ, zero, suc, ◌+◌, ◌-◌, ◌<◌, Bool, true, false, cond, ◌⊎◌, List, [], ◌∷◌, ◌++◌}
use Rattle.std.proofs.Common.{length, map, refl, sym, ◌∙◌, ap, subst, inl, inr, arith, append-nil, length-append}
use Rattle.std.specs.Prelude.{Option, None, Some, nat_eq, ◌==◌, ◌||◌, if◌then◌else◌, replicate, slice_get, slice_set}
use Rattle.std.specs.List.{filter, flat_map, list_any, range_with_len}
use Rattle.std.proofs.lemmas.Bool.{eqb-true, eqb-false}
use Rattle.std.proofs.lemmas.List.{length-replicate}
use Rattle.vc_base.specs.Numbers.{numbers_below}
use Rattle.vc_base.specs.Sets.{has}
use Rattle.vc_base.proofs.ListLaws.{filter_next, has_range, number_exact, number_itself}
use Rattle.vc_base.proofs.SetLaws.{has_first, has_more, told}
use Rattle.vc_net_places.proofs.PlaceLaws.Things.{get_second, range_at, get_replicate}
use Rattle.vc_net_readers.specs.Filing.{ends_with, filed_at, filed_at_all, filed_at_each, filed_below, filed_in}
use Rattle.vc_net_readers.specs.Filing.{is_told, list_at, list_or_none, put_once}

-- an element of a list with one set anew, and how many there are
get_set : {X : Type 0} (xs : List X) (i : ℕ) (x y : X) → slice_get xs i ≡ Some y
    → slice_get (slice_set xs i x) i ≡ Some x
get_set [] i x y e = absurd (cc)
get_set (z ∷ xs) zero x y e = refl
get_set (z ∷ xs) (suc i) x y e = get_set xs i x y e

get_other : {X : Type 0} (xs : List X) (i k : ℕ) (x : X) → (k ≡ i → ⊥) → slice_get (slice_set xs i x) k ≡ slice_get xs k
get_other [] i k x differ = refl
get_other (z ∷ xs) zero zero x differ = absurd (differ refl)
get_other (z ∷ xs) zero (suc k) x differ = refl
get_other (z ∷ xs) (suc i) zero x differ = refl
get_other (z ∷ xs) (suc i) (suc k) x differ = get_other xs i k x (λ e. differ (ap (λ n. suc n) e))

length_set : {X : Type 0} (xs : List X) (i : ℕ) (x : X) → length (slice_set xs i x) ≡ length xs
length_set [] i x = refl
length_set (z ∷ xs) zero x = refl
length_set (z ∷ xs) (suc i) x = ap (λ n. suc n) (length_set xs i x)

-- a number is put once
ends_last : (xs : List ℕ) (n : ℕ) → ends_with (xs ++ n ∷ []) n ≡ true
ends_last xs n =
    let count = length-append xs (n ∷ []) in
    ap (λ o. is_told o n) (get_second xs (n ∷ []) (length (xs ++ n ∷ []) - 1) 0 (omega (arith, count)))
    ∙ number_itself n

put_seen : (base : List ℕ) (seen : Bool) (n : ℕ) → ends_with base n ≡ false
    → put_once (base ++ cond seen (n ∷ []) []) n ≡ base ++ n ∷ []
put_seen base true n e =
    ap (λ b. if b then (base ++ n ∷ []) else ((base ++ n ∷ []) ++ n ∷ [])) (ends_last base n)
put_seen base false n e =
    ap (λ xs. put_once xs n) (append-nil base) ∙ ap (λ b. if b then base else (base ++ n ∷ [])) e

-- the list at a place after the rule was put at another or the same one
or_false : (a : Bool) → (a || false) ≡ a
or_false true = refl
or_false false = refl

or_true : (a : Bool) → (a || true) ≡ true
or_true true = refl
or_true false = refl

or_assoc : (a b c : Bool) → ((a || b) || c) ≡ (a || (b || c))
or_assoc true b c = refl
or_assoc false b c = refl

filed_here : (lists : List (List ℕ)) (t rule : ℕ) (list : List ℕ) → slice_get lists t ≡ Some list
    → slice_get (filed_at lists t rule) t ≡ Some (put_once list rule)
filed_here lists t rule list e =
    ap (λ o. slice_get (filed_in o lists t rule) t) e ∙ get_set lists t (put_once list rule) list e

filed_beside : (lists : List (List ℕ)) (o : Option (List ℕ)) (place t rule : ℕ) → (t ≡ place → ⊥)
    → slice_get (filed_in o lists place rule) t ≡ slice_get lists t
filed_beside lists None place t rule differ = refl
filed_beside lists (Some list) place t rule differ = get_other lists place t (put_once list rule) differ

filed_one : (lists : List (List ℕ)) (place t rule : ℕ) (base : List ℕ) (seen : Bool) → ends_with base rule ≡ false
    → slice_get lists t ≡ Some (base ++ cond seen (rule ∷ []) [])
    → slice_get (filed_at lists place rule) t ≡ Some (base ++ cond (seen || (t == place)) (rule ∷ []) [])
filed_one lists place t rule base seen new e = by (told (t == place))
  where
    by : ((t == place) ≡ true) ⊎ ((t == place) ≡ false)
        → slice_get (filed_at lists place rule) t ≡ Some (base ++ cond (seen || (t == place)) (rule ∷ []) [])
    by (inl same) =
        let is : t ≡ place = eqb-true t place same in
        ap (λ p. slice_get (filed_at lists p rule) t) (sym is)
        ∙ (filed_here lists t rule (base ++ cond seen (rule ∷ []) []) e
        ∙ (ap Some (put_seen base seen rule new)
        ∙ ap (λ b. Some (base ++ cond b (rule ∷ []) [])) (sym (ap (λ b. seen || b) same ∙ or_true seen))))
    by (inr other) =
        filed_beside lists (slice_get lists place) place t rule (eqb-false t place other)
        ∙ (e ∙ ap (λ b. Some (base ++ cond b (rule ∷ []) [])) (sym (ap (λ b. seen || b) other ∙ or_false seen)))

-- and after it was put at each of several
filed_each : (places : List ℕ) (lists : List (List ℕ)) (t rule : ℕ) (base : List ℕ) (seen : Bool)
    → ends_with base rule ≡ false → slice_get lists t ≡ Some (base ++ cond seen (rule ∷ []) [])
    → slice_get (filed_at_all lists places rule) t
    ≡ Some (base ++ cond (seen || list_any (nat_eq t) places) (rule ∷ []) [])
filed_each [] lists t rule base seen new e = e ∙ ap (λ b. Some (base ++ cond b (rule ∷ []) [])) (sym (or_false seen))
filed_each (place ∷ places) lists t rule base seen new e =
    filed_each places (filed_at lists place rule) t rule base (seen || (t == place)) new
    (filed_one lists place t rule base seen new e)
    ∙ ap (λ b. Some (base ++ cond b (rule ∷ []) [])) (or_assoc seen (t == place) (list_any (nat_eq t) places))

-- no list of numbers below one ends with it
told_has : (xs : List ℕ) (k n : ℕ) → is_told (slice_get xs k) n ≡ true → has nat_eq xs n ≡ true
told_has [] k n e = absurd (cc)
told_has (x ∷ xs) zero n e =
    subst (λ z. has nat_eq (x ∷ xs) z ≡ true) (eqb-true x n e) (has_first nat_eq number_exact number_itself x xs)
told_has (x ∷ xs) (suc k) n e = has_more nat_eq number_exact number_itself x xs n (told_has xs k n e)

pub has_filter : {X : Type 0} (p test : X → Bool) (xs : List X) → list_any test (filter p xs) ≡ true
    → list_any test xs ≡ true
has_filter p test [] h = h
has_filter p test (x ∷ xs) h = by (p x) (has_filter p test xs) h
  where
    first : (t : Bool) (before after : Bool) → (before ≡ true → after ≡ true) → (t || before) ≡ true
        → (t || after) ≡ true
    first true before after more e = refl
    first false before after more e = more e

    by : (b : Bool) → (list_any test (filter p xs) ≡ true → list_any test xs ≡ true)
        → list_any test (cond b (x ∷ filter p xs) (filter p xs)) ≡ true → (test x || list_any test xs) ≡ true
    by true more e = first (test x) (list_any test (filter p xs)) (list_any test xs) more e
    by false more e = ap (λ b. test x || b) (more e) ∙ or_true (test x)

no_end : (p : ℕ → Bool) (n : ℕ) → ends_with (filter p (numbers_below n)) n ≡ false
no_end p n = by (told (ends_with (filter p (numbers_below n)) n))
  where
    by : (ends_with (filter p (numbers_below n)) n ≡ true) ⊎ (ends_with (filter p (numbers_below n)) n ≡ false)
        → ends_with (filter p (numbers_below n)) n ≡ false
    by (inl e) =
        let within = has_filter p (nat_eq n) (numbers_below n)
        (told_has (filter p (numbers_below n)) (length (filter p (numbers_below n)) - 1) n e) in
        let small = has_range 0 n n within in
        absurd (omega (arith, small.1))
    by (inr e) = e

-- the list at a place after the first rules were put
abbrev pub has_place : (ℕ → List ℕ) → ℕ → ℕ → Bool
has_place places t rule = list_any (nat_eq t) (places rule)

pub filed_next : (places : ℕ → List ℕ) (n : ℕ) (lists : List (List ℕ))
    → filed_below places (n + 1) lists ≡ filed_at_all (filed_below places n lists) (places n) n
filed_next places n lists =
    let more : n + 1 ≡ suc n = omega arith in
    ap (λ k. filed_below places k lists) more

filed_get : (places : ℕ → List ℕ) (m n t : ℕ) → t < m
    → slice_get (filed_below places n (replicate m [])) t ≡ Some (filter (has_place places t) (numbers_below n))
filed_get places m zero t below = get_replicate m t [] below
filed_get places m (suc n) t below =
    let base = filter (has_place places t) (numbers_below n) in
    let more : suc n ≡ n + 1 = omega arith in
    filed_each (places n) (filed_below places n (replicate m [])) t n base false (no_end (has_place places t) n)
    (filed_get places m n t below ∙ ap Some (sym (append-nil base)))
    ∙ ap Some (sym (ap (λ k. filter (has_place places t) (numbers_below k)) more ∙ filter_next (has_place places t) n))

-- as many lists as there were
length_in : (o : Option (List ℕ)) (lists : List (List ℕ)) (place rule : ℕ)
    → length (filed_in o lists place rule) ≡ length lists
length_in None lists place rule = refl
length_in (Some list) lists place rule = length_set lists place (put_once list rule)

length_each : (places : List ℕ) (lists : List (List ℕ)) (rule : ℕ)
    → length (filed_at_all lists places rule) ≡ length lists
length_each [] lists rule = refl
length_each (place ∷ places) lists rule =
    length_each places (filed_at lists place rule) rule ∙ length_in (slice_get lists place) lists place rule

length_below : (places : ℕ → List ℕ) (n : ℕ) (lists : List (List ℕ))
    → length (filed_below places n lists) ≡ length lists
length_below places zero lists = refl
length_below places (suc n) lists =
    length_each (places n) (filed_below places n lists) n ∙ length_below places n lists

-- lists that have what is wanted at each place
told_all : {X : Type 0} (f : ℕ → X) (a : ℕ) (xs : List X)
    → ((i : ℕ) → i < length xs → slice_get xs i ≡ Some (f (a + i)))
    → xs ≡ map f (range_with_len a (length xs))
told_all f a [] each = refl
told_all f a (x ∷ xs) each =
    let at_start : Some x ≡ Some (f (a + 0)) = each 0 (omega arith) in
    let zero_more : a + 0 ≡ a = omega arith in
    let first : x ≡ f (a + 0) = cc in
    ap (λ z. z ∷ xs) (first ∙ ap f zero_more)
    ∙ ap (λ zs. f a ∷ zs)
    (told_all f (a + 1) xs (λ i below. each (suc i) (omega (arith, below)) ∙ ap (λ k. Some (f k)) (shift i)))
  where
    shift : (i : ℕ) → a + suc i ≡ (a + 1) + i
    shift i = omega arith

pub filed_all : (places : ℕ → List ℕ) (m n : ℕ)
    → filed_below places n (replicate m []) ≡ map (λ t. filter (has_place places t) (numbers_below n)) (numbers_below m)
filed_all places m n =
    let lists = filed_below places n (replicate m []) in
    let count : length lists ≡ m = length_below places n (replicate m []) ∙ length-replicate m [] in
    let f : ℕ → List ℕ = λ t. filter (has_place places t) (numbers_below n) in
    told_all f 0 lists (λ i below. filed_get places m n i (omega (arith, below, count))
    ∙ ap (λ k. Some (f k)) (from_zero i))
    ∙ ap (λ k. map f (numbers_below k)) count
  where
    from_zero : (i : ℕ) → i ≡ 0 + i
    from_zero i = omega arith

-- a list of a mapped range
pub listed : (f : ℕ → List ℕ) (n i : ℕ) → i < n → list_at (map f (numbers_below n)) i ≡ f i
listed f n i below = ap list_or_none (range_at f 0 n i below) ∙ ap f from_zero
  where
    from_zero : 0 + i ≡ i
    from_zero = omega arith

-- putting at the places of two lists is putting at the first's, then at the second's
filed_both : (lists : List (List ℕ)) (xs ys : List ℕ) (rule : ℕ)
    → filed_at_all lists (xs ++ ys) rule ≡ filed_at_all (filed_at_all lists xs rule) ys rule
filed_both lists [] ys rule = refl
filed_both lists (x ∷ xs) ys rule = filed_both (filed_at lists x rule) xs ys rule

-- so is putting at the places of each of several
pub filed_flat : (places : ℕ → List ℕ) (lists : List (List ℕ)) (rules : List ℕ) (number : ℕ)
    → filed_at_each places lists rules number ≡ filed_at_all lists (flat_map places rules) number
filed_flat places lists [] number = refl
filed_flat places lists (rule ∷ rules) number =
    filed_flat places (filed_at_all lists (places rule) number) rules number
    ∙ sym (filed_both lists (places rule) (flat_map places rules) number)
