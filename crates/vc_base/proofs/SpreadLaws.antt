-- What things reach is the least list that holds them and all that is written from it.
use Rattle.std.proofs.Common.{◌≡◌, ℕ, zero, suc, ◌+◌, ◌<◌, ◌≤◌, Bool, true, false, cond, ◌⊎◌, List, [], ◌∷◌, ◌++◌}
use Rattle.std.proofs.Common.{length, refl, sym, ◌∙◌, ap, subst, inl, inr, arith, length-append}
use Rattle.std.specs.Cmp.{IsEquivalence}
use Rattle.std.specs.List.{flat_map, list_any, IsDistinct}
use Rattle.std.proofs.lemmas.Bool.{or_cases, or_left, or_right}
use Rattle.std.proofs.lemmas.Map.Made.{length-le_from_is_member}
use Rattle.vc_base.specs.Sets.{has, with_all, Within}
use Rattle.vc_base.specs.Spreading.{Links, reads_some, written_from, spread, reach, IsSpread}
use Rattle.vc_base.proofs.Counting.{missing}
use Rattle.vc_base.proofs.SetLaws.{same_test, has_either, has_front, has_back, with_all_left, with_all_right}
use Rattle.vc_base.proofs.SetLaws.{with_all_cases, with_all_same, with_all_longer, with_all_distinct}

module _ {T R : Type 0} (links : Links T R) (exact : (a b : T) → links.same a b ≡ true → a ≡ b)
    (itself : (a : T) → links.same a a ≡ true) where
  -- a rule that reads a thing of a list reads one of a longer list
  more_read : (xs ys : List T) → Within links.same xs ys → (things : List T)
      → list_any (has links.same xs) things ≡ true
      → list_any (has links.same ys) things ≡ true
  more_read xs ys w [] e = e
  more_read xs ys w (a ∷ things) e =
      elim (or_cases (has links.same xs a) (list_any (has links.same xs) things) e) [
        | inl h ↦ or_left (has links.same ys a) (list_any (has links.same ys) things) (w a h)
        | inr h ↦ or_right (has links.same ys a) (list_any (has links.same ys) things) (more_read xs ys w things h)
      ]

  -- what rules write under a test, they write under a test that follows, and at all
  abbrev written_if : (R → Bool) → List R → List T
  written_if test rules = flat_map (λ rule. cond (test rule) (links.writes rule) []) rules

  if_more : (p q : R → Bool) → ((r : R) → p r ≡ true → q r ≡ true) → (rules : List R)
      → Within links.same (written_if p rules) (written_if q rules)
  if_more p q f [] a h = h
  if_more p q f (r ∷ rules) a h =
      elim (has_either links.same exact itself (cond (p r) (links.writes r) []) (written_if p rules) a h) [
        | inl e ↦ has_front links.same exact itself (cond (q r) (links.writes r) []) (written_if q rules) a
            (first (p r) (q r) (links.writes r) (f r) e)
        | inr e ↦ has_back links.same exact itself (cond (q r) (links.writes r) []) (written_if q rules) a
            (if_more p q f rules a e)
      ]
    where
      first : (b c : Bool) (xs : List T) → (b ≡ true → c ≡ true) → has links.same (cond b xs []) a ≡ true
          → has links.same (cond c xs []) a ≡ true
      first true true xs g k = k
      first true false xs g k = let no : false ≡ true = g refl in absurd (cc)
      first false c xs g k = absurd (cc)

  written_grows : (xs ys : List T) → Within links.same xs ys
      → Within links.same (written_from links xs) (written_from links ys)
  written_grows xs ys w =
      if_more (reads_some links xs) (reads_some links ys) (λ r e. more_read xs ys w (links.reads r) e) links.rules

  all_written : (xs : List T) → Within links.same (written_from links xs) (flat_map links.writes links.rules)
  all_written xs = if_more (reads_some links xs) (λ r. true) (λ r e. refl) links.rules

  -- what is spread holds what it began with
  spread_holds : (n : ℕ) (xs : List T) → Within links.same xs (spread links n xs)
  spread_holds zero xs = λ a h. h
  spread_holds (suc n) xs = λ a h.
      spread_holds n (with_all links.same xs (written_from links xs)) a
      (with_all_left links.same exact itself xs (written_from links xs) a h)

  -- and stands in each list that has what is written from it
  spread_within : (n : ℕ) (xs all : List T) → Within links.same xs all → Within links.same (written_from links all) all
      → Within links.same (spread links n xs) all
  spread_within zero xs all w c = w
  spread_within (suc n) xs all w c =
      spread_within n (with_all links.same xs (written_from links xs)) all
      (λ a h. elim (with_all_cases links.same exact itself xs (written_from links xs) a h) [
        | inl e ↦ w a e
        | inr e ↦ c a (written_grows xs all w a e)
      ]) c

  spread_distinct : (n : ℕ) (xs : List T) → IsDistinct links.same xs → IsDistinct links.same (spread links n xs)
  spread_distinct zero xs d = d
  spread_distinct (suc n) xs d =
      spread_distinct n (with_all links.same xs (written_from links xs))
      (with_all_distinct links.same exact itself xs (written_from links xs) d)

  -- a list that has what is written from it stays
  spread_stays : (n : ℕ) (xs : List T) → Within links.same (written_from links xs) xs → spread links n xs ≡ xs
  spread_stays zero xs c = refl
  spread_stays (suc n) xs c =
      ap (spread links n) (with_all_same links.same exact itself xs (written_from links xs) c) ∙ spread_stays n xs c

  -- each time it has all that is written, or gets longer
  whole_or_long : (n : ℕ) (xs : List T)
      → Within links.same (written_from links (spread links n xs)) (spread links n xs) ⊎
      (length xs + n ≤ length (spread links n xs))
  whole_or_long zero xs = inr (omega arith)
  whole_or_long (suc n) xs =
      let next = with_all links.same xs (written_from links xs) in
      elim (missing (has links.same xs) links.same itself exact (written_from links xs)) [
        | inl all ↦ inl (subst (λ z. Within links.same (written_from links z) z) (sym (spread_stays (suc n) xs all))
            all)
        | inr one ↦
            let longer : length xs < length next
            = with_all_longer links.same exact itself xs (written_from links xs) one.0 one.1 one.2 in
            elim (whole_or_long n next) [ inl c ↦ inl c | inr l ↦ inr (omega arith) ]
      ]

  -- nothing comes but what it began with and what rules write
  spread_known : (n : ℕ) (xs : List T) → Within links.same (spread links n xs) (xs ++ flat_map links.writes links.rules)
  spread_known n xs =
      let written = flat_map links.writes links.rules in
      spread_within n xs (xs ++ written) (λ a h. has_front links.same exact itself xs written a h)
      (λ a h. has_back links.same exact itself xs written a (all_written (xs ++ written) a h))

  equivalence : IsEquivalence links.same
  equivalence = record {
    refl = itself;
    symm = λ x y. same_test (links.same x y) (links.same y x)
        (λ e. subst (λ z. links.same z x ≡ true) (exact x y e) (itself x))
        (λ e. subst (λ z. links.same z y ≡ true) (exact y x e) (itself y));
    congr = λ x y z e. ap (λ w. links.same w z) (exact x y e);
  }

  enough : (xs : List T) → IsDistinct links.same xs
      → Within links.same (written_from links (spread links (suc (length (flat_map links.writes links.rules))) xs))
      (spread links (suc (length (flat_map links.writes links.rules))) xs)
  enough xs d =
      let written = flat_map links.writes links.rules in
      let n = suc (length written) in
      elim (whole_or_long n xs) [
        | inl c ↦ c
        | inr l ↦
            let most : length (spread links n xs) ≤ length (xs ++ written)
            = length-le_from_is_member equivalence (spread links n xs) (xs ++ written) (spread_distinct n xs d)
            (spread_known n xs) in
            absurd (omega (arith, length-append xs written))
      ]

  none_distinct : IsDistinct links.same []
  unfolding IsDistinct
  none_distinct = tt

  -- what things reach has them and what is written from it, without doubles, and stands in each list that does
  pub reach_spreads : (things : List T) → IsSpread links things (reach links things)
  reach_spreads things =
      let once = with_all links.same [] things in
      record {
        holds =
            λ a h. spread_holds (suc (length (flat_map links.writes links.rules))) once a
            (with_all_right links.same exact itself [] things a h);
        written = enough once (with_all_distinct links.same exact itself [] things none_distinct);
      }

  pub reach_distinct : (things : List T) → IsDistinct links.same (reach links things)
  reach_distinct things =
      spread_distinct (suc (length (flat_map links.writes links.rules))) (with_all links.same [] things)
      (with_all_distinct links.same exact itself [] things none_distinct)

  pub reach_least : (things all : List T) → IsSpread links things all → Within links.same (reach links things) all
  reach_least things all s =
      spread_within (suc (length (flat_map links.writes links.rules))) (with_all links.same [] things) all
      (λ a h. elim (with_all_cases links.same exact itself [] things a h) [ inl e ↦ absurd (cc) | inr e ↦ s.holds a e ])
      s.written
