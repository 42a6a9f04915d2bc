-- Names in a list without doubles, and their numbers.
use Rattle.std.proofs.Common.{◌≡◌, ℕ, suc, ◌+◌, ◌<◌, Bool, true, false, cond, not, ◌&&◌, ◌||◌, nat_lt, List, [], ◌∷◌}
use Rattle.std.proofs.Common.{◌++◌, length, map, Option, Some, None, if◌then◌else◌}
use Rattle.std.proofs.Common.{refl, sym, ap, subst, ◌∙◌, arith}
use Rattle.std.specs.Prelude.{slice_get}
use Rattle.std.specs.List.{list_any, position_or_len}
use Rattle.std.proofs.lemmas.Bool.{and_parts, and_from, or_parts, or_from, not_from_false, not-true, ltb-true, lt-ltb}
use Rattle.std.proofs.lemmas.List.Folds.{list_any-append}
use Rattle.std.specs.Cmp.Lexicographic.{bytes_decides}
use Rattle.std.proofs.lemmas.Bool.Decides.{same_from_decides}
use Rattle.vc_value.specs.Words.{same_bytes}
use Rattle.vc_model_lines.specs.declared.line.Line.{Line}
use Rattle.vc_model_scope.specs.Names.{is_among, place_of, with_name}
use Rattle.vc_model_scope.specs.Recursions.{declared, listed, with_option}
use Rattle.vc_plan.specs.Orders.{are_apart}

pub same_turns : (a b : List ℕ) → same_bytes a b ≡ same_bytes b a
same_turns a b = same_from_decides (same_bytes a b) (same_bytes b a) (bytes_decides a b)
    ((λ e. sym ((bytes_decides b a).0 e), λ e. (bytes_decides b a).1 (sym e)))

-- a name that is none of others is apart from them
pub apart_push : (names : List (List ℕ)) (name : List ℕ) → are_apart same_bytes names ≡ true
    → is_among names name ≡ false
    → are_apart same_bytes (names ++ name ∷ []) ≡ true
apart_push [] name apart new = refl
apart_push (first ∷ names) name apart new =
    let parts = and_parts (not (list_any (same_bytes first) names)) (are_apart same_bytes names) apart in
    let here = or_parts (same_bytes name first) (is_among names name) new in
    let none : list_any (same_bytes first) (names ++ name ∷ []) ≡ false =
    list_any-append (same_bytes first) names (name ∷ [])
    ∙ or_from (list_any (same_bytes first) names) (same_bytes first name || false)
    (not-true (list_any (same_bytes first) names) parts.0)
    (or_from (same_bytes first name) false (same_turns first name ∙ here.0) refl) in
    and_from (not (list_any (same_bytes first) (names ++ name ∷ []))) (are_apart same_bytes (names ++ name ∷ []))
    (not_from_false (list_any (same_bytes first) (names ++ name ∷ [])) none) (apart_push names name parts.1 here.1)

-- names with one more, unless it is there, stay apart
apart_with : (names : List (List ℕ)) (name : List ℕ) → are_apart same_bytes names ≡ true
    → are_apart same_bytes (with_name names name) ≡ true
apart_with names name apart = by (is_among names name) refl
  where
    by : (b : Bool) → is_among names name ≡ b → are_apart same_bytes (if b then names else names ++ name ∷ []) ≡ true
    by true is = apart
    by false is = apart_push names name apart is

apart_option : (names : List (List ℕ)) (name : Option (List ℕ)) → are_apart same_bytes names ≡ true
    → are_apart same_bytes (with_option with_name names name) ≡ true
apart_option names None apart = apart
apart_option names (Some name) apart = apart_with names name apart

pub declared_apart : (f : Line → Option (List ℕ)) (earlier : List Line)
    → are_apart same_bytes (declared f earlier) ≡ true
declared_apart f [] = refl
declared_apart f (line ∷ earlier) = apart_option (declared f earlier) (f line) (declared_apart f earlier)

pub listed_apart : (ends : Line → Bool) (f : Line → Option (List ℕ)) (earlier : List Line)
    → are_apart same_bytes (listed with_name ends f earlier) ≡ true
listed_apart ends f [] = refl
listed_apart ends f (line ∷ earlier) = by (ends line) (listed_apart ends f earlier)
  where
    by : (b : Bool) → are_apart same_bytes (listed with_name ends f earlier) ≡ true
        → are_apart same_bytes (if b then [] else with_option with_name (listed with_name ends f earlier) (f line))
        ≡ true
    by true before = refl
    by false before = apart_option (listed with_name ends f earlier) (f line) before

-- a name that isn't there is put last
pub put_last : (names : List (List ℕ)) (name : List ℕ) → is_among names name ≡ false
    → with_name names name ≡ names ++ name ∷ []
put_last names name new = ap (λ b. if b then names else names ++ name ∷ []) new

-- things are apart where what they are known by is
pub any_map : {X K : Type 0} (f : X → K) (p : K → Bool) (xs : List X)
    → list_any (λ x. p (f x)) xs ≡ list_any p (map f xs)
any_map f p [] = refl
any_map f p (x ∷ xs) = ap (λ b. p (f x) || b) (any_map f p xs)

pub apart_map : {X K : Type 0} (f : X → K) (same : K → K → Bool) (xs : List X)
    → are_apart (λ a b. same (f a) (f b)) xs ≡ are_apart same (map f xs)
apart_map f same [] = refl
apart_map f same (x ∷ xs) =
    ap (λ b. not b && are_apart (λ a b. same (f a) (f b)) xs) (any_map f (same (f x)) xs)
    ∙ ap (λ b. not (list_any (same (f x)) (map f xs)) && b) (apart_map f same xs)

-- a name that is there is there still
pub among_front : (names more : List (List ℕ)) (name : List ℕ) → is_among names name ≡ true
    → is_among (names ++ more) name ≡ true
among_front names more name there = list_any-append (same_bytes name) names more
    ∙ ap (λ b. b || is_among more name) there

-- what number a name has
pub record HasNumber (names : List (List ℕ)) (name : List ℕ) : Type 0 where
  pub number : ℕ
  pub is : place_of names name ≡ Some number
  pub inside : number < length names
  pub here : slice_get names number ≡ Some name

pub number_inside : (names : List (List ℕ)) (name : List ℕ) (number : ℕ) → place_of names name ≡ Some number
    → number < length names
number_inside names name number e = by (nat_lt (position_or_len (same_bytes name) names) (length names)) refl e
  where
    by : (b : Bool) → nat_lt (position_or_len (same_bytes name) names) (length names) ≡ b
        → cond b (Some (position_or_len (same_bytes name) names)) None ≡ Some number → number < length names
    by true is found =
        let same : position_or_len (same_bytes name) names ≡ number = cc in
        subst (λ (k : ℕ). k < length names) same (ltb-true (position_or_len (same_bytes name) names) (length names) is)
    by false is found = absurd (cc)

pub one_and : (n : ℕ) → 1 + n ≡ suc n
one_and n = omega arith

-- where it is there, the name stands at its number
pub found_at : (names : List (List ℕ)) (name : List ℕ) → is_among names name ≡ true
    → (position_or_len (same_bytes name) names < length names)
    × (slice_get names (position_or_len (same_bytes name) names) ≡ Some name)
found_at [] name there = absurd (cc)
found_at (first ∷ names) name there = by (same_bytes name first) refl there (λ t. found_at names name t)
  where
    by : (b : Bool) → same_bytes name first ≡ b → (b || is_among names name) ≡ true
        → (is_among names name ≡ true → (position_or_len (same_bytes name) names < length names)
        × (slice_get names (position_or_len (same_bytes name) names) ≡ Some name))
        → (cond (not b) (1 + position_or_len (same_bytes name) names) 0 < suc (length names))
        × (slice_get (first ∷ names) (cond (not b) (1 + position_or_len (same_bytes name) names) 0) ≡ Some name)
    by true is t on = (omega arith, ap Some (sym ((bytes_decides name first).0 is)))
    by false is t on = let rest = on t in (
      omega (arith, rest.0),
      ap (slice_get (first ∷ names))
          (one_and (position_or_len (same_bytes name) names)) ∙ rest.1,
    )

pub has_number : (names : List (List ℕ)) (name : List ℕ) → is_among names name ≡ true → HasNumber names name
has_number names name there =
    let found = found_at names name there in
    record {
      number = position_or_len (same_bytes name) names;
      is = ap (λ b. cond b (Some (position_or_len (same_bytes name) names)) None)
          (lt_true (position_or_len (same_bytes name) names) (length names) found.0);
      inside = found.0;
      here = found.1;
    }
  where
    lt_true : (m n : ℕ) → m < n → nat_lt m n ≡ true
    lt_true m n h = lt-ltb m n h
