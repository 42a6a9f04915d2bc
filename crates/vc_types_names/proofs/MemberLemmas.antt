-- Flags tell what a walk over a class's members tells.
use Rattle.std.proofs.Common.{◌≡◌, ◌≢◌, ℕ, zero, suc, ◌+◌, ◌-◌, ◌<◌, ◌≤◌, Bool, true, false, ◌||◌, List, [], ◌∷◌, ◌++◌}
use Rattle.std.proofs.Common.{length, replicate, refl, sym, ap, ◌∙◌, subst, ◌⊎◌, inl, inr, arith, Option, Some, None}
use Rattle.std.proofs.Common.{if◌then◌else◌, ◌==◌, eqb, length-append}
use Rattle.std.specs.List.{find, list_any, slice_get, slice_index_or, slice_set}
use Rattle.std.specs.Option.{option_map}
use Rattle.std.proofs.lemmas.Bool.Decides.{eqb_tells}
use Rattle.std.proofs.lemmas.Grind.{get_or-set_at}
use Rattle.std.proofs.lemmas.List.{append-nil, get_or-set_other, length-replicate}
use Rattle.std.proofs.lemmas.Option.{slice_get-map}
use Rattle.vc_model_parts.specs.declared.parts.Class.{Class}
use Rattle.vc_types.specs.Looking.{if_member}
use Rattle.vc_types_names.specs.Members.{all_marked, flags_of, is_flagged, marked, rows_of}

-- flags that reach so far already are not made longer
pub long_enough : (flags : List Bool) (member : ℕ) → member < length flags
    → flags ++ replicate (member + 1 - length flags) false ≡ flags
long_enough flags member inside = let none : member + 1 - length flags
    ≡ 0 = omega arith in ap (λ n. flags ++ replicate n false) none ∙ append-nil flags

none_set : (n c : ℕ) → slice_index_or (replicate n false) c false ≡ false
none_set zero c = refl
none_set (suc n) zero = refl
none_set (suc n) (suc c) = none_set n c

-- flags that aren't set, and none at all, tell the same
longer : (flags : List Bool) (n c : ℕ)
    → slice_index_or (flags ++ replicate n false) c false ≡ slice_index_or flags c false
longer [] n c = none_set n c
longer (flag ∷ flags) n zero = refl
longer (flag ∷ flags) n (suc c) = longer flags n c

or_one : (b : Bool) → true ≡ (b || true)
or_one true = refl
or_one false = refl

or_none : (b : Bool) → b ≡ (b || false)
or_none true = refl
or_none false = refl

-- a flag that is set, beside those of more members
marked_or : (flags : List Bool) (m c : ℕ) (more : Bool)
    → (slice_index_or (marked flags m) c false || more) ≡ (slice_index_or flags c false || ((m == c) || more))
marked_or flags m c more = by (eqb_tells m c)
  where
    long : List Bool
    long = flags ++ replicate (m + 1 - length flags) false

    reaches : m < length long
    reaches =
        let is = length-append flags (replicate (m + 1 - length flags) false) in
        let more_is = length-replicate (m + 1 - length flags) false in
        omega arith

    by : ((eqb m c ≡ true) × (m ≡ c)) ⊎ ((eqb m c ≡ false) × (m ≢ c))
        → (slice_index_or (marked flags m) c false || more) ≡ (slice_index_or flags c false || ((m == c) || more))
    by (inl e) =
        ap (λ b. b || more) (get_or-set_at long m c true false (sym e.1) reaches)
        ∙ or_one (slice_index_or flags c false) ∙ ap (λ t. slice_index_or flags c false || (t || more)) (sym e.0)
    by (inr e) =
        ap (λ b. b || more) (get_or-set_other long m c true false (λ same. e.1 (sym same))
        ∙ longer flags (m + 1 - length flags) c)
        ∙ ap (λ t. slice_index_or flags c false || (t || more)) (sym e.0)

-- a flag stands where it stood, and where a member is
marked_are : (flags : List Bool) (members : List ℕ) (c : ℕ)
    → slice_index_or (all_marked flags members) c false
    ≡ (slice_index_or flags c false || list_any (λ m. m == c) members)
marked_are flags [] c = or_none (slice_index_or flags c false)
marked_are flags (m ∷ members) c = marked_are (marked flags m) members c
    ∙ marked_or flags m c (list_any (λ m. m == c) members)

-- a number that is found is the one that was sought
found_is : (members : List ℕ) (c : ℕ)
    → (if list_any (λ m. m == c) members then Some c else None) ≡ find (λ m. m == c) members
found_is [] c = refl
found_is (m ∷ members) c = by (found_is members c) (eqb_tells m c)
  where
    by : (if list_any (λ m. m == c) members then Some c else None) ≡ find (λ m. m == c) members
        → ((eqb m c ≡ true) × (m ≡ c)) ⊎ ((eqb m c ≡ false) × (m ≢ c))
        → (if (m == c) || list_any (λ m. m == c) members then Some c else None)
        ≡ (if m == c then Some m else find (λ m. m == c) members)
    by more (inl e) =
        ap (λ t. if t || list_any (λ m. m == c) members then Some c else None) e.0 ∙ ap Some (sym e.1)
        ∙ ap (λ t. if t then Some m else find (λ m. m == c) members) (sym e.0)
    by more (inr e) =
        ap (λ t. if t || list_any (λ m. m == c) members then Some c else None) e.0 ∙ more
        ∙ ap (λ t. if t then Some m else find (λ m. m == c) members) (sym e.0)

-- the characteristic that a class has, by the class's flags
pub member_is : (classes : List Class) (k c : ℕ)
    → (if is_flagged (slice_get (rows_of classes) k) c then Some c else None) ≡ if_member (slice_get classes k) c
member_is classes k c =
    ap (λ row. if is_flagged row c then Some c else None) (slice_get-map (λ class. flags_of class.members) classes k)
    ∙ by (slice_get classes k)
  where
    by : (class : Option Class)
        → (if is_flagged (option_map (λ class. flags_of class.members) class) c then Some c else None)
        ≡ if_member class c
    by None = refl
    by (Some class) = ap (λ b. if b then Some c else None) (marked_are [] class.members c) ∙ found_is class.members c
