-- Sets as lists whose elements are told apart by a test `same`.
use Rattle.std.specs.Prelude.{◌≡◌, Bool, true, if◌then◌else◌, List, [], ◌∷◌}
use Rattle.std.specs.List.{list_any}

-- whether the set has the element
abbrev pub has : {A : Type 0} → (A → A → Bool) → List A → A → Bool
has same set a = list_any (same a) set

-- the set with each of the elements that it doesn't have yet
abbrev pub with_all : {A : Type 0} → (A → A → Bool) → List A → List A → List A
with_all same set [] = set
with_all same set (a ∷ more) = with_all same (if has same set a then set else a ∷ set) more

-- the first set is a part of the second
abbrev pub Within : {A : Type 0} → (A → A → Bool) → List A → List A → Type 0
Within {A = A} same part whole = (a : A) → has same part a ≡ true → has same whole a ≡ true
