-- The length of a body, by the first of its fields and how many there are.
use Rattle.std.proofs.Common.{◌≡◌, ℕ, List, [], ◌∷◌, length, refl, ap, arith, None, Some}
use Rattle.vc_http_heads.specs.Fields.{first_of, length_among}
use Rattle.vc_http_heads.specs.declared.fields.Length.TheVariants as lengths

pub absent_length : (values : List (List ℕ)) → None ≡ first_of values → lengths.Absent ≡ length_among values
absent_length [] h = refl
absent_length (value ∷ values) h = absurd (cc h)

pub one_length : (values : List (List ℕ)) (value : List ℕ) → Some value ≡ first_of values → length values ≡ 1
    → length_among (value ∷ []) ≡ length_among values
one_length [] value h n = absurd (cc h)
one_length (first ∷ []) value h n = let same : value ≡ first = cc h in ap (λ v. length_among (v ∷ [])) same
one_length (first ∷ second ∷ values) value h n = absurd (omega (arith, n))

pub more_lengths : (values : List (List ℕ)) (value : List ℕ) → Some value ≡ first_of values → (length values ≡ 1 → ⊥)
    → lengths.Bad ≡ length_among values
more_lengths [] value h n = absurd (cc h)
more_lengths (first ∷ []) value h n = absurd (n refl)
more_lengths (first ∷ second ∷ values) value h n = refl

pub ruleset length_rules = (absent_length, one_length, more_lengths)
