-- Lists that become others place by place, where it is known where they differ.
use Rattle.std.proofs.Common.{◌≡◌, ℕ, zero, suc, ◌-◌, ◌<◌, ◌≤◌, false, List, [], ◌∷◌, length, drop, get_or, take}
use Rattle.std.proofs.Common.{refl, sym, ap, ◌∙◌, inl, inr, arith}
use Rattle.std.specs.Prelude.{Option, None, nat_eq, slice_index_or, slice_set}
use Rattle.std.proofs.lemmas.List.{take_all}
use Rattle.vc_base.specs.Sets.{has}
use Rattle.vc_base.proofs.ListLaws.{number_exact, number_itself}
use Rattle.vc_base.proofs.SetLaws.{both, has_cases, told}
use Rattle.vc_net.specs.Differing.{SameBeside}

-- past its end a list takes nothing
pub set_past : {A : Type 0} (xs : List A) (v : ℕ) (x : A) → length xs ≤ v → xs ≡ slice_set xs v x
set_past [] v x h = refl
set_past (y ∷ xs) zero x h = absurd (omega (arith, h))
set_past (y ∷ xs) (suc v) x h = ap (λ rest. y ∷ rest) (set_past xs v x (omega (arith, h)))

-- where one place takes what another list has there, it is the same there, and elsewhere where it was
put_same : {A : Type 0} (xs ys : List (Option A)) (v w : ℕ) → length xs ≡ length ys
    → ((v ≡ w → ⊥) → slice_index_or xs w None ≡ slice_index_or ys w None)
    → slice_index_or (slice_set xs v (slice_index_or ys v None)) w None ≡ slice_index_or ys w None
put_same [] [] v w long same = refl
put_same [] (y ∷ ys) v w long same = absurd (omega (arith, long))
put_same (x ∷ xs) [] v w long same = absurd (omega (arith, long))
put_same (x ∷ xs) (y ∷ ys) zero zero long same = refl
put_same (x ∷ xs) (y ∷ ys) zero (suc w) long same = same (λ e. omega (arith, e))
put_same (x ∷ xs) (y ∷ ys) (suc v) zero long same = same (λ e. omega (arith, e))
put_same (x ∷ xs) (y ∷ ys) (suc v) (suc w) long same =
    put_same xs ys v w (omega (arith, long)) (λ other. same (λ e. other (omega (arith, e))))

-- one variable more is the same
pub beside_next : {A : Type 0} (rest : List ℕ) (d : ℕ) (xs ys after : List (Option A)) → 1 ≤ length rest
    → length xs ≡ length ys → SameBeside rest xs ys
    → after ≡ slice_set xs (get_or rest 0 d) (slice_index_or ys (get_or rest 0 d) None)
    → SameBeside (take (length rest - 1) (drop 1 rest)) after ys
beside_next [] d xs ys after some long same is v none = absurd (omega (arith, some))
beside_next (u ∷ rest) d xs ys after some long same is v none =
    ap (λ list. slice_index_or list v None) is ∙ put_same xs ys u v long (λ other. same v (apart other))
  where
    left : take (length (u ∷ rest) - 1) rest ≡ rest
    left = take_all (length (u ∷ rest) - 1) rest (omega arith)

    apart : (u ≡ v → ⊥) → has nat_eq (u ∷ rest) v ≡ false
    apart other =
        elim (told (has nat_eq (u ∷ rest) v)) [
          | inl among ↦ absurd (elim (has_cases nat_eq number_exact number_itself u rest v among) [
            | inl is ↦ other (sym is)
            | inr later ↦ both later (ap (λ vars. has nat_eq vars v) (sym left) ∙ none)
          ])
          | inr apart_from ↦ apart_from
        ]

-- what is the same everywhere is the same
all_same : {A : Type 0} (xs ys : List (Option A)) → length xs ≡ length ys
    → ((v : ℕ) → slice_index_or xs v None ≡ slice_index_or ys v None) → xs ≡ ys
all_same [] [] long same = refl
all_same [] (y ∷ ys) long same = absurd (omega (arith, long))
all_same (x ∷ xs) [] long same = absurd (omega (arith, long))
all_same (x ∷ xs) (y ∷ ys) long same =
    let first : x ≡ y = same 0 in
    let more = all_same xs ys (omega (arith, long)) (λ v. same (suc v)) in
    λ j. first j ∷ more j

pub same_at_end : {A : Type 0} (rest : List ℕ) (xs ys : List (Option A)) → length rest < 1 → length xs ≡ length ys
    → SameBeside rest xs ys → xs ≡ ys
same_at_end [] xs ys h long same = all_same xs ys long (λ v. same v refl)
same_at_end (u ∷ rest) xs ys h long same = absurd (omega (arith, h))
