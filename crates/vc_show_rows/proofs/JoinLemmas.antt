-- Pieces of a list of intervals from a number on.
use Rattle.std.proofs.Common.{◌≡◌, ℕ, zero, suc, ◌+◌, ◌≤◌, List, [], ◌∷◌, ◌++◌, drop, length, map, refl, sym, ◌∙◌, ap}
use Rattle.std.proofs.Common.{append_assoc, arith}
use Rattle.std.specs.Prelude.{Some, slice_get}
use Rattle.vc_value.specs.declared.grains.Grain.{Grain}
use Rattle.vc_plan.specs.declared.conditions.Piece.{Piece}
use Rattle.vc_plan.specs.declared.conditions.Piece.TheVariants.{Stretch}

-- what is left of a list from a place on begins with what stands there
left_from : {X : Type 0} (xs : List X) (n : ℕ) (x : X) → slice_get xs n ≡ Some x → drop n xs ≡ x ∷ drop (n + 1) xs
left_from [] n x e = absurd (cc)
left_from (y ∷ xs) zero x e = ap (λ z. z ∷ xs) (same y x e)
  where
    same : {Y : Type 0} (a b : Y) → Some a ≡ Some b → a ≡ b
    same a b e = cc
left_from (y ∷ xs) (suc n) x e =
    let next : n + 1 ≡ suc n = omega arith in
    let later : suc n + 1 ≡ suc (n + 1) = omega arith in
    left_from xs n x e ∙ ap (λ k. x ∷ drop k (y ∷ xs)) (let k : suc (n + 1) ≡ suc n + 1 = omega arith in k)

pub stretch_next : (grains : List Grain) (n : ℕ) (grain : Grain) → slice_get grains n ≡ Some grain
    → map Stretch (drop n grains) ≡ Stretch grain ∷ map Stretch (drop (n + 1) grains)
stretch_next grains n grain e = ap (map Stretch) (left_from grains n grain e)

pub stretch_put : (grains : List Grain) (n : ℕ) (grain : Grain) (out next whole : List Piece)
    → slice_get grains n ≡ Some grain
    → next ≡ out ++ (Stretch grain ∷ []) → out ++ map Stretch (drop n grains) ≡ whole
    → next ++ map Stretch (drop (n + 1) grains) ≡ whole
stretch_put grains n grain out next whole e put so_far =
    let rest = map Stretch (drop (n + 1) grains) in
    ap (λ xs. xs ++ rest) put
    ∙ (append_assoc out (Stretch grain ∷ []) rest
    ∙ (ap (λ xs. out ++ xs) (sym (stretch_next grains n grain e)) ∙ so_far))

pub none_left : (grains : List Grain) (n : ℕ) → length grains ≤ n → map Stretch (drop n grains) ≡ []
none_left [] zero past = refl
none_left [] (suc n) past = refl
none_left (grain ∷ grains) zero past = absurd (omega (arith, past))
none_left (grain ∷ grains) (suc n) past = none_left grains n (omega (arith, past))

pub ruleset stretching = (none_left)
