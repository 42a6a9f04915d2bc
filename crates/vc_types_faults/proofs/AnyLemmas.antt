-- Tests of lists that are seen or filtered.
use Rattle.std.proofs.Common.{◌≡◌, Bool, ◌||◌, List, [], ◌∷◌, map, refl, ap, Option, Some, None, ℕ}
use Rattle.std.specs.List.{cons_option, list_any}
use Rattle.vc_types_faults.specs.Terms.{if_part}

pub any_map : {X Y : Type 0} (p : Y → Bool) (f : X → Y) (xs : List X)
    → list_any p (map f xs) ≡ list_any (λ x. p (f x)) xs
any_map p f [] = refl
any_map p f (x ∷ xs) = ap (λ b. p (f x) || b) (any_map p f xs)

pub any_option : (p : ℕ → Bool) (o : Option ℕ) (ns : List ℕ)
    → list_any p (cons_option o ns) ≡ (if_part p o || list_any p ns)
any_option p None ns = refl
any_option p (Some n) ns = refl
