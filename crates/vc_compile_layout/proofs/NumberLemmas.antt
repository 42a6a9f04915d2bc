-- A place with its number, put last into what has numbers.
use Rattle.std.proofs.Common.{◌≡◌, ℕ, Bool, cond, ◌&&◌, ◌==◌, List, [], ◌∷◌, ◌++◌, ap, ◌∙◌, ◌≤◌}
use Rattle.std.proofs.Common.{arith, length, nat_lt, not, Some, None, if◌then◌else◌}
use Rattle.std.specs.List.{position, position_or_len}
use Rattle.std.specs.Option.{option_or}
use Rattle.std.proofs.lemmas.Bool.Decides.{nat_tests}
use Rattle.std.proofs.lemmas.List.Sums.{prefix_len-le-length}
use Rattle.std.specs.Map.{lookup}
use Rattle.vc_types_names.proofs.NameLemmas.{lookup_join}
use Rattle.vc_compile_layout.specs.declared.numbers.Spot.{Spot}

-- equality is told the same from both sides
turned : (i j c d : ℕ) → ((i == j) && (c == d)) ≡ ((j == i) && (d == c))
turned i j c d = grind (arith, nat_tests)

pub spot_push : (pairs : List (Spot × ℕ)) (spot : Spot) (n i c : ℕ)
    → lookup (λ s. (i == s.slot) && (c == s.characteristic)) (pairs ++ (spot, n) ∷ [])
    ≡ option_or (lookup (λ s. (i == s.slot) && (c == s.characteristic)) pairs)
    (if (spot.slot == i) && (spot.characteristic == c) then Some n else None)
spot_push pairs spot n i c =
    lookup_join (λ s. (i == s.slot) && (c == s.characteristic)) pairs ((spot, n) ∷ [])
    ∙ ap (λ b. option_or (lookup (λ s. (i == s.slot) && (c == s.characteristic)) pairs) (cond b (Some n) None))
    (turned i spot.slot c spot.characteristic)

-- what has no place is behind all
pub nowhere : {X : Type 0} (p : X → Bool) (xs : List X) → position p xs ≡ None → length xs ≡ position_or_len p xs
nowhere p xs is = past (position_or_len p xs) (length xs) (prefix_len-le-length (λ x. not (p x)) xs) is
  where
    past : (m n : ℕ) → m ≤ n → cond (nat_lt m n) (Some m) None ≡ None → n ≡ m
    past m n before is = grind (arith, nat_tests)

pub ruleset nowheres = (nowhere)
