-- Pieces of lists by their numbers, which of them hold a value, and how many there are.
use Rattle.std.proofs.Common.{◌≡◌, ℕ, suc, ◌^◌, ◌<◌, ◌≤◌, Bool, true, false, ◌||◌, ◌==◌, List}
use Rattle.std.proofs.Common.{[], ◌∷◌, length, map, refl, ◌∙◌}
use Rattle.std.proofs.Common.{◌+◌, ap, sym, inl, inr, arith, cond, not}
use Rattle.std.specs.List.{list_any, position_or_len}
use Rattle.std.specs.Prelude.{slice_get, Some, None, option_map, nat_lt, position}
use Rattle.std.specs.Option.{is_some}
use Rattle.std.proofs.lemmas.Bool.{cases_lt}
use Rattle.std.proofs.lemmas.Bool.Decides.{nat_tests}
use Rattle.std.proofs.lemmas.Option.{slice_get-map}
use Rattle.vc_value.specs.Grains.{holds}
use Rattle.vc_value.specs.declared.decimal.Dec.{Dec}
use Rattle.vc_value.specs.declared.grains.Grain.{Grain}
use Rattle.vc_value.specs.declared.value.Value.TheVariants.{Text, Num}
use Rattle.vc_plan.specs.declared.conditions.Piece.TheVariants.{OneText, Stretch}
use Rattle.vc_plan.specs.declared.plans.Plan.{Plan}
use Rattle.vc_plan.specs.Domains.{grains_in, domain_of, count_of, atom_count}
use Rattle.vc_plan.specs.Pieces.{lies_in_some}
use Rattle.vc_plan.proofs.PlanLaws.Counts.{atoms_before, atoms_within}
use Rattle.vc_plan.proofs.PlanLaws.Lists.{get_past}

pub text_at : (texts : List ℕ) (g : ℕ) → slice_get (map OneText texts) g ≡ option_map OneText (slice_get texts g)
text_at texts g = slice_get-map OneText texts g

pub stretch_at : (grains : List Grain) (g : ℕ) (grain : Grain) → slice_get grains g ≡ Some grain
    → slice_get (map Stretch grains) g ≡ Some (Stretch grain)
stretch_at grains g grain e = slice_get-map Stretch grains g ∙ ap (option_map Stretch) e

pub no_stretch_at : (grains : List Grain) (g : ℕ) → length grains ≤ g → slice_get (map Stretch grains) g ≡ None
no_stretch_at grains g h = slice_get-map Stretch grains g ∙ ap (option_map Stretch) (get_past grains g h)

-- which pieces hold a text or a number
pub among_texts : (texts : List ℕ) (t : ℕ) → lies_in_some (map OneText texts) (Text t) ≡ list_any (λ s. s == t) texts
among_texts [] t = refl
among_texts (s ∷ texts) t = ap (λ b. (s == t) || b) (among_texts texts t)

pub no_number : (texts : List ℕ) (n : Dec) → lies_in_some (map OneText texts) (Num n) ≡ false
no_number [] n = refl
no_number (s ∷ texts) n = no_number texts n

-- one passes just where there is a first that does
one_more : (m n : ℕ) → nat_lt m n ≡ nat_lt (1 + m) (suc n)
one_more m n = grind (arith, nat_tests)

some_first : (b : Bool) (i : ℕ) → is_some (cond b (Some i) None) ≡ b
some_first true i = refl
some_first false i = refl

first_passes : {X : Type 0} (p : X → Bool) (xs : List X) → list_any p xs ≡ nat_lt (position_or_len p xs) (length xs)
first_passes p [] = grind (arith, nat_tests)
first_passes p (x ∷ xs) =
    elim (p x) as
    (λ b. (b || list_any p xs) ≡ nat_lt (cond (not b) (1 + position_or_len p xs) 0) (length (x ∷ xs))) [
      | true ↦ grind (arith, nat_tests)
      | false ↦ first_passes p xs ∙ one_more (position_or_len p xs) (length xs)
    ]

numbers_hold : (grains : List Grain) (n : Dec)
    → lies_in_some (map Stretch grains) (Num n) ≡ list_any (holds n) grains
numbers_hold [] n = refl
numbers_hold (grain ∷ grains) n = ap (λ b. holds n grain || b) (numbers_hold grains n)

pub among_stretches : (grains : List Grain) (n : Dec)
    → lies_in_some (map Stretch grains) (Num n) ≡ is_some (position (holds n) grains)
among_stretches grains n =
    numbers_hold grains n
    ∙ (first_passes (holds n) grains
    ∙ sym (some_first (nat_lt (position_or_len (holds n) grains) (length grains)) (position_or_len (holds n) grains)))

pub no_text : (grains : List Grain) (t : ℕ) → lies_in_some (map Stretch grains) (Text t) ≡ false
no_text [] t = refl
no_text (grain ∷ grains) t = no_text grains t

-- a variable has no more grains than there may be atoms
pub count_within : (plan : Plan) (v : ℕ) → atom_count plan < 2 ^ 32 → count_of plan v < 2 ^ 32
count_within plan v h =
    elim (cases_lt v (length plan.vars)) [
      | inl below ↦ let k = atoms_within plan (atoms_before plan v) v (count_of plan v) refl refl below in omega arith
      | inr past ↦ let none : count_of plan v
          ≡ 0 = ap (λ x. length (grains_in (domain_of plan x))) (get_past plan.vars v past) in omega arith
    ]
