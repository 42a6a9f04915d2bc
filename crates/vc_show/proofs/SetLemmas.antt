-- Whether a set has a text, by the truth of conditions that ask it.
use Rattle.std.proofs.Common.{◌≡◌, ℕ, Bool, true, false, not, ◌||◌, List, [], ◌∷◌, refl, ◌∙◌, ap}
use Rattle.std.specs.Prelude.{◌==◌}
use Rattle.std.specs.List.{list_any}
use Rattle.vc_base.proofs.SetLaws.{same_test}
use Rattle.vc_base.proofs.ListLaws.{number_exact, number_itself}
use Rattle.vc_value.specs.declared.grains.Grain.{Grain}
use Rattle.vc_plan.specs.declared.conditions.Kleene.TheVariants.{False}
use Rattle.vc_plan.specs.declared.conditions.Piece.TheVariants.{OneText, Stretch}
use Rattle.vc_plan.specs.Kleene.{is_true, truth_of}
use Rattle.vc_plan.specs.Showing.{is_empty, is_text}
use Rattle.vc_plan.specs.Truth.{set_filled, set_holds}

pub some_there : (texts : List ℕ) → is_true (set_filled False texts) ≡ not (is_empty texts)
some_there [] = refl
some_there (t ∷ texts) = refl

truth_told : (b : Bool) → is_true (truth_of b) ≡ b
truth_told true = refl
truth_told false = refl

turned : (s t : ℕ) → (s == t) ≡ (t == s)
turned s t =
    same_test (s == t) (t == s)
    (λ e. ap (λ u. t == u) (number_exact s t e) ∙ number_itself t)
    (λ e. ap (λ u. s == u) (number_exact t s e) ∙ number_itself s)

pub text_there : (text : ℕ) (texts : List ℕ) → is_true (set_holds text texts) ≡ list_any (is_text (OneText text)) texts
text_there text [] = refl
text_there text (t ∷ texts) = truth_told (list_any (λ x. x == text) (t ∷ texts)) ∙ same (t ∷ texts)
  where
    same : (ts : List ℕ) → list_any (λ x. x == text) ts ≡ list_any (is_text (OneText text)) ts
    same [] = refl
    same (u ∷ ts) = ap (λ b. b || list_any (λ x. x == text) ts) (turned u text) ∙ ap (λ b. (text == u) || b) (same ts)

pub no_number_there : (grain : Grain) (texts : List ℕ) → list_any (is_text (Stretch grain)) texts ≡ false
no_number_there grain [] = refl
no_number_there grain (t ∷ texts) = no_number_there grain texts

pub ruleset filled = (some_there)

pub ruleset held = (text_there, no_number_there)
