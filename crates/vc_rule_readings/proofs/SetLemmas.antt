-- Which texts a set has, of those that it may have.
use Rattle.std.proofs.Common.{◌≡◌, ℕ, Bool, true, false, ◌&&◌, ◌||◌, List, [], ◌∷◌, refl, sym, ◌∙◌, ap, inl, inr}
use Rattle.std.specs.Prelude.{◌==◌, if◌then◌else◌}
use Rattle.std.specs.List.{filter, list_any}
use Rattle.std.proofs.lemmas.Bool.Decides.{eqb_tells}
use Rattle.vc_plan.specs.declared.conditions.Kleene.TheVariants.{False, Unknown}
use Rattle.vc_plan.specs.Kleene.{truth_of}
use Rattle.vc_plan.specs.Truth.{set_filled, set_holds}

module _ (holds : ℕ → Bool) where
  tests : (b c e q r : Bool) → (e ≡ true → b ≡ c) → r ≡ (q && c) → (if b then (e || r) else r) ≡ ((e || q) && c)
  tests true c true q r f i = f refl
  tests true c false q r f i = i
  tests false c true true r f i = i
  tests false c true false r f i = i ∙ f refl
  tests false c false q r f i = i

  put_if : (text t : ℕ) (texts : List ℕ) (b : Bool)
      → list_any (λ x. x == text) (if b then t ∷ texts else texts)
      ≡ (if b then ((t == text) || list_any (λ x. x == text) texts) else list_any (λ x. x == text) texts)
  put_if text t texts true = refl
  put_if text t texts false = refl

  same_held : (t text : ℕ) → (t == text) ≡ true → holds t ≡ holds text
  same_held t text e =
      elim (eqb_tells t text) [ inl same ↦ ap holds same.1 | inr apart ↦ absurd (let other = apart.0 in cc) ]

  -- a text is among those that are held where it is one of all, and held
  kept : (text : ℕ) (texts : List ℕ)
      → list_any (λ x. x == text) (filter holds texts) ≡ (list_any (λ x. x == text) texts && holds text)
  kept text [] = refl
  kept text (t ∷ texts) =
      put_if text t (filter holds texts) (holds t)
      ∙ tests (holds t) (holds text) (t == text) (list_any (λ x. x == text) texts)
      (list_any (λ x. x == text) (filter holds texts))
      (same_held t text) (kept text texts)

  none_kept : (texts : List ℕ) → list_any holds texts ≡ false → filter holds texts ≡ []
  none_kept [] e = refl
  none_kept (t ∷ texts) e = by (holds t) (list_any holds texts) e (none_kept texts)
    where
      by : (b c : Bool) → (b || c) ≡ false → (c ≡ false → filter holds texts ≡ [])
          → (if b then t ∷ filter holds texts else filter holds texts) ≡ []
      by true c e h = absurd (cc)
      by false c e h = h e

  some_kept : (texts : List ℕ) → list_any holds texts ≡ true
      → (x : ℕ) × (rest : List ℕ) × (filter holds texts ≡ x ∷ rest)
  some_kept [] e = absurd (cc)
  some_kept (t ∷ texts) e = by (holds t) (list_any holds texts) e (some_kept texts)
    where
      by : (b c : Bool) → (b || c) ≡ true → (c ≡ true → (x : ℕ) × (rest : List ℕ) × (filter holds texts ≡ x ∷ rest))
          → (x : ℕ) × (rest : List ℕ) × ((if b then t ∷ filter holds texts else filter holds texts) ≡ x ∷ rest)
      by true c e h = (t, filter holds texts, refl)
      by false c e h = h e

-- an empty set has neither the text nor any; another has the text where that is one of all, and held
pub none_held : (holds : ℕ → Bool) (text : ℕ) (texts : List ℕ) → list_any holds texts ≡ false
    → set_holds text (filter holds texts) ≡ Unknown
none_held holds text texts e = ap (set_holds text) (none_kept holds texts e)

pub some_held : (holds : ℕ → Bool) (text : ℕ) (texts : List ℕ) → list_any holds texts ≡ true
    → set_holds text (filter holds texts) ≡ truth_of (list_any (λ x. x == text) texts && holds text)
some_held holds text texts e =
    let some = some_kept holds texts e in
    (ap (set_holds text) some.2 ∙ ap (λ xs. truth_of (list_any (λ x. x == text) xs)) (sym some.2))
    ∙ ap truth_of (kept holds text texts)

pub filled : (holds : ℕ → Bool) (texts : List ℕ)
    → set_filled False (filter holds texts) ≡ truth_of (list_any holds texts)
filled holds texts = by (list_any holds texts) refl
  where
    by : (b : Bool) → list_any holds texts ≡ b → set_filled False (filter holds texts) ≡ truth_of b
    by true e = ap (set_filled False) (some_kept holds texts e).2
    by false e = ap (set_filled False) (none_kept holds texts e)

pub ruleset holding = (none_held, some_held)

pub ruleset filling = (filled)
