-- The texts that a set holds, one after another.
use Rattle.std.proofs.Common.{◌≡◌, ℕ, zero, suc, Bool, true, false, cond, ◌||◌, List, [], ◌∷◌, ◌++◌, map, refl, sym, ap}
use Rattle.std.proofs.Common.{append_assoc, ◌∙◌}
use Rattle.std.specs.Prelude.{slice_index_or}
use Rattle.std.specs.List.{filter, flat_map, list_any}
use Rattle.vc_plan.specs.declared.plans.Plan.{Plan}
use Rattle.vc_plan_users.specs.Choosing.{held_texts}
use Rattle.vc_plan_users.specs.declared.users.SetText.{SetText}
use Rattle.vc_desk_shown.specs.Shown.{chosen_set, chosen_texts}

-- the texts of a set, by its number
pub texts_at : (sets : List (List SetText)) (s : ℕ)
    → slice_index_or (map held_texts sets) s [] ≡ held_texts (slice_index_or sets s [])
texts_at [] s = refl
texts_at (texts ∷ sets) zero = refl
texts_at (texts ∷ sets) (suc s) = texts_at sets s

-- where none is held
pub none_held : (texts : List SetText) → list_any (λ t. t.held) texts ≡ false → held_texts texts ≡ []
none_held [] e = refl
none_held (t ∷ texts) e = by t.held refl e (none_held texts)
  where
    by : (b : Bool) → t.held ≡ b → (b || list_any (λ t. t.held) texts) ≡ false
        → (list_any (λ t. t.held) texts ≡ false → held_texts texts ≡ [])
        → held_texts (t ∷ texts) ≡ []
    by true h e later = absurd (cc)
    by false h e later =
        ap (λ b. map (λ x. x.text) (cond b (t ∷ filter (λ x. x.held) texts) (filter (λ x. x.held) texts))) h ∙ later e

-- what the texts give that are held, by the first of them
pub held_next : {Y : Type 0} (f : ℕ → List Y) (text : SetText) (texts : List SetText)
    → flat_map f (held_texts (text ∷ texts)) ≡ (flat_map f (held_texts (text ∷ [])) ++ flat_map f (held_texts texts))
held_next f text texts = by text.held refl
  where
    by : (b : Bool) → text.held ≡ b
        → flat_map f (held_texts (text ∷ texts))
        ≡ (flat_map f (held_texts (text ∷ [])) ++ flat_map f (held_texts texts))
    by true h =
        ap (λ b. flat_map f (map (λ x. x.text)
        (cond b (text ∷ filter (λ x. x.held) texts) (filter (λ x. x.held) texts)))) h
        ∙ sym (ap (λ b. flat_map f (map (λ x. x.text) (cond b (text ∷ []) [])) ++ flat_map f (held_texts texts)) h
        ∙ append_assoc (f text.text) [] (flat_map f (held_texts texts)))
    by false h =
        ap (λ b. flat_map f (map (λ x. x.text)
        (cond b (text ∷ filter (λ x. x.held) texts) (filter (λ x. x.held) texts)))) h
        ∙ sym (ap (λ b. flat_map f (map (λ x. x.text) (cond b (text ∷ []) [])) ++ flat_map f (held_texts texts)) h)

-- where some are
pub some_held : (plan : Plan) (i s : ℕ) (texts : List SetText) → list_any (λ t. t.held) texts ≡ true
    → chosen_texts plan i s (held_texts texts) ≡ chosen_set plan i s (held_texts texts)
some_held plan i s [] e = absurd (cc)
some_held plan i s (t ∷ texts) e = by t.held refl e (some_held plan i s texts)
  where
    by : (b : Bool) → t.held ≡ b → (b || list_any (λ x. x.held) texts) ≡ true
        → (list_any (λ x. x.held) texts ≡ true
        → chosen_texts plan i s (held_texts texts) ≡ chosen_set plan i s (held_texts texts))
        → chosen_texts plan i s (held_texts (t ∷ texts)) ≡ chosen_set plan i s (held_texts (t ∷ texts))
    by true h e later =
        let here : held_texts (t ∷ texts) ≡ t.text ∷ held_texts texts =
        ap (λ b. map (λ x. x.text) (cond b (t ∷ filter (λ x. x.held) texts) (filter (λ x. x.held) texts))) h in
        ap (chosen_texts plan i s) here ∙ ap (chosen_set plan i s) (sym here)
    by false h e later =
        let there : held_texts (t ∷ texts) ≡ held_texts texts =
        ap (λ b. map (λ x. x.text) (cond b (t ∷ filter (λ x. x.held) texts) (filter (λ x. x.held) texts))) h in
        ap (chosen_texts plan i s) there ∙ later e ∙ ap (chosen_set plan i s) (sym there)
