-- Drafts that come one list behind another.
use Rattle.std.proofs.Common.{◌≡◌, ℕ, suc, ◌+◌, ◌<◌, List, ◌∷◌, ◌++◌, drop, flat_map, get_or, length, map, ap, sym}
use Rattle.std.proofs.Common.{◌∙◌, arith}
use Rattle.std.proofs.Math.Seq.{drop-cons}
use Rattle.vc_plan.specs.declared.plans.Slot.{Slot}
use Rattle.vc_compile_plan.specs.Numbering.{Brings}
use Rattle.vc_compile_plan.specs.Variables.{by_slot}
use Rattle.vc_compile_numbering.specs.Growing.{Numbered, with_drafts}
use Rattle.vc_compile_numbering.proofs.NumberingLaws.{drafts_append}

-- a list of drafts more
pub step_over : {D X : Type 0} (brings : Brings D) (make : ℕ → ℕ → D → X) (before now next : Numbered X)
    (all first rest : List D)
    → with_drafts brings make now (first ++ rest) ≡ with_drafts brings make before all
    → next ≡ with_drafts brings make now first
    → with_drafts brings make next rest ≡ with_drafts brings make before all
step_over brings make before now next all first rest same is =
    ap (λ n. with_drafts brings make n rest) is ∙ sym (drafts_append brings make now first rest) ∙ same

-- the drafts of one element, and of those after it; a copied element shows with a default
pub first_of_all : {X D : Type 0} (f : X → List D) (xs : List X) (i : ℕ) (d : X) → i < length xs
    → flat_map f (drop i xs) ≡ f (get_or xs i d) ++ flat_map f (drop (i + 1) xs)
first_of_all f xs i d inside =
    let next : suc i ≡ i + 1 = omega arith in
    ap (flat_map f) (drop-cons xs i d inside) ∙ ap (λ n. f (get_or xs i d) ++ flat_map f (drop n xs)) next

pub first_slot : {X : Type 0} (f : ℕ → Slot → List X) (xs : List Slot) (i : ℕ) (d : Slot) → i < length xs
    → by_slot f i (drop i xs) ≡ f i (get_or xs i d) ++ by_slot f (i + 1) (drop (i + 1) xs)
first_slot f xs i d inside =
    let next : suc i ≡ i + 1 = omega arith in
    ap (by_slot f i) (drop-cons xs i d inside) ∙ ap (λ n. f i (get_or xs i d) ++ by_slot f n (drop n xs)) next

-- one element more of a list whose elements bring lists
pub flat_step : {X D Y : Type 0} (brings : Brings D) (make : ℕ → ℕ → D → Y) (f : X → List D) (xs : List X) (i : ℕ)
    (d : X) (before now next : Numbered Y)
    → i < length xs → with_drafts brings make now (flat_map f (drop i xs)) ≡ before
    → next ≡ with_drafts brings make now (f (get_or xs i d))
    → with_drafts brings make next (flat_map f (drop (i + 1) xs)) ≡ before
flat_step brings make f xs i d before now next inside same is =
    ap (λ n. with_drafts brings make n (flat_map f (drop (i + 1) xs))) is
    ∙ sym (drafts_append brings make now (f (get_or xs i d)) (flat_map f (drop (i + 1) xs)))
    ∙ ap (with_drafts brings make now) (sym (first_of_all f xs i d inside)) ∙ same

pub mapped_step : {X Z D Y : Type 0} (brings : Brings D) (make : ℕ → ℕ → D → Y) (f : Z → List D) (h : X → Z)
    (xs : List X) (i : ℕ) (d : X) (before now next : Numbered Y)
    → i < length xs → with_drafts brings make now (flat_map f (map h (drop i xs))) ≡ before
    → next ≡ with_drafts brings make now (f (h (get_or xs i d)))
    → with_drafts brings make next (flat_map f (map h (drop (i + 1) xs))) ≡ before
mapped_step brings make f h xs i d before now next inside same is =
    let after : suc i ≡ i + 1 = omega arith in
    let rest = flat_map f (map h (drop (i + 1) xs)) in
    let first : drop i xs ≡ get_or xs i d ∷ drop (i + 1) xs
    = drop-cons xs i d inside ∙ ap (λ n. get_or xs i d ∷ drop n xs) after in
    ap (λ n. with_drafts brings make n rest) is ∙ sym (drafts_append brings make now (f (h (get_or xs i d))) rest)
    ∙ ap (λ ys. with_drafts brings make now (flat_map f (map h ys))) (sym first) ∙ same

pub slot_step : {D Y : Type 0} (brings : Brings D) (make : ℕ → ℕ → D → Y) (f : ℕ → Slot → List D) (xs : List Slot)
    (i : ℕ) (d : Slot) (before now next : Numbered Y)
    → i < length xs → with_drafts brings make now (by_slot f i (drop i xs)) ≡ before
    → next ≡ with_drafts brings make now (f i (get_or xs i d))
    → with_drafts brings make next (by_slot f (i + 1) (drop (i + 1) xs)) ≡ before
slot_step brings make f xs i d before now next inside same is =
    ap (λ n. with_drafts brings make n (by_slot f (i + 1) (drop (i + 1) xs))) is
    ∙ sym (drafts_append brings make now (f i (get_or xs i d)) (by_slot f (i + 1) (drop (i + 1) xs)))
    ∙ ap (with_drafts brings make now) (sym (first_slot f xs i d inside)) ∙ same
