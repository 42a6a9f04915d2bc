-- What things are once one draft after another has its numbers.
use Rattle.std.proofs.Common.{◌≡◌, ℕ, suc, ◌+◌, List, [], ◌∷◌, ◌++◌, length, refl, sym, ap, ◌∙◌, flat_map, arith}
use Rattle.std.proofs.Common.{length-append}
use Rattle.std.proofs.lemmas.List.{append_assoc, append-nil}
use Rattle.vc_compile_plan.specs.Numbering.{Brings, numbered}
use Rattle.vc_compile_plan.specs.Trees.{Condition, Term}
use Rattle.vc_compile_numbering.specs.Growing.{Kept, Numbered, with_draft, with_drafts}

abbrev pub state : {X : Type 0} → List Condition → List Term → List X → Numbered X
state conditions terms items = record { kept = record { conditions = conditions; terms = terms }; items = items }

-- drafts come to the numbered list, and to all that they bring
pub drafts_are_numbered : {D X : Type 0} (brings : Brings D) (make : ℕ → ℕ → D → X) (cs : List Condition)
    (ts : List Term) (xs : List X) (drafts : List D)
    → with_drafts brings make (state cs ts xs) drafts
    ≡ state (cs ++ flat_map brings.conditions drafts) (ts ++ flat_map brings.terms drafts)
    (xs ++ numbered brings make (length cs) (length ts) drafts)
drafts_are_numbered brings make cs ts xs [] =
    ap (λ c. state c ts xs) (sym (append-nil cs)) ∙ ap (λ t. state (cs ++ []) t xs) (sym (append-nil ts))
    ∙ ap (λ x. state (cs ++ []) (ts ++ []) x) (sym (append-nil xs))
drafts_are_numbered brings make cs ts xs (draft ∷ drafts) =
    let c : List Condition = brings.conditions draft in
    let t : List Term = brings.terms draft in
    let more = numbered brings make in
    drafts_are_numbered brings make (cs ++ c) (ts ++ t) (xs ++ make (length cs) (length ts) draft ∷ []) drafts
    ∙ ap (λ l. state l ((ts ++ t) ++ flat_map brings.terms drafts)
    ((xs ++ make (length cs) (length ts) draft ∷ []) ++ more (length (cs ++ c)) (length (ts ++ t)) drafts))
    (append_assoc cs c (flat_map brings.conditions drafts))
    ∙ ap (λ l. state (cs ++ flat_map brings.conditions (draft ∷ drafts)) l
    ((xs ++ make (length cs) (length ts) draft ∷ []) ++ more (length (cs ++ c)) (length (ts ++ t)) drafts))
    (append_assoc ts t (flat_map brings.terms drafts))
    ∙ ap (λ l. state (cs ++ flat_map brings.conditions (draft ∷ drafts)) (ts ++ flat_map brings.terms (draft ∷ drafts))
    l)
    (append_assoc xs (make (length cs) (length ts) draft ∷ []) (more (length (cs ++ c)) (length (ts ++ t)) drafts)
    ∙ ap (λ n. xs ++ make (length cs) (length ts) draft ∷ more n (length (ts ++ t)) drafts) (length-append cs c)
    ∙ ap (λ n. xs ++ make (length cs) (length ts) draft ∷ more (length cs + length c) n drafts) (length-append ts t))

-- drafts of two lists, one after the other
pub drafts_append : {D X : Type 0} (brings : Brings D) (make : ℕ → ℕ → D → X) (before : Numbered X)
    (first second : List D)
    → with_drafts brings make before (first ++ second)
    ≡ with_drafts brings make (with_drafts brings make before first) second
drafts_append brings make before [] second = refl
drafts_append brings make before (draft ∷ first) second =
    drafts_append brings make (with_draft brings make before draft) first second

-- each draft is one thing more
pub drafts_are_counted : {D X : Type 0} (brings : Brings D) (make : ℕ → ℕ → D → X) (before : Numbered X)
    (drafts : List D)
    → length ((with_drafts brings make before drafts).items) ≡ length before.items + length drafts
drafts_are_counted brings make before [] = omega arith
drafts_are_counted brings make before (draft ∷ drafts) =
    drafts_are_counted brings make (with_draft brings make before draft) drafts
    ∙ ap (λ n. n + length drafts)
    (length-append before.items (make (length before.kept.conditions) (length before.kept.terms) draft ∷ []))
    ∙ arith_step (length before.items) (length drafts)
  where
    arith_step : (n m : ℕ) → (n + 1) + m ≡ n + suc m
    arith_step n m = omega arith
