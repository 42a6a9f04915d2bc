-- What an ending needs of steps with one more behind them.
use Rattle.std.proofs.Common.{◌≡◌, ℕ, zero, suc, ◌+◌, ◌<◌, Bool, true, false, ◌&&◌, ◌||◌, List, [], ◌∷◌, ◌++◌}
use Rattle.std.proofs.Common.{length, map, take, refl, sym, ◌∙◌, ap, arith, append_assoc}
use Rattle.std.specs.Prelude.{None, Some, ◌==◌, slice_get}
use Rattle.std.proofs.lemmas.List.{take_all}
use Rattle.vc_base.specs.Chains.{is_among}
use Rattle.vc_plan.specs.declared.atoms.Step.{Step}
use Rattle.vc_plan_reasons.specs.Trimming.{is_cited_by, needed, numbers_left, trimmed}
use Rattle.vc_net_chains.specs.Leaving.{all_left, counted, number_in, one_left}
use Rattle.vc_net_chains.specs.Telling.{asked_with, trimmed_for}
use Rattle.vc_net_chains.specs.declared.chains.Trimmed.{Trimmed}
use Rattle.vc_net_chains.proofs.LeftLaws.{ending_left, left_of_front}

or_assoc : (a b c : Bool) → ((a || b) || c) ≡ (a || (b || c))
or_assoc true b c = refl
or_assoc false b c = refl

or_false : (b : Bool) → (b || false) ≡ b
or_false true = refl
or_false false = refl

among_both : (n : ℕ) (xs ys : List ℕ) → is_among n (xs ++ ys) ≡ (is_among n xs || is_among n ys)
among_both n [] ys = refl
among_both n (x ∷ xs) ys =
    ap (λ b. (x == n) || b) (among_both n xs ys) ∙ sym (or_assoc (x == n) (is_among n xs) (is_among n ys))

-- what the last step cites is cited where it is asked for
cited_last : (n : ℕ) (steps : List Step) (last : Step) (flags : List Bool) (flag : Bool)
    → length flags ≡ length steps
    → is_cited_by n (steps ++ last ∷ []) (flags ++ flag ∷ [])
    ≡ (is_among n (asked_with flag last) || is_cited_by n steps flags)
cited_last n [] last [] true long = refl
cited_last n [] last [] false long = refl
cited_last n [] last (other ∷ flags) flag long = absurd (omega (arith, long))
cited_last n (step ∷ steps) last [] flag long = absurd (omega (arith, long))
cited_last n (step ∷ steps) last (other ∷ flags) flag long =
    ap (λ b. (other && is_among n step.premises) || b) (cited_last n steps last flags flag (omega (arith, long)))
    ∙ swapped (other && is_among n step.premises) (is_among n (asked_with flag last)) (is_cited_by n steps flags)
  where
    swapped : (a b c : Bool) → (a || (b || c)) ≡ (b || (a || c))
    swapped true true c = refl
    swapped true false c = refl
    swapped false b c = refl

length_needed : (ending : List ℕ) (n : ℕ) (steps : List Step) → length (needed ending n steps) ≡ length steps
length_needed ending n [] = refl
length_needed ending n (step ∷ steps) = ap (λ k. suc k) (length_needed ending (suc n) steps)

-- so flags are those of the steps before it with what it cites, and its own
needed_last : (ending : List ℕ) (n k : ℕ) (steps : List Step) (last : Step) (flag : Bool) → k ≡ n + length steps
    → flag ≡ is_among k ending
    → needed ending n (steps ++ last ∷ []) ≡ needed (ending ++ asked_with flag last) n steps ++ flag ∷ []
needed_last ending n k [] last flag at is =
    let same : n ≡ k = omega (arith, at) in
    ap (λ b. b ∷ []) (or_false (is_among n ending) ∙ (ap (λ j. is_among j ending) same ∙ sym is))
needed_last ending n k (step ∷ steps) last flag at is =
    let asked = ending ++ asked_with flag last in
    let flags = needed asked (suc n) steps in
    let later = needed_last ending (suc n) k steps last flag (omega (arith, at)) is in
    ap (λ fs. (is_among n ending || is_cited_by n (steps ++ last ∷ []) fs) ∷ fs) later
    ∙ ap (λ b. b ∷ (flags ++ flag ∷ []))
    (ap (λ b. is_among n ending || b) (cited_last n steps last flags flag (length_needed asked (suc n) steps))
    ∙ (sym (or_assoc (is_among n ending) (is_among n (asked_with flag last)) (is_cited_by n steps flags))
    ∙ ap (λ b. b || is_cited_by n steps flags) (sym (among_both n ending (asked_with flag last)))))

-- steps by place, with one behind them
there_before : (steps : List Step) (last : Step) (k : ℕ) → k < length steps
    → slice_get steps k ≡ slice_get (steps ++ last ∷ []) k
there_before [] last k low = absurd (omega (arith, low))
there_before (step ∷ steps) last zero low = refl
there_before (step ∷ steps) last (suc k) low = there_before steps last k (omega (arith, low))

there_last : (steps : List Step) (last : Step) → slice_get (steps ++ last ∷ []) (length steps) ≡ Some last
there_last [] last = refl
there_last (step ∷ steps) last = there_last steps last

none_there : (steps : List Step) → slice_get steps (length steps) ≡ None
none_there [] = refl
none_there (step ∷ steps) = none_there steps

-- the last step may be put behind those that are left before it
left_behind : (numbers : List ℕ) (steps : List Step) (last : Step) (n : ℕ) (flags : List Bool) (flag : Bool)
    → n + length flags ≡ length steps
    → all_left numbers steps n (flags ++ flag ∷ []) ++ one_left numbers flag (Some last)
    ≡ all_left numbers (steps ++ last ∷ []) n (flags ++ flag ∷ [])
left_behind numbers steps last n [] flag long =
    let at : n ≡ length steps = omega (arith, long) in
    ap (λ o. (one_left numbers flag o ++ []) ++ one_left numbers flag (Some last))
    (ap (slice_get steps) at ∙ none_there steps)
    ∙ (by flag
    ∙ ap (λ o. one_left numbers flag o ++ [])
    (sym (ap (slice_get (steps ++ last ∷ [])) at ∙ there_last steps last)))
  where
    by : (b : Bool) → (one_left numbers b None ++ []) ++ one_left numbers b (Some last)
        ≡ one_left numbers b (Some last) ++ []
    by true = refl
    by false = refl
left_behind numbers steps last n (other ∷ flags) flag long =
    append_assoc (one_left numbers other (slice_get steps n)) (all_left numbers steps (suc n) (flags ++ flag ∷ []))
    (one_left numbers flag (Some last))
    ∙ (ap (λ later. one_left numbers other (slice_get steps n) ++ later)
    (left_behind numbers steps last (suc n) flags flag (omega (arith, long)))
    ∙ ap (λ o. one_left numbers other o ++ all_left numbers (steps ++ last ∷ []) (suc n) (flags ++ flag ∷ []))
    (there_before steps last n (omega (arith, long))))

-- all put together
pub trimmed_with_last : (ending asked : List ℕ) (steps first : List Step) (last : Step) (cited : Bool) (count : ℕ)
    (before flags : List Bool) (left : Trimmed) → count ≡ length steps → cited ≡ is_among (count + 1) ending
    → asked ≡ ending ++ asked_with cited last → before ≡ needed asked 1 (take count steps)
    → flags ≡ before ++ cited ∷ [] → first ≡ all_left (counted 0 flags) steps 0 flags
    → left.steps ≡ first ++ one_left (counted 0 flags) cited (Some last)
    → left.ending ≡ map (number_in (counted 0 flags)) ending → left ≡ trimmed_for ending (steps ++ last ∷ [])
trimmed_with_last ending asked steps first last cited count before flags left many is all found told begun put ends =
    let whole = steps ++ last ∷ [] in
    let next : count + 1 ≡ 1 + length steps = omega (arith, many) in
    let front : take count steps ≡ steps = ap (λ k. take k steps) many ∙ take_all (length steps) steps (omega arith) in
    let early : before ≡ needed (ending ++ asked_with cited last) 1 steps
    = found ∙ (ap (λ a. needed a 1 (take count steps)) all
    ∙ ap (needed (ending ++ asked_with cited last) 1) front) in
    let flagged : flags ≡ needed ending 1 whole
    = told ∙ (ap (λ fs. fs ++ cited ∷ []) early
    ∙ sym (needed_last ending 1 (count + 1) steps last cited next is)) in
    let long : length before ≡ length steps
    = ap (λ fs. length fs) early ∙ length_needed (ending ++ asked_with cited last) 1 steps in
    let behind : first ++ one_left (counted 0 flags) cited (Some last) ≡ all_left (counted 0 flags) whole 0 flags
    = ap (λ s. s ++ one_left (counted 0 flags) cited (Some last))
    (begun ∙ ap (all_left (counted 0 flags) steps 0) told)
    ∙ (left_behind (counted 0 flags) steps last 0 before cited (omega (arith, long))
    ∙ ap (all_left (counted 0 flags) whole 0) (sym told)) in
    both left.steps left.ending (trimmed ending whole) (numbers_left ending whole)
    (put ∙ (behind ∙ left_of_front ending whole whole flags flagged (λ k low. refl)))
    (ends ∙ ending_left ending whole flags flagged)
  where
    with : List Step → List ℕ → Trimmed
    with s e = record { steps = s; ending = e }

    both : (s : List Step) (e : List ℕ) (t : List Step) (f : List ℕ) → s ≡ t → e ≡ f → with s e ≡ with t f
    both s e t f same also = ap (λ x. with x e) same ∙ ap (λ y. with t y) also
