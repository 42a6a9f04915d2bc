-- What is left of an accepted list without the steps in vain is accepted, and none of it is in vain.
use Rattle.std.proofs.Common.{◌≡◌, ℕ, zero, suc, ◌+◌, ◌≤◌, ◌<◌, Bool, true, false, cond, not, ◌&&◌, ◌||◌, ◌⊎◌, List, []}
use Rattle.std.proofs.Common.{◌∷◌, ◌++◌, length, map, refl, sym, ap, ◌∙◌, subst, inl, inr, arith, length-append}
use Rattle.std.proofs.Common.{append_assoc}
use Rattle.std.specs.Prelude.{Some, slice_get, slice_index_or, nat_lt, ◌==◌}
use Rattle.std.specs.List.{list_all, list_any}
use Rattle.std.proofs.lemmas.Bool.{and_from, or_left, or_right, and_parts, cases_lt, eqb-true, eq-eqb, ltb-true}
use Rattle.std.proofs.lemmas.Bool.{or_cases}
use Rattle.vc_base.specs.Chains.{accepted, all_pass, are_cited, before_all, cited, is_among}
use Rattle.vc_base.specs.Kept.{number_left, without}
use Rattle.vc_base.proofs.ChainLaws.{accepted_parts, all_there, cited_earlier, get_mapped}
use Rattle.vc_base.proofs.KeptLaws.{get_cases, get_end, get_front}
use Rattle.vc_plan.specs.declared.atoms.Atom.{Atom}
use Rattle.vc_plan.specs.declared.atoms.Step.{Step}
use Rattle.vc_plan.specs.declared.plans.Plan.{Plan}
use Rattle.vc_plan.specs.Sources.{Sources}
use Rattle.vc_plan_reasons.specs.Checking.{concluded, ends_with, follows, is_accepted, is_trimmed_chain, step_form}
use Rattle.vc_plan_reasons.specs.Trimming.{TrimmedClashesRefute, TrimmedIsAChain, TrimmingKeepsAcceptance, is_cited_by}
use Rattle.vc_plan_reasons.specs.Trimming.{is_vain, needed, numbers_left, trimmed, trimmed_chain, trimmed_clash}
use Rattle.vc_plan_reasons.specs.Refuting.{contradicts, is_blamable, is_clash_at, is_collision}
use Rattle.vc_plan_reasons.proofs.ReasonLaws.Refuting.{Refuted, refuted}

not_flag : (b : Bool) → not b ≡ false → b ≡ true
not_flag true e = refl
not_flag false e = absurd (cc e)

append_nil : {X : Type 0} (xs : List X) → xs ++ [] ≡ xs
append_nil [] = refl
append_nil (x ∷ xs) = ap (λ ys. x ∷ ys) (append_nil xs)

-- a step with other numbers
abbrev renumbered : (ℕ → Bool) → Step → Step
renumbered dropped step = step_form.with_premises step (map (number_left dropped) step.premises)

-- which steps are dropped, from a number on, as flags say it
abbrev pub Matches : (ℕ → Bool) → ℕ → List Bool → Type 0
Matches dropped n [] = Unit {0}
Matches dropped n (flag ∷ flags) = (dropped n ≡ not flag) × Matches dropped (suc n) flags

pub flag_at : (before flags : List Bool) (flag : Bool)
    → slice_index_or (before ++ flag ∷ flags) (length before) true ≡ flag
flag_at [] flags flag = refl
flag_at (first ∷ before) flags flag = flag_at before flags flag

pub matching : (all before flags : List Bool) → before ++ flags ≡ all
    → Matches (is_vain all) (suc (length before)) flags
matching all before [] is = tt
matching all before (flag ∷ flags) is =
    let longer : length (before ++ flag ∷ []) ≡ suc (length before)
    = omega (arith, length-append before (flag ∷ [])) in (
      ap (λ xs. not (slice_index_or xs (length before) true)) (sym is) ∙ ap not (flag_at before flags flag),
      subst (λ n. Matches (is_vain all) (suc n) flags) longer
          (matching all (before ++ flag ∷ []) flags (append_assoc before (flag ∷ []) flags ∙ is)),
    )

-- numbers: that of a step that isn't dropped is one more than that before it, and else the same
left_next : (dropped : ℕ → Bool) (n : ℕ) → dropped (suc n) ≡ false
    → number_left dropped (suc n) ≡ suc (number_left dropped n)
left_next dropped n e = ap (λ b. cond b (number_left dropped n) (suc (number_left dropped n))) e

left_same : (dropped : ℕ → Bool) (n : ℕ) → dropped (suc n) ≡ true → number_left dropped (suc n) ≡ number_left dropped n
left_same dropped n e = ap (λ b. cond b (number_left dropped n) (suc (number_left dropped n))) e

-- what is among numbers is among their new ones
among_left : (dropped : ℕ → Bool) (m : ℕ) (numbers : List ℕ) → is_among m numbers ≡ true
    → is_among (number_left dropped m) (map (number_left dropped) numbers) ≡ true
among_left dropped m [] e = absurd (cc e)
among_left dropped m (k ∷ numbers) e =
    let new = number_left dropped in
    elim (or_cases (k == m) (is_among m numbers) e) [
      | inl same ↦ or_left (new k == new m) (is_among (new m) (map new numbers))
          (eq-eqb (new k) (new m) (ap new (eqb-true k m same)))
      | inr later ↦ or_right (new k == new m) (is_among (new m) (map new numbers)) (among_left dropped m numbers later)
    ]

-- what a needed step cites, a step that is left cites
cited_left_by : (dropped : ℕ → Bool) (m n : ℕ) (steps : List Step) (flags : List Bool) → Matches dropped n flags
    → is_cited_by m steps flags ≡ true
    → list_any (λ s. is_among (number_left dropped m) s.premises) (without step_form dropped n steps) ≡ true
cited_left_by dropped m n [] flags match e = absurd (cc e)
cited_left_by dropped m n (step ∷ steps) [] match e = absurd (cc e)
cited_left_by dropped m n (step ∷ steps) (flag ∷ flags) match e =
    choice (dropped n) refl (or_cases (flag && is_among m step.premises) (is_cited_by m steps flags) e)
    (cited_left_by dropped m (suc n) steps flags match.1)
  where
    cites : Step → Bool
    cites s = is_among (number_left dropped m) s.premises

    not_needed : (b : Bool) → dropped n ≡ true → b ≡ true → dropped n ≡ not b → ⊥
    not_needed true d e m = absurd (cc (sym d ∙ m))
    not_needed false d e m = absurd (cc e)

    choice : (b : Bool) → dropped n ≡ b
        → ((flag && is_among m step.premises) ≡ true) ⊎ (is_cited_by m steps flags ≡ true)
        → (is_cited_by m steps flags ≡ true → list_any cites (without step_form dropped (suc n) steps) ≡ true)
        → list_any cites
        (cond b (without step_form dropped (suc n) steps)
        (renumbered dropped step ∷ without step_form dropped (suc n) steps)) ≡ true
    choice true d (inl here) later =
        absurd (not_needed flag d (and_parts flag (is_among m step.premises) here).0 match.0)
    choice true d (inr there) later = later there
    choice false d (inl here) later =
        or_left (cites (renumbered dropped step)) (list_any cites (without step_form dropped (suc n) steps))
        (among_left dropped m step.premises (and_parts flag (is_among m step.premises) here).1)
    choice false d (inr there) later =
        or_right (cites (renumbered dropped step)) (list_any cites (without step_form dropped (suc n) steps))
        (later there)

-- so each step that is left is a premise of a later one, or of the ending
left_cited : (dropped : ℕ → Bool) (ending : List ℕ) (k : ℕ) (steps : List Step)
    → Matches dropped (suc k) (needed ending (suc k) steps)
    → are_cited step_form (map (number_left dropped) ending) (suc (number_left dropped k))
    (without step_form dropped (suc k) steps) ≡ true
left_cited dropped ending k [] match = refl
left_cited dropped ending k (step ∷ later) match =
    choice (dropped (suc k)) refl (left_cited dropped ending (suc k) later match.1)
  where
    flags : List Bool
    flags = needed ending (suc (suc k)) later

    rest : List Step
    rest = without step_form dropped (suc (suc k)) later

    new_ending : List ℕ
    new_ending = map (number_left dropped) ending

    is_needed : dropped (suc k) ≡ false
        → (is_among (suc k) ending || is_cited_by (suc k) later (needed ending (suc (suc k)) later)) ≡ true
    is_needed d =
        not_flag (is_among (suc k) ending || is_cited_by (suc k) later (needed ending (suc (suc k)) later))
        (sym match.0 ∙ d)

    used : dropped (suc k) ≡ false
        → (is_among (number_left dropped (suc k)) (map (number_left dropped) ending)
        || list_any (λ s. is_among (number_left dropped (suc k)) s.premises)
        (without step_form dropped (suc (suc k)) later)) ≡ true
    used d =
        let here = is_among (number_left dropped (suc k)) (map (number_left dropped) ending) in
        let there
        = list_any (λ s. is_among (number_left dropped (suc k)) s.premises)
        (without step_form dropped (suc (suc k)) later) in
        elim (or_cases (is_among (suc k) ending) (is_cited_by (suc k) later (needed ending (suc (suc k)) later))
        (is_needed d)) [
          | inl e ↦ or_left here there (among_left dropped (suc k) ending e)
          | inr e ↦ or_right here there
              (cited_left_by dropped (suc k) (suc (suc k)) later (needed ending (suc (suc k)) later) match.1 e)
        ]

    choice : (b : Bool) → dropped (suc k) ≡ b
        → are_cited step_form (map (number_left dropped) ending) (suc (number_left dropped (suc k)))
        (without step_form dropped (suc (suc k)) later) ≡ true
        → are_cited step_form (map (number_left dropped) ending) (suc (number_left dropped k))
        (cond b (without step_form dropped (suc (suc k)) later)
        (renumbered dropped step ∷ without step_form dropped (suc (suc k)) later)) ≡ true
    choice true d all =
        subst (λ n. are_cited step_form (map (number_left dropped) ending) (suc n)
        (without step_form dropped (suc (suc k)) later) ≡ true)
        (left_same dropped k d) all
    choice false d all =
        let next : number_left dropped (suc k) ≡ suc (number_left dropped k) = left_next dropped k d in
        and_from
        (is_among (suc (number_left dropped k)) (map (number_left dropped) ending)
        || list_any (λ s. is_among (suc (number_left dropped k)) s.premises)
        (without step_form dropped (suc (suc k)) later))
        (are_cited step_form (map (number_left dropped) ending) (suc (suc (number_left dropped k)))
        (without step_form dropped (suc (suc k)) later))
        (subst (λ n. (is_among n (map (number_left dropped) ending)
        || list_any (λ s. is_among n s.premises) (without step_form dropped (suc (suc k)) later)) ≡ true) next (used d))
        (subst (λ n. are_cited step_form (map (number_left dropped) ending) (suc n)
        (without step_form dropped (suc (suc k)) later) ≡ true)
        next all)

-- where what isn't dropped of some conclusions, or of what else steps have, stands among those that are left
record Placed {X : Type 0} (dropped : ℕ → Bool) (earlier left : List X) : Type 0 where
  count : length left ≡ number_left dropped (length earlier)
  place : (i : ℕ) (a : X) → slice_get earlier i ≡ Some a → dropped (suc i) ≡ false
      → slice_get left (number_left dropped i) ≡ Some a

placed_dropped : {X : Type 0} (dropped : ℕ → Bool) (earlier left : List X) (c : X) → Placed dropped earlier left
    → dropped (suc (length earlier)) ≡ true → Placed dropped (earlier ++ c ∷ []) left
placed_dropped dropped earlier left c p d =
    let longer : length (earlier ++ c ∷ []) ≡ suc (length earlier) = omega (arith, length-append earlier (c ∷ [])) in
    record {
      count = p.count ∙ sym (left_same dropped (length earlier) d) ∙ ap (number_left dropped) (sym longer);
      place = λ i a at kept. elim (get_cases earlier c i a at) [
        | inl before ↦ p.place i a before kept
        | inr last ↦ absurd (cc (sym d ∙ ap (λ n. dropped (suc n)) (sym last.0) ∙ kept))
      ];
    }

placed_kept : {X : Type 0} (dropped : ℕ → Bool) (earlier left : List X) (c : X) → Placed dropped earlier left
    → dropped (suc (length earlier)) ≡ false → Placed dropped (earlier ++ c ∷ []) (left ++ c ∷ [])
placed_kept dropped earlier left c p d =
    let longer : length (earlier ++ c ∷ []) ≡ suc (length earlier) = omega (arith, length-append earlier (c ∷ [])) in
    let more : length (left ++ c ∷ []) ≡ suc (length left) = omega (arith, length-append left (c ∷ [])) in
    record {
      count = more ∙ ap suc p.count ∙ sym (left_next dropped (length earlier) d)
          ∙ ap (number_left dropped) (sym longer);
      place = λ i a at kept. elim (get_cases earlier c i a at) [
        | inl before ↦ get_front left c (number_left dropped i) a (p.place i a before kept)
        | inr last ↦
            ap (λ n. slice_get (left ++ c ∷ []) (number_left dropped n)) last.0
            ∙ ap (slice_get (left ++ c ∷ [])) (sym p.count) ∙ get_end left c ∙ ap Some (sym last.1)
      ];
    }

-- what numbers cite that aren't dropped, their new ones cite
cited_again : {X : Type 0} (dropped : ℕ → Bool) (earlier left : List X) → Placed dropped earlier left
    → (numbers : List ℕ) (atoms : List X)
    → cited earlier numbers ≡ Some atoms → ((m : ℕ) → is_among m numbers ≡ true → dropped m ≡ false)
    → cited left (map (number_left dropped) numbers) ≡ Some atoms
cited_again dropped earlier left p [] atoms e kept = e
cited_again dropped earlier left p (zero ∷ numbers) atoms e kept =
    cited_again dropped earlier left p numbers atoms e (λ m h. kept m (or_right (zero == m) (is_among m numbers) h))
cited_again dropped earlier left p (suc n ∷ numbers) atoms e kept =
    let r = all_there (slice_get earlier n) (cited earlier numbers) atoms e in
    let own : dropped (suc n) ≡ false
    = kept (suc n) (or_left (suc n == suc n) (is_among (suc n) numbers) (eq-eqb (suc n) (suc n) refl)) in
    let later
    = cited_again dropped earlier left p numbers r.1 r.3
    (λ m h. kept m (or_right (suc n == m) (is_among m numbers) h)) in
    ap (λ k. cited left (k ∷ map (number_left dropped) numbers)) (left_next dropped n own)
    ∙ ap (λ o. before_all o (cited left (map (number_left dropped) numbers))) (p.place n r.0 r.2 own)
    ∙ ap (before_all (Some r.0)) later ∙ ap Some (sym r.4)

-- so what is left is accepted; what the rest cites isn't dropped before it
left_accepted : (plan : Plan) (sources : Sources) (dropped : ℕ → Bool) (ending : List ℕ) (earlier left : List Atom)
    (steps : List Step)
    → Placed dropped earlier left → Matches dropped (suc (length earlier)) (needed ending (suc (length earlier)) steps)
    → ((m : ℕ) → m ≤ length earlier → is_cited_by m steps (needed ending (suc (length earlier)) steps) ≡ true
    → dropped m ≡ false)
    → accepted step_form (follows plan sources) earlier steps ≡ true
    → accepted step_form (follows plan sources) left (without step_form dropped (suc (length earlier)) steps) ≡ true
left_accepted plan sources dropped ending earlier left [] p match kept e = refl
left_accepted plan sources dropped ending earlier left (step ∷ later) p match kept e =
    let q = accepted_parts step_form (follows plan sources) earlier step later e in
    let longer : length (earlier ++ step.conclusion ∷ []) ≡ suc (length earlier)
    = omega (arith, length-append earlier (step.conclusion ∷ [])) in
    let onwards : (rest : List Atom) → Placed dropped (earlier ++ step.conclusion ∷ []) rest
    → accepted step_form (follows plan sources) rest (without step_form dropped (suc (suc (length earlier))) later)
    ≡ true
    = λ rest placed.
    subst (λ n. accepted step_form (follows plan sources) rest (without step_form dropped (suc n) later) ≡ true) longer
    (left_accepted plan sources dropped ending (earlier ++ step.conclusion ∷ []) rest later placed
    (subst (λ n. Matches dropped (suc n) (needed ending (suc n) later)) (sym longer) match.1)
    (λ m small cites. still m (omega (arith, small, longer))
    (subst (λ n. is_cited_by m later (needed ending (suc n) later) ≡ true) longer cites)) q.later) in
    choice q.atoms q.cites q.from (dropped (suc (length earlier))) refl onwards
  where
    flag : Bool
    flag = is_among (suc (length earlier)) ending
        || is_cited_by (suc (length earlier)) later (needed ending (suc (suc (length earlier))) later)

    still : (m : ℕ) → m ≤ suc (length earlier)
        → is_cited_by m later (needed ending (suc (suc (length earlier))) later) ≡ true → dropped m ≡ false
    still m small cites =
        let flags = needed ending (suc (suc (length earlier))) later in
        let own = is_among (suc (length earlier)) ending || is_cited_by (suc (length earlier)) later flags in
        elim (cases_lt m (suc (length earlier))) [
          | inl before ↦ kept m (omega (arith, before))
              (or_right (own && is_among m step.premises) (is_cited_by m later flags) cites)
          | inr past ↦
              let same : m ≡ suc (length earlier) = omega (arith, small, past) in
              ap dropped same ∙ match.0
              ∙ ap not (or_right (is_among (suc (length earlier)) ending)
              (is_cited_by (suc (length earlier)) later flags)
              (ap (λ n. is_cited_by n later flags) (sym same) ∙ cites))
        ]

    premises_kept : (atoms : List Atom) → cited earlier step.premises ≡ Some atoms
        → dropped (suc (length earlier)) ≡ false → (m : ℕ)
        → is_among m step.premises ≡ true → dropped m ≡ false
    premises_kept atoms cites d m h =
        let flags = needed ending (suc (suc (length earlier))) later in
        let own = is_among (suc (length earlier)) ending || is_cited_by (suc (length earlier)) later flags in
        let below : m ≤ length earlier
        = among_below m step.premises (cited_earlier earlier step.premises atoms cites) h in
        kept m below
        (or_left (own && is_among m step.premises) (is_cited_by m later flags)
        (and_from own (is_among m step.premises) (not_flag own (sym match.0 ∙ d)) h))
      where
        among_below : (k : ℕ) (numbers : List ℕ) → list_all (λ n. nat_lt n (suc (length earlier))) numbers ≡ true
            → is_among k numbers ≡ true → k ≤ length earlier
        among_below k [] all i = absurd (cc i)
        among_below k (n ∷ numbers) all i =
            let r
            = and_parts (nat_lt n (suc (length earlier))) (list_all (λ x. nat_lt x (suc (length earlier))) numbers)
            all in
            elim (or_cases (n == k) (is_among k numbers) i) [
              | inl same ↦
                  let is : n ≡ k = eqb-true n k same in
                  let low : n < suc (length earlier) = ltb-true n (suc (length earlier)) r.0 in
                  omega (arith, is, low)
              | inr more ↦ among_below k numbers r.1 more
            ]

    choice : (atoms : List Atom) → cited earlier step.premises ≡ Some atoms → follows plan sources step atoms ≡ true
        → (b : Bool)
        → dropped (suc (length earlier)) ≡ b
        → ((rest : List Atom) → Placed dropped (earlier ++ step.conclusion ∷ []) rest
        → accepted step_form (follows plan sources) rest (without step_form dropped (suc (suc (length earlier))) later)
        ≡ true)
        → accepted step_form (follows plan sources) left
        (cond b (without step_form dropped (suc (suc (length earlier))) later)
        (renumbered dropped step ∷ without step_form dropped (suc (suc (length earlier))) later)) ≡ true
    choice atoms cites from true d onwards = onwards left (placed_dropped dropped earlier left step.conclusion p d)
    choice atoms cites from false d onwards =
        let again = cited_again dropped earlier left p step.premises atoms cites (premises_kept atoms cites d) in
        and_from (all_pass (follows plan sources step) (cited left (map (number_left dropped) step.premises)))
        (accepted step_form (follows plan sources) (left ++ step.conclusion ∷ [])
        (without step_form dropped (suc (suc (length earlier))) later))
        (ap (all_pass (follows plan sources step)) again ∙ from)
        (onwards (left ++ step.conclusion ∷ []) (placed_kept dropped earlier left step.conclusion p d))

none_placed : {X : Type 0} (dropped : ℕ → Bool) → Placed {X = X} dropped [] []
none_placed dropped = record { count = refl; place = λ i a e. absurd (cc e) }

pub trimming_keeps_acceptance : TrimmingKeepsAcceptance
trimming_keeps_acceptance plan sources ending steps e =
    let flags = needed ending 1 steps in
    left_accepted plan sources (is_vain flags) ending [] [] steps (none_placed (is_vain flags))
    (matching flags [] flags refl)
    (λ m small cites. first m small) e
  where
    first : (m : ℕ) → m ≤ 0 → is_vain (needed ending 1 steps) m ≡ false
    first zero small = refl
    first (suc m) small = absurd (omega (arith, small))

-- a chain's last step is needed, and stays the last
length_left : (dropped : ℕ → Bool) (k : ℕ) (steps : List Step)
    → number_left dropped k + length (without step_form dropped (suc k) steps) ≡ number_left dropped (k + length steps)
length_left dropped k [] = let same : k + 0 ≡ k = omega arith in omega (arith, ap (number_left dropped) same)
length_left dropped k (step ∷ later) =
    let rest = length_left dropped (suc k) later in
    let same : suc k + length later ≡ k + length (step ∷ later) = omega arith in
    choice (dropped (suc k)) refl (rest ∙ ap (number_left dropped) same)
  where
    choice : (b : Bool) → dropped (suc k) ≡ b
        → number_left dropped (suc k) + length (without step_form dropped (suc (suc k)) later)
        ≡ number_left dropped (k + length (step ∷ later))
        → number_left dropped k
        + length (cond b (without step_form dropped (suc (suc k)) later)
        (renumbered dropped step ∷ without step_form dropped (suc (suc k)) later))
        ≡ number_left dropped (k + length (step ∷ later))
    choice true d e = omega (arith, left_same dropped k d, e)
    choice false d e = omega (arith, left_next dropped k d, e)

last_needed : (ending : List ℕ) (k : ℕ) (steps : List Step) (i : ℕ) → is_among (suc (k + i)) ending ≡ true
    → slice_index_or (needed ending (suc k) steps) i true ≡ true
last_needed ending k [] i e = refl
last_needed ending k (step ∷ later) zero e =
    let same : suc (k + 0) ≡ suc k = omega arith in
    or_left (is_among (suc k) ending) (is_cited_by (suc k) later (needed ending (suc (suc k)) later))
    (ap (λ n. is_among n ending) (sym same) ∙ e)
last_needed ending k (step ∷ later) (suc i) e =
    let same : suc (k + suc i) ≡ suc (suc k + i) = omega arith in
    last_needed ending (suc k) later i (ap (λ n. is_among n ending) (sym same) ∙ e)

ends_left : (dropped : ℕ → Bool) (atom : Atom) (k : ℕ) (steps : List Step) → dropped (k + length steps) ≡ false
    → ends_with atom steps ≡ true → ends_with atom (without step_form dropped (suc k) steps) ≡ true
ends_left dropped atom k [] d e = e
ends_left dropped atom k (step ∷ []) d e =
    let same : k + length (step ∷ []) ≡ suc k = omega arith in
    choice (dropped (suc k)) (ap dropped (sym same) ∙ d)
  where
    choice : (b : Bool) → b ≡ false → ends_with atom (cond b [] (renumbered dropped step ∷ [])) ≡ true
    choice true q = absurd (cc q)
    choice false q = e
ends_left dropped atom k (step ∷ (next ∷ more)) d e =
    let same : k + length (step ∷ (next ∷ more)) ≡ suc k + length (next ∷ more) = omega arith in
    choice (dropped (suc k)) (without step_form dropped (suc (suc k)) (next ∷ more))
    (ends_left dropped atom (suc k) (next ∷ more) (ap dropped (sym same) ∙ d) e)
  where
    choice : (b : Bool) (rest : List Step) → ends_with atom rest ≡ true
        → ends_with atom (cond b rest (renumbered dropped step ∷ rest)) ≡ true
    choice true rest q = q
    choice false [] q = absurd (cc q)
    choice false (first ∷ rest) q = q

pub trimmed_is_a_chain : TrimmedIsAChain
trimmed_is_a_chain plan sources atom steps e ends =
    let count = length steps in
    let flags = needed (count ∷ []) 1 steps in
    let dropped = is_vain flags in
    let left = trimmed_chain steps in
    let accepts : is_accepted plan sources left ≡ true = trimming_keeps_acceptance plan sources (count ∷ []) steps e in
    let all_cited : are_cited step_form (number_left dropped count ∷ []) 1 left ≡ true
    = left_cited dropped (count ∷ []) 0 steps (matching flags [] flags refl) in
    let long : length left ≡ number_left dropped count
    = let l = length_left dropped 0 steps in let same : 0 + count
    ≡ count = omega arith in omega (arith, l, ap (number_left dropped) same) in
    let trims : is_trimmed_chain left ≡ true = ap (λ n. are_cited step_form (n ∷ []) 1 left) long ∙ all_cited in
    let same : 0 + count ≡ count = omega arith in
    let last : ends_with atom left ≡ true = ends_left dropped atom 0 steps (ap dropped same ∙ stays steps) ends in
    and_from (is_accepted plan sources left && is_trimmed_chain left) (ends_with atom left)
    (and_from (is_accepted plan sources left) (is_trimmed_chain left) accepts trims) last
  where
    stays : (all : List Step) → is_vain (needed (length all ∷ []) 1 all) (length all) ≡ false
    stays [] = refl
    stays (step ∷ later) =
        let n = length later in
        let same : suc (0 + n) ≡ suc n = omega arith in
        ap not (last_needed (suc n ∷ []) 0 (step ∷ later) n
        (ap (λ k. is_among k (suc n ∷ [])) same ∙ or_left (suc n == suc n) false (eq-eqb (suc n) (suc n) refl)))

-- a number of the ending is that of a needed step
ending_stays : (ending : List ℕ) (steps : List Step) (m : ℕ) → is_among m ending ≡ true
    → is_vain (needed ending 1 steps) m ≡ false
ending_stays ending steps zero e = refl
ending_stays ending steps (suc i) e =
    let same : suc (0 + i) ≡ suc i
    = omega arith in ap not (last_needed ending 0 steps i (ap (λ n. is_among n ending) same ∙ e))

-- all that steps have of a kind, which their numbers don't change
placed_all : {X : Type 0} (f : Step → X)
    → ((step : Step) (numbers : List ℕ) → f (step_form.with_premises step numbers) ≡ f step)
    → (dropped : ℕ → Bool) (earlier left : List X) (steps : List Step) → Placed dropped earlier left
    → Placed dropped (earlier ++ map f steps) (left ++ map f (without step_form dropped (suc (length earlier)) steps))
placed_all {X = X} f same dropped earlier left [] p =
    subst (λ xs. Placed dropped (earlier ++ []) xs) (sym (append_nil left))
    (subst (λ xs. Placed dropped xs left) (sym (append_nil earlier)) p)
placed_all {X = X} f same dropped earlier left (step ∷ later) p =
    let longer : length (earlier ++ f step ∷ []) ≡ suc (length earlier)
    = omega (arith, length-append earlier (f step ∷ [])) in
    choice (dropped (suc (length earlier))) refl
    (λ rest placed.
    subst (λ n. Placed dropped ((earlier ++ f step ∷ []) ++ map f later)
    (rest ++ map f (without step_form dropped (suc n) later))) longer
    (placed_all f same dropped (earlier ++ f step ∷ []) rest later placed))
  where
    choice : (b : Bool) → dropped (suc (length earlier)) ≡ b
        → ((rest : List X) → Placed dropped (earlier ++ f step ∷ []) rest
        → Placed dropped ((earlier ++ f step ∷ []) ++ map f later)
        (rest ++ map f (without step_form dropped (suc (suc (length earlier))) later)))
        → Placed dropped (earlier ++ f step ∷ map f later)
        (left ++ map f (cond b (without step_form dropped (suc (suc (length earlier))) later)
        (renumbered dropped step ∷ without step_form dropped (suc (suc (length earlier))) later)))
    choice true d onwards =
        subst (λ xs. Placed dropped xs (left ++ map f (without step_form dropped (suc (suc (length earlier))) later)))
        (append_assoc earlier (f step ∷ []) (map f later))
        (onwards left (placed_dropped dropped earlier left (f step) p d))
    choice false d onwards =
        let rest = map f (without step_form dropped (suc (suc (length earlier))) later) in
        subst (λ x. Placed dropped (earlier ++ f step ∷ map f later) (left ++ x ∷ rest))
        (sym (same step (map (number_left dropped) step.premises)))
        (subst (λ xs. Placed dropped (earlier ++ f step ∷ map f later) xs) (append_assoc left (f step ∷ []) rest)
        (subst (λ xs. Placed dropped xs ((left ++ f step ∷ []) ++ rest))
        (append_assoc earlier (f step ∷ []) (map f later))
        (onwards (left ++ f step ∷ []) (placed_kept dropped earlier left (f step) p d))))

ending_cites : {X : Type 0} (f : Step → X)
    → ((step : Step) (numbers : List ℕ) → f (step_form.with_premises step numbers) ≡ f step)
    → (ending : List ℕ) (steps : List Step) (xs : List X) → cited (map f steps) ending ≡ Some xs
    → cited (map f (trimmed ending steps)) (numbers_left ending steps) ≡ Some xs
ending_cites f same ending steps xs e =
    let dropped = is_vain (needed ending 1 steps) in
    cited_again dropped (map f steps) (map f (trimmed ending steps))
    (placed_all f same dropped [] [] steps (none_placed dropped)) ending xs e (ending_stays ending steps)

-- what numbers cite of one thing that steps have they cite of another
get_of : {X : Type 0} (f : Step → X) (steps : List Step) (n : ℕ) (step : Step) → slice_get steps n ≡ Some step
    → slice_get (map f steps) n ≡ Some (f step)
get_of f [] n step e = absurd (cc e)
get_of f (first ∷ steps) zero step e = let same : first ≡ step = cc e in ap (λ s. Some (f s)) same
get_of f (first ∷ steps) (suc n) step e = get_of f steps n step e

cited_too : {X Y : Type 0} (f : Step → X) (g : Step → Y) (steps : List Step) (numbers : List ℕ) (xs : List X)
    → cited (map f steps) numbers ≡ Some xs → (ys : List Y) × (cited (map g steps) numbers ≡ Some ys)
cited_too f g steps [] xs e = ([], refl)
cited_too f g steps (zero ∷ numbers) xs e = cited_too f g steps numbers xs e
cited_too f g steps (suc n ∷ numbers) xs e =
    let r = all_there (slice_get (map f steps) n) (cited (map f steps) numbers) xs e in
    let step = get_mapped f steps n r.0 r.2 in
    let later = cited_too f g steps numbers r.1 r.3 in (
      g step.0 ∷ later.0,
      ap (λ o. before_all o (cited (map g steps) numbers)) (get_of g steps n step.0 step.1)
          ∙ ap (before_all (Some (g step.0))) later.1,
    )

pub trimmed_clashes_refute : TrimmedClashesRefute
trimmed_clashes_refute plan sources clash e =
    let r : Refuted plan sources clash = refuted plan sources clash e in
    let left = trimmed_clash clash in
    let flags = needed clash.premises 1 clash.steps in
    let atoms : cited (concluded left.steps) left.premises ≡ Some r.premises
    = ending_cites step_form.conclusion (λ step numbers. refl) clash.premises clash.steps r.premises r.cites in
    let by = cited_too step_form.conclusion (λ step. step.origin) clash.steps clash.premises r.premises r.cites in
    let same : cited (map (λ step. step.origin) left.steps) left.premises
    ≡ cited (map (λ step. step.origin) clash.steps) clash.premises
    = ending_cites (λ step. step.origin) (λ step numbers. refl) clash.premises clash.steps by.0 by.1 ∙ sym by.1 in
    let holds : contradicts plan sources left r.premises ≡ true
    = ap (λ o. is_clash_at plan sources clash.culprit r.premises || is_collision plan clash.culprit r.premises o) same
    ∙ r.holds in (
      and_from (is_accepted plan sources left.steps && is_blamable plan clash.culprit)
          (all_pass (contradicts plan sources left) (cited (concluded left.steps) left.premises))
          (and_from (is_accepted plan sources left.steps) (is_blamable plan clash.culprit)
          (trimming_keeps_acceptance plan sources clash.premises clash.steps r.accepted) r.blamable)
          (ap (all_pass (contradicts plan sources left)) atoms ∙ holds),
      left_cited (is_vain flags) clash.premises 0 clash.steps (matching flags [] flags refl),
    )
