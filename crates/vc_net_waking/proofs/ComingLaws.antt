-- No more come on an agenda than a list has of those who may.
use Rattle.std.proofs.Common.{◌≡◌, ℕ, ◌+◌, ◌≤◌, suc, ◌⊎◌, Bool, true, false, cond, not, ◌&&◌, ◌||◌, List, [], ◌∷◌, ◌++◌}
use Rattle.std.proofs.Common.{length, refl, ◌∙◌, ap, sym, inl, inr, arith, length-append}
use Rattle.std.specs.Prelude.{if◌then◌else◌}
use Rattle.std.specs.List.{filter}
use Rattle.std.proofs.lemmas.List.Elements.{filter-append}
use Rattle.vc_base.specs.Sets.{has}
use Rattle.vc_base.proofs.SetLaws.{both, has_back, has_cases, has_first, has_front, has_more, told}
use Rattle.vc_plan.specs.Gives.{Giver}
use Rattle.vc_net_laws.specs.Working.{same_giver}
use Rattle.vc_net_laws.proofs.NetLaws.Working.{giver_exact, giver_itself}
use Rattle.vc_net_agenda.specs.Agendas.{Awaited, is_of, with_next}
use Rattle.vc_net_waking.specs.Waking.{with_givers}

-- a list without one giver
abbrev pub without : Giver → List Giver → List Giver
without giver [] = []
without giver (x ∷ xs) = if same_giver giver x then xs else x ∷ without giver xs

pub without_shorter : (giver : Giver) (xs : List Giver) → has same_giver xs giver ≡ true
    → length xs ≡ suc (length (without giver xs))
without_shorter giver [] h = absurd (cc)
without_shorter giver (x ∷ xs) h = by (same_giver giver x) h (without_shorter giver xs)
  where
    by : (b : Bool) → (b || has same_giver xs giver) ≡ true
        → (has same_giver xs giver ≡ true → length xs ≡ suc (length (without giver xs)))
        → suc (length xs) ≡ suc (length (cond b xs (x ∷ without giver xs)))
    by true h later = refl
    by false h later = ap suc (later h)

pub without_has : (giver other : Giver) (xs : List Giver) → same_giver giver other ≡ false
    → has same_giver xs other ≡ true → has same_giver (without giver xs) other ≡ true
without_has giver other [] e h = absurd (cc)
without_has giver other (x ∷ xs) e h =
    by (told (same_giver giver x)) (has_cases same_giver giver_exact giver_itself x xs other h)
    (without_has giver other xs e)
  where
    by : (same_giver giver x ≡ true) ⊎ (same_giver giver x ≡ false) → (other ≡ x) ⊎ (has same_giver xs other ≡ true)
        → (has same_giver xs other ≡ true → has same_giver (without giver xs) other ≡ true)
        → has same_giver (cond (same_giver giver x) xs (x ∷ without giver xs)) other ≡ true
    by (inl same) (inl is) later = absurd (both (ap (same_giver giver) is ∙ same) e)
    by (inl same) (inr h) later = ap (λ b. has same_giver (cond b xs (x ∷ without giver xs)) other) same ∙ h
    by (inr apart) (inl is) later =
        ap (λ b. has same_giver (cond b xs (x ∷ without giver xs)) other) apart
        ∙ (ap (has same_giver (x ∷ without giver xs)) is
        ∙ has_first same_giver giver_exact giver_itself x (without giver xs))
    by (inr apart) (inr h) later =
        ap (λ b. has same_giver (cond b xs (x ∷ without giver xs)) other) apart
        ∙ has_more same_giver giver_exact giver_itself x (without giver xs) other (later h)

-- who passes a test is counted: of those who come each waits already or is one of the list
module _ (test : Giver → Bool) where
  abbrev counted : List Giver → ℕ
  counted givers = length (filter test givers)

  -- each of them that passes waits, or is one of the list
  abbrev AreAmong : List Giver → Awaited → List Giver → Type 0
  AreAmong givers agenda list = (giver : Giver) → has same_giver givers giver ≡ true → test giver ≡ true
      → (has same_giver agenda.givers giver ≡ true) ⊎ (has same_giver list giver ≡ true)

  one_more : (givers : List Giver) (giver : Giver) (b : Bool) → test giver ≡ b
      → counted (givers ++ giver ∷ []) ≡ counted givers + (if b then 1 else 0)
  one_more givers giver b e =
      let split = ap (λ xs. length xs) (filter-append test givers (giver ∷ [])) in
      let sum = length-append (filter test givers) (filter test (giver ∷ [])) in
      let last : length (filter test (giver ∷ [])) ≡ (if b then 1 else 0)
      = ap (λ c. length (cond c (giver ∷ []) [])) e ∙ one b in
      omega (arith, split, sum, last)
    where
      one : (c : Bool) → length (cond c (giver ∷ []) []) ≡ (if c then 1 else 0)
      one true = refl
      one false = refl

  pub few_come : (agenda : Awaited) (givers list : List Giver) → AreAmong givers agenda list
      → counted (with_givers agenda givers).givers ≤ counted agenda.givers + length list
  few_come agenda [] list among = omega arith
  few_come agenda (giver ∷ givers) list among =
      by (λ a l w. few_come a givers l w) (is_of agenda giver) (told (has same_giver agenda.givers giver))
      (told (test giver))
    where
      rest : AreAmong givers agenda list
      rest other h = among other (has_more same_giver giver_exact giver_itself giver givers other h)

      next : Awaited
      next = with_next agenda giver

      stays : AreAmong givers next list
      stays other h t =
          elim (rest other h t) [
            | inl old ↦ inl (has_front same_giver giver_exact giver_itself agenda.givers (giver ∷ []) other old)
            | inr new ↦ inr new
          ]

      goes : AreAmong givers next (without giver list)
      goes other h t =
          elim (told (same_giver giver other)) [
            | inl same ↦ inl (
                ap (has same_giver next.givers) (sym (giver_exact giver other same))
                ∙ has_back same_giver giver_exact giver_itself agenda.givers (giver ∷ []) giver
                (has_first same_giver giver_exact giver_itself giver [])
                )
            | inr apart ↦ elim (rest other h t) [
              | inl old ↦ inl (has_front same_giver giver_exact giver_itself agenda.givers (giver ∷ []) other old)
              | inr new ↦ inr (without_has giver other list apart new)
            ]
          ]

      of_list : has same_giver agenda.givers giver ≡ false → test giver ≡ true → has same_giver list giver ≡ true
      of_list off t =
          elim (among giver (has_first same_giver giver_exact giver_itself giver givers) t) [
            | inl on ↦ absurd (both on off)
            | inr h ↦ h
          ]

      by : ((a : Awaited) (l : List Giver) → AreAmong givers a l
          → counted (with_givers a givers).givers ≤ counted a.givers + length l)
          → (b : Bool) → (has same_giver agenda.givers giver ≡ true) ⊎ (has same_giver agenda.givers giver ≡ false)
          → (test giver ≡ true) ⊎ (test giver ≡ false)
          → counted
          (with_givers (if b && not (has same_giver agenda.givers giver) then next else agenda) givers).givers
          ≤ counted agenda.givers + length list
      by again false waits passes = again agenda list rest
      by again true (inl on) passes =
          let few = again agenda list rest in
          let same = ap (λ c. counted (with_givers (cond (not c) next agenda) givers).givers) on in
          omega (arith, few, same)
      by again true (inr off) (inl t) =
          let few = again next (without giver list) goes in
          let same = ap (λ c. counted (with_givers (cond (not c) next agenda) givers).givers) off in
          let more = one_more agenda.givers giver true t in
          let less = without_shorter giver list (of_list off t) in
          omega (arith, few, same, more, less)
      by again true (inr off) (inr f) =
          let few = again next list stays in
          let same = ap (λ c. counted (with_givers (cond (not c) next agenda) givers).givers) off in
          let more = one_more agenda.givers giver false f in
          omega (arith, few, same, more)
