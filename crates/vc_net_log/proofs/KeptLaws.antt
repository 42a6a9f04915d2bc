-- What is kept of a log says what stands; the cells of places don't overlap.
use Rattle.std.proofs.Common.{◌≡◌, ℕ, zero, suc, ◌+◌, ◌-◌, ◌<◌, ◌≤◌, List, [], ◌∷◌, length, map, refl, sym, ◌∙◌, ap}
use Rattle.std.proofs.Common.{subst, arith}
use Rattle.std.specs.Prelude.{slice_index_or}
use Rattle.vc_plan_reasons.specs.Checking.{concluded}
use Rattle.vc_net_standing.specs.declared.standing.Fact.{Fact}
use Rattle.vc_net_standing.specs.Standing.{Stood, atoms_of}
use Rattle.vc_net_log.specs.Keeping.{AreCells, log_kept, step_kept}
use Rattle.vc_net_log.specs.Logs.{Logged, facts_of, room_at, stood_of}

same_facts : (stood : Stood) (begins counts cells : List ℕ) (facts : List Fact)
    → facts_of (map (step_kept stood begins counts cells) facts) ≡ facts
same_facts stood begins counts cells [] = refl
same_facts stood begins counts cells (fact ∷ facts) =
    ap (λ xs. fact ∷ xs) (same_facts stood begins counts cells facts)

pub same_atoms : (stood : Stood) (begins counts cells : List ℕ) (facts : List Fact)
    → concluded (map (step_kept stood begins counts cells) facts) ≡ atoms_of facts
same_atoms stood begins counts cells [] = refl
same_atoms stood begins counts cells (fact ∷ facts) =
    ap (λ xs. fact.atom ∷ xs) (same_atoms stood begins counts cells facts)

pub stands_by : (stood : Stood) (begins counts cells : List ℕ) (log : Logged) → log_kept stood begins counts cells ≡ log
    → stood ≡ stood_of log
stands_by stood begins counts cells log is =
    ap (λ (facts : List Fact). record { index = stood.index; facts = facts })
    (sym (same_facts stood begins counts cells stood.facts))
    ∙ ap stood_of is

pub facts_by : (stood : Stood) (begins counts cells : List ℕ) (log : Logged) → log_kept stood begins counts cells ≡ log
    → stood.facts ≡ facts_of log.steps
facts_by stood begins counts cells log is = ap (λ (s : Stood). s.facts) (stands_by stood begins counts cells log is)

pub concludes : (stood : Stood) (begins counts cells : List ℕ) (log : Logged) → log_kept stood begins counts cells ≡ log
    → atoms_of stood.facts ≡ concluded log.steps
concludes stood begins counts cells log is =
    sym (same_atoms stood begins counts cells stood.facts) ∙ ap (λ (l : Logged). concluded l.steps) is

module _ (stood : Stood) (begins counts cells : List ℕ) (kept : AreCells stood begins counts cells) where
  abbrev begin : ℕ → ℕ
  begin p = slice_index_or begins p 0

  abbrev count : ℕ → ℕ
  count p = slice_index_or counts p 0

  -- cells begin where those before them begin, or later
  rising : (k p : ℕ) → p + k ≤ length stood.index.things → begin p ≤ begin (p + k)
  rising zero p h =
      let is : p ≡ p + 0 = omega arith in
      subst (λ q. begin p ≤ begin q) is (omega arith)
  rising (suc k) p h =
      let one = kept.ordered (p + k) (omega (arith, h)) in
      let rest = rising k p (omega (arith, h)) in
      let is : (p + k) + 1 ≡ p + suc k = omega arith in
      subst (λ q. begin p ≤ begin q) is (omega (arith, one, rest))

  later : (p q : ℕ) → p ≤ q → q ≤ length stood.index.things → begin p ≤ begin q
  later p q h low =
      let is : p + (q - p) ≡ q = omega (arith, h) in
      subst (λ k. begin p ≤ begin k) is (rising (q - p) p (omega (arith, is, low)))

  -- those in use end before those of later places begin, and before all end
  pub used_before : (p q : ℕ) → p < q → q ≤ length stood.index.things → begin p + count p ≤ begin q
  used_before p q h low =
      let few : count p ≤ room_at begins p = kept.few p (omega (arith, h, low)) in
      let one = kept.ordered p (omega (arith, h, low)) in
      let rest = later (p + 1) q (omega (arith, h)) low in
      omega (arith, few, one, rest)

  pub room_before : (p q n : ℕ) → p < q → q ≤ length stood.index.things → n ≤ room_at begins p → begin p + n ≤ begin q
  room_before p q n h low few =
      let one = kept.ordered p (omega (arith, h, low)) in
      let rest = later (p + 1) q (omega (arith, h)) low in
      omega (arith, few, one, rest)

  pub inside_cells : (p : ℕ) → p < length stood.index.things → begin p + count p ≤ length cells
  inside_cells p low =
      let all = used_before p (length stood.index.things) low (omega arith) in
      let ends = kept.ends in
      omega (arith, all, ends)

  pub room_inside : (p n : ℕ) → p < length stood.index.things → n ≤ room_at begins p → begin p + n ≤ length cells
  room_inside p n low few =
      let all = room_before p (length stood.index.things) n low (omega arith) few in
      let ends = kept.ends in
      omega (arith, all, ends)
