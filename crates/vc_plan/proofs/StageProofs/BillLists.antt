-- Lists of bill lines put together from a line and what follows it, and what is taken out of them.
use Rattle.std.proofs.Common.{◌≡◌, ℕ, ◌<◌, Bool, true, false, not, cond, ◌||◌, List, [], ◌∷◌, ◌++◌, map, refl, sym, ap}
use Rattle.std.proofs.Common.{◌∙◌, arith}
use Rattle.std.proofs.lemmas.Bool.{and_parts, eqb-true, ltb-true}
use Rattle.std.proofs.lemmas.Grind.{flat_map-append}
use Rattle.std.proofs.lemmas.List.{append-nil}
use Rattle.std.proofs.lemmas.List.Elements.{filter-append}
use Rattle.std.specs.Prelude.{nat_lt, ◌==◌}
use Rattle.std.specs.List.{filter, flat_map, list_all, list_any}
use Rattle.vc_value.proofs.CutLemmas.{all_append}
use Rattle.vc_plan.specs.declared.shown.BillLine.{BillLine}
use Rattle.vc_plan.specs.Orders.{are_in_order}

-- what all parts pass, the whole passes
pub all_flat : (p : BillLine → Bool) (test : ℕ → Bool) (f : ℕ → List BillLine)
    → ((n : ℕ) → test n ≡ true → list_all p (f n) ≡ true)
    → (ns : List ℕ) → list_all test ns ≡ true → list_all p (flat_map f ns) ≡ true
all_flat p test f each [] h = refl
all_flat p test f each (n ∷ ns) h =
    let both = and_parts (test n) (list_all test ns) h in
    all_append p (f n) (flat_map f ns) (each n both.0) (all_flat p test f each ns both.1)

-- where none passes, nothing is left
pub none_passes : (p : BillLine → Bool) (rows : List BillLine) → list_all (λ row. not (p row)) rows ≡ true
    → filter p rows ≡ []
none_passes p [] h = refl
none_passes p (row ∷ rows) h =
    let both = and_parts (not (p row)) (list_all (λ r. not (p r)) rows) h in
    step (p row) both.0 (filter p rows) (none_passes p rows both.1)
  where
    step : (b : Bool) → not b ≡ true → (left : List BillLine) → left ≡ [] → cond b (row ∷ left) left ≡ []
    step true e left none = absurd (cc)
    step false e left none = none

-- where the heads pass and nothing behind them does, the heads are left
pub heads_pass : (p : BillLine → Bool) (test : ℕ → Bool) (head : ℕ → BillLine) (part : ℕ → List BillLine)
    → ((n : ℕ) → p (head n) ≡ true) → ((n : ℕ) → test n ≡ true → filter p (part n) ≡ [])
    → (ns : List ℕ) → list_all test ns ≡ true → filter p (flat_map (λ n. head n ∷ part n) ns) ≡ map head ns
heads_pass p test head part passes none [] h = refl
heads_pass p test head part passes none (n ∷ ns) h =
    let both = and_parts (test n) (list_all test ns) h in
    step (p (head n)) (passes n) (filter p (part n ++ flat_map (λ m. head m ∷ part m) ns)) (map head ns)
    (filter-append p (part n) (flat_map (λ m. head m ∷ part m) ns)
    ∙ ap (λ rows. rows ++ filter p (flat_map (λ m. head m ∷ part m) ns)) (none n both.0)
    ∙ heads_pass p test head part passes none ns both.1)
  where
    step : (b : Bool) → b ≡ true → (left more : List BillLine) → left ≡ more
        → cond b (head n ∷ left) left ≡ head n ∷ more
    step true e left more same = ap (λ rows. head n ∷ rows) same
    step false e left more same = absurd (cc)

-- what is the same of each part is the same of the whole
pub parts_same : (p : BillLine → Bool) (g : BillLine → List BillLine) (test : ℕ → Bool) (f : ℕ → List BillLine)
    → ((n : ℕ) → test n ≡ true → filter p (f n) ≡ flat_map g (f n))
    → (ns : List ℕ) → list_all test ns ≡ true → filter p (flat_map f ns) ≡ flat_map g (flat_map f ns)
parts_same p g test f same [] h = refl
parts_same p g test f same (n ∷ ns) h =
    let both = and_parts (test n) (list_all test ns) h in
    filter-append p (f n) (flat_map f ns)
    ∙ ap (λ rows. rows ++ filter p (flat_map f ns)) (same n both.0)
    ∙ ap (λ rows. flat_map g (f n) ++ rows) (parts_same p g test f same ns both.1)
    ∙ sym (flat_map-append g (f n) (flat_map f ns))

-- what gives nothing for each of a list, and what does for all that a test leaves out
pub gives_none : (g : BillLine → List BillLine) (q : BillLine → Bool) → ((row : BillLine) → q row ≡ true → g row ≡ [])
    → (rows : List BillLine) → list_all q rows ≡ true → flat_map g rows ≡ []
gives_none g q none [] h = refl
gives_none g q none (row ∷ rows) h =
    let both = and_parts (q row) (list_all q rows) h in
    ap (λ given. given ++ flat_map g rows) (none row both.0) ∙ gives_none g q none rows both.1

pub gives_left : (g : BillLine → List BillLine) (p q : BillLine → Bool)
    → ((row : BillLine) → q row ≡ true → p row ≡ false → g row ≡ [])
    → (rows : List BillLine) → list_all q rows ≡ true → flat_map g rows ≡ flat_map g (filter p rows)
gives_left g p q none [] h = refl
gives_left g p q none (row ∷ rows) h =
    let both = and_parts (q row) (list_all q rows) h in
    step (p row) refl both.0 (filter p rows) (gives_left g p q none rows both.1)
  where
    step : (b : Bool) → p row ≡ b → q row ≡ true → (left : List BillLine) → flat_map g rows ≡ flat_map g left
        → g row ++ flat_map g rows ≡ flat_map g (cond b (row ∷ left) left)
    step true is there left same = ap (λ given. g row ++ given) same
    step false is there left same = ap (λ given. given ++ flat_map g rows) (none row there is) ∙ same

pub flat_of_map : (g : BillLine → List BillLine) (head : ℕ → BillLine) (ns : List ℕ)
    → flat_map g (map head ns) ≡ flat_map (λ n. g (head n)) ns
flat_of_map g head [] = refl
flat_of_map g head (n ∷ ns) = ap (λ given. g (head n) ++ given) (flat_of_map g head ns)

-- of ascending numbers one is met once at most
none_behind : (m : ℕ) (own : List BillLine) (n : ℕ) (ns : List ℕ) → n ≡ m → list_all (nat_lt n) ns ≡ true
    → flat_map (λ k. cond (k == m) own []) ns ≡ []
none_behind m own n [] same h = refl
none_behind m own n (k ∷ ks) same h =
    let both = and_parts (nat_lt n k) (list_all (nat_lt n) ks) h in
    step (k == m) refl (ltb-true n k both.0) (none_behind m own n ks same both.1)
  where
    step : (b : Bool) → (k == m) ≡ b → n < k → flat_map (λ l. cond (l == m) own []) ks ≡ []
        → cond b own [] ++ flat_map (λ l. cond (l == m) own []) ks ≡ []
    step true is above none = let met = eqb-true k m is in absurd (omega (arith, met, above, same))
    step false is above none = none

pub met_once : (m : ℕ) (own : List BillLine) (ns : List ℕ) → are_in_order nat_lt ns ≡ true
    → flat_map (λ k. cond (k == m) own []) ns ≡ cond (list_any (λ k. k == m) ns) own []
met_once m own [] ordered = refl
met_once m own (n ∷ ns) ordered =
    let both = and_parts (list_all (nat_lt n) ns) (are_in_order nat_lt ns) ordered in
    step (n == m) refl both.0 (met_once m own ns both.1)
  where
    step : (b : Bool) → (n == m) ≡ b → list_all (nat_lt n) ns ≡ true
        → flat_map (λ k. cond (k == m) own []) ns ≡ cond (list_any (λ k. k == m) ns) own []
        → cond b own [] ++ flat_map (λ k. cond (k == m) own []) ns ≡ cond (b || list_any (λ k. k == m) ns) own []
    step true is above later =
        ap (λ given. own ++ given) (none_behind m own n ns (eqb-true n m is) above) ∙ append-nil own
    step false is above later = later
