-- What procedures write one after another: what was written so far and what is to come are all of it.
use Rattle.std.proofs.Common.{◌≡◌, ℕ, zero, suc, ◌+◌, ◌-◌, ◌<◌, ◌≤◌, Bool, true, false, List, [], ◌∷◌, ◌++◌, length}
use Rattle.std.proofs.Common.{drop, get_or, refl, sym, ◌∙◌, ap, arith}
use Rattle.std.specs.Prelude.{◌&&◌, ◌==◌, if◌then◌else◌, not, flat_map, reverse, slice_get, Option, None, Some}
use Rattle.std.specs.List.{filter, range_with_len}
use Rattle.std.proofs.lemmas.Bool.{eqb-true}
use Rattle.std.proofs.lemmas.List.{reverse-append}
use Rattle.std.proofs.lemmas.List.Elements.{filter-append}
use Rattle.vc_base.proofs.ListLaws.{range_split}
use Rattle.vc_plan.specs.declared.plans.Plan.{Plan}
use Rattle.vc_plan.specs.declared.procedures.Procedure.{Procedure}
use Rattle.vc_plan.specs.declared.procedures.Statement.{Statement}
use Rattle.vc_plan.specs.Domains.{numbers_below}
use Rattle.vc_plan.specs.Entries.{Entries}
use Rattle.vc_plan.specs.Seen.{Seen}
use Rattle.vc_plan.specs.Statements.{all_stated, stated}
use Rattle.vc_plan.specs.Writes.{all_run, is_at, is_summing, run_procedure}

range_next : (g n : ℕ) → g < n → range_with_len g (n - g) ≡ g ∷ range_with_len (g + 1) (n - (g + 1))
range_next g n below = let more : n - g ≡ suc (n - (g + 1)) = omega (arith, below) in ap (range_with_len g) more

-- statements from one on: the first of them, then those after it
drop_next : {X : Type 0} (xs : List X) (n : ℕ) (d : X) → n < length xs → drop n xs ≡ get_or xs n d ∷ drop (suc n) xs
drop_next [] n d below = absurd (omega (arith, below))
drop_next (x ∷ xs) zero d below = refl
drop_next (x ∷ xs) (suc n) d below = drop_next xs n d (omega (arith, below))

module _ (plan : Plan) (seen : Seen) (holds : ℕ → ℕ → Bool) where
  pub stated_next : (p : ℕ) (xs : List Statement) (n : ℕ) (x : Statement) (old new : Entries) → n < length xs
      → x ≡ get_or xs n x
      → new ≡ stated plan seen holds (record { procedure = p; statement = n }) x old
      → all_stated plan seen holds p (n + 1) (drop (n + 1) xs) new ≡ all_stated plan seen holds p n (drop n xs) old
  stated_next p xs n x old new below is e =
      ap (all_stated plan seen holds p (n + 1) (drop (n + 1) xs)) e
      ∙ sym (ap (λ list. all_stated plan seen holds p n list old)
      (drop_next xs n x below ∙ (ap (λ y. y ∷ drop (suc n) xs) (sym is)
      ∙ ap (λ k. x ∷ drop k xs) (let one : suc n ≡ n + 1 = omega arith in one))))

  -- one list of procedures after another
  run_both : (ps qs : List ℕ) (entries : Entries)
      → all_run plan seen holds (ps ++ qs) entries ≡ all_run plan seen holds qs (all_run plan seen holds ps entries)
  run_both [] qs entries = refl
  run_both (p ∷ ps) qs entries = run_both ps qs (run_procedure plan seen holds p (slice_get plan.procedures p) entries)

  -- the procedures that pass from a number on: that of the number, if it passes, then those after it
  pub runs_next : (q : ℕ → Bool) (g n : ℕ) (old new : Entries) → g < n
      → new ≡ (if q g then run_procedure plan seen holds g (slice_get plan.procedures g) old else old)
      → all_run plan seen holds (filter q (range_with_len (g + 1) (n - (g + 1)))) new
      ≡ all_run plan seen holds (filter q (range_with_len g (n - g))) old
  runs_next q g n old new below e =
      ap (all_run plan seen holds (filter q (range_with_len (g + 1) (n - (g + 1))))) e
      ∙ (by (filter q (range_with_len (g + 1) (n - (g + 1)))) (q g)
      ∙ sym (ap (λ gs. all_run plan seen holds (filter q gs) old) (range_next g n below)))
    where
      by : (rest : List ℕ) (b : Bool)
          → all_run plan seen holds rest
          (if b then run_procedure plan seen holds g (slice_get plan.procedures g) old else old)
          ≡ all_run plan seen holds (if b then g ∷ rest else rest) old
      by rest true = refl
      by rest false = refl

  -- of slots likewise, each with procedures of its own
  one_more : (f : ℕ → List ℕ) (g : ℕ) (rest : List ℕ) (b : Bool) (old : Entries)
      → all_run plan seen holds (flat_map f rest) (if b then all_run plan seen holds (f g) old else old)
      ≡ all_run plan seen holds (flat_map f (if b then g ∷ rest else rest)) old
  one_more f g rest true old = sym (run_both (f g) (flat_map f rest) old)
  one_more f g rest false old = refl

  pub slots_next : (f : ℕ → List ℕ) (q : ℕ → Bool) (g n : ℕ) (old new : Entries) → g < n
      → new ≡ (if q g then all_run plan seen holds (f g) old else old)
      → all_run plan seen holds (flat_map f (filter q (range_with_len (g + 1) (n - (g + 1))))) new
      ≡ all_run plan seen holds (flat_map f (filter q (range_with_len g (n - g)))) old
  slots_next f q g n old new below e =
      ap (all_run plan seen holds (flat_map f (filter q (range_with_len (g + 1) (n - (g + 1)))))) e
      ∙ (one_more f g (filter q (range_with_len (g + 1) (n - (g + 1)))) (q g) old
      ∙ sym (ap (λ gs. all_run plan seen holds (flat_map f (filter q gs)) old) (range_next g n below)))

  -- and from the last to the first
  last_first : (q : ℕ → Bool) (k : ℕ)
      → reverse (filter q (numbers_below (k + 1)))
      ≡ (if q k then k ∷ reverse (filter q (numbers_below k)) else reverse (filter q (numbers_below k)))
  last_first q k =
      ap (λ gs. reverse (filter q gs)) (range_split 0 k 1 (k + 1) k (omega arith) (omega arith))
      ∙ (ap reverse (filter-append q (numbers_below k) (k ∷ []))
      ∙ (reverse-append (filter q (numbers_below k)) (filter q (k ∷ []))
      ∙ by (reverse (filter q (numbers_below k))) (q k)))
    where
      by : (rest : List ℕ) (b : Bool) → reverse (if b then k ∷ [] else []) ++ rest ≡ (if b then k ∷ rest else rest)
      by rest true = refl
      by rest false = refl

  pub slots_down : (f : ℕ → List ℕ) (q : ℕ → Bool) (g : ℕ) (old new : Entries) → 0 < g
      → new ≡ (if q (g - 1) then all_run plan seen holds (f (g - 1)) old else old)
      → all_run plan seen holds (flat_map f (reverse (filter q (numbers_below (g - 1))))) new
      ≡ all_run plan seen holds (flat_map f (reverse (filter q (numbers_below g)))) old
  slots_down f q g old new some e =
      let back : g - 1 + 1 ≡ g = omega (arith, some) in
      ap (all_run plan seen holds (flat_map f (reverse (filter q (numbers_below (g - 1)))))) e
      ∙ (one_more f (g - 1) (reverse (filter q (numbers_below (g - 1)))) (q (g - 1)) old
      ∙ (ap (λ gs. all_run plan seen holds (flat_map f gs) old) (sym (last_first q (g - 1)))
      ∙ ap (λ k. all_run plan seen holds (flat_map f (reverse (filter q (numbers_below k)))) old) back))

-- where none before a number passes, those that pass from there on are all
pub filter_from : (q : ℕ → Bool) (s n : ℕ) → s ≤ n → ((k : ℕ) → k < s → q k ≡ false)
    → filter q (range_with_len s (n - s)) ≡ filter q (range_with_len 0 n)
filter_from q zero n low out = let whole : n - 0 ≡ n = omega arith in ap (λ m. filter q (range_with_len 0 m)) whole
filter_from q (suc s) n low out =
    let next : s + 1 ≡ suc s = omega arith in
    let rest = filter q (range_with_len (s + 1) (n - (s + 1))) in
    ap (λ t. filter q (range_with_len t (n - t))) (sym next)
    ∙ (sym (ap (filter q) (range_next s n (omega (arith, low)))
    ∙ ap (λ b. if b then s ∷ rest else rest) (out s (omega arith)))
    ∙ filter_from q s n (omega (arith, low)) (λ k h. out k (omega (arith, h))))

-- and where none from there on passes, there is none
pub filter_past : (q : ℕ → Bool) (m s : ℕ) → ((k : ℕ) → s ≤ k → q k ≡ false) → filter q (range_with_len s m) ≡ []
filter_past q zero s out = refl
filter_past q (suc m) s out =
    let rest = filter q (range_with_len (s + 1) m) in
    ap (λ b. if b then s ∷ rest else rest) (out s (omega arith))
    ∙ filter_past q m (s + 1) (λ k h. out k (omega (arith, h)))

-- a procedure of another slot isn't one of the slot's
pub other_slot : (plan : Plan) (summing : Bool) (slot : ℕ) (o : Option Procedure)
    → ((procedure : Procedure) → o ≡ Some procedure → procedure.slot ≡ slot → ⊥) → is_at plan summing slot o ≡ false
other_slot plan summing slot None apart = refl
other_slot plan summing slot (Some procedure) apart =
    by (procedure.slot == slot) refl (if is_summing plan procedure then summing else not summing)
  where
    by : (b : Bool) → (procedure.slot == slot) ≡ b → (c : Bool) → (b && c) ≡ false
    by true e c = absurd (apart procedure refl (eqb-true procedure.slot slot e))
    by false e c = refl

pub range_done : (g n : ℕ) → n ≤ g → range_with_len g (n - g) ≡ []
range_done g n past = let none : n - g ≡ 0 = omega (arith, past) in ap (range_with_len g) none

pub ruleset ascending = (slots_next)

pub ruleset descending = (slots_down)
