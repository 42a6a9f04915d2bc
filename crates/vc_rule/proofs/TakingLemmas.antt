-- How much of each kind what is said takes: premises of one conclusion or of a clash, conclusions, premises of all.
use Rattle.std.proofs.Common.{◌≡◌, ℕ, ◌+◌, ◌*◌, ◌≤◌, Bool, true, false, not, List, [], ◌∷◌, ◌++◌, length, map, refl}
use Rattle.std.proofs.Common.{sym, ap, subst, arith, length-append}
use Rattle.std.specs.List.{filter, sum_by, AllByRecursion}
use Rattle.std.proofs.lemmas.List.Filters.{length-filter_both}
use Rattle.std.proofs.lemmas.List.Sums.{sum_by-append, sum_by-cons}
use Rattle.std.proofs.lemmas.Nat.{mul-le}
use Rattle.vc_base.specs.Rounds.{Given, clash, atoms}
use Rattle.vc_plan.specs.declared.atoms.Atom.{Atom}
use Rattle.vc_plan.specs.Seen.{Seen, says}
use Rattle.vc_rule_yield.specs.Yielding.{Conclusion, Rooms}
use Rattle.vc_rule_premises.specs.Cited.{cited_once}
use Rattle.vc_rule_premises.specs.Saying.{Said, clashing, concluding, together, clash_when, conclusion_from, said_from}
use Rattle.vc_rule_premises.specs.Saying.{conclusion_with, said_with, HasRoomFor}

pub times_next : (n a : ℕ) → (n + 1) * a ≡ n * a + a
times_next n a = omega arith

pub times_both : (m n a : ℕ) → (m + n) * a ≡ m * a + n * a
times_both m n a = omega arith

-- the premises of all conclusions
abbrev pub weight : List Conclusion → ℕ
weight cs = sum_by (λ (c : Conclusion). length c.premises) cs

abbrev pub EachAtMost : ℕ → List Conclusion → Type 0
EachAtMost c cs = AllByRecursion (λ (x : Conclusion). length x.premises ≤ c) cs

-- a clash has so many premises at most; of conclusions each has so many, there are so many, and these have so many
-- in all
abbrev pub Takes : ℕ → ℕ → ℕ → Said → Type 0
Takes c n p (clashing premises) = length premises ≤ c
Takes c n p (concluding cs) = EachAtMost c cs × (length cs ≤ n) × (weight cs ≤ p)

pub each_more : (b c : ℕ) → b ≤ c → (cs : List Conclusion) → EachAtMost b cs → EachAtMost c cs
each_more b c h [] k = tt
each_more b c h (x ∷ cs) k = (let first : length x.premises ≤ b = k.0 in omega arith, each_more b c h cs k.1)

-- a yield with so much room has room for it
pub takes_room : (rooms : Rooms) (c n p : ℕ) (said : Said) → c ≤ rooms.cites → c ≤ rooms.premises → n ≤ rooms.atoms
    → p ≤ rooms.premises
    → Takes c n p said → HasRoomFor rooms said
takes_room rooms c n p (clashing premises) h k l m t = (omega arith, omega arith)
takes_room rooms c n p (concluding cs) h k l m t =
    let few : length cs ≤ n = t.1 in
    let light : weight cs ≤ p = t.2 in
    (each_more c rooms.cites h cs t.0, omega arith, omega arith)

pub weight_next : (c : Conclusion) (cs : List Conclusion) → weight (c ∷ cs) ≡ length c.premises + weight cs
weight_next c cs = sum_by-cons (λ (x : Conclusion). length x.premises) c cs

-- two lists of conclusions together
pub each_joined : (c : ℕ) (xs ys : List Conclusion) → EachAtMost c xs → EachAtMost c ys → EachAtMost c (xs ++ ys)
each_joined c [] ys h k = k
each_joined c (x ∷ xs) ys h k = (h.0, each_joined c xs ys h.1 k)

pub weight_joined : (xs ys : List Conclusion) → weight (xs ++ ys) ≡ weight xs + weight ys
weight_joined xs ys = sum_by-append (λ (c : Conclusion). length c.premises) xs ys

pub map_joined : (f : Conclusion → Conclusion) (xs ys : List Conclusion) → map f (xs ++ ys) ≡ map f xs ++ map f ys
map_joined f [] ys = refl
map_joined f (x ∷ xs) ys = ap (λ zs. f x ∷ zs) (map_joined f xs ys)

pub lists_take : (c m n p q : ℕ) (xs ys : List Conclusion) → Takes c m p (concluding xs) → Takes c n q (concluding ys)
    → Takes c (m + n) (p + q) (concluding (xs ++ ys))
lists_take c m n p q xs ys h k =
    let few : length xs ≤ m = h.1 in
    let more : length ys ≤ n = k.1 in
    let light : weight xs ≤ p = h.2 in
    let lighter : weight ys ≤ q = k.2 in
    let long : length (xs ++ ys) ≡ length xs + length ys = length-append xs ys in
    let heavy = weight_joined xs ys in
    (each_joined c xs ys h.0 k.0, omega arith, omega arith)

module _ (seen : Seen) (why : List Atom) where
  pub together_takes : (c m n p q : ℕ) (x y : Said) → Takes c m p (said_with why x) → Takes c n q (said_with why y)
      → Takes c (m + n) (p + q) (said_with why (together x y))
  together_takes c m n p q (clashing premises) y h k = h
  together_takes c m n p q (concluding xs) (clashing premises) h k = k
  together_takes c m n p q (concluding xs) (concluding ys) h k =
      subst (λ zs. Takes c (m + n) (p + q) (concluding zs)) (sym (map_joined (conclusion_with why) xs ys))
      (lists_take c m n p q (map (conclusion_with why) xs) (map (conclusion_with why) ys) h k)

  pub when_takes : (c n p : ℕ) (b : Bool) (premises : List Atom) (x : Said) → length (cited_once (why ++ premises)) ≤ c
      → Takes c n p (said_with why x) → Takes c n p (said_with why (clash_when b premises x))
  when_takes c n p true premises x h k = h
  when_takes c n p false premises x h k = k

  -- what is given takes so many premises each
  abbrev pub Gives : ℕ → ℕ → ℕ → ℕ → Given Atom → Type 0
  Gives m c n p clash = m ≤ c
  Gives m c n p (atoms xs) = (m ≤ c) × (length xs ≤ n) × (length xs * m ≤ p)

  pub from_takes : (own : List Atom) (m c n p : ℕ) (given : Given Atom) → length (cited_once (why ++ own)) ≤ m
      → Gives m c n p given
      → Takes c n p (said_with why (said_from seen own given))
  from_takes own m c n p clash few g = omega arith
  from_takes own m c n p (atoms xs) few g =
      let cites : m ≤ c = g.0 in
      let long : length xs ≤ n = g.1 in
      let heavy : length xs * m ≤ p = g.2 in
      let ys = filter (λ a. not (says seen a)) xs in
      let both = length-filter_both (λ a. not (says seen a)) (λ a. not (not (says seen a))) (λ a. refl) xs in
      let shorter : length ys ≤ length xs = omega arith in
      let times : length ys * m ≤ length xs * m = mul-le (length ys) m (length xs) m shorter (omega arith) in
      let light = each_light ys in
      let same = mapped ys in (
        each_more m c cites (map (conclusion_with why) (map (conclusion_from own) ys))
            (each ys),
        omega arith,
        omega arith,
      )
    where
      each : (ys : List Atom) → EachAtMost m (map (conclusion_with why) (map (conclusion_from own) ys))
      each [] = tt
      each (y ∷ ys) = (few, each ys)

      mapped : (ys : List Atom) → length (map (conclusion_with why) (map (conclusion_from own) ys)) ≡ length ys
      mapped [] = refl
      mapped (y ∷ ys) = let h = mapped ys in omega arith

      each_light : (ys : List Atom) → weight (map (conclusion_with why) (map (conclusion_from own) ys)) ≤ length ys * m
      each_light [] = omega arith
      each_light (y ∷ ys) =
          let later = each_light ys in
          let cs = map (conclusion_with why) (map (conclusion_from own) ys) in
          let all = weight_next (conclusion_with why (conclusion_from own y)) cs in
          let times = times_next (length ys) m in
          let first : length (conclusion_with why (conclusion_from own y)).premises ≤ m = few in
          omega arith
