-- How many grains are out is counted with each atom that comes, and with each that goes.
use Rattle.std.proofs.Common.{◌≡◌, ℕ, zero, suc, ◌+◌, ◌-◌, ◌<◌, ◌≤◌, Bool, true, false, List, [], ◌∷◌, ◌++◌, length}
use Rattle.std.proofs.Common.{drop, get_or, replicate, take, refl, sym, ◌∙◌, ap, subst, inl, inr, arith, append-nil}
use Rattle.std.specs.Prelude.{◌==◌, if◌then◌else◌, nat_lt, slice_index_or, slice_set}
use Rattle.std.specs.List.{filter}
use Rattle.std.proofs.lemmas.Bool.{lt-ltb}
use Rattle.std.proofs.lemmas.List.{get_or-set_other, get_or-set_same, length-set, take_all}
use Rattle.vc_base.proofs.ListLaws.{number_exact, number_itself}
use Rattle.vc_base.proofs.SetLaws.{both, told}
use Rattle.vc_plan.specs.declared.atoms.Atom.{Atom}
use Rattle.vc_plan.specs.declared.atoms.Atom.TheVariants.{Here, Out, Is}
use Rattle.vc_net_standing.specs.declared.standing.Fact.{Fact}
use Rattle.vc_net_standing.specs.Coming.{is_out_of, outs_of}
use Rattle.vc_net_standing.specs.Standing.{atoms_of}
use Rattle.vc_net_log.specs.Keeping.{IsCounted, lowered_at, raised_at}

-- one where the test holds
abbrev one_if : Bool → ℕ
one_if b = if b then 1 else 0

first_counts : (v : ℕ) (a : Atom) (more : List Atom) → outs_of v (a ∷ more) ≡ one_if (is_out_of v a) + outs_of v more
first_counts v a more = by (is_out_of v a)
  where
    by : (b : Bool) → length (if b then a ∷ filter (is_out_of v) more else filter (is_out_of v) more)
        ≡ one_if b + outs_of v more
    by true = omega arith
    by false = omega arith

last_counts : (v : ℕ) (atoms : List Atom) (a : Atom)
    → outs_of v (atoms ++ a ∷ []) ≡ outs_of v atoms + one_if (is_out_of v a)
last_counts v [] a =
    let first = first_counts v a [] in
    let none : outs_of v [] ≡ 0 = refl in
    omega (arith, first, none)
last_counts v (b ∷ atoms) a =
    let before = first_counts v b (atoms ++ a ∷ []) in
    let after = first_counts v b atoms in
    let rest = last_counts v atoms a in
    omega (arith, before, after, rest)

pub counted_few : (v : ℕ) (atoms : List Atom) → outs_of v atoms ≤ length atoms
counted_few v [] = omega arith
counted_few v (a ∷ atoms) =
    let first = first_counts v a atoms in
    let rest = counted_few v atoms in
    by (is_out_of v a) first rest
  where
    by : (b : Bool) → outs_of v (a ∷ atoms) ≡ one_if b + outs_of v atoms → outs_of v atoms ≤ length atoms
        → outs_of v (a ∷ atoms) ≤ suc (length atoms)
    by true e h = omega (arith, e, h)
    by false e h = omega (arith, e, h)

turned : (v w : ℕ) → (w == v) ≡ false → (v ≡ w → ⊥)
turned v w e is = both (ap (λ x. x == v) (sym is) ∙ number_itself v) e

-- one more
pub raised_long : (a : Atom) (outs : List ℕ) → length (raised_at a outs) ≡ length outs
raised_long (Here i) outs = refl
raised_long (Out w g) outs = by (nat_lt w (length outs))
  where
    by : (b : Bool) → length (if b then slice_set outs w (slice_index_or outs w 0 + 1) else outs) ≡ length outs
    by true = length-set outs w (slice_index_or outs w 0 + 1)
    by false = refl
raised_long (Is w a) outs = refl

raised_number : (a : Atom) (outs : List ℕ) (v : ℕ) → v < length outs
    → slice_index_or (raised_at a outs) v 0 ≡ slice_index_or outs v 0 + one_if (is_out_of v a)
raised_number (Here i) outs v low = omega arith
raised_number (Is w a) outs v low = omega arith
raised_number (Out w g) outs v low =
    elim (told (w == v)) [
      | inl same ↦
          let is : w ≡ v = number_exact w v same in
          let inside : w < length outs = omega (arith, is, low) in
          ap (λ b. slice_index_or (if b then slice_set outs w (slice_index_or outs w 0 + 1) else outs) v 0)
          (lt-ltb w (length outs) inside)
          ∙ (ap (λ k. slice_index_or (slice_set outs w (slice_index_or outs w 0 + 1)) k 0) (sym is)
          ∙ (get_or-set_same outs w (slice_index_or outs w 0 + 1) 0 inside
          ∙ (ap (λ k. slice_index_or outs k 0 + 1) is
          ∙ ap (λ b. slice_index_or outs v 0 + one_if b) (sym same))))
      | inr other ↦
          by (nat_lt w (length outs)) other
    ]
  where
    by : (b : Bool) → (w == v) ≡ false
        → slice_index_or (if b then slice_set outs w (slice_index_or outs w 0 + 1) else outs) v 0
        ≡ slice_index_or outs v 0 + one_if (w == v)
    by true other =
        get_or-set_other outs w v (slice_index_or outs w 0 + 1) 0 (turned v w other)
        ∙ (zero_more ∙ ap (λ b. slice_index_or outs v 0 + one_if b) (sym other))
      where
        zero_more : slice_index_or outs v 0 ≡ slice_index_or outs v 0 + 0
        zero_more = omega arith
    by false other = zero_more ∙ ap (λ b. slice_index_or outs v 0 + one_if b) (sym other)
      where
        zero_more : slice_index_or outs v 0 ≡ slice_index_or outs v 0 + 0
        zero_more = omega arith

pub raised_counts : (atoms : List Atom) (a : Atom) (outs : List ℕ) → IsCounted atoms outs
    → IsCounted (atoms ++ a ∷ []) (raised_at a outs)
raised_counts atoms a outs counted v low =
    let long = raised_long a outs in
    let inside : v < length outs = omega (arith, long, low) in
    raised_number a outs v inside
    ∙ (ap (λ n. n + one_if (is_out_of v a)) (counted v inside) ∙ sym (last_counts v atoms a))

-- one less
middle_counts : (v : ℕ) (others : List Atom) (a : Atom) (more : List Atom)
    → outs_of v (others ++ a ∷ more) ≡ one_if (is_out_of v a) + outs_of v (others ++ more)
middle_counts v [] a more = first_counts v a more
middle_counts v (b ∷ others) a more =
    let whole = first_counts v b (others ++ a ∷ more) in
    let part = first_counts v b (others ++ more) in
    let rest = middle_counts v others a more in
    omega (arith, whole, part, rest)

pub lowered_long : (a : Atom) (outs : List ℕ) → length (lowered_at a outs) ≡ length outs
lowered_long (Here i) outs = refl
lowered_long (Out w g) outs = by (nat_lt w (length outs))
  where
    by : (b : Bool) → length (if b then slice_set outs w (slice_index_or outs w 0 - 1) else outs) ≡ length outs
    by true = length-set outs w (slice_index_or outs w 0 - 1)
    by false = refl
lowered_long (Is w a) outs = refl

lowered_number : (a : Atom) (outs : List ℕ) (v : ℕ) → v < length outs
    → slice_index_or (lowered_at a outs) v 0 ≡ slice_index_or outs v 0 - one_if (is_out_of v a)
lowered_number (Here i) outs v low = omega arith
lowered_number (Is w a) outs v low = omega arith
lowered_number (Out w g) outs v low =
    elim (told (w == v)) [
      | inl same ↦
          let is : w ≡ v = number_exact w v same in
          let inside : w < length outs = omega (arith, is, low) in
          ap (λ b. slice_index_or (if b then slice_set outs w (slice_index_or outs w 0 - 1) else outs) v 0)
          (lt-ltb w (length outs) inside)
          ∙ (ap (λ k. slice_index_or (slice_set outs w (slice_index_or outs w 0 - 1)) k 0) (sym is)
          ∙ (get_or-set_same outs w (slice_index_or outs w 0 - 1) 0 inside
          ∙ (ap (λ k. slice_index_or outs k 0 - 1) is
          ∙ ap (λ b. slice_index_or outs v 0 - one_if b) (sym same))))
      | inr other ↦
          by (nat_lt w (length outs)) other
    ]
  where
    by : (b : Bool) → (w == v) ≡ false
        → slice_index_or (if b then slice_set outs w (slice_index_or outs w 0 - 1) else outs) v 0
        ≡ slice_index_or outs v 0 - one_if (w == v)
    by true other =
        get_or-set_other outs w v (slice_index_or outs w 0 - 1) 0 (turned v w other)
        ∙ (zero_less ∙ ap (λ b. slice_index_or outs v 0 - one_if b) (sym other))
      where
        zero_less : slice_index_or outs v 0 ≡ slice_index_or outs v 0 - 0
        zero_less = omega arith
    by false other = zero_less ∙ ap (λ b. slice_index_or outs v 0 - one_if b) (sym other)
      where
        zero_less : slice_index_or outs v 0 ≡ slice_index_or outs v 0 - 0
        zero_less = omega arith

lowered_counts : (others : List Atom) (a : Atom) (more : List Atom) (outs : List ℕ)
    → IsCounted (others ++ a ∷ more) outs → IsCounted (others ++ more) (lowered_at a outs)
lowered_counts others a more outs counted v low =
    let long = lowered_long a outs in
    let inside : v < length outs = omega (arith, long, low) in
    let number = lowered_number a outs v inside in
    let whole = counted v inside in
    let middle = middle_counts v others a more in
    omega (arith, number, whole, middle)

-- the same of facts whose first is counted no more
pub lowered_rest : (rest : List Fact) (d : Fact) (others : List Atom) (outs lower : List ℕ) → 1 ≤ length rest
    → lower ≡ lowered_at (get_or rest 0 d).atom outs → IsCounted (others ++ atoms_of rest) outs
    → IsCounted (others ++ atoms_of (take (length rest - 1) (drop 1 rest))) lower
lowered_rest [] d others outs lower some e h = absurd (omega arith)
lowered_rest (fact ∷ rest) d others outs lower some e h =
    let more : take (length (fact ∷ rest) - 1) rest ≡ rest = take_all (length (fact ∷ rest) - 1) rest (omega arith) in
    subst (IsCounted (others ++ atoms_of (take (length (fact ∷ rest) - 1) rest))) (sym e)
    (subst (λ xs. IsCounted (others ++ atoms_of xs) (lowered_at fact.atom outs)) (sym more)
    (lowered_counts others fact.atom (atoms_of rest) outs h))

pub lowered_all : (rest : List Fact) (others : List Atom) (outs : List ℕ) → length rest < 1
    → IsCounted (others ++ atoms_of rest) outs → IsCounted others outs
lowered_all [] others outs none h = subst (λ atoms. IsCounted atoms outs) (append-nil others) h
lowered_all (fact ∷ rest) others outs none h = absurd (omega (arith, none))

-- none at first
pub zero_at : (count v : ℕ) → slice_index_or (replicate {A = ℕ} count 0) v 0 ≡ 0
zero_at zero zero = refl
zero_at zero (suc v) = refl
zero_at (suc count) zero = refl
zero_at (suc count) (suc v) = zero_at count v

pub none_counted : (count : ℕ) → IsCounted [] (replicate count 0)
none_counted count v low = zero_at count v
