-- Bounds raised at lists of places.
use Rattle.std.proofs.Common.{◌≡◌, ℕ, zero, suc, ◌<◌, max, List, [], ◌∷◌, length, map, refl, sym, ◌∙◌, ap, arith}
use Rattle.std.specs.Prelude.{slice_get, slice_set, slice_index_or, Some}
use Rattle.vc_plan.specs.Bounds.{Place}
use Rattle.vc_net_bounds.specs.Raising.{raised_at, raised_by}

-- by the same needs, by two one after another, and by none
pub raised_same : (f g : Place → ℕ) → ((p : Place) → f p ≡ g p) → (ps : List Place) (ns : List ℕ)
    → raised_by f ps ns ≡ raised_by g ps ns
raised_same f g same [] ns = refl
raised_same f g same (p ∷ ps) [] = refl
raised_same f g same (p ∷ ps) (n ∷ ns) =
    ap (λ m. max n m ∷ raised_by f ps ns) (same p) ∙ ap (λ ms. max n (g p) ∷ ms) (raised_same f g same ps ns)

pub raised_twice : (f g both : Place → ℕ) → ((p : Place) → max (f p) (g p) ≡ both p) → (ps : List Place) (ns : List ℕ)
    → raised_by g ps (raised_by f ps ns) ≡ raised_by both ps ns
raised_twice f g both is [] ns = refl
raised_twice f g both is (p ∷ ps) [] = refl
raised_twice f g both is (p ∷ ps) (n ∷ ns) =
    let e : max (f p) (g p) ≡ both p = is p in
    let head : max (max n (f p)) (g p) ≡ max n (both p) = omega (arith, e) in
    ap (λ m. m ∷ raised_by g ps (raised_by f ps ns)) head
    ∙ ap (λ ms. max n (both p) ∷ ms) (raised_twice f g both is ps ns)

pub raised_none : (f : Place → ℕ) (ps : List Place) → ((i : ℕ) (p : Place) → slice_get ps i ≡ Some p → f p ≡ 0)
    → (ns : List ℕ) → raised_by f ps ns ≡ ns
raised_none f [] none ns = refl
raised_none f (p ∷ ps) none [] = refl
raised_none f (p ∷ ps) none (n ∷ ns) =
    let e : f p ≡ 0 = none 0 p refl in
    let head : max n (f p) ≡ n = omega (arith, e) in
    ap (λ m. m ∷ raised_by f ps ns) head ∙ ap (λ ms. n ∷ ms) (raised_none f ps (λ i q h. none (suc i) q h) ns)

-- by needs that are the same at each of the places
pub raised_each : (f g : Place → ℕ) (ps : List Place) → ((i : ℕ) (p : Place) → slice_get ps i ≡ Some p → f p ≡ g p)
    → (ns : List ℕ) → raised_by f ps ns ≡ raised_by g ps ns
raised_each f g [] same ns = refl
raised_each f g (p ∷ ps) same [] = refl
raised_each f g (p ∷ ps) same (n ∷ ns) =
    ap (λ m. max n m ∷ raised_by f ps ns) (same 0 p refl)
    ∙ ap (λ ms. max n (g p) ∷ ms) (raised_each f g ps (λ i q h. same (suc i) q h) ns)

pub raised_length : (f : Place → ℕ) (ps : List Place) (ns : List ℕ) → length ns ≡ length ps
    → length (raised_by f ps ns) ≡ length ps
raised_length f [] ns e = e
raised_length f (p ∷ ps) [] e = e
raised_length f (p ∷ ps) (n ∷ ns) e =
    let rest = raised_length f ps ns (omega (arith, e)) in omega (arith, rest)

-- by a need at one place alone
pub raised_one : (f : Place → ℕ) (b : ℕ) (ps : List Place) (i : ℕ)
    → ((p : Place) → slice_get ps i ≡ Some p → f p ≡ b)
    → ((j : ℕ) (p : Place) → slice_get ps j ≡ Some p → (j ≡ i → ⊥) → f p ≡ 0)
    → (ns : List ℕ) → length ns ≡ length ps → raised_at i b ns ≡ raised_by f ps ns
raised_one f b [] zero here apart [] e = refl
raised_one f b [] (suc i) here apart [] e = refl
raised_one f b [] i here apart (n ∷ ns) e = absurd (omega (arith, e))
raised_one f b (p ∷ ps) i here apart [] e = absurd (omega (arith, e))
raised_one f b (p ∷ ps) zero here apart (n ∷ ns) e =
    ap (λ m. max n m ∷ ns) (sym (here p refl))
    ∙ ap (λ ms. max n (f p) ∷ ms)
    (sym (raised_none f ps (λ j q h. apart (suc j) q h (λ k. absurd (omega (arith, k)))) ns))
raised_one f b (p ∷ ps) (suc i) here apart (n ∷ ns) e =
    let none : f p ≡ 0 = apart 0 p refl (λ k. absurd (omega (arith, k))) in
    let head : n ≡ max n (f p) = omega (arith, none) in
    ap (λ m. m ∷ raised_at i b ns) head
    ∙ ap (λ ms. max n (f p) ∷ ms)
    (raised_one f b ps i here (λ j q h k. apart (suc j) q h (λ same. k (omega (arith, same)))) ns (omega (arith, e)))

-- what each place needs by itself, raised
pub raised_map : (f g : Place → ℕ) (ps : List Place) → raised_by g ps (map f ps) ≡ map (λ p. max (f p) (g p)) ps
raised_map f g [] = refl
raised_map f g (p ∷ ps) = ap (λ ms. max (f p) (g p) ∷ ms) (raised_map f g ps)

pub map_same : {X Y : Type 0} (f g : X → Y) → ((x : X) → f x ≡ g x) → (xs : List X) → map f xs ≡ map g xs
map_same f g same [] = refl
map_same f g same (x ∷ xs) = ap (λ y. y ∷ map f xs) (same x) ∙ ap (λ ys. g x ∷ ys) (map_same f g same xs)

-- a number written over by the greater, and none past the end
pub set_raised : (ns : List ℕ) (i b d m : ℕ) → i < length ns → m ≡ max (slice_index_or ns i d) b
    → slice_set ns i m ≡ raised_at i b ns
set_raised [] i b d m below is = absurd (omega (arith, below))
set_raised (x ∷ xs) zero b d m below is = ap (λ k. k ∷ xs) is
set_raised (x ∷ xs) (suc i) b d m below is = ap (λ ys. x ∷ ys) (set_raised xs i b d m (omega (arith, below)) is)

pub raised_past : (ns : List ℕ) (i b : ℕ) → (i < length ns → ⊥) → ns ≡ raised_at i b ns
raised_past [] zero b past = refl
raised_past [] (suc i) b past = refl
raised_past (n ∷ ns) zero b past = absurd (past (omega arith))
raised_past (n ∷ ns) (suc i) b past = ap (λ ms. n ∷ ms) (raised_past ns i b (λ h. past (omega (arith, h))))

pub raised_at_length : (ns : List ℕ) (i b : ℕ) → length (raised_at i b ns) ≡ length ns
raised_at_length [] zero b = refl
raised_at_length [] (suc i) b = refl
raised_at_length (n ∷ ns) zero b = refl
raised_at_length (n ∷ ns) (suc i) b = let rest = raised_at_length ns i b in omega (arith, rest)

-- one number raised, or none
pub ruleset raising_steps = (set_raised, raised_past, raised_at_length)
