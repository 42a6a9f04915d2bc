-- What the raised places of each kind of rule are, and by how much.
use Rattle.std.proofs.Common.{◌≡◌, ℕ, ◌+◌, max, Bool, true, false, cond, not, ◌&&◌, ◌||◌, ◌==◌, List, [], ◌∷◌, length}
use Rattle.std.proofs.Common.{refl, sym, ◌∙◌, ap, arith}
use Rattle.std.specs.Prelude.{Option, None, Some}
use Rattle.std.specs.List.{list_any}
use Rattle.std.proofs.lemmas.Bool.{eqb-true}
use Rattle.std.proofs.lemmas.Bool.Decides.{nat_tests}
use Rattle.vc_plan.specs.declared.conditions.Relation.{Relation}
use Rattle.vc_plan.specs.declared.plans.Plan.{Plan}
use Rattle.vc_plan.specs.declared.rules.Binding.{Binding}
use Rattle.vc_plan.specs.declared.rules.Kind.TheVariants.{Among, Compare, Equate, ByTable, Never, Last, Line}
use Rattle.vc_plan.specs.declared.rules.Restriction.{Restriction}
use Rattle.vc_plan.specs.declared.rules.Rule.{Rule}
use Rattle.vc_plan.specs.Bounds.{Place, here_at, is_at, out_at, acting_size, compare_bound, condition_size}
use Rattle.vc_plan.specs.Bounds.{equate_bound, is_this, only_if, rows_with}
use Rattle.vc_plan.specs.Domains.{count_of, is_grain_with, is_restrictable}
use Rattle.vc_plan.specs.Restrictions.{allows, is_inferred, lone_inferred}
use Rattle.vc_plan.specs.TableRows.{is_column_of, rows_of}
use Rattle.vc_net_places.specs.Cells.{all_places}
use Rattle.vc_net_bounds.specs.Capping.{capped}
use Rattle.vc_net_bounds.specs.Raising.{at_equal, at_grains, at_line, at_narrowed, at_place, at_side, at_variable}
use Rattle.vc_net_bounds.specs.Raising.{capped_bound, raised_by, raised_narrowed, where_failing, with_rows}
use Rattle.vc_net_bounds.proofs.CappingLemmas.{capped_if, sum_first, sum_of_capped}
use Rattle.vc_net_bounds.proofs.RaisingLemmas.{raised_none, raised_same, raised_twice}

-- nothing is needed at a slot but by a line
no_slot : (i : ℕ) → 0 ≡ capped (cond (i == 0) 0 0)
no_slot i = by (i == 0)
  where
    by : (b : Bool) → 0 ≡ capped (cond b 0 0)
    by true = refl
    by false = refl

-- a test of two numbers that are one, either way
swapped : (v w : ℕ) (f : ℕ → Bool) → ((v == w) && f v) ≡ ((w == v) && f w)
swapped v w f = by (v == w) (w == v) refl refl
  where
    by : (a b : Bool) → (v == w) ≡ a → (w == v) ≡ b → (a && f v) ≡ (b && f w)
    by true true e h = ap f (eqb-true v w e)
    by true false e h = absurd (grind (arith, nat_tests, e, h))
    by false true e h = absurd (grind (arith, nat_tests, e, h))
    by false false e h = refl

eq_swap : (v w : ℕ) → (v == w) ≡ (w == v)
eq_swap v w = grind (arith, nat_tests)

-- Among
pub among_excluded : (plan : Plan) (rule : Rule) (v b : ℕ) (r : Restriction) (ns : List ℕ)
    → is_inferred rule v ≡ true → is_restrictable plan v ≡ true → b ≡ capped (acting_size plan rule)
    → raised_by (at_grains v (where_failing plan v (allows plan v r) b)) (all_places plan) ns
    ≡ raised_by (capped_bound plan rule (Among v r)) (all_places plan) ns
among_excluded plan rule v b r ns inferred may is =
    raised_same (at_grains v (where_failing plan v (allows plan v r) b)) (capped_bound plan rule (Among v r)) same
    (all_places plan) ns
  where
    n : ℕ
    n = acting_size plan rule

    same : (p : Place) → at_grains v (where_failing plan v (allows plan v r) b) p ≡ capped_bound plan rule (Among v r) p
    same (here_at i) = no_slot i
    same (out_at w g) = by (v == w) (is_inferred rule v) (is_restrictable plan v)
        (is_grain_with plan v (allows plan v r) g) inferred may
      where
        by : (s i m x : Bool) → i ≡ true → m ≡ true
            → only_if s (only_if (not x) b) ≡ capped (only_if ((s && i) && (m && not x)) n)
        by true true true true e h = refl
        by true true true false e h = is
        by true true false x e h = absurd (cc)
        by true false m x e h = absurd (cc)
        by false i m x e h = refl
    same (is_at w) = by (v == w) (is_inferred rule v) (is_restrictable plan v) inferred may
      where
        by : (s i m : Bool) → i ≡ true → m ≡ true → 0 ≡ capped (only_if ((s && i) && not m) (n + count_of plan v))
        by true true true e h = refl
        by true true false e h = absurd (cc)
        by true false m e h = absurd (cc)
        by false i m e h = refl

pub among_valued : (plan : Plan) (rule : Rule) (v b : ℕ) (r : Restriction) (ns : List ℕ)
    → is_inferred rule v ≡ true → is_restrictable plan v ≡ false → b ≡ capped (acting_size plan rule + count_of plan v)
    → raised_by (at_place (is_at v) b) (all_places plan) ns
    ≡ raised_by (capped_bound plan rule (Among v r)) (all_places plan) ns
among_valued plan rule v b r ns inferred may is =
    raised_same (at_place (is_at v) b) (capped_bound plan rule (Among v r)) same (all_places plan) ns
  where
    n : ℕ
    n = acting_size plan rule

    same : (p : Place) → at_place (is_at v) b p ≡ capped_bound plan rule (Among v r) p
    same (here_at i) = no_slot i
    same (out_at w g) = by (v == w) (is_inferred rule v) (is_restrictable plan v)
        (is_grain_with plan v (allows plan v r) g) inferred may
      where
        by : (s i m x : Bool) → i ≡ true → m ≡ false → 0 ≡ capped (only_if ((s && i) && (m && not x)) n)
        by true true true x e h = absurd (cc)
        by true true false x e h = refl
        by true false m x e h = absurd (cc)
        by false i m x e h = refl
    same (is_at w) = by (v == w) (is_inferred rule v) (is_restrictable plan v) inferred may
      where
        by : (s i m : Bool) → i ≡ true → m ≡ false
            → only_if s b ≡ capped (only_if ((s && i) && not m) (n + count_of plan v))
        by true true true e h = absurd (cc)
        by true true false e h = is
        by true false m e h = absurd (cc)
        by false i m e h = refl

pub among_alone : (plan : Plan) (rule : Rule) (v : ℕ) (r : Restriction) (ns : List ℕ) → is_inferred rule v ≡ false
    → ns ≡ raised_by (capped_bound plan rule (Among v r)) (all_places plan) ns
among_alone plan rule v r ns inferred =
    sym (raised_none (capped_bound plan rule (Among v r)) (all_places plan) (λ i p e. none p) ns)
  where
    n : ℕ
    n = acting_size plan rule

    none : (p : Place) → capped_bound plan rule (Among v r) p ≡ 0
    none (here_at i) = sym (no_slot i)
    none (out_at w g) = by (v == w) (is_inferred rule v) inferred
      where
        by : (s i : Bool) → i ≡ false
            → capped (only_if ((s && i) && (is_restrictable plan v && not (is_grain_with plan v (allows plan v r) g)))
            n) ≡ 0
        by true true e = absurd (cc)
        by true false e = refl
        by false i e = refl
    none (is_at w) = by (v == w) (is_inferred rule v) inferred
      where
        by : (s i : Bool) → i ≡ false
            → capped (only_if ((s && i) && not (is_restrictable plan v)) (n + count_of plan v)) ≡ 0
        by true true e = absurd (cc)
        by true false e = refl
        by false i e = refl

-- a side that is no lone variable
pub no_side_raised : (plan : Plan) (b : ℕ) (ns : List ℕ) → ns ≡ raised_by (at_side plan None b) (all_places plan) ns
no_side_raised plan b ns = sym (raised_none (at_side plan None b) (all_places plan) (λ i p e. refl) ns)

pub side_raised : (plan : Plan) (v b : ℕ) (ns : List ℕ)
    → raised_by (at_variable plan v b) (all_places plan) ns ≡ raised_by (at_side plan (Some v) b) (all_places plan) ns
side_raised plan v b ns = raised_same (at_variable plan v b) (at_side plan (Some v) b) (λ p. refl) (all_places plan) ns

pub no_equal_raised : (plan : Plan) (b : ℕ) (ns : List ℕ) → ns ≡ raised_by (at_equal None b) (all_places plan) ns
no_equal_raised plan b ns = sym (raised_none (at_equal None b) (all_places plan) (λ i p e. refl) ns)

pub equal_raised : (plan : Plan) (v b : ℕ) (ns : List ℕ)
    → raised_by (at_place (is_at v) b) (all_places plan) ns ≡ raised_by (at_equal (Some v) b) (all_places plan) ns
equal_raised plan v b ns = raised_same (at_place (is_at v) b) (at_equal (Some v) b) (λ p. refl) (all_places plan) ns

-- Compare
side_out : (plan : Plan) (o : Option ℕ) (b w g : ℕ)
    → at_side plan o b (out_at w g) ≡ only_if (is_this w o && is_restrictable plan w) b
side_out plan None b w g = refl
side_out plan (Some v) b w g = ap (λ t. only_if t b) (swapped v w (is_restrictable plan))

side_is : (plan : Plan) (o : Option ℕ) (b w : ℕ)
    → at_side plan o b (is_at w) ≡ only_if (is_this w o && not (is_restrictable plan w)) b
side_is plan None b w = refl
side_is plan (Some v) b w = ap (λ t. only_if t b) (swapped v w (λ x. not (is_restrictable plan x)))

no_side : (plan : Plan) (o : Option ℕ) (b i : ℕ) → at_side plan o b (here_at i) ≡ 0
no_side plan None b i = refl
no_side plan (Some v) b i = refl

either_side : (x y m : Bool) (n b : ℕ) → b ≡ capped n
    → max (only_if (x && m) b) (only_if (y && m) b) ≡ capped (only_if ((x || y) && m) n)
either_side true true true n b is = omega (arith, is)
either_side true false true n b is = omega (arith, is)
either_side false true true n b is = omega (arith, is)
either_side false false true n b is = refl
either_side true true false n b is = refl
either_side true false false n b is = refl
either_side false true false n b is = refl
either_side false false false n b is = refl

pub compare_raised : (plan : Plan) (rule : Rule) (r : Relation) (x y b : ℕ) (ns : List ℕ)
    → b ≡ capped (compare_bound plan rule x y)
    → raised_by (at_side plan (lone_inferred plan rule y) b) (all_places plan)
    (raised_by (at_side plan (lone_inferred plan rule x) b) (all_places plan) ns)
    ≡ raised_by (capped_bound plan rule (Compare r x y)) (all_places plan) ns
compare_raised plan rule r x y b ns is =
    raised_twice (at_side plan o b) (at_side plan q b) (capped_bound plan rule (Compare r x y)) both (all_places plan)
    ns
  where
    o : Option ℕ
    o = lone_inferred plan rule x

    q : Option ℕ
    q = lone_inferred plan rule y

    both : (p : Place) → max (at_side plan o b p) (at_side plan q b p) ≡ capped_bound plan rule (Compare r x y) p
    both (here_at i) =
        let first = no_side plan o b i in
        let second = no_side plan q b i in
        let slot = no_slot i in
        omega (arith, first, second, slot)
    both (out_at w g) =
        ap (λ m. max m (at_side plan q b (out_at w g))) (side_out plan o b w g)
        ∙ (ap (λ m. max (only_if (is_this w o && is_restrictable plan w) b) m) (side_out plan q b w g)
        ∙ either_side (is_this w o) (is_this w q) (is_restrictable plan w) (compare_bound plan rule x y) b is)
    both (is_at w) =
        ap (λ m. max m (at_side plan q b (is_at w))) (side_is plan o b w)
        ∙ (ap (λ m. max (only_if (is_this w o && not (is_restrictable plan w)) b) m) (side_is plan q b w)
        ∙ either_side (is_this w o) (is_this w q) (not (is_restrictable plan w)) (compare_bound plan rule x y) b is)

-- Equate
equal_is : (o : Option ℕ) (b w : ℕ) → at_equal o b (is_at w) ≡ only_if (is_this w o) b
equal_is None b w = refl
equal_is (Some v) b w = ap (λ t. only_if t b) (eq_swap v w)

no_equal : (o : Option ℕ) (b i : ℕ) → at_equal o b (here_at i) ≡ 0
no_equal None b i = refl
no_equal (Some v) b i = refl

not_excluded : (o : Option ℕ) (b w g : ℕ) → at_equal o b (out_at w g) ≡ 0
not_excluded None b w g = refl
not_excluded (Some v) b w g = refl

either_equal : (x y : Bool) (n b : ℕ) → b ≡ capped n → max (only_if x b) (only_if y b) ≡ capped (only_if (x || y) n)
either_equal true true n b is = omega (arith, is)
either_equal true false n b is = omega (arith, is)
either_equal false true n b is = omega (arith, is)
either_equal false false n b is = refl

pub equate_raised : (plan : Plan) (rule : Rule) (x y b : ℕ) (ns : List ℕ) → b ≡ capped (equate_bound plan rule x y)
    → raised_by (at_equal (lone_inferred plan rule y) b) (all_places plan)
    (raised_by (at_equal (lone_inferred plan rule x) b) (all_places plan) ns)
    ≡ raised_by (capped_bound plan rule (Equate x y)) (all_places plan) ns
equate_raised plan rule x y b ns is =
    raised_twice (at_equal o b) (at_equal q b) (capped_bound plan rule (Equate x y)) both (all_places plan) ns
  where
    o : Option ℕ
    o = lone_inferred plan rule x

    q : Option ℕ
    q = lone_inferred plan rule y

    both : (p : Place) → max (at_equal o b p) (at_equal q b p) ≡ capped_bound plan rule (Equate x y) p
    both (here_at i) =
        let first = no_equal o b i in
        let second = no_equal q b i in
        let slot = no_slot i in
        omega (arith, first, second, slot)
    both (out_at w g) =
        let first = not_excluded o b w g in
        let second = not_excluded q b w g in
        omega (arith, first, second)
    both (is_at w) =
        ap (λ m. max m (at_equal q b (is_at w))) (equal_is o b w)
        ∙ (ap (λ m. max (only_if (is_this w o) b) m) (equal_is q b w)
        ∙ either_equal (is_this w o) (is_this w q) (equate_bound plan rule x y) b is)

-- Table: one variable
pub narrowed_grains : (plan : Plan) (table b v : ℕ) (columns : List Binding) (ns : List ℕ)
    → list_any (is_column_of v) columns ≡ true → is_restrictable plan v ≡ true
    → raised_by (at_grains v (with_rows plan table columns v b)) (all_places plan) ns
    ≡ raised_by (at_narrowed plan table columns b v) (all_places plan) ns
narrowed_grains plan table b v columns ns given may =
    raised_same (at_grains v (with_rows plan table columns v b)) (at_narrowed plan table columns b v) same
    (all_places plan) ns
  where
    same : (p : Place) → at_grains v (with_rows plan table columns v b) p ≡ at_narrowed plan table columns b v p
    same (here_at i) = refl
    same (out_at w g) = by (v == w) (list_any (is_column_of v) columns) (is_restrictable plan v) given may
      where
        by : (s c m : Bool) → c ≡ true → m ≡ true
            → only_if s (with_rows plan table columns v b g)
            ≡ only_if (s && (c && m)) (with_rows plan table columns v b g)
        by true true true e h = refl
        by true true false e h = absurd (cc)
        by true false m e h = absurd (cc)
        by false c m e h = refl
    same (is_at w) = by (v == w) (list_any (is_column_of v) columns) (is_restrictable plan v) given may
      where
        by : (s c m : Bool) → c ≡ true → m ≡ true
            → 0 ≡ only_if (s && (c && not m)) (capped (b + length (rows_of plan table)))
        by true true true e h = refl
        by true true false e h = absurd (cc)
        by true false m e h = absurd (cc)
        by false c m e h = refl

pub narrowed_value : (plan : Plan) (table b v : ℕ) (columns : List Binding) (ns : List ℕ)
    → list_any (is_column_of v) columns ≡ true → is_restrictable plan v ≡ false
    → raised_by (at_place (is_at v) (capped (b + length (rows_of plan table)))) (all_places plan) ns
    ≡ raised_by (at_narrowed plan table columns b v) (all_places plan) ns
narrowed_value plan table b v columns ns given may =
    raised_same (at_place (is_at v) n) (at_narrowed plan table columns b v) same (all_places plan) ns
  where
    n : ℕ
    n = capped (b + length (rows_of plan table))

    same : (p : Place) → at_place (is_at v) n p ≡ at_narrowed plan table columns b v p
    same (here_at i) = refl
    same (out_at w g) = by (v == w) (list_any (is_column_of v) columns) (is_restrictable plan v) given may
      where
        by : (s c m : Bool) → c ≡ true → m ≡ false → 0 ≡ only_if (s && (c && m)) (with_rows plan table columns v b g)
        by true true true e h = absurd (cc)
        by true true false e h = refl
        by true false m e h = absurd (cc)
        by false c m e h = refl
    same (is_at w) = by (v == w) (list_any (is_column_of v) columns) (is_restrictable plan v) given may
      where
        by : (s c m : Bool) → c ≡ true → m ≡ false → only_if s n ≡ only_if (s && (c && not m)) n
        by true true true e h = absurd (cc)
        by true true false e h = refl
        by true false m e h = absurd (cc)
        by false c m e h = refl

pub narrowed_not : (plan : Plan) (table b v : ℕ) (columns : List Binding) (ns : List ℕ)
    → list_any (is_column_of v) columns ≡ false
    → ns ≡ raised_by (at_narrowed plan table columns b v) (all_places plan) ns
narrowed_not plan table b v columns ns given =
    sym (raised_none (at_narrowed plan table columns b v) (all_places plan) (λ i p e. none p) ns)
  where
    none : (p : Place) → at_narrowed plan table columns b v p ≡ 0
    none (here_at i) = refl
    none (out_at w g) = by (v == w) (list_any (is_column_of v) columns) given
      where
        by : (s c : Bool) → c ≡ false
            → only_if (s && (c && is_restrictable plan v)) (with_rows plan table columns v b g) ≡ 0
        by true true e = absurd (cc)
        by true false e = refl
        by false c e = refl
    none (is_at w) = by (v == w) (list_any (is_column_of v) columns) given
      where
        by : (s c : Bool) → c ≡ false
            → only_if (s && (c && not (is_restrictable plan v))) (capped (b + length (rows_of plan table))) ≡ 0
        by true true e = absurd (cc)
        by true false e = refl
        by false c e = refl

-- all of a list
abbrev at_all_narrowed : Plan → ℕ → List Binding → ℕ → List ℕ → Place → ℕ
at_all_narrowed plan table columns b vs (here_at i) = 0
at_all_narrowed plan table columns b vs (out_at w g) =
    only_if (list_any (λ v. v == w) vs && (list_any (is_column_of w) columns && is_restrictable plan w))
    (with_rows plan table columns w b g)
at_all_narrowed plan table columns b vs (is_at w) =
    only_if (list_any (λ v. v == w) vs && (list_any (is_column_of w) columns && not (is_restrictable plan w)))
    (capped (b + length (rows_of plan table)))

one_narrowed : (plan : Plan) (table b v : ℕ) (columns : List Binding) (vs : List ℕ) (p : Place)
    → max (at_narrowed plan table columns b v p) (at_all_narrowed plan table columns b vs p)
    ≡ at_all_narrowed plan table columns b (v ∷ vs) p
one_narrowed plan table b v columns vs (here_at i) = refl
one_narrowed plan table b v columns vs (out_at w g) =
    by (v == w) (list_any (λ x. x == w) vs) (list_any (is_column_of v) columns && is_restrictable plan v)
    (list_any (is_column_of w) columns && is_restrictable plan w)
    (λ e. ap (λ x. list_any (is_column_of x) columns && is_restrictable plan x) (eqb-true v w e))
    (λ e. ap (λ x. with_rows plan table columns x b g) (eqb-true v w e))
  where
    by : (s t c d : Bool) → (s ≡ true → c ≡ d)
        → (s ≡ true → with_rows plan table columns v b g ≡ with_rows plan table columns w b g)
        → max (only_if (s && c) (with_rows plan table columns v b g))
        (only_if (t && d) (with_rows plan table columns w b g))
        ≡ only_if ((s || t) && d) (with_rows plan table columns w b g)
    by true true true true e h = let is = h refl in omega (arith, is)
    by true false true true e h = let is = h refl in omega (arith, is)
    by true t true false e h = let is : true ≡ false = e refl in absurd (cc)
    by true t false true e h = let is : false ≡ true = e refl in absurd (cc)
    by true true false false e h = refl
    by true false false false e h = refl
    by false true c true e h = omega arith
    by false true c false e h = refl
    by false false c d e h = refl
one_narrowed plan table b v columns vs (is_at w) =
    by (v == w) (list_any (λ x. x == w) vs) (list_any (is_column_of v) columns && not (is_restrictable plan v))
    (list_any (is_column_of w) columns && not (is_restrictable plan w))
    (λ e. ap (λ x. list_any (is_column_of x) columns && not (is_restrictable plan x)) (eqb-true v w e))
  where
    n : ℕ
    n = capped (b + length (rows_of plan table))

    by : (s t c d : Bool) → (s ≡ true → c ≡ d)
        → max (only_if (s && c) n) (only_if (t && d) n) ≡ only_if ((s || t) && d) n
    by true true true true e = omega arith
    by true false true true e = omega arith
    by true t true false e = let is : true ≡ false = e refl in absurd (cc)
    by true t false true e = let is : false ≡ true = e refl in absurd (cc)
    by true true false false e = refl
    by true false false false e = refl
    by false true c true e = omega arith
    by false true c false e = refl
    by false false c d e = refl

list_narrowed : (plan : Plan) (table b : ℕ) (columns : List Binding) (vs : List ℕ) (ns : List ℕ)
    → raised_narrowed plan table columns b vs ns
    ≡ raised_by (at_all_narrowed plan table columns b vs) (all_places plan) ns
list_narrowed plan table b columns [] ns =
    sym (raised_none (at_all_narrowed plan table columns b []) (all_places plan) (λ i p e. none p) ns)
  where
    none : (p : Place) → at_all_narrowed plan table columns b [] p ≡ 0
    none (here_at i) = refl
    none (out_at w g) = refl
    none (is_at w) = refl
list_narrowed plan table b columns (v ∷ vs) ns =
    list_narrowed plan table b columns vs (raised_by (at_narrowed plan table columns b v) (all_places plan) ns)
    ∙ raised_twice (at_narrowed plan table columns b v) (at_all_narrowed plan table columns b vs)
    (at_all_narrowed plan table columns b (v ∷ vs)) (one_narrowed plan table b v columns vs) (all_places plan) ns

pub table_raised : (plan : Plan) (rule : Rule) (table b : ℕ) (columns : List Binding) (ns : List ℕ)
    → b ≡ capped (acting_size plan rule)
    → raised_narrowed plan table columns b rule.inferred ns
    ≡ raised_by (capped_bound plan rule (ByTable table columns)) (all_places plan) ns
table_raised plan rule table b columns ns is =
    list_narrowed plan table b columns rule.inferred ns
    ∙ raised_same (at_all_narrowed plan table columns b rule.inferred) (capped_bound plan rule (ByTable table columns))
    same (all_places plan) ns
  where
    n : ℕ
    n = acting_size plan rule

    by : (i c m : Bool) (k : ℕ) → only_if (i && (c && m)) (capped (b + k)) ≡ capped (only_if ((i && c) && m) (n + k))
    by true true true k = ap (λ x. capped (x + k)) is ∙ sum_first n k
    by true true false k = refl
    by true false m k = refl
    by false c m k = refl

    same : (p : Place)
        → at_all_narrowed plan table columns b rule.inferred p ≡ capped_bound plan rule (ByTable table columns) p
    same (here_at i) = no_slot i
    same (out_at w g) =
        by (is_inferred rule w) (list_any (is_column_of w) columns) (is_restrictable plan w)
        (rows_with plan table columns w g)
    same (is_at w) =
        by (is_inferred rule w) (list_any (is_column_of w) columns) (not (is_restrictable plan w))
        (length (rows_of plan table))

-- Never, Last and Line
pub never_raised : (plan : Plan) (rule : Rule) (ns : List ℕ)
    → ns ≡ raised_by (capped_bound plan rule Never) (all_places plan) ns
never_raised plan rule ns =
    sym (raised_none (capped_bound plan rule Never) (all_places plan) (λ i p e. none p) ns)
  where
    none : (p : Place) → capped_bound plan rule Never p ≡ 0
    none (here_at i) = sym (no_slot i)
    none (out_at w g) = refl
    none (is_at w) = refl

pub last_raised : (plan : Plan) (rule : Rule) (v : ℕ) (ns : List ℕ)
    → raised_by (at_place (is_at v) (capped (count_of plan v))) (all_places plan) ns
    ≡ raised_by (capped_bound plan rule (Last v)) (all_places plan) ns
last_raised plan rule v ns =
    raised_same (at_place (is_at v) (capped (count_of plan v))) (capped_bound plan rule (Last v)) same (all_places plan)
    ns
  where
    same : (p : Place) → at_place (is_at v) (capped (count_of plan v)) p ≡ capped_bound plan rule (Last v) p
    same (here_at i) = no_slot i
    same (out_at w g) = refl
    same (is_at w) = sym (capped_if (v == w) (count_of plan v))

pub line_needs : (plan : Plan) (rule : Rule) (i b : ℕ) (ns : List ℕ) → b ≡ capped (1 + condition_size plan rule)
    → raised_by (at_line i b) (all_places plan) ns ≡ raised_by (capped_bound plan rule (Line i)) (all_places plan) ns
line_needs plan rule i b ns is = raised_same (at_line i b) (capped_bound plan rule (Line i)) same (all_places plan) ns
  where
    none : (t : Bool) → only_if t 0 ≡ 0
    none true = refl
    none false = refl

    same : (p : Place) → at_line i b p ≡ capped_bound plan rule (Line i) p
    same (here_at j) = by (i == 0) (j == 0) (i == j) (j == i) (eq_swap i j) (λ e. ap (λ k. k == 0) (eqb-true i j e))
      where
        n : ℕ
        n = 1 + condition_size plan rule

        by : (x y s t : Bool) → s ≡ t → (s ≡ true → x ≡ y) → cond x 0 (only_if s b) ≡ capped (cond y 0 (only_if t n))
        by x true false false e h = none x
        by x false false false e h = none x
        by x y true false e h = absurd (cc)
        by x y false true e h = absurd (cc)
        by true true true true e h = refl
        by false false true true e h = is
        by true false true true e h = let k : true ≡ false = h refl in absurd (cc)
        by false true true true e h = let k : false ≡ true = h refl in absurd (cc)
    same (out_at w g) = none (i == 0)
    same (is_at w) = none (i == 0)

-- what Among raises
pub ruleset among_steps = (among_excluded, among_valued, among_alone, sum_of_capped)

-- what a table call raises at a variable
pub ruleset narrowed_steps = (narrowed_grains, narrowed_value, narrowed_not)

-- what the kinds without a call of their own raise
pub ruleset kind_steps = (never_raised, last_raised, line_needs)
