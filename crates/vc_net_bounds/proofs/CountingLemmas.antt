-- What is raised by all rules is what each place needs, as far as that is told.
use Rattle.std.proofs.Common.{◌≡◌, ℕ, ◌+◌, ◌<◌, ◌≤◌, max, Bool, true, false, cond, ◌==◌, List, [], ◌∷◌, ◌++◌, length}
use Rattle.std.proofs.Common.{map, replicate, refl, sym, ◌∙◌, ap, arith, append-nil, append_assoc}
use Rattle.std.specs.List.{flat_map}
use Rattle.std.proofs.lemmas.Grind.{flat_map-append}
use Rattle.std.proofs.lemmas.List.{map-append}
use Rattle.vc_base.proofs.ListLaws.{range_split}
use Rattle.vc_plan.specs.declared.plans.Plan.{Plan}
use Rattle.vc_plan.specs.declared.rules.Rule.{Rule}
use Rattle.vc_plan.specs.Bounds.{Place, cell_bound, clash_bound, greatest, here_at, here_bound, is_at, is_bound, out_at}
use Rattle.vc_plan.specs.Bounds.{out_bound, place_bound, source_bound}
use Rattle.vc_plan.specs.Domains.{count_of, numbers_below}
use Rattle.vc_net_places.specs.Cells.{all_places, bounds_of, own_bound, places_of_var, total}
use Rattle.vc_net_places.proofs.PlaceLaws.Cells.{cells_suffice}
use Rattle.vc_net_places.proofs.PlaceLaws.Things.{length_range, replicate_next}
use Rattle.vc_net_bounds.specs.declared.bounds.Bounds.{Bounds}
use Rattle.vc_net_bounds.specs.declared.bounds.Counted.TheVariants.{Within, TooMany}
use Rattle.vc_net_bounds.specs.Capping.{capped}
use Rattle.vc_net_bounds.specs.Counting.{IsCounted, clash_cells, sources_before, sources_of_var}
use Rattle.vc_net_bounds.specs.Raising.{capped_bound, raised_by_rules}
use Rattle.vc_net_bounds.proofs.CappingLemmas.{capped_greatest, capped_max, capped_total, exact_list, exactly}
use Rattle.vc_net_bounds.proofs.CappingLemmas.{sum_of_capped}
use Rattle.vc_net_bounds.proofs.RaisingLemmas.{map_same, raised_map}

-- all rules, one after another
abbrev needed : Plan → List Rule → (Place → ℕ) → Place → ℕ
needed plan rules f p = max (f p) (greatest (λ rule. capped_bound plan rule rule.kind p) rules)

rules_raised : (plan : Plan) (rules : List Rule) (f : Place → ℕ)
    → raised_by_rules plan rules (map f (all_places plan)) ≡ map (needed plan rules f) (all_places plan)
rules_raised plan [] f = map_same f (needed plan [] f) (λ p. omega arith) (all_places plan)
rules_raised plan (rule ∷ rules) f =
    ap (raised_by_rules plan rules) (raised_map f (capped_bound plan rule rule.kind) (all_places plan))
    ∙ (rules_raised plan rules next
    ∙ map_same (needed plan rules next) (needed plan (rule ∷ rules) f) (λ p. omega arith) (all_places plan))
  where
    next : Place → ℕ
    next p = max (f p) (capped_bound plan rule rule.kind p)

-- what all rules and sources need at a place
none_greatest : {X : Type 0} (f : X → ℕ) → ((x : X) → f x ≡ 0) → (xs : List X) → greatest f xs ≡ 0
none_greatest f none [] = refl
none_greatest f none (x ∷ xs) =
    let first = none x in let rest = none_greatest f none xs in omega (arith, first, rest)

greatest_same : {X : Type 0} (f g : X → ℕ) → ((x : X) → f x ≡ g x) → (xs : List X) → greatest f xs ≡ greatest g xs
greatest_same f g same [] = refl
greatest_same f g same (x ∷ xs) = ap (λ n. max n (greatest f xs)) (same x)
    ∙ ap (λ n. max (g x) n) (greatest_same f g same xs)

own : (plan : Plan) (p : Place) → needed plan plan.rules source_bound p ≡ capped (own_bound plan p)
own plan (here_at i) = by (i == 0) refl
  where
    h : Rule → ℕ
    h rule = here_bound plan rule rule.kind i

    inner : (b : Bool) → (i == 0) ≡ b → (rule : Rule)
        → capped_bound plan rule rule.kind (here_at i) ≡ capped (cond b 0 (h rule))
    inner b e rule = ap (λ t. capped (cond t 0 (h rule))) e

    by : (b : Bool) → (i == 0) ≡ b
        → max 0 (greatest (λ rule. capped_bound plan rule rule.kind (here_at i)) plan.rules)
        ≡ capped (cond b 0 (place_bound plan (here_at i)))
    by true e =
        let none = none_greatest (λ rule. capped_bound plan rule rule.kind (here_at i)) (inner true e) plan.rules in
        omega (arith, none)
    by false e =
        let same
        = greatest_same (λ rule. capped_bound plan rule rule.kind (here_at i)) (λ rule. capped (h rule))
        (inner false e) plan.rules in
        let all = capped_greatest h plan.rules in
        let most = capped_max 0 (greatest h plan.rules) in
        omega (arith, same, all, most)
own plan (out_at v g) =
    let f = λ (rule : Rule). out_bound plan rule rule.kind v g in
    let all = capped_greatest f plan.rules in
    let most = capped_max 0 (greatest f plan.rules) in
    omega (arith, all, most)
own plan (is_at v) =
    let f = λ (rule : Rule). is_bound plan rule rule.kind v in
    let all = capped_greatest f plan.rules in
    let most = capped_max 1 (greatest f plan.rules) in
    omega (arith, all, most)

map_twice : {X Y Z : Type 0} (f : X → Y) (g : Y → Z) (xs : List X) → map (λ x. g (f x)) xs ≡ map g (map f xs)
map_twice f g [] = refl
map_twice f g (x ∷ xs) = ap (λ zs. g (f x) ∷ zs) (map_twice f g xs)

pub all_needed : (plan : Plan)
    → raised_by_rules plan plan.rules (map source_bound (all_places plan)) ≡ map capped (bounds_of plan)
all_needed plan =
    rules_raised plan plan.rules source_bound
    ∙ (map_same (needed plan plan.rules source_bound) (λ p. capped (own_bound plan p)) (own plan) (all_places plan)
    ∙ map_twice (own_bound plan) capped (all_places plan))

-- a clash, rule by rule
pub clash_next : (plan : Plan) (rule : Rule) (rules : List Rule) (all now next : ℕ)
    → max now (capped (greatest (clash_bound plan) (rule ∷ rules))) ≡ all
    → next ≡ max now (capped (clash_bound plan rule)) → max next (capped (greatest (clash_bound plan) rules)) ≡ all
clash_next plan rule rules all now next e is =
    let most = capped_max (clash_bound plan rule) (greatest (clash_bound plan) rules) in omega (arith, e, is, most)

pub clash_all : (plan : Plan) → max 1 (capped (greatest (clash_bound plan) plan.rules)) ≡ capped (clash_cells plan)
clash_all plan = let most = capped_max 1 (greatest (clash_bound plan) plan.rules) in omega (arith, most)

-- all cells
pub all_cells : (plan : Plan)
    → capped (capped (total (map capped (bounds_of plan))) + capped (clash_cells plan)) ≡ capped (cell_bound plan)
all_cells plan =
    ap (λ n. capped (n + capped (clash_cells plan))) (capped_total (bounds_of plan))
    ∙ (sum_of_capped (total (bounds_of plan)) (clash_cells plan) ∙ ap capped (cells_suffice plan))

told : (plan : Plan) (bounds : List ℕ) (clash sum all : ℕ)
    → bounds ≡ raised_by_rules plan plan.rules (map source_bound (all_places plan)) → clash ≡ capped (clash_cells plan)
    → sum ≡ capped (total bounds) → all ≡ capped (sum + clash) → all ≡ capped (cell_bound plan)
told plan bounds clash sum all is cells s a =
    a ∙ (ap (λ n. capped (n + clash)) (s ∙ ap (λ ns. capped (total ns)) (is ∙ all_needed plan))
    ∙ (ap (λ n. capped (capped (total (map capped (bounds_of plan))) + n)) cells ∙ all_cells plan))

pub too_many : (plan : Plan) (bounds : List ℕ) (clash sum all : ℕ)
    → bounds ≡ raised_by_rules plan plan.rules (map source_bound (all_places plan)) → clash ≡ capped (clash_cells plan)
    → sum ≡ capped (total bounds) → all ≡ capped (sum + clash) → 500_000 < all → IsCounted plan TooMany
too_many plan bounds clash sum all is cells s a more =
    let e = told plan bounds clash sum all is cells s a in omega (arith, e, more)

pub within : (plan : Plan) (found : Bounds) (sum all : ℕ)
    → found.places ≡ raised_by_rules plan plan.rules (map source_bound (all_places plan))
    → found.clash ≡ capped (clash_cells plan)
    → sum ≡ capped (total found.places) → all ≡ capped (sum + found.clash) → all ≤ 500_000
    → IsCounted plan (Within found)
within plan found sum all is cells s a few =
    let e = told plan found.places found.clash sum all is cells s a in
    let most : cell_bound plan ≤ 500_000 = omega (arith, e, few) in
    let whole = cells_suffice plan in (
      is ∙ (all_needed plan ∙ exact_list (bounds_of plan) (omega (arith, most, whole))),
      cells ∙ exactly (clash_cells plan) (omega (arith, most, whole)),
      most,
    )

-- what sources need, place by place
none_else : (v : ℕ) (gs : List ℕ) → map source_bound (map (out_at v) gs) ≡ replicate (length gs) 0
none_else v [] = refl
none_else v (g ∷ gs) = ap (λ ns. 0 ∷ ns) (none_else v gs)

none_here : (is : List ℕ) → map source_bound (map here_at is) ≡ replicate (length is) 0
none_here [] = refl
none_here (i ∷ is) = ap (λ ns. 0 ∷ ns) (none_here is)

var_sources : (plan : Plan) (v : ℕ) → map source_bound (places_of_var plan v) ≡ sources_of_var plan v
var_sources plan v =
    ap (λ ns. 1 ∷ ns)
    (none_else v (numbers_below (count_of plan v)) ∙ ap (λ n. replicate n 0) (length_range 0 (count_of plan v)))

flat_sources : (plan : Plan) (vs : List ℕ)
    → map source_bound (flat_map (places_of_var plan) vs) ≡ flat_map (sources_of_var plan) vs
flat_sources plan [] = refl
flat_sources plan (v ∷ vs) =
    map-append source_bound (places_of_var plan v) (flat_map (places_of_var plan) vs)
    ∙ (ap (λ ns. ns ++ map source_bound (flat_map (places_of_var plan) vs)) (var_sources plan v)
    ∙ ap (λ ns. sources_of_var plan v ++ ns) (flat_sources plan vs))

pub sources_are : (plan : Plan) → sources_before plan (length plan.vars) ≡ map source_bound (all_places plan)
sources_are plan =
    let slots = map here_at (numbers_below (length plan.slots)) in
    let vars = flat_map (places_of_var plan) (numbers_below (length plan.vars)) in
    sym (map-append source_bound slots vars
    ∙ (ap (λ ns. ns ++ map source_bound vars)
    (none_here (numbers_below (length plan.slots)) ∙ ap (λ n. replicate n 0) (length_range 0 (length plan.slots)))
    ∙ ap (λ ns. replicate (length plan.slots) 0 ++ ns) (flat_sources plan (numbers_below (length plan.vars)))))

pub sources_next : (plan : Plan) (v : ℕ) → sources_before plan v ++ sources_of_var plan v ≡ sources_before plan (v + 1)
sources_next plan v =
    let slots : List ℕ = replicate (length plan.slots) 0 in
    let before = flat_map (sources_of_var plan) (numbers_below v) in
    let split : flat_map (sources_of_var plan) (numbers_below (v + 1)) ≡ before ++ sources_of_var plan v
    = ap (flat_map (sources_of_var plan)) (range_split 0 v 1 (v + 1) v refl (omega arith))
    ∙ (flat_map-append (sources_of_var plan) (numbers_below v) (v ∷ [])
    ∙ ap (λ xs. before ++ xs) (append-nil (sources_of_var plan v))) in
    append_assoc slots before (sources_of_var plan v) ∙ ap (λ xs. slots ++ xs) (sym split)

pub slots_first : (plan : Plan) → replicate (length plan.slots) 0 ≡ sources_before plan 0
slots_first plan = sym (append-nil (replicate (length plan.slots) 0))

-- what slots need for sources
pub ruleset source_steps = (slots_first, replicate_next)
