-- What stands in a rule is what it reads and writes.
use Rattle.std.proofs.Common.{◌≡◌, ℕ, Bool, true, false, List, [], ◌∷◌, ◌++◌, length, map, refl, sym, ◌∙◌, ap}
use Rattle.std.proofs.Common.{append_assoc}
use Rattle.std.specs.Prelude.{Option, None, Some, nat_eq, ◌==◌, ◌||◌, ◌&&◌, cond, replicate, slice_get}
use Rattle.std.specs.List.{filter, list_any}
use Rattle.std.proofs.lemmas.List.Folds.{list_any-append}
use Rattle.vc_plan.specs.declared.plans.Plan.{Plan}
use Rattle.vc_plan.specs.declared.rules.Kind.{Kind}
use Rattle.vc_plan.specs.declared.rules.Kind.TheVariants.{Among, Compare, Equate, ByTable, Never, Last, Line}
use Rattle.vc_plan.specs.declared.rules.Rule.{Rule}
use Rattle.vc_plan.specs.Domains.{numbers_below}
use Rattle.vc_plan.specs.Reads.{vars_of_condition}
use Rattle.vc_plan.specs.Restrictions.{is_inferred}
use Rattle.vc_plan_reasons.specs.Things.{has_thing, inferred_of, kind_writes, parents_of, reads_in, same_thing, slot_at}
use Rattle.vc_plan_reasons.specs.Things.{slots_of_kind, slots_of_var, var_at, vars_of_kind, writes_in}
use Rattle.vc_net_readers.specs.Filing.{filed_below}
use Rattle.vc_net_readers.specs.Readers.{is_reader, readers_at, slot_lists}
use Rattle.std.proofs.lemmas.Map.Views.{any-filter_same}
use Rattle.vc_base.proofs.ListLaws.{number_exact}
use Rattle.vc_net_readers.specs.Touched.{slots_by, slots_in_rule, slots_told, vars_in_rule}
use Rattle.vc_net_readers.proofs.FilingLemmas.{filed_all, has_filter, has_place}

pub or_false : (a : Bool) → (a || false) ≡ a
or_false true = refl
or_false false = refl

-- whether a number is one of two lists', and whether it is one alone
pub any_both : (v : ℕ) (xs ys : List ℕ)
    → list_any (nat_eq v) (xs ++ ys) ≡ (list_any (nat_eq v) xs || list_any (nat_eq v) ys)
any_both v xs ys = list_any-append (nat_eq v) xs ys

pub any_one : (v w : ℕ) → list_any (nat_eq v) (w ∷ []) ≡ (v == w)
any_one v w = or_false (v == w)

pub ruleset any_of_parts = (any_both, any_one)

-- the same, the second asked first
pub any_turned : (v : ℕ) (xs ys : List ℕ)
    → list_any (nat_eq v) (xs ++ ys) ≡ (list_any (nat_eq v) ys || list_any (nat_eq v) xs)
any_turned v xs ys = any_both v xs ys ∙ or_comm (list_any (nat_eq v) xs) (list_any (nat_eq v) ys)
  where
    or_comm : (a b : Bool) → (a || b) ≡ (b || a)
    or_comm true true = refl
    or_comm true false = refl
    or_comm false true = refl
    or_comm false false = refl

-- what is there already adds nothing
absorbed : (a b : Bool) → (b ≡ true → a ≡ true) → a ≡ (a || b)
absorbed true b follows = refl
absorbed false true follows = follows refl
absorbed false false follows = refl

any_map : {X Y : Type 0} (p : Y → Bool) (f : X → Y) (xs : List X) → list_any p (map f xs) ≡ list_any (λ x. p (f x)) xs
any_map p f [] = refl
any_map p f (x ∷ xs) = ap (λ b. p (f x) || b) (any_map p f xs)

none_such : {X : Type 0} (xs : List X) → list_any (λ x. false) xs ≡ false
none_such [] = refl
none_such (x ∷ xs) = none_such xs

slot_in_slots : (i : ℕ) (xs : List ℕ) → has_thing (map slot_at xs) (slot_at i) ≡ list_any (nat_eq i) xs
slot_in_slots i xs = any_map (same_thing (slot_at i)) slot_at xs

slot_in_vars : (i : ℕ) (xs : List ℕ) → has_thing (map var_at xs) (slot_at i) ≡ false
slot_in_vars i xs = any_map (same_thing (slot_at i)) var_at xs ∙ none_such xs

var_in_slots : (v : ℕ) (xs : List ℕ) → has_thing (map slot_at xs) (var_at v) ≡ false
var_in_slots v xs = any_map (same_thing (var_at v)) slot_at xs ∙ none_such xs

var_in_vars : (v : ℕ) (xs : List ℕ) → has_thing (map var_at xs) (var_at v) ≡ list_any (nat_eq v) xs
var_in_vars v xs = any_map (same_thing (var_at v)) var_at xs

-- the slots
slot_of_things : (i : ℕ) (slots vars : List ℕ)
    → has_thing (map slot_at slots ++ map var_at vars) (slot_at i) ≡ list_any (nat_eq i) slots
slot_of_things i slots vars =
    list_any-append (same_thing (slot_at i)) (map slot_at slots) (map var_at vars)
    ∙ (ap (λ b. has_thing (map slot_at slots) (slot_at i) || b) (slot_in_vars i vars)
    ∙ (or_false (has_thing (map slot_at slots) (slot_at i)) ∙ slot_in_slots i slots))

var_of_things : (v : ℕ) (slots vars : List ℕ)
    → has_thing (map slot_at slots ++ map var_at vars) (var_at v) ≡ list_any (nat_eq v) vars
var_of_things v slots vars =
    list_any-append (same_thing (var_at v)) (map slot_at slots) (map var_at vars)
    ∙ (ap (λ b. b || has_thing (map var_at vars) (var_at v)) (var_in_slots v slots) ∙ var_in_vars v vars)

slot_by_kind : (plan : Plan) (rule : Rule) (kind : Kind) (i : ℕ) (slots : List ℕ)
    → list_any (nat_eq i) (slots ++ slots_told plan kind)
    ≡ (list_any (nat_eq i) (slots ++ slots_of_kind plan kind) || has_thing (kind_writes plan rule kind) (slot_at i))
slot_by_kind plan rule kind i slots = by kind
  where
    unwritten : (k : Kind) → list_any (nat_eq i) (slots ++ [])
        ≡ (list_any (nat_eq i) (slots ++ []) || has_thing (inferred_of plan rule k) (slot_at i))
    unwritten k =
        sym (ap (λ b. list_any (nat_eq i) (slots ++ []) || b)
        (slot_in_vars i (filter (is_inferred rule) (vars_of_kind plan k)))
        ∙ or_false (list_any (nat_eq i) (slots ++ [])))

    by : (k : Kind) → list_any (nat_eq i) (slots ++ slots_told plan k)
        ≡ (list_any (nat_eq i) (slots ++ slots_of_kind plan k) || has_thing (kind_writes plan rule k) (slot_at i))
    by (Among v restriction) = unwritten (Among v restriction)
    by (Compare r a b) = unwritten (Compare r a b)
    by (Equate a b) = unwritten (Equate a b)
    by (ByTable table columns) = unwritten (ByTable table columns)
    by Never = sym (or_false (list_any (nat_eq i) (slots ++ [])))
    by (Last v) = sym (or_false (list_any (nat_eq i) (slots ++ slots_of_var plan v)))
    by (Line j) =
        ap (list_any (nat_eq i)) (sym (append_assoc slots (parents_of plan j) (j ∷ [])))
        ∙ list_any-append (nat_eq i) (slots ++ parents_of plan j) (j ∷ [])

pub slot_in_rule : (plan : Plan) (o : Option Rule) (i : ℕ)
    → list_any (nat_eq i) (slots_in_rule plan o)
    ≡ (has_thing (reads_in plan o) (slot_at i) || has_thing (writes_in plan o) (slot_at i))
slot_in_rule plan None i = refl
slot_in_rule plan (Some rule) i =
    let vars = vars_of_condition (slice_get plan.conditions rule.condition) ++ vars_of_kind plan rule.kind in
    slot_by_kind plan rule rule.kind i rule.slots
    ∙ ap (λ b. b || has_thing (kind_writes plan rule rule.kind) (slot_at i))
    (sym (slot_of_things i (rule.slots ++ slots_of_kind plan rule.kind) vars))

-- the variables
var_by_kind : (plan : Plan) (rule : Rule) (kind : Kind) (v : ℕ)
    → has_thing (kind_writes plan rule kind) (var_at v) ≡ true
    → list_any (nat_eq v) (vars_of_kind plan kind) ≡ true
var_by_kind plan rule kind v = by kind
  where
    inferred : (k : Kind) → has_thing (inferred_of plan rule k) (var_at v) ≡ true
        → list_any (nat_eq v) (vars_of_kind plan k) ≡ true
    inferred k e =
        has_filter (is_inferred rule) (nat_eq v) (vars_of_kind plan k)
        (sym (var_in_vars v (filter (is_inferred rule) (vars_of_kind plan k))) ∙ e)

    by : (k : Kind) → has_thing (kind_writes plan rule k) (var_at v) ≡ true
        → list_any (nat_eq v) (vars_of_kind plan k) ≡ true
    by (Among w restriction) e = inferred (Among w restriction) e
    by (Compare r a b) e = inferred (Compare r a b) e
    by (Equate a b) e = inferred (Equate a b) e
    by (ByTable table columns) e = inferred (ByTable table columns) e
    by Never e = absurd (cc)
    by (Last w) e = e
    by (Line j) e = absurd (cc)

pub var_in_rule : (plan : Plan) (o : Option Rule) (v : ℕ)
    → list_any (nat_eq v) (vars_in_rule plan o)
    ≡ (has_thing (reads_in plan o) (var_at v) || has_thing (writes_in plan o) (var_at v))
var_in_rule plan None v = refl
var_in_rule plan (Some rule) v =
    let condition = vars_of_condition (slice_get plan.conditions rule.condition) in
    let said = vars_of_kind plan rule.kind in
    absorbed (list_any (nat_eq v) (condition ++ said)) (has_thing (kind_writes plan rule rule.kind) (var_at v))
    (λ e. list_any-append (nat_eq v) condition said
    ∙ (ap (λ b. list_any (nat_eq v) condition || b) (var_by_kind plan rule rule.kind v e)
    ∙ or_true (list_any (nat_eq v) condition)))
    ∙ ap (λ b. b || has_thing (kind_writes plan rule rule.kind) (var_at v))
    (sym (var_of_things v (rule.slots ++ slots_of_kind plan rule.kind) (condition ++ said)))
  where
    or_true : (a : Bool) → (a || true) ≡ true
    or_true true = refl
    or_true false = refl

-- the lists
pub map_same : {X Y : Type 0} (f g : X → Y) → ((x : X) → f x ≡ g x) → (xs : List X) → map f xs ≡ map g xs
map_same f g same [] = refl
map_same f g same (x ∷ xs) = ap (λ y. y ∷ map f xs) (same x) ∙ ap (λ ys. g x ∷ ys) (map_same f g same xs)

pub filter_same : {X : Type 0} (p q : X → Bool) → ((x : X) → p x ≡ q x) → (xs : List X) → filter p xs ≡ filter q xs
filter_same p q same [] = refl
filter_same p q same (x ∷ xs) =
    ap (λ b. cond b (x ∷ filter p xs) (filter p xs)) (same x)
    ∙ ap (λ ys. cond (q x) (x ∷ ys) ys) (filter_same p q same xs)

pub slots_filed : (plan : Plan)
    → filed_below (slots_by plan) (length plan.rules) (replicate (length plan.slots) []) ≡ slot_lists plan
slots_filed plan =
    filed_all (slots_by plan) (length plan.slots) (length plan.rules)
    ∙ map_same (λ t. filter (has_place (slots_by plan) t) (numbers_below (length plan.rules)))
    (λ i. readers_at plan (slot_at i))
    (λ i. filter_same (has_place (slots_by plan) i) (is_reader plan (slot_at i))
    (λ r. slot_in_rule plan (slice_get plan.rules r) i)
    (numbers_below (length plan.rules)))
    (numbers_below (length plan.slots))

-- what a filter keeps by its number alone
pub any_kept : (p : ℕ → Bool) (v : ℕ) (xs : List ℕ)
    → list_any (nat_eq v) (filter p xs) ≡ (list_any (nat_eq v) xs && p v)
any_kept p v xs =
    any-filter_same (nat_eq v) p (p v) (λ w same. ap p (sym (number_exact v w same))) xs
    ∙ and_comm (p v) (list_any (nat_eq v) xs)
  where
    and_comm : (a b : Bool) → (a && b) ≡ (b && a)
    and_comm true true = refl
    and_comm true false = refl
    and_comm false true = refl
    and_comm false false = refl
