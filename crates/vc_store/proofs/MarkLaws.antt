-- Marking places one after another finds what stands twice.
use Rattle.std.proofs.Common.{◌≡◌, ℕ, zero, suc, ◌<◌, ◌≤◌, Bool, true, false, cond, not, ◌&&◌, ◌||◌, List, [], ◌∷◌}
use Rattle.std.proofs.Common.{length, map, refl, sym, ap, ap₂, ◌∙◌, arith, inl, inr}
use Rattle.std.proofs.lemmas.Bool.{cases_lt, eq-eqb, eqb-true}
use Rattle.std.specs.Prelude.{◌==◌, Option, None, Some, is_some, slice_index_or, slice_set, slice_get, option_to_list}
use Rattle.std.specs.Prelude.{⊤}
use Rattle.std.specs.List.{filter, flat_map, list_any}
use Rattle.std.proofs.lemmas.List.{length-set}
use Rattle.vc_value.specs.declared.value.Value.{Value}
use Rattle.vc_value.specs.declared.value.Value.TheVariants.{Text}
use Rattle.vc_plan.specs.declared.plans.Plan.{Plan}
use Rattle.vc_plan.specs.declared.plans.TextSet.{TextSet}
use Rattle.vc_plan.specs.Domains.{domain_of_set, texts_in, texts_of}
use Rattle.vc_plan.specs.Evaluate.{holds}
use Rattle.vc_plan.specs.Orders.{are_apart}
use Rattle.vc_plan_users.specs.Choosing.{Chosen, held_texts, listed_at, marked as text_marked, none_chosen}
use Rattle.vc_plan_users.specs.Choosing.{not_held, set_at, users_of, with_text}
use Rattle.vc_plan_users.specs.declared.users.SetText.{SetText}
use Rattle.vc_store.specs.Marking.{AreFor, IsThere, marked, stands, twice_among}
use Rattle.vc_store.specs.Meaning.{Place, at_text, at_var, same_place}

abbrev no_value : Option Value
no_value = None

-- an element is set, and no other
index_same : {X : Type 0} (xs : List X) (k : ℕ) (x d : X) → k < length xs → slice_index_or (slice_set xs k x) k d ≡ x
index_same [] k x d h = absurd (omega (arith, h))
index_same (y ∷ xs) zero x d h = refl
index_same (y ∷ xs) (suc k) x d h = index_same xs k x d (omega (arith, h))

index_other : {X : Type 0} (xs : List X) (k j : ℕ) (x d : X) → (k ≡ j → ⊥)
    → slice_index_or (slice_set xs k x) j d ≡ slice_index_or xs j d
index_other [] k j x d h = refl
index_other (y ∷ xs) zero zero x d h = absurd (h refl)
index_other (y ∷ xs) zero (suc j) x d h = refl
index_other (y ∷ xs) (suc k) zero x d h = refl
index_other (y ∷ xs) (suc k) (suc j) x d h = index_other xs k j x d (λ e. h (ap suc e))

unlike : (k j : ℕ) → (k == j) ≡ false → k ≡ j → ⊥
unlike k j e same = let wrong : true ≡ false = sym (eq-eqb k j same) ∙ e in absurd (cc)

-- the texts that a set of what is chosen holds
held_at : (sets : List (List SetText)) (s : ℕ)
    → slice_index_or (map held_texts sets) s [] ≡ held_texts (slice_index_or sets s [])
held_at [] s = refl
held_at (texts ∷ sets) zero = refl
held_at (texts ∷ sets) (suc s) = held_at sets s

holds_is : (chosen : Chosen) (s t : ℕ)
    → holds (users_of chosen) s t ≡ list_any (λ u. u == t) (held_texts (set_at chosen s))
holds_is chosen s t = ap (list_any (λ u. u == t)) (held_at chosen.sets s)

and_true : (b : Bool) → (b && true) ≡ b
and_true true = refl
and_true false = refl

-- marking a text of a list lets it be held beside those that are
swap_or : (x y z : Bool) → (x || (y || z)) ≡ (y || (x || z))
swap_or true true z = refl
swap_or true false z = refl
swap_or false true z = refl
swap_or false false z = refl

here_or : (e a q h : Bool) → (e || ((e && a) || h)) ≡ ((e && true) || ((q && e) || h))
here_or true a q h = refl
here_or false a true h = refl
here_or false a false h = refl

held_next : (u : ℕ) (y : SetText) (ys : List SetText)
    → list_any (λ x. x == u) (held_texts (y ∷ ys))
    ≡ ((y.held && (y.text == u)) || list_any (λ x. x == u) (held_texts ys))
held_next u y ys = by y.held
  where
    by : (b : Bool) → list_any (λ x. x == u)
        (map (λ x. x.text) (cond b (y ∷ filter (λ x. x.held) ys) (filter (λ x. x.held) ys)))
        ≡ ((b && (y.text == u)) || list_any (λ x. x == u) (held_texts ys))
    by true = refl
    by false = refl

held_marked : (t u : ℕ) (xs : List SetText)
    → list_any (λ x. x == u) (held_texts (map (text_marked t true) xs))
    ≡ (((t == u) && list_any (λ x. x == t) (map (λ x. x.text) xs)) || list_any (λ x. x == u) (held_texts xs))
held_marked t u [] = nothing (t == u)
  where
    nothing : (b : Bool) → false ≡ ((b && false) || false)
    nothing true = refl
    nothing false = refl
held_marked t u (y ∷ ys) = by (y.text == t) refl (held_marked t u ys)
  where
    a : Bool
    a = list_any (λ x. x == t) (map (λ x. x.text) ys)

    h : Bool
    h = list_any (λ x. x == u) (held_texts ys)

    by : (b : Bool) → (y.text == t) ≡ b
        → list_any (λ x. x == u) (held_texts (map (text_marked t true) ys)) ≡ (((t == u) && a) || h)
        → list_any (λ x. x == u)
        (held_texts (cond b (record { text = y.text; held = true }) y ∷ map (text_marked t true) ys))
        ≡ (((t == u) && (b || a)) || list_any (λ x. x == u) (held_texts (y ∷ ys)))
    by true e rest =
        let same : y.text ≡ t = eqb-true y.text t e in
        held_next u (record { text = y.text; held = true }) (map (text_marked t true) ys)
        ∙ ap₂ (λ (p r : Bool). p || r) (ap (λ n. n == u) same) rest
        ∙ here_or (t == u) a y.held h
        ∙ ap (λ n. ((t == u) && true) || ((y.held && (n == u)) || h)) (sym same)
        ∙ ap (λ r. ((t == u) && true) || r) (sym (held_next u y ys))
    by false e rest =
        held_next u y (map (text_marked t true) ys)
        ∙ ap (λ r. (y.held && (y.text == u)) || r) rest
        ∙ swap_or (y.held && (y.text == u)) ((t == u) && a) h
        ∙ ap (λ r. ((t == u) && a) || r) (sym (held_next u y ys))

-- the lists stay
texts_kept : (t : ℕ) (b : Bool) (xs : List SetText) → map (λ x. x.text) (map (text_marked t b) xs)
    ≡ map (λ x. x.text) xs
texts_kept t b [] = refl
texts_kept t b (x ∷ xs) = ap₂ (λ (n : ℕ) (ns : List ℕ). n ∷ ns) (by (x.text == t)) (texts_kept t b xs)
  where
    by : (c : Bool) → (cond c (record { text = x.text; held = b }) x).text ≡ x.text
    by true = refl
    by false = refl

list_kept : (t : ℕ) (b : Bool) (sets : List (List SetText)) (k r : ℕ)
    → map (λ x. x.text) (slice_index_or (slice_set sets k (map (text_marked t b) (slice_index_or sets k []))) r [])
    ≡ map (λ x. x.text) (slice_index_or sets r [])
list_kept t b [] k r = refl
list_kept t b (xs ∷ sets) zero zero = texts_kept t b xs
list_kept t b (xs ∷ sets) zero (suc r) = refl
list_kept t b (xs ∷ sets) (suc k) zero = refl
list_kept t b (xs ∷ sets) (suc k) (suc r) = list_kept t b sets k r

pub marked_for : (plan : Plan) (chosen : Chosen) (p : Place) → AreFor plan chosen → AreFor plan (marked chosen p)
marked_for plan chosen (at_var v) of = record {
  values = length-set chosen.values v (Some (Text 0)) ∙ of.values;
  sets = of.sets;
}
marked_for plan chosen (at_text s t) of = record {
  values = of.values;
  sets = λ r. list_kept t true chosen.sets s r ∙ of.sets r;
}

-- what stands after a place is marked: something there, and all that stood before
index_past : {X : Type 0} (xs : List X) (k : ℕ) (d : X) → length xs ≤ k → slice_index_or xs k d ≡ d
index_past [] k d h = refl
index_past (x ∷ xs) zero d h = absurd (omega (arith, h))
index_past (x ∷ xs) (suc k) d h = index_past xs k d (omega (arith, h))

set_there : (plan : Plan) (chosen : Chosen) (s t : ℕ) → AreFor plan chosen → IsThere plan (at_text s t)
    → s < length chosen.sets
set_there plan chosen s t of there = elim (cases_lt s (length chosen.sets)) [
  | inl below ↦ below
  | inr past ↦ absurd (let none : texts_of plan s ≡ [] =
      sym (of.sets s) ∙ ap (map (λ x. x.text)) (index_past chosen.sets s [] past) in
      let wrong : false ≡ true = sym (ap (list_any (λ x. x == t)) none) ∙ there in cc)
]

stands_marked : (plan : Plan) (chosen : Chosen) (p q : Place) → AreFor plan chosen → IsThere plan p
    → stands (marked chosen p) q ≡ (same_place p q || stands chosen q)
stands_marked plan chosen (at_var v) (at_var w) of there = by (v == w) refl
  where
    by : (b : Bool) → (v == w) ≡ b
        → is_some (slice_index_or (slice_set chosen.values v (Some (Text 0))) w None)
        ≡ (b || is_some (slice_index_or chosen.values w None))
    by true e =
        let same : v ≡ w = eqb-true v w e in
        let low : v < length chosen.values = omega (arith, there, of.values) in
        ap is_some (ap (λ n. slice_index_or (slice_set chosen.values v (Some (Text 0))) n None) (sym same)
        ∙ index_same chosen.values v (Some (Text 0)) None low)
    by false e = ap is_some (index_other chosen.values v w (Some (Text 0)) None (unlike v w e))
stands_marked plan chosen (at_var v) (at_text s t) of there = refl
stands_marked plan chosen (at_text s t) (at_var v) of there = refl
stands_marked plan chosen (at_text s t) (at_text r u) of there = by (s == r) refl
  where
    next : Chosen
    next = with_text chosen s t true

    by : (b : Bool) → (s == r) ≡ b
        → holds (users_of next) r u ≡ ((b && (t == u)) || holds (users_of chosen) r u)
    by true e =
        let same : s ≡ r = eqb-true s r e in
        let low = set_there plan chosen s t of there in
        let listed : list_any (λ x. x == t) (map (λ x. x.text) (set_at chosen s)) ≡ true =
        ap (list_any (λ x. x == t)) (of.sets s) ∙ there in
        let all : ((t == u) && true) ≡ (t == u) = and_true (t == u) in
        ap (λ n. holds (users_of next) n u) (sym same)
        ∙ holds_is next s u
        ∙ ap (λ xs. list_any (λ x. x == u) (held_texts xs))
        (index_same chosen.sets s (map (text_marked t true) (set_at chosen s)) [] low)
        ∙ held_marked t u (set_at chosen s)
        ∙ ap (λ b. ((t == u) && b) || list_any (λ x. x == u) (held_texts (set_at chosen s))) listed
        ∙ ap (λ b. b || list_any (λ x. x == u) (held_texts (set_at chosen s))) all
        ∙ ap (λ b. (t == u) || b) (sym (holds_is chosen s u))
        ∙ ap (λ n. (t == u) || holds (users_of chosen) n u) same
    by false e =
        holds_is next r u
        ∙ ap (λ xs. list_any (λ x. x == u) (held_texts xs))
        (index_other chosen.sets s r (map (text_marked t true) (set_at chosen s)) [] (unlike s r e))
        ∙ sym (holds_is chosen r u)

-- all places are there
abbrev pub AllThere : Plan → List (Option Place) → Type 0
AllThere plan [] = ⊤
AllThere plan (None ∷ places) = AllThere plan places
AllThere plan (Some p ∷ places) = IsThere plan p × AllThere plan places

abbrev pub standing : List (Option Place) → List Place
standing places = flat_map option_to_list places

any_marked : (plan : Plan) (chosen : Chosen) (p : Place) → AreFor plan chosen → IsThere plan p → (qs : List Place)
    → list_any (stands (marked chosen p)) qs ≡ (list_any (same_place p) qs || list_any (stands chosen) qs)
any_marked plan chosen p of there [] = refl
any_marked plan chosen p of there (q ∷ qs) =
    ap₂ (λ (a b : Bool). a || b) (stands_marked plan chosen p q of there) (any_marked plan chosen p of there qs)
    ∙ regroup (same_place p q) (stands chosen q) (list_any (same_place p) qs) (list_any (stands chosen) qs)
  where
    regroup : (a b c d : Bool) → ((a || b) || (c || d)) ≡ ((a || c) || (b || d))
    regroup true b c d = refl
    regroup false true true d = refl
    regroup false true false d = refl
    regroup false false c d = refl

-- the first is marked, or the rest stands twice, or something of the rest stands there
first_or_rest : (a b c d : Bool) → (a || ((b || c) || not d)) ≡ ((a || c) || not (not b && d))
first_or_rest true b c d = refl
first_or_rest false true true d = refl
first_or_rest false true false d = refl
first_or_rest false false true d = refl
first_or_rest false false false d = refl

twice_is : (plan : Plan) (chosen : Chosen) (places : List (Option Place)) → AreFor plan chosen → AllThere plan places
    → twice_among chosen places
    ≡ (list_any (stands chosen) (standing places) || not (are_apart same_place (standing places)))
twice_is plan chosen [] of there = refl
twice_is plan chosen (None ∷ places) of there = twice_is plan chosen places of there
twice_is plan chosen (Some p ∷ places) of there =
    let rest = standing places in
    ap (λ b. stands chosen p || b) (twice_is plan (marked chosen p) places (marked_for plan chosen p of) there.1
    ∙ ap (λ b. b || not (are_apart same_place rest)) (any_marked plan chosen p of there.0 rest))
    ∙ first_or_rest (stands chosen p) (list_any (same_place p) rest) (list_any (stands chosen) rest)
    (are_apart same_place rest)

-- nothing stands where nothing is chosen
none_index : {X : Type 0} (xs : List X) (v : ℕ) → slice_index_or (map (λ x. no_value) xs) v no_value ≡ no_value
none_index [] v = refl
none_index (x ∷ xs) zero = refl
none_index (x ∷ xs) (suc v) = none_index xs v

none_held : (t : ℕ) (texts : List ℕ) → list_any (λ u. u == t) (held_texts (map not_held texts)) ≡ false
none_held t [] = refl
none_held t (u ∷ texts) = none_held t texts

listed_held : (plan : Plan) (sets : List TextSet) (s t : ℕ)
    → list_any (λ u. u == t) (held_texts (slice_index_or (map (listed_at plan) sets) s [])) ≡ false
listed_held plan [] s t = refl
listed_held plan (x ∷ sets) zero t = none_held t (texts_in (domain_of_set plan (Some x)))
listed_held plan (x ∷ sets) (suc s) t = listed_held plan sets s t

none_stands : (plan : Plan) (p : Place) → stands (none_chosen plan) p ≡ false
none_stands plan (at_var v) = ap is_some (none_index plan.vars v)
none_stands plan (at_text s t) = holds_is (none_chosen plan) s t ∙ listed_held plan plan.sets s t

none_any : (plan : Plan) (places : List Place) → list_any (stands (none_chosen plan)) places ≡ false
none_any plan [] = refl
none_any plan (p ∷ places) = ap₂ (λ (a b : Bool). a || b) (none_stands plan p) (none_any plan places)

not_held_texts : (texts : List ℕ) → map (λ t. t.text) (map not_held texts) ≡ texts
not_held_texts [] = refl
not_held_texts (t ∷ texts) = ap (λ ts. t ∷ ts) (not_held_texts texts)

listed_texts : (plan : Plan) (sets : List TextSet) (s : ℕ)
    → map (λ t. t.text) (slice_index_or (map (listed_at plan) sets) s [])
    ≡ texts_in (domain_of_set plan (slice_get sets s))
listed_texts plan [] s = refl
listed_texts plan (x ∷ sets) zero = not_held_texts (texts_in (domain_of_set plan (Some x)))
listed_texts plan (x ∷ sets) (suc s) = listed_texts plan sets s

none_length : {X : Type 0} (xs : List X) → length (map (λ x. no_value) xs) ≡ length xs
none_length [] = refl
none_length (x ∷ xs) = ap suc (none_length xs)

pub none_for : (plan : Plan) → AreFor plan (none_chosen plan)
none_for plan = record {
  values = none_length plan.vars;
  sets = λ s. listed_texts plan plan.sets s;
}

pub twice_from_none : (plan : Plan) (places : List (Option Place)) → AllThere plan places
    → twice_among (none_chosen plan) places ≡ not (are_apart same_place (standing places))
twice_from_none plan places there =
    twice_is plan (none_chosen plan) places (none_for plan) there
    ∙ ap (λ b. b || not (are_apart same_place (standing places))) (none_any plan (standing places))
