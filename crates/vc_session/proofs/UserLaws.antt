-- What a user chooses stays of the plan, edit by edit.
use Rattle.std.proofs.Common.{◌≡◌, ℕ, zero, suc, ◌≤◌, Bool, true, false, ◌||◌, List, [], ◌∷◌, length, map, refl, sym}
use Rattle.std.proofs.Common.{ap, ◌∙◌, subst, inl, inr, arith}
use Rattle.std.specs.Prelude.{Option, None, Some, nat_eq, slice_get, slice_index_or, slice_set, ◌==◌, if◌then◌else◌}
use Rattle.std.specs.List.{filter, list_all, list_any}
use Rattle.std.proofs.lemmas.Bool.{and_from, and_parts, cases_lt, eq-eqb}
use Rattle.std.proofs.lemmas.List.{length-map, length-set, map-set}
use Rattle.vc_base.specs.Sets.{has}
use Rattle.vc_base.proofs.ListLaws.{number_exact, number_itself, range_has}
use Rattle.vc_base.proofs.SetLaws.{all_at, both, has_first}
use Rattle.vc_value.specs.declared.value.Value.{Value}
use Rattle.vc_value.specs.declared.value.Value.TheVariants.{Text, Num}
use Rattle.vc_plan.specs.declared.plans.Named.{Named}
use Rattle.vc_plan.specs.declared.plans.Named.TheVariants.{Set, Var}
use Rattle.vc_plan.specs.declared.plans.Plan.{Plan}
use Rattle.vc_plan.specs.declared.plans.TextSet.{TextSet}
use Rattle.vc_plan.specs.declared.plans.Var.{Var as Variable}
use Rattle.vc_plan.specs.Domains.{domain_of_set, numbers_below, texts_in, texts_of}
use Rattle.vc_plan.specs.Fitting.{may_have_if, may_hold, users_fit}
use Rattle.vc_plan_users.specs.Choosing.{Chosen, held_texts, let_go, listed_at, marked, none_chosen, not_held, set_at}
use Rattle.vc_plan_users.specs.Choosing.{users_of, with_value}
use Rattle.vc_plan_users.specs.declared.users.SetText.{SetText}
use Rattle.vc_plan_reasons.proofs.ReasonLaws.Fitting.{put_in, all_pass}
use Rattle.vc_plan_blame.proofs.BlameLaws.Sources.{past_none}
use Rattle.vc_net.specs.Differing.{SameBeside}
use Rattle.vc_session_evaluation.specs.Following.{DifferAt}
use Rattle.vc_session.specs.Edits.{given, given_alone, may_be_given, taken, taken_value, touched_by}
use Rattle.vc_session.specs.Sessions.{AreUsersOf, IsSessionOf, Opened, is_away, listed, set_fault}
use Rattle.vc_session.specs.declared.session.SetFault.TheVariants as faults

-- lists stay as they are while texts are held or let go
set_same : {A : Type 0} (xs : List A) (k : ℕ) (d : A) → slice_set xs k (slice_index_or xs k d) ≡ xs
set_same [] k d = refl
set_same (x ∷ xs) zero d = refl
set_same (x ∷ xs) (suc k) d = ap (λ rest. x ∷ rest) (set_same xs k d)

index_map : (sets : List (List SetText)) (k : ℕ)
    → listed (slice_index_or sets k []) ≡ slice_index_or (map listed sets) k []
index_map [] k = refl
index_map (x ∷ sets) zero = refl
index_map (x ∷ sets) (suc k) = index_map sets k

listed_same : (f : SetText → SetText) → ((t : SetText) → (f t).text ≡ t.text) → (texts : List SetText)
    → listed (map f texts) ≡ listed texts
listed_same f same [] = refl
listed_same f same (t ∷ texts) = λ j. same t j ∷ listed_same f same texts j

lists_kept : (f : SetText → SetText) → ((t : SetText) → (f t).text ≡ t.text) → (sets : List (List SetText)) (k : ℕ)
    → map listed (slice_set sets k (map f (slice_index_or sets k []))) ≡ map listed sets
lists_kept f same sets k =
    map-set listed sets k (map f (slice_index_or sets k []))
    ∙ ap (slice_set (map listed sets) k) (listed_same f same (slice_index_or sets k []) ∙ index_map sets k)
    ∙ set_same (map listed sets) k []

marked_text : (text : ℕ) (there : Bool) (t : SetText) → (marked text there t).text ≡ t.text
marked_text text there t = by (t.text == text)
  where
    held : SetText
    held = record { text = t.text; held = there }

    by : (b : Bool) → (if b then held else t).text ≡ t.text
    by true = refl
    by false = refl

-- a test of all numbers below a length, which is passed past it too
each_number : (p : ℕ → Bool) (n v : ℕ) → list_all p (numbers_below n) ≡ true → (n ≤ v → p v ≡ true) → p v ≡ true
each_number p n v all past =
    elim (cases_lt v n) [
      | inl below ↦ all_at nat_eq number_exact number_itself p (numbers_below n) v all
          (range_has 0 n v (omega arith) (omega (arith, below)))
      | inr h ↦ past h
    ]

-- each variable's value is one that the user may give
abbrev Values : Plan → List (Option Value) → Type 0
Values plan values = (v : ℕ) → may_have_if plan v (slice_index_or values v None) ≡ true

-- what is held of a set is of its list
more_listed : (a : ℕ) (list xs : List ℕ) → list_all (λ t. list_any (λ l. l == t) list) xs ≡ true
    → list_all (λ t. list_any (λ l. l == t) (a ∷ list)) xs ≡ true
more_listed a list [] h = refl
more_listed a list (x ∷ xs) h =
    let parts = and_parts (list_any (λ l. l == x) list) (list_all (λ t. list_any (λ l. l == t) list) xs) h in
    and_from (list_any (λ l. l == x) (a ∷ list)) (list_all (λ t. list_any (λ l. l == t) (a ∷ list)) xs)
    (or_true (a == x) (list_any (λ l. l == x) list) parts.0) (more_listed a list xs parts.1)
  where
    or_true : (b c : Bool) → c ≡ true → (b || c) ≡ true
    or_true true c e = refl
    or_true false c e = e

held_listed : (texts : List SetText) → list_all (λ t. list_any (λ l. l == t) (listed texts)) (held_texts texts) ≡ true
held_listed [] = refl
held_listed (t ∷ texts) = by t.held (more_listed t.text (listed texts) (held_texts texts) (held_listed texts))
  where
    by : (b : Bool) → list_all (λ x. list_any (λ l. l == x) (t.text ∷ listed texts)) (held_texts texts) ≡ true
        → list_all (λ x. list_any (λ l. l == x) (t.text ∷ listed texts))
        (map (λ s. s.text) (if b then t ∷ filter (λ s. s.held) texts else filter (λ s. s.held) texts)) ≡ true
    by true more =
        and_from (list_any (λ l. l == t.text) (t.text ∷ listed texts))
        (list_all (λ x. list_any (λ l. l == x) (t.text ∷ listed texts)) (held_texts texts))
        (ap (λ b. b || list_any (λ l. l == t.text) (listed texts)) (eq-eqb t.text t.text refl)) more
    by false more = more

unheld : (texts : List ℕ) → listed (map not_held texts) ≡ texts
unheld [] = refl
unheld (t ∷ texts) = ap (λ rest. t ∷ rest) (unheld texts)

list_at : (plan : Plan) (xs : List TextSet) (u : ℕ)
    → slice_index_or (map listed (map (listed_at plan) xs)) u [] ≡ texts_in (domain_of_set plan (slice_get xs u))
list_at plan [] u = refl
list_at plan (x ∷ xs) zero = unheld (texts_in (domain_of_set plan (Some x)))
list_at plan (x ∷ xs) (suc u) = list_at plan xs u

held_at : (sets : List (List SetText)) (u : ℕ)
    → slice_index_or (map held_texts sets) u [] ≡ held_texts (slice_index_or sets u [])
held_at [] u = refl
held_at (x ∷ sets) zero = refl
held_at (x ∷ sets) (suc u) = held_at sets u

sets_fit : (plan : Plan) (sets : List (List SetText)) → map listed sets ≡ map listed (none_chosen plan).sets → (u : ℕ)
    → may_hold plan u (slice_index_or (map held_texts sets) u []) ≡ true
sets_fit plan sets same u =
    let list : listed (slice_index_or sets u []) ≡ texts_of plan u =
    index_map sets u ∙ ap (λ all. slice_index_or all u []) same ∙ list_at plan plan.sets u in
    ap (may_hold plan u) (held_at sets u)
    ∙ ap (λ texts. list_all (λ t. list_any (λ l. l == t) texts) (held_texts (slice_index_or sets u []))) (sym list)
    ∙ held_listed (slice_index_or sets u [])

fit_from : (plan : Plan) (chosen : Chosen) → Values plan chosen.values
    → map listed chosen.sets ≡ map listed (none_chosen plan).sets
    → users_fit plan (users_of chosen) ≡ true
fit_from plan chosen values sets =
    let held = map held_texts chosen.sets in
    and_from (list_all (λ v. may_have_if plan v (slice_index_or chosen.values v None))
    (numbers_below (length chosen.values)))
    (list_all (λ set. may_hold plan set (slice_index_or held set [])) (numbers_below (length held)))
    (all_pass (λ v. may_have_if plan v (slice_index_or chosen.values v None)) (numbers_below (length chosen.values))
    values)
    (all_pass (λ set. may_hold plan set (slice_index_or held set [])) (numbers_below (length held))
    (sets_fit plan chosen.sets sets))

values_of : (plan : Plan) (chosen : Chosen) → AreUsersOf plan chosen → Values plan chosen.values
values_of plan chosen of v =
    let held = map held_texts chosen.sets in
    let p : ℕ → Bool = λ u. may_have_if plan u (slice_index_or chosen.values u None) in
    let parts = and_parts (list_all p (numbers_below (length chosen.values)))
    (list_all (λ set. may_hold plan set (slice_index_or held set [])) (numbers_below (length held))) of.fit in
    each_number p (length chosen.values) v parts.0 (λ past. ap (may_have_if plan v) (past_none chosen.values v past))

with_value_of : (plan : Plan) (chosen : Chosen) (v : ℕ) (a : Option Value) → AreUsersOf plan chosen
    → may_have_if plan v a ≡ true
    → AreUsersOf plan (with_value chosen v a)
with_value_of plan chosen v a of may = record {
  values = length-set chosen.values v a ∙ of.values;
  sets = of.sets;
  fit = fit_from plan (with_value chosen v a)
      (put_in (λ u x. may_have_if plan u x ≡ true) chosen.values v a (values_of plan chosen of) may) of.sets;
}

with_texts_of : (plan : Plan) (chosen : Chosen) (k : ℕ) (f : SetText → SetText) → ((t : SetText) → (f t).text ≡ t.text)
    → AreUsersOf plan chosen
    → AreUsersOf plan (record { values = chosen.values; sets = slice_set chosen.sets k (map f (set_at chosen k)) })
with_texts_of plan chosen k f same of =
    let sets = lists_kept f same chosen.sets k ∙ of.sets in
    record {
      values = of.values;
      sets = sets;
      fit = fit_from plan (record { values = chosen.values; sets = slice_set chosen.sets k (map f (set_at chosen k)) })
          (values_of plan chosen of) sets;
    }

-- so what a user chose stays of the plan
pub given_of : (plan : Plan) (chosen : Chosen) (named : Named) (a : Value) → AreUsersOf plan chosen
    → may_be_given plan named a ≡ true
    → AreUsersOf plan (given chosen named a)
given_of plan chosen (Var v) a of may = with_value_of plan chosen v (Some a) of may
given_of plan chosen (Set set) (Text t) of may = with_texts_of plan chosen set (marked t true) (marked_text t true) of
given_of plan chosen (Set set) (Num a) of may = of

pub taken_of : (plan : Plan) (chosen : Chosen) (named : Named) → AreUsersOf plan chosen
    → AreUsersOf plan (taken chosen named)
taken_of plan chosen (Var v) of = with_value_of plan chosen v None of refl
taken_of plan chosen (Set set) of = with_texts_of plan chosen set let_go (λ t. refl) of

pub given_alone_of : (plan : Plan) (chosen : Chosen) (named : Named) (a : Value) → AreUsersOf plan chosen
    → may_be_given plan named a ≡ true
    → AreUsersOf plan (given_alone chosen named a)
given_alone_of plan chosen named a of may =
    given_of plan (taken chosen named) named a (taken_of plan chosen named of) may

pub taken_value_of : (plan : Plan) (chosen : Chosen) (named : Named) (a : Value) → AreUsersOf plan chosen
    → AreUsersOf plan (taken_value chosen named a)
taken_value_of plan chosen (Var v) a of = with_value_of plan chosen v None of refl
taken_value_of plan chosen (Set set) (Text t) of =
    with_texts_of plan chosen set (marked t false) (marked_text t false) of
taken_value_of plan chosen (Set set) (Num a) of = of

-- an edit changes no value but of what is named
elsewhere : {X : Type 0} (xs : List (Option X)) (v : ℕ) (x : Option X) (w : ℕ) → (v ≡ w → ⊥)
    → slice_index_or xs w None ≡ slice_index_or (slice_set xs v x) w None
elsewhere [] v x w other = refl
elsewhere (y ∷ xs) zero x zero other = absurd (other refl)
elsewhere (y ∷ xs) zero x (suc w) other = refl
elsewhere (y ∷ xs) (suc v) x zero other = refl
elsewhere (y ∷ xs) (suc v) x (suc w) other = elsewhere xs v x w (λ e. other (ap suc e))

value_touches : {X : Type 0} (xs : List (Option X)) (v : ℕ) (x : Option X)
    → SameBeside (v ∷ []) xs (slice_set xs v x)
value_touches xs v x w none =
    elsewhere xs v x w
    (λ e. both (subst (λ u. has nat_eq (v ∷ []) u ≡ true) e (has_first nat_eq number_exact number_itself v [])) none)

pub given_touches : (chosen : Chosen) (named : Named) (a : Value)
    → SameBeside (touched_by named) chosen.values (given chosen named a).values
given_touches chosen (Var v) a = value_touches chosen.values v (Some a)
given_touches chosen (Set set) (Text t) = λ w none. refl
given_touches chosen (Set set) (Num a) = λ w none. refl

pub taken_touches : (chosen : Chosen) (named : Named)
    → SameBeside (touched_by named) chosen.values (taken chosen named).values
taken_touches chosen (Var v) = value_touches chosen.values v None
taken_touches chosen (Set set) = λ w none. refl

pub given_alone_touches : (chosen : Chosen) (named : Named) (a : Value)
    → SameBeside (touched_by named) chosen.values (given_alone chosen named a).values
given_alone_touches chosen named a w none =
    taken_touches chosen named w none ∙ given_touches (taken chosen named) named a w none

pub taken_value_touches : (chosen : Chosen) (named : Named) (a : Value)
    → SameBeside (touched_by named) chosen.values (taken_value chosen named a).values
taken_value_touches chosen (Var v) a = value_touches chosen.values v None
taken_value_touches chosen (Set set) (Text t) = λ w none. refl
taken_value_touches chosen (Set set) (Num a) = λ w none. refl

-- so an edit of a session differs from what was evaluated there alone
pub edit_differs : (plan : Plan) (session : Opened) (vars : List ℕ) (now after : Chosen) → IsSessionOf plan session
    → now ≡ after → SameBeside vars session.users.values after.values → DifferAt vars session.stages now.values
edit_differs plan session vars now after of is same = record {
  before = session.users.values;
  taken = of.taken;
  same = subst (λ (chosen : Chosen). SameBeside vars session.users.values chosen.values) (sym is) same;
}

abbrev no_values : List Variable → List (Option Value)
no_values vars = map (λ x. None) vars

nothing_at : (vars : List Variable) (v : ℕ) → slice_index_or (no_values vars) v None ≡ None
nothing_at [] v = refl
nothing_at (x ∷ vars) zero = refl
nothing_at (x ∷ vars) (suc v) = nothing_at vars v

pub none_of : (plan : Plan) → AreUsersOf plan (none_chosen plan)
none_of plan = record {
  values = length-map plan.vars (λ x. None);
  sets = refl;
  fit = fit_from plan (none_chosen plan) (λ v. ap (may_have_if plan v) (nothing_at plan.vars v)) refl;
}

-- a value that isn't refused may be given
pub may_give : (plan : Plan) (session : Opened) (named : Named) (a : Value) → set_fault plan session named a ≡ None
    → may_be_given plan named a ≡ true
may_give plan session named a e = by (may_be_given plan named a) e
  where
    by : (b : Bool) → (if b
        then (if is_away plan session named then Some faults.NotHere else None) else Some faults.NotInList) ≡ None
        → b ≡ true
    by true e = refl
    by false e = absurd (cc e)
