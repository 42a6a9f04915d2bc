-- Terms, conditions and grains left read the same of two sets that agree on what they read.
use Rattle.std.proofs.Common.{◌≡◌, ℕ, true, not, ◌&&◌, List, [], ◌∷◌, ◌++◌, map, refl, sym, ◌∙◌, ap}
use Rattle.std.specs.Prelude.{Option, None, Some, option_map, slice_get}
use Rattle.std.specs.List.{list_all}
use Rattle.vc_base.specs.Sets.{has, Within}
use Rattle.vc_base.proofs.SetLaws.{has_first, has_more}
use Rattle.vc_value.specs.declared.value.Value.{Value}
use Rattle.vc_plan.specs.declared.atoms.Atom.{Atom}
use Rattle.vc_plan.specs.declared.atoms.Atom.TheVariants.{Here, Out, Is}
use Rattle.vc_plan.specs.declared.conditions.Condition.{Condition}
use Rattle.vc_plan.specs.declared.conditions.Condition.TheVariants.{Always, Compared, IsIn, Specified, Holds, Filled}
use Rattle.vc_plan.specs.declared.conditions.Condition.TheVariants.{Not', And', Or'}
use Rattle.vc_plan.specs.declared.conditions.Kleene.TheVariants.{Unknown}
use Rattle.vc_plan.specs.declared.plans.Plan.{Plan}
use Rattle.vc_plan.specs.declared.terms.Term.{Term}
use Rattle.vc_plan.specs.declared.terms.Term.TheVariants.{Literal, Read, PartSum, PartCount, Applied', Joined'}
use Rattle.vc_plan.specs.Clear.{is_clear}
use Rattle.vc_plan.specs.Kleene.{kleene_not, kleene_and, kleene_or}
use Rattle.vc_plan.specs.Numbers.{applied, joined}
use Rattle.vc_plan.specs.Reads.{vars_in, vars_read, vars_of_term, vars_of_condition}
use Rattle.vc_plan.specs.Readings.{net_reading}
use Rattle.vc_plan.specs.Seen.{Seen, same_atom, seen_of, value_in, is_slot_here, is_left_by, is_left}
use Rattle.vc_plan.specs.Truth.{number_of_value, value_of_number, number, term_value, compared, is_in, specified, truth}
use Rattle.vc_plan.specs.Truth.{truth_at, value_at, truth_in, value_in_term}
use Rattle.std.specs.Option.{option_to_list}
use Rattle.vc_plan.proofs.PlanLaws.Extending.{one_value, value_has, value_read}
use Rattle.vc_plan.proofs.PlanLaws.Facts.{Facts, facts}
use Rattle.vc_plan_reasons.specs.Laws.{AreAlike}
use Rattle.vc_plan_reasons.specs.Things.{Thing, slot_at, var_at, same_thing, has_thing}
use Rattle.vc_plan_reasons.proofs.ReasonLaws.Reaching.{thing_exact, thing_itself}

-- two sets say the same of a variable, of variables, and of slots
pub record SameVar (s t : Seen) (v : ℕ) : Type 0 where
  pub value : s.value v ≡ t.value v
  pub out : (g : ℕ) → s.out v g ≡ t.out v g

abbrev pub SameVars : Seen → Seen → List ℕ → Type 0
SameVars s t [] = Unit {0}
SameVars s t (v ∷ vs) = SameVar s t v × SameVars s t vs

-- the same values alone, which is all that terms and conditions look at
abbrev pub SameValues : Seen → Seen → List ℕ → Type 0
SameValues s t [] = Unit {0}
SameValues s t (v ∷ vs) = (s.value v ≡ t.value v) × SameValues s t vs

abbrev pub SameSlots : Seen → Seen → List ℕ → Type 0
SameSlots s t [] = Unit {0}
SameSlots s t (i ∷ is) = (s.here i ≡ t.here i) × SameSlots s t is

pub vars_front : (s t : Seen) (vs ws : List ℕ) → SameVars s t (vs ++ ws) → SameVars s t vs
vars_front s t [] ws h = tt
vars_front s t (v ∷ vs) ws h = (h.0, vars_front s t vs ws h.1)

pub vars_back : (s t : Seen) (vs ws : List ℕ) → SameVars s t (vs ++ ws) → SameVars s t ws
vars_back s t [] ws h = h
vars_back s t (v ∷ vs) ws h = vars_back s t vs ws h.1

pub vars_join : (s t : Seen) (vs ws : List ℕ) → SameVars s t vs → SameVars s t ws → SameVars s t (vs ++ ws)
vars_join s t [] ws h k = k
vars_join s t (v ∷ vs) ws h k = (h.0, vars_join s t vs ws h.1 k)

pub values_of : (s t : Seen) (vs : List ℕ) → SameVars s t vs → SameValues s t vs
values_of s t [] h = tt
values_of s t (v ∷ vs) h = (h.0.value, values_of s t vs h.1)

pub values_front : (s t : Seen) (vs ws : List ℕ) → SameValues s t (vs ++ ws) → SameValues s t vs
values_front s t [] ws h = tt
values_front s t (v ∷ vs) ws h = (h.0, values_front s t vs ws h.1)

pub values_back : (s t : Seen) (vs ws : List ℕ) → SameValues s t (vs ++ ws) → SameValues s t ws
values_back s t [] ws h = h
values_back s t (v ∷ vs) ws h = values_back s t vs ws h.1

pub slots_front : (s t : Seen) (is js : List ℕ) → SameSlots s t (is ++ js) → SameSlots s t is
slots_front s t [] js h = tt
slots_front s t (i ∷ is) js h = (h.0, slots_front s t is js h.1)

pub slots_back : (s t : Seen) (is js : List ℕ) → SameSlots s t (is ++ js) → SameSlots s t js
slots_back s t [] js h = h
slots_back s t (i ∷ is) js h = slots_back s t is js h.1

-- and the same of each of these things
pub record Agree (things : List Thing) (s t : Seen) : Type 0 where
  pub here : (i : ℕ) → has_thing things (slot_at i) ≡ true → s.here i ≡ t.here i
  pub var : (v : ℕ) → has_thing things (var_at v) ≡ true → SameVar s t v

pub agree_vars : (things : List Thing) (s t : Seen) → Agree things s t → (vs : List ℕ)
    → Within same_thing (map var_at vs) things
    → SameVars s t vs
agree_vars things s t a [] w = tt
agree_vars things s t a (v ∷ vs) w = (
  a.var v (w (var_at v) (has_first same_thing thing_exact thing_itself (var_at v) (map var_at vs))),
  agree_vars things s t a vs (λ x h. w x (has_more same_thing thing_exact thing_itself (var_at v) (map var_at vs) x h)),
)

pub agree_slots : (things : List Thing) (s t : Seen) → Agree things s t → (is : List ℕ)
    → Within same_thing (map slot_at is) things → SameSlots s t is
agree_slots things s t a [] w = tt
agree_slots things s t a (i ∷ is) w = (
  a.here i (w (slot_at i) (has_first same_thing thing_exact thing_itself (slot_at i) (map slot_at is))),
  agree_slots things s t a is
      (λ x h. w x (has_more same_thing thing_exact thing_itself (slot_at i) (map slot_at is) x h)),
)

same_value_read : (plan : Plan) (set other : List Atom) → Facts plan other → (v : ℕ)
    → ((a : Value) → has same_atom set (Is v a) ≡ has same_atom other (Is v a)) → (o p : Option Value)
    → value_in set v ≡ o
    → value_in other v ≡ p → o ≡ p
same_value_read plan set other f v h None None d e = refl
same_value_read plan set other f v h None (Some b) d e =
    let r = value_read set v b (h b ∙ value_has other v b e) in
    let no : None ≡ Some r.0 = sym d ∙ r.1 in
    absurd (cc)
same_value_read plan set other f v h (Some a) None d e =
    let r = value_read other v a (sym (h a) ∙ value_has set v a d) in
    let no : None ≡ Some r.0 = sym e ∙ r.1 in
    absurd (cc)
same_value_read plan set other f v h (Some a) (Some b) d e =
    ap Some (one_value plan other f v a b (sym (h a) ∙ value_has set v a d) (value_has other v b e))

-- clear sets with the same atoms of things say the same of them
pub alike_agree : (plan : Plan) (things : List Thing) (set other : List Atom) → is_clear plan other ≡ true
    → AreAlike things set other
    → Agree things (seen_of set) (seen_of other)
alike_agree plan things set other clear alike = record {
  here = λ i h. alike (Here i) h;
  var = λ v h. record {
    value =
        same_value_read plan set other (facts plan other clear) v (λ a. alike (Is v a) h) (value_in set v)
        (value_in other v) refl refl;
    out = λ g. alike (Out v g) h;
  };
}

-- slots
pub slots_all : (s t : Seen) (is : List ℕ) → SameSlots s t is → list_all s.here is ≡ list_all t.here is
slots_all s t [] h = refl
slots_all s t (i ∷ is) h = ap (λ b. b && list_all s.here is) h.0 ∙ ap (λ b. t.here i && b) (slots_all s t is h.1)

pub slot_same : (s t : Seen) (o : Option ℕ) → SameSlots s t (option_to_list o) → is_slot_here s o ≡ is_slot_here t o
slot_same s t None h = refl
slot_same s t (Some i) h = h.0

-- grains left
left_by_same : (plan : Plan) (s t : Seen) (v g : ℕ) (o : Option Value) → s.out v g ≡ t.out v g
    → is_left_by plan s v g o ≡ is_left_by plan t v g o
left_by_same plan s t v g None e = ap not e
left_by_same plan s t v g (Some a) e = refl

left_at : (plan : Plan) (s t : Seen) (v g : ℕ) → SameVar s t v → is_left plan s v g ≡ is_left plan t v g
left_at plan s t v g h = ap (is_left_by plan s v g) h.value ∙ left_by_same plan s t v g (t.value v) (h.out g)

pub left_same : (plan : Plan) (s t : Seen) (v : ℕ) → SameVar s t v → is_left plan s v ≡ is_left plan t v
left_same plan s t v h = λ i g. left_at plan s t v g h i

pub out_same : (s t : Seen) (v : ℕ) → SameVar s t v → s.out v ≡ t.out v
out_same s t v h = λ i g. h.out g i

-- terms
pub number_same : (s t : Seen) (term : Term) → SameValues s t (vars_in term)
    → number (net_reading s) term ≡ number (net_reading t) term
number_same s t (Literal a) h = refl
number_same s t (Read v) h = ap number_of_value h.0
number_same s t (PartSum slot characteristic) h = refl
number_same s t (PartCount slot) h = refl
number_same s t (Applied' function p a) h = ap (option_map (applied function)) (number_same s t a h)
number_same s t (Joined' operator p a q b) h =
    ap (λ x. joined operator x (number (net_reading s) b))
    (number_same s t a (values_front s t (vars_in a) (vars_in b) h))
    ∙ ap (joined operator (number (net_reading t) a)) (number_same s t b (values_back s t (vars_in a) (vars_in b) h))

term_same : (s t : Seen) (term : Term) → SameValues s t (vars_in term)
    → term_value (net_reading s) term ≡ term_value (net_reading t) term
term_same s t (Literal a) h = refl
term_same s t (Read v) h = h.0
term_same s t (PartSum slot characteristic) h = refl
term_same s t (PartCount slot) h = refl
term_same s t (Applied' function p a) h = ap value_of_number (number_same s t (Applied' function p a) h)
term_same s t (Joined' operator p a q b) h = ap value_of_number (number_same s t (Joined' operator p a q b) h)

value_in_same : (s t : Seen) (o : Option Term) → SameValues s t (vars_of_term o)
    → value_in_term (net_reading s) o ≡ value_in_term (net_reading t) o
value_in_same s t None h = refl
value_in_same s t (Some term) h = term_same s t term h

pub value_same : (plan : Plan) (s t : Seen) (term : ℕ) → SameValues s t (vars_of_term (slice_get plan.terms term))
    → value_at plan (net_reading s) term ≡ value_at plan (net_reading t) term
value_same plan s t term h = value_in_same s t (slice_get plan.terms term) h

-- conditions
condition_same : (s t : Seen) (c : Condition) → SameValues s t (vars_read c)
    → truth (net_reading s) c ≡ truth (net_reading t) c
condition_same s t Always h = refl
condition_same s t (Compared r a b) h =
    ap (λ x. compared r x (term_value (net_reading s) b)) (term_same s t a (values_front s t (vars_in a) (vars_in b) h))
    ∙ ap (compared r (term_value (net_reading t) a)) (term_same s t b (values_back s t (vars_in a) (vars_in b) h))
condition_same s t (IsIn v pieces) h = ap (is_in pieces) h.0
condition_same s t (Specified v) h = ap (specified Unknown) h.0
condition_same s t (Holds set text) h = refl
condition_same s t (Filled set) h = refl
condition_same s t (Not' p c) h = ap kleene_not (condition_same s t c h)
condition_same s t (And' p c q d) h =
    ap (λ k. kleene_and k (truth (net_reading s) d))
    (condition_same s t c (values_front s t (vars_read c) (vars_read d) h))
    ∙ ap (kleene_and (truth (net_reading t) c)) (condition_same s t d (values_back s t (vars_read c) (vars_read d) h))
condition_same s t (Or' p c q d) h =
    ap (λ k. kleene_or k (truth (net_reading s) d))
    (condition_same s t c (values_front s t (vars_read c) (vars_read d) h))
    ∙ ap (kleene_or (truth (net_reading t) c)) (condition_same s t d (values_back s t (vars_read c) (vars_read d) h))

truth_in_same : (s t : Seen) (o : Option Condition) → SameValues s t (vars_of_condition o)
    → truth_in (net_reading s) o ≡ truth_in (net_reading t) o
truth_in_same s t None h = refl
truth_in_same s t (Some c) h = condition_same s t c h

pub truth_same : (plan : Plan) (s t : Seen) (condition : ℕ)
    → SameValues s t (vars_of_condition (slice_get plan.conditions condition))
    → truth_at plan (net_reading s) condition ≡ truth_at plan (net_reading t) condition
truth_same plan s t condition h = truth_in_same s t (slice_get plan.conditions condition) h
