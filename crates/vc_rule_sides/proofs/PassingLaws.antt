-- What each premise of what is said passes; that each stands, and is of a variable that a side reads.
use Rattle.std.proofs.Common.{◌≡◌, ℕ, Bool, true, false, cond, ◌&&◌, ◌||◌, List, [], ◌∷◌, ◌++◌, map, refl, sym, ◌∙◌, ap}
use Rattle.std.proofs.Common.{subst}
use Rattle.std.specs.Prelude.{nat_eq, slice_get, min, is_none, Option, None, Some}
use Rattle.std.specs.List.{filter, list_all}
use Rattle.std.proofs.lemmas.Bool.{and_from}
use Rattle.std.proofs.lemmas.List.Folds.{list_all-append}
use Rattle.vc_base.specs.Sets.{has}
use Rattle.vc_base.proofs.ListLaws.{number_exact, number_itself}
use Rattle.vc_base.proofs.SetLaws.{has_front, has_back, has_first, has_more}
use Rattle.vc_value.specs.declared.value.Value.{Value}
use Rattle.vc_plan.specs.declared.atoms.Atom.{Atom}
use Rattle.vc_plan.specs.declared.atoms.Atom.TheVariants.{Out, Is}
use Rattle.vc_plan.specs.declared.conditions.Piece.{Piece}
use Rattle.vc_plan.specs.declared.conditions.Relation.{Relation}
use Rattle.vc_plan.specs.declared.plans.Plan.{Plan}
use Rattle.vc_plan.specs.declared.rules.Rule.{Rule}
use Rattle.vc_plan.specs.declared.terms.Term.{Term}
use Rattle.vc_plan.specs.declared.terms.Term.TheVariants.{Literal, Read, PartSum, PartCount, Applied', Joined'}
use Rattle.vc_plan.specs.Answers.{value_atoms}
use Rattle.vc_plan.specs.Domains.{numbers_below, count_of, is_restrictable, is_grain_with}
use Rattle.vc_plan.specs.Kleene.{is_false}
use Rattle.vc_plan.specs.Pieces.{turned}
use Rattle.vc_plan.specs.Readings.{net_reading}
use Rattle.vc_plan.specs.Reads.{vars_of_term}
use Rattle.vc_plan.specs.Restrictions.{confined, is_inferred, lone_in, if_inferred, lone, lone_inferred, equal_to}
use Rattle.vc_plan.specs.Restrictions.{decimals_in_side, differ}
use Rattle.vc_plan.specs.Seen.{Seen, says}
use Rattle.vc_plan.specs.Truth.{compared, value_at}
use Rattle.vc_plan_reasons.specs.Things.{var_at, has_thing, thing_of, vars_of_sides}
use Rattle.vc_rule_premises.specs.Citing.{values_of}
use Rattle.vc_rule_premises.specs.Saying.{Said, clashing, concluding, together, clash_when, said_from}
use Rattle.vc_rule_premises.specs.Sufficing.{each_premise}
use Rattle.vc_rule_premises.proofs.SufficingLaws.{value_says, each_from}
use Rattle.vc_rule_grains.specs.Confining.{why_left_by, why_left, why_confined}
use Rattle.vc_rule_sides.specs.Comparing.{values_in, may_relate, related_said, compare_said}
use Rattle.vc_rule_sides.specs.Equating.{equate_said}
use Rattle.vc_rule_sides.specs.Laws.{CompareStands, CompareIsRead, EquateStands, EquateIsRead}

each_together : (test : Atom → Bool) (s t : Said) → each_premise test s ≡ true → each_premise test t ≡ true
    → each_premise test (together s t) ≡ true
each_together test (clashing why) t e f = e
each_together test (concluding cs) (clashing why) e f = f
each_together test (concluding cs) (concluding ds) e f =
    list_all-append (λ c. list_all test c.premises) cs ds
    ∙ and_from (list_all (λ c. list_all test c.premises) cs) (list_all (λ c. list_all test c.premises) ds) e f

each_when : (test : Atom → Bool) (b : Bool) (why : List Atom) (s : Said) → list_all test why ≡ true
    → each_premise test s ≡ true
    → each_premise test (clash_when b why s) ≡ true
each_when test true why s e f = e
each_when test false why s e f = f

all_both : (test : Atom → Bool) (xs ys : List Atom) → list_all test xs ≡ true → list_all test ys ≡ true
    → list_all test (xs ++ ys) ≡ true
all_both test xs ys e f = list_all-append test xs ys ∙ and_from (list_all test xs) (list_all test ys) e f

-- the variable that a side is, is what it reads
lone_reads : (rule : Rule) (o : Option Term) (v : ℕ) → if_inferred rule (lone_in o) ≡ Some v → vars_of_term o ≡ v ∷ []
lone_reads rule None v e = absurd (cc)
lone_reads rule (Some (Literal a)) v e = absurd (cc)
lone_reads rule (Some (Read u)) v e = by (is_inferred rule u) e
  where
    by : (b : Bool) → cond b (Some u) None ≡ Some v → u ∷ [] ≡ v ∷ []
    by true k = let same : u ≡ v = cc in ap (λ w. w ∷ []) same
    by false k = absurd (cc)
lone_reads rule (Some (PartSum slot characteristic)) v e = absurd (cc)
lone_reads rule (Some (PartCount slot)) v e = absurd (cc)
lone_reads rule (Some (Applied' function p a)) v e = absurd (cc)
lone_reads rule (Some (Joined' operator p a q b)) v e = absurd (cc)

-- where what is seen of some variables passes a test, the values of these do, and why their grains are ruled out
module _ (test : Atom → Bool) (seen : Seen) (vars : List ℕ)
    (values : (v : ℕ) (a : Value) → has nat_eq vars v ≡ true → seen.value v ≡ Some a → test (Is v a) ≡ true)
    (outs : (v g : ℕ) → has nat_eq vars v ≡ true → seen.out v g ≡ true → test (Out v g) ≡ true) where
  values_pass : (vs : List ℕ) → ((v : ℕ) → has nat_eq vs v ≡ true → has nat_eq vars v ≡ true)
      → list_all test (values_of seen vs) ≡ true
  values_pass [] within = refl
  values_pass (v ∷ vs) within =
      all_both test (value_atoms v (seen.value v)) (values_of seen vs) (one (seen.value v) refl)
      (values_pass vs (λ w h. within w (has_more nat_eq number_exact number_itself v vs w h)))
    where
      one : (o : Option Value) → seen.value v ≡ o → list_all test (value_atoms v o) ≡ true
      one None e = refl
      one (Some a) e = and_from (test (Is v a)) true
          (values v a (within v (has_first nat_eq number_exact number_itself v vs)) e) refl

  outs_pass : (v : ℕ) (pass : ℕ → Bool) → has nat_eq vars v ≡ true → (gs : List ℕ)
      → list_all test (map (Out v) (filter (λ g. seen.out v g && pass g) gs)) ≡ true
  outs_pass v pass h [] = refl
  outs_pass v pass h (g ∷ gs) = step (seen.out v g) (pass g) refl (outs_pass v pass h gs)
    where
      step : (o p : Bool) → seen.out v g ≡ o
          → list_all test (map (Out v) (filter (λ n. seen.out v n && pass n) gs)) ≡ true
          → list_all test (map (Out v)
          (cond (o && p) (g ∷ filter (λ n. seen.out v n && pass n) gs) (filter (λ n. seen.out v n && pass n) gs)))
          ≡ true
      step true true e all =
          and_from (test (Out v g)) (list_all test (map (Out v) (filter (λ n. seen.out v n && pass n) gs)))
          (outs v g h e) all
      step true false e all = all
      step false p e all = all

  why_passes : (plan : Plan) (v : ℕ) (p : Piece → Bool) → has nat_eq vars v ≡ true
      → list_all test (why_confined plan seen v p) ≡ true
  why_passes plan v p h = by (is_restrictable plan v)
    where
      left : (o : Option Value) → seen.value v ≡ o → list_all test (why_left_by plan seen v p o) ≡ true
      left None e = outs_pass v (is_grain_with plan v p) h (numbers_below (count_of plan v))
      left (Some a) e = and_from (test (Is v a)) true (values v a h e) refl

      by : (b : Bool) → list_all test (cond b [] (why_left plan seen v p)) ≡ true
      by true = refl
      by false = left (seen.value v) refl

  related_passes : (plan : Plan) (r : Relation) (o : Option ℕ) (others : List Atom) (a : Option Value)
      → list_all test others ≡ true
      → ((v : ℕ) → o ≡ Some v → has nat_eq vars v ≡ true)
      → each_premise test (related_said plan seen r o others a) ≡ true
  related_passes plan r None others a all is = refl
  related_passes plan r (Some v) others None all is = refl
  related_passes plan r (Some v) others (Some a) all is =
      each_from test seen (others ++ why_confined plan seen v (may_relate r a)) (confined plan seen v (may_relate r a))
      (all_both test others (why_confined plan seen v (may_relate r a)) all
      (why_passes plan v (may_relate r a) (is v refl)))

module _ (plan : Plan) (seen : Seen) (rule : Rule) (a b : ℕ) (test : Atom → Bool)
    (values : (v : ℕ) (x : Value) → has nat_eq (vars_of_sides plan a b) v ≡ true → seen.value v ≡ Some x
    → test (Is v x) ≡ true)
    (outs : (v g : ℕ) → has nat_eq (vars_of_sides plan a b) v ≡ true → seen.out v g ≡ true → test (Out v g) ≡ true)
  where
    abbrev left : List ℕ
    left = vars_of_term (slice_get plan.terms a)

    abbrev right : List ℕ
    right = vars_of_term (slice_get plan.terms b)

    in_left : (v : ℕ) → has nat_eq left v ≡ true → has nat_eq (left ++ right) v ≡ true
    in_left v h = has_front nat_eq number_exact number_itself left right v h

    in_right : (v : ℕ) → has nat_eq right v ≡ true → has nat_eq (left ++ right) v ≡ true
    in_right v h = has_back nat_eq number_exact number_itself left right v h

    left_pass : list_all test (values_in plan seen a) ≡ true
    left_pass = values_pass test seen (left ++ right) values outs left in_left

    right_pass : list_all test (values_in plan seen b) ≡ true
    right_pass = values_pass test seen (left ++ right) values outs right in_right

    lone_among : (term v : ℕ) → lone_inferred plan rule term ≡ Some v
        → has nat_eq (vars_of_term (slice_get plan.terms term)) v ≡ true
    lone_among term v e =
        subst (λ vs. has nat_eq vs v ≡ true) (sym (lone_reads rule (slice_get plan.terms term) v e))
        (has_first nat_eq number_exact number_itself v [])

    pub compare_passes : (r : Relation) → each_premise test (compare_said plan seen rule r a b) ≡ true
    compare_passes r =
        let first = value_at plan (net_reading seen) a in
        let second = value_at plan (net_reading seen) b in
        let v = lone_inferred plan rule a in
        let w = lone_inferred plan rule b in
        let of_a = related_said plan seen r v (values_in plan seen b) second in
        let of_b = related_said plan seen (turned r) w (values_in plan seen a) first in
        each_when test (is_false (compared r first second)) (values_in plan seen a ++ values_in plan seen b)
        (together of_a of_b)
        (all_both test (values_in plan seen a) (values_in plan seen b) left_pass right_pass)
        (each_together test of_a of_b
        (related_passes test seen (left ++ right) values outs plan r v (values_in plan seen b) second right_pass
        (λ x e. in_left x (lone_among a x e)))
        (related_passes test seen (left ++ right) values outs plan (turned r) w (values_in plan seen a) first left_pass
        (λ x e. in_right x (lone_among b x e))))

    pub equate_passes : each_premise test (equate_said plan seen rule a b) ≡ true
    equate_passes =
        let first = value_at plan (net_reading seen) a in
        let second = value_at plan (net_reading seen) b in
        let v = lone_inferred plan rule a in
        let w = lone_inferred plan rule b in
        let decimals = min (decimals_in_side plan (lone plan a)) (decimals_in_side plan (lone plan b)) in
        let of_a = said_from seen (values_in plan seen b) (equal_to plan v second) in
        let of_b = said_from seen (values_in plan seen a) (equal_to plan w first) in
        each_when test ((is_none v && is_none w) && differ decimals first second)
        (values_in plan seen a ++ values_in plan seen b) (together of_a of_b)
        (all_both test (values_in plan seen a) (values_in plan seen b) left_pass right_pass)
        (each_together test of_a of_b
        (each_from test seen (values_in plan seen b) (equal_to plan v second) right_pass)
        (each_from test seen (values_in plan seen a) (equal_to plan w first) left_pass))

-- variables as things
var_among : (vs : List ℕ) (v : ℕ) → has_thing (map var_at vs) (var_at v) ≡ has nat_eq vs v
var_among [] v = refl
var_among (w ∷ vs) v = ap (λ b. nat_eq v w || b) (var_among vs v)

pub compare_stands : CompareStands
compare_stands plan seen rule r a b =
    compare_passes plan seen rule a b (says seen) (λ v x h e. value_says seen v x e) (λ v g h e. e) r

pub compare_is_read : CompareIsRead
compare_is_read plan seen rule r a b =
    let things = map var_at (vars_of_sides plan a b) in
    compare_passes plan seen rule a b (λ x. has_thing things (thing_of x))
    (λ v x h e. var_among (vars_of_sides plan a b) v ∙ h)
    (λ v g h e. var_among (vars_of_sides plan a b) v ∙ h) r

pub equate_stands : EquateStands
equate_stands plan seen rule a b =
    equate_passes plan seen rule a b (says seen) (λ v x h e. value_says seen v x e) (λ v g h e. e)

pub equate_is_read : EquateIsRead
equate_is_read plan seen rule a b =
    let things = map var_at (vars_of_sides plan a b) in
    equate_passes plan seen rule a b (λ x. has_thing things (thing_of x))
    (λ v x h e. var_among (vars_of_sides plan a b) v ∙ h)
    (λ v g h e. var_among (vars_of_sides plan a b) v ∙ h)
