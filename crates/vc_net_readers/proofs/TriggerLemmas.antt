-- What is kept of a rule's trigger, and of the rules that have none.
use Rattle.std.proofs.Common.{◌≡◌, ℕ, ◌+◌, Bool, true, false, List, [], ◌∷◌, ◌++◌, length, map, refl, sym, ◌∙◌, ap}
use Rattle.std.proofs.Common.{inl, inr, arith}
use Rattle.std.specs.Prelude.{Option, None, Some, nat_eq, ◌==◌, ◌||◌, slice_get, option_map, if◌then◌else◌}
use Rattle.std.specs.List.{filter, list_any}
use Rattle.std.proofs.lemmas.Bool.{and_parts, cases_lt}
use Rattle.std.proofs.lemmas.List.{length-map}
use Rattle.std.proofs.lemmas.Option.{slice_get-map, slice_get_past}
use Rattle.vc_value.specs.declared.value.Value.{Value}
use Rattle.vc_value.specs.declared.value.Value.TheVariants.{Text, Num}
use Rattle.vc_plan.specs.declared.conditions.Condition.{Condition}
use Rattle.vc_plan.specs.declared.conditions.Condition.TheVariants.{Always, Compared, IsIn, Specified, Holds, Filled}
use Rattle.vc_plan.specs.declared.conditions.Condition.TheVariants.{Not', And', Or'}
use Rattle.vc_plan.specs.declared.conditions.Relation.{Relation}
use Rattle.vc_plan.specs.declared.conditions.Relation.TheVariants.{Equal, Unequal, Less, AtMost, Greater, AtLeast}
use Rattle.vc_plan.specs.declared.plans.Plan.{Plan}
use Rattle.vc_plan.specs.declared.rules.Kind.{Kind}
use Rattle.vc_plan.specs.declared.rules.Kind.TheVariants.{Among, Compare, Equate, ByTable, Never, Last, Line}
use Rattle.vc_plan.specs.declared.rules.Restriction.TheVariants.{Against, OneOf}
use Rattle.vc_plan.specs.declared.rules.Rule.{Rule}
use Rattle.vc_plan.specs.declared.terms.Term.{Term}
use Rattle.vc_plan.specs.declared.terms.Term.TheVariants.{Literal, Read, PartSum, PartCount, Applied', Joined'}
use Rattle.vc_plan.specs.Domains.{is_restrictable, numbers_below}
use Rattle.vc_plan.specs.Gives.{by_rule}
use Rattle.vc_plan.specs.Reads.{vars_in, vars_of_condition, vars_read}
use Rattle.vc_plan_reasons.specs.Things.{var_at, vars_of_kind}
use Rattle.vc_net_laws.specs.declared.triggers.Trigger.{Trigger}
use Rattle.vc_net_laws.specs.Triggers.{first_trigger, trigger_by, trigger_in, trigger_in_rule, trigger_of_condition}
use Rattle.vc_net_laws.specs.Triggers.{trigger_of_relation, trigger_of_sides}
use Rattle.vc_net_places.proofs.PlaceLaws.Things.{length_range, range_at}
use Rattle.vc_net_readers.specs.Filing.{list_at, list_or_none}
use Rattle.vc_net_readers.specs.declared.glances.Glance.{Glance}
use Rattle.vc_net_readers.specs.declared.glances.Hint.{Hint}
use Rattle.vc_net_readers.specs.declared.glances.Hint.TheVariants.{GivesText, Untold}
use Rattle.vc_net_readers.specs.Glances.{gives_text_to, glance_at, glance_by, glance_or_none, glances_of}
use Rattle.vc_net_readers.specs.Glances.{hint_against, hint_in, hint_in_rule, hint_of_value, trigger_told}
use Rattle.vc_net_readers.specs.Laws.{GlancesAreKept, TriggersAreKept}
use Rattle.vc_net_readers.specs.Readers.{free_lists, is_free_at, is_reader, readers_of, trigger_at, trigger_or_none}
use Rattle.vc_net_readers.specs.Touched.{vars_in_rule}
use Rattle.vc_net_readers.specs.Waiting.{is_free, is_own}
use Rattle.vc_net_readers.proofs.FilingLemmas.{listed}
use Rattle.vc_net_readers.proofs.TouchedLemmas.{any_both, var_in_rule}

abbrev hint_told : Glance → Hint
hint_told glance = glance.hint

abbrev told_of : Plan → Option Rule → Glance
told_of plan o = record { trigger = trigger_in_rule plan o; hint = hint_in_rule plan o }

-- what is kept of a rule is told of it at a glance, so its trigger too
pub trigger_beside : (glances : List Glance) (r : ℕ)
    → trigger_at (map trigger_told glances) r ≡ trigger_told (glance_at glances r)
trigger_beside glances r = ap trigger_or_none (slice_get-map trigger_told glances r) ∙ by (slice_get glances r)
  where
    by : (o : Option Glance) → trigger_or_none (option_map trigger_told o) ≡ trigger_told (glance_or_none o)
    by None = refl
    by (Some glance) = refl

pub glance_kept : GlancesAreKept
glance_kept plan r =
    elim (cases_lt r (length plan.rules)) [
      | inl below ↦
          ap glance_or_none (range_at (glance_by plan) 0 (length plan.rules) r below)
          ∙ ap (glance_by plan) from_zero
      | inr past ↦
          ap glance_or_none (slice_get_past (glances_of plan) r (omega (arith, past, count)))
          ∙ sym (ap (told_of plan) (slice_get_past plan.rules r past))
    ]
  where
    from_zero : 0 + r ≡ r
    from_zero = omega arith

    count : length (glances_of plan) ≡ length plan.rules
    count =
        length-map (numbers_below (length plan.rules)) (glance_by plan)
        ∙ length_range 0 (length plan.rules)

pub trigger_kept : TriggersAreKept
trigger_kept plan r = trigger_beside (glances_of plan) r ∙ ap trigger_told (glance_kept plan r)

-- a variable that a trigger is of is read
or_true : (a b : Bool) → b ≡ true → (a || b) ≡ true
or_true true b e = refl
or_true false b e = e

in_first : (v : ℕ) (xs ys : List ℕ) → list_any (nat_eq v) xs ≡ true → list_any (nat_eq v) (xs ++ ys) ≡ true
in_first v xs ys e = any_both v xs ys ∙ ap (λ b. b || list_any (nat_eq v) ys) e

in_second : (v : ℕ) (xs ys : List ℕ) → list_any (nat_eq v) ys ≡ true → list_any (nat_eq v) (xs ++ ys) ≡ true
in_second v xs ys e = any_both v xs ys ∙ or_true (list_any (nat_eq v) xs) (list_any (nat_eq v) ys) e

sides_read : (v : ℕ) (a b : Term) → is_own v (trigger_of_sides a b) ≡ true
    → list_any (nat_eq v) (vars_in a ++ vars_in b) ≡ true
sides_read v (Literal a) (Literal b) e = absurd (cc)
sides_read v (Literal a) (Read w) e = ap (λ b. b || false) e
sides_read v (Literal a) (PartSum slot characteristic) e = absurd (cc)
sides_read v (Literal a) (PartCount slot) e = absurd (cc)
sides_read v (Literal a) (Applied' function p b) e = absurd (cc)
sides_read v (Literal a) (Joined' operator p b q c) e = absurd (cc)
sides_read v (Read w) (Literal a) e = ap (λ b. b || false) e
sides_read v (Read w) (Read x) e = absurd (cc)
sides_read v (Read w) (PartSum slot characteristic) e = absurd (cc)
sides_read v (Read w) (PartCount slot) e = absurd (cc)
sides_read v (Read w) (Applied' function p b) e = absurd (cc)
sides_read v (Read w) (Joined' operator p b q c) e = absurd (cc)
sides_read v (PartSum slot characteristic) b e = absurd (cc)
sides_read v (PartCount slot) b e = absurd (cc)
sides_read v (Applied' function p a) b e = absurd (cc)
sides_read v (Joined' operator p a q c) b e = absurd (cc)

relation_read : (v : ℕ) (r : Relation) (a b : Term) → is_own v (trigger_of_relation r a b) ≡ true
    → list_any (nat_eq v) (vars_in a ++ vars_in b) ≡ true
relation_read v Equal a b e = sides_read v a b e
relation_read v Unequal a b e = absurd (cc)
relation_read v Less a b e = absurd (cc)
relation_read v AtMost a b e = absurd (cc)
relation_read v Greater a b e = absurd (cc)
relation_read v AtLeast a b e = absurd (cc)

either_read : (v : ℕ) (o p : Option Trigger) (xs ys : List ℕ)
    → (is_own v o ≡ true → list_any (nat_eq v) xs ≡ true)
    → (is_own v p ≡ true → list_any (nat_eq v) ys ≡ true) → is_own v (first_trigger o p) ≡ true
    → list_any (nat_eq v) (xs ++ ys) ≡ true
either_read v None p xs ys f g e = in_second v xs ys (g e)
either_read v (Some trigger) p xs ys f g e = in_first v xs ys (f e)

condition_read : (v : ℕ) (c : Condition) → is_own v (trigger_in c) ≡ true → list_any (nat_eq v) (vars_read c) ≡ true
condition_read v Always e = absurd (cc)
condition_read v (Compared r a b) e = relation_read v r a b e
condition_read v (IsIn w pieces) e = absurd (cc)
condition_read v (Specified w) e = absurd (cc)
condition_read v (Holds set text) e = absurd (cc)
condition_read v (Filled set) e = absurd (cc)
condition_read v (Not' p c) e = absurd (cc)
condition_read v (And' p c q d) e =
    either_read v (trigger_in c) (trigger_in d) (vars_read c) (vars_read d) (condition_read v c) (condition_read v d) e
condition_read v (Or' p c q d) e = absurd (cc)

some_read : (v : ℕ) (o : Option Condition) → is_own v (trigger_of_condition o) ≡ true
    → list_any (nat_eq v) (vars_of_condition o) ≡ true
some_read v None e = absurd (cc)
some_read v (Some c) e = condition_read v c e

rule_read : (plan : Plan) (v : ℕ) (o : Option Rule) → is_own v (trigger_in_rule plan o) ≡ true
    → list_any (nat_eq v) (vars_in_rule plan o) ≡ true
rule_read plan v None e = absurd (cc)
rule_read plan v (Some rule) e =
    in_first v (vars_of_condition (slice_get plan.conditions rule.condition)) (vars_of_kind plan rule.kind)
    (some_read v (slice_get plan.conditions rule.condition) e)

pub trigger_read : (plan : Plan) (r v : ℕ) (o : Option Trigger) → o ≡ trigger_by plan (by_rule r)
    → is_own v o ≡ true → is_reader plan (var_at v) r ≡ true
trigger_read plan r v o is e =
    sym (var_in_rule plan (slice_get plan.rules r) v)
    ∙ rule_read plan v (slice_get plan.rules r) (ap (is_own v) (sym is) ∙ e)

-- a variable that a rule gives a text, as is told of it, is one that it names
value_named : (plan : Plan) (v w : ℕ) (a : Value) → gives_text_to v (hint_of_value plan w a) ≡ true → (v == w) ≡ true
value_named plan v w (Num n) e = absurd (cc)
value_named plan v w (Text t) e = by (is_restrictable plan w) e
  where
    by : (b : Bool) → gives_text_to v (if b then Untold else GivesText w t) ≡ true → (v == w) ≡ true
    by true k = absurd (cc)
    by false k = k

against_named : (plan : Plan) (v w : ℕ) (r : Relation) (a : Value) → gives_text_to v (hint_against plan w r a) ≡ true
    → (v == w) ≡ true
against_named plan v w Equal a e = value_named plan v w a e
against_named plan v w Unequal a e = absurd (cc)
against_named plan v w Less a e = absurd (cc)
against_named plan v w AtMost a e = absurd (cc)
against_named plan v w Greater a e = absurd (cc)
against_named plan v w AtLeast a e = absurd (cc)

kind_named : (plan : Plan) (v : ℕ) (kind : Kind) → gives_text_to v (hint_in plan kind) ≡ true
    → list_any (nat_eq v) (vars_of_kind plan kind) ≡ true
kind_named plan v (Among w (Against r a)) e = ap (λ b. b || false) (against_named plan v w r a e)
kind_named plan v (Among w (OneOf pieces)) e = absurd (cc)
kind_named plan v (Compare r a b) e = absurd (cc)
kind_named plan v (Equate a b) e = absurd (cc)
kind_named plan v (ByTable table columns) e = absurd (cc)
kind_named plan v Never e = absurd (cc)
kind_named plan v (Last w) e = absurd (cc)
kind_named plan v (Line i) e = absurd (cc)

named_in_rule : (plan : Plan) (v : ℕ) (o : Option Rule) → gives_text_to v (hint_in_rule plan o) ≡ true
    → list_any (nat_eq v) (vars_in_rule plan o) ≡ true
named_in_rule plan v None e = absurd (cc)
named_in_rule plan v (Some rule) e =
    in_second v (vars_of_condition (slice_get plan.conditions rule.condition)) (vars_of_kind plan rule.kind)
    (kind_named plan v rule.kind e)

-- so it touches that variable
pub told_read : (plan : Plan) (r v : ℕ) (glance : Glance) → glance ≡ glance_by plan r
    → gives_text_to v glance.hint ≡ true → is_reader plan (var_at v) r ≡ true
told_read plan r v glance is e =
    sym (var_in_rule plan (slice_get plan.rules r) v)
    ∙ named_in_rule plan v (slice_get plan.rules r) (sym (ap (λ h. gives_text_to v h) (ap hint_told is)) ∙ e)

-- the rules of a variable that wait for nothing are those of all that pass a test, of which each waits for nothing
pub free_are : (plan : Plan) (v : ℕ)
    → (q : ℕ → Bool) × (list_at (readers_of plan).free v ≡ filter q (numbers_below (length plan.rules)))
    × ((r : ℕ) → q r ≡ true → is_free (trigger_by plan (by_rule r)) ≡ true)
free_are plan v =
    elim (cases_lt v (length plan.vars)) [
      | inl below ↦ (
        is_free_at plan v,
        listed (λ n. filter (is_free_at plan n) (numbers_below (length plan.rules))) (length plan.vars) v below,
        λ r e. (and_parts (is_reader plan (var_at v) r) (is_free (trigger_by plan (by_rule r))) e).1,
      )
      | inr past ↦ (
        λ r. false,
        ap list_or_none (slice_get_past (free_lists plan) v (omega (arith, past, count)))
            ∙ none (numbers_below (length plan.rules)),
        λ r e. absurd (cc),
      )
    ]
  where
    none : (ns : List ℕ) → [] ≡ filter (λ r. false) ns
    none [] = refl
    none (n ∷ ns) = none ns

    count : length (free_lists plan) ≡ length plan.vars
    count =
        length-map (numbers_below (length plan.vars))
        (λ n. filter (is_free_at plan n) (numbers_below (length plan.rules)))
        ∙ length_range 0 (length plan.vars)
