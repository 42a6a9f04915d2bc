-- A rule that gives its variable the text that this has finds nothing: what is left and allowed is there, and if it is
-- one alone its value stands. Nor does that of a last grain where two are left.
use Rattle.std.proofs.Common.{◌≡◌, ℕ, zero, suc, ◌+◌, add-zero, Bool, true, false, cond, not, ◌&&◌, ◌||◌, List, [], ◌∷◌}
use Rattle.std.proofs.Common.{length, map, refl, sym, ◌∙◌, ap, subst, arith}
use Rattle.std.specs.Prelude.{◌==◌, nat_lt, Option, None, Some, slice_get}
use Rattle.std.specs.List.{filter, list_all, list_any, range_with_len}
use Rattle.std.proofs.lemmas.Bool.{and_parts, and_from}
use Rattle.vc_base.specs.Rounds.{Given, atoms}
use Rattle.vc_base.proofs.ListLaws.{number_exact}
use Rattle.vc_value.specs.declared.value.Value.{Value}
use Rattle.vc_value.specs.declared.value.Value.TheVariants.{Text, Num}
use Rattle.vc_plan.specs.declared.atoms.Atom.{Atom}
use Rattle.vc_plan.specs.declared.atoms.Atom.TheVariants.{Out, Is}
use Rattle.vc_plan.specs.declared.conditions.Piece.{Piece}
use Rattle.vc_plan.specs.declared.conditions.Piece.TheVariants.{OneText, Stretch}
use Rattle.vc_plan.specs.declared.conditions.Relation.TheVariants.{Equal, Unequal, Less, AtMost, Greater, AtLeast}
use Rattle.vc_plan.specs.declared.plans.Plan.{Plan}
use Rattle.vc_plan.specs.declared.rules.Kind.{Kind}
use Rattle.vc_plan.specs.declared.rules.Kind.TheVariants.{Among, Compare, Equate, ByTable, Never, Last, Line}
use Rattle.vc_plan.specs.declared.rules.Restriction.{Restriction}
use Rattle.vc_plan.specs.declared.rules.Restriction.TheVariants.{Against, OneOf}
use Rattle.vc_plan.specs.declared.rules.Rule.{Rule}
use Rattle.vc_plan.specs.Answers.{clash_if, is_nothing, last_atoms, nothing, value_atoms, value_of_piece}
use Rattle.vc_plan.specs.Domains.{count_of, grains_of, is_restrictable, numbers_below, passes}
use Rattle.vc_plan.specs.Gives.{acts}
use Rattle.vc_plan.specs.Pieces.{is_inside, lies_in}
use Rattle.vc_plan.specs.Restrictions.{allows, failing, is_inferred, left_with}
use Rattle.vc_plan.specs.Seen.{Seen, is_here, is_left, is_left_by, is_value, says}
use Rattle.vc_plan_values.specs.Computing.{LiesInGrains}
use Rattle.vc_rule_premises.specs.Citing.{why_it_acts}
use Rattle.vc_rule_premises.specs.Saying.{concluding, conclusion_from, said_from, said_with, silent}
use Rattle.vc_rule_grains.specs.Kinds.{among_said, last_said, why_among, why_last}
use Rattle.vc_rule.specs.Evaluating.{found_at, found_by, kind_said}
use Rattle.vc_rule.specs.Resting.{are_two_left, asks_for, is_text, rests}

-- what some piece passes is passed at one of the numbers
passed_from : (p : Piece → Bool) (pieces : List Piece) (f : ℕ → Bool) (a : ℕ)
    → ((k : ℕ) → f (a + k) ≡ passes p (slice_get pieces k)) → list_any p pieces ≡ true
    → is_nothing (filter f (range_with_len a (length pieces))) ≡ false
passed_from p [] f a same some = absurd (cc some)
passed_from p (piece ∷ pieces) f a same some =
    by (p piece) refl (passed_from p pieces f (a + 1) (λ k. ap f (omega (arith)) ∙ same (suc k)))
  where
    here : f a ≡ p piece
    here = ap f (sym (add-zero a)) ∙ same 0

    rest : List ℕ
    rest = filter f (range_with_len (a + 1) (length pieces))

    by : (b : Bool) → p piece ≡ b → (list_any p pieces ≡ true → is_nothing rest ≡ false)
        → is_nothing (cond (f a) (a ∷ rest) rest) ≡ false
    by true e later = ap (λ b. is_nothing (cond b (a ∷ rest) rest)) (here ∙ e)
    by false e later =
        ap (λ b. is_nothing (cond b (a ∷ rest) rest)) (here ∙ e)
        ∙ later (sym (ap (λ b. b || list_any p pieces) e) ∙ some)

each_passes : (f : ℕ → Bool) (gs : List ℕ) → list_all f (filter f gs) ≡ true
each_passes f [] = refl
each_passes f (g ∷ gs) = by (f g) refl (each_passes f gs)
  where
    by : (b : Bool) → f g ≡ b → list_all f (filter f gs) ≡ true
        → list_all f (cond (f g) (g ∷ filter f gs) (filter f gs)) ≡ true
    by true e later =
        ap (λ b. list_all f (cond b (g ∷ filter f gs) (filter f gs))) e
        ∙ and_from (f g) (list_all f (filter f gs)) e later
    by false e later = ap (λ b. list_all f (cond b (g ∷ filter f gs) (filter f gs))) e ∙ later

-- the value of the one grain that holds a text is that text
module _ (plan : Plan) (seen : Seen) (v t : ℕ) (is : seen.value v ≡ Some (Text t)) where
  stands : (s : ℕ) → (s == t) ≡ true → is_value (Text s) (seen.value v) ≡ true
  stands s e = ap (is_value (Text s)) is ∙ e

  alone : (o : Option Piece) → passes (lies_in (Text t)) o ≡ true
      → filter (λ a. not (says seen a)) (value_atoms v (value_of_piece o)) ≡ []
  alone None e = absurd (cc e)
  alone (Some (OneText s)) e = ap (λ b. cond (not b) (Is v (Text s) ∷ []) []) (stands s e)
  alone (Some (Stretch grain)) e = absurd (cc e)

  pub none_new : (f : ℕ → Bool)
      → ((g : ℕ) → f g ≡ passes (lies_in (Text t)) (slice_get (grains_of plan v) g)) → (gs : List ℕ)
      → list_all f gs ≡ true → filter (λ a. not (says seen a)) (last_atoms plan v gs) ≡ []
  none_new f same [] e = refl
  none_new f same (g ∷ []) e =
      alone (slice_get (grains_of plan v) g) (sym (same g) ∙ (and_parts (f g) true e).0)
  none_new f same (g ∷ (h ∷ more)) e = refl

  -- a grain is left and allowed where it holds the text
  pub left_is : (g : ℕ)
      → (is_left plan seen v g && passes (allows plan v (Against Equal (Text t))) (slice_get (grains_of plan v) g))
      ≡ passes (lies_in (Text t)) (slice_get (grains_of plan v) g)
  left_is g =
      ap (λ o. is_left_by plan seen v g o && passes (is_inside Equal (Text t)) (slice_get (grains_of plan v) g)) is
      ∙ by (slice_get (grains_of plan v) g)
    where
      both : (b : Bool) → (b && b) ≡ b
      both true = refl
      both false = refl

      by : (o : Option Piece) → (passes (lies_in (Text t)) o && passes (is_inside Equal (Text t)) o)
          ≡ passes (lies_in (Text t)) o
      by None = refl
      by (Some (OneText s)) = both (s == t)
      by (Some (Stretch grain)) = refl

text_rests : (plan : Plan) (seen : Seen) (rule : Rule) (v t : ℕ) → LiesInGrains plan seen
    → seen.value v ≡ Some (Text t) → is_restrictable plan v ≡ false
    → among_said plan seen rule v (Against Equal (Text t)) ≡ silent
text_rests plan seen rule v t fits is fixed =
    by (why_among plan seen rule v (Against Equal (Text t))) (is_inferred rule v)
  where
    gs : List ℕ
    gs = left_with plan seen v (allows plan v (Against Equal (Text t)))

    some : is_nothing gs ≡ false
    some =
        passed_from (lies_in (Text t)) (grains_of plan v)
        (λ g. is_left plan seen v g && passes (allows plan v (Against Equal (Text t))) (slice_get (grains_of plan v) g))
        0 (λ k. left_is plan seen v t is (0 + k)
        ∙ ap (λ g. passes (lies_in (Text t)) (slice_get (grains_of plan v) g)) (omega (arith))) (fits v (Text t) is)

    none : filter (λ a. not (says seen a)) (last_atoms plan v gs) ≡ []
    none =
        none_new plan seen v t is
        (λ g. is_left plan seen v g && passes (allows plan v (Against Equal (Text t))) (slice_get (grains_of plan v) g))
        (left_is plan seen v t is) gs
        (each_passes (λ g. is_left plan seen v g
        && passes (allows plan v (Against Equal (Text t))) (slice_get (grains_of plan v) g))
        (numbers_below (count_of plan v)))

    outs : Given Atom
    outs = atoms (map (Out v) (failing plan v (allows plan v (Against Equal (Text t)))))

    by : (why : List Atom) (b : Bool)
        → said_from seen why (cond b
        (cond (is_restrictable plan v) outs (clash_if (is_nothing gs) (atoms (last_atoms plan v gs))))
        (clash_if (is_nothing gs) nothing)) ≡ silent
    by why true =
        ap (λ r. said_from seen why (cond r outs (clash_if (is_nothing gs) (atoms (last_atoms plan v gs))))) fixed
        ∙ (ap (λ n. said_from seen why (clash_if n (atoms (last_atoms plan v gs)))) some
        ∙ ap (λ xs. concluding (map (conclusion_from why) xs)) none)
    by why false = ap (λ n. said_from seen why (clash_if n nothing)) some

among_rests : (plan : Plan) (seen : Seen) (rule : Rule) (v : ℕ) (restriction : Restriction) → LiesInGrains plan seen
    → asks_for restriction (seen.value v) ≡ true → is_restrictable plan v ≡ false
    → among_said plan seen rule v restriction ≡ silent
among_rests plan seen rule v (OneOf pieces) fits e fixed = absurd (cc e)
among_rests plan seen rule v (Against Unequal a) fits e fixed = absurd (cc e)
among_rests plan seen rule v (Against Less a) fits e fixed = absurd (cc e)
among_rests plan seen rule v (Against AtMost a) fits e fixed = absurd (cc e)
among_rests plan seen rule v (Against Greater a) fits e fixed = absurd (cc e)
among_rests plan seen rule v (Against AtLeast a) fits e fixed = absurd (cc e)
among_rests plan seen rule v (Against Equal a) fits e fixed = by a (seen.value v) refl e
  where
    by : (a : Value) (o : Option Value) → seen.value v ≡ o → is_text a o ≡ true
        → among_said plan seen rule v (Against Equal a) ≡ silent
    by a None is e = absurd (cc e)
    by (Num a) (Some b) is e = absurd (cc e)
    by (Text s) (Some (Num b)) is e = absurd (cc e)
    by (Text s) (Some (Text t)) is e =
        subst (λ n. among_said plan seen rule v (Against Equal (Text n)) ≡ silent) (sym (number_exact s t e))
        (text_rests plan seen rule v t fits is fixed)

-- where two grains are left none is the last
last_rests : (plan : Plan) (seen : Seen) (v : ℕ) → are_two_left (seen.out v) (count_of plan v) ≡ true
    → last_said plan seen v ≡ silent
last_rests plan seen v e =
    ap (λ given. said_from seen (why_last plan seen v) (atoms (cond (is_here plan seen v) given [])))
    (two (count_of plan v) e)
    ∙ by (is_here plan seen v)
  where
    nothing_of : List Atom
    nothing_of = []

    two : (count : ℕ) → are_two_left (seen.out v) count ≡ true
        → last_atoms plan v (filter (λ g. not (seen.out v g)) (numbers_below count)) ≡ []
    two zero e = absurd (cc e)
    two (suc zero) e = absurd (cc e)
    two (suc (suc n)) e =
        let parts : (not (seen.out v 0) ≡ true) × (not (seen.out v 1) ≡ true) =
        and_parts (not (seen.out v 0)) (not (seen.out v 1))
        (and_parts (nat_lt 1 (suc (suc n))) (not (seen.out v 0) && not (seen.out v 1)) e).1 in
        ap (λ b. last_atoms plan v (cond b (0 ∷ filter (λ g. not (seen.out v g)) (range_with_len 1 (suc n)))
        (filter (λ g. not (seen.out v g)) (range_with_len 1 (suc n))))) parts.0
        ∙ ap (λ b. last_atoms plan v (0 ∷ cond b (1 ∷ filter (λ g. not (seen.out v g)) (range_with_len 2 n))
        (filter (λ g. not (seen.out v g)) (range_with_len 2 n)))) parts.1

    by : (b : Bool) → said_from seen (why_last plan seen v) (atoms (cond b nothing_of nothing_of)) ≡ silent
    by true = refl
    by false = refl

kind_rests : (plan : Plan) (seen : Seen) (rule : Rule) (kind : Kind) → LiesInGrains plan seen
    → rests plan seen kind ≡ true → kind_said plan seen rule kind ≡ silent
kind_rests plan seen rule (Among v restriction) fits e =
    let parts : (asks_for restriction (seen.value v) ≡ true) × (not (is_restrictable plan v) ≡ true) =
    and_parts (asks_for restriction (seen.value v)) (not (is_restrictable plan v)) e in
    among_rests plan seen rule v restriction fits parts.0 (isnt (is_restrictable plan v) parts.1)
  where
    isnt : (b : Bool) → not b ≡ true → b ≡ false
    isnt true e = absurd (cc e)
    isnt false e = refl
kind_rests plan seen rule (Compare r a b) fits e = absurd (cc e)
kind_rests plan seen rule (Equate a b) fits e = absurd (cc e)
kind_rests plan seen rule (ByTable table columns) fits e = absurd (cc e)
kind_rests plan seen rule Never fits e = absurd (cc e)
kind_rests plan seen rule (Last v) fits e = last_rests plan seen v e
kind_rests plan seen rule (Line i) fits e = absurd (cc e)

pub resting_find_nothing : (plan : Plan) (seen : Seen) (r : ℕ) (rule : Rule) → LiesInGrains plan seen
    → slice_get plan.rules r ≡ Some rule → rests plan seen rule.kind ≡ true → found_at plan seen r ≡ silent
resting_find_nothing plan seen r rule fits there e =
    ap (found_by plan seen) there
    ∙ (ap (λ said. cond (acts plan seen rule) (said_with (why_it_acts plan seen rule) said) silent)
    (kind_rests plan seen rule rule.kind fits e)
    ∙ by (acts plan seen rule))
  where
    by : (b : Bool) → cond b (said_with (why_it_acts plan seen rule) silent) silent ≡ silent
    by true = refl
    by false = refl
