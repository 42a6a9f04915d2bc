-- A variable without a value, of which one text is allowed and left, gets that: nothing else is left, and nothing that
-- is out was allowed.
use Rattle.std.proofs.Common.{◌≡◌, ℕ, Bool, true, false, cond, not, ◌&&◌, List, [], ◌∷◌, map, refl, sym, ◌∙◌, ap, subst}
use Rattle.std.specs.Prelude.{Option, None, Some, is_none, slice_get}
use Rattle.std.specs.List.{filter, find}
use Rattle.std.proofs.lemmas.Bool.{and_parts, and_from}
use Rattle.vc_base.specs.Rounds.{Given, atoms}
use Rattle.vc_base.proofs.ListLaws.{number_exact}
use Rattle.vc_value.specs.declared.value.Value.{Value}
use Rattle.vc_value.specs.declared.value.Value.TheVariants.{Text}
use Rattle.vc_plan.specs.declared.atoms.Atom.{Atom}
use Rattle.vc_plan.specs.declared.atoms.Atom.TheVariants.{Out, Is}
use Rattle.vc_plan.specs.declared.conditions.Piece.{Piece}
use Rattle.vc_plan.specs.declared.conditions.Piece.TheVariants.{OneText, Stretch}
use Rattle.vc_plan.specs.declared.conditions.Relation.TheVariants.{Equal}
use Rattle.vc_plan.specs.declared.plans.Plan.{Plan}
use Rattle.vc_plan.specs.declared.rules.Restriction.TheVariants.{Against}
use Rattle.vc_plan.specs.declared.rules.Rule.{Rule}
use Rattle.vc_plan.specs.Answers.{clash_if, is_nothing, last_atoms, nothing, value_atoms, value_of_piece}
use Rattle.vc_plan.specs.Domains.{count_of, grains_of, is_grain_with, is_restrictable, numbers_below, passes}
use Rattle.vc_plan.specs.Pieces.{is_inside, lies_in}
use Rattle.vc_plan.specs.Restrictions.{allows, failing, is_inferred}
use Rattle.vc_plan.specs.Seen.{Seen, is_left_by, is_value}
use Rattle.vc_rule_premises.specs.Saying.{Said, concluding, conclusion_from, said_from}
use Rattle.vc_rule_grains.specs.Confining.{why_left_by}
use Rattle.vc_rule_grains.specs.Finding.{GrainsFit, PassesOnly, grain_with}
use Rattle.vc_rule_grains.proofs.FindingLemmas.{only_there, passes_only}
use Rattle.vc_rule.specs.Giving.{GivesText, is_free_for, is_there}

-- what is found passes
find_passes : (f : ℕ → Bool) (xs : List ℕ) (g : ℕ) → find f xs ≡ Some g → f g ≡ true
find_passes f [] g e = absurd (cc e)
find_passes f (x ∷ xs) g e = by (f x) refl e (find_passes f xs g)
  where
    by : (b : Bool) → f x ≡ b → cond b (Some x) (find f xs) ≡ Some g → (find f xs ≡ Some g → f g ≡ true) → f g ≡ true
    by true is e later = subst (λ y. f y ≡ true) (cc e) is
    by false is e later = later e

-- just the piece of a text is allowed by it
one_text : (t : ℕ) → PassesOnly (is_inside Equal (Text t)) (Text t)
one_text t (OneText s) e = e
one_text t (Stretch grain) e = absurd (cc e)

allowed : (t : ℕ) (o : Option Piece) → passes (lies_in (Text t)) o ≡ true → passes (is_inside Equal (Text t)) o ≡ true
allowed t None e = e
allowed t (Some (OneText s)) e = e
allowed t (Some (Stretch grain)) e = absurd (cc e)

-- its value is the text
value_is : (v t : ℕ) (o : Option Piece) → passes (lies_in (Text t)) o ≡ true
    → value_atoms v (value_of_piece o) ≡ Is v (Text t) ∷ []
value_is v t None e = absurd (cc e)
value_is v t (Some (OneText s)) e = ap (λ n. Is v (Text n) ∷ []) (number_exact s t e)
value_is v t (Some (Stretch grain)) e = absurd (cc e)

module _ (plan : Plan) (seen : Seen) (v t g : ℕ) (fits : GrainsFit plan) (found : grain_with plan v (Text t) ≡ Some g)
    (there : seen.out v g ≡ false) where
  holds : is_grain_with plan v (lies_in (Text t)) g ≡ true
  holds = find_passes (is_grain_with plan v (lies_in (Text t))) (numbers_below (count_of plan v)) g found

  within : (n : ℕ) → is_grain_with plan v (allows plan v (Against Equal (Text t))) n ≡ true
      → is_grain_with plan v (lies_in (Text t)) n ≡ true
  within n e = passes_only (is_inside Equal (Text t)) (Text t) (one_text t) (slice_get (grains_of plan v) n) e

  -- the grain of the text alone is left and allowed
  left_is : filter
      (λ n. is_left_by plan seen v n None && is_grain_with plan v (allows plan v (Against Equal (Text t))) n)
      (numbers_below (count_of plan v)) ≡ g ∷ []
  left_is =
      sym (only_there plan v (Text t)
      (λ n. is_left_by plan seen v n None && is_grain_with plan v (allows plan v (Against Equal (Text t))) n)
      (count_of plan v) (Some g) fits.proper
      (λ n e. within n (and_parts (is_left_by plan seen v n None)
      (is_grain_with plan v (allows plan v (Against Equal (Text t))) n) e).1) (sym found))
      ∙ ap (λ b. cond b (g ∷ []) [])
      (and_from (not (seen.out v g)) (is_grain_with plan v (allows plan v (Against Equal (Text t))) g)
      (ap not there) (allowed t (slice_get (grains_of plan v) g) holds))

  -- none that is out is allowed
  none_out : filter (λ n. seen.out v n && is_grain_with plan v (allows plan v (Against Equal (Text t))) n)
      (numbers_below (count_of plan v)) ≡ []
  none_out =
      sym (only_there plan v (Text t)
      (λ n. seen.out v n && is_grain_with plan v (allows plan v (Against Equal (Text t))) n)
      (count_of plan v) (Some g) fits.proper
      (λ n e. within n (and_parts (seen.out v n)
      (is_grain_with plan v (allows plan v (Against Equal (Text t))) n) e).1) (sym found))
      ∙ ap (λ b. cond (b && is_grain_with plan v (allows plan v (Against Equal (Text t))) g) (g ∷ []) []) there

  -- so its value is what follows
  pub text_follows : (why : List Atom) → seen.value v ≡ None → why ≡ []
      → said_from seen why (clash_if (is_nothing (g ∷ [])) (atoms (last_atoms plan v (g ∷ []))))
      ≡ concluding (conclusion_from [] (Is v (Text t)) ∷ [])
  text_follows why none is =
      ap (λ given. said_from seen why (atoms given)) (value_is v t (slice_get (grains_of plan v) g) holds)
      ∙ (ap (λ b. concluding (map (conclusion_from why) (cond (not b) (Is v (Text t) ∷ []) [])))
      (ap (is_value (Text t)) none)
      ∙ ap (λ w. concluding (conclusion_from w (Is v (Text t)) ∷ [])) is)

pub gives_text : (plan : Plan) (seen : Seen) (rule : Rule) (v t : ℕ) → GrainsFit plan
    → is_free_for plan seen rule v ≡ true → is_there (seen.out v) (grain_with plan v (Text t)) ≡ true
    → GivesText plan seen rule v (Against Equal (Text t)) t
gives_text plan seen rule v t fits free there =
    by (grain_with plan v (Text t)) refl there
  where
    parts : (is_none (seen.value v) ≡ true) × ((is_inferred rule v && not (is_restrictable plan v)) ≡ true)
    parts = and_parts (is_none (seen.value v)) (is_inferred rule v && not (is_restrictable plan v)) free

    more : (is_inferred rule v ≡ true) × (not (is_restrictable plan v) ≡ true)
    more = and_parts (is_inferred rule v) (not (is_restrictable plan v)) parts.1

    isnt : (b : Bool) → not b ≡ true → b ≡ false
    isnt true e = absurd (cc e)
    isnt false e = refl

    none_of : (o : Option Value) → is_none o ≡ true → o ≡ None
    none_of None e = refl
    none_of (Some a) e = absurd (cc e)

    none : seen.value v ≡ None
    none = none_of (seen.value v) parts.0

    outs : Given Atom
    outs = atoms (map (Out v) (failing plan v (allows plan v (Against Equal (Text t)))))

    test : Piece → Bool
    test = allows plan v (Against Equal (Text t))

    gs : Option Value → List ℕ
    gs o = filter (λ g. is_left_by plan seen v g o && is_grain_with plan v test g) (numbers_below (count_of plan v))

    -- what is said, by whether the rule may narrow the variable, whether this is restrictable, and its value
    said : Bool → Bool → Option Value → Said
    said b r o =
        said_from seen (cond b (cond r [] (why_left_by plan seen v test o)) (why_left_by plan seen v test o))
        (cond b (cond r outs (clash_if (is_nothing (gs o)) (atoms (last_atoms plan v (gs o)))))
        (clash_if (is_nothing (gs o)) nothing))

    by : (o : Option ℕ) → grain_with plan v (Text t) ≡ o → is_there (seen.out v) o ≡ true
        → GivesText plan seen rule v (Against Equal (Text t)) t
    by None found there = absurd (cc there)
    by (Some g) found there =
        let left : seen.out v g ≡ false = isnt (seen.out v g) there in
        ap (λ b. said b (is_restrictable plan v) (seen.value v)) more.0
        ∙ (ap (λ r. said true r (seen.value v)) (isnt (is_restrictable plan v) more.1)
        ∙ (ap (said true false) none
        ∙ (ap (λ xs. said_from seen (why_left_by plan seen v test None)
        (clash_if (is_nothing xs) (atoms (last_atoms plan v xs)))) (left_is plan seen v t g fits found left)
        ∙ text_follows plan seen v t g fits found left (why_left_by plan seen v test None) none
        (ap (map (Out v)) (none_out plan seen v t g fits found left)))))
