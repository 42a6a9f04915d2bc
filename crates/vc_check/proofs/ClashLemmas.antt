-- What is asked of a clash is its definition.
use Rattle.std.proofs.Common.{◌≡◌, ℕ, zero, suc, Bool, true, false, cond, not, ◌&&◌, ◌||◌, ◌==◌, List, [], ◌∷◌, ◌++◌}
use Rattle.std.proofs.Common.{map}
use Rattle.std.proofs.Common.{◌≤◌, length, drop, arith, refl, sym, ◌∙◌, ap, append_assoc}
use Rattle.std.specs.Prelude.{Option, None, Some, option_map, slice_get}
use Rattle.std.specs.Option.{is_some}
use Rattle.std.specs.List.{list_all, list_any}
use Rattle.std.proofs.lemmas.Option.{slice_get-map}
use Rattle.vc_base.specs.Chains.{all_pass, before_all, cited}
use Rattle.vc_base.proofs.ChainLaws.{all_there, get_mapped}
use Rattle.vc_plan.specs.declared.atoms.Atom.{Atom}
use Rattle.vc_plan.specs.declared.atoms.Atom.TheVariants.{Here}
use Rattle.vc_plan.specs.declared.atoms.Clash.{Clash}
use Rattle.vc_plan.specs.declared.atoms.Culprit.{Culprit}
use Rattle.vc_plan.specs.declared.atoms.Origin.{Origin}
use Rattle.vc_plan.specs.declared.atoms.Step.{Step}
use Rattle.vc_plan.specs.declared.plans.Plan.{Plan}
use Rattle.vc_plan.specs.Clear.{is_clear}
use Rattle.vc_plan.specs.Seen.{same_atom}
use Rattle.vc_plan.specs.Sources.{Sources}
use Rattle.vc_plan_reasons.specs.Checking.{are_of, concluded, first_refused_step, is_accepted, set_with}
use Rattle.vc_plan_reasons.specs.Refuting.{contradicts, culprit_clashes, culprit_reads, is_blamable, is_origin, refutes}
use Rattle.vc_plan_reasons.specs.Refuting.{set_without}
use Rattle.vc_check.specs.Citing.{if_there, with_cited}
use Rattle.vc_check.specs.Clashing.{blames, contradicts_at, is_blamed_by, is_needed}
use Rattle.vc_check.proofs.FamilyLemmas.{accepted_if, unrefused_if}
use Rattle.vc_check.proofs.FollowingLemmas.{unrefused}

or_none : (b : Bool) → (b || false) ≡ b
or_none true = refl
or_none false = refl

pub one_thing : (i j : ℕ) → ((i == j) || false) ≡ (i == j)
one_thing i j = or_none (i == j)

pub some_unread : (atoms : List Atom) → 1 ≤ length atoms → false ≡ are_of [] atoms
some_unread [] h = absurd (omega arith)
some_unread (a ∷ atoms) h = refl

-- the set without an atom, one after the other
pub without_next : (atom other : Atom) (old new set : List Atom) → new ≡ old ++ set_without atom (other ∷ [])
    → new ++ set_without atom set ≡ old ++ set_without atom (other ∷ set)
without_next atom other old new set e =
    ap (λ xs. xs ++ set_without atom set) e
    ∙ (append_assoc old (set_without atom (other ∷ [])) (set_without atom set)
    ∙ ap (λ xs. old ++ xs) (by (same_atom atom other)))
  where
    by : (b : Bool)
        → cond (not b) (other ∷ []) [] ++ set_without atom set
        ≡ cond (not b) (other ∷ set_without atom set) (set_without atom set)
    by true = refl
    by false = refl

-- a number that cites a step
pub blames_start : (steps : List Step) (culprit : Culprit) (number : ℕ) → number ≡ 0
    → false ≡ blames steps culprit number
blames_start steps culprit number e = ap (blames steps culprit) (sym e)

pub blames_at : (steps : List Step) (culprit : Culprit) (number n : ℕ) → number ≡ suc n
    → is_blamed_by culprit (slice_get steps n) ≡ blames steps culprit number
blames_at steps culprit number n e = ap (blames steps culprit) (sym e)

pub ruleset blaming = (blames_start, blames_at)

-- the origins of what is cited
record Cited (steps : List Step) (culprit : Culprit) (numbers : List ℕ) : Type 0 where
  origins : List Origin
  cites : cited (map (λ step. step.origin) steps) numbers ≡ Some origins
  any : list_any (is_origin culprit) origins ≡ list_any (blames steps culprit) numbers

origins_cited : (steps : List Step) (culprit : Culprit) (numbers : List ℕ) (premises : List Atom)
    → cited (concluded steps) numbers ≡ Some premises → Cited steps culprit numbers
origins_cited steps culprit [] premises e = record { origins = []; cites = refl; any = refl }
origins_cited steps culprit (zero ∷ numbers) premises e =
    let later = origins_cited steps culprit numbers premises e in
    record { origins = later.origins; cites = later.cites; any = later.any }
origins_cited steps culprit (suc n ∷ numbers) premises e =
    let there = all_there (slice_get (concluded steps) n) (cited (concluded steps) numbers) premises e in
    let later = origins_cited steps culprit numbers there.1 there.3 in
    let at = get_mapped (λ step. step.conclusion) steps n there.0 there.2 in
    let step : Step = at.0 in
    let origin : slice_get (map (λ s. s.origin) steps) n ≡ Some step.origin
    = slice_get-map (λ s. s.origin) steps n ∙ ap (option_map (λ s. s.origin)) at.1 in
    record {
      origins = step.origin ∷ later.origins;
      cites =
          ap (λ o. before_all o (cited (map (λ s. s.origin) steps) numbers)) origin
          ∙ ap (before_all (Some step.origin)) later.cites;
      any =
          ap (λ b. is_origin culprit step.origin || b) later.any
          ∙ ap (λ o. is_blamed_by culprit o || list_any (blames steps culprit) numbers) (sym at.1);
    }

-- what contradicts
pub contradicts_is : (plan : Plan) (sources : Sources) (clash : Clash) (premises : List Atom)
    → cited (concluded clash.steps) clash.premises ≡ Some premises
    → contradicts_at plan sources clash (set_with premises) premises ≡ contradicts plan sources clash premises
contradicts_is plan sources clash premises e =
    by (is_clear plan (set_with premises))
    (are_of (culprit_reads plan clash.culprit) premises
    && culprit_clashes plan sources clash.culprit (set_with premises))
    (list_all (is_needed plan (set_with premises)) premises)
    (list_any (blames clash.steps clash.culprit) clash.premises)
    (all_pass (list_any (is_origin clash.culprit)) (cited (map (λ step. step.origin) clash.steps) clash.premises))
    (sym (ap (all_pass (list_any (is_origin clash.culprit))) all.cites ∙ all.any))
  where
    all : Cited clash.steps clash.culprit clash.premises
    all = origins_cited clash.steps clash.culprit clash.premises premises e

    by : (b c d f g : Bool) → f ≡ g → cond b c (d && f) ≡ ((b && c) || (not b && (d && g)))
    by true c d f g k = sym (or_none c)
    by false c d f g k = ap (λ h. d && h) k

pub contradicts_there : (plan : Plan) (sources : Sources) (clash : Clash) (set : List Atom) (r : Bool)
    → if_there true set ≡ with_cited (Here 0 ∷ []) (cited (concluded clash.steps) clash.premises)
    → r ≡ contradicts_at plan sources clash set (drop 1 set)
    → r ≡ all_pass (contradicts plan sources clash) (cited (concluded clash.steps) clash.premises)
contradicts_there plan sources clash set r e g = by (cited (concluded clash.steps) clash.premises) refl e
  where
    by : (c : Option (List Atom)) → cited (concluded clash.steps) clash.premises ≡ c
        → if_there true set ≡ with_cited (Here 0 ∷ []) c
        → r ≡ all_pass (contradicts plan sources clash) c
    by None k q = absurd (cc)
    by (Some atoms) k q =
        let whole : set ≡ set_with atoms = cc in
        g
        ∙ (ap (λ s. contradicts_at plan sources clash s (drop 1 s)) whole
        ∙ contradicts_is plan sources clash atoms k)

pub contradicts_not : (plan : Plan) (sources : Sources) (clash : Clash) (set : List Atom)
    → if_there false set ≡ with_cited (Here 0 ∷ []) (cited (concluded clash.steps) clash.premises)
    → false ≡ all_pass (contradicts plan sources clash) (cited (concluded clash.steps) clash.premises)
contradicts_not plan sources clash set e = by (cited (concluded clash.steps) clash.premises) e
  where
    by : (c : Option (List Atom)) → if_there false set ≡ with_cited (Here 0 ∷ []) c
        → false ≡ all_pass (contradicts plan sources clash) c
    by None q = refl
    by (Some atoms) q = absurd (cc)

-- what refutes
none_and : (b : Bool) → (b && false) ≡ false
none_and true = refl
none_and false = refl

and_all : (b : Bool) → (b && true) ≡ b
and_all true = refl
and_all false = refl

pub refutes_blameless : (plan : Plan) (sources : Sources) (clash : Clash) → is_blamable plan clash.culprit ≡ false
    → false ≡ refutes plan sources clash
refutes_blameless plan sources clash e =
    sym (ap (λ b. (is_accepted plan sources clash.steps && b)
    && all_pass (contradicts plan sources clash) (cited (concluded clash.steps) clash.premises)) e
    ∙ ap (λ b. b && all_pass (contradicts plan sources clash) (cited (concluded clash.steps) clash.premises))
    (none_and (is_accepted plan sources clash.steps)))

pub refutes_refused : (plan : Plan) (sources : Sources) (clash : Clash)
    → is_some (first_refused_step plan sources clash.steps) ≡ true
    → false ≡ refutes plan sources clash
refutes_refused plan sources clash e =
    ap (λ b. (b && is_blamable plan clash.culprit)
    && all_pass (contradicts plan sources clash) (cited (concluded clash.steps) clash.premises))
    (sym (unrefused_if (first_refused_step plan sources clash.steps) (is_accepted plan sources clash.steps)
    (unrefused plan sources clash.steps) e))

pub refutes_where : (plan : Plan) (sources : Sources) (clash : Clash) → is_blamable plan clash.culprit ≡ true
    → is_some (first_refused_step plan sources clash.steps) ≡ false
    → all_pass (contradicts plan sources clash) (cited (concluded clash.steps) clash.premises)
    ≡ refutes plan sources clash
refutes_where plan sources clash e f =
    sym (ap (λ b. (b && is_blamable plan clash.culprit)
    && all_pass (contradicts plan sources clash) (cited (concluded clash.steps) clash.premises))
    (accepted_if (first_refused_step plan sources clash.steps) (is_accepted plan sources clash.steps)
    (unrefused plan sources clash.steps) f)
    ∙ ap (λ b. b && all_pass (contradicts plan sources clash) (cited (concluded clash.steps) clash.premises)) e)

pub ruleset refuting = (refutes_blameless, refutes_refused, refutes_where)
