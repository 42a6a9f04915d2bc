-- What numbers cite of the conclusions of steps and of their origins, and the clash that cites them.
use Rattle.std.proofs.Common.{◌≡◌, ℕ, zero, suc, ◌+◌, Bool, true, false, cond, not, ◌&&◌, ◌||◌, List, [], ◌∷◌, ◌++◌}
use Rattle.std.proofs.Common.{map, refl, sym, ◌∙◌, ap, subst, inl, inr, arith, append_assoc}
use Rattle.std.specs.Prelude.{Option, None, Some, slice_get}
use Rattle.std.specs.List.{list_all, list_any, position_or_len}
use Rattle.std.proofs.lemmas.Bool.{and_from, not_from_false, or_right}
use Rattle.vc_base.specs.Chains.{accepted, all_pass, before_all, cited}
use Rattle.vc_base.specs.Sets.{has, Within}
use Rattle.vc_base.proofs.ChainLaws.{accepted_parts, all_there, cited_within, get_mapped}
use Rattle.vc_base.proofs.SetLaws.{has_cases, has_first, has_front, has_more}
use Rattle.vc_base.proofs.Settling.{IsIn}
use Rattle.vc_plan.specs.declared.atoms.Atom.{Atom}
use Rattle.vc_plan.specs.declared.atoms.Culprit.{Culprit}
use Rattle.vc_plan.specs.declared.atoms.Origin.{Origin}
use Rattle.vc_plan.specs.declared.atoms.Step.{Step}
use Rattle.vc_plan.specs.declared.plans.Plan.{Plan}
use Rattle.vc_plan.specs.Clear.{is_clear}
use Rattle.vc_plan.specs.Seen.{same_atom}
use Rattle.vc_plan.specs.Sources.{Sources}
use Rattle.vc_plan.proofs.PlanLaws.Atoms.{atom_exact, atom_itself}
use Rattle.vc_plan_reasons.specs.Checking.{concluded, follows, is_accepted, set_with, step_form}
use Rattle.vc_plan_reasons.specs.Refuting.{contradicts, is_blamable, is_clash_at, is_collision, is_origin, set_without}
use Rattle.vc_plan_blame.specs.Blame.{clash_by, clash_citing, clash_of, culprit_among, culprit_from, culprit_of}
use Rattle.vc_plan_blame.specs.Blame.{number_of}
use Rattle.vc_plan_blame.specs.Laws.{Blames, CollidingIsBlamed}
use Rattle.vc_plan_blame.proofs.BlameLaws.Colliding.{Colliding}
use Rattle.vc_plan_blame.proofs.BlameLaws.Origins.{first_ok, first_there}

-- an atom of a list by its first place
place_found : (xs : List Atom) (a : Atom) → has same_atom xs a ≡ true
    → slice_get xs (position_or_len (same_atom a) xs) ≡ Some a
place_found [] a h = absurd (cc)
place_found (x ∷ xs) a h =
    choice (same_atom a x) (1 + position_or_len (same_atom a) xs) (omega arith) refl h (place_found xs a)
  where
    choice : (b : Bool) (n : ℕ) → n ≡ suc (position_or_len (same_atom a) xs) → same_atom a x ≡ b
        → (b || has same_atom xs a) ≡ true
        → (has same_atom xs a ≡ true → slice_get xs (position_or_len (same_atom a) xs) ≡ Some a)
        → slice_get (x ∷ xs) (cond (not b) n 0) ≡ Some a
    choice true n is e k next = ap Some (sym (atom_exact a x e))
    choice false n is e k next = ap (slice_get (x ∷ xs)) is ∙ next k

-- so the numbers of atoms that are concluded cite them
pub numbers_found : (stand premises : List Atom) → Within same_atom premises stand
    → cited stand (map (number_of stand) premises) ≡ Some premises
numbers_found stand [] within = refl
numbers_found stand (a ∷ premises) within =
    ap (λ o. before_all o (cited stand (map (number_of stand) premises)))
    (place_found stand a (within a (has_first same_atom atom_exact atom_itself a premises)))
    ∙ ap (before_all (Some a))
    (numbers_found stand premises (λ b h. within b (has_more same_atom atom_exact atom_itself a premises b h)))

-- the step that concludes an atom
pub record Concludes (log : List Step) (a : Atom) : Type 0 where
  pub place : ℕ
  pub step : Step
  pub is : slice_get log place ≡ Some step
  pub conclusion : step.conclusion ≡ a

pub concludes : (log : List Step) (a : Atom) → has same_atom (concluded log) a ≡ true → Concludes log a
concludes log a h =
    let r
    = get_mapped (λ step. step.conclusion) log (position_or_len (same_atom a) (concluded log)) a
    (place_found (concluded log) a h) in
    record { place = position_or_len (same_atom a) (concluded log); step = r.0; is = r.1; conclusion = r.2 }

-- numbers that cite premises cite an origin for each of them
pub record Citing (log : List Step) (numbers : List ℕ) (premises : List Atom) : Type 0 where
  pub from : List Origin
  pub is : cited (map (λ step. step.origin) log) numbers ≡ Some from
  pub gives : (a : Atom) → has same_atom premises a ≡ true → (c : Concludes log a) × IsIn c.step.origin from

get_map : {X Y : Type 0} (f : X → Y) (xs : List X) (i : ℕ) (x : X) → slice_get xs i ≡ Some x
    → slice_get (map f xs) i ≡ Some (f x)
get_map f [] i x e = absurd (cc)
get_map f (y ∷ ys) zero x e = let is : y ≡ x = cc in ap (λ z. Some (f z)) is
get_map f (y ∷ ys) (suc i) x e = get_map f ys i x e

pub citing : (log : List Step) (numbers : List ℕ) (premises : List Atom) → cited (concluded log) numbers ≡ Some premises
    → Citing log numbers premises
citing log [] premises e =
    let none : [] ≡ premises = cc in
    record {
      from = [];
      is = refl;
      gives = λ a h. absurd (let no : has same_atom [] a ≡ true = ap (λ xs. has same_atom xs a) none ∙ h in cc);
    }
citing log (zero ∷ numbers) premises e =
    let c : Citing log numbers premises = citing log numbers premises e in
    record { from = c.from; is = c.is; gives = c.gives }
citing log (suc n ∷ numbers) premises e =
    let r = all_there (slice_get (concluded log) n) (cited (concluded log) numbers) premises e in
    let m = get_mapped (λ step. step.conclusion) log n r.0 r.2 in
    let later : Citing log numbers r.1 = citing log numbers r.1 r.3 in
    record {
      from = m.0.origin ∷ later.from;
      is = ap (λ o. before_all o (cited (map (λ step. step.origin) log) numbers))
          (get_map (λ step. step.origin) log n m.0 m.1)
          ∙ ap (before_all (Some m.0.origin)) later.is;
      gives = λ a h. elim (has_cases same_atom atom_exact atom_itself r.0 r.1 a
          (ap (λ xs. has same_atom xs a) (sym r.4) ∙ h)) [
            | inl q ↦ (record { place = n; step = m.0; is = m.1; conclusion = m.2 ∙ sym q }, inl refl)
            | inr k ↦ let g = later.gives a k in (g.0, inr g.1)
          ];
    }

-- premises that can't stand together refute, with a culprit of theirs
all_there_of : (plan : Plan) (o : Option (List Origin)) (culprit : Culprit) → culprit_among plan o ≡ Some culprit
    → (is_blamable plan culprit ≡ true) × (all_pass (list_any (is_origin culprit)) o ≡ true)
all_there_of plan None culprit e = absurd (cc)
all_there_of plan (Some from) culprit e = first_ok plan from culprit e

pub colliding_is_blamed : CollidingIsBlamed
colliding_is_blamed plan sources log numbers premises culprit accepts cites unclear apart is =
    let clash = clash_of log numbers culprit in
    let origins = cited (map (λ step. step.origin) log) numbers in
    let clear = is_clear plan (set_with premises) in
    let needed = list_all (λ atom. is_clear plan (set_without atom (set_with premises))) premises in
    let ok = all_there_of plan origins culprit is in
    let gave = all_pass (list_any (is_origin culprit)) origins in
    let collision : is_collision plan culprit premises origins ≡ true
    = and_from (not clear) (needed && gave) (not_from_false clear unclear) (and_from needed gave apart ok.1) in
    let holds : contradicts plan sources clash premises ≡ true
    = or_right (is_clash_at plan sources culprit premises) (is_collision plan culprit premises origins) collision in
    and_from (is_accepted plan sources log && is_blamable plan culprit)
    (all_pass (contradicts plan sources clash) (cited (concluded log) numbers))
    (and_from (is_accepted plan sources log) (is_blamable plan culprit) accepts ok.0)
    (ap (all_pass (contradicts plan sources clash)) cites ∙ holds)

-- so they do where one of them has a culprit
pub blames : (plan : Plan) (sources : Sources) (log : List Step) (numbers : List ℕ) (premises : List Atom)
    → is_accepted plan sources log ≡ true → cited (concluded log) numbers ≡ Some premises → Colliding plan premises
    → (c : Citing log numbers premises) (origin : Origin) (culprit : Culprit) → IsIn origin c.from
    → culprit_from plan origin ≡ Some culprit → Blames plan sources (clash_citing plan log numbers)
blames plan sources log numbers premises accepts cites collides c origin culprit within is =
    let f = first_there plan c.from origin culprit within is in
    let first : culprit_of plan log numbers ≡ Some f.0 = ap (culprit_among plan) c.is ∙ f.1 in (
      clash_of log numbers f.0,
      ap (clash_by log numbers) first,
      colliding_is_blamed plan sources log numbers premises f.0 accepts cites collides.unclear collides.needed first,
    )

-- each step of an accepted list follows from atoms that the list concludes
pub record Follows (plan : Plan) (sources : Sources) (stand : List Atom) (step : Step) : Type 0 where
  pub premises : List Atom
  pub from : follows plan sources step premises ≡ true
  pub within : Within same_atom premises stand

pub step_follows : (plan : Plan) (sources : Sources) (earlier : List Atom) (steps : List Step) (i : ℕ) (step : Step)
    → accepted step_form (follows plan sources) earlier steps ≡ true → slice_get steps i ≡ Some step
    → Follows plan sources (earlier ++ concluded steps) step
step_follows plan sources earlier [] i step e g = absurd (cc)
step_follows plan sources earlier (first ∷ steps) zero step e g =
    let p = accepted_parts step_form (follows plan sources) earlier first steps e in
    let is : first ≡ step = cc in
    record {
      premises = p.atoms;
      from = subst (λ s. follows plan sources s p.atoms ≡ true) is p.from;
      within = λ a h.
          has_front same_atom atom_exact atom_itself earlier (concluded (first ∷ steps)) a
          (cited_within same_atom atom_exact atom_itself earlier first.premises p.atoms p.cites a h);
    }
step_follows plan sources earlier (first ∷ steps) (suc i) step e g =
    let p = accepted_parts step_form (follows plan sources) earlier first steps e in
    subst (λ xs. Follows plan sources xs step) (append_assoc earlier (first.conclusion ∷ []) (concluded steps))
    (step_follows plan sources (earlier ++ first.conclusion ∷ []) steps i step p.later g)
