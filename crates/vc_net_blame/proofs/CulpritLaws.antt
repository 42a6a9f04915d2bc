-- Whom the first facts of premises blame is whom the steps blame that are cited for them.
use Rattle.std.proofs.Common.{◌≡◌, ℕ, zero, suc, ◌+◌, ◌<◌, Bool, true, false, cond, not, ◌&&◌, List, [], ◌∷◌, ◌++◌}
use Rattle.std.proofs.Common.{length, map, refl, sym, ◌∙◌, ap, subst, arith}
use Rattle.std.specs.Prelude.{nat_lt, Option, None, Some, option_map, slice_get}
use Rattle.std.specs.List.{find, position_or_len}
use Rattle.std.proofs.lemmas.Bool.{and_parts, lt-ltb, ltb-true}
use Rattle.std.proofs.lemmas.List.{length-map}
use Rattle.vc_base.specs.Chains.{all_pass, cited}
use Rattle.vc_base.proofs.ChainLaws.{all_there, get_below, passed}
use Rattle.vc_plan.specs.declared.atoms.Atom.{Atom}
use Rattle.vc_plan.specs.declared.atoms.Culprit.{Culprit}
use Rattle.vc_plan.specs.declared.atoms.Origin.{Origin}
use Rattle.vc_plan.specs.declared.atoms.Step.{Step}
use Rattle.vc_plan.specs.declared.plans.Plan.{Plan}
use Rattle.vc_plan.specs.Seen.{same_atom}
use Rattle.vc_plan.specs.Sources.{Sources}
use Rattle.vc_plan.proofs.PlanLaws.Atoms.{atom_exact}
use Rattle.vc_plan_reasons.specs.Checking.{concluded, is_accepted}
use Rattle.vc_plan_reasons.specs.Refuting.{contradicts, is_blamable, refutes}
use Rattle.vc_plan_blame.specs.Blame.{blame, clash_by, clash_of, colliding, culprit_among, culprit_of, first_culprit}
use Rattle.vc_plan_blame.specs.Blame.{number_of, or_else}
use Rattle.vc_plan_blame.specs.Laws.{Blames}
use Rattle.vc_plan_blame.proofs.BlameLaws.LastStep.{concluded_next}
use Rattle.vc_plan_blame.proofs.BlameLaws.LastStep as last_step
use Rattle.vc_net_standing.specs.declared.standing.Fact.{Fact}
use Rattle.vc_net_standing.specs.Standing.{atoms_of}
use Rattle.vc_net_blame.specs.Finding.{colliding_with, culprit_by, culprit_for, origin_for}
use Rattle.vc_net_blame.specs.Laws.{AreFactsOf, IsBlamed, IsFactOf, numbers_of, UnclearIsBlamed}
use Rattle.vc_net_blame.specs.Searching.{first_blamed, origin_at, origin_by}

abbrev is_of : Atom → Fact → Bool
is_of atom fact = same_atom atom fact.atom

abbrev origin : Fact → Origin
origin fact = fact.origin

abbrev origins : List Fact → List Origin
origins facts = map (λ (fact : Fact). fact.origin) facts

-- the first fact of an atom stands at the first place of the atom
fact_placed : (facts : List Fact) (atom : Atom)
    → slice_get facts (position_or_len (same_atom atom) (atoms_of facts)) ≡ find (is_of atom) facts
fact_placed [] atom = refl
fact_placed (fact ∷ facts) atom =
    by (same_atom atom fact.atom) (1 + position_or_len (same_atom atom) (atoms_of facts)) (omega arith)
    (fact_placed facts atom)
  where
    by : (b : Bool) (n : ℕ) → n ≡ suc (position_or_len (same_atom atom) (atoms_of facts))
        → slice_get facts (position_or_len (same_atom atom) (atoms_of facts)) ≡ find (is_of atom) facts
        → slice_get (fact ∷ facts) (cond (not b) n 0) ≡ cond b (Some fact) (find (is_of atom) facts)
    by true n is later = refl
    by false n is later = ap (slice_get (fact ∷ facts)) is ∙ later

get_mapped : {X Y : Type 0} (f : X → Y) (xs : List X) (n : ℕ) → slice_get (map f xs) n ≡ option_map f (slice_get xs n)
get_mapped f [] n = refl
get_mapped f (x ∷ xs) zero = refl
get_mapped f (x ∷ xs) (suc n) = get_mapped f xs n

origin_placed : (facts : List Fact) (atom : Atom)
    → slice_get (origins facts) (position_or_len (same_atom atom) (atoms_of facts)) ≡ origin_for facts atom
origin_placed facts atom =
    get_mapped (λ (fact : Fact). fact.origin) facts (position_or_len (same_atom atom) (atoms_of facts))
    ∙ ap (option_map (λ (fact : Fact). fact.origin)) (fact_placed facts atom)

-- with one fact more the first of an atom stays, else it is that one
find_with : (p : Fact → Bool) (facts : List Fact) (last : Fact) (o : Option Fact) → find p facts ≡ o
    → find p (facts ++ last ∷ []) ≡ or_else o (cond (p last) (Some last) None)
find_with p [] last o e = let none : None ≡ o = e in ap (λ z. or_else z (cond (p last) (Some last) None)) none
find_with p (fact ∷ facts) last o e = by (p fact) e (find_with p facts last o)
  where
    by : (b : Bool) → cond b (Some fact) (find p facts) ≡ o
        → (find p facts ≡ o → find p (facts ++ last ∷ []) ≡ or_else o (cond (p last) (Some last) None))
        → cond b (Some fact) (find p (facts ++ last ∷ [])) ≡ or_else o (cond (p last) (Some last) None)
    by true k later = ap (λ z. or_else z (cond (p last) (Some last) None)) k
    by false k later = later k

get_there : {X : Type 0} (xs : List X) (n : ℕ) → n < length xs → slice_get xs n ≡ None → ⊥
get_there [] n h e = omega (arith, h)
get_there (x ∷ xs) zero h e = cc
get_there (x ∷ xs) (suc n) h e = get_there xs n (omega (arith, h)) e

-- so who gave an atom is told by its number among the facts, or by the last
pub origin_told : (facts : List Fact) (last : Fact) (atom : Atom)
    → origin_at facts last atom ≡ origin_for (facts ++ last ∷ []) atom
origin_told facts last atom = by (find (is_of atom) facts) refl
  where
    place : ℕ
    place = position_or_len (same_atom atom) (atoms_of facts)

    long : length (atoms_of facts) ≡ length facts
    long = length-map facts (λ (fact : Fact). fact.atom)

    lasting : (b : Bool)
        → cond b (Some last.origin) None ≡ option_map (λ (fact : Fact). fact.origin) (cond b (Some last) None)
    lasting true = refl
    lasting false = refl

    nowhere : (b : Bool) → nat_lt place (length (atoms_of facts)) ≡ b → slice_get facts place ≡ None
        → cond b (Some place) None ≡ None
    nowhere true e k = absurd (get_there facts place (let h = ltb-true place (length (atoms_of facts)) e in
        omega (arith, h, long)) k)
    nowhere false e k = refl

    by : (o : Option Fact) → find (is_of atom) facts ≡ o
        → origin_at facts last atom ≡ origin_for (facts ++ last ∷ []) atom
    by None e =
        ap (origin_by facts last atom)
        (nowhere (nat_lt place (length (atoms_of facts))) refl (fact_placed facts atom ∙ e))
        ∙ (lasting (same_atom atom last.atom)
        ∙ sym (ap (option_map (λ (fact : Fact). fact.origin)) (find_with (is_of atom) facts last None e)))
    by (Some fact) e =
        let there : slice_get facts place ≡ Some fact = fact_placed facts atom ∙ e in
        let below : place < length facts = get_below facts place fact there in
        let is : nat_lt place (length (atoms_of facts)) ≡ true =
        lt-ltb place (length (atoms_of facts)) (omega (arith, below, long)) in
        ap (λ b. origin_by facts last atom (cond b (Some place) None)) is
        ∙ (ap (option_map (λ (f : Fact). f.origin)) there
        ∙ sym (ap (option_map (λ (f : Fact). f.origin)) (find_with (is_of atom) facts last (Some fact) e)))

pub blamed_told : (plan : Plan) (facts : List Fact) (last : Fact) (premises : List Atom)
    → first_blamed plan facts last premises ≡ culprit_for plan (facts ++ last ∷ []) premises
blamed_told plan facts last [] = refl
blamed_told plan facts last (a ∷ more) =
    ap (λ o. or_else (culprit_by plan o) (first_blamed plan facts last more)) (origin_told facts last a)
    ∙ ap (or_else (culprit_by plan (origin_for (facts ++ last ∷ []) a))) (blamed_told plan facts last more)

-- whom the origins blame that are cited
culprit_cited : (plan : Plan) (facts : List Fact) (premises : List Atom) (from : List Origin)
    → cited (origins facts) (map (number_of (atoms_of facts)) premises) ≡ Some from
    → first_culprit plan from ≡ culprit_for plan facts premises
culprit_cited plan facts [] from e =
    let none : [] ≡ from = cc in ap (first_culprit plan) (sym none)
culprit_cited plan facts (a ∷ more) from e =
    let r = all_there (slice_get (origins facts) (position_or_len (same_atom a) (atoms_of facts)))
    (cited (origins facts) (map (number_of (atoms_of facts)) more)) from e in
    let by : origin_for facts a ≡ Some r.0 = sym (origin_placed facts a) ∙ r.2 in
    ap (first_culprit plan) r.4
    ∙ (ap (or_else (culprit_by plan (Some r.0))) (culprit_cited plan facts more r.1 r.3)
    ∙ ap (λ o. or_else (culprit_by plan o) (culprit_for plan facts more)) (sym by))

culprit_among_is : (plan : Plan) (facts : List Fact) (premises : List Atom) (culprit : Culprit)
    → culprit_among plan (cited (origins facts) (map (number_of (atoms_of facts)) premises)) ≡ Some culprit
    → culprit_for plan facts premises ≡ Some culprit
culprit_among_is plan facts premises culprit e =
    by (cited (origins facts) (map (number_of (atoms_of facts)) premises)) refl e
  where
    by : (o : Option (List Origin)) → cited (origins facts) (map (number_of (atoms_of facts)) premises) ≡ o
        → culprit_among plan o ≡ Some culprit → culprit_for plan facts premises ≡ Some culprit
    by None q k = absurd (cc)
    by (Some from) q k = sym (culprit_cited plan facts premises from q) ∙ k

-- the numbers of atoms cite just these
place_passes : (p : Atom → Bool) (xs : List Atom) (x : Atom) → slice_get xs (position_or_len p xs) ≡ Some x → p x ≡ true
place_passes p [] x e = absurd (cc)
place_passes p (y ∷ ys) x e = by (p y) (1 + position_or_len p ys) (omega arith) refl e (place_passes p ys x)
  where
    by : (b : Bool) (n : ℕ) → n ≡ suc (position_or_len p ys) → p y ≡ b → slice_get (y ∷ ys) (cond (not b) n 0) ≡ Some x
        → (slice_get ys (position_or_len p ys) ≡ Some x → p x ≡ true) → p x ≡ true
    by true n is q k later = let same : y ≡ x = cc in subst (λ z. p z ≡ true) same q
    by false n is q k later = later (sym (ap (slice_get (y ∷ ys)) is) ∙ k)

cites_these : (stand premises all : List Atom) → cited stand (map (number_of stand) premises) ≡ Some all
    → all ≡ premises
cites_these stand [] all e = let none : [] ≡ all = cc in sym none
cites_these stand (a ∷ more) all e =
    let r = all_there (slice_get stand (position_or_len (same_atom a) stand))
    (cited stand (map (number_of stand) more)) all e in
    let is : a ≡ r.0 = atom_exact a r.0 (place_passes (same_atom a) stand r.0 r.2) in
    r.4 ∙ (ap (λ x. x ∷ r.1) (sym is) ∙ ap (λ xs. a ∷ xs) (cites_these stand more r.1 r.3))

-- lists with one more
map_next : {X Y : Type 0} (f : X → Y) (xs : List X) (x : X) → map f (xs ++ x ∷ []) ≡ map f xs ++ f x ∷ []
map_next f [] x = refl
map_next f (y ∷ ys) x = ap (λ zs. f y ∷ zs) (map_next f ys x)

module _ (plan : Plan) (sources : Sources) (log : List Step) (step : Step) (facts : List Fact) (fact : Fact)
    (all : AreFactsOf facts log) (one : IsFactOf fact step) where
  abbrev steps : List Step
  steps = log ++ step ∷ []

  abbrev whole : List Fact
  whole = facts ++ fact ∷ []

  atoms_stand : atoms_of facts ++ fact.atom ∷ [] ≡ concluded steps
  atoms_stand =
      ap (λ xs. xs ++ fact.atom ∷ []) all.atoms ∙ (ap (λ a. concluded log ++ a ∷ []) one.atom
      ∙ sym (concluded_next log step))

  whole_atoms : atoms_of whole ≡ concluded steps
  whole_atoms = map_next (λ (f : Fact). f.atom) facts fact ∙ atoms_stand

  whole_origins : origins whole ≡ map (λ (s : Step). s.origin) steps
  whole_origins =
      map_next (λ (f : Fact). f.origin) facts fact
      ∙ (ap (λ xs. xs ++ fact.origin ∷ []) all.origins
      ∙ (ap (λ o. map (λ (s : Step). s.origin) log ++ o ∷ []) one.origin
      ∙ sym (map_next (λ (s : Step). s.origin) log step)))

  premises_are : colliding_with plan facts fact.atom ≡ colliding plan (concluded steps) step.conclusion
  premises_are = ap (λ xs. colliding plan xs fact.atom) atoms_stand ∙ ap (colliding plan (concluded steps)) one.atom

  -- a clash that refutes, by whom it blames
  refuted : (premises : List Atom) → colliding_with plan facts fact.atom ≡ premises → (culprit : Culprit)
      → culprit_of plan steps (numbers_of steps premises) ≡ Some culprit
      → refutes plan sources (clash_of steps (numbers_of steps premises) culprit) ≡ true
      → IsBlamed plan sources facts fact steps
  refuted premises is culprit by holds =
      let clash = clash_of steps (numbers_of steps premises) culprit in
      let p = and_parts (is_accepted plan sources steps && is_blamable plan culprit)
      (all_pass (contradicts plan sources clash) (cited (concluded steps) (numbers_of steps premises))) holds in
      let c = passed (contradicts plan sources clash) (cited (concluded steps) (numbers_of steps premises)) p.1 in
      let cites : cited (concluded steps) (numbers_of steps premises) ≡ Some premises =
      c.1 ∙ ap Some (cites_these (concluded steps) premises c.0 c.1) in
      let among : culprit_among plan (cited (origins whole) (map (number_of (atoms_of whole)) premises))
      ≡ Some culprit =
      ap (λ xs. culprit_among plan (cited (origins whole) (map (number_of xs) premises))) whole_atoms
      ∙ (ap (λ os. culprit_among plan (cited os (numbers_of steps premises))) whole_origins ∙ by) in
      record {
        culprit = culprit;
        is = ap (culprit_for plan whole) is ∙ culprit_among_is plan whole premises culprit among;
        cites = subst (λ ps. cited (concluded steps) (numbers_of steps ps) ≡ Some ps) (sym is) cites;
        refuting =
            subst (λ ps. refutes plan sources (clash_of steps (numbers_of steps ps) culprit) ≡ true) (sym is) holds;
      }

  blamed : Blames plan sources (blame plan steps step.conclusion) → IsBlamed plan sources facts fact steps
  blamed b = by (culprit_of plan steps numbers) refl b.1
    where
      premises : List Atom
      premises = colliding plan (concluded steps) step.conclusion

      numbers : List ℕ
      numbers = numbers_of steps premises

      by : (o : Option Culprit) → culprit_of plan steps numbers ≡ o → clash_by steps numbers o ≡ Some b.0
          → IsBlamed plan sources facts fact steps
      by None e k = absurd (cc)
      by (Some culprit) e k =
          let is : clash_of steps numbers culprit ≡ b.0 = cc in
          refuted premises premises_are culprit e (ap (refutes plan sources) is ∙ b.2)

pub unclear_is_blamed : UnclearIsBlamed
unclear_is_blamed plan sources log step facts fact s clear unclear all one =
    blamed plan sources log step facts fact all one
    (last_step.unclear_is_blamed plan sources log step s clear unclear)
