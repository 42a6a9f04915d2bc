-- What a settled net tells explains what stands, and what contradicts.
use Rattle.std.proofs.Common.{◌≡◌, ℕ, zero, suc, ◌<◌, Bool, true, false, not, ◌&&◌, ◌||◌, List, [], ◌∷◌, ◌++◌, get_or}
use Rattle.std.proofs.Common.{length, take, refl, sym, ◌∙◌, ap, subst, inl, inr, arith}
use Rattle.std.specs.Prelude.{Option, None, Some, option_map, position}
use Rattle.std.specs.List.{AllByRecursion, IsDistinct, list_any}
use Rattle.std.proofs.lemmas.Bool.{and_from, and_parts}
use Rattle.std.proofs.lemmas.List.Quantifiers.{position-Some}
use Rattle.std.proofs.lemmas.Map.Keys.{IsDistinct-tail}
use Rattle.vc_base.specs.Chains.{StepForm, accepted, is_justified}
use Rattle.vc_base.specs.Sets.{has}
use Rattle.vc_base.proofs.SetLaws.{told}
use Rattle.vc_plan.specs.declared.atoms.Atom.{Atom}
use Rattle.vc_plan.specs.declared.atoms.Atom.TheVariants.{Here}
use Rattle.vc_plan.specs.declared.atoms.Step.{Step}
use Rattle.vc_plan.specs.Seen.{same_atom}
use Rattle.vc_plan.proofs.PlanLaws.Atoms.{atom_exact, atom_itself}
use Rattle.vc_plan_reasons.specs.Checking.{concluded, ends_with, follows, step_form}
use Rattle.vc_plan_reasons.specs.Trimming.{trimmed_clash}
use Rattle.vc_net_chains.specs.Explaining.{ExplainsAtom, ExplainsBreak, is_inferred}
use Rattle.vc_plan_reasons.proofs.ReasonLaws.Trimming.{trimmed_clashes_refute, trimmed_is_a_chain}
use Rattle.vc_net_log.specs.Logs.{set_of}
use Rattle.vc_net_chains.specs.Telling.{chain_at}
use Rattle.vc_net.specs.Ending.{ChainsExplain, ClashesExplain, EndsAs, LogsExplain}
use Rattle.vc_net.proofs.NumberLaws.{first_at, none_at}

pub logs_explain : LogsExplain
logs_explain plan sources work done none =
    let end : EndsAs plan sources work None = subst (EndsAs plan sources work) none done.ends in
    (end.3, IsDistinct-tail same_atom (Here 0) (concluded work.log.steps) done.going.working.distinct)

pub clashes_explain : ClashesExplain
clashes_explain plan sources work clash done is =
    let end : EndsAs plan sources work (Some clash) = subst (EndsAs plan sources work) is done.ends in
    subst (λ o. ExplainsBreak plan sources (option_map trimmed_clash o)) (sym is)
    (trimmed_clashes_refute plan sources clash end.1)

-- where the first that passes is, tells whether one does
module _ {X : Type 0} (p : X → Bool) (xs : List X) where
  not_there : position p xs ≡ None → list_any p xs ≡ false
  not_there e =
      elim (told (list_any p xs)) [
        | inl h ↦ absurd (cc (sym (first_at p xs h) ∙ e))
        | inr h ↦ h
      ]

  is_there : (n : ℕ) → position p xs ≡ Some n → list_any p xs ≡ true
  is_there n e =
      elim (told (list_any p xs)) [
        | inl h ↦ h
        | inr h ↦ absurd (cc (sym (none_at p xs h) ∙ e))
      ]

-- the root's atom is none of those that are concluded, and all others stand by reasons
apart : (a : Atom) (atoms : List Atom) → AllByRecursion (λ b. same_atom a b ≡ false) atoms
    → has same_atom atoms a ≡ false
apart a [] all = refl
apart a (b ∷ atoms) all = ap (λ x. x || has same_atom atoms a) all.0 ∙ apart a atoms all.1

inferred_alone : (atoms : List Atom) (atom : Atom) → AllByRecursion (λ b. same_atom (Here 0) b ≡ false) atoms
    → is_inferred (Here 0 ∷ atoms) atom ≡ has same_atom atoms atom
inferred_alone atoms atom all = by (same_atom (Here 0) atom) refl
  where
    at_root : same_atom (Here 0) atom ≡ true → has same_atom atoms atom ≡ false
    at_root e = ap (has same_atom atoms) (sym (atom_exact (Here 0) atom e)) ∙ apart (Here 0) atoms all

    elsewhere : (b : Bool) → same_atom (Here 0) atom ≡ false → same_atom atom (Here 0) ≡ b
        → (b || has same_atom atoms atom) ≡ has same_atom atoms atom
    elsewhere true e is =
        let same : atom ≡ Here 0 = atom_exact atom (Here 0) is in
        absurd (cc (sym (subst (λ a. same_atom (Here 0) a ≡ true) (sym same) (atom_itself (Here 0))) ∙ e))
    elsewhere false e is = refl

    by : (b : Bool) → same_atom (Here 0) atom ≡ b
        → (not b && (same_atom atom (Here 0) || has same_atom atoms atom)) ≡ has same_atom atoms atom
    by true e = sym (at_root e)
    by false e = elsewhere (same_atom atom (Here 0)) e refl

inferred_steps : (steps : List Step) (atom : Atom) → IsDistinct same_atom (Here 0 ∷ concluded steps)
    → is_inferred (Here 0 ∷ concluded steps) atom ≡ has same_atom (concluded steps) atom
unfolding IsDistinct
inferred_steps steps atom distinct = inferred_alone (concluded steps) atom distinct.0

-- the first steps of an accepted list are accepted
accepted_front : {S A : Type 0} (form : StepForm S A) (follows : S → List A → Bool) (earlier : List A) (n : ℕ)
    (steps : List S) → accepted form follows earlier steps ≡ true → accepted form follows earlier (take n steps) ≡ true
accepted_front form follows earlier zero [] e = refl
accepted_front form follows earlier (suc n) [] e = refl
accepted_front form follows earlier zero (step ∷ steps) e = refl
accepted_front form follows earlier (suc n) (step ∷ steps) e =
    let later = earlier ++ form.conclusion step ∷ [] in
    let p = and_parts (is_justified form follows earlier step) (accepted form follows later steps) e in
    and_from (is_justified form follows earlier step) (accepted form follows later (take n steps)) p.0
    (accepted_front form follows later n steps p.1)

-- they end with what the last of them concludes
last_of_front : (atom : Atom) (steps : List Step) (n : ℕ) (d : Atom) → n < length (concluded steps)
    → same_atom atom (get_or (concluded steps) n d) ≡ true → ends_with atom (take (suc n) steps) ≡ true
last_of_front atom [] n d low e = absurd (omega (arith, low))
last_of_front atom (step ∷ steps) zero d low e =
    subst (λ a. same_atom a atom ≡ true) (atom_exact atom step.conclusion e) (atom_itself atom)
last_of_front atom (step ∷ []) (suc n) d low e = absurd (omega (arith, low))
last_of_front atom (step ∷ (next ∷ steps)) (suc n) d low e =
    last_of_front atom (next ∷ steps) n d (omega (arith, low)) e

pub chains_explain : ChainsExplain
chains_explain plan sources work atom done =
    by (position (same_atom atom) (concluded work.log.steps)) refl
  where
    same : is_inferred (set_of work.log) atom ≡ has same_atom (concluded work.log.steps) atom
    same = inferred_steps work.log.steps atom done.going.working.distinct

    by : (o : Option ℕ) → position (same_atom atom) (concluded work.log.steps) ≡ o
        → ExplainsAtom plan sources (set_of work.log) atom (chain_at work.log.steps o)
    by None e = same ∙ not_there (same_atom atom) (concluded work.log.steps) e
    by (Some n) e =
        let found = position-Some (same_atom atom) (concluded work.log.steps) n (Here 0) e in (
          same ∙ is_there (same_atom atom) (concluded work.log.steps) n e,
          trimmed_is_a_chain plan sources atom (take (suc n) work.log.steps)
              (accepted_front step_form (follows plan sources) [] (suc n) work.log.steps done.going.accepted)
              (last_of_front atom work.log.steps n (Here 0) found.0 found.1),
        )
