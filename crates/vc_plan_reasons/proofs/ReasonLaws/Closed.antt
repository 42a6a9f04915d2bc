-- What accepted and whole lists conclude, against closed sets.
use Rattle.std.proofs.Common.{◌≡◌, ◌<◌, Bool, true, ◌&&◌, List, [], ◌∷◌, length, ◌∙◌, ap, inl, inr, subst}
use Rattle.std.specs.List.{list_all}
use Rattle.std.proofs.lemmas.Bool.{and_parts}
use Rattle.vc_base.specs.Rounds.{Given, clash, atoms, is_clash, atoms_of, settled, some_clash}
use Rattle.vc_base.specs.Sets.{has, Within}
use Rattle.vc_base.proofs.ChainLaws as chains
use Rattle.vc_base.proofs.Counting as counting
use Rattle.vc_base.proofs.SetLaws.{same_test, told, has_either, has_first, has_front, has_more}
use Rattle.vc_base.proofs.Settling as settling
use Rattle.vc_plan.specs.declared.atoms.Atom.{Atom}
use Rattle.vc_plan.specs.declared.atoms.Step.{Step}
use Rattle.vc_plan.specs.declared.plans.Plan.{Plan}
use Rattle.vc_plan.specs.Clear.{is_clear}
use Rattle.vc_plan.specs.Domains.{atom_count}
use Rattle.vc_plan.specs.Gives.{Giver, gives, givers_of}
use Rattle.vc_plan.specs.Laws.{IsClosed}
use Rattle.vc_plan.specs.Seen.{same_atom, seen_of}
use Rattle.vc_plan.specs.Settle.{system_of, base, settlement_of}
use Rattle.vc_plan.specs.Sources.{Sources}
use Rattle.vc_plan.proofs.PlanLaws.Atoms.{atom_exact, atom_itself}
use Rattle.vc_plan.proofs.PlanLaws.Givers.{system_laws}
use Rattle.vc_plan.proofs.PlanLaws.Rounds.{rounds_suffice, settles_below_closed, settles_least}
use Rattle.vc_plan_reasons.specs.Checking.{ends_with, is_trimmed_chain, concluded, follows, is_accepted, is_silent}
use Rattle.vc_plan_reasons.specs.Checking.{set_with, step_form}
use Rattle.vc_plan_reasons.specs.Laws.{AcceptedUnrefused, ChainsStand, ConclusionsStand, WholeSettles}
use Rattle.vc_plan_reasons.proofs.ReasonLaws.Givers.{following, is_given, rooted}

pub accepted_unrefused : AcceptedUnrefused
accepted_unrefused plan sources steps = chains.accepted_unrefused step_form (follows plan sources) [] steps

pub conclusions_stand : ConclusionsStand
conclusions_stand plan sources steps closed e c w =
    chains.accepted_within (system_of plan sources) (system_laws plan sources) step_form (follows plan sources) base
    (is_given plan sources) closed
    (record { clear = c.clear; calm = c.calm; given = c.given }) w [] steps (λ a h. absurd (cc)) e

-- with the start
pub all_stand : (plan : Plan) (closed part : List Atom) → Within same_atom base closed → Within same_atom part closed
    → Within same_atom (set_with part) closed
all_stand plan closed part w v a h =
    elim (has_either same_atom atom_exact atom_itself base part a h) [ inl e ↦ w a e | inr e ↦ v a e ]

-- what settling ends at is closed, and the root is here
pub record Settled (plan : Plan) (sources : Sources) (set : List Atom) : Type 0 where
  pub closed : IsClosed plan sources set
  pub root : Within same_atom base set

pub settled_closed : (plan : Plan) (sources : Sources) (set : List Atom) → 0 < length plan.slots
    → settlement_of plan sources ≡ settled set
    → Settled plan sources set
settled_closed plan sources set some e = record {
  closed = rounds_suffice plan sources set some e;
  root = counting.settled_holds (system_of plan sources) (system_laws plan sources) (atom_count plan) base set e;
}

-- a test that all of a list pass
pub all_in : {O : Type 0} (p : O → Bool) (o : O) (os : List O) → list_all p os ≡ true → settling.IsIn o os → p o ≡ true
all_in p o [] e i = absurd i
all_in p o (x ∷ os) e (inl q) = ap p q ∙ (and_parts (p x) (list_all p os) e).0
all_in p o (x ∷ os) e (inr i) = all_in p o os (and_parts (p x) (list_all p os) e).1 i

pub silent_calm : (x : Given Atom) → is_silent x ≡ true → is_clash x ≡ true → ⊥
silent_calm clash e h = cc
silent_calm (atoms xs) e h = cc

pub silent_none : (x : Given Atom) (a : Atom) → is_silent x ≡ true → has same_atom (atoms_of x) a ≡ true → ⊥
silent_none clash a e h = cc
silent_none (atoms []) a e h = cc
silent_none (atoms (b ∷ more)) a e h = cc

-- a clear set at which every giver is silent is closed
silent_closed : (plan : Plan) (sources : Sources) (set : List Atom) → is_clear plan set ≡ true
    → list_all (λ giver. is_silent (gives plan sources giver (seen_of set))) (givers_of plan) ≡ true
    → IsClosed plan sources set
silent_closed plan sources set clear silent =
    let system = system_of plan sources in
    let quiet : (o : Giver) → settling.IsIn o (givers_of plan) → is_silent (gives plan sources o (seen_of set)) ≡ true
    = λ o i. all_in (λ giver. is_silent (gives plan sources giver (seen_of set))) o (givers_of plan) silent i in
    record {
      clear = clear;
      calm = elim (told (some_clash system set)) [
        | inl e ↦
            let r = settling.any_at (λ giver. is_clash (gives plan sources giver (seen_of set))) (givers_of plan) e in
            absurd (silent_calm (gives plan sources r.0 (seen_of set)) (quiet r.0 r.1) r.2)
        | inr e ↦ e
      ];
      given = λ a h.
          let r = settling.giver_of system (system_laws plan sources)
          (λ giver. atoms_of (gives plan sources giver (seen_of set))) (givers_of plan) a h in
          absurd (silent_none (gives plan sources r.0 (seen_of set)) a (quiet r.0 r.1) r.2);
    }

pub whole_settles : WholeSettles
whole_settles plan sources steps e =
    let set = set_with (concluded steps) in
    let accepted = is_accepted plan sources steps in
    let clear = is_clear plan set in
    let silent = list_all (λ giver. is_silent (gives plan sources giver (seen_of set))) (givers_of plan) in
    let p : (accepted ≡ true) × ((clear && silent) ≡ true) = and_parts accepted (clear && silent) e in
    let q : (clear ≡ true) × (silent ≡ true) = and_parts clear silent p.1 in
    let closed : IsClosed plan sources set = silent_closed plan sources set q.0 q.1 in
    let root : Within same_atom base set
    = λ a h. has_front same_atom atom_exact atom_itself base (concluded steps) a h in
    let end = settles_below_closed plan sources set closed root in
    let s : Settled plan sources end.0
    = settled_closed plan sources end.0 (rooted plan (concluded steps) q.0) end.1 in (
      end.0,
      end.1,
      λ a. same_test (has same_atom end.0 a) (has same_atom set a)
          (settles_least plan sources end.0 set end.1 closed root a)
          (all_stand plan end.0 (concluded steps) s.root
          (conclusions_stand plan sources steps end.0 p.0 s.closed s.root) a),
    )

-- the last conclusion is one
ends_concluded : (atom : Atom) (steps : List Step) → ends_with atom steps ≡ true
    → has same_atom (concluded steps) atom ≡ true
ends_concluded atom [] e = absurd (cc)
ends_concluded atom (step ∷ []) e =
    let is : step.conclusion ≡ atom = atom_exact step.conclusion atom e in
    subst (λ a. has same_atom (step.conclusion ∷ []) a ≡ true) is
    (has_first same_atom atom_exact atom_itself step.conclusion [])
ends_concluded atom (step ∷ (next ∷ more)) e =
    has_more same_atom atom_exact atom_itself step.conclusion (concluded (next ∷ more)) atom
    (ends_concluded atom (next ∷ more) e)

-- a list that ends with something has a first step, at whose premises the root is
ended_rooted : (plan : Plan) (sources : Sources) (atom : Atom) (steps : List Step)
    → is_accepted plan sources steps ≡ true
    → ends_with atom steps ≡ true → 0 < length plan.slots
ended_rooted plan sources atom [] e h = absurd (cc)
ended_rooted plan sources atom (step ∷ steps) e h =
    let p = chains.accepted_parts step_form (follows plan sources) [] step steps e in
    let f = following plan sources step p.atoms p.from in
    rooted plan p.atoms f.clear

pub chains_stand : ChainsStand
chains_stand plan sources atom steps set e ends =
    let accepted = is_accepted plan sources steps in
    let trimmed = is_trimmed_chain steps in
    let p : ((accepted && trimmed) ≡ true) × (ends_with atom steps ≡ true)
    = and_parts (accepted && trimmed) (ends_with atom steps) e in
    let q : (accepted ≡ true) × (trimmed ≡ true) = and_parts accepted trimmed p.0 in
    let s : Settled plan sources set
    = settled_closed plan sources set (ended_rooted plan sources atom steps q.0 p.1) ends in
    conclusions_stand plan sources steps set q.0 s.closed s.root atom (ends_concluded atom steps p.1)
