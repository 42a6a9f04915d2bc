-- Sources that are equal for a variable don't differ there, and give values alone.
use Rattle.std.proofs.Common.{◌≡◌, ℕ, Bool, true, false, not, ◌&&◌, ◌++◌, List, [], ◌∷◌, refl, sym, ◌∙◌, ap, inl, inr}
use Rattle.std.specs.Prelude.{Option, None, Some, ◌==◌, if◌then◌else◌}
use Rattle.std.proofs.lemmas.Bool.{and_from, and_parts, eq-eqb}
use Rattle.vc_base.specs.Chains.{accepted}
use Rattle.vc_base.specs.Rounds.{atoms_of}
use Rattle.vc_base.specs.Sets.{has}
use Rattle.vc_base.proofs.ChainLaws.{accepted_parts}
use Rattle.vc_base.proofs.SetLaws.{has_cases}
use Rattle.vc_value.specs.declared.value.Value.{Value}
use Rattle.vc_plan.specs.declared.atoms.Atom.{Atom}
use Rattle.vc_plan.specs.declared.atoms.Atom.TheVariants.{Is}
use Rattle.vc_plan.specs.declared.atoms.Mark.{Mark}
use Rattle.vc_plan.specs.declared.atoms.Mark.TheVariants.{Held, Outside}
use Rattle.vc_plan.specs.declared.atoms.Origin.{Origin}
use Rattle.vc_plan.specs.declared.atoms.Origin.TheVariants.{Rule, User, Written}
use Rattle.vc_plan.specs.declared.atoms.Step.{Step}
use Rattle.vc_plan.specs.declared.plans.Plan.{Plan}
use Rattle.vc_plan.specs.Clear.{is_clear}
use Rattle.vc_plan.specs.Gives.{by_entry, entry_says, if_here, mark_says, value_says}
use Rattle.vc_plan.specs.Seen.{is_here, same_atom, seen_of}
use Rattle.vc_plan.specs.Sources.{Entry, Sources, entry_of, user_of}
use Rattle.vc_plan.proofs.PlanLaws.Atoms.{atom_exact, atom_itself, value_itself}
use Rattle.vc_plan_blame.proofs.BlameLaws.Origins.{if_said, unfresh}
use Rattle.vc_plan_reasons.specs.Checking.{are_of, follows, given_by, giver_from, giver_of, is_accepted, is_by}
use Rattle.vc_plan_reasons.specs.Checking.{set_with}
use Rattle.vc_plan_reasons.specs.Checking.{step_form, things_read, var_of}
use Rattle.vc_plan_reasons.specs.Keeping.{entry_differs, same_entry, same_mark, same_user, user_differs}
use Rattle.vc_net_log.specs.Differing.{are_givable, is_of_value, may_give}
use Rattle.vc_net_log.specs.Logs.{facts_of}

-- what is equal doesn't differ
user_itself : (o : Option Value) → same_user o o ≡ true
user_itself None = refl
user_itself (Some a) = value_itself a

mark_itself : (m : Mark) → same_mark m m ≡ true
mark_itself (Held a) = value_itself a
mark_itself Outside = refl

entry_itself : (o : Option Entry) → same_entry o o ≡ true
entry_itself None = refl
entry_itself (Some e) =
    and_from (same_mark e.mark e.mark) ((e.procedure == e.procedure) && (e.statement == e.statement))
    (mark_itself e.mark)
    (and_from (e.procedure == e.procedure) (e.statement == e.statement) (eq-eqb e.procedure e.procedure refl)
    (eq-eqb e.statement e.statement refl))

pub user_stays : (old new : Sources) (v : ℕ) → user_of old v ≡ user_of new v → user_differs old new v ≡ false
user_stays old new v e =
    ap not (ap (same_user (user_of old v)) (sym e) ∙ user_itself (user_of old v))

pub entry_stays : (old new : Sources) (v : ℕ) → entry_of old v ≡ entry_of new v → entry_differs old new v ≡ false
entry_stays old new v e =
    ap not (ap (same_entry (entry_of old v)) (sym e) ∙ entry_itself (entry_of old v))

-- what a source says is a value
only_value : (v : ℕ) (x : Value) (a : Atom) → has same_atom (Is v x ∷ []) a ≡ true → is_of_value a ≡ true
only_value v x a h =
    elim (has_cases same_atom atom_exact atom_itself (Is v x) [] a h) [
      | inl is ↦ ap is_of_value is
      | inr none ↦ absurd (cc)
    ]

user_value : (v : ℕ) (o : Option Value) (a : Atom) → has same_atom (atoms_of (value_says v o)) a ≡ true
    → is_of_value a ≡ true
user_value v None a h = absurd (cc)
user_value v (Some x) a h = only_value v x a h

mark_value : (v : ℕ) (m : Mark) (a : Atom) → has same_atom (atoms_of (mark_says v m)) a ≡ true → is_of_value a ≡ true
mark_value v (Held x) a h = only_value v x a h
mark_value v Outside a h = absurd (cc)

entry_value : (v : ℕ) (o : Option Entry) (a : Atom) → has same_atom (atoms_of (entry_says v o)) a ≡ true
    → is_of_value a ≡ true
entry_value v None a h = absurd (cc)
entry_value v (Some entry) a h = mark_value v entry.mark a h

module _ (plan : Plan) (sources : Sources) where
  user_gives : (v : ℕ) (set : List Atom) (a : Atom)
      → has same_atom (atoms_of (given_by plan sources (giver_from sources User (Some v)) set)) a ≡ true
      → is_of_value a ≡ true
  user_gives v set a h =
      let said = value_says v (user_of sources v) in
      user_value v (user_of sources v) a
      (if_said (is_here plan (seen_of set) v) said a (unfresh (seen_of set) (if_here plan (seen_of set) v said) a h))

  entry_gives : (v : ℕ) (set : List Atom) (a : Atom) (b : Bool)
      → has same_atom (atoms_of (given_by plan sources (if b then Some (by_entry v) else None) set)) a ≡ true
      → is_of_value a ≡ true
  entry_gives v set a true h =
      let said = entry_says v (entry_of sources v) in
      entry_value v (entry_of sources v) a
      (if_said (is_here plan (seen_of set) v) said a (unfresh (seen_of set) (if_here plan (seen_of set) v said) a h))
  entry_gives v set a false h = absurd (cc)

  may_be_given : (origin : Origin) (a : Atom) (v : Option ℕ) (set : List Atom)
      → has same_atom (atoms_of (given_by plan sources (giver_from sources origin v) set)) a ≡ true
      → may_give origin a ≡ true
  may_be_given (Rule r) a v set h = refl
  may_be_given User a None set h = absurd (cc)
  may_be_given User a (Some v) set h = user_gives v set a h
  may_be_given (Written procedure statement) a None set h = absurd (cc)
  may_be_given (Written procedure statement) a (Some v) set h =
      entry_gives v set a (is_by procedure statement (entry_of sources v)) h

  -- so each fact of an accepted list is such as its origin may give
  accepted_after : (earlier : List Atom) (steps : List Step)
      → accepted step_form (follows plan sources) earlier steps ≡ true → are_givable (facts_of steps) ≡ true
  accepted_after earlier [] h = refl
  accepted_after earlier (step ∷ steps) h =
      let parts = accepted_parts step_form (follows plan sources) earlier step steps h in
      let giver = giver_of sources step in
      let given = atoms_of (given_by plan sources giver (set_with parts.atoms)) in
      and_from (may_give step.origin step.conclusion) (are_givable (facts_of steps))
      (may_be_given step.origin step.conclusion (var_of step.conclusion) (set_with parts.atoms)
      (and_parts (is_clear plan (set_with parts.atoms) && are_of (things_read plan giver) parts.atoms)
      (has same_atom given step.conclusion) parts.from).1)
      (accepted_after (earlier ++ step.conclusion ∷ []) steps parts.later)

  pub accepted_are_givable : (steps : List Step) → is_accepted plan sources steps ≡ true
      → are_givable (facts_of steps) ≡ true
  accepted_are_givable steps h = accepted_after [] steps h
