-- One step more: what a giver gives at what is concluded is a step that an accepted list can go on with.
use Rattle.std.proofs.Common.{◌≡◌, ℕ, Bool, true, false, cond, not, ◌&&◌, List, [], ◌∷◌, ◌++◌, map, refl, sym, ◌∙◌, ap}
use Rattle.std.proofs.Common.{subst, inl, inr, append-nil, append_assoc}
use Rattle.std.specs.Prelude.{Option, None, Some, ◌==◌}
use Rattle.std.specs.List.{filter}
use Rattle.std.proofs.lemmas.Bool.{and_from, and_parts, eq-eqb, false_from_ne_true, not-true, not_from_false}
use Rattle.vc_base.specs.Chains.{accepted, all_pass, cited, is_justified}
use Rattle.vc_base.specs.Rounds.{Given, clash, atoms, atoms_of}
use Rattle.vc_base.specs.Sets.{has}
use Rattle.vc_base.proofs.SetLaws.{both, filter_has, has_cases, has_filter}
use Rattle.vc_value.specs.declared.value.Value.{Value}
use Rattle.vc_plan.specs.declared.atoms.Atom.{Atom}
use Rattle.vc_plan.specs.declared.atoms.Atom.TheVariants.{Here, Out, Is}
use Rattle.vc_plan.specs.declared.atoms.Mark.{Mark}
use Rattle.vc_plan.specs.declared.atoms.Mark.TheVariants.{Held, Outside}
use Rattle.vc_plan.specs.declared.atoms.Origin.{Origin}
use Rattle.vc_plan.specs.declared.atoms.Origin.TheVariants as origins
use Rattle.vc_plan.specs.declared.atoms.Step.{Step}
use Rattle.vc_plan.specs.declared.plans.Plan.{Plan}
use Rattle.vc_plan.specs.Answers.{fresh}
use Rattle.vc_plan.specs.Clear.{is_clear}
use Rattle.vc_plan.specs.Gives.{Giver, by_rule, by_user, by_entry, entry_says, giver_says, gives, if_here, mark_says}
use Rattle.vc_plan.specs.Gives.{value_says}
use Rattle.vc_plan.specs.Seen.{Seen, is_here, is_value, same_atom, says, seen_of, value_in}
use Rattle.vc_plan.specs.Sources.{Entry, Sources, entry_of, user_of}
use Rattle.vc_plan.proofs.PlanLaws.Atoms.{atom_exact, atom_itself, value_itself}
use Rattle.vc_plan.proofs.PlanLaws.Extending.{Extends, extends, one_value, value_has, value_read}
use Rattle.vc_plan.proofs.PlanLaws.Facts.{facts, part_clear}
use Rattle.vc_plan_reasons.specs.Checking.{are_of, concluded, follows, given_by, giver_from, giver_of, is_accepted}
use Rattle.vc_plan_reasons.specs.Checking.{is_by, set_with, step_form, things_read, var_of}
use Rattle.vc_plan_reasons.specs.Things.{Thing, giver_reads, has_thing, thing_of}
use Rattle.vc_plan_reasons.proofs.ReasonLaws.Local.{says_locally}
use Rattle.vc_plan_reasons.proofs.ReasonLaws.Blaming.{part_alike, part_within, all_filtered}
use Rattle.vc_plan_blame.specs.Blame.{number_of}
use Rattle.vc_plan_blame.proofs.BlameLaws.Citing.{numbers_found}
use Rattle.vc_plan_blame.proofs.BlameLaws.Origins.{if_said, unfresh}

-- the origin that means a giver of an atom
pub record OriginOf (sources : Sources) (giver : Giver) (a : Atom) : Type 0 where
  pub origin : Origin
  pub is : giver_from sources origin (var_of a) ≡ Some giver

value_var : (v : ℕ) (o : Option Value) (a : Atom) → has same_atom (atoms_of (value_says v o)) a ≡ true
    → var_of a ≡ Some v
value_var v None a h = absurd (cc)
value_var v (Some x) a h =
    elim (has_cases same_atom atom_exact atom_itself (Is v x) [] a h) [ inl e ↦ ap var_of e | inr k ↦ absurd (cc) ]

mark_var : (v : ℕ) (m : Mark) (a : Atom) → has same_atom (atoms_of (mark_says v m)) a ≡ true → var_of a ≡ Some v
mark_var v (Held x) a h =
    elim (has_cases same_atom atom_exact atom_itself (Is v x) [] a h) [ inl e ↦ ap var_of e | inr k ↦ absurd (cc) ]
mark_var v Outside a h = absurd (cc)

entry_origin : (sources : Sources) (v : ℕ) (o : Option Entry) (a : Atom) → entry_of sources v ≡ o
    → has same_atom (atoms_of (entry_says v o)) a ≡ true → OriginOf sources (by_entry v) a
entry_origin sources v None a e h = absurd (cc)
entry_origin sources v (Some entry) a e h =
    let by : is_by entry.procedure entry.statement (entry_of sources v) ≡ true
    = ap (is_by entry.procedure entry.statement) e
    ∙ and_from (entry.procedure == entry.procedure) (entry.statement == entry.statement)
    (eq-eqb entry.procedure entry.procedure refl) (eq-eqb entry.statement entry.statement refl) in
    record {
      origin = origins.Written entry.procedure entry.statement;
      is = ap (giver_from sources (origins.Written entry.procedure entry.statement)) (mark_var v entry.mark a h)
          ∙ ap (λ b. cond b (Some (by_entry v)) None) by;
    }

pub origin_of : (plan : Plan) (sources : Sources) (giver : Giver) (s : Seen) (a : Atom)
    → has same_atom (atoms_of (gives plan sources giver s)) a ≡ true → OriginOf sources giver a
origin_of plan sources (by_rule r) s a h = record { origin = origins.Rule r; is = refl }
origin_of plan sources (by_user v) s a h =
    let said = value_says v (user_of sources v) in
    record {
      origin = origins.User;
      is = ap (giver_from sources origins.User)
          (value_var v (user_of sources v) a
          (if_said (is_here plan s v) said a (unfresh s (if_here plan s v said) a h)));
    }
origin_of plan sources (by_entry v) s a h =
    let said = entry_says v (entry_of sources v) in
    entry_origin sources v (entry_of sources v) a refl
    (if_said (is_here plan s v) said a (unfresh s (if_here plan s v said) a h))

-- what is said at a part is said at the whole, and what stands in a clear set is said
says_grows : (plan : Plan) (part set : List Atom) → Extends plan (seen_of part) (seen_of set) → (a : Atom)
    → says (seen_of part) a ≡ true → says (seen_of set) a ≡ true
says_grows plan part set x (Here i) h = x.here i h
says_grows plan part set x (Out v g) h = x.out v g h
says_grows plan part set x (Is v b) h = by (value_in part v) refl h
  where
    by : (o : Option Value) → value_in part v ≡ o → is_value b o ≡ true → is_value b (value_in set v) ≡ true
    by None e k = absurd (cc)
    by (Some c) e k = ap (is_value b) (x.value v c e) ∙ k

pub has_says : (plan : Plan) (set : List Atom) → is_clear plan set ≡ true → (a : Atom) → has same_atom set a ≡ true
    → says (seen_of set) a ≡ true
has_says plan set clear (Here i) h = h
has_says plan set clear (Out v g) h = h
has_says plan set clear (Is v b) h =
    let r = value_read set v b h in
    let same : b ≡ r.0 = one_value plan set (facts plan set clear) v b r.0 h (value_has set v r.0 r.1) in
    ap (is_value b) (r.1 ∙ ap Some (sym same)) ∙ value_itself b

-- what is given doesn't stand
pub given_new : (plan : Plan) (sources : Sources) (giver : Giver) (set : List Atom) → is_clear plan set ≡ true
    → (a : Atom)
    → has same_atom (atoms_of (gives plan sources giver (seen_of set))) a ≡ true → has same_atom set a ≡ false
given_new plan sources giver set clear a h =
    false_from_ne_true (has same_atom set a)
    (λ k. by (giver_says plan sources giver (seen_of set)) h (has_says plan set clear a k))
  where
    by : (x : Given Atom) → has same_atom (atoms_of (fresh (seen_of set) x)) a ≡ true → says (seen_of set) a ≡ true → ⊥
    by clash q k = cc
    by (atoms xs) q k =
        both k
        (not-true (says (seen_of set) a)
        (has_filter same_atom atom_exact atom_itself (λ b. not (says (seen_of set) b)) xs a q).1)

-- the atoms of the things that a giver reads: it says there what it says at the whole
abbrev is_of : List Thing → Atom → Bool
is_of things a = has_thing things (thing_of a)

given_at_part : (plan : Plan) (sources : Sources) (giver : Giver) (stand : List Atom) (a : Atom)
    → is_clear plan (set_with stand) ≡ true
    → has same_atom (atoms_of (gives plan sources giver (seen_of (set_with stand)))) a ≡ true
    → has same_atom (atoms_of
    (gives plan sources giver (seen_of (set_with (filter (is_of (giver_reads plan giver)) stand))))) a ≡ true
given_at_part plan sources giver stand a clear h =
    ap (λ x. has same_atom (atoms_of (fresh (seen_of part) x)) a)
    (says_locally plan sources giver part (set_with stand) clear (part_alike things stand))
    ∙ by (giver_says plan sources giver (seen_of (set_with stand))) h
  where
    things : List Thing
    things = giver_reads plan giver

    part : List Atom
    part = set_with (filter (is_of things) stand)

    by : (x : Given Atom) → has same_atom (atoms_of (fresh (seen_of (set_with stand)) x)) a ≡ true
        → has same_atom (atoms_of (fresh (seen_of part) x)) a ≡ true
    by clash q = q
    by (atoms xs) q =
        let p = has_filter same_atom atom_exact atom_itself (λ b. not (says (seen_of (set_with stand)) b)) xs a q in
        let silent : says (seen_of part) a ≡ false
        = false_from_ne_true (says (seen_of part) a) (λ k.
        both (says_grows plan part (set_with stand)
        (extends plan part (set_with stand) clear (part_within things stand)) a k)
        (not-true (says (seen_of (set_with stand)) a) p.1)) in
        filter_has same_atom atom_exact atom_itself (λ b. not (says (seen_of part) b)) xs a p.0
        (not_from_false (says (seen_of part) a) silent)

-- an accepted list goes on with a step that follows from what it cites of it
accepted_next : (plan : Plan) (sources : Sources) (earlier : List Atom) (steps : List Step) (step : Step)
    → accepted step_form (follows plan sources) earlier steps ≡ true
    → is_justified step_form (follows plan sources) (earlier ++ concluded steps) step ≡ true
    → accepted step_form (follows plan sources) earlier (steps ++ step ∷ []) ≡ true
accepted_next plan sources earlier [] step e j =
    and_from (is_justified step_form (follows plan sources) earlier step) true
    (subst (λ xs. is_justified step_form (follows plan sources) xs step ≡ true) (append-nil earlier) j) refl
accepted_next plan sources earlier (first ∷ steps) step e j =
    let later = accepted step_form (follows plan sources) (earlier ++ first.conclusion ∷ []) in
    let p = and_parts (is_justified step_form (follows plan sources) earlier first) (later steps) e in
    and_from (is_justified step_form (follows plan sources) earlier first) (later (steps ++ step ∷ [])) p.0
    (accepted_next plan sources (earlier ++ first.conclusion ∷ []) steps step p.1
    (subst (λ xs. is_justified step_form (follows plan sources) xs step ≡ true)
    (sym (append_assoc earlier (first.conclusion ∷ []) (concluded steps))) j))

-- the step that a giver can take
pub record NextStep (plan : Plan) (sources : Sources) (log : List Step) (a : Atom) : Type 0 where
  pub step : Step
  pub concludes : step.conclusion ≡ a
  pub accepts : is_accepted plan sources (log ++ step ∷ []) ≡ true

pub next_step : (plan : Plan) (sources : Sources) (log : List Step) (giver : Giver) (a : Atom)
    → is_accepted plan sources log ≡ true → is_clear plan (set_with (concluded log)) ≡ true
    → has same_atom (atoms_of (gives plan sources giver (seen_of (set_with (concluded log))))) a ≡ true
    → NextStep plan sources log a
next_step plan sources log giver a e clear h =
    let stand = concluded log in
    let things = giver_reads plan giver in
    let premises = filter (is_of things) stand in
    let o : OriginOf sources giver a = origin_of plan sources giver (seen_of (set_with stand)) a h in
    let step : Step = record { conclusion = a; origin = o.origin; premises = map (number_of stand) premises } in
    let cites : cited stand (map (number_of stand) premises) ≡ Some premises
    = numbers_found stand premises (λ b k. (has_filter same_atom atom_exact atom_itself (is_of things) stand b k).0) in
    let clear_part : is_clear plan (set_with premises) ≡ true
    = part_clear plan (set_with premises) (set_with stand) clear (part_within things stand) in
    let read : are_of (things_read plan (giver_of sources step)) premises ≡ true
    = ap (λ g. are_of (things_read plan g) premises) o.is ∙ all_filtered (is_of things) stand in
    let given : has same_atom (atoms_of (given_by plan sources (giver_of sources step) (set_with premises))) a ≡ true
    = ap (λ g. has same_atom (atoms_of (given_by plan sources g (set_with premises))) a) o.is
    ∙ given_at_part plan sources giver stand a clear h in
    let follow : follows plan sources step premises ≡ true
    = and_from (is_clear plan (set_with premises) && are_of (things_read plan (giver_of sources step)) premises)
    (has same_atom (atoms_of (given_by plan sources (giver_of sources step) (set_with premises))) a)
    (and_from (is_clear plan (set_with premises)) (are_of (things_read plan (giver_of sources step)) premises)
    clear_part read) given in
    record {
      step = step;
      concludes = refl;
      accepts = accepted_next plan sources [] log step e (ap (all_pass (follows plan sources step)) cites ∙ follow);
    }
