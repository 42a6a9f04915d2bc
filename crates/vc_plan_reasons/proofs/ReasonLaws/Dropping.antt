-- What is dropped of an accepted log is of things that the changed variables reach.
use Rattle.std.proofs.Common.{◌≡◌, ℕ, zero, suc, ◌<◌, Bool, true, false, cond, ◌&&◌, ◌||◌, ◌⊎◌, List, [], ◌∷◌, ◌++◌}
use Rattle.std.proofs.Common.{length, map, refl, sym, ap, ◌∙◌, subst, inl, inr, arith, append_assoc, length-append}
use Rattle.std.specs.Prelude.{Option, None, Some, slice_get, nat_eq}
use Rattle.std.specs.List.{list_any}
use Rattle.std.proofs.lemmas.Bool.{or_left, or_right, and_parts, or_cases}
use Rattle.vc_base.specs.Chains.{accepted, cited}
use Rattle.vc_base.specs.Kept.{IsDropping, has_step}
use Rattle.vc_base.specs.Rounds.{atoms_of}
use Rattle.vc_base.specs.Sets.{has, Within}
use Rattle.vc_base.specs.Spreading.{IsSpread}
use Rattle.vc_base.proofs.ChainLaws.{accepted_parts, all_there}
use Rattle.vc_base.proofs.ListLaws.{number_exact, number_itself, range_has}
use Rattle.vc_base.proofs.SetLaws.{all_at, filter_has, has_cases, has_first, has_more}
use Rattle.vc_base.proofs.Settling.{IsIn, any_at}
use Rattle.vc_plan.specs.declared.atoms.Atom.{Atom}
use Rattle.vc_plan.specs.declared.atoms.Origin.{Origin}
use Rattle.vc_plan.specs.declared.atoms.Origin.TheVariants.{Rule, User, Written}
use Rattle.vc_plan.specs.declared.atoms.Step.{Step}
use Rattle.vc_plan.specs.declared.plans.Plan.{Plan}
use Rattle.vc_plan.specs.declared.rules.Rule.{Rule as PlanRule}
use Rattle.vc_plan.specs.Clear.{is_clear}
use Rattle.vc_plan.specs.Domains.{numbers_below}
use Rattle.vc_plan.specs.Gives.{Giver, by_rule, by_user, by_entry, gives}
use Rattle.vc_plan.specs.Seen.{same_atom, seen_of}
use Rattle.vc_plan.specs.Sources.{Sources, entry_of}
use Rattle.vc_plan.specs.Valid.{IsValid}
use Rattle.vc_plan.proofs.PlanLaws.Atoms.{atom_exact, atom_itself}
use Rattle.vc_plan_reasons.specs.Checking.{are_of, concluded, follows, given_by, giver_from, giver_of, is_by, set_with}
use Rattle.vc_plan_reasons.specs.Checking.{step_form, things_read, var_of}
use Rattle.vc_plan_reasons.specs.Keeping.{changed, entry_differs, is_gone, origin_differs, user_differs}
use Rattle.vc_plan_reasons.specs.Laws.{DroppedIsReached}
use Rattle.vc_plan_reasons.specs.Things.{Thing, var_at, same_thing, has_thing, thing_of}
use Rattle.vc_plan_reasons.specs.Things.{reads_in}
use Rattle.vc_plan_reasons.specs.Things.{writes_in, giver_reads, giver_writes}
use Rattle.vc_plan_reasons.specs.Work.{links_of, reach_of}
use Rattle.vc_plan_reasons.proofs.ReasonLaws.Givers.{giver_var_there}
use Rattle.vc_plan_reasons.proofs.ReasonLaws.Reaching.{reach_is_least, thing_exact, thing_itself}
use Rattle.vc_plan_reasons.proofs.ReasonLaws.Writing.{gives_what_it_writes, has_var}
use Rattle.vc_plan_reasons.proofs.ReasonLaws.Spreading.{rule_spreads, source_spreads}

-- a step that follows: its giver, which gives its conclusion and reads its premises' things
record Followed (plan : Plan) (sources : Sources) (step : Step) (premises : List Atom) : Type 0 where
  giver : Giver
  meant : giver_of sources step ≡ Some giver
  given : has same_atom (atoms_of (gives plan sources giver (seen_of (set_with premises)))) step.conclusion ≡ true
  read : are_of (giver_reads plan giver) premises ≡ true

followed : (plan : Plan) (sources : Sources) (step : Step) (premises : List Atom)
    → follows plan sources step premises ≡ true
    → Followed plan sources step premises
followed plan sources step premises e =
    let set = set_with premises in
    let read = are_of (things_read plan (giver_of sources step)) premises in
    let given = has same_atom (atoms_of (given_by plan sources (giver_of sources step) set)) step.conclusion in
    let p = and_parts (is_clear plan set && read) given e in
    let q = and_parts (is_clear plan set) read p.0 in
    by (giver_of sources step) refl q.1 p.1
  where
    by : (g : Option Giver) → giver_of sources step ≡ g → are_of (things_read plan g) premises ≡ true
        → has same_atom (atoms_of (given_by plan sources g (set_with premises))) step.conclusion ≡ true
        → Followed plan sources step premises
    by None is read given = absurd (cc given)
    by (Some giver) is read given = record { giver = giver; meant = is; given = given; read = read }

-- so a giver whose premise is reached gives what is reached
only_thing : (t u : Thing) → has_thing (t ∷ []) u ≡ true → u ≡ t
only_thing t u h =
    elim (has_cases same_thing thing_exact thing_itself t [] u h) [ inl e ↦ e | inr k ↦ absurd (cc k) ]

rule_reaches : (plan : Plan) (things all : List Thing) → IsSpread (links_of plan) things all
    → (read written : Thing) (r : ℕ)
    (o : Option PlanRule)
    → slice_get plan.rules r ≡ o → has_thing (reads_in plan o) read ≡ true → has_thing all read ≡ true
    → has_thing (writes_in plan o) written ≡ true → has_thing all written ≡ true
rule_reaches plan things all spread read written r None is reads reached writes = absurd (cc reads)
rule_reaches plan things all spread read written r (Some rule) is reads reached writes =
    rule_spreads plan things all spread rule read written (at_in plan.rules r rule is) reads reached writes
  where
    at_in : (rules : List PlanRule) (n : ℕ) (x : PlanRule) → slice_get rules n ≡ Some x → IsIn x rules
    at_in [] n x e = absurd (cc e)
    at_in (y ∷ rules) zero x e = let same : y ≡ x = cc e in inl (sym same)
    at_in (y ∷ rules) (suc n) x e = inr (at_in rules n x e)

giver_reaches : (plan : Plan) → IsValid plan → (things all : List Thing) → IsSpread (links_of plan) things all
    → (sources : Sources)
    (giver : Giver) (set : List Atom) (atom : Atom) (read : Thing)
    → has same_atom (atoms_of (gives plan sources giver (seen_of set))) atom ≡ true
    → has_thing (giver_reads plan giver) read ≡ true
    → has_thing all read ≡ true → has_thing all (thing_of atom) ≡ true
giver_reaches plan valid things all spread sources (by_rule r) set atom read given reads reached =
    rule_reaches plan things all spread read (thing_of atom) r (slice_get plan.rules r) refl reads reached
    (gives_what_it_writes plan sources (by_rule r) set atom given)
giver_reaches plan valid things all spread sources (by_user v) set atom read given reads reached =
    let is : thing_of atom ≡ var_at v
    = only_thing (var_at v) (thing_of atom) (gives_what_it_writes plan sources (by_user v) set atom given) in
    ap (has_thing all) is
    ∙ source_spreads plan valid things all spread v read
    (giver_var_there plan sources (by_user v) v (inl refl) set atom given) reads reached
giver_reaches plan valid things all spread sources (by_entry v) set atom read given reads reached =
    let is : thing_of atom ≡ var_at v
    = only_thing (var_at v) (thing_of atom) (gives_what_it_writes plan sources (by_entry v) set atom given) in
    ap (has_thing all) is
    ∙ source_spreads plan valid things all spread v read
    (giver_var_there plan sources (by_entry v) v (inr refl) set atom given) reads reached

-- a source that differs is that of a changed variable
abbrev differs : Sources → Sources → ℕ → Bool
differs old new v = user_differs old new v || entry_differs old new v

record Source (old new : Sources) (giver : Giver) : Type 0 where
  var : ℕ
  is : (giver ≡ by_user var) ⊎ (giver ≡ by_entry var)
  differs : differs old new var ≡ true

source_of : (old new : Sources) (origin : Origin) (o : Option ℕ) (giver : Giver) → giver_from old origin o ≡ Some giver
    → origin_differs old new origin o ≡ true → Source old new giver
source_of old new (Rule r) o giver is e = absurd (cc e)
source_of old new User None giver is e = absurd (cc e)
source_of old new User (Some v) giver is e =
    let same : by_user v ≡ giver = cc is in
    record { var = v; is = inl (sym same); differs = or_left (user_differs old new v) (entry_differs old new v) e }
source_of old new (Written procedure statement) None giver is e = absurd (cc e)
source_of old new (Written procedure statement) (Some v) giver is e =
    choice (is_by procedure statement (entry_of old v)) is
  where
    choice : (b : Bool) → cond b (Some (by_entry v)) None ≡ Some giver → Source old new giver
    choice true k =
        let same : by_entry v ≡ giver = cc k in
        record { var = v; is = inr (sym same); differs = or_right (user_differs old new v) (entry_differs old new v) e }
    choice false k = absurd (cc k)

gone_reached : (plan : Plan) (old new : Sources) (all : List Thing)
    → Within same_thing (map var_at (changed plan old new)) all
    → (step : Step) (premises : List Atom) → Followed plan old step premises → is_gone old new step ≡ true
    → has_thing all (thing_of step.conclusion) ≡ true
gone_reached plan old new all within step premises f gone =
    let s : Source old new f.giver = source_of old new step.origin (var_of step.conclusion) f.giver f.meant gone in
    let below : s.var < length plan.vars
    = giver_var_there plan old f.giver s.var s.is (set_with premises) step.conclusion f.given in
    let is : thing_of step.conclusion ≡ var_at s.var
    = only_thing (var_at s.var) (thing_of step.conclusion)
    (writes_own f.giver s.var s.is
    (gives_what_it_writes plan old f.giver (set_with premises) step.conclusion f.given)) in
    ap (has_thing all) is
    ∙ within (var_at s.var)
    (has_var (changed plan old new) s.var
    (filter_has nat_eq number_exact number_itself (differs old new) (numbers_below (length plan.vars)) s.var
    (range_has 0 (length plan.vars) s.var (omega arith) (omega (arith, below))) s.differs))
  where
    writes_own : (giver : Giver) (v : ℕ) → (giver ≡ by_user v) ⊎ (giver ≡ by_entry v)
        → has_thing (giver_writes plan giver) (thing_of step.conclusion) ≡ true
        → has_thing (var_at v ∷ []) (thing_of step.conclusion) ≡ true
    writes_own giver v (inl e) h = ap (λ g. has_thing (giver_writes plan g) (thing_of step.conclusion)) (sym e) ∙ h
    writes_own giver v (inr e) h = ap (λ g. has_thing (giver_writes plan g) (thing_of step.conclusion)) (sym e) ∙ h

-- the numbers of steps whose conclusions are reached
abbrev is_reached : List Thing → Option Atom → Bool
is_reached all None = false
is_reached all (Some atom) = has_thing all (thing_of atom)

abbrev reached_number : List Thing → List Atom → ℕ → Bool
reached_number all whole zero = false
reached_number all whole (suc n) = is_reached all (slice_get whole n)

get_front : (xs ys : List Atom) (i : ℕ) (x : Atom) → slice_get xs i ≡ Some x → slice_get (xs ++ ys) i ≡ Some x
get_front [] ys i x e = absurd (cc e)
get_front (y ∷ xs) ys zero x e = e
get_front (y ∷ xs) ys (suc i) x e = get_front xs ys i x e

pub get_middle : (xs ys : List Atom) (y : Atom) → slice_get (xs ++ y ∷ ys) (length xs) ≡ Some y
get_middle [] ys y = refl
get_middle (x ∷ xs) ys y = get_middle xs ys y

-- what a number cites is among what is cited
number_cites : (earlier : List Atom) (numbers : List ℕ) (atoms : List Atom) (n : ℕ) → cited earlier numbers ≡ Some atoms
    → IsIn (suc n) numbers → (a : Atom) × (slice_get earlier n ≡ Some a) × (has same_atom atoms a ≡ true)
number_cites earlier [] atoms n e i = absurd i
number_cites earlier (zero ∷ numbers) atoms n e (inl same) = absurd (cc same)
number_cites earlier (zero ∷ numbers) atoms n e (inr i) = number_cites earlier numbers atoms n e i
number_cites earlier (suc m ∷ numbers) atoms n e (inl same) =
    let r = all_there (slice_get earlier m) (cited earlier numbers) atoms e in
    let number : n ≡ m = cc same in
    let there : has same_atom atoms r.0 ≡ true
    = subst (λ xs. has same_atom xs r.0 ≡ true) (sym r.4) (has_first same_atom atom_exact atom_itself r.0 r.1) in
    (r.0, ap (slice_get earlier) number ∙ r.2, there)
number_cites earlier (suc m ∷ numbers) atoms n e (inr i) =
    let r = all_there (slice_get earlier m) (cited earlier numbers) atoms e in
    let s = number_cites earlier numbers r.1 n r.3 i in (
      s.0,
      s.1,
      subst (λ xs. has same_atom xs s.0 ≡ true) (sym r.4)
          (has_more same_atom atom_exact atom_itself r.0 r.1 s.0 s.2),
    )

premise_reached : (plan : Plan) → IsValid plan → (old : Sources) (things all : List Thing)
    → IsSpread (links_of plan) things all
    → (earlier later : List Atom) (step : Step) (atoms : List Atom) → Followed plan old step atoms
    → cited earlier step.premises ≡ Some atoms → (n : ℕ) → IsIn n step.premises
    → has_step (reached_number all (earlier ++ later)) n ≡ true → has_thing all (thing_of step.conclusion) ≡ true
premise_reached plan valid old things all spread earlier later step atoms f cites zero i e = absurd (cc e)
premise_reached plan valid old things all spread earlier later step atoms f cites (suc n) i e =
    let s = number_cites earlier step.premises atoms n cites i in
    let reached : has_thing all (thing_of s.0) ≡ true
    = ap (is_reached all) (sym (get_front earlier later n s.0 s.1)) ∙ e in
    giver_reaches plan valid things all spread old f.giver (set_with atoms) step.conclusion (thing_of s.0) f.given
    (all_at same_atom atom_exact atom_itself (λ atom. has_thing (giver_reads plan f.giver) (thing_of atom)) atoms s.0
    f.read s.2) reached

dropping : (plan : Plan) → IsValid plan → (old new : Sources) (all : List Thing)
    → IsSpread (links_of plan) (map var_at (changed plan old new)) all → (earlier whole : List Atom) (steps : List Step)
    → earlier ++ concluded steps ≡ whole → accepted step_form (follows plan old) earlier steps ≡ true
    → IsDropping step_form (is_gone old new) (reached_number all whole) (suc (length earlier)) steps
dropping plan valid old new all spread earlier whole [] is e = tt
dropping plan valid old new all spread earlier whole (step ∷ steps) is e =
    let p = accepted_parts step_form (follows plan old) earlier step steps e in
    let f = followed plan old step p.atoms p.from in
    let longer : length (earlier ++ step.conclusion ∷ []) ≡ suc (length earlier)
    = omega (arith, length-append earlier (step.conclusion ∷ [])) in
    let place : slice_get whole (length earlier) ≡ Some step.conclusion
    = ap (λ xs. slice_get xs (length earlier)) (sym is) ∙ get_middle earlier (concluded steps) step.conclusion in (
      λ drop. ap (is_reached all) place
          ∙ elim (or_cases (is_gone old new step) (list_any (has_step (reached_number all whole)) step.premises) drop) [
            | inl gone ↦ gone_reached plan old new all spread.holds step p.atoms f gone
            | inr dropped ↦
                let r = any_at (has_step (reached_number all whole)) step.premises dropped in
                premise_reached plan valid old (map var_at (changed plan old new)) all spread earlier
                (concluded (step ∷ steps)) step p.atoms f
                p.cites r.0 r.1 (ap (λ xs. has_step (reached_number all xs) r.0) is ∙ r.2)
          ],
      subst (λ n. IsDropping step_form (is_gone old new) (reached_number all whole) (suc n) steps) longer
          (dropping plan valid old new all spread (earlier ++ step.conclusion ∷ []) whole steps
          (append_assoc earlier (step.conclusion ∷ []) (concluded steps) ∙ is) p.later),
    )

get_concluded : (log : List Step) (n : ℕ) (step : Step) → slice_get log n ≡ Some step
    → slice_get (concluded log) n ≡ Some step.conclusion
get_concluded [] n step e = absurd (cc e)
get_concluded (first ∷ log) zero step e = let same : first ≡ step = cc e in ap (λ s. Some s.conclusion) same
get_concluded (first ∷ log) (suc n) step e = get_concluded log n step e

pub dropped_is_reached : DroppedIsReached
dropped_is_reached plan valid old new log e left n step at dropped =
    let things = map var_at (changed plan old new) in
    let all = reach_of plan things in
    let spread : IsSpread (links_of plan) things all = (reach_is_least plan things).0 in
    let reached : reached_number all (concluded log) (suc n) ≡ true
    = left.least (reached_number all (concluded log))
    (dropping plan valid old new all spread [] (concluded log) log refl e) (suc n) dropped in
    ap (is_reached all) (sym (get_concluded log n step at)) ∙ reached
