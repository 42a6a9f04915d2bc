-- What is found by any giver: for a rule these are its own laws; what a source says follows from that its slot is here.
use Rattle.std.proofs.Common.{◌≡◌, ℕ, zero, suc, ◌≤◌, Bool, true, false, cond, not, ◌&&◌, List, [], ◌∷◌}
use Rattle.std.proofs.Common.{length, map, refl, sym, ◌∙◌, ap, subst, inl, inr, arith}
use Rattle.std.specs.Prelude.{◌==◌, Option, None, Some, slice_get}
use Rattle.std.specs.List.{filter, list_all, AllByRecursion}
use Rattle.std.specs.Option.{option_to_list}
use Rattle.std.proofs.lemmas.Bool.{and_from, and_parts, eq-eqb, eqb-true, false_from_ne_true, not-true, not_from_false}
use Rattle.std.proofs.lemmas.Bool.{or_left}
use Rattle.vc_base.specs.Rounds.{Given, clash, atoms, is_clash, atoms_of}
use Rattle.vc_base.specs.Sets.{has}
use Rattle.vc_base.proofs.SetLaws.{told, both, all_at, all_from, filter_has, has_cases, has_filter, has_first, has_more}
use Rattle.vc_base.proofs.SetLaws.{within_cons}
use Rattle.vc_value.specs.declared.value.Value.{Value}
use Rattle.vc_plan.specs.declared.atoms.Atom.{Atom}
use Rattle.vc_plan.specs.declared.atoms.Atom.TheVariants.{Here, Out, Is}
use Rattle.vc_plan.specs.declared.atoms.Culprit.TheVariants as culprits
use Rattle.vc_plan.specs.declared.atoms.Mark.{Mark}
use Rattle.vc_plan.specs.declared.atoms.Mark.TheVariants.{Held, Outside}
use Rattle.vc_plan.specs.declared.atoms.Origin.{Origin}
use Rattle.vc_plan.specs.declared.atoms.Origin.TheVariants as origins
use Rattle.vc_plan.specs.declared.atoms.Step.{Step}
use Rattle.vc_plan.specs.declared.plans.Plan.{Plan}
use Rattle.vc_plan.specs.Answers.{nothing, fresh}
use Rattle.vc_plan.specs.Bounds.{clash_bound, greatest, place_bound, place_for}
use Rattle.vc_plan.specs.Clear.{is_clear}
use Rattle.vc_plan.specs.Gives.{Giver, by_rule, by_user, by_entry, entry_says, giver_says, gives, if_here, mark_says}
use Rattle.vc_plan.specs.Gives.{value_says}
use Rattle.vc_plan.specs.Seen.{Seen, is_here, is_slot_here, same_atom, says, seen_of, slot_in}
use Rattle.vc_plan.specs.Sources.{Sources, Entry, entry_of, user_of}
use Rattle.vc_plan.proofs.PlanLaws.Atoms.{atom_exact, atom_itself}
use Rattle.vc_plan.proofs.PlanLaws.Facts.{part_clear}
use Rattle.vc_plan_reasons.specs.Checking.{are_of, concluded, given_by, giver_from, is_by, set_with}
use Rattle.vc_plan_reasons.specs.Checking.{things_read, var_of}
use Rattle.vc_plan_reasons.specs.Refuting.{culprit_clashes, culprit_reads, is_clash_at}
use Rattle.vc_plan_reasons.specs.Things.{giver_reads, has_thing, slot_at, slots_of_var, thing_of}
use Rattle.vc_plan_blame.proofs.BlameLaws.Clashing.{clashing_is_blamed}
use Rattle.vc_plan_blame.proofs.BlameLaws.Origins.{if_said, unfresh}
use Rattle.vc_rule_yield.specs.Yielding.{Conclusion}
use Rattle.vc_rule_premises.specs.Cited.{cited_once}
use Rattle.vc_rule_premises.specs.Saying.{clashing, concluding, conclusion_from, given_of, said_from}
use Rattle.vc_rule_premises.specs.Sufficing.{IsPartOf, SaysAll, each_premise}
use Rattle.vc_rule_premises.proofs.CitedLaws.{all_is_cited, few_are_cited, nothing_else_is_cited}
use Rattle.vc_rule_premises.proofs.SayingLaws.{fresh_is_said}
use Rattle.vc_rule_premises.proofs.SufficingLaws.{each_from, part_says, premises_are_a_part}
use Rattle.vc_rule_grains.specs.Kinds.{slot_of}
use Rattle.vc_rule.proofs.FoundLaws as rule_found
use Rattle.vc_rule.specs.Bounding.{IsWithinPlaces}
use Rattle.vc_rule.specs.Following.{AllFollow, IsNext}
use Rattle.vc_rule.proofs.BoundLaws as rule_bounds
use Rattle.vc_rule.proofs.CountingLemmas.{slot_few}
use Rattle.vc_rule.proofs.FollowingLaws as rules
use Rattle.vc_net_places.specs.Cells.{own_bound}
use Rattle.vc_net_sources.specs.Asking.{found_from, origin_by, source_said, why_there}
use Rattle.vc_net_sources.specs.Laws.{ClashFitsCells, FoundFitsCells, FoundIsConcluded, FoundIsGiven, FoundIsNew}
use Rattle.vc_net_sources.specs.Laws.{FoundIsNext, FoundRefutes}

pub found_is_given : FoundIsGiven
found_is_given plan sources seen (by_rule r) = rule_found.found_is_given plan sources seen r
found_is_given plan sources seen (by_user v) =
    fresh_is_said seen (why_there plan v) (giver_says plan sources (by_user v) seen)
found_is_given plan sources seen (by_entry v) =
    fresh_is_said seen (why_there plan v) (giver_says plan sources (by_entry v) seen)

-- the premises of a source are that its slot is here, if that isn't the root
slot_atom : (o : Option ℕ) (a : Atom) → has same_atom (map Here (option_to_list o)) a ≡ true
    → (i : ℕ) × (o ≡ Some i) × (a ≡ Here i)
slot_atom None a h = absurd (cc)
slot_atom (Some i) a h =
    elim (has_cases same_atom atom_exact atom_itself (Here i) [] a h) [ inl q ↦ (i, refl, q) | inr k ↦ absurd (cc) ]

why_atom : (plan : Plan) (v : ℕ) (a : Atom) → has same_atom (why_there plan v) a ≡ true
    → (i : ℕ) × (slot_in (slice_get plan.vars v) ≡ Some i) × (a ≡ Here i) × (same_atom (Here 0) a ≡ false)
why_atom plan v a h =
    let k : (has same_atom (slot_of plan v) a ≡ true) × (same_atom (Here 0) a ≡ false) =
    nothing_else_is_cited (slot_of plan v) a h in
    let s = slot_atom (slot_in (slice_get plan.vars v)) a k.0 in
    (s.0, s.1, s.2, k.1)

pub why_short : (plan : Plan) (v : ℕ) → length (why_there plan v) ≤ 1
why_short plan v =
    let few = few_are_cited (slot_of plan v) (slot_of plan v)
    (λ a h. let k : (has same_atom (slot_of plan v) a ≡ true) × (same_atom (Here 0) a ≡ false) =
    nothing_else_is_cited (slot_of plan v) a h in k.0) in
    let short = slot_few (slot_in (slice_get plan.vars v)) in omega arith

-- what a source says at a clear set where its slot is here it says at that slot alone
module _ (plan : Plan) (set : List Atom) (v : ℕ) (given : Given Atom) where
  abbrev why : List Atom
  why = why_there plan v

  abbrev seen : Seen
  seen = seen_of (set_with set)

  abbrev part : Seen
  part = seen_of (set_with why)

  root_here : seen.here 0 ≡ true
  root_here = has_first same_atom atom_exact atom_itself (Here 0) set

  why_said : is_here plan seen v ≡ true → (a : Atom) → has same_atom why a ≡ true → says seen a ≡ true
  why_said here a h =
      let w = why_atom plan v a h in
      let is : seen.here w.0 ≡ true = sym (ap (is_slot_here seen) w.1) ∙ here in
      subst (λ z. says seen z ≡ true) (sym w.2) is

  pub why_concluded : is_here plan seen v ≡ true → list_all (has same_atom set) why ≡ true
  why_concluded here = all_from same_atom atom_exact atom_itself (has same_atom set) why one
    where
      one : (a : Atom) → has same_atom why a ≡ true → has same_atom set a ≡ true
      one a h =
          let w = why_atom plan v a h in
          let is : has same_atom (set_with set) (Here w.0) ≡ true = sym (ap (is_slot_here seen) w.1) ∙ here in
          elim (has_cases same_atom atom_exact atom_itself (Here 0) set a
          (subst (λ z. has same_atom (set_with set) z ≡ true) (sym w.2) is)) [
            | inl q ↦ absurd (both (ap (same_atom (Here 0)) q ∙ atom_itself (Here 0)) w.3)
            | inr k ↦ k
          ]

  why_stands : is_here plan seen v ≡ true → SaysAll seen why
  why_stands here = all_from same_atom atom_exact atom_itself (says seen) why (why_said here)

  a_part : is_here plan seen v ≡ true → IsPartOf part seen
  a_part here =
      let p : IsPartOf part seen × SaysAll part why =
      premises_are_a_part seen why root_here (why_stands here) in p.0

  pub why_clear : is_clear plan (set_with set) ≡ true → is_here plan seen v ≡ true
      → is_clear plan (set_with why) ≡ true
  why_clear clear here =
      part_clear plan (set_with why) (set_with set) clear
      (within_cons same_atom atom_exact atom_itself (Here 0) why (set_with set) root_here
      (λ a h. has_more same_atom atom_exact atom_itself (Here 0) set a
      (all_at same_atom atom_exact atom_itself (has same_atom set) why a (why_concluded here) h)))

  pub here_there : is_here plan seen v ≡ true → is_here plan part v ≡ true
  here_there here = by (slot_in (slice_get plan.vars v)) here
    where
      by : (o : Option ℕ) → is_slot_here seen o ≡ true
          → is_slot_here (seen_of (set_with (cited_once (map Here (option_to_list o))))) o ≡ true
      by None h = absurd (cc)
      by (Some i) h =
          elim (told (same_atom (Here 0) (Here i))) [
            | inl q ↦ subst (λ z. has same_atom (set_with (cited_once (Here i ∷ []))) z ≡ true)
                (atom_exact (Here 0) (Here i) q)
                (has_first same_atom atom_exact atom_itself (Here 0) (cited_once (Here i ∷ [])))
            | inr q ↦ has_more same_atom atom_exact atom_itself (Here 0) (cited_once (Here i ∷ [])) (Here i)
                (all_is_cited (Here i ∷ []) (Here i) (has_first same_atom atom_exact atom_itself (Here i) []) q)
          ]

  same_there : is_here plan seen v ≡ true → if_here plan part v given ≡ given
  same_there here = ap (λ b. cond b given nothing) (here_there here)

  pub atom_here : (a : Atom) → has same_atom (atoms_of (fresh seen (if_here plan seen v given))) a ≡ true
      → is_here plan seen v ≡ true
  atom_here a = by (is_here plan seen v)
    where
      by : (b : Bool) → has same_atom (atoms_of (fresh seen (cond b given nothing))) a ≡ true → b ≡ true
      by true h = refl
      by false h = absurd (cc)

  pub clash_here : is_clash (if_here plan seen v given) ≡ true → is_here plan seen v ≡ true
  clash_here = by (is_here plan seen v)
    where
      by : (b : Bool) → is_clash (cond b given nothing) ≡ true → b ≡ true
      by true h = refl
      by false h = absurd (cc)

  -- what is given is given there, as it is new there too
  pub atom_there : (a : Atom) → has same_atom (atoms_of (fresh seen (if_here plan seen v given))) a ≡ true
      → has same_atom (atoms_of (fresh part (if_here plan part v given))) a ≡ true
  atom_there a h =
      let here = atom_here a h in
      ap (λ x. has same_atom (atoms_of (fresh part x)) a) (same_there here)
      ∙ fresh_there given here
      (ap (λ x. has same_atom (atoms_of (fresh seen x)) a) (sym (ap (λ b. cond b given nothing) here)) ∙ h)
    where
      fresh_there : (x : Given Atom) → is_here plan seen v ≡ true
          → has same_atom (atoms_of (fresh seen x)) a ≡ true → has same_atom (atoms_of (fresh part x)) a ≡ true
      fresh_there clash here k = k
      fresh_there (atoms xs) here k =
          let p : (has same_atom xs a ≡ true) × (not (says seen a) ≡ true) =
          has_filter same_atom atom_exact atom_itself (λ b. not (says seen b)) xs a k in
          let new : says part a ≡ false = false_from_ne_true (says part a)
          (λ q. both (part_says part seen (a_part here) a q) (not-true (says seen a) p.1)) in
          filter_has same_atom atom_exact atom_itself (λ b. not (says part b)) xs a p.0
          (not_from_false (says part a) new)

  pub clash_there : is_clash (if_here plan seen v given) ≡ true
      → is_clash (fresh part (if_here plan part v given)) ≡ true
  clash_there h =
      let here = clash_here h in
      ap (λ x. is_clash (fresh part x)) (same_there here)
      ∙ by given (ap is_clash (sym (ap (λ b. cond b given nothing) here)) ∙ h)
    where
      by : (x : Given Atom) → is_clash x ≡ true → is_clash (fresh part x) ≡ true
      by clash k = refl
      by (atoms xs) k = absurd (cc)

-- a source reads its slot
pub why_read : (plan : Plan) (v : ℕ) → are_of (map slot_at (slots_of_var plan v)) (why_there plan v) ≡ true
why_read plan v =
    all_from same_atom atom_exact atom_itself (λ a. has_thing (map slot_at (slots_of_var plan v)) (thing_of a))
    (why_there plan v) one
  where
    slot_itself : (i : ℕ) → has_thing (slot_at i ∷ []) (slot_at i) ≡ true
    slot_itself i = or_left (i == i) false (eq-eqb i i refl)

    by : (o : Option ℕ) (i : ℕ) → o ≡ Some i → has_thing (map slot_at (option_to_list o)) (slot_at i) ≡ true
    by None i e = absurd (cc)
    by (Some j) i e = let same : j ≡ i = cc in subst (λ k. has_thing (slot_at k ∷ []) (slot_at i) ≡ true) (sym same)
        (slot_itself i)

    one : (a : Atom) → has same_atom (why_there plan v) a ≡ true
        → has_thing (map slot_at (slots_of_var plan v)) (thing_of a) ≡ true
    one a h =
        let w = why_atom plan v a h in
        subst (λ z. has_thing (map slot_at (slots_of_var plan v)) (thing_of z) ≡ true) (sym w.2)
        (by (slot_in (slice_get plan.vars v)) w.0 w.1)

-- the premises of what a source says
said_premises : (seen : Seen) (why : List Atom) (given : Given Atom) (all : List Conclusion) (n : ℕ)
    (conclusion : Conclusion)
    → said_from seen why given ≡ concluding all → slice_get all n ≡ Some conclusion → conclusion.premises ≡ why
said_premises seen why clash all n conclusion e g = absurd (cc)
said_premises seen why (atoms xs) all n conclusion e g =
    let is : map (conclusion_from why) (filter (λ a. not (says seen a)) xs) ≡ all = cc in
    by (filter (λ a. not (says seen a)) xs) n (ap (λ cs. slice_get cs n) is ∙ g)
  where
    by : (ys : List Atom) (m : ℕ) → slice_get (map (conclusion_from why) ys) m ≡ Some conclusion
        → conclusion.premises ≡ why
    by [] m k = absurd (cc)
    by (y ∷ ys) zero k = let same : conclusion_from why y ≡ conclusion = cc in sym (ap (λ c. c.premises) same)
    by (y ∷ ys) (suc m) k = by ys m k

said_clash : (seen : Seen) (why : List Atom) (given : Given Atom) (premises : List Atom)
    → said_from seen why given ≡ clashing premises → (premises ≡ why) × (is_clash given ≡ true)
said_clash seen why clash premises e = (cc, refl)
said_clash seen why (atoms xs) premises e = absurd (cc)

-- a conclusion by its place is among what is given
atom_at : (all : List Conclusion) (n : ℕ) (conclusion : Conclusion) → slice_get all n ≡ Some conclusion
    → has same_atom (map (λ (c : Conclusion). c.atom) all) conclusion.atom ≡ true
atom_at [] n conclusion e = absurd (cc)
atom_at (c ∷ cs) zero conclusion e =
    let is : c ≡ conclusion = cc in
    subst (λ (z : Conclusion). has same_atom (map (λ (d : Conclusion). d.atom) (c ∷ cs)) z.atom ≡ true) is
    (has_first same_atom atom_exact atom_itself c.atom (map (λ (d : Conclusion). d.atom) cs))
atom_at (c ∷ cs) (suc n) conclusion e =
    has_more same_atom atom_exact atom_itself c.atom (map (λ (d : Conclusion). d.atom) cs) conclusion.atom
    (atom_at cs n conclusion e)

-- what is given doesn't stand
fresh_is_new : (seen : Seen) (given : Given Atom) (a : Atom) → has same_atom (atoms_of (fresh seen given)) a ≡ true
    → says seen a ≡ false
fresh_is_new seen clash a h = absurd (cc)
fresh_is_new seen (atoms xs) a h =
    let p : (has same_atom xs a ≡ true) × (not (says seen a) ≡ true) =
    has_filter same_atom atom_exact atom_itself (λ b. not (says seen b)) xs a h in
    not-true (says seen a) p.1

pub found_is_new : FoundIsNew
found_is_new plan sources log giver conclusion f =
    let seen = seen_of (set_with (concluded log)) in
    let given : has same_atom (atoms_of (gives plan sources giver seen)) conclusion.atom ≡ true =
    ap (λ x. has same_atom (atoms_of x) conclusion.atom) (sym (found_is_given plan sources seen giver)
    ∙ ap given_of f.found) ∙ atom_at f.all f.place conclusion f.is in
    (given, fresh_is_new seen (giver_says plan sources giver seen) conclusion.atom given)

-- each premise is concluded
source_concluded : (plan : Plan) (set : List Atom) (v : ℕ) (given : Given Atom)
    → each_premise (has same_atom set) (source_said plan (seen_of (set_with set)) v given) ≡ true
source_concluded plan set v given = by (is_here plan (seen_of (set_with set)) v) refl
  where
    by : (b : Bool) → is_here plan (seen_of (set_with set)) v ≡ b
        → each_premise (has same_atom set)
        (said_from (seen_of (set_with set)) (why_there plan v) (cond b given nothing)) ≡ true
    by true e = each_from (has same_atom set) (seen_of (set_with set)) (why_there plan v) given
        (why_concluded plan set v given e)
    by false e = refl

pub found_is_concluded : FoundIsConcluded
found_is_concluded plan sources set (by_rule r) = rules.found_is_concluded plan set r
found_is_concluded plan sources set (by_user v) = source_concluded plan set v (value_says v (user_of sources v))
found_is_concluded plan sources set (by_entry v) = source_concluded plan set v (entry_says v (entry_of sources v))

-- an atom that a source gives is its variable's
value_var : (v : ℕ) (o : Option Value) (a : Atom) → has same_atom (atoms_of (value_says v o)) a ≡ true
    → (x : Value) × (a ≡ Is v x)
value_var v None a h = absurd (cc)
value_var v (Some x) a h =
    elim (has_cases same_atom atom_exact atom_itself (Is v x) [] a h) [ inl q ↦ (x, q) | inr k ↦ absurd (cc) ]

mark_var : (v : ℕ) (m : Mark) (a : Atom) → has same_atom (atoms_of (mark_says v m)) a ≡ true
    → (x : Value) × (a ≡ Is v x)
mark_var v (Held x) a h = value_var v (Some x) a h
mark_var v Outside a h = absurd (cc)

entry_var : (v : ℕ) (o : Option Entry) (a : Atom) → has same_atom (atoms_of (entry_says v o)) a ≡ true
    → (x : Value) × (a ≡ Is v x)
entry_var v None a h = absurd (cc)
entry_var v (Some entry) a h = mark_var v entry.mark a h

-- what a source gives at a set it says under the test that its slot is here
source_given : (plan : Plan) (seen : Seen) (v : ℕ) (given : Given Atom) (a : Atom)
    → has same_atom (atoms_of (fresh seen (if_here plan seen v given))) a ≡ true
    → has same_atom (atoms_of given) a ≡ true
source_given plan seen v given a h =
    if_said (is_here plan seen v) given a (unfresh seen (if_here plan seen v given) a h)

-- the origin names the giver
entry_named : (sources : Sources) (v : ℕ) (o : Option Entry) (a : Atom) → entry_of sources v ≡ o
    → has same_atom (atoms_of (entry_says v o)) a ≡ true
    → giver_from sources (origin_by o) (var_of a) ≡ Some (by_entry v)
entry_named sources v None a e h = absurd (cc)
entry_named sources v (Some entry) a e h =
    let by : is_by entry.procedure entry.statement (entry_of sources v) ≡ true
    = ap (is_by entry.procedure entry.statement) e
    ∙ and_from (entry.procedure == entry.procedure) (entry.statement == entry.statement)
    (eq-eqb entry.procedure entry.procedure refl) (eq-eqb entry.statement entry.statement refl) in
    let is = mark_var v entry.mark a h in
    ap (λ z. giver_from sources (origins.Written entry.procedure entry.statement) (var_of z)) is.1
    ∙ ap (λ b. cond b (Some (by_entry v)) None) by

-- so each conclusion of a source may come next
source_next : (plan : Plan) (sources : Sources) (log : List Step) (v : ℕ) (given : Given Atom) (giver : Giver)
    (origin : Origin) (conclusion : Conclusion) (all : List Conclusion) (n : ℕ)
    → is_clear plan (set_with (concluded log)) ≡ true
    → source_said plan (seen_of (set_with (concluded log))) v given ≡ concluding all
    → slice_get all n ≡ Some conclusion
    → has same_atom (atoms_of (fresh (seen_of (set_with (concluded log)))
    (if_here plan (seen_of (set_with (concluded log))) v given))) conclusion.atom ≡ true
    → giver_from sources origin (var_of conclusion.atom) ≡ Some giver
    → giver_reads plan giver ≡ map slot_at (slots_of_var plan v)
    → gives plan sources giver (seen_of (set_with (why_there plan v)))
    ≡ fresh (seen_of (set_with (why_there plan v))) (if_here plan (seen_of (set_with (why_there plan v))) v given)
    → IsNext plan sources log conclusion.atom origin conclusion.premises
source_next plan sources log v given giver origin conclusion all n clear e g h names reads says =
    let set = concluded log in
    let why = why_there plan v in
    let here = atom_here plan set v given conclusion.atom h in
    let is : conclusion.premises ≡ why =
    said_premises (seen_of (set_with set)) why (if_here plan (seen_of (set_with set)) v given) all n conclusion e g in
    let followed : Option Giver → Bool =
    λ by. (is_clear plan (set_with why) && are_of (things_read plan by) why)
    && has same_atom (atoms_of (given_by plan sources by (set_with why))) conclusion.atom in
    let holds : followed (Some giver) ≡ true =
    and_from (is_clear plan (set_with why) && are_of (giver_reads plan giver) why)
    (has same_atom (atoms_of (gives plan sources giver (seen_of (set_with why)))) conclusion.atom)
    (and_from (is_clear plan (set_with why)) (are_of (giver_reads plan giver) why)
    (why_clear plan set v given clear here) (ap (λ things. are_of things why) reads ∙ why_read plan v))
    (ap (λ x. has same_atom (atoms_of x) conclusion.atom) says ∙ atom_there plan set v given conclusion.atom h) in
    subst (IsNext plan sources log conclusion.atom origin) (sym is) (record {
      there = λ a k. all_at same_atom atom_exact atom_itself (has same_atom set) why a
          (why_concluded plan set v given here) k;
      from = λ numbers. ap followed names ∙ holds;
    })

pub found_is_next : FoundIsNext
found_is_next plan sources log (by_rule r) conclusion clear f =
    rules.found_is_next plan sources log r f.all f.place conclusion clear f.found f.is
found_is_next plan sources log (by_user v) conclusion clear f =
    let seen = seen_of (set_with (concluded log)) in
    let given = value_says v (user_of sources v) in
    let k : (has same_atom (atoms_of (gives plan sources (by_user v) seen)) conclusion.atom ≡ true)
    × (says seen conclusion.atom ≡ false) =
    found_is_new plan sources log (by_user v) conclusion f in
    let is = value_var v (user_of sources v) conclusion.atom (source_given plan seen v given conclusion.atom k.0) in
    source_next plan sources log v given (by_user v) origins.User conclusion f.all f.place clear f.found f.is k.0
    (ap (λ z. giver_from sources origins.User (var_of z)) is.1) refl refl
found_is_next plan sources log (by_entry v) conclusion clear f =
    let seen = seen_of (set_with (concluded log)) in
    let given = entry_says v (entry_of sources v) in
    let k : (has same_atom (atoms_of (gives plan sources (by_entry v) seen)) conclusion.atom ≡ true)
    × (says seen conclusion.atom ≡ false) =
    found_is_new plan sources log (by_entry v) conclusion f in
    source_next plan sources log v given (by_entry v) (origin_by (entry_of sources v)) conclusion f.all f.place clear
    f.found f.is k.0
    (entry_named sources v (entry_of sources v) conclusion.atom refl
    (source_given plan seen v given conclusion.atom k.0)) refl refl

-- at the premises of a clash the giver clashes, and they are clear and read
record ClashesThere (plan : Plan) (sources : Sources) (giver : Giver) (premises : List Atom) : Type 0 where
  clear : is_clear plan (set_with premises) ≡ true
  read : are_of (giver_reads plan giver) premises ≡ true
  clashes : is_clash (gives plan sources giver (seen_of (set_with premises))) ≡ true

source_clashes : (plan : Plan) (sources : Sources) (set : List Atom) (v : ℕ) (given : Given Atom) (giver : Giver)
    (premises : List Atom) → is_clear plan (set_with set) ≡ true
    → source_said plan (seen_of (set_with set)) v given ≡ clashing premises
    → giver_reads plan giver ≡ map slot_at (slots_of_var plan v)
    → gives plan sources giver (seen_of (set_with (why_there plan v)))
    ≡ fresh (seen_of (set_with (why_there plan v))) (if_here plan (seen_of (set_with (why_there plan v))) v given)
    → ClashesThere plan sources giver premises
source_clashes plan sources set v given giver premises clear e reads says =
    let why = why_there plan v in
    let k : (premises ≡ why) × (is_clash (if_here plan (seen_of (set_with set)) v given) ≡ true) =
    said_clash (seen_of (set_with set)) why (if_here plan (seen_of (set_with set)) v given) premises e in
    subst (ClashesThere plan sources giver) (sym k.0) (record {
      clear = why_clear plan set v given clear (clash_here plan set v given k.1);
      read = ap (λ things. are_of things why) reads ∙ why_read plan v;
      clashes = ap is_clash says ∙ clash_there plan set v given k.1;
    })

clashes_there : (plan : Plan) (sources : Sources) (set : List Atom) (giver : Giver) (premises : List Atom)
    → is_clear plan (set_with set) ≡ true
    → found_from plan sources (seen_of (set_with set)) giver ≡ clashing premises
    → ClashesThere plan sources giver premises
clashes_there plan sources set (by_rule r) premises clear e =
    let all : is_clash_at plan sources (culprits.Rule r) premises ≡ true =
    subst (AllFollow plan sources r) e (rules.found_follows plan sources set r clear) in
    let p = and_parts (is_clear plan (set_with premises))
    (are_of (culprit_reads plan (culprits.Rule r)) premises
    && culprit_clashes plan sources (culprits.Rule r) (set_with premises)) all in
    let q = and_parts (are_of (culprit_reads plan (culprits.Rule r)) premises)
    (culprit_clashes plan sources (culprits.Rule r) (set_with premises)) p.1 in
    record { clear = p.0; read = q.0; clashes = q.1 }
clashes_there plan sources set (by_user v) premises clear e =
    source_clashes plan sources set v (value_says v (user_of sources v)) (by_user v) premises clear e refl refl
clashes_there plan sources set (by_entry v) premises clear e =
    source_clashes plan sources set v (entry_says v (entry_of sources v)) (by_entry v) premises clear e refl refl

pub found_refutes : FoundRefutes
found_refutes plan sources log giver premises numbers fit accepts clear e cites =
    let c = clashes_there plan sources (concluded log) giver premises clear e in
    clashing_is_blamed plan sources log numbers premises giver fit accepts cites c.clear c.read c.clashes

-- premises are few
le : (a b c : ℕ) → a ≤ b → b ≤ c → a ≤ c
le a b c h k = omega arith

all_get : (P : Conclusion → Type 0) (all : List Conclusion) (n : ℕ) (conclusion : Conclusion) → AllByRecursion P all
    → slice_get all n ≡ Some conclusion → P conclusion
all_get P [] n conclusion h e = absurd (cc)
all_get P (c ∷ cs) zero conclusion h e = let is : c ≡ conclusion = cc in subst P is h.0
all_get P (c ∷ cs) (suc n) conclusion h e = all_get P cs n conclusion h.1 e

-- the bound of a place is that of its cells, but at the root, which stands already
own_at : (plan : Plan) (set : List Atom) (a : Atom) (n : ℕ) → says (seen_of (set_with set)) a ≡ false
    → n ≤ place_bound plan (place_for a) → n ≤ own_bound plan (place_for a)
own_at plan set (Here i) n new h =
    elim (told (i == 0)) [
      | inl q ↦ absurd (both (has_first same_atom atom_exact atom_itself (Here 0) set)
          (ap (λ k. says (seen_of (set_with set)) (Here k)) (sym (eqb-true i 0 q)) ∙ new))
      | inr q ↦ subst (λ b. n ≤ cond b 0 (place_bound plan (place_for (Here i)))) (sym q) h
    ]
own_at plan set (Out v g) n new h = h
own_at plan set (Is v x) n new h = h

source_fits : (plan : Plan) (v : ℕ) (x : Value) (a : Atom) (premises : List Atom) → a ≡ Is v x
    → premises ≡ why_there plan v
    → length premises ≤ own_bound plan (place_for a)
source_fits plan v x a premises is from =
    let short = why_short plan v in
    let own : length (why_there plan v) ≤ own_bound plan (place_for (Is v x)) = omega arith in
    subst (λ z. length premises ≤ own_bound plan (place_for z)) (sym is)
    (subst (λ ps. length ps ≤ own_bound plan (place_for (Is v x))) (sym from) own)

pub found_fits_cells : FoundFitsCells
found_fits_cells plan sources log (by_rule r) conclusion valid clear f =
    let set = concluded log in
    let few = subst (IsWithinPlaces plan) f.found (rule_bounds.found_fits_places plan (seen_of (set_with set)) r valid
    (rule_bounds.clear_lies_in_grains plan (set_with set) clear)) in
    let k : (has same_atom (atoms_of (gives plan sources (by_rule r) (seen_of (set_with set)))) conclusion.atom ≡ true)
    × (says (seen_of (set_with set)) conclusion.atom ≡ false) =
    found_is_new plan sources log (by_rule r) conclusion f in
    own_at plan set conclusion.atom (length conclusion.premises) k.1
    (all_get (λ (c : Conclusion). length c.premises ≤ place_bound plan (place_for c.atom)) f.all f.place conclusion few
    f.is)
found_fits_cells plan sources log (by_user v) conclusion valid clear f =
    let seen = seen_of (set_with (concluded log)) in
    let given = value_says v (user_of sources v) in
    let k : (has same_atom (atoms_of (gives plan sources (by_user v) seen)) conclusion.atom ≡ true)
    × (says seen conclusion.atom ≡ false) =
    found_is_new plan sources log (by_user v) conclusion f in
    let is = value_var v (user_of sources v) conclusion.atom (source_given plan seen v given conclusion.atom k.0) in
    source_fits plan v is.0 conclusion.atom conclusion.premises is.1
    (said_premises seen (why_there plan v) (if_here plan seen v given) f.all f.place conclusion f.found f.is)
found_fits_cells plan sources log (by_entry v) conclusion valid clear f =
    let seen = seen_of (set_with (concluded log)) in
    let given = entry_says v (entry_of sources v) in
    let k : (has same_atom (atoms_of (gives plan sources (by_entry v) seen)) conclusion.atom ≡ true)
    × (says seen conclusion.atom ≡ false) =
    found_is_new plan sources log (by_entry v) conclusion f in
    let is = entry_var v (entry_of sources v) conclusion.atom (source_given plan seen v given conclusion.atom k.0) in
    source_fits plan v is.0 conclusion.atom conclusion.premises is.1
    (said_premises seen (why_there plan v) (if_here plan seen v given) f.all f.place conclusion f.found f.is)

source_clash_few : (plan : Plan) (seen : Seen) (v : ℕ) (given : Given Atom) (premises : List Atom)
    → source_said plan seen v given ≡ clashing premises → length premises ≤ 1
source_clash_few plan seen v given premises e =
    let k : (premises ≡ why_there plan v) × (is_clash (if_here plan seen v given) ≡ true) =
    said_clash seen (why_there plan v) (if_here plan seen v given) premises e in
    subst (λ ps. length ps ≤ 1) (sym k.0) (why_short plan v)

pub clash_fits_cells : ClashFitsCells
clash_fits_cells plan sources log (by_rule r) premises valid clear e =
    let set = concluded log in
    let few : length premises ≤ greatest (clash_bound plan) plan.rules =
    subst (IsWithinPlaces plan) e (rule_bounds.found_fits_places plan (seen_of (set_with set)) r valid
    (rule_bounds.clear_lies_in_grains plan (set_with set) clear)) in
    omega arith
clash_fits_cells plan sources log (by_user v) premises valid clear e =
    let seen = seen_of (set_with (concluded log)) in
    let few = source_clash_few plan seen v (value_says v (user_of sources v)) premises e in
    omega arith
clash_fits_cells plan sources log (by_entry v) premises valid clear e =
    let seen = seen_of (set_with (concluded log)) in
    let few = source_clash_few plan seen v (entry_says v (entry_of sources v)) premises e in
    omega arith
