-- What is found by a rule follows: at its premises the rule acts and says the same, and it doesn't stand there yet.
use Rattle.std.proofs.Common.{◌≡◌, ℕ, zero, suc, Bool, true, false, cond, not, ◌&&◌, List, [], ◌∷◌, ◌++◌, map, refl}
use Rattle.std.proofs.Common.{sym, ◌∙◌, ap, subst, inl, inr, append_assoc, append-nil}
use Rattle.std.specs.Prelude.{Option, None, Some, slice_get, ◌==◌}
use Rattle.std.specs.List.{list_all, AllByRecursion}
use Rattle.std.proofs.lemmas.Bool.{and_parts, and_from, or_left, not-true, not_from_false, false_from_ne_true, eq-eqb}
use Rattle.vc_base.specs.Chains.{accepted, all_pass, cited, is_justified}
use Rattle.vc_base.specs.Rounds.{Given, clash, atoms, is_clash, atoms_of}
use Rattle.vc_base.specs.Sets.{has}
use Rattle.vc_base.proofs.SetLaws.{told, both, all_at, all_from, has_cases, has_first, has_front, has_more, has_filter}
use Rattle.vc_base.proofs.SetLaws.{filter_has}
use Rattle.vc_base.proofs.SetLaws.{within_cons}
use Rattle.vc_plan.specs.declared.atoms.Atom.{Atom}
use Rattle.vc_plan.specs.declared.atoms.Atom.TheVariants.{Here, Out, Is}
use Rattle.vc_plan.specs.declared.atoms.Step.{Step}
use Rattle.vc_plan.specs.declared.plans.Plan.{Plan}
use Rattle.vc_plan.specs.declared.rules.Kind.{Kind}
use Rattle.vc_plan.specs.declared.rules.Kind.TheVariants.{Among, Compare, Equate, ByTable, Never, Last, Line}
use Rattle.vc_plan.specs.declared.rules.Rule.{Rule}
use Rattle.vc_plan.specs.Answers.{nothing, fresh}
use Rattle.vc_plan.specs.Clear.{is_clear}
use Rattle.vc_plan.specs.Domains.{is_grain_with}
use Rattle.vc_plan.specs.Gives.{acts, by_rule, gives, kind_gives, rule_says}
use Rattle.vc_plan.specs.Pieces.{lies_in}
use Rattle.vc_plan.specs.Seen.{Seen, same_atom, seen_of, says}
use Rattle.vc_plan.specs.Sources.{Sources}
use Rattle.vc_plan.proofs.PlanLaws.Atoms.{atom_exact, atom_itself}
use Rattle.vc_plan.proofs.PlanLaws.Extending.{value_has, says_has}
use Rattle.vc_plan.proofs.PlanLaws.Facts.{facts, part_clear}
use Rattle.vc_plan_values.specs.Computing.{ValuesAreLeft}
use Rattle.vc_plan_reasons.specs.Checking.{are_of, concluded, follows, is_accepted, set_with, step_form}
use Rattle.vc_plan_reasons.specs.Refuting.{contradicts, is_clash_at, is_collision, is_of_constraint, is_restriction}
use Rattle.vc_plan_reasons.specs.Things.{giver_reads, has_thing, reads_in, thing_of}
use Rattle.vc_rule_yield.specs.Yielding.{Conclusion}
use Rattle.vc_rule_premises.specs.Cited.{cited_once}
use Rattle.vc_rule_premises.specs.Citing.{values_of, deciding_if, why_it_acts}
use Rattle.vc_rule_premises.specs.Saying.{Said, clashing, concluding, silent, conclusion_with, said_with, given_of}
use Rattle.vc_rule_premises.specs.Sufficing.{IsPartOf, SaysAll, each_premise, Follows, EachFollows}
use Rattle.vc_rule_premises.proofs.CitedLaws.{all_is_cited}
use Rattle.vc_rule_premises.proofs.DecidingLaws.{acting_suffices}
use Rattle.vc_rule_premises.proofs.SufficingLaws.{part_says, premises_are_a_part}
use Rattle.vc_rule_grains.proofs.KindLaws.{among_follows, last_follows, line_follows}
use Rattle.vc_rule_sides.proofs.FollowingLaws.{compare_follows, equate_follows, values_same, parts_said}
use Rattle.vc_rule_table.proofs.FollowingLaws.{table_follows}
use Rattle.vc_rule.specs.Evaluating.{kind_said, found_by, found_at}
use Rattle.vc_rule.proofs.FoundLaws.{found_beside_root, found_is_given}
use Rattle.vc_rule.proofs.ReadingLaws.{found_is_read}
use Rattle.vc_rule.proofs.StandingLaws.{found_stands}
use Rattle.vc_rule.specs.Following.{clash_by, IsStep, AllFollow, FoundFollows, FoundIsConcluded}
use Rattle.vc_rule.specs.Following.{FoundIsNew, FoundIsNext, FoundRefutes, IsNew, NextIsAccepted, NextMayWait}

-- slots that are said are here, and variables whose values are said have the same values
slots_said : (part : Seen) (is : List ℕ) → SaysAll part (map Here is) → list_all part.here is ≡ true
slots_said part [] h = refl
slots_said part (i ∷ is) h =
    let p : (part.here i ≡ true) × (SaysAll part (map Here is)) =
    and_parts (part.here i) (list_all (says part) (map Here is)) h in
    and_from (part.here i) (list_all part.here is) p.0 (slots_said part is p.1)

-- no grain that holds its variable's value is out in a clear set
values_left : (plan : Plan) (set : List Atom) → is_clear plan set ≡ true → ValuesAreLeft plan (seen_of set)
values_left plan set clear v g a e h =
    let f = facts plan set clear in
    false_from_ne_true (has same_atom set (Out v g)) (λ k.
    both (and_from (v == v) (is_grain_with plan v (lies_in a) g) (eq-eqb v v refl) h)
    (f.apart (Is v a) (Out v g) (value_has set v a e) k))

-- all that is said of a kind follows from its own premises
kind_follows : (plan : Plan) (seen : Seen) (rule : Rule) (kind : Kind) → ValuesAreLeft plan seen
    → EachFollows (λ part. kind_gives plan part rule kind) seen (kind_said plan seen rule kind)
kind_follows plan seen rule (Among v restriction) kept = among_follows plan seen rule v restriction
kind_follows plan seen rule (Compare r a b) kept = compare_follows plan seen rule r a b kept
kind_follows plan seen rule (Equate a b) kept = equate_follows plan seen rule a b
kind_follows plan seen rule (ByTable table columns) kept = table_follows plan seen rule table columns kept
kind_follows plan seen rule Never kept = λ part w s. refl
kind_follows plan seen rule (Last v) kept = last_follows plan seen v
kind_follows plan seen rule (Line i) kept = line_follows plan seen i

-- what is given without what stands doesn't stand
fresh_is_new : (seen : Seen) (given : Given Atom) (a : Atom) → has same_atom (atoms_of (fresh seen given)) a ≡ true
    → says seen a ≡ false
fresh_is_new seen clash a h = absurd (cc)
fresh_is_new seen (atoms xs) a h =
    let p = has_filter same_atom atom_exact atom_itself (λ b. not (says seen b)) xs a h in not-true (says seen a) p.1

-- and what is given and doesn't stand is given so
new_is_fresh : (seen : Seen) (given : Given Atom) (a : Atom) → has same_atom (atoms_of given) a ≡ true
    → says seen a ≡ false
    → has same_atom (atoms_of (fresh seen given)) a ≡ true
new_is_fresh seen clash a h e = absurd (cc)
new_is_fresh seen (atoms xs) a h e =
    filter_has same_atom atom_exact atom_itself (λ b. not (says seen b)) xs a h (not_from_false (says seen a) e)

fresh_clash : (seen : Seen) (given : Given Atom) → is_clash given ≡ true → is_clash (fresh seen given) ≡ true
fresh_clash seen clash e = refl
fresh_clash seen (atoms xs) e = absurd (cc)

module _ (plan : Plan) (set : List Atom) (clear : is_clear plan (set_with set) ≡ true) (rule : Rule) where
  abbrev seen : Seen
  seen = seen_of (set_with set)

  abbrev why : List Atom
  why = why_it_acts plan seen rule

  root_here : seen.here 0 ≡ true
  root_here = has_first same_atom atom_exact atom_itself (Here 0) set

  -- what the premises say, with that the root is here
  module _ (own : List Atom) (stands : SaysAll seen (cited_once (why ++ own))) where
    abbrev cites : List Atom
    cites = cited_once (why ++ own)

    abbrev part : Seen
    part = seen_of (set_with cites)

    a_part : IsPartOf part seen × SaysAll part cites
    a_part = premises_are_a_part seen cites root_here stands

    said_there : (a : Atom) → has same_atom (why ++ own) a ≡ true → says part a ≡ true
    said_there a h =
        elim (told (same_atom (Here 0) a)) [
          | inl q ↦ subst (λ z. says part z ≡ true) (atom_exact (Here 0) a q)
              (has_first same_atom atom_exact atom_itself (Here 0) cites)
          | inr q ↦ all_at same_atom atom_exact atom_itself (says part) cites a a_part.1
              (all_is_cited (why ++ own) a h q)
        ]

    said_parts : SaysAll part why × SaysAll part own
    said_parts = parts_said part why own (all_from same_atom atom_exact atom_itself (says part) (why ++ own) said_there)

    -- the rule acts there too
    acts_there : acts plan seen rule ≡ true → acts plan part rule ≡ true
    acts_there e =
        let values = values_of seen (deciding_if seen (slice_get plan.conditions rule.condition)) in
        let p = parts_said part (map Here rule.slots) values said_parts.0 in
        acting_suffices plan seen part rule e (slots_said part rule.slots p.0)
        (values_same part seen a_part.0 (deciding_if seen (slice_get plan.conditions rule.condition)) p.1)

    clear_there : is_clear plan (set_with cites) ≡ true
    clear_there =
        part_clear plan (set_with cites) (set_with set) clear
        (within_cons same_atom atom_exact atom_itself (Here 0) cites (set_with set) root_here
        (λ a h. says_has (set_with set) a (all_at same_atom atom_exact atom_itself (says seen) cites a stands h)))

    -- so what it says there it says as a rule of the plan
    said_by_rule : acts plan seen rule ≡ true → rule_says plan part (Some rule) ≡ kind_gives plan part rule rule.kind
    said_by_rule e = ap (λ b. cond b (kind_gives plan part rule rule.kind) nothing) (acts_there e)

    conclusion_there : acts plan seen rule ≡ true → (a : Atom)
        → has same_atom (atoms_of (kind_gives plan part rule rule.kind)) a ≡ true
        → says seen a ≡ false → has same_atom (atoms_of (fresh part (rule_says plan part (Some rule)))) a ≡ true
    conclusion_there e a h new =
        new_is_fresh part (rule_says plan part (Some rule)) a
        (ap (λ z. has same_atom (atoms_of z) a) (said_by_rule e) ∙ h)
        (false_from_ne_true (says part a) (λ k. both (part_says part seen a_part.0 a k) new))

    clash_there : acts plan seen rule ≡ true → is_clash (kind_gives plan part rule rule.kind) ≡ true
        → is_clash (fresh part (rule_says plan part (Some rule))) ≡ true
    clash_there e h = fresh_clash part (rule_says plan part (Some rule)) (ap is_clash (said_by_rule e) ∙ h)

-- what follows by a rule that is there: the premises are clear and read by it, and it gives the conclusion at them,
-- or clashes
abbrev GivesThere : Plan → Option Rule → Conclusion → Type 0
GivesThere plan o c =
    let there = seen_of (set_with c.premises) in
    (is_clear plan (set_with c.premises) ≡ true)
    × ((are_of (reads_in plan o) c.premises ≡ true)
    × (has same_atom (atoms_of (fresh there (rule_says plan there o))) c.atom ≡ true))

abbrev ClashesThere : Plan → Option Rule → List Atom → Type 0
ClashesThere plan o premises =
    let there = seen_of (set_with premises) in
    (is_clear plan (set_with premises) ≡ true)
    × ((are_of (reads_in plan o) premises ≡ true) × (is_clash (fresh there (rule_says plan there o)) ≡ true))

abbrev AllGiveThere : Plan → Option Rule → Said → Type 0
AllGiveThere plan o (clashing premises) = ClashesThere plan o premises
AllGiveThere plan o (concluding cs) = AllByRecursion (GivesThere plan o) cs

said_follows : (plan : Plan) (set : List Atom) → is_clear plan (set_with set) ≡ true
    → (rule : Rule) (things : Atom → Bool)
    → acts plan (seen_of (set_with set)) rule ≡ true → (said : Said)
    → EachFollows (λ part. kind_gives plan part rule rule.kind) (seen_of (set_with set)) said
    → let found = said_with (why_it_acts plan (seen_of (set_with set)) rule) said in
    each_premise (says (seen_of (set_with set))) found ≡ true
    → each_premise (λ a. has_thing (reads_in plan (Some rule)) (thing_of a)) found ≡ true
    → IsNew (seen_of (set_with set)) found → AllGiveThere plan (Some rule) found
said_follows plan set clear rule things acting (clashing own) follow stands read new =
    let there = part plan set clear rule own stands in (
      clear_there plan set clear rule own stands,
      (
        read,
        clash_there plan set clear rule own stands acting
            (follow there (a_part plan set clear rule own stands).0 (said_parts plan set clear rule own stands).1),
      ),
    )
said_follows plan set clear rule things acting (concluding cs) follow stands read new = each cs follow stands read new
  where
    whole : Seen
    whole = seen_of (set_with set)

    with_why : Conclusion → Conclusion
    with_why = conclusion_with (why_it_acts plan whole rule)

    each : (cs : List Conclusion) → AllByRecursion (Follows (λ p. kind_gives plan p rule rule.kind) whole) cs
        → list_all (λ (c : Conclusion). list_all (says whole) c.premises) (map with_why cs) ≡ true
        → list_all (λ (c : Conclusion). are_of (reads_in plan (Some rule)) c.premises) (map with_why cs) ≡ true
        → AllByRecursion (λ (c : Conclusion). says whole c.atom ≡ false) (map with_why cs)
        → AllByRecursion (GivesThere plan (Some rule)) (map with_why cs)
    each [] f s r n = tt
    each (c ∷ cs) f s r n =
        let p : (SaysAll whole (with_why c).premises)
        × (list_all (λ (d : Conclusion). list_all (says whole) d.premises) (map with_why cs) ≡ true) =
        and_parts (list_all (says whole) (with_why c).premises)
        (list_all (λ (d : Conclusion). list_all (says whole) d.premises) (map with_why cs)) s in
        let q : (are_of (reads_in plan (Some rule)) (with_why c).premises ≡ true)
        × (list_all (λ (d : Conclusion). are_of (reads_in plan (Some rule)) d.premises) (map with_why cs) ≡ true) =
        and_parts (are_of (reads_in plan (Some rule)) (with_why c).premises)
        (list_all (λ (d : Conclusion). are_of (reads_in plan (Some rule)) d.premises) (map with_why cs)) r in
        let there = part plan set clear rule c.premises p.0 in (
          (
            clear_there plan set clear rule c.premises p.0,
            (
              q.0,
              conclusion_there plan set clear rule c.premises p.0 acting c.atom
                  (f.0 there (a_part plan set clear rule c.premises p.0).0
                  (said_parts plan set clear rule c.premises p.0).1) n.0,
            ),
          ),
          each cs f.1 p.1 q.1 n.1,
        )

-- what is found is new
new_there : (plan : Plan) (sources : Sources) (seen : Seen) (r : ℕ) → IsNew seen (found_at plan seen r)
new_there plan sources seen r = by (found_at plan seen r) (found_is_given plan sources seen r)
  where
    each : (cs : List Conclusion) → ((a : Atom) → has same_atom (map (λ (c : Conclusion). c.atom) cs) a ≡ true
        → says seen a ≡ false)
        → AllByRecursion (λ (c : Conclusion). says seen c.atom ≡ false) cs
    each [] f = tt
    each (c ∷ cs) f = (
      f c.atom (has_first same_atom atom_exact atom_itself c.atom (map (λ (d : Conclusion). d.atom) cs)),
      each cs (λ a h. f a (has_more same_atom atom_exact atom_itself c.atom (map (λ (d : Conclusion). d.atom) cs) a h)),
    )

    by : (said : Said) → given_of said ≡ gives plan sources (by_rule r) seen → IsNew seen said
    by (clashing premises) e = tt
    by (concluding cs) e =
        each cs (λ a h. fresh_is_new seen (rule_says plan seen (slice_get plan.rules r)) a
        (sym (ap (λ z. has same_atom (atoms_of z) a) e) ∙ h))

found_gives : (plan : Plan) (set : List Atom) → is_clear plan (set_with set) ≡ true → (o : Option Rule)
    → each_premise (says (seen_of (set_with set))) (found_by plan (seen_of (set_with set)) o) ≡ true
    → each_premise (λ a. has_thing (reads_in plan o) (thing_of a)) (found_by plan (seen_of (set_with set)) o) ≡ true
    → IsNew (seen_of (set_with set)) (found_by plan (seen_of (set_with set)) o)
    → AllGiveThere plan o (found_by plan (seen_of (set_with set)) o)
found_gives plan set clear None stands read new = tt
found_gives plan set clear (Some rule) stands read new = by (acts plan whole rule) refl stands read new
  where
    whole : Seen
    whole = seen_of (set_with set)

    found : Bool → Said
    found b = cond b (said_with (why_it_acts plan whole rule) (kind_said plan whole rule rule.kind)) silent

    by : (b : Bool) → acts plan whole rule ≡ b → each_premise (says whole) (found b) ≡ true
        → each_premise (λ a. has_thing (reads_in plan (Some rule)) (thing_of a)) (found b) ≡ true
        → IsNew whole (found b)
        → AllGiveThere plan (Some rule) (found b)
    by true e s r n =
        said_follows plan set clear rule (λ a. has_thing (reads_in plan (Some rule)) (thing_of a)) e
        (kind_said plan whole rule rule.kind)
        (kind_follows plan whole rule rule.kind (values_left plan (set_with set) clear)) s r n
    by false e s r n = tt

-- and that is what who checks reasons asks
as_steps : (plan : Plan) (sources : Sources) (r : ℕ) (said : Said) → AllGiveThere plan (slice_get plan.rules r) said
    → AllFollow plan sources r said
as_steps plan sources r (clashing premises) h =
    let there = seen_of (set_with premises) in
    and_from (is_clear plan (set_with premises))
    (are_of (giver_reads plan (by_rule r)) premises && is_clash (gives plan sources (by_rule r) there)) h.0
    (and_from (are_of (giver_reads plan (by_rule r)) premises)
    (is_clash (gives plan sources (by_rule r) there)) h.1.0 h.1.1)
as_steps plan sources r (concluding cs) h = each cs h
  where
    one : (c : Conclusion) → GivesThere plan (slice_get plan.rules r) c → IsStep plan sources r c
    one c k numbers =
        let there = seen_of (set_with c.premises) in
        and_from (is_clear plan (set_with c.premises) && are_of (giver_reads plan (by_rule r)) c.premises)
        (has same_atom (atoms_of (gives plan sources (by_rule r) there)) c.atom)
        (and_from (is_clear plan (set_with c.premises))
        (are_of (giver_reads plan (by_rule r)) c.premises) k.0 k.1.0) k.1.1

    each : (cs : List Conclusion) → AllByRecursion (GivesThere plan (slice_get plan.rules r)) cs
        → AllByRecursion (IsStep plan sources r) cs
    each [] k = tt
    each (c ∷ cs) k = (one c k.0, each cs k.1)

pub found_is_new : FoundIsNew
found_is_new plan seen r = new_there plan (record { user = []; written = [] }) seen r

-- what stands and isn't that the root is here is of the set
pub found_is_concluded : FoundIsConcluded
found_is_concluded plan set r = by (found_at plan seen r) (found_stands plan seen r) (found_beside_root plan seen r)
  where
    seen : Seen
    seen = seen_of (set_with set)

    beside : Atom → Bool
    beside a = not (same_atom (Here 0) a)

    one : (a : Atom) → says seen a ≡ true → beside a ≡ true → has same_atom set a ≡ true
    one a h k =
        elim (has_cases same_atom atom_exact atom_itself (Here 0) set a (says_has (set_with set) a h)) [
          | inl q ↦ absurd (both (ap (same_atom (Here 0)) q ∙ atom_itself (Here 0)) (not-true (same_atom (Here 0) a) k))
          | inr q ↦ q
        ]

    all : (xs : List Atom) → list_all (says seen) xs ≡ true → list_all beside xs ≡ true
        → list_all (has same_atom set) xs ≡ true
    all [] h k = refl
    all (x ∷ xs) h k =
        let p : (says seen x ≡ true) × (list_all (says seen) xs ≡ true) =
        and_parts (says seen x) (list_all (says seen) xs) h in
        let q : (beside x ≡ true) × (list_all beside xs ≡ true) = and_parts (beside x) (list_all beside xs) k in
        and_from (has same_atom set x) (list_all (has same_atom set) xs) (one x p.0 q.0) (all xs p.1 q.1)

    each : (cs : List Conclusion) → list_all (λ (c : Conclusion). list_all (says seen) c.premises) cs ≡ true
        → list_all (λ (c : Conclusion). list_all beside c.premises) cs ≡ true
        → list_all (λ (c : Conclusion). list_all (has same_atom set) c.premises) cs ≡ true
    each [] h k = refl
    each (c ∷ cs) h k =
        let p : (list_all (says seen) c.premises ≡ true)
        × (list_all (λ (d : Conclusion). list_all (says seen) d.premises) cs ≡ true) =
        and_parts (list_all (says seen) c.premises)
        (list_all (λ (d : Conclusion). list_all (says seen) d.premises) cs) h in
        let q : (list_all beside c.premises ≡ true)
        × (list_all (λ (d : Conclusion). list_all beside d.premises) cs ≡ true) =
        and_parts (list_all beside c.premises) (list_all (λ (d : Conclusion). list_all beside d.premises) cs) k in
        and_from (list_all (has same_atom set) c.premises)
        (list_all (λ (d : Conclusion). list_all (has same_atom set) d.premises) cs)
        (all c.premises p.0 q.0) (each cs p.1 q.1)

    by : (said : Said) → each_premise (says seen) said ≡ true → each_premise beside said ≡ true
        → each_premise (has same_atom set) said ≡ true
    by (clashing premises) h k = all premises h k
    by (concluding cs) h k = each cs h k

pub found_follows : FoundFollows
found_follows plan sources set r clear =
    let seen = seen_of (set_with set) in
    as_steps plan sources r (found_at plan seen r)
    (found_gives plan set clear (slice_get plan.rules r) (found_stands plan seen r) (found_is_read plan seen r)
    (new_there plan sources seen r))

-- what is true of all is true at a place, and so of the atoms of a list that all pass
at_place : (P Q : Conclusion → Type 0) (cs : List Conclusion) (i : ℕ) (conclusion : Conclusion) → AllByRecursion P cs
    → AllByRecursion Q cs → slice_get cs i ≡ Some conclusion → P conclusion × Q conclusion
at_place P Q [] i conclusion h k e = absurd (cc)
at_place P Q (c ∷ cs) zero conclusion h k e =
    let is : c ≡ conclusion = cc in (subst P is h.0, subst Q is k.0)
at_place P Q (c ∷ cs) (suc i) conclusion h k e = at_place P Q cs i conclusion h.1 k.1 e

all_each : (test : Conclusion → Bool) (cs : List Conclusion) → list_all test cs ≡ true
    → AllByRecursion (λ c. test c ≡ true) cs
all_each test [] e = tt
all_each test (c ∷ cs) e =
    let p : (test c ≡ true) × (list_all test cs ≡ true) = and_parts (test c) (list_all test cs) e in
    (p.0, all_each test cs p.1)

pub found_is_next : FoundIsNext
found_is_next plan sources log r conclusions n conclusion clear e g =
    let set = concluded log in
    let all = subst (AllFollow plan sources r) e (found_follows plan sources set r clear) in
    let there : list_all (λ (c : Conclusion). list_all (has same_atom set) c.premises) conclusions ≡ true =
    subst (λ said. each_premise (has same_atom set) said ≡ true) e (found_is_concluded plan set r) in
    let both_there = at_place (IsStep plan sources r)
    (λ (c : Conclusion). list_all (has same_atom set) c.premises ≡ true)
    conclusions n conclusion all (all_each (λ (c : Conclusion). list_all
    (has same_atom set) c.premises) conclusions there) g in
    record {
      there = λ a h. all_at same_atom atom_exact atom_itself (has same_atom set) conclusion.premises a both_there.1 h;
      from = both_there.0;
    }

-- more steps conclude more
concluded_more : (log more : List Step) → concluded (log ++ more) ≡ concluded log ++ concluded more
concluded_more [] more = refl
concluded_more (step ∷ log) more = ap (λ xs. step.conclusion ∷ xs) (concluded_more log more)

pub next_may_wait : NextMayWait
next_may_wait plan sources log more atom origin premises next =
    record {
      there = λ a h.
          subst (λ xs. has same_atom xs a ≡ true) (sym (concluded_more log more))
          (has_front same_atom atom_exact atom_itself (concluded log) (concluded more) a (next.there a h));
      from = next.from;
    }

-- an accepted list goes on with a step that is justified after it
goes_on : (plan : Plan) (sources : Sources) (earlier : List Atom) (steps : List Step) (step : Step)
    → accepted step_form (follows plan sources) earlier steps ≡ true
    → is_justified step_form (follows plan sources) (earlier ++ concluded steps) step ≡ true
    → accepted step_form (follows plan sources) earlier (steps ++ step ∷ []) ≡ true
goes_on plan sources earlier [] step e j =
    and_from (is_justified step_form (follows plan sources) earlier step) true
    (subst (λ xs. is_justified step_form (follows plan sources) xs step ≡ true) (append-nil earlier) j) refl
goes_on plan sources earlier (first ∷ steps) step e j =
    let later = accepted step_form (follows plan sources) (earlier ++ first.conclusion ∷ []) in
    let p = and_parts (is_justified step_form (follows plan sources) earlier first) (later steps) e in
    and_from (is_justified step_form (follows plan sources) earlier first) (later (steps ++ step ∷ [])) p.0
    (goes_on plan sources (earlier ++ first.conclusion ∷ []) steps step p.1
    (subst (λ xs. is_justified step_form (follows plan sources) xs step ≡ true)
    (sym (append_assoc earlier (first.conclusion ∷ []) (concluded steps))) j))

pub next_is_accepted : NextIsAccepted
next_is_accepted plan sources log atom origin premises numbers accepts next cites =
    let step : Step = record { conclusion = atom; origin = origin; premises = numbers } in
    goes_on plan sources [] log step accepts (ap (all_pass (follows plan sources step)) cites ∙ next.from numbers)

-- only a constraint's rule clashes
clash_is_of_constraint : (plan : Plan) (seen : Seen) (r : ℕ) (premises : List Atom)
    → found_at plan seen r ≡ clashing premises
    → is_of_constraint (slice_get plan.rules r) ≡ true
clash_is_of_constraint plan seen r premises e = by (slice_get plan.rules r) e
  where
    no_clash : (cs : List Conclusion) (why : List Atom) → said_with why (concluding cs) ≡ clashing premises → ⊥
    no_clash cs why k = cc

    of_kind : (rule : Rule) (kind : Kind) → said_with (why_it_acts plan seen rule) (kind_said plan seen rule kind)
        ≡ clashing premises
        → is_restriction kind ≡ true
    of_kind rule (Among v restriction) k = refl
    of_kind rule (Compare q a b) k = refl
    of_kind rule (Equate a b) k = refl
    of_kind rule (ByTable table columns) k = refl
    of_kind rule Never k = refl
    of_kind rule (Last v) k = absurd (cc)
    of_kind rule (Line i) k = absurd (cc)

    acting : (rule : Rule) (b : Bool)
        → cond b (said_with (why_it_acts plan seen rule) (kind_said plan seen rule rule.kind)) silent
        ≡ clashing premises → is_restriction rule.kind ≡ true
    acting rule true k = of_kind rule rule.kind k
    acting rule false k = absurd (cc)

    by : (o : Option Rule) → found_by plan seen o ≡ clashing premises → is_of_constraint o ≡ true
    by None k = absurd (cc)
    by (Some rule) k = acting rule (acts plan seen rule) k

pub found_refutes : FoundRefutes
found_refutes plan sources log r premises numbers accepts clear e cites =
    let clash = clash_by r log numbers in
    let seen = seen_of (set_with (concluded log)) in
    let there : is_clash_at plan sources clash.culprit premises ≡ true =
    subst (AllFollow plan sources r) e (found_follows plan sources (concluded log) r clear) in
    and_from (is_accepted plan sources log && is_of_constraint (slice_get plan.rules r))
    (all_pass (contradicts plan sources clash) (cited (concluded log) numbers))
    (and_from (is_accepted plan sources log) (is_of_constraint (slice_get plan.rules r)) accepts
    (clash_is_of_constraint plan seen r premises e))
    (ap (all_pass (contradicts plan sources clash)) cites
    ∙ or_left (is_clash_at plan sources clash.culprit premises)
    (is_collision plan clash.culprit premises (cited (map (λ (step : Step). step.origin) log) numbers)) there)
