-- Where one accepted step more makes what is concluded unclear, a clash refutes.
use Rattle.std.proofs.Common.{◌≡◌, ℕ, zero, suc, ◌<◌, Bool, true, false, cond, not, ◌&&◌, ◌||◌, ◌⊎◌, List, [], ◌∷◌}
use Rattle.std.proofs.Common.{◌++◌, length, refl, sym, ◌∙◌, ap, subst, inl, inr, arith}
use Rattle.std.specs.Prelude.{Option, None, Some, nat_eq, nat_lt, slice_get, ◌==◌}
use Rattle.std.specs.List.{find, list_any}
use Rattle.std.specs.Option.{option_to_list}
use Rattle.std.proofs.lemmas.Bool.{and_parts, and_from, cases_lt, eq-eqb, eqb-false, eqb-true, lt-ltb, ltb-true}
use Rattle.std.proofs.lemmas.Bool.{not-true, or_cases, or_left, or_parts}
use Rattle.vc_base.specs.Chains.{cited}
use Rattle.vc_base.specs.Sets.{has, Within}
use Rattle.vc_base.proofs.ChainLaws.{get_below}
use Rattle.vc_base.proofs.ListLaws.{number_exact, number_itself, range_has}
use Rattle.vc_base.proofs.SetLaws.{all_at, both, has_cases, has_either, has_first, has_more, none_at, told}
use Rattle.vc_base.proofs.Settling.{IsIn}
use Rattle.vc_value.specs.declared.value.Value.{Value}
use Rattle.vc_plan.specs.declared.atoms.Atom.{Atom}
use Rattle.vc_plan.specs.declared.atoms.Atom.TheVariants.{Here, Out, Is}
use Rattle.vc_plan.specs.declared.atoms.Culprit.{Culprit}
use Rattle.vc_plan.specs.declared.atoms.Step.{Step}
use Rattle.vc_plan.specs.declared.plans.Plan.{Plan}
use Rattle.vc_plan.specs.declared.plans.Slot.{Slot}
use Rattle.vc_plan.specs.Answers.{only_value, value_of_piece}
use Rattle.vc_plan.specs.Clear.{are_all_out, collides, is_exhausted, is_named}
use Rattle.vc_plan.specs.Domains.{count_of, grains_of, is_grain_with, numbers_below, passes}
use Rattle.vc_plan.specs.Pieces.{lies_in, lies_in_some, same_value}
use Rattle.vc_plan.specs.Seen.{is_here, is_slot_here, same_atom, seen_of, slot_in}
use Rattle.vc_plan.specs.Slots.{is_root}
use Rattle.vc_plan.specs.Sources.{Sources}
use Rattle.vc_plan.specs.Valid.{IsValid}
use Rattle.vc_plan.proofs.PlanLaws.Atoms.{atom_exact, atom_itself, value_itself}
use Rattle.vc_plan.proofs.PlanLaws.Facts.{facts, not_exhausted_past}
use Rattle.vc_plan.proofs.PlanLaws.Lists.{all_grows}
use Rattle.vc_plan_reasons.specs.Checking.{concluded, is_accepted, set_with}
use Rattle.vc_plan_reasons.proofs.ReasonLaws.Givers.{Following, following}
use Rattle.vc_plan_blame.specs.Blame.{are_at_odds, clash_citing, culprit_from, exhausted_by, exhausting, is_out}
use Rattle.vc_plan_blame.specs.Blame.{uses_up}
use Rattle.vc_plan_blame.specs.Laws.{Blames, ExhaustedIsBlamed, ExhaustedIsTouched, IsSettling, OutIsBlamed}
use Rattle.vc_plan_blame.specs.Laws.{ValuesAreBlamed}
use Rattle.vc_plan_blame.proofs.BlameLaws.Citing.{Citing, Concludes, Follows, blames, citing, concludes, step_follows}
use Rattle.vc_plan_blame.proofs.BlameLaws.Colliding.{AreNamed, HasRoom, exhausted_collides, grain_member, pair_collides}
use Rattle.vc_plan_blame.proofs.BlameLaws.Colliding.{slot_here}
use Rattle.vc_plan_blame.proofs.BlameLaws.Named.{given_named, one_in_piece}
use Rattle.vc_plan_blame.proofs.BlameLaws.Origins.{LastGrain, Sayer, chosen, guilty, left_over, out_by, value_by}

-- how a concluded atom follows
step_at : (plan : Plan) (sources : Sources) (log : List Step) (a : Atom) → is_accepted plan sources log ≡ true
    → (c : Concludes log a) → Follows plan sources (concluded log) c.step
step_at plan sources log a e c = step_follows plan sources [] log c.place c.step e c.is

-- what is concluded is named, and the plan has a root
pub rooted : (plan : Plan) → IsValid plan → nat_lt 0 (length plan.slots) ≡ true
rooted plan valid = by plan.slots valid.root
  where
    by : (slots : List Slot) → is_root (slice_get slots 0) ≡ true → nat_lt 0 (length slots) ≡ true
    by [] e = absurd (cc)
    by (slot ∷ slots) e = lt-ltb 0 (suc (length slots)) (omega arith)

pub concluded_named : (plan : Plan) (sources : Sources) (log : List Step) → IsSettling plan sources log
    → AreNamed plan (set_with (concluded log))
concluded_named plan sources log s a h =
    elim (has_cases same_atom atom_exact atom_itself (Here 0) (concluded log) a h) [
      | inl q ↦ ap (is_named plan) q ∙ rooted plan s.valid
      | inr k ↦
          let c : Concludes log a = concludes log a k in
          let f : Follows plan sources (concluded log) c.step = step_at plan sources log a s.accepts c in
          let g : Following plan sources c.step f.premises = following plan sources c.step f.premises f.from in
          ap (is_named plan) (sym c.conclusion)
          ∙ given_named plan sources g.giver (set_with f.premises) c.step.conclusion s.valid.rules_there s.fits g.given
    ]

-- an excluded grain has a culprit
out_culprit : (plan : Plan) (sources : Sources) (log : List Step) (a : Atom) → is_accepted plan sources log ≡ true
    → is_out a ≡ true → (c : Concludes log a)
    → (culprit : Culprit) × (culprit_from plan c.step.origin ≡ Some culprit)
out_culprit plan sources log (Here i) e o c = absurd (cc)
out_culprit plan sources log (Out v g) e o c =
    let f = step_at plan sources log (Out v g) e c in out_by plan sources c.step f.premises v g f.from c.conclusion
out_culprit plan sources log (Is v x) e o c = absurd (cc)

-- a variable that is exhausted is one of the plan, and has a grain
pub exhausted_there : (plan : Plan) (set : List Atom) (v : ℕ) → is_exhausted plan (seen_of set) v ≡ true
    → v < length plan.vars
exhausted_there plan set v e =
    elim (cases_lt v (length plan.vars)) [
      | inl below ↦ below
      | inr past ↦ absurd (both e (not_exhausted_past plan (seen_of set) v past))
    ]

pub some_grain : (plan : Plan) (v : ℕ) → IsValid plan → v < length plan.vars → 0 < count_of plan v
some_grain plan v valid below =
    ltb-true 0 (count_of plan v)
    (all_at nat_eq number_exact number_itself (λ w. nat_lt 0 (count_of plan w)) (numbers_below (length plan.vars)) v
    valid.some_grain (range_has 0 (length plan.vars) v (omega arith) (omega (arith, below))))

pub exhausted_is_blamed : ExhaustedIsBlamed
exhausted_is_blamed plan sources log v numbers s e cites =
    let set = set_with (concluded log) in
    let grain : 0 < count_of plan v = some_grain plan v s.valid (exhausted_there plan set v e) in
    let c : Citing log numbers (exhausting plan v) = citing log numbers (exhausting plan v) cites in
    let g = c.gives (Out v 0) (grain_member plan v 0 grain) in
    let culprit = out_culprit plan sources log (Out v 0) s.accepts refl g.0 in
    blames plan sources log numbers (exhausting plan v) s.accepts cites
    (exhausted_collides plan set v s.valid.some_grain (concluded_named plan sources log s)
    (has_first same_atom atom_exact atom_itself (Here 0) (concluded log)) e)
    c g.0.step.origin culprit.0 g.1 culprit.1

-- where no variable is exhausted
pub nothing_found : {X : Type 0} (p : X → Bool) (xs : List X) → find p xs ≡ None → list_any p xs ≡ false
nothing_found p [] e = refl
nothing_found p (x ∷ xs) e = choice (p x) e (nothing_found p xs)
  where
    choice : (b : Bool) → cond b (Some x) (find p xs) ≡ None → (find p xs ≡ None → list_any p xs ≡ false)
        → (b || list_any p xs) ≡ false
    choice true k next = absurd (cc)
    choice false k next = next k

pub found : {X : Type 0} (p : X → Bool) (xs : List X) (x : X) → find p xs ≡ Some x → (p x ≡ true) × IsIn x xs
found p [] x e = absurd (cc)
found p (y ∷ ys) x e = choice (p y) refl e (found p ys x)
  where
    choice : (b : Bool) → p y ≡ b → cond b (Some y) (find p ys) ≡ Some x
        → (find p ys ≡ Some x → (p x ≡ true) × IsIn x ys)
        → (p x ≡ true) × IsIn x (y ∷ ys)
    choice true q k next = let is : y ≡ x = cc in (subst (λ z. p z ≡ true) is q, inl (sym is))
    choice false q k next = let r = next k in (r.0, inr r.1)

pub in_has : (xs : List Atom) (a : Atom) → IsIn a xs → has same_atom xs a ≡ true
in_has [] a i = absurd i
in_has (x ∷ xs) a (inl e) =
    subst (λ z. has same_atom (x ∷ xs) z ≡ true) (sym e) (has_first same_atom atom_exact atom_itself x xs)
in_has (x ∷ xs) a (inr i) = has_more same_atom atom_exact atom_itself x xs a (in_has xs a i)

pub has_room : (plan : Plan) (stand : List Atom) → exhausted_by plan stand ≡ None → HasRoom plan (set_with stand)
has_room plan stand e v =
    let p = is_exhausted plan (seen_of (set_with stand)) in
    elim (cases_lt v (length plan.vars)) [
      | inl below ↦ none_at nat_eq number_exact number_itself p (numbers_below (length plan.vars)) v
          (nothing_found p (numbers_below (length plan.vars)) e)
          (range_has 0 (length plan.vars) v (omega arith) (omega (arith, below)))
      | inr past ↦ not_exhausted_past plan (seen_of (set_with stand)) v past
    ]

-- what a step concludes stands
pub stands : (log : List Step) (a : Atom) → Concludes log a → has same_atom (concluded log) a ≡ true
stands log a c = standing log c.place c.step c.is c.conclusion
  where
    standing : (steps : List Step) (i : ℕ) (step : Step) → slice_get steps i ≡ Some step → step.conclusion ≡ a
        → has same_atom (concluded steps) a ≡ true
    standing [] i step q k = absurd (cc)
    standing (first ∷ steps) zero step q k =
        let is : first ≡ step = cc in
        subst (λ z. has same_atom (concluded (first ∷ steps)) z ≡ true) (ap (λ s. s.conclusion) is ∙ k)
        (has_first same_atom atom_exact atom_itself first.conclusion (concluded steps))
    standing (first ∷ steps) (suc i) step q k =
        has_more same_atom atom_exact atom_itself first.conclusion (concluded steps) a (standing steps i step q k)

-- a pair of which one has a culprit
pair_blames : (plan : Plan) (sources : Sources) (log : List Step) (a b : Atom) (numbers : List ℕ)
    → IsSettling plan sources log
    → exhausted_by plan (concluded log) ≡ None → cited (concluded log) numbers ≡ Some (a ∷ b ∷ [])
    → are_at_odds plan a b ≡ true
    → ((c : Concludes log a) (d : Concludes log b)
    → ((culprit : Culprit) × (culprit_from plan c.step.origin ≡ Some culprit))
    ⊎ ((culprit : Culprit) × (culprit_from plan d.step.origin ≡ Some culprit)))
    → Blames plan sources (clash_citing plan log numbers)
pair_blames plan sources log a b numbers s room cites odds culprit =
    let set = set_with (concluded log) in
    let c : Citing log numbers (a ∷ b ∷ []) = citing log numbers (a ∷ b ∷ []) cites in
    let a_in = has_first same_atom atom_exact atom_itself a (b ∷ []) in
    let b_in
    = has_more same_atom atom_exact atom_itself a (b ∷ []) b (has_first same_atom atom_exact atom_itself b []) in
    let g = c.gives a a_in in
    let k = c.gives b b_in in
    let in_set : (z : Atom) → Concludes log z → has same_atom set z ≡ true
    = λ z q. has_more same_atom atom_exact atom_itself (Here 0) (concluded log) z (stands log z q) in
    let collides = pair_collides plan set a b (concluded_named plan sources log s) (has_room plan (concluded log) room)
    (has_first same_atom atom_exact atom_itself (Here 0) (concluded log))
    (in_set a g.0) (in_set b k.0) odds in
    elim (culprit g.0 k.0) [
      | inl r ↦ blames plan sources log numbers (a ∷ b ∷ []) s.accepts cites collides c g.0.step.origin r.0 g.1 r.1
      | inr r ↦ blames plan sources log numbers (a ∷ b ∷ []) s.accepts cites collides c k.0.step.origin r.0 k.1 r.1
    ]

pub out_is_blamed : OutIsBlamed
out_is_blamed plan sources log a b numbers s room cites odds out =
    pair_blames plan sources log a b numbers s room cites odds (λ c d. elim (or_cases (is_out a) (is_out b) out) [
      | inl e ↦ inl (out_culprit plan sources log a s.accepts e c)
      | inr e ↦ inr (out_culprit plan sources log b s.accepts e d)
    ])

-- two values at odds are two of one variable
odds_values : (plan : Plan) (v w : ℕ) (x y : Value) → are_at_odds plan (Is v x) (Is w y) ≡ true → (v ≡ w) × (x ≡ y → ⊥)
odds_values plan v w x y e =
    elim (or_cases (collides plan (Is v x) (Is w y)) (collides plan (Is w y) (Is v x)) e) [
      | inl h ↦ let p = and_parts (v == w) (not (same_value x y)) h in (eqb-true v w p.0, differs x y p.1)
      | inr h ↦
          let p = and_parts (w == v) (not (same_value y x)) h in
          (sym (eqb-true w v p.0), λ q. differs y x p.1 (sym q))
    ]
  where
    differs : (a b : Value) → not (same_value a b) ≡ true → a ≡ b → ⊥
    differs a b h q =
        both (subst (λ z. same_value a z ≡ true) q (value_itself a)) (not-true (same_value a b) h)

-- the place of what passes a test
pub any_place : {X : Type 0} (p : X → Bool) (xs : List X) → list_any p xs ≡ true
    → (i : ℕ) × (x : X) × (slice_get xs i ≡ Some x) × (p x ≡ true)
any_place p [] e = absurd (cc)
any_place p (x ∷ xs) e =
    elim (or_cases (p x) (list_any p xs) e) [
      | inl h ↦ (0, x, refl, h)
      | inr h ↦ let r = any_place p xs h in (suc r.0, r.1, r.2, r.3)
    ]

-- beside the value of the last grain no other stands: either its grain is out, or it lies in the same
last_conflict : (plan : Plan) (set : List Atom) (v : ℕ) (x y : Value) → LastGrain plan v x set
    → lies_in_some (grains_of plan v) y ≡ true → (x ≡ y → ⊥)
    → ((h : ℕ) → has same_atom set (Out v h) ≡ true → is_grain_with plan v (lies_in y) h ≡ true → ⊥) → ⊥
last_conflict plan set v x y l named differs no_out =
    let r = any_place (lies_in y) (grains_of plan v) named in
    let below : r.0 < count_of plan v = get_below (grains_of plan v) r.0 r.1 r.2 in
    let holds : is_grain_with plan v (lies_in y) r.0 ≡ true = ap (passes (lies_in y)) r.2 ∙ r.3 in
    elim (told (r.0 == l.grain)) [
      | inl e ↦
          let only : value_of_piece (slice_get (grains_of plan v) r.0) ≡ Some x
          = ap (only_value plan v) (eqb-true r.0 l.grain e) ∙ l.only in
          let one = sym (ap value_of_piece r.2) ∙ only in
          differs (sym (one_in_piece y x r.1 r.3 one))
      | inr e ↦ no_out r.0 (l.others r.0 below (eqb-false r.0 l.grain e)) holds
    ]

-- so of two values one has a culprit
values_culprit : (plan : Plan) (sources : Sources) (log : List Step) (v : ℕ) (x y : Value) → IsSettling plan sources log
    → (x ≡ y → ⊥) → (c : Concludes log (Is v x)) (d : Concludes log (Is v y))
    → has same_atom (concluded log) (Is v x) ≡ true → has same_atom (concluded log) (Is v y) ≡ true
    → list_any (λ o. is_out o && (are_at_odds plan (Is v x) o || are_at_odds plan (Is v y) o)) (concluded log) ≡ false
    → ((culprit : Culprit) × (culprit_from plan c.step.origin ≡ Some culprit))
    ⊎ ((culprit : Culprit) × (culprit_from plan d.step.origin ≡ Some culprit))
values_culprit plan sources log v x y s differs c d x_in y_in none =
    by (value_by plan sources c.step f.premises v x f.from c.conclusion)
    (value_by plan sources d.step g.premises v y g.from d.conclusion)
  where
    f : Follows plan sources (concluded log) c.step
    f = step_at plan sources log (Is v x) s.accepts c

    g : Follows plan sources (concluded log) d.step
    g = step_at plan sources log (Is v y) s.accepts d

    named : (z : Value) → has same_atom (concluded log) (Is v z) ≡ true → lies_in_some (grains_of plan v) z ≡ true
    named z h =
        concluded_named plan sources log s (Is v z)
        (has_more same_atom atom_exact atom_itself (Here 0) (concluded log) (Is v z) h)

    out_stands : (premises : List Atom) (h : ℕ) → Within same_atom premises (concluded log)
        → has same_atom (set_with premises) (Out v h) ≡ true → has same_atom (concluded log) (Out v h) ≡ true
    out_stands premises h within k =
        elim (has_cases same_atom atom_exact atom_itself (Here 0) premises (Out v h) k) [
          | inl q ↦ absurd (cc)
          | inr q ↦ within (Out v h) q
        ]

    odds : (h : ℕ) → has same_atom (concluded log) (Out v h) ≡ true
        → (are_at_odds plan (Is v x) (Out v h) ≡ false) × (are_at_odds plan (Is v y) (Out v h) ≡ false)
    odds h k =
        or_parts (are_at_odds plan (Is v x) (Out v h)) (are_at_odds plan (Is v y) (Out v h))
        (none_at same_atom atom_exact atom_itself
        (λ o. is_out o && (are_at_odds plan (Is v x) o || are_at_odds plan (Is v y) o)) (concluded log) (Out v h) none
        k)

    held : (z : Value) (h : ℕ) → is_grain_with plan v (lies_in z) h ≡ true → are_at_odds plan (Is v z) (Out v h) ≡ true
    held z h e =
        or_left (collides plan (Is v z) (Out v h)) (collides plan (Out v h) (Is v z))
        (and_from (v == v) (is_grain_with plan v (lies_in z) h) (eq-eqb v v refl) e)

    by : Sayer plan sources c.step.origin v x (set_with f.premises)
        → Sayer plan sources d.step.origin v y (set_with g.premises)
        → ((culprit : Culprit) × (culprit_from plan c.step.origin ≡ Some culprit))
        ⊎ ((culprit : Culprit) × (culprit_from plan d.step.origin ≡ Some culprit))
    by (guilty culprit e) later = inl (culprit, e)
    by (chosen p) (guilty culprit e) = inr (culprit, e)
    by (chosen p) (chosen q) = absurd (differs (let same : Some x ≡ Some y = sym p ∙ q in cc))
    by (chosen p) (left_over l) =
        absurd (last_conflict plan (set_with g.premises) v y x l (named x x_in) (λ q. differs (sym q)) (λ h k e.
        both (held x h e) (odds h (out_stands g.premises h g.within k)).0))
    by (left_over l) later =
        absurd (last_conflict plan (set_with f.premises) v x y l (named y y_in) differs (λ h k e.
        both (held y h e) (odds h (out_stands f.premises h f.within k)).1))

odds_culprit : (plan : Plan) (sources : Sources) (log : List Step) (a b : Atom) → IsSettling plan sources log
    → are_at_odds plan a b ≡ true
    → list_any (λ o. is_out o && (are_at_odds plan a o || are_at_odds plan b o)) (concluded log) ≡ false
    → (c : Concludes log a) (d : Concludes log b)
    → ((culprit : Culprit) × (culprit_from plan c.step.origin ≡ Some culprit))
    ⊎ ((culprit : Culprit) × (culprit_from plan d.step.origin ≡ Some culprit))
odds_culprit plan sources log (Here i) b s odds none c d = absurd (slot_calm b odds)
  where
    slot_calm : (z : Atom) → are_at_odds plan (Here i) z ≡ true → ⊥
    slot_calm (Here j) e = cc
    slot_calm (Out w g) e = cc
    slot_calm (Is w y) e = cc
odds_culprit plan sources log (Out v g) b s odds none c d =
    inl (out_culprit plan sources log (Out v g) s.accepts refl c)
odds_culprit plan sources log (Is v x) (Here j) s odds none c d = absurd (cc)
odds_culprit plan sources log (Is v x) (Out w g) s odds none c d =
    inr (out_culprit plan sources log (Out w g) s.accepts refl d)
odds_culprit plan sources log (Is v x) (Is w y) s odds none c d =
    let p = odds_values plan v w x y odds in
    subst (λ z. (d : Concludes log (Is z y))
    → list_any (λ o. is_out o && (are_at_odds plan (Is v x) o || are_at_odds plan (Is z y) o)) (concluded log) ≡ false
    → ((culprit : Culprit) × (culprit_from plan c.step.origin ≡ Some culprit))
    ⊎ ((culprit : Culprit) × (culprit_from plan d.step.origin ≡ Some culprit))) p.0
    (λ k n. values_culprit plan sources log v x y s p.1 c k (stands log (Is v x) c) (stands log (Is v y) k) n) d none

pub values_are_blamed : ValuesAreBlamed
values_are_blamed plan sources log a b numbers s room cites odds none =
    pair_blames plan sources log a b numbers s room cites odds (odds_culprit plan sources log a b s odds none)

-- a variable that an atom more exhausts is touched by it
slot_number : (plan : Plan) (v i : ℕ) (o : Option ℕ) → o ≡ Some i → list_any (λ j. j == i) (option_to_list o) ≡ true
slot_number plan v i None e = absurd (cc)
slot_number plan v i (Some j) e = let is : j ≡ i = cc in or_left (j == i) false (eq-eqb j i is)

pub exhausted_is_touched : ExhaustedIsTouched
exhausted_is_touched plan stand atom v clear e =
    elim (told (uses_up plan v atom)) [ inl q ↦ q | inr q ↦ absurd (untouched q) ]
  where
    more : List Atom
    more = set_with (stand ++ atom ∷ [])

    before : (a : Atom) → has same_atom more a ≡ true → (a ≡ atom → ⊥) → has same_atom (set_with stand) a ≡ true
    before a h other =
        elim (has_either same_atom atom_exact atom_itself (set_with stand) (atom ∷ []) a h) [
          | inl k ↦ k
          | inr k ↦ elim (has_cases same_atom atom_exact atom_itself atom [] a k)
              [ inl q ↦ absurd (other q) | inr z ↦ absurd (cc) ]
        ]

    untouched : uses_up plan v atom ≡ false → ⊥
    untouched q =
        let p = and_parts (is_here plan (seen_of more) v) (are_all_out plan (seen_of more) v) e in
        let slot = slot_here plan more v p.0 in
        let here : is_here plan (seen_of (set_with stand)) v ≡ true
        = ap (is_slot_here (seen_of (set_with stand))) slot.1
        ∙ before (Here slot.0) slot.2 (λ k.
        both (slot_number plan v slot.0 (slot_in (slice_get plan.vars v)) slot.1) (ap (uses_up plan v) k ∙ q)) in
        let out : are_all_out plan (seen_of (set_with stand)) v ≡ true
        = all_grows (λ g. has same_atom more (Out v g)) (λ g. has same_atom (set_with stand) (Out v g))
        (λ g h. before (Out v g) h (λ k. both (eq-eqb v v refl) (ap (uses_up plan v) k ∙ q)))
        (numbers_below (count_of plan v)) p.1 in
        both (and_from (is_here plan (seen_of (set_with stand)) v) (are_all_out plan (seen_of (set_with stand)) v) here
        out)
        ((facts plan (set_with stand) clear).room v)
