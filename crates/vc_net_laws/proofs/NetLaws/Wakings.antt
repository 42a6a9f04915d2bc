-- How often givers may be asked: sums over atoms and over givers, and few atoms of each thing.
use Rattle.std.proofs.Common.{◌≡◌, ℕ, ◌+◌, ◌*◌, ◌-◌, ◌≤◌, ◌<◌, Bool, true, false, cond, ◌&&◌, ◌||◌, List, [], ◌∷◌, ◌++◌}
use Rattle.std.proofs.Common.{length, map, refl, sym, ◌∙◌, ap, subst, inl, inr, arith}
use Rattle.std.specs.Prelude.{nat_eq}
use Rattle.std.specs.List.{IsDistinct, filter, list_any, sum_by}
use Rattle.std.proofs.lemmas.Bool.{and_parts, cases_lt, ltb-true, or_parts}
use Rattle.std.proofs.lemmas.List.Sums.{sum_by-cons, sum_by_push}
use Rattle.vc_base.specs.Sets.{has}
use Rattle.vc_base.proofs.ListLaws.{number_exact, number_itself, range_has}
use Rattle.vc_base.proofs.SetLaws.{both, has_back, has_cases, has_first, has_front, has_more, told}
use Rattle.vc_plan.specs.declared.atoms.Atom.{Atom}
use Rattle.vc_plan.specs.declared.atoms.Atom.TheVariants.{Here, Out, Is}
use Rattle.vc_plan.specs.declared.plans.Plan.{Plan}
use Rattle.vc_plan.specs.declared.rules.Rule.{Rule}
use Rattle.vc_plan.specs.Clear.{is_clear, is_named}
use Rattle.vc_plan.specs.Domains.{count_of, domain_of, grains_in, grains_of, numbers_below}
use Rattle.vc_plan.specs.Gives.{Giver, givers_of}
use Rattle.vc_plan.specs.Pieces.{lies_in_some}
use Rattle.vc_plan.specs.Seen.{same_atom}
use Rattle.vc_plan.proofs.PlanLaws.Atoms.{atom_exact, atom_itself}
use Rattle.vc_plan.proofs.PlanLaws.Facts.{Facts, facts}
use Rattle.vc_plan.proofs.PlanLaws.Lists.{get_past}
use Rattle.vc_plan_reasons.specs.Things.{Thing, has_thing, same_thing, size_of, slot_at, thing_of, touches, var_at}
use Rattle.vc_plan_reasons.specs.Work.{share_of}
use Rattle.vc_plan_reasons.proofs.ReasonLaws.Few.{few_of_a_thing}
use Rattle.vc_plan_reasons.proofs.ReasonLaws.Reaching.{thing_exact, thing_itself}
use Rattle.vc_net_laws.specs.Triggers.{stands_in, trigger_by}
use Rattle.vc_net_laws.specs.Waking.{giver_touches}
use Rattle.vc_net_laws.specs.Wakings.{AtomsPayForTurns, WokenAreFew, WorkIsEnough, givers_at, most_wakings, things_of}
use Rattle.vc_net_laws.specs.Wakings.{wakings}

-- what no element passes keeps nothing
none_kept : {X : Type 0} (p : X → Bool) (xs : List X) → ((x : X) → p x ≡ false) → length (filter p xs) ≤ 0
none_kept p [] f = omega arith
none_kept {X = X} p (x ∷ xs) f = step (p x) (f x) (none_kept p xs f)
  where
    step : (b : Bool) → b ≡ false → length (filter p xs) ≤ 0 → length (cond b (x ∷ filter p xs) (filter p xs)) ≤ 0
    step true e h = absurd (cc)
    step false e h = h

-- a test that passes on the elements of a list whenever another does keeps as many
more_kept : (p q : Atom → Bool) (xs : List Atom) → ((a : Atom) → has same_atom xs a ≡ true → p a ≡ true → q a ≡ true)
    → length (filter p xs) ≤ length (filter q xs)
more_kept p q [] f = omega arith
more_kept p q (x ∷ xs) f =
    step (p x) (q x) (f x (has_first same_atom atom_exact atom_itself x xs))
    (more_kept p q xs (λ a h. f a (has_more same_atom atom_exact atom_itself x xs a h)))
  where
    step : (b c : Bool) → (b ≡ true → c ≡ true) → length (filter p xs) ≤ length (filter q xs)
        → length (cond b (x ∷ filter p xs) (filter p xs)) ≤ length (cond c (x ∷ filter q xs) (filter q xs))
    step true true g h = omega (arith, h)
    step true false g h = let e : false ≡ true = g refl in absurd (cc)
    step false true g h = omega (arith, h)
    step false false g h = h

-- what passes one of two tests is at most what passes the one and what passes the other
kept_of_two : (p q r : Atom → Bool) (xs : List Atom) → ((a : Atom) → p a ≡ true → q a ≡ false → r a ≡ true)
    → length (filter p xs) ≤ length (filter q xs) + length (filter r xs)
kept_of_two p q r [] f = omega arith
kept_of_two p q r (x ∷ xs) f = step (p x) (q x) (r x) (f x) (kept_of_two p q r xs f)
  where
    step : (b c d : Bool) → (b ≡ true → c ≡ false → d ≡ true)
        → length (filter p xs) ≤ length (filter q xs) + length (filter r xs)
        → length (cond b (x ∷ filter p xs) (filter p xs))
        ≤ length (cond c (x ∷ filter q xs) (filter q xs)) + length (cond d (x ∷ filter r xs) (filter r xs))
    step true true true g h = omega (arith, h)
    step true true false g h = omega (arith, h)
    step true false true g h = omega (arith, h)
    step true false false g h = let e : false ≡ true = g refl refl in absurd (cc)
    step false true true g h = omega (arith, h)
    step false true false g h = omega (arith, h)
    step false false true g h = omega (arith, h)
    step false false false g h = h

-- the atoms of things that pass a test are within the sizes of these things
split_test : (p s h : Bool) → (p && (s || h)) ≡ true → (p && s) ≡ false → (p && h) ≡ true
split_test true true h e f = absurd (cc)
split_test true false h e f = e
split_test false s h e f = e

few_of_things : (plan : Plan) (set : List Atom) (p : Thing → Bool) (things : List Thing) → is_clear plan set ≡ true
    → IsDistinct same_atom set
    → length (filter (λ a. p (thing_of a) && has_thing things (thing_of a)) set) ≤ sum_by (size_of plan)
    (filter p things)
few_of_things plan set p [] clear distinct =
    none_kept (λ a. p (thing_of a) && false) set (λ a. and_false (p (thing_of a)))
  where
    and_false : (b : Bool) → (b && false) ≡ false
    and_false true = refl
    and_false false = refl
few_of_things plan set p (t ∷ things) clear distinct =
    let own : Atom → Bool = λ a. p (thing_of a) && same_thing (thing_of a) t in
    let two = kept_of_two (λ a. p (thing_of a) && has_thing (t ∷ things) (thing_of a)) own
    (λ a. p (thing_of a) && has_thing things (thing_of a)) set
    (λ a e f. split_test (p (thing_of a)) (same_thing (thing_of a) t) (has_thing things (thing_of a)) e f) in
    let rest = few_of_things plan set p things clear distinct in
    step (p t) refl (length (filter (λ a. p (thing_of a) && has_thing (t ∷ things) (thing_of a)) set))
    (length (filter (λ a. p (thing_of a) && has_thing things (thing_of a)) set)) two rest
  where
    step : (b : Bool) → p t ≡ b → (m n : ℕ)
        → m ≤ length (filter (λ a. p (thing_of a) && same_thing (thing_of a) t) set) + n
        → n ≤ sum_by (size_of plan) (filter p things)
        → m ≤ sum_by (size_of plan) (cond b (t ∷ filter p things) (filter p things))
    step true e m n two rest =
        let most = more_kept (λ a. p (thing_of a) && same_thing (thing_of a) t) (λ a. same_thing (thing_of a) t) set
        (λ a h k. (and_parts (p (thing_of a)) (same_thing (thing_of a) t) k).1) in
        let few = few_of_a_thing plan set t clear distinct in
        let sum = sum_by-cons (size_of plan) t (filter p things) in
        let within : m ≤ sum_by (size_of plan) (t ∷ filter p things) = omega (arith, two, rest, most, few, sum) in
        within
    step false e m n two rest =
        let none = none_kept (λ a. p (thing_of a) && same_thing (thing_of a) t) set
        (λ a. elim (told (p (thing_of a) && same_thing (thing_of a) t)) [
          | inl h ↦
              let r = and_parts (p (thing_of a)) (same_thing (thing_of a) t) h in
              absurd (both r.0 (ap p (thing_exact (thing_of a) t r.1) ∙ e))
          | inr h ↦ h
        ]) in
        omega (arith, two, rest, none)

-- where all atoms of the set are of the things
few_touched : (plan : Plan) (set : List Atom) (p : Thing → Bool) (things : List Thing) → is_clear plan set ≡ true
    → IsDistinct same_atom set
    → ((atom : Atom) → has same_atom set atom ≡ true → has_thing things (thing_of atom) ≡ true)
    → length (filter (λ a. p (thing_of a)) set) ≤ sum_by (size_of plan) (filter p things)
few_touched plan set p things clear distinct inside =
    let most = more_kept (λ a. p (thing_of a)) (λ a. p (thing_of a) && has_thing things (thing_of a)) set
    (λ a h e. both_hold (p (thing_of a)) (has_thing things (thing_of a)) e (inside a h)) in
    let few = few_of_things plan set p things clear distinct in
    omega (arith, most, few)
  where
    both_hold : (b c : Bool) → b ≡ true → c ≡ true → (b && c) ≡ true
    both_hold true c e f = f
    both_hold false c e f = e

module _ {G : Type 0} (touch : G → Thing → Bool) where
  -- how many of the givers touch the thing of an atom, over all atoms
  abbrev asked : List G → List Atom → ℕ
  asked givers set = sum_by (λ a. length (filter (λ g. touch g (thing_of a)) givers)) set

  asked_none : (set : List Atom) → asked [] set ≤ 0
  asked_none [] = omega arith
  asked_none (a ∷ set) = let h = asked_none set in omega (arith, h)

  -- with one giver more, as often more as it touches an atom's thing
  asked_more : (g : G) (givers : List G) (set : List Atom)
      → asked (g ∷ givers) set ≤ length (filter (λ a. touch g (thing_of a)) set) + asked givers set
  asked_more g givers [] = omega arith
  asked_more g givers (a ∷ set) =
      let own = filter (λ h. touch h (thing_of a)) givers in
      let later = filter (λ b. touch g (thing_of b)) set in
      let more : asked (g ∷ givers) (a ∷ set)
      ≡ length (cond (touch g (thing_of a)) (g ∷ own) own) + asked (g ∷ givers) set
      = sum_by-cons (λ b. length (filter (λ h. touch h (thing_of b)) (g ∷ givers))) a set in
      let rest : asked givers (a ∷ set) ≡ length own + asked givers set
      = sum_by-cons (λ b. length (filter (λ h. touch h (thing_of b)) givers)) a set in
      join (asked (g ∷ givers) (a ∷ set)) (length (cond (touch g (thing_of a)) (g ∷ own) own) + asked (g ∷ givers) set)
      (length (cond (touch g (thing_of a)) (a ∷ later) later)) (asked givers (a ∷ set)) (length own + asked givers set)
      more rest
      (step (touch g (thing_of a)) own later (asked (g ∷ givers) set) (asked givers set) (asked_more g givers set))
    where
      step : (b : Bool) (own : List G) (later : List Atom) (m n : ℕ) → m ≤ length later + n
          → length (cond b (g ∷ own) own) + m ≤ length (cond b (a ∷ later) later) + (length own + n)
      step true own later m n h = omega (arith, h)
      step false own later m n h = omega (arith, h)

      join : (x m l y n : ℕ) → x ≡ m → y ≡ n → m ≤ l + n → x ≤ l + y
      join x m l y n e f h = omega (arith, e, f, h)

  -- so all are asked at most as often as the sizes of what they touch allow
  asked_few : (plan : Plan) (set : List Atom) (things : List Thing) → is_clear plan set ≡ true
      → IsDistinct same_atom set
      → ((atom : Atom) → has same_atom set atom ≡ true → has_thing things (thing_of atom) ≡ true) → (givers : List G)
      → asked givers set ≤ sum_by (λ g. sum_by (size_of plan) (filter (touch g) things)) givers
  asked_few plan set things clear distinct inside [] = asked_none set
  asked_few plan set things clear distinct inside (g ∷ givers) =
      let more = asked_more g givers set in
      let own = few_touched plan set (touch g) things clear distinct inside in
      let rest = asked_few plan set things clear distinct inside givers in
      let sum = sum_by-cons (λ h. sum_by (size_of plan) (filter (touch h) things)) g givers in
      omega (arith, more, own, rest, sum)

-- each atom of a clear set is of a thing of the plan
thing_image : (f : ℕ → Thing) (ns : List ℕ) (n : ℕ) → has nat_eq ns n ≡ true → has_thing (map f ns) (f n) ≡ true
thing_image f [] n h = absurd (cc)
thing_image f (m ∷ ns) n h =
    elim (has_cases nat_eq number_exact number_itself m ns n h) [
      | inl e ↦
          subst (λ k. has_thing (f m ∷ map f ns) (f k) ≡ true) (sym e)
          (has_first same_thing thing_exact thing_itself (f m) (map f ns))
      | inr e ↦ has_more same_thing thing_exact thing_itself (f m) (map f ns) (f n) (thing_image f ns n e)
    ]

slot_there : (plan : Plan) (i : ℕ) → i < length plan.slots → has_thing (things_of plan) (slot_at i) ≡ true
slot_there plan i below =
    has_front same_thing thing_exact thing_itself (map slot_at (numbers_below (length plan.slots)))
    (map var_at (numbers_below (length plan.vars))) (slot_at i)
    (thing_image slot_at (numbers_below (length plan.slots)) i
    (range_has 0 (length plan.slots) i (omega arith) (omega (arith, below))))

var_there : (plan : Plan) (v : ℕ) → v < length plan.vars → has_thing (things_of plan) (var_at v) ≡ true
var_there plan v below =
    has_back same_thing thing_exact thing_itself (map slot_at (numbers_below (length plan.slots)))
    (map var_at (numbers_below (length plan.vars))) (var_at v)
    (thing_image var_at (numbers_below (length plan.vars)) v
    (range_has 0 (length plan.vars) v (omega arith) (omega (arith, below))))

-- a variable that isn't there has no grains
no_grains : (plan : Plan) (v : ℕ) → length plan.vars ≤ v → grains_of plan v ≡ []
no_grains plan v past = ap (λ o. grains_in (domain_of plan o)) (get_past plan.vars v past)

named_there : (plan : Plan) (atom : Atom) → is_named plan atom ≡ true
    → has_thing (things_of plan) (thing_of atom) ≡ true
named_there plan (Here i) h = slot_there plan i (ltb-true i (length plan.slots) h)
named_there plan (Out v g) h =
    elim (cases_lt v (length plan.vars)) [
      | inl below ↦ var_there plan v below
      | inr past ↦
          let low : g < count_of plan v = ltb-true g (count_of plan v) h in
          let none : count_of plan v ≡ 0 = ap length (no_grains plan v past) in
          absurd (omega (arith, low, none))
    ]
named_there plan (Is v a) h =
    elim (cases_lt v (length plan.vars)) [
      | inl below ↦ var_there plan v below
      | inr past ↦ absurd (both h (ap (λ pieces. lies_in_some pieces a) (no_grains plan v past)))
    ]

wakings_few : (plan : Plan) (set : List Atom) → is_clear plan set ≡ true → IsDistinct same_atom set
    → wakings plan set ≤ most_wakings plan
wakings_few plan set clear distinct =
    let f : Facts plan set = facts plan set clear in
    asked_few (giver_touches plan) plan set (things_of plan) clear distinct (λ a h. named_there plan a (f.named a h))
    (givers_of plan)

pub atoms_pay_for_turns : AtomsPayForTurns
atoms_pay_for_turns plan set atom agenda later clear distinct few =
    let most = wakings_few plan (set ++ atom ∷ []) clear distinct in
    let more = sum_by_push (givers_at plan) set atom in
    pays (most_wakings plan) (wakings plan set) (wakings plan (set ++ atom ∷ [])) (givers_at plan atom) (length agenda)
    (length later)
    most more few
  where
    pays : (m v w k l n : ℕ) → w ≤ m → w ≡ v + k → n ≤ l + k → (m - w) + n ≤ (m - v) + l
    pays m v w k l n a b c = omega (arith, a, b, c)

-- of two tests together fewer pass
pub woken_are_few : WokenAreFew
woken_are_few plan set atom =
    fewer (λ giver. giver_touches plan giver (thing_of atom))
    (λ giver. stands_in (set ++ atom ∷ []) (trigger_by plan giver))
    (givers_of plan)
  where
    fewer : (p q : Giver → Bool) (xs : List Giver) → length (filter (λ x. p x && q x) xs) ≤ length (filter p xs)
    fewer p q [] = omega arith
    fewer p q (x ∷ xs) = step (p x) (q x) (fewer p q xs)
      where
        step : (b c : Bool) → length (filter (λ y. p y && q y) xs) ≤ length (filter p xs)
            → length (cond (b && c) (x ∷ filter (λ y. p y && q y) xs) (filter (λ y. p y && q y) xs))
            ≤ length (cond b (x ∷ filter p xs) (filter p xs))
        step true true h = omega (arith, h)
        step true false h = omega (arith, h)
        step false c h = h

-- the sizes of what a rule touches of the things, and its share in the work on them
none_touched : (plan : Plan) (p : Thing → Bool) (things : List Thing) → list_any p things ≡ false
    → sum_by (size_of plan) (filter p things) ≤ 0
none_touched plan p [] e = omega arith
none_touched plan p (t ∷ things) e =
    let r = or_parts (p t) (list_any p things) e in
    step (p t) r.0 (none_touched plan p things r.1)
  where
    step : (b : Bool) → b ≡ false → sum_by (size_of plan) (filter p things) ≤ 0
        → sum_by (size_of plan) (cond b (t ∷ filter p things) (filter p things)) ≤ 0
    step true f h = absurd (cc)
    step false f h = h

shares_enough : (plan : Plan) (things : List Thing) (rules : List Rule)
    → length (filter (λ rule. list_any (touches plan rule) things) rules)
    + sum_by (λ rule. sum_by (size_of plan) (filter (touches plan rule) things)) rules
    ≤ sum_by (share_of plan things) (filter (λ rule. list_any (touches plan rule) things) rules)
shares_enough plan things [] = omega arith
shares_enough plan things (rule ∷ rules) =
    let sizes : Rule → ℕ = λ other. sum_by (size_of plan) (filter (touches plan other) things) in
    let all : sum_by sizes (rule ∷ rules) ≡ sizes rule + sum_by sizes rules = sum_by-cons sizes rule rules in
    step (list_any (touches plan rule) things) refl (filter (λ other. list_any (touches plan other) things) rules)
    (sum_by sizes (rule ∷ rules)) (sum_by sizes rules) all (shares_enough plan things rules)
  where
    step : (b : Bool) → list_any (touches plan rule) things ≡ b → (some : List Rule) (m n : ℕ)
        → m ≡ sum_by (size_of plan) (filter (touches plan rule) things) + n
        → length some + n ≤ sum_by (share_of plan things) some
        → length (cond b (rule ∷ some) some) + m ≤ sum_by (share_of plan things) (cond b (rule ∷ some) some)
    step true e some m n f h =
        let own = sum_by (size_of plan) (filter (touches plan rule) things) in
        let sum : sum_by (share_of plan things) (rule ∷ some) ≡ (1 + 2 * own) + sum_by (share_of plan things) some
        = sum_by-cons (share_of plan things) rule some in
        let within : length (rule ∷ some) + m ≤ sum_by (share_of plan things) (rule ∷ some)
        = omega (arith, f, h, sum) in
        within
    step false e some m n f h =
        let none = none_touched plan (touches plan rule) things e in omega (arith, f, h, none)

pub work_is_enough : WorkIsEnough
work_is_enough plan atoms things clear distinct inside =
    let few = asked_few (touches plan) plan atoms things clear distinct inside plan.rules in
    let shares = shares_enough plan things plan.rules in
    omega (arith, few, shares)
