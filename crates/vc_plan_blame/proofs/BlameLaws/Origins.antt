-- Who gave what an accepted step concludes: only a constraint's rule puts a grain out; a value is by one, by a
-- statement, by
-- the user, or what is left when all other grains are out.
use Rattle.std.proofs.Common.{◌≡◌, ℕ, ◌<◌, Bool, true, false, cond, not, ◌&&◌, List, [], ◌∷◌, refl, sym, ◌∙◌, ap, subst}
use Rattle.std.proofs.Common.{inl, inr, arith}
use Rattle.std.specs.Prelude.{Option, None, Some, nat_eq, slice_get, ◌==◌}
use Rattle.std.specs.List.{filter, list_any}
use Rattle.std.proofs.lemmas.Bool.{and_parts, and_from, eq-eqb, not_from_false, or_left, or_right}
use Rattle.vc_base.specs.Rounds.{Given, clash, atoms, atoms_of}
use Rattle.vc_base.specs.Sets.{has}
use Rattle.vc_base.proofs.ListLaws.{number_exact, number_itself, range_has}
use Rattle.vc_base.proofs.SetLaws.{filter_has, has_cases, has_filter, told}
use Rattle.vc_base.proofs.Settling.{IsIn}
use Rattle.vc_value.specs.declared.value.Value.{Value}
use Rattle.vc_plan.specs.declared.atoms.Atom.{Atom}
use Rattle.vc_plan.specs.declared.atoms.Atom.TheVariants.{Here, Out, Is}
use Rattle.vc_plan.specs.declared.atoms.Culprit.{Culprit}
use Rattle.vc_plan.specs.declared.atoms.Culprit.TheVariants as culprits
use Rattle.vc_plan.specs.declared.atoms.Origin.{Origin}
use Rattle.vc_plan.specs.declared.atoms.Origin.TheVariants as origins
use Rattle.vc_plan.specs.declared.atoms.Step.{Step}
use Rattle.vc_plan.specs.declared.plans.Plan.{Plan}
use Rattle.vc_plan.specs.declared.rules.Kind.{Kind}
use Rattle.vc_plan.specs.declared.rules.Kind.TheVariants.{Among, Compare, Equate, ByTable, Never, Last, Line}
use Rattle.vc_plan.specs.declared.rules.Rule.{Rule}
use Rattle.vc_plan.specs.Answers.{nothing, fresh, last_atoms, only_value, value_atoms}
use Rattle.vc_plan.specs.Clear.{is_clear}
use Rattle.vc_plan.specs.Domains.{count_of, numbers_below}
use Rattle.vc_plan.specs.Gives.{acts, if_here, kind_gives, not_out, rule_says, value_says}
use Rattle.vc_plan.specs.Seen.{Seen, is_here, is_parent_here, same_atom, says, seen_of}
use Rattle.vc_plan.specs.Sources.{Sources, user_of}
use Rattle.vc_plan.proofs.PlanLaws.Atoms.{atom_exact, atom_itself}
use Rattle.vc_plan_reasons.specs.Checking.{are_of, follows, given_by, giver_from, giver_of, set_with, things_read}
use Rattle.vc_plan_reasons.specs.Checking.{var_of}
use Rattle.vc_plan_reasons.specs.Refuting.{is_blamable, is_of_constraint, is_origin, is_restriction}
use Rattle.vc_plan_blame.specs.Blame.{culprit_from, first_culprit, or_else}

-- what is given is said
pub unfresh : (s : Seen) (x : Given Atom) (a : Atom) → has same_atom (atoms_of (fresh s x)) a ≡ true
    → has same_atom (atoms_of x) a ≡ true
unfresh s clash a h = h
unfresh s (atoms xs) a h = (has_filter same_atom atom_exact atom_itself (λ b. not (says s b)) xs a h).0

-- what is said under a test
pub if_said : (b : Bool) (x : Given Atom) (a : Atom) → has same_atom (atoms_of (cond b x nothing)) a ≡ true
    → has same_atom (atoms_of x) a ≡ true
if_said true x a h = h
if_said false x a h = absurd (cc)

if_atoms : (b : Bool) (xs : List Atom) (a : Atom) → has same_atom (atoms_of (atoms (cond b xs []))) a ≡ true
    → has same_atom xs a ≡ true
if_atoms true xs a h = h
if_atoms false xs a h = absurd (cc)

-- a last grain says no more than its value, and that only where all the others are out
pub record LastGrain (plan : Plan) (v : ℕ) (x : Value) (set : List Atom) : Type 0 where
  pub grain : ℕ
  pub only : only_value plan v grain ≡ Some x
  pub others : (h : ℕ) → h < count_of plan v → (h ≡ grain → ⊥) → has same_atom set (Out v h) ≡ true

value_said : (w : ℕ) (o : Option Value) (a : Atom) → has same_atom (value_atoms w o) a ≡ true
    → (x : Value) × (a ≡ Is w x) × (o ≡ Some x)
value_said w None a h = absurd (cc)
value_said w (Some x) a h =
    elim (has_cases same_atom atom_exact atom_itself (Is w x) [] a h) [ inl e ↦ (x, e, refl) | inr k ↦ absurd (cc) ]

-- of grains of which one is left, each other isn't
one_left : (p : ℕ → Bool) (n g h : ℕ) → filter (λ i. not (p i)) (numbers_below n) ≡ g ∷ [] → h < n → (h ≡ g → ⊥)
    → p h ≡ true
one_left p n g h one below differs =
    elim (told (p h)) [
      | inl e ↦ e
      | inr e ↦
          let in_range = range_has 0 n h (omega arith) (omega (arith, below)) in
          let kept : has nat_eq (filter (λ i. not (p i)) (numbers_below n)) h ≡ true
          = filter_has nat_eq number_exact number_itself (λ i. not (p i)) (numbers_below n) h in_range
          (not_from_false (p h) e) in
          let alone : has nat_eq (g ∷ []) h ≡ true = ap (λ xs. has nat_eq xs h) (sym one) ∙ kept in
          elim (has_cases nat_eq number_exact number_itself g [] h alone) [
            | inl q ↦ absurd (differs q)
            | inr q ↦ absurd (cc)
          ]
    ]

last_said : (plan : Plan) (w : ℕ) (set : List Atom) (gs : List ℕ) (a : Atom) → not_out plan (seen_of set) w ≡ gs
    → has same_atom (last_atoms plan w gs) a ≡ true
    → (x : Value) × (a ≡ Is w x) × LastGrain plan w x set
last_said plan w set [] a is h = absurd (cc)
last_said plan w set (g ∷ []) a is h =
    let r = value_said w (only_value plan w g) a h in (
      r.0,
      r.1,
      record {
        grain = g;
        only = r.2;
        others = λ i below differs. one_left (λ j. has same_atom set (Out w j)) (count_of plan w) g i is below differs;
      },
    )
last_said plan w set (g ∷ (h ∷ more)) a is k = absurd (cc)

-- who says a value: a constraint's rule or a statement, the user, or the rule of the last grain
pub data Sayer (plan : Plan) (sources : Sources) (origin : Origin) (v : ℕ) (x : Value) (set : List Atom) : Type 0 where
  guilty : (culprit : Culprit) → culprit_from plan origin ≡ Some culprit → Sayer plan sources origin v x set
  chosen : user_of sources v ≡ Some x → Sayer plan sources origin v x set
  left_over : LastGrain plan v x set → Sayer plan sources origin v x set

-- a rule that isn't a constraint's says nothing but here, and last values
data RuleSaid (plan : Plan) (kind : Kind) (a : Atom) (set : List Atom) : Type 0 where
  restricts : is_restriction kind ≡ true → RuleSaid plan kind a set
  last_value : (w : ℕ) (x : Value) → a ≡ Is w x → LastGrain plan w x set → RuleSaid plan kind a set
  is_line : (i : ℕ) → a ≡ Here i → RuleSaid plan kind a set

kind_said : (plan : Plan) (set : List Atom) (rule : Rule) (kind : Kind) (a : Atom)
    → has same_atom (atoms_of (kind_gives plan (seen_of set) rule kind)) a ≡ true → RuleSaid plan kind a set
kind_said plan set rule (Among v restriction) a h = restricts refl
kind_said plan set rule (Compare r b c) a h = restricts refl
kind_said plan set rule (Equate b c) a h = restricts refl
kind_said plan set rule (ByTable table columns) a h = restricts refl
kind_said plan set rule Never a h = restricts refl
kind_said plan set rule (Last v) a h =
    let gs = not_out plan (seen_of set) v in
    let r = last_said plan v set gs a refl (if_atoms (is_here plan (seen_of set) v) (last_atoms plan v gs) a h) in
    last_value v r.0 r.1 r.2
kind_said plan set rule (Line i) a h =
    elim (has_cases same_atom atom_exact atom_itself (Here i) [] a
    (if_atoms (is_parent_here plan (seen_of set) i) (Here i ∷ []) a h)) [
      | inl e ↦ is_line i e
      | inr k ↦ absurd (cc)
    ]

-- what the giver of an accepted step gives, where its origin and its conclusion are known
given_from : (plan : Plan) (sources : Sources) (step : Step) (premises : List Atom) (origin : Origin) (atom : Atom)
    → follows plan sources step premises ≡ true → step.origin ≡ origin → step.conclusion ≡ atom
    → has same_atom (atoms_of (given_by plan sources (giver_from sources origin (var_of atom)) (set_with premises)))
    atom ≡ true
given_from plan sources step premises origin atom e o c =
    let set = set_with premises in
    let read = is_clear plan set && are_of (things_read plan (giver_of sources step)) premises in
    let given = has same_atom (atoms_of (given_by plan sources (giver_of sources step) set)) step.conclusion in
    let p : (read ≡ true) × (given ≡ true) = and_parts read given e in
    subst (λ z. has same_atom (atoms_of (given_by plan sources (giver_from sources z (var_of atom)) set)) atom ≡ true) o
    (subst (λ a. has same_atom (atoms_of (given_by plan sources (giver_from sources step.origin (var_of a)) set)) a
    ≡ true) c p.1)

rule_said : (plan : Plan) (set : List Atom) (o : Option Rule) (a : Atom)
    → has same_atom (atoms_of (rule_says plan (seen_of set) o)) a ≡ true
    → (rule : Rule) × (o ≡ Some rule) × RuleSaid plan rule.kind a set
rule_said plan set None a h = absurd (cc)
rule_said plan set (Some rule) a h = (
  rule,
  refl,
  kind_said plan set rule rule.kind a
      (if_said (acts plan (seen_of set) rule) (kind_gives plan (seen_of set) rule rule.kind) a h),
)

-- the origin of a grain that is out is a constraint's rule
user_out : (v w g : ℕ) (o : Option Value) → has same_atom (atoms_of (value_says w o)) (Out v g) ≡ true → ⊥
user_out v w g None h = cc
user_out v w g (Some x) h = cc

pub out_by : (plan : Plan) (sources : Sources) (step : Step) (premises : List Atom) (v g : ℕ)
    → follows plan sources step premises ≡ true → step.conclusion ≡ Out v g
    → (culprit : Culprit) × (culprit_from plan step.origin ≡ Some culprit)
out_by plan sources step premises v g e c = by step.origin refl
  where
    set : List Atom
    set = set_with premises

    of_rule : (r : ℕ) (rule : Rule) → slice_get plan.rules r ≡ Some rule → RuleSaid plan rule.kind (Out v g) set
        → (culprit : Culprit) × (culprit_from plan (origins.Rule r) ≡ Some culprit)
    of_rule r rule is (restricts k) = (
      culprits.Rule r,
      ap (λ o. cond (is_of_constraint o) (Some (culprits.Rule r)) None) is
          ∙ ap (λ b. cond b (Some (culprits.Rule r)) None) k,
    )
    of_rule r rule is (last_value w x q f) = absurd (cc)
    of_rule r rule is (is_line i q) = absurd (cc)

    by : (origin : Origin) → step.origin ≡ origin → (culprit : Culprit) × (culprit_from plan origin ≡ Some culprit)
    by (origins.Rule r) o =
        let h = unfresh (seen_of set) (rule_says plan (seen_of set) (slice_get plan.rules r)) (Out v g)
        (given_from plan sources step premises (origins.Rule r) (Out v g) e o c) in
        let s = rule_said plan set (slice_get plan.rules r) (Out v g) h in
        of_rule r s.0 s.1 s.2
    by origins.User o =
        let said = value_says v (user_of sources v) in
        let h = unfresh (seen_of set) (if_here plan (seen_of set) v said) (Out v g)
        (given_from plan sources step premises origins.User (Out v g) e o c) in
        absurd (user_out v v g (user_of sources v) (if_said (is_here plan (seen_of set) v) said (Out v g) h))
    by (origins.Written procedure statement) o = (culprits.Written procedure statement, refl)

pub value_by : (plan : Plan) (sources : Sources) (step : Step) (premises : List Atom) (v : ℕ) (x : Value)
    → follows plan sources step premises ≡ true → step.conclusion ≡ Is v x
    → Sayer plan sources step.origin v x (set_with premises)
value_by plan sources step premises v x e c = by step.origin refl
  where
    set : List Atom
    set = set_with premises

    of_rule : (r : ℕ) (rule : Rule) → slice_get plan.rules r ≡ Some rule → RuleSaid plan rule.kind (Is v x) set
        → Sayer plan sources (origins.Rule r) v x set
    of_rule r rule is (restricts k) =
        guilty (culprits.Rule r)
        (ap (λ o. cond (is_of_constraint o) (Some (culprits.Rule r)) None) is
        ∙ ap (λ b. cond b (Some (culprits.Rule r)) None) k)
    of_rule r rule is (last_value w y q f) =
        let w_is : w ≡ v = cc in
        let y_is : y ≡ x = cc in
        left_over (subst (λ z. LastGrain plan v z set) y_is (subst (λ z. LastGrain plan z y set) w_is f))
    of_rule r rule is (is_line i q) = absurd (cc)

    by : (origin : Origin) → step.origin ≡ origin → Sayer plan sources origin v x set
    by (origins.Rule r) o =
        let h = unfresh (seen_of set) (rule_says plan (seen_of set) (slice_get plan.rules r)) (Is v x)
        (given_from plan sources step premises (origins.Rule r) (Is v x) e o c) in
        let s = rule_said plan set (slice_get plan.rules r) (Is v x) h in
        of_rule r s.0 s.1 s.2
    by origins.User o =
        let said = value_says v (user_of sources v) in
        let h = unfresh (seen_of set) (if_here plan (seen_of set) v said) (Is v x)
        (given_from plan sources step premises origins.User (Is v x) e o c) in
        chosen (user_said (user_of sources v) (if_said (is_here plan (seen_of set) v) said (Is v x) h))
      where
        user_said : (u : Option Value) → has same_atom (atoms_of (value_says v u)) (Is v x) ≡ true → u ≡ Some x
        user_said None k = absurd (cc)
        user_said (Some y) k =
            elim (has_cases same_atom atom_exact atom_itself (Is v y) [] (Is v x) k) [
              | inl q ↦ let y_is : y ≡ x = cc in ap Some y_is
              | inr q ↦ absurd (cc)
            ]
    by (origins.Written procedure statement) o = guilty (culprits.Written procedure statement) refl

-- a culprit is of the origin that it is from, and can be to blame
pub culprit_ok : (plan : Plan) (origin : Origin) (culprit : Culprit) → culprit_from plan origin ≡ Some culprit
    → (is_blamable plan culprit ≡ true) × (is_origin culprit origin ≡ true)
culprit_ok plan (origins.Rule r) culprit e = choice (is_of_constraint (slice_get plan.rules r)) refl e
  where
    choice : (b : Bool) → is_of_constraint (slice_get plan.rules r) ≡ b
        → cond b (Some (culprits.Rule r)) None ≡ Some culprit
        → (is_blamable plan culprit ≡ true) × (is_origin culprit (origins.Rule r) ≡ true)
    choice true q k =
        let is : culprits.Rule r ≡ culprit = cc in (
          subst (λ c. is_blamable plan c ≡ true) is q,
          subst (λ c. is_origin c (origins.Rule r) ≡ true) is (eq-eqb r r refl),
        )
    choice false q k = absurd (cc)
culprit_ok plan origins.User culprit e = absurd (cc)
culprit_ok plan (origins.Written procedure statement) culprit e =
    let is : culprits.Written procedure statement ≡ culprit = cc in (
      subst (λ c. is_blamable plan c ≡ true) is refl,
      subst (λ c. is_origin c (origins.Written procedure statement) ≡ true) is
          (and_from (procedure == procedure) (statement == statement) (eq-eqb procedure procedure refl)
          (eq-eqb statement statement refl)),
    )

-- so is the first that there is, of one of the origins
pub first_ok : (plan : Plan) (from : List Origin) (culprit : Culprit) → first_culprit plan from ≡ Some culprit
    → (is_blamable plan culprit ≡ true) × (list_any (is_origin culprit) from ≡ true)
first_ok plan [] culprit e = absurd (cc)
first_ok plan (origin ∷ from) culprit e = choice (culprit_from plan origin) refl e (first_ok plan from culprit)
  where
    choice : (o : Option Culprit) → culprit_from plan origin ≡ o → or_else o (first_culprit plan from) ≡ Some culprit
        → (first_culprit plan from ≡ Some culprit
        → (is_blamable plan culprit ≡ true) × (list_any (is_origin culprit) from ≡ true))
        → (is_blamable plan culprit ≡ true) × (list_any (is_origin culprit) (origin ∷ from) ≡ true)
    choice (Some c) q k next =
        let ok = culprit_ok plan origin culprit (q ∙ k) in
        (ok.0, or_left (is_origin culprit origin) (list_any (is_origin culprit) from) ok.1)
    choice None q k next =
        let ok = next k in (ok.0, or_right (is_origin culprit origin) (list_any (is_origin culprit) from) ok.1)

-- and where one of the origins has a culprit, there is a first
pub first_there : (plan : Plan) (from : List Origin) (origin : Origin) (culprit : Culprit) → IsIn origin from
    → culprit_from plan origin ≡ Some culprit → (first : Culprit) × (first_culprit plan from ≡ Some first)
first_there plan [] origin culprit i e = absurd i
first_there plan (other ∷ from) origin culprit i e =
    choice (culprit_from plan other) refl (λ later. first_there plan from origin culprit later e)
  where
    choice : (o : Option Culprit) → culprit_from plan other ≡ o
        → (IsIn origin from → (first : Culprit) × (first_culprit plan from ≡ Some first))
        → (first : Culprit) × (or_else o (first_culprit plan from) ≡ Some first)
    choice (Some c) q next = (c, refl)
    choice None q next =
        next (elim i [
          | inl same ↦ absurd (let no : None ≡ Some culprit = sym q ∙ (ap (culprit_from plan) (sym same) ∙ e) in cc)
          | inr later ↦ later
        ])
