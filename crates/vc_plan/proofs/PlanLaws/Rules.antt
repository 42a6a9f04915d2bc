-- What each kind of rule gives stays or grows with the set.
use Rattle.std.proofs.Common.{◌≡◌, ℕ, min, Bool, true, false, cond, not, ◌&&◌, List, [], ◌∷◌, map, refl, sym, ◌∙◌, ap}
use Rattle.std.proofs.Common.{subst}
use Rattle.std.specs.Prelude.{Option, None, Some, is_none}
use Rattle.std.specs.List.{list_all}
use Rattle.std.proofs.lemmas.Bool.{and_parts, and_from, not-true, not_from_false, false_from_ne_true}
use Rattle.vc_base.specs.Rounds.{clash, atoms}
use Rattle.vc_base.proofs.SetLaws.{both}
use Rattle.vc_value.specs.declared.value.Value.{Value}
use Rattle.vc_plan.specs.declared.atoms.Atom.{Atom}
use Rattle.vc_plan.specs.declared.atoms.Atom.TheVariants.{Here, Out}
use Rattle.vc_plan.specs.declared.conditions.Piece.{Piece}
use Rattle.vc_plan.specs.declared.conditions.Relation.{Relation}
use Rattle.vc_plan.specs.declared.plans.Plan.{Plan}
use Rattle.vc_plan.specs.declared.rules.Kind.{Kind}
use Rattle.vc_plan.specs.declared.rules.Kind.TheVariants.{Among, Compare, Equate, ByTable, Never, Last, Line}
use Rattle.vc_plan.specs.declared.rules.Restriction.{Restriction}
use Rattle.vc_plan.specs.declared.rules.Rule.{Rule}
use Rattle.vc_plan.specs.Answers.{nothing, clash_if, beside, last_atoms, is_nothing}
use Rattle.vc_plan.specs.Clear.{are_all_out}
use Rattle.vc_plan.specs.Domains.{numbers_below, count_of, is_restrictable, is_grain_with}
use Rattle.vc_plan.specs.Gives.{acts, not_out, kind_gives, rule_says}
use Rattle.vc_plan.specs.Kleene.{is_true, is_false}
use Rattle.vc_plan.specs.Pieces.{is_outside, turned}
use Rattle.vc_plan.specs.Readings.{net_reading}
use Rattle.vc_plan.specs.Restrictions.{is_inferred, failing, left_with, of_remaining, confined, allows, among, lone}
use Rattle.vc_plan.specs.Restrictions.{lone_inferred, related, compare, equal_to, decimals_in_side, differ, equate}
use Rattle.vc_plan.specs.Seen.{Seen, is_left, is_here, is_parent_here}
use Rattle.vc_plan.specs.Truth.{compared, truth_at, value_at}
use Rattle.vc_base.proofs.ListLaws.{filter_none, filter_none_stays, filter_one_stays}
use Rattle.vc_plan.proofs.PlanLaws.Answers.{Below, below_self, below_nothing, below_clash_if, below_if, below_when}
use Rattle.vc_plan.proofs.PlanLaws.Answers.{below_beside, below_last}
use Rattle.vc_plan.proofs.PlanLaws.Extending.{Extends, here_stays, parent_stays}
use Rattle.vc_plan.proofs.PlanLaws.Lists.{Implies, all_grows}
use Rattle.vc_plan.proofs.PlanLaws.TableRows.{table_below}
use Rattle.vc_plan.proofs.PlanLaws.Truths.{Later, sharper_compared, sharper_true, sharper_false, truth_at_sharper}
use Rattle.vc_plan.proofs.PlanLaws.Truths.{value_at_later}

-- what is left and passes at the larger set was left and passed
left_before : (plan : Plan) (s t : Seen) → Extends plan s t → (v : ℕ) (test : Piece → Bool)
    → Implies (λ g. is_left plan t v g && is_grain_with plan v test g)
    (λ g. is_left plan s v g && is_grain_with plan v test g)
left_before plan s t x v test g h =
    let p : (is_left plan t v g ≡ true) × (is_grain_with plan v test g ≡ true)
    = and_parts (is_left plan t v g) (is_grain_with plan v test g) h in
    and_from (is_left plan s v g) (is_grain_with plan v test g) (x.left v g p.0) p.1

nothing_is : (gs : List ℕ) → is_nothing gs ≡ true → gs ≡ []
nothing_is [] e = refl
nothing_is (g ∷ gs) e = absurd (cc)

-- none left goes on being none
none_stays : (plan : Plan) (s t : Seen) → Extends plan s t → (v : ℕ) (test : Piece → Bool)
    → is_nothing (left_with plan s v test) ≡ true
    → is_nothing (left_with plan t v test) ≡ true
none_stays plan s t x v test e =
    ap is_nothing
    (filter_none_stays (λ g. is_left plan s v g && is_grain_with plan v test g)
    (λ g. is_left plan t v g && is_grain_with plan v test g)
    (left_before plan s t x v test) (numbers_below (count_of plan v)) (nothing_is (left_with plan s v test) e))

confined_below : (plan : Plan) (s t : Seen) → Extends plan s t → (v : ℕ) (test : Piece → Bool)
    → Below (confined plan s v test) (confined plan t v test)
confined_below plan s t x v test =
    below_if (is_restrictable plan v) (atoms (map (Out v) (failing plan v test)))
    (of_remaining plan v (left_with plan s v test))
    (atoms (map (Out v) (failing plan v test))) (of_remaining plan v (left_with plan t v test))
    (below_self (atoms (map (Out v) (failing plan v test))))
    (below_clash_if (is_nothing (left_with plan s v test)) (is_nothing (left_with plan t v test))
    (atoms (last_atoms plan v (left_with plan s v test)))
    (atoms (last_atoms plan v (left_with plan t v test))) (none_stays plan s t x v test)
    (below_last plan v (left_with plan s v test) (left_with plan t v test)
    (filter_one_stays (λ g. is_left plan s v g && is_grain_with plan v test g)
    (λ g. is_left plan t v g && is_grain_with plan v test g)
    (left_before plan s t x v test) (numbers_below (count_of plan v)))))

among_below : (plan : Plan) (s t : Seen) → Extends plan s t → (rule : Rule) (v : ℕ) (restriction : Restriction)
    → Below (among plan s rule v restriction) (among plan t rule v restriction)
among_below plan s t x rule v restriction =
    let test = allows plan v restriction in
    below_if (is_inferred rule v) (confined plan s v test) (clash_if (is_nothing (left_with plan s v test)) nothing)
    (confined plan t v test)
    (clash_if (is_nothing (left_with plan t v test)) nothing) (confined_below plan s t x v test)
    (below_clash_if (is_nothing (left_with plan s v test)) (is_nothing (left_with plan t v test)) nothing nothing
    (none_stays plan s t x v test)
    (λ e. below_self nothing))

related_below : (plan : Plan) (s t : Seen) → Extends plan s t → (r : Relation) (v : Option ℕ) (o p : Option Value)
    → Later o p
    → Below (related plan s r v o) (related plan t r v p)
related_below plan s t x r None o p f = below_self nothing
related_below plan s t x r (Some v) None p f = below_nothing (related plan t r (Some v) p)
related_below plan s t x r (Some v) (Some a) p f =
    subst (λ z. Below (confined plan s v (λ piece. not (is_outside r a piece))) (related plan t r (Some v) z))
    (sym (f a refl))
    (confined_below plan s t x v (λ piece. not (is_outside r a piece)))

compare_below : (plan : Plan) (s t : Seen) → Extends plan s t → (rule : Rule) (r : Relation) (a b : ℕ)
    → Below (compare plan s rule r a b) (compare plan t rule r a b)
compare_below plan s t x rule r a b =
    let o = value_at plan (net_reading s) a in
    let p = value_at plan (net_reading s) b in
    let o' = value_at plan (net_reading t) a in
    let p' = value_at plan (net_reading t) b in
    let f : Later o o' = value_at_later s t x.value plan a in
    let g : Later p p' = value_at_later s t x.value plan b in
    let v = lone_inferred plan rule a in
    let w = lone_inferred plan rule b in
    below_clash_if (is_false (compared r o p)) (is_false (compared r o' p'))
    (beside (related plan s r v p) (related plan s (turned r) w o))
    (beside (related plan t r v p') (related plan t (turned r) w o'))
    (sharper_false (compared r o p) (compared r o' p') (sharper_compared r o o' p p' f g))
    (λ e. below_beside (related plan s r v p) (related plan s (turned r) w o) (related plan t r v p')
    (related plan t (turned r) w o')
    (related_below plan s t x r v p p' g) (related_below plan s t x (turned r) w o o' f))

equal_below : (plan : Plan) (v : Option ℕ) (o p : Option Value) → Later o p
    → Below (equal_to plan v o) (equal_to plan v p)
equal_below plan None o p f = below_self nothing
equal_below plan (Some v) None p f = below_nothing (equal_to plan (Some v) p)
equal_below plan (Some v) (Some a) p f =
    subst (λ z. Below (equal_to plan (Some v) (Some a)) (equal_to plan (Some v) z)) (sym (f a refl))
    (below_self (equal_to plan (Some v) (Some a)))

differ_later : (decimals : ℕ) (o p x y : Option Value) → Later o p → Later x y → differ decimals o x ≡ true
    → differ decimals p y ≡ true
differ_later decimals None p x y f g e = absurd (cc)
differ_later decimals (Some a) p None y f g e = absurd (cc)
differ_later decimals (Some a) p (Some b) y f g e =
    ap (λ q. differ decimals q y) (f a refl) ∙ (ap (differ decimals (Some a)) (g b refl) ∙ e)

equate_below : (plan : Plan) (s t : Seen) → Extends plan s t → (rule : Rule) (a b : ℕ)
    → Below (equate plan s rule a b) (equate plan t rule a b)
equate_below plan s t x rule a b =
    let o = value_at plan (net_reading s) a in
    let p = value_at plan (net_reading s) b in
    let o' = value_at plan (net_reading t) a in
    let p' = value_at plan (net_reading t) b in
    let f : Later o o' = value_at_later s t x.value plan a in
    let g : Later p p' = value_at_later s t x.value plan b in
    let v = lone_inferred plan rule a in
    let w = lone_inferred plan rule b in
    let alone = is_none v && is_none w in
    let decimals = min (decimals_in_side plan (lone plan a)) (decimals_in_side plan (lone plan b)) in
    below_clash_if (alone && differ decimals o p) (alone && differ decimals o' p')
    (beside (equal_to plan v p) (equal_to plan w o))
    (beside (equal_to plan v p') (equal_to plan w o'))
    (λ e.
    let h : (alone ≡ true) × (differ decimals o p ≡ true) = and_parts alone (differ decimals o p) e in
    and_from alone (differ decimals o' p') h.0 (differ_later decimals o o' p p' f g h.1))
    (λ e. below_beside (equal_to plan v p) (equal_to plan w o) (equal_to plan v p') (equal_to plan w o')
    (equal_below plan v p p' g) (equal_below plan w o o' f))

-- atoms under a test
below_atoms_if : (b c : Bool) (xs ys : List Atom) → (b ≡ true → c ≡ true) → (c ≡ true → Below (atoms xs) (atoms ys))
    → Below (atoms (cond b xs [])) (atoms (cond c ys []))
below_atoms_if true true xs ys f g = g refl
below_atoms_if true false xs ys f g = let no : false ≡ true = f refl in absurd (cc)
below_atoms_if false c xs ys f g = below_nothing (atoms (cond c ys []))

-- a grain that isn't out wasn't
not_out_before : (plan : Plan) (s t : Seen) → Extends plan s t → (v : ℕ)
    → Implies (λ g. not (t.out v g)) (λ g. not (s.out v g))
not_out_before plan s t x v g h =
    not_from_false (s.out v g) (false_from_ne_true (s.out v g) (λ e. both (x.out v g e) (not-true (t.out v g) h)))

-- a variable whose slot is here has a grain that isn't out
some_not_out : (plan : Plan) (s t : Seen) → Extends plan s t → (v : ℕ) → is_here plan t v ≡ true
    → is_nothing (not_out plan t v) ≡ false
some_not_out plan s t x v h = false_from_ne_true (is_nothing (not_out plan t v)) (λ e.
    both
    (and_from (is_here plan t v) (are_all_out plan t v) h
    (filter_none (t.out v) (numbers_below (count_of plan v)) (nothing_is (not_out plan t v) e)))
    (x.room v))

last_below : (plan : Plan) (s t : Seen) → Extends plan s t → (rule : Rule) (v : ℕ)
    → Below (kind_gives plan s rule (Last v)) (kind_gives plan t rule (Last v))
last_below plan s t x rule v =
    below_atoms_if (is_here plan s v) (is_here plan t v) (last_atoms plan v (not_out plan s v))
    (last_atoms plan v (not_out plan t v))
    (here_stays plan s t x v)
    (λ h. below_last plan v (not_out plan s v) (not_out plan t v)
    (filter_one_stays (λ g. not (s.out v g)) (λ g. not (t.out v g)) (not_out_before plan s t x v)
    (numbers_below (count_of plan v)))
    (some_not_out plan s t x v h))

pub kind_below : (plan : Plan) (s t : Seen) → Extends plan s t → (rule : Rule) (kind : Kind)
    → Below (kind_gives plan s rule kind) (kind_gives plan t rule kind)
kind_below plan s t x rule (Among v restriction) = among_below plan s t x rule v restriction
kind_below plan s t x rule (Compare r a b) = compare_below plan s t x rule r a b
kind_below plan s t x rule (Equate a b) = equate_below plan s t x rule a b
kind_below plan s t x rule (ByTable table columns) = table_below plan s t x rule table columns
kind_below plan s t x rule Never = below_self clash
kind_below plan s t x rule (Last v) = last_below plan s t x rule v
kind_below plan s t x rule (Line i) =
    below_atoms_if (is_parent_here plan s i) (is_parent_here plan t i) (Here i ∷ []) (Here i ∷ [])
    (parent_stays plan s t x i) (λ h. below_self (atoms (Here i ∷ [])))

-- a rule that acts goes on acting
acts_stays : (plan : Plan) (s t : Seen) → Extends plan s t → (rule : Rule) → acts plan s rule ≡ true
    → acts plan t rule ≡ true
acts_stays plan s t x rule e =
    let k = truth_at plan (net_reading s) rule.condition in
    let l = truth_at plan (net_reading t) rule.condition in
    let p : (list_all s.here rule.slots ≡ true) × (is_true k ≡ true)
    = and_parts (list_all s.here rule.slots) (is_true k) e in
    and_from (list_all t.here rule.slots) (is_true l) (all_grows s.here t.here x.here rule.slots p.0)
    (sharper_true k l (truth_at_sharper s t x.value plan rule.condition) p.1)

pub rule_below : (plan : Plan) (s t : Seen) → Extends plan s t → (o : Option Rule)
    → Below (rule_says plan s o) (rule_says plan t o)
rule_below plan s t x None = below_self nothing
rule_below plan s t x (Some rule) =
    below_when (acts plan s rule) (acts plan t rule) (kind_gives plan s rule rule.kind)
    (kind_gives plan t rule rule.kind) (acts_stays plan s t x rule)
    (λ e. kind_below plan s t x rule rule.kind)
