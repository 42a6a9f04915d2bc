-- What rules and sources give is named by the plan: slots and grains that it has, and values that lie in a grain.
use Rattle.std.proofs.Common.{◌≡◌, ℕ, ℤ, zero, suc, ◌<◌, Bool, true, false, cond, not, ◌&&◌, List, [], ◌∷◌, map, refl}
use Rattle.std.proofs.Common.{sym, ◌∙◌, ap, subst, inl, inr, arith}
use Rattle.std.specs.Prelude.{Option, None, Some, is_none, min, nat_eq, slice_get}
use Rattle.std.specs.Int.Signed.{le_z}
use Rattle.std.specs.List.{filter, list_all, list_any}
use Rattle.std.specs.Ordering.{int_eq}
use Rattle.std.proofs.lemmas.Bool.{and_parts, eq-eqb, eqb-true, lt-ltb, or_left, or_right}
use Rattle.std.proofs.lemmas.Bool.Decides.{Decides-int_eq}
use Rattle.std.proofs.lemmas.Int.{ints}
use Rattle.vc_base.specs.Rounds.{Given, clash, atoms, atoms_of}
use Rattle.vc_base.specs.Sets.{has}
use Rattle.vc_base.proofs.ListLaws.{has_range, number_exact, number_itself}
use Rattle.vc_base.proofs.SetLaws.{has_cases, has_either, has_filter, has_first, has_more}
use Rattle.vc_value.specs.declared.value.Value.{Value}
use Rattle.vc_value.specs.declared.value.Value.TheVariants.{Text, Num}
use Rattle.vc_plan.specs.declared.atoms.Atom.{Atom}
use Rattle.vc_plan.specs.declared.atoms.Atom.TheVariants.{Here, Out, Is}
use Rattle.vc_plan.specs.declared.atoms.Mark.{Mark}
use Rattle.vc_plan.specs.declared.atoms.Mark.TheVariants.{Held, Outside}
use Rattle.vc_plan.specs.declared.conditions.Piece.{Piece}
use Rattle.vc_plan.specs.declared.conditions.Piece.TheVariants.{OneText, Stretch}
use Rattle.vc_plan.specs.declared.conditions.Relation.{Relation}
use Rattle.vc_plan.specs.declared.plans.Plan.{Plan}
use Rattle.vc_plan.specs.declared.rules.Binding.{Binding}
use Rattle.vc_plan.specs.declared.rules.Kind.{Kind}
use Rattle.vc_plan.specs.declared.rules.Kind.TheVariants.{Among, Compare, Equate, ByTable, Never, Last, Line}
use Rattle.vc_plan.specs.declared.rules.Restriction.{Restriction}
use Rattle.vc_plan.specs.declared.rules.Rule.{Rule}
use Rattle.vc_plan.specs.Answers.{nothing, clash_if, beside, gathered, fresh, value_atoms, value_of_piece, only_value}
use Rattle.vc_plan.specs.Answers.{last_atoms, is_nothing}
use Rattle.vc_plan.specs.Clear.{is_named}
use Rattle.vc_plan.specs.Domains.{count_of, decimals_of, grains_of, is_grain_with, is_restrictable, numbers_below}
use Rattle.vc_plan.specs.Gives.{Giver, by_rule, by_user, by_entry, acts, entry_says, giver_says, gives, kind_gives}
use Rattle.vc_plan.specs.Gives.{mark_says, not_out, rule_says, value_says}
use Rattle.vc_plan.specs.Kleene.{is_false}
use Rattle.vc_plan.specs.Pieces.{is_outside, lies_in, lies_in_some, one_value, turned}
use Rattle.vc_plan.specs.Readings.{net_reading}
use Rattle.vc_plan.specs.Restrictions.{allows, assigned, confined, decimals_in_side, differ, equal_to, failing}
use Rattle.vc_plan.specs.Restrictions.{is_inferred, left_with, lone, lone_inferred, of_remaining, related}
use Rattle.vc_plan.specs.Restrictions.{rounded_value}
use Rattle.vc_plan.specs.RuleRanges.{kind_there, rule_there}
use Rattle.vc_plan.specs.Seen.{Seen, is_here, is_parent_here, same_atom, says, seen_of}
use Rattle.vc_plan.specs.Sources.{Entry, Sources, entry_of, user_of}
use Rattle.vc_plan.specs.TableRows.{agreed, columns_of, first_cell, for_variable, has_cell, has_grain, is_possible_in}
use Rattle.vc_plan.specs.TableRows.{missing_grains, narrowed, rows_for, rows_of, value_if}
use Rattle.vc_plan.specs.Truth.{compared, value_at}
use Rattle.vc_plan.proofs.PlanLaws.Atoms.{atom_exact, atom_itself}
use Rattle.vc_plan_reasons.specs.Fitting.{entry_fits, mark_fits, procedure_writes, sources_fit, value_fits}
use Rattle.vc_plan_blame.proofs.BlameLaws.Sources.{entry_fit_at, user_fit_at}

-- a value of a piece that has one alone: it lies in it, and nothing else does
value_in_piece : (x : Value) (piece : Piece) → one_value piece ≡ Some x → lies_in x piece ≡ true
value_in_piece x (OneText t) e = let is : Text t
    ≡ x = cc in subst (λ z. lies_in z (OneText t) ≡ true) is (eq-eqb t t refl)
value_in_piece x (Stretch grain) e = choice (int_eq grain.low.millionths grain.high.millionths) refl e
  where
    held : (low high : ℤ) → low ≡ high → (le_z low low && le_z low high) ≡ true
    held low high q = grind (arith, ints)

    choice : (b : Bool) → int_eq grain.low.millionths grain.high.millionths ≡ b
        → cond b (Some (Num grain.low)) None ≡ Some x
        → lies_in x (Stretch grain) ≡ true
    choice true q k =
        let is : Num grain.low ≡ x = cc in
        let d = Decides-int_eq grain.low.millionths grain.high.millionths in
        subst (λ z. lies_in z (Stretch grain) ≡ true) is (held grain.low.millionths grain.high.millionths (d.0 q))
    choice false q k = absurd (cc)

pub one_in_piece : (x y : Value) (piece : Piece) → lies_in x piece ≡ true → one_value piece ≡ Some y → x ≡ y
one_in_piece (Text t) y (OneText s) h e = let is : Text s ≡ y = cc in ap Text (sym (eqb-true s t h)) ∙ is
one_in_piece (Text t) y (Stretch grain) h e = absurd (cc)
one_in_piece (Num a) y (OneText s) h e = absurd (cc)
one_in_piece (Num a) y (Stretch grain) h e = choice (int_eq grain.low.millionths grain.high.millionths) refl e
  where
    squeezed : (low z high : ℤ) → low ≡ high → le_z low z ≡ true → le_z z high ≡ true → z ≡ low
    squeezed low z high q p r = grind (arith, ints)

    choice : (b : Bool) → int_eq grain.low.millionths grain.high.millionths ≡ b
        → cond b (Some (Num grain.low)) None ≡ Some y
        → Num a ≡ y
    choice true q k =
        let is : Num grain.low ≡ y = cc in
        let d = Decides-int_eq grain.low.millionths grain.high.millionths in
        let p = and_parts (le_z grain.low.millionths a.millionths) (le_z a.millionths grain.high.millionths) h in
        ap (λ z. Num (record { millionths = z }))
        (squeezed grain.low.millionths a.millionths grain.high.millionths (d.0 q) p.0 p.1) ∙ is
    choice false q k = absurd (cc)

-- so the value of a grain lies in some grain
any_get : {X : Type 0} (p : X → Bool) (xs : List X) (i : ℕ) (x : X) → slice_get xs i ≡ Some x → p x ≡ true
    → list_any p xs ≡ true
any_get p [] i x e h = absurd (cc)
any_get p (y ∷ ys) zero x e h = let is : x ≡ y = cc in or_left (p y) (list_any p ys) (ap p (sym is) ∙ h)
any_get p (y ∷ ys) (suc i) x e h = or_right (p y) (list_any p ys) (any_get p ys i x e h)

only_named : (plan : Plan) (v g : ℕ) (x : Value) → only_value plan v g ≡ Some x
    → lies_in_some (grains_of plan v) x ≡ true
only_named plan v g x e = by (slice_get (grains_of plan v) g) refl e
  where
    by : (o : Option Piece) → slice_get (grains_of plan v) g ≡ o → value_of_piece o ≡ Some x
        → lies_in_some (grains_of plan v) x ≡ true
    by None q k = absurd (cc)
    by (Some piece) q k = any_get (lies_in x) (grains_of plan v) g piece q (value_in_piece x piece k)

-- an answer of named atoms
abbrev Names : Plan → Given Atom → Type 0
Names plan x = (a : Atom) → has same_atom (atoms_of x) a ≡ true → is_named plan a ≡ true

n_nothing : (plan : Plan) → Names plan nothing
n_nothing plan a h = absurd (cc)

n_clash : (plan : Plan) → Names plan clash
n_clash plan a h = absurd (cc)

n_if : (plan : Plan) (b : Bool) (x y : Given Atom) → (b ≡ true → Names plan x) → (b ≡ false → Names plan y)
    → Names plan (cond b x y)
n_if plan true x y f g = f refl
n_if plan false x y f g = g refl

n_atoms_if : (plan : Plan) (b : Bool) (xs ys : List Atom) → Names plan (atoms xs) → Names plan (atoms ys)
    → Names plan (atoms (cond b xs ys))
n_atoms_if plan true xs ys f g = f
n_atoms_if plan false xs ys f g = g

n_beside : (plan : Plan) (x y : Given Atom) → Names plan x → Names plan y → Names plan (beside x y)
n_beside plan clash y f g a h = absurd (cc)
n_beside plan (atoms xs) clash f g a h = absurd (cc)
n_beside plan (atoms xs) (atoms ys) f g a h =
    elim (has_either same_atom atom_exact atom_itself xs ys a h) [ inl e ↦ f a e | inr e ↦ g a e ]

n_gathered : (plan : Plan) (f : ℕ → Given Atom) (xs : List ℕ) → ((x : ℕ) → Names plan (f x))
    → Names plan (gathered f xs)
n_gathered plan f [] g = n_nothing plan
n_gathered plan f (x ∷ xs) g = n_beside plan (f x) (gathered f xs) (g x) (n_gathered plan f xs g)

n_one : (plan : Plan) (a : Atom) → is_named plan a ≡ true → Names plan (atoms (a ∷ []))
n_one plan a e b h =
    elim (has_cases same_atom atom_exact atom_itself a [] b h) [
      | inl q ↦ ap (is_named plan) q ∙ e
      | inr q ↦ absurd (cc)
    ]

-- grains of the variable
n_outs : (plan : Plan) (v : ℕ) (gs : List ℕ) → ((g : ℕ) → has nat_eq gs g ≡ true → g < count_of plan v)
    → Names plan (atoms (map (Out v) gs))
n_outs plan v [] f = n_nothing plan
n_outs plan v (g ∷ gs) f =
    λ b h. elim (has_cases same_atom atom_exact atom_itself (Out v g) (map (Out v) gs) b h) [
      | inl q ↦ ap (is_named plan) q
          ∙ lt-ltb g (count_of plan v) (f g (has_first nat_eq number_exact number_itself g gs))
      | inr q ↦ n_outs plan v gs (λ k i. f k (has_more nat_eq number_exact number_itself g gs k i)) b q
    ]

n_filtered : (plan : Plan) (v : ℕ) (p : ℕ → Bool)
    → Names plan (atoms (map (Out v) (filter p (numbers_below (count_of plan v)))))
n_filtered plan v p =
    n_outs plan v (filter p (numbers_below (count_of plan v))) (λ g h.
    let i = (has_filter nat_eq number_exact number_itself p (numbers_below (count_of plan v)) g h).0 in
    let r = (has_range 0 (count_of plan v) g i).1 in omega (arith, r))

n_value : (plan : Plan) (v : ℕ) (o : Option Value)
    → ((x : Value) → o ≡ Some x → lies_in_some (grains_of plan v) x ≡ true)
    → Names plan (atoms (value_atoms v o))
n_value plan v None f = n_nothing plan
n_value plan v (Some x) f = n_one plan (Is v x) (f x refl)

n_last : (plan : Plan) (v : ℕ) (gs : List ℕ) → Names plan (atoms (last_atoms plan v gs))
n_last plan v [] = n_nothing plan
n_last plan v (g ∷ []) = n_value plan v (only_value plan v g) (only_named plan v g)
n_last plan v (g ∷ (h ∷ more)) = n_nothing plan

-- what rules give
n_confined : (plan : Plan) (s : Seen) (v : ℕ) (test : Piece → Bool) → Names plan (confined plan s v test)
n_confined plan s v test =
    n_if plan (is_restrictable plan v) (atoms (map (Out v) (failing plan v test)))
    (of_remaining plan v (left_with plan s v test))
    (λ r. n_filtered plan v (λ g. not (is_grain_with plan v test g)))
    (λ r. n_if plan (is_nothing (left_with plan s v test)) clash (atoms (last_atoms plan v (left_with plan s v test)))
    (λ e. n_clash plan) (λ e. n_last plan v (left_with plan s v test)))

n_among : (plan : Plan) (s : Seen) (rule : Rule) (v : ℕ) (restriction : Restriction)
    → Names plan (kind_gives plan s rule (Among v restriction))
n_among plan s rule v restriction =
    let test = allows plan v restriction in
    n_if plan (is_inferred rule v) (confined plan s v test) (clash_if (is_nothing (left_with plan s v test)) nothing)
    (λ e. n_confined plan s v test)
    (λ e. n_if plan (is_nothing (left_with plan s v test)) clash nothing (λ q. n_clash plan) (λ q. n_nothing plan))

n_related : (plan : Plan) (s : Seen) (r : Relation) (o : Option ℕ) (x : Option Value)
    → Names plan (related plan s r o x)
n_related plan s r None x = n_nothing plan
n_related plan s r (Some v) None = n_nothing plan
n_related plan s r (Some v) (Some a) = n_confined plan s v (λ piece. not (is_outside r a piece))

n_compare : (plan : Plan) (s : Seen) (rule : Rule) (r : Relation) (a b : ℕ)
    → Names plan (kind_gives plan s rule (Compare r a b))
n_compare plan s rule r a b =
    let first = value_at plan (net_reading s) a in
    let second = value_at plan (net_reading s) b in
    let v = lone_inferred plan rule a in
    let w = lone_inferred plan rule b in
    n_if plan (is_false (compared r first second)) clash
    (beside (related plan s r v second) (related plan s (turned r) w first))
    (λ e. n_clash plan)
    (λ e. n_beside plan (related plan s r v second) (related plan s (turned r) w first) (n_related plan s r v second)
    (n_related plan s (turned r) w first))

n_assigned : (plan : Plan) (v : ℕ) (a : Value) → Names plan (assigned plan v a)
n_assigned plan v a =
    n_if plan (lies_in_some (grains_of plan v) a) (atoms (Is v a ∷ [])) clash (λ e. n_one plan (Is v a) e)
    (λ e. n_clash plan)

n_equal : (plan : Plan) (o : Option ℕ) (x : Option Value) → Names plan (equal_to plan o x)
n_equal plan None x = n_nothing plan
n_equal plan (Some v) None = n_nothing plan
n_equal plan (Some v) (Some a) = n_assigned plan v (rounded_value (decimals_of plan v) a)

n_equate : (plan : Plan) (s : Seen) (rule : Rule) (a b : ℕ) → Names plan (kind_gives plan s rule (Equate a b))
n_equate plan s rule a b =
    let first = value_at plan (net_reading s) a in
    let second = value_at plan (net_reading s) b in
    let v = lone_inferred plan rule a in
    let w = lone_inferred plan rule b in
    let decimals = min (decimals_in_side plan (lone plan a)) (decimals_in_side plan (lone plan b)) in
    n_if plan ((is_none v && is_none w) && differ decimals first second) clash
    (beside (equal_to plan v second) (equal_to plan w first))
    (λ e. n_clash plan)
    (λ e. n_beside plan (equal_to plan v second) (equal_to plan w first) (n_equal plan v second) (n_equal plan w first))

n_value_if : (plan : Plan) (test : Value → Bool) (v : ℕ) (o : Option Value)
    → ((x : Value) → test x ≡ true → lies_in_some (grains_of plan v) x ≡ true) → Names plan (atoms (value_if test v o))
n_value_if plan test v None f = n_nothing plan
n_value_if plan test v (Some a) f = choice (test a) refl
  where
    choice : (b : Bool) → test a ≡ b → Names plan (atoms (cond b (Is v a ∷ []) []))
    choice true e = n_one plan (Is v a) (f a e)
    choice false e = n_nothing plan

n_agreed : (plan : Plan) (v : ℕ) (own : List Binding) (rows : List (List Value))
    → Names plan (atoms (agreed plan v own rows))
n_agreed plan v own [] = n_nothing plan
n_agreed plan v own (row ∷ rows) =
    n_value_if plan (λ a. list_all (has_cell own a) (row ∷ rows) && lies_in_some (grains_of plan v) a) v
    (first_cell own row)
    (λ x e. (and_parts (list_all (has_cell own x) (row ∷ rows)) (lies_in_some (grains_of plan v) x) e).1)

n_variable : (plan : Plan) (s : Seen) (table : ℕ) (columns : List Binding) (v : ℕ)
    → Names plan (for_variable plan s table columns v)
n_variable plan s table columns v =
    let rows = rows_for plan s table columns v in
    let own = columns_of v columns in
    n_atoms_if plan (is_restrictable plan v) (map (Out v) (missing_grains plan v own rows)) (agreed plan v own rows)
    (n_filtered plan v (λ g. not (list_any (has_grain plan v own g) rows))) (n_agreed plan v own rows)

n_table : (plan : Plan) (s : Seen) (rule : Rule) (table : ℕ) (columns : List Binding)
    → Names plan (kind_gives plan s rule (ByTable table columns))
n_table plan s rule table columns =
    n_if plan (not (list_any (is_possible_in plan s columns) (rows_of plan table))) clash
    (gathered (for_variable plan s table columns) (narrowed rule columns)) (λ e. n_clash plan)
    (λ e. n_gathered plan (for_variable plan s table columns) (narrowed rule columns) (n_variable plan s table columns))

n_kind : (plan : Plan) (s : Seen) (rule : Rule) (kind : Kind) → kind_there plan kind ≡ true
    → Names plan (kind_gives plan s rule kind)
n_kind plan s rule (Among v restriction) there = n_among plan s rule v restriction
n_kind plan s rule (Compare r a b) there = n_compare plan s rule r a b
n_kind plan s rule (Equate a b) there = n_equate plan s rule a b
n_kind plan s rule (ByTable table columns) there = n_table plan s rule table columns
n_kind plan s rule Never there = n_clash plan
n_kind plan s rule (Last v) there =
    n_atoms_if plan (is_here plan s v) (last_atoms plan v (not_out plan s v)) [] (n_last plan v (not_out plan s v))
    (n_nothing plan)
n_kind plan s rule (Line i) there =
    n_atoms_if plan (is_parent_here plan s i) (Here i ∷ []) [] (n_one plan (Here i) there) (n_nothing plan)

-- a rule of the list is there
all_get : {X : Type 0} (p : X → Bool) (xs : List X) (i : ℕ) (x : X) → list_all p xs ≡ true → slice_get xs i ≡ Some x
    → p x ≡ true
all_get p [] i x all e = absurd (cc)
all_get p (y ∷ ys) zero x all e = let is : y ≡ x = cc in ap p (sym is) ∙ (and_parts (p y) (list_all p ys) all).0
all_get p (y ∷ ys) (suc i) x all e = all_get p ys i x (and_parts (p y) (list_all p ys) all).1 e

n_rule : (plan : Plan) (s : Seen) (r : ℕ) (o : Option Rule) → slice_get plan.rules r ≡ o
    → list_all (rule_there plan) plan.rules ≡ true
    → Names plan (rule_says plan s o)
n_rule plan s r None e there = n_nothing plan
n_rule plan s r (Some rule) e there =
    let whole : rule_there plan rule ≡ true = all_get (rule_there plan) plan.rules r rule there e in
    n_if plan (acts plan s rule) (kind_gives plan s rule rule.kind) nothing
    (λ q. n_kind plan s rule rule.kind (and_parts _ (kind_there plan rule.kind) whole).1) (λ q. n_nothing plan)

-- what sources give
n_user : (plan : Plan) (v : ℕ) (o : Option Value) → value_fits plan v o ≡ true → Names plan (value_says v o)
n_user plan v None fit = n_nothing plan
n_user plan v (Some a) fit = n_one plan (Is v a) fit

n_mark : (plan : Plan) (v : ℕ) (m : Mark) → mark_fits plan v m ≡ true → Names plan (mark_says v m)
n_mark plan v (Held a) fit = n_one plan (Is v a) fit
n_mark plan v Outside fit = n_clash plan

n_entry : (plan : Plan) (v : ℕ) (o : Option Entry) → entry_fits plan v o ≡ true → Names plan (entry_says v o)
n_entry plan v None fit = n_nothing plan
n_entry plan v (Some entry) fit =
    n_mark plan v entry.mark
    (and_parts (mark_fits plan v entry.mark)
    (procedure_writes plan v entry.statement (slice_get plan.procedures entry.procedure)) fit).0

n_says : (plan : Plan) (sources : Sources) (giver : Giver) (s : Seen) → list_all (rule_there plan) plan.rules ≡ true
    → sources_fit plan sources ≡ true → Names plan (giver_says plan sources giver s)
n_says plan sources (by_rule r) s there fit = n_rule plan s r (slice_get plan.rules r) refl there
n_says plan sources (by_user v) s there fit =
    n_if plan (is_here plan s v) (value_says v (user_of sources v)) nothing
    (λ e. n_user plan v (user_of sources v) (user_fit_at plan sources v fit)) (λ e. n_nothing plan)
n_says plan sources (by_entry v) s there fit =
    n_if plan (is_here plan s v) (entry_says v (entry_of sources v)) nothing
    (λ e. n_entry plan v (entry_of sources v) (entry_fit_at plan sources v fit)) (λ e. n_nothing plan)

n_fresh : (plan : Plan) (s : Seen) (x : Given Atom) → Names plan x → Names plan (fresh s x)
n_fresh plan s clash f = f
n_fresh plan s (atoms xs) f = λ a h. f a (has_filter same_atom atom_exact atom_itself (λ b. not (says s b)) xs a h).0

-- whatever is given
pub given_named : (plan : Plan) (sources : Sources) (giver : Giver) (set : List Atom) (a : Atom)
    → list_all (rule_there plan) plan.rules ≡ true → sources_fit plan sources ≡ true
    → has same_atom (atoms_of (gives plan sources giver (seen_of set))) a ≡ true → is_named plan a ≡ true
given_named plan sources giver set a there fit =
    n_fresh plan (seen_of set) (giver_says plan sources giver (seen_of set))
    (n_says plan sources giver (seen_of set) there fit) a
