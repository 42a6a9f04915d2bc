-- Rules and sources give atoms of the things that they write alone.
use Rattle.std.proofs.Common.{◌≡◌, ℕ, min, Bool, true, false, cond, not, ◌&&◌, List, [], ◌∷◌, map, refl, sym, ◌∙◌, ap}
use Rattle.std.proofs.Common.{subst, inl, inr}
use Rattle.std.specs.Prelude.{Option, None, Some, is_none, nat_eq, slice_get, ◌==◌}
use Rattle.std.specs.List.{filter, flat_map, list_all, list_any}
use Rattle.std.proofs.lemmas.Bool.{eqb-true, eq-eqb, or_cases, or_left, or_right}
use Rattle.vc_base.specs.Rounds.{Given, clash, atoms, atoms_of}
use Rattle.vc_base.specs.Sets.{has}
use Rattle.vc_base.proofs.SetLaws.{has_back, has_cases, has_either, has_filter, has_front, has_first, has_more}
use Rattle.vc_base.proofs.SetLaws.{filter_has}
use Rattle.vc_value.specs.declared.value.Value.{Value}
use Rattle.vc_plan.specs.declared.atoms.Atom.{Atom}
use Rattle.vc_plan.specs.declared.atoms.Atom.TheVariants.{Here, Out, Is}
use Rattle.vc_plan.specs.declared.atoms.Mark.{Mark}
use Rattle.vc_plan.specs.declared.atoms.Mark.TheVariants.{Held, Outside}
use Rattle.vc_plan.specs.declared.conditions.Piece.{Piece}
use Rattle.vc_plan.specs.declared.conditions.Relation.{Relation}
use Rattle.vc_plan.specs.declared.plans.Plan.{Plan}
use Rattle.vc_plan.specs.declared.rules.Binding.{Binding}
use Rattle.vc_plan.specs.declared.rules.Kind.{Kind}
use Rattle.vc_plan.specs.declared.rules.Kind.TheVariants.{Among, Compare, Equate, ByTable, Never, Last, Line}
use Rattle.vc_plan.specs.declared.rules.Operand.{Operand}
use Rattle.vc_plan.specs.declared.rules.Operand.TheVariants.{Constant, Variable}
use Rattle.vc_plan.specs.declared.rules.Restriction.{Restriction}
use Rattle.vc_plan.specs.declared.rules.Rule.{Rule}
use Rattle.vc_plan.specs.declared.terms.Term.{Term}
use Rattle.vc_plan.specs.declared.terms.Term.TheVariants.{Literal, Read, PartSum, PartCount, Applied', Joined'}
use Rattle.vc_plan.specs.Answers.{nothing, clash_if, beside, gathered, fresh, value_atoms, only_value, last_atoms}
use Rattle.vc_plan.specs.Answers.{is_nothing}
use Rattle.vc_plan.specs.Domains.{decimals_of, grains_of, is_restrictable}
use Rattle.vc_plan.specs.Kleene.{is_false}
use Rattle.vc_plan.specs.Gives.{Giver, by_rule, by_user, by_entry, acts, not_out, kind_gives, rule_says, value_says}
use Rattle.vc_plan.specs.Gives.{mark_says, entry_says, if_here, giver_says}
use Rattle.vc_plan.specs.Pieces.{is_outside, turned, lies_in_some}
use Rattle.vc_plan.specs.Readings.{net_reading}
use Rattle.vc_plan.specs.Reads.{vars_of_term}
use Rattle.vc_plan.specs.Restrictions.{is_inferred, failing, left_with, of_remaining, confined, allows, among, lone_in}
use Rattle.vc_plan.specs.Restrictions.{if_inferred, related, assigned, equal_to, rounded_value, lone, lone_inferred}
use Rattle.vc_plan.specs.Restrictions.{decimals_in_side, differ}
use Rattle.vc_plan.specs.Seen.{Seen, same_atom, seen_of, says, is_here, is_parent_here}
use Rattle.vc_plan.specs.Sources.{Sources, Entry, user_of, entry_of}
use Rattle.vc_plan.specs.TableRows.{has_cell, is_column_of, is_possible_in, is_variable, rows_of, columns_of, rows_for}
use Rattle.vc_plan.specs.TableRows.{missing_grains, first_cell, value_if, agreed, for_variable, narrowed}
use Rattle.vc_plan.specs.Truth.{compared, value_at}
use Rattle.vc_base.proofs.ListLaws.{number_exact, number_itself}
use Rattle.vc_plan.proofs.PlanLaws.Atoms.{atom_exact, atom_itself}
use Rattle.vc_plan_reasons.specs.Laws.{GivesWhatItWrites}
use Rattle.vc_plan_reasons.specs.Things.{Thing, slot_at, var_at, same_thing, has_thing, thing_of, vars_of_sides}
use Rattle.vc_plan_reasons.specs.Things.{vars_of_operand, vars_of_column, vars_of_kind, inferred_of, kind_writes}
use Rattle.vc_plan_reasons.specs.Things.{rule_writes, writes_in, giver_writes}
use Rattle.vc_plan_reasons.proofs.ReasonLaws.Reaching.{thing_exact, thing_itself}

-- an answer that is of some things alone
abbrev pub Writes : List Thing → Given Atom → Type 0
Writes things x = (a : Atom) → has same_atom (atoms_of x) a ≡ true → has_thing things (thing_of a) ≡ true

w_nothing : (things : List Thing) → Writes things nothing
w_nothing things a h = absurd (cc)

w_clash : (things : List Thing) → Writes things clash
w_clash things a h = absurd (cc)

w_if : (things : List Thing) (b : Bool) (x y : Given Atom) → (b ≡ true → Writes things x)
    → (b ≡ false → Writes things y)
    → Writes things (cond b x y)
w_if things true x y f g = f refl
w_if things false x y f g = g refl

w_atoms_if : (things : List Thing) (b : Bool) (xs ys : List Atom) → Writes things (atoms xs) → Writes things (atoms ys)
    → Writes things (atoms (cond b xs ys))
w_atoms_if things true xs ys f g = f
w_atoms_if things false xs ys f g = g

w_beside : (things : List Thing) (x y : Given Atom) → Writes things x → Writes things y → Writes things (beside x y)
w_beside things clash y f g a h = absurd (cc)
w_beside things (atoms xs) clash f g a h = absurd (cc)
w_beside things (atoms xs) (atoms ys) f g a h =
    elim (has_either same_atom atom_exact atom_itself xs ys a h) [ inl e ↦ f a e | inr e ↦ g a e ]

w_gathered : (things : List Thing) (f : ℕ → Given Atom) (xs : List ℕ)
    → ((x : ℕ) → has nat_eq xs x ≡ true → Writes things (f x))
    → Writes things (gathered f xs)
w_gathered things f [] g = w_nothing things
w_gathered things f (x ∷ xs) g =
    w_beside things (f x) (gathered f xs) (g x (has_first nat_eq number_exact number_itself x xs))
    (w_gathered things f xs (λ y h. g y (has_more nat_eq number_exact number_itself x xs y h)))

w_one : (things : List Thing) (a : Atom) → has_thing things (thing_of a) ≡ true → Writes things (atoms (a ∷ []))
w_one things a e b h =
    elim (has_cases same_atom atom_exact atom_itself a [] b h) [
      | inl q ↦ ap (λ z. has_thing things (thing_of z)) q
          ∙ e
      | inr q ↦ absurd (cc)
    ]

w_out : (things : List Thing) (v : ℕ) (gs : List ℕ) → has_thing things (var_at v) ≡ true
    → Writes things (atoms (map (Out v) gs))
w_out things v [] e = w_nothing things
w_out things v (g ∷ gs) e =
    λ b h. elim (has_cases same_atom atom_exact atom_itself (Out v g) (map (Out v) gs) b h) [
      | inl q ↦ ap (λ z. has_thing things (thing_of z)) q ∙ e
      | inr q ↦ w_out things v gs e b q
    ]

w_value : (things : List Thing) (v : ℕ) (o : Option Value) → has_thing things (var_at v) ≡ true
    → Writes things (atoms (value_atoms v o))
w_value things v None e = w_nothing things
w_value things v (Some a) e = w_one things (Is v a) e

w_last : (things : List Thing) (plan : Plan) (v : ℕ) (gs : List ℕ) → has_thing things (var_at v) ≡ true
    → Writes things (atoms (last_atoms plan v gs))
w_last things plan v [] e = w_nothing things
w_last things plan v (g ∷ []) e = w_value things v (only_value plan v g) e
w_last things plan v (g ∷ (h ∷ more)) e = w_nothing things

w_confined : (things : List Thing) (plan : Plan) (s : Seen) (v : ℕ) (test : Piece → Bool)
    → has_thing things (var_at v) ≡ true
    → Writes things (confined plan s v test)
w_confined things plan s v test e =
    w_if things (is_restrictable plan v) (atoms (map (Out v) (failing plan v test)))
    (of_remaining plan v (left_with plan s v test))
    (λ r. w_out things v (failing plan v test) e)
    (λ r. w_if things (is_nothing (left_with plan s v test)) clash (atoms (last_atoms plan v (left_with plan s v test)))
    (λ n. w_clash things)
    (λ n. w_last things plan v (left_with plan s v test) e))

-- a variable that the rule infers, among those of its restriction, is written
pub has_var : (vs : List ℕ) (v : ℕ) → has nat_eq vs v ≡ true → has_thing (map var_at vs) (var_at v) ≡ true
has_var [] v h = h
has_var (w ∷ vs) v h =
    elim (has_cases nat_eq number_exact number_itself w vs v h) [
      | inl q ↦ subst (λ z. has_thing (var_at w ∷ map var_at vs) (var_at z) ≡ true) (sym q)
          (has_first same_thing thing_exact thing_itself (var_at w) (map var_at vs))
      | inr q ↦ has_more same_thing thing_exact thing_itself (var_at w) (map var_at vs) (var_at v) (has_var vs v q)
    ]

inferred_has : (plan : Plan) (rule : Rule) (kind : Kind) (v : ℕ) → has nat_eq (vars_of_kind plan kind) v ≡ true
    → is_inferred rule v ≡ true
    → has_thing (inferred_of plan rule kind) (var_at v) ≡ true
inferred_has plan rule kind v h e =
    has_var (filter (is_inferred rule) (vars_of_kind plan kind)) v
    (filter_has nat_eq number_exact number_itself (is_inferred rule) (vars_of_kind plan kind) v h e)

-- a lone inferred side is one of the variables of its term
lone_has : (o : Option Term) (v : ℕ) → lone_in o ≡ Some v → has nat_eq (vars_of_term o) v ≡ true
lone_has None v e = absurd (cc)
lone_has (Some (Literal a)) v e = absurd (cc)
lone_has (Some (Read w)) v e =
    let is : w ≡ v
    = cc in subst (λ z. has nat_eq (w ∷ []) z ≡ true) is (has_first nat_eq number_exact number_itself w [])
lone_has (Some (PartSum slot characteristic)) v e = absurd (cc)
lone_has (Some (PartCount slot)) v e = absurd (cc)
lone_has (Some (Applied' function p a)) v e = absurd (cc)
lone_has (Some (Joined' operator p a q b)) v e = absurd (cc)

pub inferred_parts : (rule : Rule) (o : Option ℕ) (v : ℕ) → if_inferred rule o ≡ Some v
    → (o ≡ Some v) × (is_inferred rule v ≡ true)
inferred_parts rule None v e = absurd (cc)
inferred_parts rule (Some w) v e = choice (is_inferred rule w) refl e
  where
    choice : (b : Bool) → is_inferred rule w ≡ b → cond b (Some w) None ≡ Some v
        → (Some w ≡ Some v) × (is_inferred rule v ≡ true)
    choice true q k = let is : w ≡ v = cc in (k, subst (λ z. is_inferred rule z ≡ true) is q)
    choice false q k = absurd (cc)

left_side : (plan : Plan) (rule : Rule) (kind : Kind) (a b : ℕ) → vars_of_kind plan kind ≡ vars_of_sides plan a b
    → (v : ℕ)
    → lone_inferred plan rule a ≡ Some v → has_thing (inferred_of plan rule kind) (var_at v) ≡ true
left_side plan rule kind a b k v e =
    let p = inferred_parts rule (lone plan a) v e in
    let here = lone_has (slice_get plan.terms a) v p.0 in
    inferred_has plan rule kind v (ap (λ vs. has nat_eq vs v) k
    ∙ has_front nat_eq number_exact number_itself (vars_of_term (slice_get plan.terms a))
    (vars_of_term (slice_get plan.terms b)) v here) p.1

right_side : (plan : Plan) (rule : Rule) (kind : Kind) (a b : ℕ) → vars_of_kind plan kind ≡ vars_of_sides plan a b
    → (v : ℕ)
    → lone_inferred plan rule b ≡ Some v → has_thing (inferred_of plan rule kind) (var_at v) ≡ true
right_side plan rule kind a b k v e =
    let p = inferred_parts rule (lone plan b) v e in
    let here = lone_has (slice_get plan.terms b) v p.0 in
    inferred_has plan rule kind v (ap (λ vs. has nat_eq vs v) k
    ∙ has_back nat_eq number_exact number_itself (vars_of_term (slice_get plan.terms a))
    (vars_of_term (slice_get plan.terms b)) v here) p.1

w_related : (things : List Thing) (plan : Plan) (s : Seen) (r : Relation) (o : Option ℕ) (x : Option Value)
    → ((v : ℕ) → o ≡ Some v → has_thing things (var_at v) ≡ true) → Writes things (related plan s r o x)
w_related things plan s r None x f = w_nothing things
w_related things plan s r (Some v) None f = w_nothing things
w_related things plan s r (Some v) (Some a) f =
    w_confined things plan s v (λ piece. not (is_outside r a piece)) (f v refl)

w_equal : (things : List Thing) (plan : Plan) (o : Option ℕ) (x : Option Value)
    → ((v : ℕ) → o ≡ Some v → has_thing things (var_at v) ≡ true)
    → Writes things (equal_to plan o x)
w_equal things plan None x f = w_nothing things
w_equal things plan (Some v) None f = w_nothing things
w_equal things plan (Some v) (Some a) f = w_assigned (decimals_of plan v) (f v refl)
  where
    w_assigned : (d : ℕ) → has_thing things (var_at v) ≡ true → Writes things (assigned plan v (rounded_value d a))
    w_assigned d e =
        w_if things (lies_in_some (grains_of plan v) (rounded_value d a)) (atoms (Is v (rounded_value d a) ∷ [])) clash
        (λ k. w_one things (Is v (rounded_value d a)) e) (λ k. w_clash things)

-- a variable that a table call narrows is one of its columns'
column_has : (v : ℕ) (o : Operand) → is_variable v o ≡ true → has nat_eq (vars_of_operand o) v ≡ true
column_has v (Constant a) e = absurd (cc)
column_has v (Variable w) e = or_left (v == w) false e

columns_have : (v : ℕ) (columns : List Binding) → list_any (is_column_of v) columns ≡ true
    → has nat_eq (flat_map vars_of_column columns) v ≡ true
columns_have v [] e = e
columns_have v (column ∷ columns) e =
    elim (or_cases (is_column_of v column) (list_any (is_column_of v) columns) e) [
      | inl h ↦ has_front nat_eq number_exact number_itself (vars_of_column column) (flat_map vars_of_column columns) v
          (column_has v column.operand h)
      | inr h ↦ has_back nat_eq number_exact number_itself (vars_of_column column) (flat_map vars_of_column columns) v
          (columns_have v columns h)
    ]

is_inferred_from : (v : ℕ) (vs : List ℕ) → has nat_eq vs v ≡ true → list_any (λ w. w == v) vs ≡ true
is_inferred_from v [] h = h
is_inferred_from v (w ∷ vs) h =
    elim (or_cases (v == w) (has nat_eq vs v) h) [
      | inl e ↦ or_left (w == v) (list_any (λ x. x == v) vs) (eq-eqb w v (sym (eqb-true v w e)))
      | inr e ↦ or_right (w == v) (list_any (λ x. x == v) vs) (is_inferred_from v vs e)
    ]

w_value_if : (things : List Thing) (test : Value → Bool) (v : ℕ) (o : Option Value) → has_thing things (var_at v) ≡ true
    → Writes things (atoms (value_if test v o))
w_value_if things test v None e = w_nothing things
w_value_if things test v (Some a) e =
    w_atoms_if things (test a) (Is v a ∷ []) [] (w_one things (Is v a) e) (w_nothing things)

w_agreed : (things : List Thing) (plan : Plan) (v : ℕ) (own : List Binding) (rows : List (List Value))
    → has_thing things (var_at v) ≡ true
    → Writes things (atoms (agreed plan v own rows))
w_agreed things plan v own [] e = w_nothing things
w_agreed things plan v own (row ∷ rows) e =
    w_value_if things (λ a. list_all (has_cell own a) (row ∷ rows) && lies_in_some (grains_of plan v) a) v
    (first_cell own row) e

w_variable : (things : List Thing) (plan : Plan) (s : Seen) (table : ℕ) (columns : List Binding) (v : ℕ)
    → has_thing things (var_at v) ≡ true
    → Writes things (for_variable plan s table columns v)
w_variable things plan s table columns v e =
    let rows = rows_for plan s table columns v in
    let own = columns_of v columns in
    w_atoms_if things (is_restrictable plan v) (map (Out v) (missing_grains plan v own rows)) (agreed plan v own rows)
    (w_out things v (missing_grains plan v own rows) e) (w_agreed things plan v own rows e)

narrowed_has : (plan : Plan) (rule : Rule) (table : ℕ) (columns : List Binding) (v : ℕ)
    → has nat_eq (narrowed rule columns) v ≡ true
    → has_thing (inferred_of plan rule (ByTable table columns)) (var_at v) ≡ true
narrowed_has plan rule table columns v h =
    let p = has_filter nat_eq number_exact number_itself (λ w. list_any (is_column_of w) columns) rule.inferred v h in
    inferred_has plan rule (ByTable table columns) v (columns_have v columns p.1) (is_inferred_from v rule.inferred p.0)

w_among : (plan : Plan) (s : Seen) (rule : Rule) (v : ℕ) (restriction : Restriction)
    → Writes (kind_writes plan rule (Among v restriction)) (among plan s rule v restriction)
w_among plan s rule v restriction =
    let things = inferred_of plan rule (Among v restriction) in
    let test = allows plan v restriction in
    w_if things (is_inferred rule v) (confined plan s v test) (clash_if (is_nothing (left_with plan s v test)) nothing)
    (λ e. w_confined things plan s v test
    (inferred_has plan rule (Among v restriction) v (has_first nat_eq number_exact number_itself v []) e))
    (λ e. w_if things (is_nothing (left_with plan s v test)) clash nothing (λ k. w_clash things)
    (λ k. w_nothing things))

w_kind : (plan : Plan) (s : Seen) (rule : Rule) (kind : Kind)
    → Writes (kind_writes plan rule kind) (kind_gives plan s rule kind)
w_kind plan s rule (Among v restriction) = w_among plan s rule v restriction
w_kind plan s rule (Compare r a b) =
    let things = inferred_of plan rule (Compare r a b) in
    let first = value_at plan (net_reading s) a in
    let second = value_at plan (net_reading s) b in
    let x = related plan s r (lone_inferred plan rule a) second in
    let y = related plan s (turned r) (lone_inferred plan rule b) first in
    w_if things (is_false (compared r first second)) clash (beside x y) (λ e. w_clash things) (λ e. w_beside things x y
    (w_related things plan s r (lone_inferred plan rule a) second (left_side plan rule (Compare r a b) a b refl))
    (w_related things plan s (turned r) (lone_inferred plan rule b) first
    (right_side plan rule (Compare r a b) a b refl)))
w_kind plan s rule (Equate a b) =
    let things = inferred_of plan rule (Equate a b) in
    let first = value_at plan (net_reading s) a in
    let second = value_at plan (net_reading s) b in
    let v = lone_inferred plan rule a in
    let w = lone_inferred plan rule b in
    let decimals = min (decimals_in_side plan (lone plan a)) (decimals_in_side plan (lone plan b)) in
    w_if things ((is_none v && is_none w) && differ decimals first second) clash
    (beside (equal_to plan v second) (equal_to plan w first))
    (λ e. w_clash things) (λ e. w_beside things (equal_to plan v second) (equal_to plan w first)
    (w_equal things plan v second (left_side plan rule (Equate a b) a b refl))
    (w_equal things plan w first (right_side plan rule (Equate a b) a b refl)))
w_kind plan s rule (ByTable table columns) =
    let things = inferred_of plan rule (ByTable table columns) in
    w_if things (not (list_any (is_possible_in plan s columns) (rows_of plan table))) clash
    (gathered (for_variable plan s table columns) (narrowed rule columns)) (λ e. w_clash things)
    (λ e. w_gathered things (for_variable plan s table columns) (narrowed rule columns)
    (λ v h. w_variable things plan s table columns v (narrowed_has plan rule table columns v h)))
w_kind plan s rule Never = w_clash []
w_kind plan s rule (Last v) =
    let own : has_thing (var_at v ∷ []) (var_at v) ≡ true
    = has_first same_thing thing_exact thing_itself (var_at v) [] in
    w_atoms_if (var_at v ∷ []) (is_here plan s v) (last_atoms plan v (not_out plan s v)) []
    (w_last (var_at v ∷ []) plan v (not_out plan s v) own)
    (w_nothing (var_at v ∷ []))
w_kind plan s rule (Line i) =
    let own : has_thing (slot_at i ∷ []) (slot_at i) ≡ true
    = has_first same_thing thing_exact thing_itself (slot_at i) [] in
    w_atoms_if (slot_at i ∷ []) (is_parent_here plan s i) (Here i ∷ []) [] (w_one (slot_at i ∷ []) (Here i) own)
    (w_nothing (slot_at i ∷ []))

w_rule : (plan : Plan) (s : Seen) (o : Option Rule) → Writes (writes_in plan o) (rule_says plan s o)
w_rule plan s None = w_nothing []
w_rule plan s (Some rule) =
    w_if (rule_writes plan rule) (acts plan s rule) (kind_gives plan s rule rule.kind) nothing
    (λ e. w_kind plan s rule rule.kind)
    (λ e. w_nothing (rule_writes plan rule))

w_value_says : (v : ℕ) (o : Option Value) → Writes (var_at v ∷ []) (value_says v o)
w_value_says v None = w_nothing (var_at v ∷ [])
w_value_says v (Some a) = w_one (var_at v ∷ []) (Is v a) (has_first same_thing thing_exact thing_itself (var_at v) [])

w_mark : (v : ℕ) (m : Mark) → Writes (var_at v ∷ []) (mark_says v m)
w_mark v (Held a) = w_one (var_at v ∷ []) (Is v a) (has_first same_thing thing_exact thing_itself (var_at v) [])
w_mark v Outside = w_clash (var_at v ∷ [])

w_entry : (v : ℕ) (o : Option Entry) → Writes (var_at v ∷ []) (entry_says v o)
w_entry v None = w_nothing (var_at v ∷ [])
w_entry v (Some entry) = w_mark v entry.mark

w_source : (plan : Plan) (s : Seen) (v : ℕ) (said : Given Atom) → Writes (var_at v ∷ []) said
    → Writes (var_at v ∷ []) (if_here plan s v said)
w_source plan s v said f =
    w_if (var_at v ∷ []) (is_here plan s v) said nothing (λ e. f) (λ e. w_nothing (var_at v ∷ []))

pub says_written : (plan : Plan) (sources : Sources) (giver : Giver) (s : Seen)
    → Writes (giver_writes plan giver) (giver_says plan sources giver s)
says_written plan sources (by_rule r) s = w_rule plan s (slice_get plan.rules r)
says_written plan sources (by_user v) s =
    w_source plan s v (value_says v (user_of sources v)) (w_value_says v (user_of sources v))
says_written plan sources (by_entry v) s =
    w_source plan s v (entry_says v (entry_of sources v)) (w_entry v (entry_of sources v))

w_fresh : (things : List Thing) (s : Seen) (x : Given Atom) → Writes things x → Writes things (fresh s x)
w_fresh things s clash f = f
w_fresh things s (atoms xs) f = λ a h. f a (has_filter same_atom atom_exact atom_itself (λ b. not (says s b)) xs a h).0

pub gives_what_it_writes : GivesWhatItWrites
gives_what_it_writes plan sources giver set =
    w_fresh (giver_writes plan giver) (seen_of set) (giver_says plan sources giver (seen_of set))
    (says_written plan sources giver (seen_of set))
