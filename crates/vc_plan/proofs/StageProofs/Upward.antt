-- A slot comes to be here by a Line alone, and so where its parent is here.
use Rattle.std.proofs.Common.{◌≡◌, inl, inr, ℕ, zero, suc, Bool, true, false, not, cond, ◌&&◌, List, [], ◌∷◌, map, refl}
use Rattle.std.proofs.Common.{sym, ap, subst, ◌∙◌, arith}
use Rattle.std.proofs.lemmas.Bool.{eqb-true, or_cases, or_left, or_right}
use Rattle.std.specs.Prelude.{Option, None, Some, is_none, min, slice_get, ◌==◌}
use Rattle.std.specs.List.{filter, list_all, list_any}
use Rattle.vc_base.specs.Rounds.{Given, clash, atoms, atoms_of, broken, settled, all_given, next_round, settle}
use Rattle.vc_base.specs.Rounds.{some_clash}
use Rattle.vc_base.specs.Sets.{has}
use Rattle.vc_base.proofs.SetLaws.{with_all_cases, with_all_left}
use Rattle.vc_base.proofs.Settling as settling
use Rattle.vc_value.specs.declared.value.Value.{Value}
use Rattle.vc_value.proofs.CutLemmas.{all_append}
use Rattle.vc_plan.specs.declared.atoms.Atom.{Atom}
use Rattle.vc_plan.specs.declared.atoms.Atom.TheVariants.{Here, Out, Is}
use Rattle.vc_plan.specs.declared.atoms.Mark.{Mark}
use Rattle.vc_plan.specs.declared.atoms.Mark.TheVariants.{Held, Outside}
use Rattle.vc_plan.specs.declared.conditions.Piece.{Piece}
use Rattle.vc_plan.specs.declared.conditions.Relation.{Relation}
use Rattle.vc_plan.specs.declared.plans.Plan.{Plan}
use Rattle.vc_plan.specs.declared.plans.Slot.{Slot}
use Rattle.vc_plan.specs.declared.rules.Binding.{Binding}
use Rattle.vc_plan.specs.declared.rules.Kind.{Kind}
use Rattle.vc_plan.specs.declared.rules.Kind.TheVariants.{Among, Compare, Equate, ByTable, Never, Last, Line}
use Rattle.vc_plan.specs.declared.rules.Rule.{Rule}
use Rattle.vc_plan.specs.Answers.{nothing, clash_if, beside, gathered, fresh, is_nothing, value_atoms, only_value}
use Rattle.vc_plan.specs.Answers.{last_atoms}
use Rattle.vc_plan.specs.Domains.{is_restrictable, atom_count, decimals_of, grains_of}
use Rattle.vc_plan.specs.Gives.{Giver, by_rule, by_user, by_entry, acts, entry_says, if_here, gives, giver_says}
use Rattle.vc_plan.specs.Gives.{kind_gives, mark_says, not_out, rule_says, value_says}
use Rattle.vc_plan.specs.Kleene.{is_false}
use Rattle.vc_plan.specs.Clear.{is_clear}
use Rattle.vc_plan.specs.Pieces.{lies_in_some, turned}
use Rattle.vc_plan.specs.Readings.{net_reading}
use Rattle.vc_plan.specs.Truth.{compared, value_at}
use Rattle.vc_plan.proofs.PlanLaws.Givers.{system_laws}
use Rattle.vc_plan.specs.Restrictions.{allows, among, compare, confined, decimals_in_side, differ, equal_to, equate}
use Rattle.vc_plan.specs.Restrictions.{failing, is_inferred, left_with, lone, lone_inferred, of_remaining, related}
use Rattle.vc_plan.specs.Restrictions.{rounded_value}
use Rattle.vc_plan.specs.Seen.{Seen, is_here, is_parent_here, is_slot_here, parent_in, same_atom, says, seen_of}
use Rattle.vc_plan.specs.Settle.{base, system_of}
use Rattle.vc_plan.specs.Slots.{is_root}
use Rattle.vc_plan.specs.Sources.{Entry, Sources, entry_of, user_of}
use Rattle.vc_plan.specs.StageLaws.{ParentsAreHere}
use Rattle.vc_plan.specs.Valid.{IsValid}
use Rattle.vc_plan.specs.TableRows.{agreed, by_table, columns_of, first_cell, for_variable, is_possible_in}
use Rattle.vc_plan.specs.TableRows.{missing_grains, narrowed, rows_for, rows_of, value_if}
use Rattle.vc_plan.proofs.PlanLaws.Atoms.{atom_exact, atom_itself}
use Rattle.vc_plan.proofs.StageProofs.Parents.{no_parent}

-- an answer that says of no slot that it is here
abbrev is_other : Atom → Bool
is_other (Here i) = false
is_other (Out v g) = true
is_other (Is v a) = true

abbrev Others : Given Atom → Type 0
Others given = list_all is_other (atoms_of given) ≡ true

others_if : (b : Bool) (x y : Given Atom) → Others x → Others y → Others (cond b x y)
others_if true x y h k = h
others_if false x y h k = k

others_clash_if : (b : Bool) (x : Given Atom) → Others x → Others (clash_if b x)
others_clash_if true x h = refl
others_clash_if false x h = h

others_beside : (x y : Given Atom) → Others x → Others y → Others (beside x y)
others_beside clash y h k = refl
others_beside (atoms xs) clash h k = refl
others_beside (atoms xs) (atoms ys) h k = all_append is_other xs ys h k

others_gathered : (f : ℕ → Given Atom) → ((v : ℕ) → Others (f v)) → (vs : List ℕ) → Others (gathered f vs)
others_gathered f each [] = refl
others_gathered f each (v ∷ vs) = others_beside (f v) (gathered f vs) (each v) (others_gathered f each vs)

others_out : (v : ℕ) (gs : List ℕ) → Others (atoms (map (Out v) gs))
others_out v [] = refl
others_out v (g ∷ gs) = others_out v gs

others_value : (v : ℕ) (o : Option Value) → Others (atoms (value_atoms v o))
others_value v None = refl
others_value v (Some a) = refl

others_last : (plan : Plan) (v : ℕ) (gs : List ℕ) → Others (atoms (last_atoms plan v gs))
others_last plan v [] = refl
others_last plan v (g ∷ []) = others_value v (only_value plan v g)
others_last plan v (g ∷ (h ∷ more)) = refl

others_confined : (plan : Plan) (seen : Seen) (v : ℕ) (test : Piece → Bool) → Others (confined plan seen v test)
others_confined plan seen v test =
    others_if (is_restrictable plan v) (atoms (map (Out v) (failing plan v test)))
    (of_remaining plan v (left_with plan seen v test))
    (others_out v (failing plan v test))
    (others_clash_if _ (atoms (last_atoms plan v (left_with plan seen v test)))
    (others_last plan v (left_with plan seen v test)))

others_related : (plan : Plan) (seen : Seen) (r : Relation) (o : Option ℕ) (a : Option Value)
    → Others (related plan seen r o a)
others_related plan seen r None a = refl
others_related plan seen r (Some v) None = refl
others_related plan seen r (Some v) (Some a) = others_confined plan seen v _

others_equal : (plan : Plan) (o : Option ℕ) (a : Option Value) → Others (equal_to plan o a)
others_equal plan None a = refl
others_equal plan (Some v) None = refl
others_equal plan (Some v) (Some a) =
    others_if (lies_in_some (grains_of plan v) (rounded_value (decimals_of plan v) a))
    (atoms (Is v (rounded_value (decimals_of plan v) a) ∷ [])) clash refl refl

others_value_if : (test : Value → Bool) (v : ℕ) (o : Option Value) → Others (atoms (value_if test v o))
others_value_if test v None = refl
others_value_if test v (Some a) = step (test a)
  where
    step : (b : Bool) → Others (atoms (cond b (Is v a ∷ []) []))
    step true = refl
    step false = refl

others_agreed : (plan : Plan) (v : ℕ) (own : List Binding) (rows : List (List Value))
    → Others (atoms (agreed plan v own rows))
others_agreed plan v own [] = refl
others_agreed plan v own (row ∷ rows) = others_value_if _ v (first_cell own row)

others_variable : (plan : Plan) (seen : Seen) (table : ℕ) (columns : List Binding) (v : ℕ)
    → Others (for_variable plan seen table columns v)
others_variable plan seen table columns v =
    step (is_restrictable plan v)
    (map (Out v) (missing_grains plan v (columns_of v columns) (rows_for plan seen table columns v)))
    (agreed plan v (columns_of v columns) (rows_for plan seen table columns v))
    (others_out v (missing_grains plan v (columns_of v columns) (rows_for plan seen table columns v)))
    (others_agreed plan v (columns_of v columns) (rows_for plan seen table columns v))
  where
    step : (b : Bool) (xs ys : List Atom) → Others (atoms xs) → Others (atoms ys) → Others (atoms (cond b xs ys))
    step true xs ys h k = h
    step false xs ys h k = k

-- what an answer says of slots, it says of those whose parent is here
abbrev TellsUpward : Plan → Seen → Given Atom → Type 0
TellsUpward plan seen given = (i : ℕ) → has same_atom (atoms_of given) (Here i) ≡ true
    → is_parent_here plan seen i ≡ true

none_here : (xs : List Atom) (i : ℕ) → list_all is_other xs ≡ true → has same_atom xs (Here i) ≡ true → ⊥
none_here [] i h e = never e
  where
    never : false ≡ true → ⊥
    never e = cc
none_here (Here j ∷ xs) i h e = never h
  where
    never : false ≡ true → ⊥
    never e = cc
none_here (Out v g ∷ xs) i h e = none_here xs i h e
none_here (Is v a ∷ xs) i h e = none_here xs i h e

others_tell : (plan : Plan) (seen : Seen) (given : Given Atom) → Others given → TellsUpward plan seen given
others_tell plan seen given h i e = absurd (none_here (atoms_of given) i h e)

line_tells : (plan : Plan) (seen : Seen) (j : ℕ) (b : Bool) → is_parent_here plan seen j ≡ b
    → TellsUpward plan seen (atoms (cond b (Here j ∷ []) []))
line_tells plan seen j true is i e =
    elim (or_cases (i == j) false e) [
      | inl same ↦ ap (is_parent_here plan seen) (eqb-true i j same) ∙ is
      | inr other ↦ absurd (never other)
    ]
  where
    never : false ≡ true → ⊥
    never e = cc
line_tells plan seen j false is i e = absurd (never e)
  where
    never : false ≡ true → ⊥
    never e = cc

kind_tells : (plan : Plan) (seen : Seen) (rule : Rule) (kind : Kind)
    → TellsUpward plan seen (kind_gives plan seen rule kind)
kind_tells plan seen rule (Among v restriction) =
    let test = allows plan v restriction in
    others_tell plan seen (among plan seen rule v restriction)
    (others_if (is_inferred rule v) (confined plan seen v test)
    (clash_if (is_nothing (left_with plan seen v test)) nothing)
    (others_confined plan seen v test) (others_clash_if (is_nothing (left_with plan seen v test)) nothing refl))
kind_tells plan seen rule (Compare r a b) =
    let first = value_at plan (net_reading seen) a in
    let second = value_at plan (net_reading seen) b in
    let x = related plan seen r (lone_inferred plan rule a) second in
    let y = related plan seen (turned r) (lone_inferred plan rule b) first in
    others_tell plan seen (compare plan seen rule r a b)
    (others_clash_if (is_false (compared r first second)) (beside x y)
    (others_beside x y (others_related plan seen r (lone_inferred plan rule a) second)
    (others_related plan seen (turned r) (lone_inferred plan rule b) first)))
kind_tells plan seen rule (Equate a b) =
    let first = value_at plan (net_reading seen) a in
    let second = value_at plan (net_reading seen) b in
    let v = lone_inferred plan rule a in
    let w = lone_inferred plan rule b in
    let decimals = min (decimals_in_side plan (lone plan a)) (decimals_in_side plan (lone plan b)) in
    others_tell plan seen (equate plan seen rule a b)
    (others_clash_if ((is_none v && is_none w) && differ decimals first second)
    (beside (equal_to plan v second) (equal_to plan w first))
    (others_beside (equal_to plan v second) (equal_to plan w first) (others_equal plan v second)
    (others_equal plan w first)))
kind_tells plan seen rule (ByTable table columns) =
    others_tell plan seen (by_table plan seen rule table columns)
    (others_clash_if (not (list_any (is_possible_in plan seen columns) (rows_of plan table)))
    (gathered (for_variable plan seen table columns) (narrowed rule columns))
    (others_gathered (for_variable plan seen table columns) (others_variable plan seen table columns)
    (narrowed rule columns)))
kind_tells plan seen rule Never = others_tell plan seen clash refl
kind_tells plan seen rule (Last v) =
    others_tell plan seen (kind_gives plan seen rule (Last v))
    (step (is_here plan seen v) (last_atoms plan v (not_out plan seen v))
    (others_last plan v (not_out plan seen v)))
  where
    step : (b : Bool) (xs : List Atom) → Others (atoms xs) → Others (atoms (cond b xs []))
    step true xs h = h
    step false xs h = refl
kind_tells plan seen rule (Line j) = line_tells plan seen j (is_parent_here plan seen j) refl

rule_tells : (plan : Plan) (seen : Seen) (o : Option Rule) → TellsUpward plan seen (rule_says plan seen o)
rule_tells plan seen None = others_tell plan seen nothing refl
rule_tells plan seen (Some rule) = step (acts plan seen rule)
  where
    step : (b : Bool) → TellsUpward plan seen (cond b (kind_gives plan seen rule rule.kind) nothing)
    step true = kind_tells plan seen rule rule.kind
    step false = others_tell plan seen nothing refl

value_others : (v : ℕ) (o : Option Value) → Others (value_says v o)
value_others v None = refl
value_others v (Some a) = refl

mark_others : (v : ℕ) (mark : Mark) → Others (mark_says v mark)
mark_others v (Held a) = refl
mark_others v Outside = refl

entry_others : (v : ℕ) (o : Option Entry) → Others (entry_says v o)
entry_others v None = refl
entry_others v (Some entry) = mark_others v entry.mark

giver_tells : (plan : Plan) (sources : Sources) (giver : Giver) (seen : Seen)
    → TellsUpward plan seen (giver_says plan sources giver seen)
giver_tells plan sources (by_rule r) seen = rule_tells plan seen (slice_get plan.rules r)
giver_tells plan sources (by_user v) seen =
    others_tell plan seen (if_here plan seen v (value_says v (user_of sources v)))
    (others_if (is_here plan seen v) (value_says v (user_of sources v)) nothing (value_others v (user_of sources v))
    refl)
giver_tells plan sources (by_entry v) seen =
    others_tell plan seen (if_here plan seen v (entry_says v (entry_of sources v)))
    (others_if (is_here plan seen v) (entry_says v (entry_of sources v)) nothing (entry_others v (entry_of sources v))
    refl)

-- what isn't said yet was given
any_left : (p q : Atom → Bool) (xs : List Atom) → list_any p (filter q xs) ≡ true → list_any p xs ≡ true
any_left p q [] h = h
any_left p q (x ∷ xs) h = step (q x) (filter q xs) (any_left p q xs) h
  where
    step : (b : Bool) (left : List Atom) → (list_any p left ≡ true → list_any p xs ≡ true)
        → list_any p (cond b (x ∷ left) left) ≡ true
        → list_any p (x ∷ xs) ≡ true
    step true left later h =
        elim (or_cases (p x) (list_any p left) h) [
          | inl e ↦ or_left (p x) (list_any p xs) e
          | inr e ↦ or_right (p x) (list_any p xs) (later e)
        ]
    step false left later h = or_right (p x) (list_any p xs) (later h)

fresh_tells : (plan : Plan) (seen : Seen) (given : Given Atom) → TellsUpward plan seen given
    → TellsUpward plan seen (fresh seen given)
fresh_tells plan seen clash h i e = h i e
fresh_tells plan seen (atoms xs) h i e = h i (any_left (same_atom (Here i)) (λ a. not (says seen a)) xs e)

-- a set keeps to it from round to round
record Up (plan : Plan) (set : List Atom) : Type 0 where
  root : has same_atom set (Here 0) ≡ true
  parents : (i p : ℕ) (slot : Slot) → slice_get plan.slots i ≡ Some slot → slot.parent ≡ Some p
      → has same_atom set (Here i) ≡ true → has same_atom set (Here p) ≡ true

next_up : (plan : Plan) (sources : Sources) (set : List Atom) → Up plan set
    → Up plan (next_round (system_of plan sources) set)
next_up plan sources set up = record {
  root = with_all_left same_atom atom_exact atom_itself set (all_given (system_of plan sources) set) (Here 0) up.root;
  parents = λ i p slot at parent e. with_all_left same_atom atom_exact atom_itself set
      (all_given (system_of plan sources) set) (Here p)
      (elim (with_all_cases same_atom atom_exact atom_itself set (all_given (system_of plan sources) set) (Here i) e) [
        | inl stood ↦ up.parents i p slot at parent stood
        | inr came ↦ from_giver i p slot at parent came
      ]);
}
  where
    from_giver : (i p : ℕ) (slot : Slot) → slice_get plan.slots i ≡ Some slot → slot.parent ≡ Some p
        → has same_atom (all_given (system_of plan sources) set) (Here i) ≡ true → has same_atom set (Here p) ≡ true
    from_giver i p slot at parent came =
        let r
        = settling.giver_of (system_of plan sources) (system_laws plan sources)
        (λ g. atoms_of (gives plan sources g (seen_of set)))
        (system_of plan sources).givers (Here i) came in
        let here
        = fresh_tells plan (seen_of set) (giver_says plan sources r.0 (seen_of set))
        (giver_tells plan sources r.0 (seen_of set)) i r.2 in
        sym (ap (λ o. is_slot_here (seen_of set) (parent_in o)) at ∙ ap (is_slot_here (seen_of set)) parent) ∙ here

settled_up : (plan : Plan) (sources : Sources) (n : ℕ) (start set : List Atom) → Up plan start
    → settle (system_of plan sources) n start ≡ settled set → Up plan set
settled_up plan sources zero start set up ends = step (some_clash (system_of plan sources) start) ends
  where
    step : (b : Bool) → cond b broken (settled start) ≡ settled set → Up plan set
    step true e = absurd (cc e)
    step false e = let same : start ≡ set = cc in subst (Up plan) same up
settled_up plan sources (suc n) start set up ends =
    step (some_clash (system_of plan sources) start) (is_clear plan (next_round (system_of plan sources) start))
    (settled_up plan sources n (next_round (system_of plan sources) start) set (next_up plan sources start up)) ends
  where
    step : (b c : Bool)
        → (settle (system_of plan sources) n (next_round (system_of plan sources) start) ≡ settled set → Up plan set)
        → cond b broken (cond c (settle (system_of plan sources) n (next_round (system_of plan sources) start)) broken)
        ≡ settled set → Up plan set
    step true c later e = absurd (cc e)
    step false true later e = later e
    step false false later e = absurd (cc e)

base_up : (plan : Plan) → IsValid plan → Up plan base
base_up plan valid = record { root = refl; parents = of_root }
  where
    of_root : (i p : ℕ) (slot : Slot) → slice_get plan.slots i ≡ Some slot → slot.parent ≡ Some p
        → has same_atom base (Here i) ≡ true → has same_atom base (Here p) ≡ true
    of_root zero p slot at parent e = absurd (no_parent slot p (sym (ap is_root at) ∙ valid.root) parent)
    of_root (suc i) p slot at parent e =
        elim (or_cases (suc i == 0) false e) [
          | inl same ↦ let zero_is : suc i ≡ 0 = eqb-true (suc i) 0 same in absurd (omega arith)
          | inr other ↦ absurd (cc other)
        ]

pub parents_are_here : ParentsAreHere
parents_are_here plan valid sources set ends =
    let up = settled_up plan sources (atom_count plan) base set (base_up plan valid) ends in
    record { root = up.root; parents = up.parents }
