-- What rules of the kinds Among, Last and Line say follows from its premises, which stand and are read.
use Rattle.std.proofs.Common.{◌≡◌, ℕ, Bool, true, false, cond, not, ◌&&◌, eqb, List, [], ◌∷◌, ◌++◌, map, refl, sym, ◌∙◌}
use Rattle.std.proofs.Common.{ap, subst}
use Rattle.std.specs.Prelude.{Option, None, Some, slice_get}
use Rattle.std.specs.List.{filter, list_all}
use Rattle.std.specs.Option.{option_to_list}
use Rattle.std.proofs.lemmas.Bool.{and_parts, and_from, or_left, eq-eqb}
use Rattle.std.proofs.lemmas.List.Folds.{list_all-append}
use Rattle.vc_base.specs.Rounds.{Given, atoms}
use Rattle.vc_base.specs.Sets.{has}
use Rattle.vc_base.proofs.SetLaws.{has_front, has_back}
use Rattle.vc_value.specs.declared.value.Value.{Value}
use Rattle.vc_plan.specs.declared.atoms.Atom.{Atom}
use Rattle.vc_plan.specs.declared.atoms.Atom.TheVariants.{Here, Out, Is}
use Rattle.vc_plan.specs.declared.conditions.Piece.{Piece}
use Rattle.vc_plan.specs.declared.plans.Plan.{Plan}
use Rattle.vc_plan.specs.declared.rules.Restriction.{Restriction}
use Rattle.vc_plan.specs.declared.rules.Rule.{Rule}
use Rattle.vc_plan.specs.Answers.{nothing, clash_if, is_nothing, last_atoms}
use Rattle.vc_plan.specs.Domains.{numbers_below, count_of, is_restrictable, is_grain_with}
use Rattle.vc_plan.specs.Gives.{not_out}
use Rattle.vc_plan.specs.Restrictions.{is_inferred, failing, left_with, of_remaining, confined, allows, among}
use Rattle.vc_plan.specs.Seen.{Seen, says, is_left_by, is_left, is_slot_here, slot_in, parent_in, is_here}
use Rattle.vc_plan.specs.Seen.{is_parent_here}
use Rattle.vc_plan_reasons.specs.Things.{Thing, slot_at, var_at, same_thing, has_thing, thing_of, slots_of_var}
use Rattle.vc_plan_reasons.specs.Things.{parents_of}
use Rattle.vc_plan_reasons.proofs.ReasonLaws.Reaching.{thing_exact, thing_itself}
use Rattle.vc_rule_premises.specs.Saying.{said_from}
use Rattle.vc_rule_premises.specs.Sufficing.{IsPartOf, SaysAll, each_premise, EachFollows}
use Rattle.vc_rule_premises.proofs.SufficingLaws.{value_said, value_says, each_from, follows_from}
use Rattle.vc_rule_grains.specs.Confining.{outs_with, why_left_by, why_left, why_confined}
use Rattle.vc_rule_grains.specs.Kinds.{why_among, slot_of, parent_of, any_piece, why_last}
use Rattle.vc_rule_grains.specs.Laws.{last_gives, line_gives, ConfiningSuffices, AmongFollows, AmongStands, AmongIsRead}
use Rattle.vc_rule_grains.specs.Laws.{LastFollows, LastStands, LastIsRead, LineFollows, LineStands, LineIsRead}
use Rattle.vc_rule_grains.specs.Remaining.{left_by}
use Rattle.vc_rule_grains.proofs.SayLemmas.{not_out_left}

-- where a part says that those that pass are out which are, the same are left by both
outs_same : (part seen : Seen) (v : ℕ) (pass : ℕ → Bool) → IsPartOf part seen → (gs : List ℕ)
    → list_all (says part) (map (Out v) (filter (λ g. seen.out v g && pass g) gs)) ≡ true
    → filter (λ g. not (part.out v g) && pass g) gs ≡ filter (λ g. not (seen.out v g) && pass g) gs
outs_same part seen v pass w [] h = refl
outs_same part seen v pass w (g ∷ gs) h =
    step (pass g) (seen.out v g) (part.out v g) (filter (λ n. seen.out v n && pass n) gs)
    (filter (λ n. not (part.out v n) && pass n) gs) (filter (λ n. not (seen.out v n) && pass n) gs)
    refl (w.out v g) h (outs_same part seen v pass w gs)
  where
    step : (p o q : Bool) (out xs ys : List ℕ) → part.out v g ≡ q → (q ≡ true → o ≡ true)
        → list_all (says part) (map (Out v) (cond (o && p) (g ∷ out) out)) ≡ true
        → (list_all (says part) (map (Out v) out) ≡ true → xs ≡ ys)
        → cond (not q && p) (g ∷ xs) xs ≡ cond (not o && p) (g ∷ ys) ys
    step true true true out xs ys e f h k =
        let parts : (part.out v g ≡ true) × (list_all (says part) (map (Out v) out) ≡ true) =
        and_parts (part.out v g) (list_all (says part) (map (Out v) out)) h in
        k parts.1
    step true true false out xs ys e f h k =
        let parts : (part.out v g ≡ true) × (list_all (says part) (map (Out v) out) ≡ true) =
        and_parts (part.out v g) (list_all (says part) (map (Out v) out)) h in
        let first = parts.0 in
        absurd (cc)
    step true false true out xs ys e f h k = let no : false ≡ true = f refl in absurd (cc)
    step true false false out xs ys e f h k = ap (λ zs. g ∷ zs) (k h)
    step false true true out xs ys e f h k = k h
    step false true false out xs ys e f h k = k h
    step false false true out xs ys e f h k = k h
    step false false false out xs ys e f h k = k h

-- the same grains are left that pass a test
left_same : (plan : Plan) (seen part : Seen) (v : ℕ) (test : Piece → Bool) → IsPartOf part seen
    → SaysAll part (why_left plan seen v test)
    → left_with plan part v test ≡ left_with plan seen v test
left_same plan seen part v test w h = by (seen.value v) refl h
  where
    none : (o : Option Value) → part.value v ≡ o → seen.value v ≡ None → part.value v ≡ None
    none None e n = e
    none (Some b) e n = let there : seen.value v ≡ Some b = w.value v b e in absurd (cc)

    by : (o : Option Value) → seen.value v ≡ o → SaysAll part (why_left_by plan seen v test o)
        → left_with plan part v test ≡ left_with plan seen v test
    by None e h =
        let nums = numbers_below (count_of plan v) in
        ap (λ o. filter (λ g. is_left_by plan part v g o && is_grain_with plan v test g) nums)
        (none (part.value v) refl e)
        ∙ (outs_same part seen v (is_grain_with plan v test) w nums h
        ∙ ap (λ o. filter (λ g. is_left_by plan seen v g o && is_grain_with plan v test g) nums) (sym e))
    by (Some a) e h =
        let nums = numbers_below (count_of plan v) in
        let parts : (says part (Is v a) ≡ true) × (true ≡ true) = and_parts (says part (Is v a)) true h in
        ap (λ o. filter (λ g. is_left_by plan part v g o && is_grain_with plan v test g) nums)
        (value_said part v a parts.0)
        ∙ ap (λ o. filter (λ g. is_left_by plan seen v g o && is_grain_with plan v test g) nums) (sym e)

pub confining_suffices : ConfiningSuffices
confining_suffices plan seen part v test w h = by (is_restrictable plan v) h
  where
    by : (b : Bool) → SaysAll part (cond b [] (why_left plan seen v test))
        → cond b (atoms (map (Out v) (failing plan v test))) (of_remaining plan v (left_with plan part v test))
        ≡ cond b (atoms (map (Out v) (failing plan v test))) (of_remaining plan v (left_with plan seen v test))
    by true h = refl
    by false h = ap (of_remaining plan v) (left_same plan seen part v test w h)

pub among_follows : AmongFollows
among_follows plan seen rule v restriction =
    follows_from (λ part. among plan part rule v restriction) seen (why_among plan seen rule v restriction)
    (λ part w h. by part w (is_inferred rule v) h)
  where
    by : (part : Seen) → IsPartOf part seen → (b : Bool)
        → SaysAll part (cond b (why_confined plan seen v (allows plan v restriction))
        (why_left plan seen v (allows plan v restriction)))
        → cond b (confined plan part v (allows plan v restriction))
        (clash_if (is_nothing (left_with plan part v (allows plan v restriction))) nothing)
        ≡ cond b (confined plan seen v (allows plan v restriction))
        (clash_if (is_nothing (left_with plan seen v (allows plan v restriction))) nothing)
    by part w true h = confining_suffices plan seen part v (allows plan v restriction) w h
    by part w false h = ap (λ gs. clash_if (is_nothing gs) nothing)
        (left_same plan seen part v (allows plan v restriction) w h)

-- a slot that is said to be here, if there is one
slot_said : (part seen : Seen) (o : Option ℕ) → IsPartOf part seen → SaysAll part (map Here (option_to_list o))
    → is_slot_here part o ≡ is_slot_here seen o
slot_said part seen None w h = refl
slot_said part seen (Some i) w h =
    let parts : (part.here i ≡ true) × (true ≡ true) = and_parts (part.here i) true h in
    parts.0 ∙ sym (w.here i parts.0)

pub last_follows : LastFollows
last_follows plan seen v =
    follows_from (last_gives plan v) seen (why_last plan seen v) (λ part w h.
    let parts : (SaysAll part (slot_of plan v)) × (SaysAll part (outs_with plan seen v any_piece)) =
    and_parts (list_all (says part) (slot_of plan v)) (list_all (says part) (outs_with plan seen v any_piece))
    (sym (list_all-append (says part) (slot_of plan v) (outs_with plan seen v any_piece)) ∙ h) in
    let left : left_by plan part v None any_piece ≡ left_by plan seen v None any_piece =
    outs_same part seen v (is_grain_with plan v any_piece) w (numbers_below (count_of plan v)) parts.1 in
    ap (λ b. atoms (cond b (last_atoms plan v (not_out plan part v)) []))
    (slot_said part seen (slot_in (slice_get plan.vars v)) w parts.0)
    ∙ ap (λ gs. atoms (cond (is_here plan seen v) (last_atoms plan v gs) []))
    (sym (not_out_left plan part v) ∙ (left ∙ not_out_left plan seen v)))

pub line_follows : LineFollows
line_follows plan seen i =
    follows_from (line_gives plan i) seen (parent_of plan i) (λ part w h.
    ap (λ b. atoms (cond b (Here i ∷ []) [])) (slot_said part seen (parent_in (slice_get plan.slots i)) w h))

-- all grains that are out stand so
outs_stand : (seen : Seen) (v : ℕ) (pass : ℕ → Bool) (gs : List ℕ)
    → list_all (says seen) (map (Out v) (filter (λ g. seen.out v g && pass g) gs)) ≡ true
outs_stand seen v pass [] = refl
outs_stand seen v pass (g ∷ gs) = step (seen.out v g) (pass g) refl (outs_stand seen v pass gs)
  where
    step : (o p : Bool) → seen.out v g ≡ o
        → list_all (says seen) (map (Out v) (filter (λ n. seen.out v n && pass n) gs)) ≡ true
        → list_all (says seen)
        (map (Out v) (cond (o && p) (g ∷ filter (λ n. seen.out v n && pass n) gs)
        (filter (λ n. seen.out v n && pass n) gs))) ≡ true
    step true true e all =
        and_from (seen.out v g) (list_all (says seen) (map (Out v) (filter (λ n. seen.out v n && pass n) gs))) e all
    step true false e all = all
    step false p e all = all

left_stands : (plan : Plan) (seen : Seen) (v : ℕ) (test : Piece → Bool) → SaysAll seen (why_left plan seen v test)
left_stands plan seen v test = by (seen.value v) refl
  where
    by : (o : Option Value) → seen.value v ≡ o → SaysAll seen (why_left_by plan seen v test o)
    by None e = outs_stand seen v (is_grain_with plan v test) (numbers_below (count_of plan v))
    by (Some a) e = and_from (says seen (Is v a)) true (value_says seen v a e) refl

pub among_stands : AmongStands
among_stands plan seen rule v restriction =
    each_from (says seen) seen (why_among plan seen rule v restriction) (among plan seen rule v restriction)
    (by (is_inferred rule v) (is_restrictable plan v))
  where
    by : (b c : Bool) → SaysAll seen
        (cond b (cond c [] (why_left plan seen v (allows plan v restriction)))
        (why_left plan seen v (allows plan v restriction)))
    by true true = refl
    by true false = left_stands plan seen v (allows plan v restriction)
    by false c = left_stands plan seen v (allows plan v restriction)

slot_stands : (seen : Seen) (o : Option ℕ) → is_slot_here seen o ≡ true → SaysAll seen (map Here (option_to_list o))
slot_stands seen None e = refl
slot_stands seen (Some i) e = and_from (seen.here i) true e refl

pub last_stands : LastStands
last_stands plan seen v = by (is_here plan seen v) refl
  where
    by : (b : Bool) → is_here plan seen v ≡ b
        → each_premise (says seen)
        (said_from seen (why_last plan seen v) (atoms (cond b (last_atoms plan v (not_out plan seen v)) []))) ≡ true
    by true e =
        each_from (says seen) seen (why_last plan seen v) (atoms (last_atoms plan v (not_out plan seen v)))
        (list_all-append (says seen) (slot_of plan v) (outs_with plan seen v any_piece)
        ∙ and_from (list_all (says seen) (slot_of plan v)) (list_all (says seen) (outs_with plan seen v any_piece))
        (slot_stands seen (slot_in (slice_get plan.vars v)) e)
        (outs_stand seen v (is_grain_with plan v any_piece) (numbers_below (count_of plan v))))
    by false e = refl

pub line_stands : LineStands
line_stands plan seen i = by (is_parent_here plan seen i) refl
  where
    by : (b : Bool) → is_parent_here plan seen i ≡ b
        → each_premise (says seen) (said_from seen (parent_of plan i) (atoms (cond b (Here i ∷ []) []))) ≡ true
    by true e = each_from (says seen) seen (parent_of plan i) (atoms (Here i ∷ []))
        (slot_stands seen (parent_in (slice_get plan.slots i)) e)
    by false e = refl

-- grains that are out are of their variable
outs_of : (v : ℕ) (things : List Thing) (gs : List ℕ) → has_thing things (var_at v) ≡ true
    → list_all (λ a. has_thing things (thing_of a)) (map (Out v) gs) ≡ true
outs_of v things [] e = refl
outs_of v things (g ∷ gs) e =
    and_from (has_thing things (var_at v)) (list_all (λ a. has_thing things (thing_of a)) (map (Out v) gs)) e
    (outs_of v things gs e)

itself_of : (v : ℕ) → has_thing (var_at v ∷ []) (var_at v) ≡ true
itself_of v = or_left (eqb v v) false (eq-eqb v v refl)

left_of : (plan : Plan) (seen : Seen) (v : ℕ) (test : Piece → Bool)
    → list_all (λ a. has_thing (var_at v ∷ []) (thing_of a)) (why_left plan seen v test) ≡ true
left_of plan seen v test = by (seen.value v)
  where
    by : (o : Option Value)
        → list_all (λ a. has_thing (var_at v ∷ []) (thing_of a)) (why_left_by plan seen v test o) ≡ true
    by None = outs_of v (var_at v ∷ [])
        (filter (λ g. seen.out v g && is_grain_with plan v test g) (numbers_below (count_of plan v))) (itself_of v)
    by (Some a) = and_from (has_thing (var_at v ∷ []) (var_at v)) true (itself_of v) refl

pub among_is_read : AmongIsRead
among_is_read plan seen rule v restriction =
    each_from (λ a. has_thing (var_at v ∷ []) (thing_of a)) seen (why_among plan seen rule v restriction)
    (among plan seen rule v restriction)
    (by (is_inferred rule v) (is_restrictable plan v))
  where
    by : (b c : Bool) → list_all (λ a. has_thing (var_at v ∷ []) (thing_of a))
        (cond b (cond c [] (why_left plan seen v (allows plan v restriction)))
        (why_left plan seen v (allows plan v restriction))) ≡ true
    by true true = refl
    by true false = left_of plan seen v (allows plan v restriction)
    by false c = left_of plan seen v (allows plan v restriction)

-- slots that are here are of the slots
slots_of : (things : List Thing) (o : Option ℕ)
    → ((i : ℕ) → has_thing (map slot_at (option_to_list o)) (slot_at i) ≡ true → has_thing things (slot_at i) ≡ true)
    → list_all (λ a. has_thing things (thing_of a)) (map Here (option_to_list o)) ≡ true
slots_of things None f = refl
slots_of things (Some i) f =
    and_from (has_thing things (slot_at i)) true (f i (or_left (eqb i i) false (eq-eqb i i refl))) refl

pub last_is_read : LastIsRead
last_is_read plan seen v =
    let slots = map slot_at (slots_of_var plan v) in
    let things = slots ++ var_at v ∷ [] in
    each_from (λ a. has_thing things (thing_of a)) seen (why_last plan seen v) (last_gives plan v seen)
    (list_all-append (λ a. has_thing things (thing_of a)) (slot_of plan v) (outs_with plan seen v any_piece)
    ∙ and_from (list_all (λ a. has_thing things (thing_of a)) (slot_of plan v))
    (list_all (λ a. has_thing things (thing_of a)) (outs_with plan seen v any_piece))
    (slots_of things (slot_in (slice_get plan.vars v))
    (λ i h. has_front same_thing thing_exact thing_itself slots (var_at v ∷ []) (slot_at i) h))
    (outs_of v things (filter (λ g. seen.out v g && is_grain_with plan v any_piece g) (numbers_below (count_of plan v)))
    (has_back same_thing thing_exact thing_itself slots (var_at v ∷ []) (var_at v) (itself_of v))))

pub line_is_read : LineIsRead
line_is_read plan seen i =
    let things = map slot_at (parents_of plan i) in
    each_from (λ a. has_thing things (thing_of a)) seen (parent_of plan i) (line_gives plan i seen)
    (slots_of things (parent_in (slice_get plan.slots i)) (λ n h. h))
