-- What a rule or source gives depends on what it reads and writes alone.
use Rattle.std.proofs.Common.{◌≡◌, ℕ, min, Bool, true, false, cond, not, ◌&&◌, List, [], ◌∷◌, ◌++◌, map, refl, ◌∙◌, ap}
use Rattle.std.proofs.Common.{subst}
use Rattle.std.specs.Prelude.{Option, None, Some, is_none, slice_get}
use Rattle.std.specs.List.{filter, flat_map, list_all, list_any}
use Rattle.vc_base.specs.Rounds.{Given, clash, atoms}
use Rattle.vc_base.specs.Sets.{has, Within}
use Rattle.vc_base.proofs.SetLaws.{has_back, has_first, has_front, has_more}
use Rattle.vc_value.specs.declared.value.Value.{Value}
use Rattle.vc_plan.specs.declared.atoms.Atom.{Atom}
use Rattle.vc_plan.specs.declared.atoms.Atom.TheVariants.{Here, Out, Is}
use Rattle.vc_plan.specs.declared.conditions.Piece.{Piece}
use Rattle.vc_plan.specs.declared.conditions.Relation.{Relation}
use Rattle.vc_plan.specs.declared.plans.Plan.{Plan}
use Rattle.vc_plan.specs.declared.rules.Binding.{Binding}
use Rattle.vc_plan.specs.declared.rules.Kind.{Kind}
use Rattle.vc_plan.specs.declared.rules.Kind.TheVariants.{Among, Compare, Equate, ByTable, Never, Last, Line}
use Rattle.vc_plan.specs.declared.rules.Operand.{Operand}
use Rattle.vc_plan.specs.declared.rules.Operand.TheVariants.{Constant, Variable}
use Rattle.vc_plan.specs.declared.rules.Restriction.{Restriction}
use Rattle.vc_plan.specs.declared.rules.Rule.{Rule}
use Rattle.vc_plan.specs.declared.terms.Term.{Term}
use Rattle.vc_plan.specs.declared.terms.Term.TheVariants.{Literal, Read, PartSum, PartCount, Applied', Joined'}
use Rattle.vc_plan.specs.Answers.{nothing, clash_if, clash_if_false, beside, gathered, fresh, last_atoms, is_nothing}
use Rattle.vc_plan.specs.Domains.{numbers_below, count_of, is_restrictable, is_grain_with}
use Rattle.vc_plan.specs.Gives.{Giver, by_rule, by_user, by_entry, acts, kind_gives, rule_says, value_says, entry_says}
use Rattle.vc_plan.specs.Gives.{giver_says}
use Rattle.vc_plan.specs.Kleene.{is_true}
use Rattle.vc_plan.specs.Pieces.{is_outside, turned, lies_in}
use Rattle.vc_plan.specs.Readings.{net_reading}
use Rattle.vc_plan.specs.Reads.{vars_of_term, vars_of_condition}
use Rattle.vc_plan.specs.Restrictions.{is_inferred, failing, of_remaining, confined, allows, among, lone, lone_in}
use Rattle.vc_plan.specs.Restrictions.{lone_inferred, related, compare, equal_to, decimals_in_side, differ, equate}
use Rattle.vc_plan.specs.Seen.{Seen, same_atom, seen_of, is_left, is_value, says, slot_in, parent_in, is_here}
use Rattle.vc_plan.specs.Sources.{Sources, user_of, entry_of}
use Rattle.vc_plan.specs.TableRows.{rows_of, cell_passes, fits, is_possible, is_possible_in, is_column_of, columns_of}
use Rattle.vc_plan.specs.TableRows.{other_columns, missing_grains, agreed, for_variable, narrowed, by_table}
use Rattle.vc_plan.specs.Truth.{compared, truth_at, value_at}
use Rattle.vc_plan.proofs.PlanLaws.Atoms.{atom_exact, atom_itself}
use Rattle.vc_plan_reasons.specs.Laws.{GivesLocally, RulesIgnoreSources, SaysLocally}
use Rattle.vc_plan_reasons.specs.Things.{Thing, slot_at, var_at, same_thing, has_thing, thing_of, slots_of_var}
use Rattle.vc_plan_reasons.specs.Things.{vars_of_operand, vars_of_column, vars_of_kind, slots_of_kind, rule_reads}
use Rattle.vc_plan_reasons.specs.Things.{reads_in, giver_reads, giver_writes}
use Rattle.vc_plan_reasons.proofs.ReasonLaws.Agreeing.{SameVar, SameVars, SameSlots, Agree, vars_front, vars_back}
use Rattle.vc_plan_reasons.proofs.ReasonLaws.Agreeing.{vars_join, slots_front, slots_back, agree_vars, agree_slots}
use Rattle.vc_plan_reasons.proofs.ReasonLaws.Agreeing.{alike_agree, slots_all, slot_same, left_same, out_same}
use Rattle.vc_plan_reasons.proofs.ReasonLaws.Agreeing.{value_same, truth_same, values_of}
use Rattle.vc_plan_reasons.proofs.ReasonLaws.Reaching.{thing_exact, thing_itself}
use Rattle.vc_plan_reasons.proofs.ReasonLaws.Writing.{Writes, inferred_parts, says_written}

confined_same : (plan : Plan) (s t : Seen) (v : ℕ) (test : Piece → Bool) → SameVar s t v
    → confined plan s v test ≡ confined plan t v test
confined_same plan s t v test h =
    ap (λ left. cond (is_restrictable plan v) (atoms (map (Out v) (failing plan v test)))
    (of_remaining plan v (filter (λ g. left g && is_grain_with plan v test g) (numbers_below (count_of plan v)))))
    (left_same plan s t v h)

among_same : (plan : Plan) (s t : Seen) (rule : Rule) (v : ℕ) (restriction : Restriction) → SameVar s t v
    → among plan s rule v restriction ≡ among plan t rule v restriction
among_same plan s t rule v restriction h =
    let test = allows plan v restriction in
    ap (λ x. cond (is_inferred rule v) x
    (clash_if (is_nothing
    (filter (λ g. is_left plan s v g && is_grain_with plan v test g) (numbers_below (count_of plan v)))) nothing))
    (confined_same plan s t v test h)
    ∙ ap (λ f. cond (is_inferred rule v) (confined plan t v test)
    (clash_if (is_nothing (filter (λ g. f g && is_grain_with plan v test g) (numbers_below (count_of plan v))))
    nothing))
    (left_same plan s t v h)

-- a term that is one variable
lone_same : (s t : Seen) (o : Option Term) (v : ℕ) → lone_in o ≡ Some v → SameVars s t (vars_of_term o) → SameVar s t v
lone_same s t None v e h = absurd (cc)
lone_same s t (Some (Literal a)) v e h = absurd (cc)
lone_same s t (Some (Read w)) v e h = let is : w ≡ v = cc in subst (SameVar s t) is h.0
lone_same s t (Some (PartSum slot characteristic)) v e h = absurd (cc)
lone_same s t (Some (PartCount slot)) v e h = absurd (cc)
lone_same s t (Some (Applied' function p a)) v e h = absurd (cc)
lone_same s t (Some (Joined' operator p a q b)) v e h = absurd (cc)

side_same : (plan : Plan) (s t : Seen) (rule : Rule) (a v : ℕ) → lone_inferred plan rule a ≡ Some v
    → SameVars s t (vars_of_term (slice_get plan.terms a)) → SameVar s t v
side_same plan s t rule a v e h = lone_same s t (slice_get plan.terms a) v (inferred_parts rule (lone plan a) v e).0 h

related_same : (plan : Plan) (s t : Seen) (r : Relation) (o : Option ℕ) (x : Option Value)
    → ((v : ℕ) → o ≡ Some v → SameVar s t v)
    → related plan s r o x ≡ related plan t r o x
related_same plan s t r None x f = refl
related_same plan s t r (Some v) None f = refl
related_same plan s t r (Some v) (Some a) f = confined_same plan s t v (λ piece. not (is_outside r a piece)) (f v refl)

compare_same : (plan : Plan) (s t : Seen) (rule : Rule) (r : Relation) (a b : ℕ)
    → SameVars s t (vars_of_term (slice_get plan.terms a))
    → SameVars s t (vars_of_term (slice_get plan.terms b)) → compare plan s rule r a b ≡ compare plan t rule r a b
compare_same plan s t rule r a b h k =
    let v = lone_inferred plan rule a in
    let w = lone_inferred plan rule b in
    let x = value_at plan (net_reading t) a in
    let y = value_at plan (net_reading t) b in
    ap (λ z. clash_if_false (compared r z (value_at plan (net_reading s) b))
    (beside (related plan s r v (value_at plan (net_reading s) b)) (related plan s (turned r) w z)))
    (value_same plan s t a (values_of s t (vars_of_term (slice_get plan.terms a)) h))
    ∙ (ap (λ z. clash_if_false (compared r x z) (beside (related plan s r v z) (related plan s (turned r) w x)))
    (value_same plan s t b (values_of s t (vars_of_term (slice_get plan.terms b)) k))
    ∙ (ap (λ z. clash_if_false (compared r x y) (beside z (related plan s (turned r) w x)))
    (related_same plan s t r v y (λ u e. side_same plan s t rule a u e h))
    ∙ ap (λ z. clash_if_false (compared r x y) (beside (related plan t r v y) z))
    (related_same plan s t (turned r) w x (λ u e. side_same plan s t rule b u e k))))

equate_same : (plan : Plan) (s t : Seen) (rule : Rule) (a b : ℕ) → SameVars s t (vars_of_term (slice_get plan.terms a))
    → SameVars s t (vars_of_term (slice_get plan.terms b)) → equate plan s rule a b ≡ equate plan t rule a b
equate_same plan s t rule a b h k =
    let v = lone_inferred plan rule a in
    let w = lone_inferred plan rule b in
    let decimals = min (decimals_in_side plan (lone plan a)) (decimals_in_side plan (lone plan b)) in
    let x = value_at plan (net_reading t) a in
    ap (λ z. clash_if ((is_none v && is_none w) && differ decimals z (value_at plan (net_reading s) b))
    (beside (equal_to plan v (value_at plan (net_reading s) b)) (equal_to plan w z)))
    (value_same plan s t a (values_of s t (vars_of_term (slice_get plan.terms a)) h))
    ∙ ap (λ z. clash_if ((is_none v && is_none w) && differ decimals x z)
    (beside (equal_to plan v z) (equal_to plan w x)))
    (value_same plan s t b (values_of s t (vars_of_term (slice_get plan.terms b)) k))

-- which rows are possible
fits_same : (plan : Plan) (s t : Seen) (o : Operand) → SameVars s t (vars_of_operand o) → fits plan s o ≡ fits plan t o
fits_same plan s t (Constant b) h = refl
fits_same plan s t (Variable v) h =
    ap (λ left a. list_any (λ g. left g && is_grain_with plan v (lies_in a) g) (numbers_below (count_of plan v)))
    (left_same plan s t v h.0)

possible_same : (plan : Plan) (s t : Seen) (columns : List Binding) → SameVars s t (flat_map vars_of_column columns)
    → (row : List Value)
    → is_possible_in plan s columns row ≡ is_possible_in plan t columns row
possible_same plan s t [] h row = refl
possible_same plan s t (column ∷ columns) h row =
    ap (λ f. cell_passes f (slice_get row column.column) && is_possible_in plan s columns row)
    (fits_same plan s t column.operand (vars_front s t (vars_of_column column) (flat_map vars_of_column columns) h))
    ∙ ap (λ b. is_possible plan t row column && b)
    (possible_same plan s t columns (vars_back s t (vars_of_column column) (flat_map vars_of_column columns) h) row)

some_columns : (s t : Seen) (p : Binding → Bool) (columns : List Binding)
    → SameVars s t (flat_map vars_of_column columns)
    → SameVars s t (flat_map vars_of_column (filter p columns))
some_columns s t p [] h = tt
some_columns s t p (column ∷ columns) h =
    choice (p column) (filter p columns) (vars_front s t (vars_of_column column) (flat_map vars_of_column columns) h)
    (some_columns s t p columns (vars_back s t (vars_of_column column) (flat_map vars_of_column columns) h))
  where
    choice : (b : Bool) (rest : List Binding) → SameVars s t (vars_of_column column)
        → SameVars s t (flat_map vars_of_column rest)
        → SameVars s t (flat_map vars_of_column (cond b (column ∷ rest) rest))
    choice true rest f g = vars_join s t (vars_of_column column) (flat_map vars_of_column rest) f g
    choice false rest f g = g

variable_same : (plan : Plan) (s t : Seen) (table : ℕ) (columns : List Binding) (v : ℕ)
    → SameVars s t (flat_map vars_of_column columns)
    → for_variable plan s table columns v ≡ for_variable plan t table columns v
variable_same plan s t table columns v h =
    let others = other_columns v columns in
    let own = columns_of v columns in
    let same : is_possible_in plan s others ≡ is_possible_in plan t others
    = λ i row. possible_same plan s t others (some_columns s t (λ column. not (is_column_of v column)) columns h) row
    i in
    ap (λ f. atoms (cond (is_restrictable plan v)
    (map (Out v) (missing_grains plan v own (filter f (rows_of plan table))))
    (agreed plan v own (filter f (rows_of plan table))))) same

table_same : (plan : Plan) (s t : Seen) (rule : Rule) (table : ℕ) (columns : List Binding)
    → SameVars s t (flat_map vars_of_column columns)
    → by_table plan s rule table columns ≡ by_table plan t rule table columns
table_same plan s t rule table columns h =
    let possible : is_possible_in plan s columns ≡ is_possible_in plan t columns
    = λ i row. possible_same plan s t columns h row i in
    let each : for_variable plan s table columns ≡ for_variable plan t table columns
    = λ i v. variable_same plan s t table columns v h i in
    ap (λ f. clash_if (not (list_any f (rows_of plan table)))
    (gathered (for_variable plan s table columns) (narrowed rule columns))) possible
    ∙ ap (λ f. clash_if (not (list_any (is_possible_in plan t columns) (rows_of plan table)))
    (gathered f (narrowed rule columns))) each

-- each kind
kind_same : (plan : Plan) (s t : Seen) (rule : Rule) (kind : Kind) → SameVars s t (vars_of_kind plan kind)
    → SameSlots s t (slots_of_kind plan kind)
    → kind_gives plan s rule kind ≡ kind_gives plan t rule kind
kind_same plan s t rule (Among v restriction) h k = among_same plan s t rule v restriction h.0
kind_same plan s t rule (Compare r a b) h k =
    let first = vars_of_term (slice_get plan.terms a) in
    let second = vars_of_term (slice_get plan.terms b) in
    compare_same plan s t rule r a b (vars_front s t first second h) (vars_back s t first second h)
kind_same plan s t rule (Equate a b) h k =
    let first = vars_of_term (slice_get plan.terms a) in
    let second = vars_of_term (slice_get plan.terms b) in
    equate_same plan s t rule a b (vars_front s t first second h) (vars_back s t first second h)
kind_same plan s t rule (ByTable table columns) h k = table_same plan s t rule table columns h
kind_same plan s t rule Never h k = refl
kind_same plan s t rule (Last v) h k =
    ap (λ b. atoms (cond b (last_atoms plan v (filter (λ g. not (s.out v g)) (numbers_below (count_of plan v)))) []))
    (slot_same s t (slot_in (slice_get plan.vars v)) k)
    ∙ ap (λ f. atoms (cond (is_here plan t v)
    (last_atoms plan v (filter (λ g. not (f g)) (numbers_below (count_of plan v)))) [])) (out_same s t v h.0)
kind_same plan s t rule (Line i) h k =
    ap (λ b. atoms (cond b (Here i ∷ []) [])) (slot_same s t (parent_in (slice_get plan.slots i)) k)

rule_same : (plan : Plan) (s t : Seen) (rule : Rule)
    → SameVars s t (vars_of_condition (slice_get plan.conditions rule.condition) ++ vars_of_kind plan rule.kind)
    → SameSlots s t (rule.slots ++ slots_of_kind plan rule.kind)
    → rule_says plan s (Some rule) ≡ rule_says plan t (Some rule)
rule_same plan s t rule h k =
    let asked = vars_of_condition (slice_get plan.conditions rule.condition) in
    let own = vars_of_kind plan rule.kind in
    let slots = slots_all s t rule.slots (slots_front s t rule.slots (slots_of_kind plan rule.kind) k) in
    let truth = truth_same plan s t rule.condition (values_of s t asked (vars_front s t asked own h)) in
    let said = kind_same plan s t rule rule.kind (vars_back s t asked own h)
    (slots_back s t rule.slots (slots_of_kind plan rule.kind) k) in
    ap (λ b. cond (b && is_true (truth_at plan (net_reading s) rule.condition)) (kind_gives plan s rule rule.kind)
    nothing) slots
    ∙ (ap (λ b. cond (list_all t.here rule.slots && is_true b) (kind_gives plan s rule rule.kind) nothing) truth
    ∙ ap (λ x. cond (acts plan t rule) x nothing) said)

-- what doesn't stand yet of atoms of things of which both say the same
says_same : (things : List Thing) (s t : Seen) → Agree things s t → (a : Atom) → has_thing things (thing_of a) ≡ true
    → says s a ≡ says t a
says_same things s t g (Here i) h = g.here i h
says_same things s t g (Out v n) h = let same : SameVar s t v = g.var v h in same.out n
says_same things s t g (Is v a) h = let same : SameVar s t v = g.var v h in ap (is_value a) same.value

filter_same : (p q : Atom → Bool) (xs : List Atom) → ((a : Atom) → has same_atom xs a ≡ true → p a ≡ q a)
    → filter p xs ≡ filter q xs
filter_same p q [] f = refl
filter_same p q (x ∷ xs) f =
    ap (λ b. cond b (x ∷ filter p xs) (filter p xs)) (f x (has_first same_atom atom_exact atom_itself x xs))
    ∙ ap (λ ys. cond (q x) (x ∷ ys) ys)
    (filter_same p q xs (λ a h. f a (has_more same_atom atom_exact atom_itself x xs a h)))

fresh_same : (things : List Thing) (s t : Seen) → Agree things s t → (x : Given Atom) → Writes things x
    → fresh s x ≡ fresh t x
fresh_same things s t g clash w = refl
fresh_same things s t g (atoms xs) w =
    ap atoms (filter_same (λ a. not (says s a)) (λ a. not (says t a)) xs
    (λ a h. ap not (says_same things s t g a (w a h))))

-- a part of the things
part : (xs ys : List Thing) (s t : Seen) → Within same_thing xs ys → Agree ys s t → Agree xs s t
part xs ys s t w g = record { here = λ i h. g.here i (w (slot_at i) h); var = λ v h. g.var v (w (var_at v) h) }

rule_agrees : (plan : Plan) (s t : Seen) (o : Option Rule) → Agree (reads_in plan o) s t
    → rule_says plan s o ≡ rule_says plan t o
rule_agrees plan s t None g = refl
rule_agrees plan s t (Some rule) g =
    let slots = rule.slots ++ slots_of_kind plan rule.kind in
    let vars = vars_of_condition (slice_get plan.conditions rule.condition) ++ vars_of_kind plan rule.kind in
    rule_same plan s t rule
    (agree_vars (rule_reads plan rule) s t g vars
    (λ a h. has_back same_thing thing_exact thing_itself (map slot_at slots) (map var_at vars) a h))
    (agree_slots (rule_reads plan rule) s t g slots
    (λ a h. has_front same_thing thing_exact thing_itself (map slot_at slots) (map var_at vars) a h))

source_agrees : (plan : Plan) (s t : Seen) (v : ℕ) (said : Given Atom) → Agree (map slot_at (slots_of_var plan v)) s t
    → cond (is_here plan s v) said nothing ≡ cond (is_here plan t v) said nothing
source_agrees plan s t v said g =
    ap (λ b. cond b said nothing)
    (slot_same s t (slot_in (slice_get plan.vars v))
    (agree_slots (map slot_at (slots_of_var plan v)) s t g (slots_of_var plan v) (λ a h. h)))

pub giver_agrees : (plan : Plan) (sources : Sources) (giver : Giver) (s t : Seen) → Agree (giver_reads plan giver) s t
    → giver_says plan sources giver s ≡ giver_says plan sources giver t
giver_agrees plan sources (by_rule r) s t g = rule_agrees plan s t (slice_get plan.rules r) g
giver_agrees plan sources (by_user v) s t g = source_agrees plan s t v (value_says v (user_of sources v)) g
giver_agrees plan sources (by_entry v) s t g = source_agrees plan s t v (entry_says v (entry_of sources v)) g

pub says_locally : SaysLocally
says_locally plan sources giver set other clear alike =
    giver_agrees plan sources giver (seen_of set) (seen_of other)
    (alike_agree plan (giver_reads plan giver) set other clear alike)

pub rules_ignore_sources : RulesIgnoreSources
rules_ignore_sources plan sources others r seen = refl

pub gives_locally : GivesLocally
gives_locally plan sources giver set other clear alike =
    let s = seen_of set in
    let t = seen_of other in
    let reads = giver_reads plan giver in
    let writes = giver_writes plan giver in
    let all : Agree (reads ++ writes) s t = alike_agree plan (reads ++ writes) set other clear alike in
    ap (fresh s) (giver_agrees plan sources giver s t
    (part reads (reads ++ writes) s t (λ a h. has_front same_thing thing_exact thing_itself reads writes a h) all))
    ∙ fresh_same writes s t
    (part writes (reads ++ writes) s t (λ a h. has_back same_thing thing_exact thing_itself reads writes a h) all)
    (giver_says plan sources giver t) (says_written plan sources giver t)
