-- How large a plan is doesn't depend on where the nodes of its trees stand in memory.
use Rattle.std.proofs.Common.{◌≡◌, ℕ, ◌+◌, max, nat_lt, Bool, ◌&&◌, ◌||◌, ◌==◌, not, List, [], ◌∷◌, ◌++◌, length, drop}
use Rattle.std.proofs.Common.{map, flat_map, slice_get, refl, sym, ap, ◌∙◌, Option, None, Some, option_map}
use Rattle.std.proofs.Common.{if◌then◌else◌}
use Rattle.std.specs.List.{filter, list_all, sum_by}
use Rattle.std.proofs.Math.Path.{fun_ext}
use Rattle.std.proofs.lemmas.Option.{slice_get-map}
use Rattle.vc_value.specs.declared.value.Value.{Value}
use Rattle.vc_table.specs.declared.table.VariantTable.{VariantTable}
use Rattle.vc_plan.specs.declared.conditions.Condition as stored
use Rattle.vc_plan.specs.declared.conditions.Condition.TheVariants as conditions
use Rattle.vc_plan.specs.declared.conditions.Piece.{Piece}
use Rattle.vc_plan.specs.declared.plans.Plan.{Plan}
use Rattle.vc_plan.specs.declared.plans.Var.{Var}
use Rattle.vc_plan.specs.declared.rules.Binding.{Binding}
use Rattle.vc_plan.specs.declared.rules.Kind.{Kind}
use Rattle.vc_plan.specs.declared.rules.Kind.TheVariants.{Among, Compare, Equate, ByTable, Never, Last, Line}
use Rattle.vc_plan.specs.declared.rules.Restriction.{Restriction}
use Rattle.vc_plan.specs.declared.rules.Restriction.TheVariants.{Against, OneOf}
use Rattle.vc_plan.specs.declared.rules.Rule.{Rule}
use Rattle.vc_plan.specs.declared.terms.Term as stored_term
use Rattle.vc_plan.specs.declared.terms.Term.TheVariants as terms
use Rattle.vc_plan.specs.Bounds.{Place, here_at, out_at, is_at, acting_size, bound_of, cell_bound, clash_bound}
use Rattle.vc_plan.specs.Bounds.{compare_bound, distinct, equate_bound, greatest, here_bound, is_bound, is_side}
use Rattle.vc_plan.specs.Bounds.{is_this, is_narrowed, kind_clash_bound, only_if, out_bound, place_bound, places}
use Rattle.vc_plan.specs.Bounds.{places_of, rows_with, side_grains, sides_size, source_bound}
use Rattle.vc_plan.specs.Domains.{atom_count, count_of, domain_of, grains_in, grains_of, is_grain_with, is_restrictable}
use Rattle.vc_plan.specs.Domains.{is_restrictable_in, numbers_below, passes}
use Rattle.vc_plan.specs.Reads.{vars_in, vars_read, vars_of_condition, vars_of_term}
use Rattle.vc_plan.specs.Restrictions.{allows, if_inferred, is_inferred, lone, lone_in, lone_inferred}
use Rattle.vc_plan.specs.Pieces.{lies_in}
use Rattle.vc_plan.specs.TableRows.{cell_passes, columns_of, has_grain, rows_in, rows_of}
use Rattle.vc_compile_plan.specs.Layouts.{Layout}
use Rattle.vc_compile_plan.specs.Numbering.{Drafts}
use Rattle.vc_compile_plan.specs.PlanOf.{IsPlanOver}
use Rattle.vc_compile_plan.specs.Refusals.{most_atoms, most_cells, most_rules, size_fault}
use Rattle.vc_compile_plan.specs.declared.fault.CompileFault.{CompileFault}
use Rattle.vc_compile_plan.specs.declared.fault.CompileFault.TheVariants as faults
use Rattle.vc_compile_plan.specs.Trees as trees

-- plans that differ in where the nodes of their trees stand, as far as sizes ask
record Alike (p q : Plan) : Type 0 where
  slots : p.slots ≡ q.slots
  vars : p.vars ≡ q.vars
  domains : p.domains ≡ q.domains
  tables : p.tables ≡ q.tables
  rules : p.rules ≡ q.rules
  conditions : map trees.condition_of p.conditions ≡ map trees.condition_of q.conditions
  terms : map trees.term_of p.terms ≡ map trees.term_of q.terms

alike : (layout : Layout) (drafts : Drafts) (tables : List VariantTable) (p q : Plan)
    → IsPlanOver layout drafts tables p → IsPlanOver layout drafts tables q → Alike p q
alike layout drafts tables p q a b = record {
  slots = a.slots ∙ sym b.slots;
  vars = a.vars ∙ sym b.vars;
  domains = a.domains ∙ sym b.domains;
  tables = a.tables ∙ sym b.tables;
  rules = a.rules ∙ sym b.rules;
  conditions = a.conditions ∙ sym b.conditions;
  terms = a.terms ∙ sym b.terms;
}

-- what a tree reads, and whether it is a lone variable, without the places of its nodes
abbrev reads_term : trees.Term → List ℕ
reads_term (trees.Literal a) = []
reads_term (trees.Read v) = v ∷ []
reads_term (trees.PartSum slot c) = []
reads_term (trees.PartCount slot) = []
reads_term (trees.Applied function a) = reads_term a
reads_term (trees.Joined operator a b) = reads_term a ++ reads_term b

abbrev reads : trees.Condition → List ℕ
reads trees.Always = []
reads (trees.Compared r a b) = reads_term a ++ reads_term b
reads (trees.IsIn v pieces) = v ∷ []
reads (trees.Specified v) = v ∷ []
reads (trees.Holds set text) = []
reads (trees.Filled set) = []
reads (trees.Not c) = reads c
reads (trees.And c d) = reads c ++ reads d
reads (trees.Or c d) = reads c ++ reads d

abbrev reads_of_term : Option trees.Term → List ℕ
reads_of_term None = []
reads_of_term (Some term) = reads_term term

abbrev reads_of : Option trees.Condition → List ℕ
reads_of None = []
reads_of (Some c) = reads c

abbrev lone_tree : Option trees.Term → Option ℕ
lone_tree None = None
lone_tree (Some (trees.Literal a)) = None
lone_tree (Some (trees.Read v)) = Some v
lone_tree (Some (trees.PartSum slot c)) = None
lone_tree (Some (trees.PartCount slot)) = None
lone_tree (Some (trees.Applied function a)) = None
lone_tree (Some (trees.Joined operator a b)) = None

term_reads : (term : stored_term.Term) → vars_in term ≡ reads_term (trees.term_of term)
term_reads (terms.Literal a) = refl
term_reads (terms.Read v) = refl
term_reads (terms.PartSum slot c) = refl
term_reads (terms.PartCount slot) = refl
term_reads (terms.Applied' function p a) = term_reads a
term_reads (terms.Joined' operator p a q b) = rw (term_reads a, term_reads b) refl

condition_reads : (c : stored.Condition) → vars_read c ≡ reads (trees.condition_of c)
condition_reads conditions.Always = refl
condition_reads (conditions.Compared r a b) = rw (term_reads a, term_reads b) refl
condition_reads (conditions.IsIn v pieces) = refl
condition_reads (conditions.Specified v) = refl
condition_reads (conditions.Holds set text) = refl
condition_reads (conditions.Filled set) = refl
condition_reads (conditions.Not' p c) = condition_reads c
condition_reads (conditions.And' p c q d) = rw (condition_reads c, condition_reads d) refl
condition_reads (conditions.Or' p c q d) = rw (condition_reads c, condition_reads d) refl

term_if : (term : Option stored_term.Term) → vars_of_term term ≡ reads_of_term (option_map trees.term_of term)
term_if None = refl
term_if (Some term) = term_reads term

condition_if : (c : Option stored.Condition) → vars_of_condition c ≡ reads_of (option_map trees.condition_of c)
condition_if None = refl
condition_if (Some c) = condition_reads c

lone_if : (term : Option stored_term.Term) → lone_in term ≡ lone_tree (option_map trees.term_of term)
lone_if None = refl
lone_if (Some (terms.Literal a)) = refl
lone_if (Some (terms.Read v)) = refl
lone_if (Some (terms.PartSum slot c)) = refl
lone_if (Some (terms.PartCount slot)) = refl
lone_if (Some (terms.Applied' function p a)) = refl
lone_if (Some (terms.Joined' operator p a q b)) = refl

terms_by : {X : Type 0} (f : Option trees.Term → X) (p q : Plan) → Alike p q → (t : ℕ)
    → f (option_map trees.term_of (slice_get p.terms t)) ≡ f (option_map trees.term_of (slice_get q.terms t))
terms_by f p q a t =
    ap f (sym (slice_get-map trees.term_of p.terms t) ∙ ap (λ ts. slice_get ts t) a.terms
    ∙ slice_get-map trees.term_of q.terms t)

term_same : (p q : Plan) → Alike p q → (t : ℕ) → vars_of_term (slice_get p.terms t) ≡ vars_of_term (slice_get q.terms t)
term_same p q a t = term_if (slice_get p.terms t) ∙ terms_by reads_of_term p q a t ∙ sym (term_if (slice_get q.terms t))

lone_same : (p q : Plan) → Alike p q → (t : ℕ) → lone p t ≡ lone q t
lone_same p q a t = lone_if (slice_get p.terms t) ∙ terms_by lone_tree p q a t ∙ sym (lone_if (slice_get q.terms t))

condition_same : (p q : Plan) → Alike p q → (c : ℕ)
    → vars_of_condition (slice_get p.conditions c) ≡ vars_of_condition (slice_get q.conditions c)
condition_same p q a c =
    condition_if (slice_get p.conditions c)
    ∙ ap reads_of (sym (slice_get-map trees.condition_of p.conditions c) ∙ ap (λ cs. slice_get cs c) a.conditions
    ∙ slice_get-map trees.condition_of q.conditions c)
    ∙ sym (condition_if (slice_get q.conditions c))

-- grains
domain_same : (p q : Plan) → Alike p q → (var : Option Var) → domain_of p var ≡ domain_of q var
domain_same p q a None = refl
domain_same p q a (Some x) = ap (λ ds. slice_get ds x.domain) a.domains

domain_at : (p q : Plan) → Alike p q → (v : ℕ) → domain_of p (slice_get p.vars v) ≡ domain_of q (slice_get q.vars v)
domain_at p q a v = ap (λ vs. domain_of p (slice_get vs v)) a.vars ∙ domain_same p q a (slice_get q.vars v)

grains_same : (p q : Plan) → Alike p q → (v : ℕ) → grains_of p v ≡ grains_of q v
grains_same p q a v = ap grains_in (domain_at p q a v)

count_same : (p q : Plan) → Alike p q → (v : ℕ) → count_of p v ≡ count_of q v
count_same p q a v = ap length (grains_same p q a v)

restrictable_same : (p q : Plan) → Alike p q → (v : ℕ) → is_restrictable p v ≡ is_restrictable q v
restrictable_same p q a v = ap (λ vs. is_restrictable_in (slice_get vs v)) a.vars

grain_same : (p q : Plan) → Alike p q → (v : ℕ) (test : Piece → Bool) (g : ℕ)
    → is_grain_with p v test g ≡ is_grain_with q v test g
grain_same p q a v test g = ap (λ gs. passes test (slice_get gs g)) (grains_same p q a v)

allows_same : (p q : Plan) → Alike p q → (v : ℕ) (restriction : Restriction) (piece : Piece)
    → allows p v restriction piece ≡ allows q v restriction piece
allows_same p q a v (Against r b) piece = rw (domain_at p q a v) refl
allows_same p q a v (OneOf pieces) piece = refl

rows_same : (p q : Plan) → Alike p q → (t : ℕ) → rows_of p t ≡ rows_of q t
rows_same p q a t = ap (λ ts. rows_in (slice_get ts t)) a.tables

rows_with_same : (p q : Plan) → Alike p q → (table : ℕ) (columns : List Binding) (v g : ℕ)
    → rows_with p table columns v g ≡ rows_with q table columns v g
rows_with_same p q a table columns v g =
    ap (λ rows. length (filter (has_grain p v (columns_of v columns) g) rows)) (rows_same p q a table)
    ∙ ap (λ gs. length (filter (with_grains gs) (rows_of q table))) (grains_same p q a v)
  where
    with_grains : List Piece → List Value → Bool
    with_grains gs row =
        list_all (λ column. cell_passes (λ b. passes (lies_in b) (slice_get gs g)) (slice_get row column.column))
        (columns_of v columns)

-- what rules need
acting_same : (p q : Plan) → Alike p q → (rule : Rule) → acting_size p rule ≡ acting_size q rule
acting_same p q a rule = ap (λ vs. length rule.slots + length (distinct vs)) (condition_same p q a rule.condition)

sides_same : (p q : Plan) → Alike p q → (s t : ℕ) → sides_size p s t ≡ sides_size q s t
sides_same p q a s t =
    ap (λ vs. length (distinct (vs ++ vars_of_term (slice_get p.terms t)))) (term_same p q a s)
    ∙ ap (λ vs. length (distinct (vars_of_term (slice_get q.terms s) ++ vs))) (term_same p q a t)

inferred_same : (p q : Plan) → Alike p q → (rule : Rule) (t : ℕ) → lone_inferred p rule t ≡ lone_inferred q rule t
inferred_same p q a rule t = ap (if_inferred rule) (lone_same p q a t)

side_grains_same : (p q : Plan) → Alike p q → (v : Option ℕ) → side_grains p v ≡ side_grains q v
side_grains_same p q a None = refl
side_grains_same p q a (Some v) =
    ap (λ n. if is_restrictable p v then 0 else n) (count_same p q a v)
    ∙ ap (λ b. if b then 0 else count_of q v) (restrictable_same p q a v)

side_same : (p q : Plan) → Alike p q → (rule : Rule) (s t v : ℕ) → is_side p rule s t v ≡ is_side q rule s t v
side_same p q a rule s t v =
    ap (λ o. is_this v o || is_this v (lone_inferred p rule t)) (inferred_same p q a rule s)
    ∙ ap (λ o. is_this v (lone_inferred q rule s) || is_this v o) (inferred_same p q a rule t)

grains_at_side : (p q : Plan) → Alike p q → (rule : Rule) (t : ℕ)
    → side_grains p (lone_inferred p rule t) ≡ side_grains q (lone_inferred q rule t)
grains_at_side p q a rule t =
    ap (side_grains p) (inferred_same p q a rule t) ∙ side_grains_same p q a (lone_inferred q rule t)

compare_same : (p q : Plan) → Alike p q → (rule : Rule) (s t : ℕ) → compare_bound p rule s t ≡ compare_bound q rule s t
compare_same p q a rule s t =
    four (acting_same p q a rule) (sides_same p q a s t) (grains_at_side p q a rule s) (grains_at_side p q a rule t)
  where
    four : {i j k l m n x y : ℕ} → i ≡ j → k ≡ l → m ≡ n → x ≡ y → (i + k) + (m + x) ≡ (j + l) + (n + y)
    four a b c d = rw (a, b, c, d) refl

equate_same : (p q : Plan) → Alike p q → (rule : Rule) (s t : ℕ) → equate_bound p rule s t ≡ equate_bound q rule s t
equate_same p q a rule s t = two (acting_same p q a rule) (sides_same p q a s t)
  where
    two : {i j k l : ℕ} → i ≡ j → k ≡ l → i + k ≡ j + l
    two a b = rw (a, b) refl

-- the number where a test holds, by equal tests and numbers
if_same : (b c : Bool) (m n : ℕ) → b ≡ c → m ≡ n → only_if b m ≡ only_if c n
if_same b c m n tests numbers = ap (λ x. only_if x m) tests ∙ ap (only_if c) numbers

both_same : (x : Bool) (b c : Bool) → b ≡ c → (x && b) ≡ (x && c)
both_same x b c e = ap (λ y. x && y) e

here_same : (p q : Plan) → Alike p q → (rule : Rule) (kind : Kind) (i : ℕ)
    → here_bound p rule kind i ≡ here_bound q rule kind i
here_same p q a rule (Among v restriction) i = refl
here_same p q a rule (Compare r s t) i = refl
here_same p q a rule (Equate s t) i = refl
here_same p q a rule (ByTable table columns) i = refl
here_same p q a rule Never i = refl
here_same p q a rule (Last v) i = refl
here_same p q a rule (Line j) i =
    ap (λ vs. only_if (i == j) (1 + length (distinct vs))) (condition_same p q a rule.condition)

out_same : (p q : Plan) → Alike p q → (rule : Rule) (kind : Kind) (w g : ℕ)
    → out_bound p rule kind w g ≡ out_bound q rule kind w g
out_same p q a rule (Among v restriction) w g =
    if_same _ _ _ _ (both_same ((v == w) && is_inferred rule v) _ _ (tests (restrictable_same p q a v) outside))
    (acting_same p q a rule)
  where
    tests : {b c d e : Bool} → b ≡ c → d ≡ e → (b && not d) ≡ (c && not e)
    tests b d = rw (b, d) refl

    outside : is_grain_with p v (allows p v restriction) g ≡ is_grain_with q v (allows q v restriction) g
    outside =
        ap (λ test. is_grain_with p v test g) (fun_ext (allows_same p q a v restriction))
        ∙ grain_same p q a v (allows q v restriction) g
out_same p q a rule (Compare r s t) w g =
    if_same _ _ _ _ (tests (side_same p q a rule s t w) (restrictable_same p q a w)) (compare_same p q a rule s t)
  where
    tests : {b c d e : Bool} → b ≡ c → d ≡ e → (b && d) ≡ (c && e)
    tests b d = rw (b, d) refl
out_same p q a rule (Equate s t) w g = refl
out_same p q a rule (ByTable table columns) w g =
    if_same _ _ _ _ (both_same (is_narrowed rule columns w) _ _ (restrictable_same p q a w))
    (sums (acting_same p q a rule) (rows_with_same p q a table columns w g))
  where
    sums : {i j k l : ℕ} → i ≡ j → k ≡ l → i + k ≡ j + l
    sums a b = rw (a, b) refl
out_same p q a rule Never w g = refl
out_same p q a rule (Last v) w g = refl
out_same p q a rule (Line i) w g = refl

is_same : (p q : Plan) → Alike p q → (rule : Rule) (kind : Kind) (w : ℕ)
    → is_bound p rule kind w ≡ is_bound q rule kind w
is_same p q a rule (Among v restriction) w =
    if_same _ _ _ _ (both_same ((v == w) && is_inferred rule v) _ _ (ap not (restrictable_same p q a v)))
    (sums (acting_same p q a rule) (count_same p q a v))
  where
    sums : {i j k l : ℕ} → i ≡ j → k ≡ l → i + k ≡ j + l
    sums a b = rw (a, b) refl
is_same p q a rule (Compare r s t) w =
    if_same _ _ _ _ (tests (side_same p q a rule s t w) (restrictable_same p q a w)) (compare_same p q a rule s t)
  where
    tests : {b c d e : Bool} → b ≡ c → d ≡ e → (b && not d) ≡ (c && not e)
    tests b d = rw (b, d) refl
is_same p q a rule (Equate s t) w = if_same _ _ _ _ (side_same p q a rule s t w) (equate_same p q a rule s t)
is_same p q a rule (ByTable table columns) w =
    if_same _ _ _ _ (both_same (is_narrowed rule columns w) _ _ (ap not (restrictable_same p q a w)))
    (sums (acting_same p q a rule) (ap length (rows_same p q a table)))
  where
    sums : {i j k l : ℕ} → i ≡ j → k ≡ l → i + k ≡ j + l
    sums a b = rw (a, b) refl
is_same p q a rule Never w = refl
is_same p q a rule (Last v) w = ap (only_if (v == w)) (count_same p q a v)
is_same p q a rule (Line i) w = refl

bound_same : (p q : Plan) → Alike p q → (place : Place) (rule : Rule) → bound_of p rule place ≡ bound_of q rule place
bound_same p q a (here_at i) rule = here_same p q a rule rule.kind i
bound_same p q a (out_at v g) rule = out_same p q a rule rule.kind v g
bound_same p q a (is_at v) rule = is_same p q a rule rule.kind v

kind_clash_same : (p q : Plan) → Alike p q → (rule : Rule) (kind : Kind)
    → kind_clash_bound p rule kind ≡ kind_clash_bound q rule kind
kind_clash_same p q a rule (Among v restriction) = rw (acting_same p q a rule, count_same p q a v) refl
kind_clash_same p q a rule (Compare r s t) = compare_same p q a rule s t
kind_clash_same p q a rule (Equate s t) = equate_same p q a rule s t
kind_clash_same p q a rule (ByTable table columns) = rw (acting_same p q a rule, rows_same p q a table) refl
kind_clash_same p q a rule Never = acting_same p q a rule
kind_clash_same p q a rule (Last v) = refl
kind_clash_same p q a rule (Line i) = refl

clash_same : (p q : Plan) → Alike p q → (rule : Rule) → clash_bound p rule ≡ clash_bound q rule
clash_same p q a rule = kind_clash_same p q a rule rule.kind

place_same : (p q : Plan) → Alike p q → (place : Place) → place_bound p place ≡ place_bound q place
place_same p q a place =
    ap (λ f. max (source_bound place) (greatest f p.rules)) (fun_ext (bound_same p q a place))
    ∙ ap (λ rules. max (source_bound place) (greatest (λ rule. bound_of q rule place) rules)) a.rules

places_of_same : (p q : Plan) → Alike p q → (v : ℕ) → places_of p v ≡ places_of q v
places_of_same p q a v = ap (λ n. map (out_at v) (numbers_below n) ++ is_at v ∷ []) (count_same p q a v)

places_same : (p q : Plan) → Alike p q → places p ≡ places q
places_same p q a =
    ap (λ slots. map here_at (drop 1 (numbers_below (length slots)))
    ++ flat_map (places_of p) (numbers_below (length p.vars))) a.slots
    ∙ ap (λ vars. map here_at (drop 1 (numbers_below (length q.slots)))
    ++ flat_map (places_of p) (numbers_below (length vars))) a.vars
    ∙ ap (λ f. map here_at (drop 1 (numbers_below (length q.slots))) ++ flat_map f (numbers_below (length q.vars)))
    (fun_ext (places_of_same p q a))

cells_same : (p q : Plan) → Alike p q → cell_bound p ≡ cell_bound q
cells_same p q a =
    sums
    (ap (λ f. sum_by f (places p)) (fun_ext (place_same p q a)) ∙ ap (sum_by (place_bound q)) (places_same p q a))
    (ap (λ f. greatest f p.rules) (fun_ext (clash_same p q a)) ∙ ap (greatest (clash_bound q)) a.rules)
  where
    sums : {i j k l : ℕ} → i ≡ j → k ≡ l → i + max 1 k ≡ j + max 1 l
    sums a b = rw (a, b) refl

atoms_same : (p q : Plan) → Alike p q → atom_count p ≡ atom_count q
atoms_same p q a =
    ap (λ slots. length slots + sum_by (λ v. count_of p v + 1) (numbers_below (length p.vars))) a.slots
    ∙ ap (λ vars. length q.slots + sum_by (λ v. count_of p v + 1) (numbers_below (length vars))) a.vars
    ∙ ap (λ f. length q.slots + sum_by (λ v. f v + 1) (numbers_below (length q.vars))) (fun_ext (count_same p q a))

-- the fault of these numbers of rules, atoms and cells
abbrev fault_by : ℕ → ℕ → ℕ → Option CompileFault
fault_by rules atoms cells =
    let last = if nat_lt most_cells cells then Some faults.TooManyCells else None in
    let later = if nat_lt most_atoms atoms then Some faults.TooManyAtoms else last in
    if nat_lt most_rules rules then Some faults.TooManyRules else later

-- two plans of one layout have the same faults of size
pub sizes_same : (layout : Layout) (drafts : Drafts) (tables : List VariantTable) (p q : Plan)
    → IsPlanOver layout drafts tables p → IsPlanOver layout drafts tables q → size_fault p ≡ size_fault q
sizes_same layout drafts tables p q a b =
    let same = alike layout drafts tables p q a b in
    ap (λ n. fault_by n (atom_count p) (cell_bound p)) (ap length same.rules)
    ∙ ap (λ n. fault_by (length q.rules) n (cell_bound p)) (atoms_same p q same)
    ∙ ap (fault_by (length q.rules) (atom_count q)) (cells_same p q same)

-- and need as many atoms and cells
pub counts_same : (layout : Layout) (drafts : Drafts) (tables : List VariantTable) (p q : Plan)
    → IsPlanOver layout drafts tables p → IsPlanOver layout drafts tables q
    → (atom_count p ≡ atom_count q) × (cell_bound p ≡ cell_bound q)
counts_same layout drafts tables p q a b =
    let same = alike layout drafts tables p q a b in (atoms_same p q same, cells_same p q same)
