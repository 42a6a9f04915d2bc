-- The numbers that conditions and rules of a plan put beside a variable, from those of their trees.
use Rattle.std.proofs.Common.{◌≡◌, ℕ, Bool, true, false, cond, List, [], ◌∷◌, ◌++◌, flat_map, Option, Some, None, refl}
use Rattle.std.proofs.Common.{sym, ap, ◌∙◌, subst}
use Rattle.std.specs.Prelude.{◌==◌, slice_get}
use Rattle.std.specs.List.{list_all}
use Rattle.std.proofs.lemmas.Bool.{eqb-true}
use Rattle.vc_value.specs.declared.decimal.Dec.{Dec}
use Rattle.vc_plan.specs.Cuts.{beside_lone, binding_cuts, cell_number, condition_cuts, ends_of, is_cut_at, kind_cuts}
use Rattle.vc_plan.specs.Cuts.{literal_in, restriction_cuts}
use Rattle.vc_plan.specs.Domains.{grains_of}
use Rattle.vc_plan.specs.Restrictions.{lone_in}
use Rattle.vc_plan.specs.TableRows.{rows_of}
use Rattle.vc_plan.specs.declared.conditions.Condition.{Condition as StoredCondition}
use Rattle.vc_plan.specs.declared.conditions.Condition.TheVariants as conditions
use Rattle.vc_plan.specs.declared.plans.Plan.{Plan}
use Rattle.vc_plan.specs.declared.rules.Binding.{Binding}
use Rattle.vc_plan.specs.declared.rules.Operand.{Operand}
use Rattle.vc_plan.specs.declared.rules.Operand.TheVariants as given
use Rattle.vc_plan.specs.declared.terms.Term.{Term as StoredTerm}
use Rattle.vc_plan.specs.declared.terms.Term.TheVariants as terms
use Rattle.vc_compile_plan.specs.Numbering.{kind_from}
use Rattle.vc_compile_plan.specs.Rules.{Demand, among, by_table, compare, equate, last, line, never}
use Rattle.vc_compile_plan.specs.Trees as trees
use Rattle.vc_compile_plan.specs.Trees.{condition_of, term_of}
use Rattle.vc_compile_valid.proofs.EachLaws.{Each, each_passes}
use Rattle.vc_compile_valid.proofs.ListLaws.{all_joined}
use Rattle.vc_compile_origins.proofs.RelationLaws.{IsOfRelations}
use Rattle.vc_compile_cutting.proofs.MarkLaws.{IsCutAt}
use Rattle.vc_compile_cutting.proofs.SideLaws.{Beside, literal_tree, lone_tree}

-- what a tree puts beside a variable cuts it
abbrev pub CutsIn : Plan → trees.Condition → Type 0
CutsIn plan trees.Always = Unit {0}
CutsIn plan (trees.Compared r a b) = Beside plan (lone_tree a) (literal_tree b)
    × Beside plan (lone_tree b) (literal_tree a)
CutsIn plan (trees.IsIn v pieces) = Each (IsCutAt plan v) (flat_map ends_of pieces)
CutsIn plan (trees.Specified v) = Unit {0}
CutsIn plan (trees.Holds set text) = Unit {0}
CutsIn plan (trees.Filled set) = Unit {0}
CutsIn plan (trees.Not c) = CutsIn plan c
CutsIn plan (trees.And c d) = CutsIn plan c × CutsIn plan d
CutsIn plan (trees.Or c d) = CutsIn plan c × CutsIn plan d

pub of_cuts : (plan : Plan) → IsOfRelations (CutsIn plan)
of_cuts plan = record {
  always = tt;
  specified = λ v. tt;
  holds = λ set text. tt;
  filled = λ set. tt;
  denied = λ c h. h;
  both = λ c d h k. (h, k);
  either = λ c d h k. (h, k);
}

-- whether all of the numbers cut it
abbrev pub all_cut : Plan → ℕ → List Dec → Bool
all_cut plan v numbers = list_all (λ n. list_all (is_cut_at n) (grains_of plan v)) numbers

pub cut_lone : (plan : Plan) (v : ℕ) (o : Option ℕ) (numbers : List Dec) → Beside plan o numbers
    → all_cut plan v (beside_lone v o numbers) ≡ true
cut_lone plan v None numbers h = refl
cut_lone plan v (Some w) numbers h = by (v == w) refl
  where
    by : (b : Bool) → (v == w) ≡ b → all_cut plan v (cond b numbers []) ≡ true
    by true e =
        each_passes (IsCutAt plan v) (λ n. list_all (is_cut_at n) (grains_of plan v)) (λ n k. k) numbers
        (subst (λ u. Each (IsCutAt plan u) numbers) (sym (eqb-true v w e)) h)
    by false e = refl

lone_same : (t : StoredTerm) → lone_in (Some t) ≡ lone_tree (term_of t)
lone_same (terms.Literal a) = refl
lone_same (terms.Read v) = refl
lone_same (terms.PartSum slot c) = refl
lone_same (terms.PartCount slot) = refl
lone_same (terms.Applied' function p a) = refl
lone_same (terms.Joined' operator p a q b) = refl

number_same : (t : StoredTerm) → literal_in t ≡ literal_tree (term_of t)
number_same (terms.Literal a) = refl
number_same (terms.Read v) = refl
number_same (terms.PartSum slot c) = refl
number_same (terms.PartCount slot) = refl
number_same (terms.Applied' function p a) = refl
number_same (terms.Joined' operator p a q b) = refl

side_cut : (plan : Plan) (v : ℕ) (a b : StoredTerm) → Beside plan (lone_tree (term_of a)) (literal_tree (term_of b))
    → all_cut plan v (beside_lone v (lone_in (Some a)) (literal_in b)) ≡ true
side_cut plan v a b h =
    ap (λ o. all_cut plan v (beside_lone v o (literal_in b))) (lone_same a)
    ∙ ap (λ ns. all_cut plan v (beside_lone v (lone_tree (term_of a)) ns)) (number_same b)
    ∙ cut_lone plan v (lone_tree (term_of a)) (literal_tree (term_of b)) h

both_cut : (plan : Plan) (v : ℕ) (xs ys : List Dec) → all_cut plan v xs ≡ true → all_cut plan v ys ≡ true
    → all_cut plan v (xs ++ ys) ≡ true
both_cut plan v xs ys h k = all_joined (λ n. list_all (is_cut_at n) (grains_of plan v)) xs ys h k

pub condition_cut : (plan : Plan) (v : ℕ) (c : StoredCondition) → CutsIn plan (condition_of c)
    → all_cut plan v (condition_cuts v c) ≡ true
condition_cut plan v conditions.Always h = refl
condition_cut plan v (conditions.Compared r a b) h =
    both_cut plan v (beside_lone v (lone_in (Some a)) (literal_in b)) (beside_lone v (lone_in (Some b)) (literal_in a))
    (side_cut plan v a b h.0) (side_cut plan v b a h.1)
condition_cut plan v (conditions.IsIn w pieces) h = cut_lone plan v (Some w) (flat_map ends_of pieces) h
condition_cut plan v (conditions.Specified w) h = refl
condition_cut plan v (conditions.Holds set text) h = refl
condition_cut plan v (conditions.Filled set) h = refl
condition_cut plan v (conditions.Not' p c) h = condition_cut plan v c h
condition_cut plan v (conditions.And' p c q d) h =
    both_cut plan v (condition_cuts v c) (condition_cuts v d) (condition_cut plan v c h.0) (condition_cut plan v d h.1)
condition_cut plan v (conditions.Or' p c q d) h =
    both_cut plan v (condition_cuts v c) (condition_cuts v d) (condition_cut plan v c h.0) (condition_cut plan v d h.1)

-- a rule's demand
abbrev pub CutsGiven : Plan → ℕ → ℕ → Operand → Type 0
CutsGiven plan table column (given.Constant a) = Unit {0}
CutsGiven plan table column (given.Variable v) =
    Each (IsCutAt plan v) (flat_map (λ row. cell_number (slice_get row column)) (rows_of plan table))

abbrev pub CutsBound : Plan → ℕ → Binding → Type 0
CutsBound plan table binding = CutsGiven plan table binding.column binding.operand

abbrev pub CutsDemanded : Plan → Demand → Type 0
CutsDemanded plan (among v restriction) = Each (IsCutAt plan v) (restriction_cuts plan v restriction)
CutsDemanded plan (compare relation left right) = Unit {0}
CutsDemanded plan (equate left right) = Unit {0}
CutsDemanded plan (by_table table columns) = Each (CutsBound plan table) columns
CutsDemanded plan never = Unit {0}
CutsDemanded plan (last v) = Unit {0}
CutsDemanded plan (line i) = Unit {0}

binding_cut : (plan : Plan) (v table column : ℕ) (o : Operand) → CutsGiven plan table column o
    → all_cut plan v (binding_cuts plan table v (record { column = column; operand = o })) ≡ true
binding_cut plan v table column (given.Constant a) h = refl
binding_cut plan v table column (given.Variable w) h =
    cut_lone plan v (Some w) (flat_map (λ row. cell_number (slice_get row column)) (rows_of plan table)) h

bindings_cut : (plan : Plan) (v table : ℕ) (columns : List Binding) → Each (CutsBound plan table) columns
    → all_cut plan v (flat_map (binding_cuts plan table v) columns) ≡ true
bindings_cut plan v table [] h = refl
bindings_cut plan v table (b ∷ columns) h =
    both_cut plan v (binding_cuts plan table v b) (flat_map (binding_cuts plan table v) columns)
    (binding_cut plan v table b.column b.operand h.0) (bindings_cut plan v table columns h.1)

pub demand_cut : (plan : Plan) (v t : ℕ) (d : Demand) → CutsDemanded plan d
    → all_cut plan v (kind_cuts plan v (kind_from t d)) ≡ true
demand_cut plan v t (among w restriction) h = cut_lone plan v (Some w) (restriction_cuts plan w restriction) h
demand_cut plan v t (compare relation left right) h = refl
demand_cut plan v t (equate left right) h = refl
demand_cut plan v t (by_table table columns) h = bindings_cut plan v table columns h
demand_cut plan v t never h = refl
demand_cut plan v t (last w) h = refl
demand_cut plan v t (line i) h = refl
