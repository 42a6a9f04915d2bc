-- Conditions and demands without a fault put beside variables only what their dependency marks.
use Rattle.std.proofs.Common.{◌≡◌, ℕ, zero, suc, ◌+◌, false, not, ◌&&◌, List, [], ◌∷◌, ◌++◌, map, flat_map, Option}
use Rattle.std.proofs.Common.{Some, None, refl, sym, ap, ◌∙◌, arith, subst, if◌then◌else◌}
use Rattle.std.specs.Prelude.{slice_get}
use Rattle.std.specs.List.{list_all}
use Rattle.vc_value.specs.declared.decimal.Dec.{Dec}
use Rattle.vc_value.specs.declared.table_header.Domain.{Domain}
use Rattle.vc_value.specs.declared.table_header.Domain.TheVariants as domains
use Rattle.vc_value.specs.declared.value.Value.{Value}
use Rattle.vc_value.specs.declared.value.Value.TheVariants as values
use Rattle.vc_value.specs.Millionths.{rounded}
use Rattle.vc_model_parts.specs.Headers as headers
use Rattle.vc_model_parts.specs.declared.parts.Model.{Model}
use Rattle.vc_model_parts.specs.declared.parts.Table as declared
use Rattle.vc_plan.specs.Cuts.{cell_number, is_cut_at, number_at, restriction_cuts}
use Rattle.vc_plan.specs.Domains.{decimals_in, decimals_of, domain_of, grains_in}
use Rattle.vc_plan.specs.Pieces.{turned}
use Rattle.vc_plan.specs.Restrictions.{rounded_value}
use Rattle.vc_plan.specs.TableRows.{rows_of}
use Rattle.vc_plan.specs.TableRows as table_rows
use Rattle.vc_plan.specs.declared.plans.Plan.{Plan}
use Rattle.vc_plan.specs.declared.plans.Var.{Var}
use Rattle.vc_plan.specs.declared.rules.Restriction.TheVariants.{Against}
use Rattle.vc_syntax_tree.specs.declared.Operand.{Operand}
use Rattle.vc_syntax_tree.specs.declared.Relator.{Relator}
use Rattle.vc_syntax_tree.specs.declared.Relator.TheVariants as relators
use Rattle.vc_syntax_tree.specs.Trees as syntax
use Rattle.vc_table.specs.declared.table.VariantTable.{VariantTable}
use Rattle.vc_types.specs.Occurrences.{is_literal, operands_of, uses_of_relation, uses_of_term, values_in}
use Rattle.vc_types.specs.PlaceFaults.{is_computed, is_operand}
use Rattle.vc_compile_plan.specs.Conditions.{relation_of}
use Rattle.vc_compile_plan.specs.Cuts as cuts
use Rattle.vc_compile_plan.specs.Cuts.{all_marks, binding_marks, call_marks, cell_numbers, characteristic_of}
use Rattle.vc_compile_plan.specs.Cuts.{cut_domain, cuts_at, item_numbers, literal_number, marks_at, marks_of, number_in}
use Rattle.vc_compile_plan.specs.Cuts.{relation_marks, restriction_marks, rounded_mark}
use Rattle.vc_compile_plan.specs.Layouts.{layout_of}
use Rattle.vc_compile_plan.specs.PlanOf.{IsPlanOf}
use Rattle.vc_compile_plan.specs.Rules.{binding_at, given_operand, of_left_operand, of_right_operand, of_terms}
use Rattle.vc_compile_plan.specs.Rules.{relation_demand}
use Rattle.vc_compile_plan.specs.Sites.{Site, characteristic_in, var_meant}
use Rattle.vc_compile_plan.specs.Tables.{cell_in, column_cells, column_number, rows_in, table_from, table_number}
use Rattle.vc_compile_plan.specs.Tables.{tables_from}
use Rattle.vc_compile_plan.specs.Terms.{literal_of, lone_of, term_at}
use Rattle.vc_compile_valid.specs.Domains.{HasLists}
use Rattle.vc_compile_valid.proofs.DomainLaws.{var_is}
use Rattle.vc_compile_valid.proofs.EachLaws.{Each, each_joined, each_more}
use Rattle.vc_compile_valid.proofs.EntryLaws.{each_unmapped}
use Rattle.vc_compile_meant.proofs.FaultLaws.{IsUsed, each_split, each_unflat}
use Rattle.vc_compile_origins.proofs.RelationLaws.{HoldsOfRelations}
use Rattle.vc_compile_origins.proofs.TableLaws.{planned_table}
use Rattle.vc_compile_sizes.proofs.SizeLaws.{operands_known, sides_known}
use Rattle.vc_compile_sizes.proofs.TermSizeLaws.{IsKnown, var_meant_is}
use Rattle.vc_compile_cutting.proofs.MarkLaws.{Cuts, IsCutAt}
use Rattle.vc_compile_cutting.proofs.NumberLaws.{CutsBound, CutsDemanded, CutsGiven, CutsIn}
use Rattle.vc_compile_cutting.proofs.SideLaws.{Beside, beside_lone, cut_meant, ends_listed, literal_same, lone_tree}
use Rattle.vc_compile_cutting.proofs.SideLaws.{marks_meant, named_is}

-- a relation of a condition whose operands are used, and whose marks cut
abbrev pub IsMarked : Model → Plan → Site → syntax.Relation → Type 0
IsMarked model plan site r =
    Each (IsUsed site.setting) (uses_of_relation r) × Each (Cuts plan) (relation_marks model site.setting.variables r)

pub relations_cut : (model : Model) (tables : List VariantTable) (plan : Plan) → IsPlanOf model tables plan
    → (site : Site)
    → site.setting.model ≡ model → HoldsOfRelations (CutsIn plan) (IsMarked model plan site) (layout_of model) site
relations_cut model tables plan is site of = record {
  compared = λ left relator right h single.
      let known = sides_known site (syntax.Compared left relator right) h.0 in
      let marks = each_split (Cuts plan) (marks_of model site.setting.variables (lone_of left) (literal_number right))
      (marks_of model site.setting.variables (lone_of right) (literal_number left)) h.1 in (
        subst (Beside plan (lone_tree (term_at (layout_of model) site left))) (sym (literal_same model site right))
            (beside_lone model tables plan is site of left known.0 (literal_number right) marks.0),
        subst (Beside plan (lone_tree (term_at (layout_of model) site right))) (sym (literal_same model site left))
            (beside_lone model tables plan is site of right known.1.0 (literal_number left) marks.1),
      );
  listed = λ operand items h single.
      let used = h.0.0 in
      ends_listed (IsCutAt plan (var_meant (layout_of model) site operand)) (layout_of model).texts items
      (marks_meant model tables plan is site of operand (record { c = used.c; means = used.means })
      (flat_map item_numbers items) h.1);
}

-- the number of a literal, whatever its texts
value_numbers : (a : Value) → number_in (Some a) ≡ number_at a
value_numbers (values.Text t) = refl
value_numbers (values.Num a) = refl

texts_apart : (texts : List (List ℕ)) (t : syntax.Term) → number_in (literal_of texts t) ≡ literal_number t
texts_apart texts (syntax.Number leaf) = refl
texts_apart texts (syntax.Text leaf) = refl
texts_apart texts (syntax.Operand operand) = refl
texts_apart texts (syntax.Negated t) = refl
texts_apart texts (syntax.Combined left operator right) = refl
texts_apart texts (syntax.Applied function t) = refl
texts_apart texts (syntax.SumOfParts name) = refl
texts_apart texts syntax.CountOfParts = refl

literal_numbers : (texts : List (List ℕ)) (t : syntax.Term) (a : Value) → literal_of texts t ≡ Some a
    → literal_number t ≡ number_at a
literal_numbers texts t a e = sym (texts_apart texts t) ∙ ap number_in e ∙ value_numbers a

lone_known : (site : Site) (t : syntax.Term) (operand : Operand) → lone_of t ≡ Some operand
    → Each (IsKnown site) (operands_of t)
    → IsKnown site operand
lone_known site (syntax.Number leaf) operand e h = absurd (cc)
lone_known site (syntax.Text leaf) operand e h = absurd (cc)
lone_known site (syntax.Operand o) operand e h = let same : o ≡ operand = cc in subst (IsKnown site) same h.0
lone_known site (syntax.Negated t) operand e h = absurd (cc)
lone_known site (syntax.Combined left operator right) operand e h = absurd (cc)
lone_known site (syntax.Applied function t) operand e h = absurd (cc)
lone_known site (syntax.SumOfParts name) operand e h = absurd (cc)
lone_known site syntax.CountOfParts operand e h = absurd (cc)

-- a variable's decimals are those of its characteristic
decimals_kept : (numbers : List Dec) (d : Domain) → decimals_in (Some (cut_domain numbers d)) ≡ decimals_in (Some d)
decimals_kept numbers (domains.Texts texts) = refl
decimals_kept numbers (domains.Nums decimals grains) = refl

abbrev rounded_at : ℕ → Dec → Dec
rounded_at decimals n = record { millionths = rounded decimals n.millionths }

rounded_meant : (model : Model) (tables : List VariantTable) (plan : Plan) → IsPlanOf model tables plan → HasLists plan
    → (site : Site)
    → site.setting.model ≡ model → (operand : Operand) → IsKnown site operand → (numbers : List Dec)
    → Each (Cuts plan) (map (rounded_mark model) (marks_of model site.setting.variables (Some operand) numbers))
    → Each (λ n. IsCutAt plan (var_meant (layout_of model) site operand)
    (rounded_at (decimals_of plan (var_meant (layout_of model) site operand)) n))
    numbers
rounded_meant model tables plan is lists site of operand known numbers h =
    each_more (λ n. Cuts plan (rounded_mark model (record { characteristic = known.c; number = n })))
    (λ n. IsCutAt plan v (rounded_at (decimals_of plan v) n)) one numbers
    (each_unmapped (λ mark. Cuts plan (rounded_mark model mark)) (λ n. record { characteristic = known.c; number = n })
    numbers
    (each_unmapped (Cuts plan) (rounded_mark model) (marks_at (Some known.c) numbers)
    (subst (λ o. Each (Cuts plan) (map (rounded_mark model) (marks_at o numbers))) named h)))
  where
    v : ℕ
    v = var_meant (layout_of model) site operand

    named : characteristic_of model site.setting.variables operand ≡ Some known.c
    named =
        ap (λ m. characteristic_of m site.setting.variables operand) (sym of)
        ∙ named_is site.setting.model site.setting.place site.setting.variables operand known.c known.means

    one : (n : Dec) → Cuts plan (rounded_mark model (record { characteristic = known.c; number = n }))
        → IsCutAt plan v (rounded_at (decimals_of plan v) n)
    one n cut = by (slice_get plan.vars v) refl
      where
        by : (o : Option Var) → slice_get plan.vars v ≡ o → IsCutAt plan v (rounded_at (decimals_of plan v) n)
        by None e = ap (λ o. list_all (is_cut_at (rounded_at (decimals_of plan v) n)) (grains_in (domain_of plan o))) e
        by (Some x) e =
            let var = var_is model tables plan is lists v x e in
            let own
            = var_meant_is model site operand x (ap (λ xs. slice_get xs v) (sym is.vars) ∙ e)
            ∙ ap characteristic_in known.means in
            let same : decimals_of plan v ≡ cuts.decimals_of (slice_get model.characteristics known.c) =
            ap (λ o. decimals_in (domain_of plan o)) e ∙ ap decimals_in var.domain
            ∙ decimals_kept (cuts_at (all_marks (layout_of model) tables) (0 + x.characteristic))
            (headers.domain_of var.known.x.values)
            ∙ ap cuts.decimals_of (sym var.known.at)
            ∙ ap (λ c. cuts.decimals_of (slice_get model.characteristics c)) own in
            subst (λ d. IsCutAt plan v (rounded_at d n)) (sym same)
            (cut_meant model tables plan is site operand known.c known.means
            (rounded_at (cuts.decimals_of (slice_get model.characteristics known.c)) n) cut)

-- a lone operand against a literal
twice_cut : (plan : Plan) (v : ℕ) (a : Value) → Each (IsCutAt plan v) (number_at a)
    → Each (IsCutAt plan v) (number_at a ++ number_at a)
twice_cut plan v a h = each_joined (IsCutAt plan v) (number_at a) (number_at a) h h

equal_cut : (plan : Plan) (v : ℕ) (a : Value) → Each (IsCutAt plan v) (number_at a)
    → Each (λ n. IsCutAt plan v (rounded_at (decimals_of plan v) n)) (number_at a)
    → Each (IsCutAt plan v) (number_at a ++ number_at (rounded_value (decimals_of plan v) a))
equal_cut plan v (values.Text t) h k = tt
equal_cut plan v (values.Num n) h k = (h.0, (k.0, tt))

-- what is marked of one side
record SideMarked (model : Model) (plan : Plan) (site : Site) (relator : Relator) (operand : Operand)
    (numbers : List Dec) : Type 0 where
  known : IsKnown site operand
  marks : Each (Cuts plan) (marks_of model site.setting.variables (Some operand) numbers)
  equal : relator ≡ relators.Equal
      → Each (Cuts plan) (map (rounded_mark model) (marks_of model site.setting.variables (Some operand) numbers))

side_numbers : (model : Model) (tables : List VariantTable) (plan : Plan) → IsPlanOf model tables plan → (site : Site)
    → site.setting.model ≡ model → (relator : Relator) (operand : Operand) (t : syntax.Term) (a : Value)
    → literal_of (layout_of model).texts t ≡ Some a → SideMarked model plan site relator operand (literal_number t)
    → Each (IsCutAt plan (var_meant (layout_of model) site operand)) (number_at a)
side_numbers model tables plan is site of relator operand t a e side =
    subst (Each (IsCutAt plan (var_meant (layout_of model) site operand)))
    (literal_numbers (layout_of model).texts t a e)
    (marks_meant model tables plan is site of operand side.known (literal_number t) side.marks)

side_rounded : (model : Model) (tables : List VariantTable) (plan : Plan) → IsPlanOf model tables plan → HasLists plan
    → (site : Site)
    → site.setting.model ≡ model → (operand : Operand) (t : syntax.Term) (a : Value)
    → literal_of (layout_of model).texts t ≡ Some a
    → SideMarked model plan site relators.Equal operand (literal_number t)
    → Each (λ n. IsCutAt plan (var_meant (layout_of model) site operand)
    (rounded_at (decimals_of plan (var_meant (layout_of model) site operand)) n))
    (number_at a)
side_rounded model tables plan is lists site of operand t a e side =
    let v = var_meant (layout_of model) site operand in
    subst (Each (λ n. IsCutAt plan v (rounded_at (decimals_of plan v) n)))
    (literal_numbers (layout_of model).texts t a e)
    (rounded_meant model tables plan is lists site of operand side.known (literal_number t) (side.equal refl))

left_cut : (model : Model) (tables : List VariantTable) (plan : Plan) → IsPlanOf model tables plan → HasLists plan
    → (site : Site)
    → site.setting.model ≡ model → (relator : Relator) (operand : Operand) (t : syntax.Term) (a : Value)
    → literal_of (layout_of model).texts t ≡ Some a → SideMarked model plan site relator operand (literal_number t)
    → (Each (IsCutAt plan (var_meant (layout_of model) site operand))
    (restriction_cuts plan (var_meant (layout_of model) site operand) (Against (relation_of relator) a)))
    × (Each (IsCutAt plan (var_meant (layout_of model) site operand))
    (restriction_cuts plan (var_meant (layout_of model) site operand) (Against (turned (relation_of relator)) a)))
left_cut model tables plan is lists site of relators.Equal operand t a e side =
    let v = var_meant (layout_of model) site operand in
    let cut = equal_cut plan v a (side_numbers model tables plan is site of relators.Equal operand t a e side)
    (side_rounded model tables plan is lists site of operand t a e side) in (cut, cut)
left_cut model tables plan is lists site of relators.Unequal operand t a e side =
    let cut = twice_cut plan (var_meant (layout_of model) site operand) a
    (side_numbers model tables plan is site of relators.Unequal operand t a e side) in (cut, cut)
left_cut model tables plan is lists site of relators.Less operand t a e side =
    let cut = twice_cut plan (var_meant (layout_of model) site operand) a
    (side_numbers model tables plan is site of relators.Less operand t a e side) in (cut, cut)
left_cut model tables plan is lists site of relators.LessEqual operand t a e side =
    let cut = twice_cut plan (var_meant (layout_of model) site operand) a
    (side_numbers model tables plan is site of relators.LessEqual operand t a e side) in (cut, cut)
left_cut model tables plan is lists site of relators.Greater operand t a e side =
    let cut = twice_cut plan (var_meant (layout_of model) site operand) a
    (side_numbers model tables plan is site of relators.Greater operand t a e side) in (cut, cut)
left_cut model tables plan is lists site of relators.GreaterEqual operand t a e side =
    let cut = twice_cut plan (var_meant (layout_of model) site operand) a
    (side_numbers model tables plan is site of relators.GreaterEqual operand t a e side) in (cut, cut)

-- a demanded relation
abbrev pub IsMarkedTwice : Model → Plan → Site → syntax.Relation → Type 0
IsMarkedTwice model plan site r =
    Each (IsUsed site.setting) (uses_of_relation r)
    × Each (Cuts plan) (restriction_marks model site.setting.variables r)

no_literal : (plan : Plan) (model : Model) (site : Site) (relator : Relator) (left right : syntax.Term)
    → CutsDemanded plan (of_terms (layout_of model) site relator left right)
no_literal plan model site relators.Equal left right = tt
no_literal plan model site relators.Unequal left right = tt
no_literal plan model site relators.Less left right = tt
no_literal plan model site relators.LessEqual left right = tt
no_literal plan model site relators.Greater left right = tt
no_literal plan model site relators.GreaterEqual left right = tt

-- the rounded marks of an equation
if_equation : (model : Model) (plan : Plan) (left : syntax.Term) (relator : Relator) (right : syntax.Term)
    (marks : List cuts.Mark)
    → Each (Cuts plan) (if cuts.is_equation (syntax.Compared left relator right)
    then map (rounded_mark model) marks else [])
    → relator ≡ relators.Equal → Each (Cuts plan) (map (rounded_mark model) marks)
if_equation model plan left relator right marks h e =
    subst (λ r. Each (Cuts plan)
    (if cuts.is_equation (syntax.Compared left r right) then map (rounded_mark model) marks else [])) e h

map_joined : (model : Model) (xs ys : List cuts.Mark)
    → map (rounded_mark model) (xs ++ ys) ≡ map (rounded_mark model) xs ++ map (rounded_mark model) ys
map_joined model [] ys = refl
map_joined model (x ∷ xs) ys = ap (λ l. rounded_mark model x ∷ l) (map_joined model xs ys)

pub relation_demanded : (model : Model) (tables : List VariantTable) (plan : Plan) → IsPlanOf model tables plan
    → HasLists plan → (site : Site)
    → site.setting.model ≡ model → (r : syntax.Relation) → IsMarkedTwice model plan site r
    → CutsDemanded plan (relation_demand (layout_of model) site r)
relation_demanded model tables plan is lists site of (syntax.Within operand listed) h =
    let used = h.0.0 in
    let marks
    = each_split (Cuts plan) (relation_marks model site.setting.variables (syntax.Within operand listed)) [] h.1 in
    ends_listed (IsCutAt plan (var_meant (layout_of model) site operand)) (layout_of model).texts listed
    (marks_meant model tables plan is site of operand (record { c = used.c; means = used.means })
    (flat_map item_numbers listed) marks.0)
relation_demanded model tables plan is lists site of (syntax.Compared left relator right) h =
    of_left (lone_of left) refl (literal_of texts right) refl
  where
    texts : List (List ℕ)
    texts = (layout_of model).texts

    first : List cuts.Mark
    first = marks_of model site.setting.variables (lone_of left) (literal_number right)

    second : List cuts.Mark
    second = marks_of model site.setting.variables (lone_of right) (literal_number left)

    known : Each (λ t. Each (IsKnown site) (operands_of t)) (left ∷ right ∷ [])
    known = sides_known site (syntax.Compared left relator right) h.0

    marks : Each (Cuts plan) (first ++ second)
        × Each (Cuts plan) (if cuts.is_equation (syntax.Compared left relator right)
        then map (rounded_mark model) (first ++ second) else [])
    marks = each_split (Cuts plan) (first ++ second)
        (if cuts.is_equation (syntax.Compared left relator right)
        then map (rounded_mark model) (first ++ second) else []) h.1

    plain : Each (Cuts plan) first × Each (Cuts plan) second
    plain = each_split (Cuts plan) first second marks.0

    equal : relator ≡ relators.Equal
        → Each (Cuts plan) (map (rounded_mark model) first) × Each (Cuts plan) (map (rounded_mark model) second)
    equal e =
        each_split (Cuts plan) (map (rounded_mark model) first) (map (rounded_mark model) second)
        (subst (Each (Cuts plan)) (map_joined model first second)
        (if_equation model plan left relator right (first ++ second) marks.1 e))

    side : (o : Option Operand) (operand : Operand) (numbers : List Dec) → o ≡ Some operand → IsKnown site operand
        → Each (Cuts plan) (marks_of model site.setting.variables o numbers)
        → (relator ≡ relators.Equal
        → Each (Cuts plan) (map (rounded_mark model) (marks_of model site.setting.variables o numbers)))
        → SideMarked model plan site relator operand numbers
    side o operand numbers e k ms es = record {
      known = k;
      marks = subst (λ p. Each (Cuts plan) (marks_of model site.setting.variables p numbers)) e ms;
      equal = λ q. subst (λ p. Each (Cuts plan)
          (map (rounded_mark model) (marks_of model site.setting.variables p numbers))) e (es q);
    }

    of_right : (o : Option Operand) → lone_of right ≡ o → (b : Option Value) → literal_of texts left ≡ b
        → CutsDemanded plan (of_right_operand (layout_of model) site o b relator left right)
    of_right None e b f = no_literal plan model site relator left right
    of_right (Some operand) e None f = no_literal plan model site relator left right
    of_right (Some operand) e (Some a) f =
        (left_cut model tables plan is lists site of relator operand left a f
        (side (lone_of right) operand (literal_number left) e (lone_known site right operand e known.1.0) plain.1
        (λ q. (equal q).1))).1

    of_left : (o : Option Operand) → lone_of left ≡ o → (b : Option Value) → literal_of texts right ≡ b
        → CutsDemanded plan (of_left_operand (layout_of model) site o b relator left right)
    of_left None e b f = of_right (lone_of right) refl (literal_of texts left) refl
    of_left (Some operand) e None f = no_literal plan model site relator left right
    of_left (Some operand) e (Some a) f =
        (left_cut model tables plan is lists site of relator operand right a f
        (side (lone_of left) operand (literal_number right) e (lone_known site left operand e known.0) plain.0
        (λ q. (equal q).0))).0

-- the cells of a column of a table
cells_same : (k : ℕ) (rows : List (List Value))
    → flat_map cell_numbers (flat_map (λ row. cell_in (slice_get row k)) rows)
    ≡ flat_map (λ row. cell_number (slice_get row k)) rows
cells_same k [] = refl
cells_same k (row ∷ rows) = by (slice_get row k) (cells_same k rows)
  where
    by : (o : Option Value)
        → flat_map cell_numbers (flat_map (λ row. cell_in (slice_get row k)) rows)
        ≡ flat_map (λ row. cell_number (slice_get row k)) rows
        → flat_map cell_numbers (cell_in o ++ flat_map (λ row. cell_in (slice_get row k)) rows)
        ≡ cell_number o ++ flat_map (λ row. cell_number (slice_get row k)) rows
    by None e = e
    by (Some (values.Text t)) e = e
    by (Some (values.Num a)) e = ap (λ ns. a ∷ ns) e

no_table : (tables : List VariantTable) (t : ℕ) (xs : List declared.Table) (k : ℕ) → slice_get xs k ≡ None
    → slice_get (tables_from tables t xs) k ≡ None
no_table tables t [] k e = refl
no_table tables t (x ∷ xs) zero e = absurd (cc)
no_table tables t (x ∷ xs) (suc k) e = no_table tables (suc t) xs k e

cells_cut : (model : Model) (tables : List VariantTable) (plan : Plan) → IsPlanOf model tables plan
    → (P : Dec → Type 0) (t k : ℕ)
    → Each P (flat_map cell_numbers (column_cells tables t k))
    → Each P (flat_map (λ row. cell_number (slice_get row k)) (rows_of plan t))
cells_cut model tables plan is P t k h = by (slice_get model.tables t) refl
  where
    no_front : (n : ℕ) → 0 + n ≡ n
    no_front n = omega arith

    by : (o : Option declared.Table) → slice_get model.tables t ≡ o
        → Each P (flat_map (λ row. cell_number (slice_get row k)) (rows_of plan t))
    by None e =
        subst (λ o. Each P (flat_map (λ row. cell_number (slice_get row k)) (table_rows.rows_in o)))
        (sym (ap (λ ts. slice_get ts t) is.tables ∙ no_table tables 0 model.tables t e)) tt
    by (Some tb) e =
        subst (λ o. Each P (flat_map (λ row. cell_number (slice_get row k)) (table_rows.rows_in o)))
        (sym (ap (λ ts. slice_get ts t) is.tables ∙ planned_table tables 0 model.tables t tb e
        ∙ ap (λ n. Some (table_from tb (slice_get tables n))) (no_front t)))
        (subst (Each P) (cells_same k (rows_in (slice_get tables t))) h)

-- a table call
binding_cut : (model : Model) (tables : List VariantTable) (plan : Plan) → IsPlanOf model tables plan → (site : Site)
    → site.setting.model ≡ model → (t k : ℕ) (value : syntax.Term) → Each (IsKnown site) (operands_of value)
    → (not (is_literal value) && not (is_operand value)) ≡ false
    → Each (Cuts plan) (marks_of model site.setting.variables (lone_of value)
    (flat_map cell_numbers (column_cells tables t k)))
    → CutsGiven plan t k
    (given_operand (layout_of model) site (literal_of (layout_of model).texts value) (lone_of value))
binding_cut model tables plan is site of t k (syntax.Number leaf) known right h = tt
binding_cut model tables plan is site of t k (syntax.Text leaf) known right h = tt
binding_cut model tables plan is site of t k (syntax.Operand operand) known right h =
    cells_cut model tables plan is (IsCutAt plan (var_meant (layout_of model) site operand)) t k
    (marks_meant model tables plan is site of operand known.0 (flat_map cell_numbers (column_cells tables t k)) h)
binding_cut model tables plan is site of t k (syntax.Negated (syntax.Number leaf)) known right h = tt
binding_cut model tables plan is site of t k (syntax.Negated (syntax.Text leaf)) known right h = absurd (cc)
binding_cut model tables plan is site of t k (syntax.Negated (syntax.Operand operand)) known right h = absurd (cc)
binding_cut model tables plan is site of t k (syntax.Negated (syntax.Negated u)) known right h = absurd (cc)
binding_cut model tables plan is site of t k (syntax.Negated (syntax.Combined left operator second)) known right h =
    absurd (cc)
binding_cut model tables plan is site of t k (syntax.Negated (syntax.Applied function u)) known right h = absurd (cc)
binding_cut model tables plan is site of t k (syntax.Negated (syntax.SumOfParts name)) known right h = absurd (cc)
binding_cut model tables plan is site of t k (syntax.Negated syntax.CountOfParts) known right h = absurd (cc)
binding_cut model tables plan is site of t k (syntax.Combined left operator second) known right h = absurd (cc)
binding_cut model tables plan is site of t k (syntax.Applied function u) known right h = absurd (cc)
binding_cut model tables plan is site of t k (syntax.SumOfParts name) known right h = absurd (cc)
binding_cut model tables plan is site of t k syntax.CountOfParts known right h = absurd (cc)

pub record CallMarked (model : Model) (tables : List VariantTable) (plan : Plan) (site : Site)
    (call : syntax.TableCall) : Type 0 where
  pub used : Each (λ t. Each (IsUsed site.setting) (uses_of_term t)) (values_in call)
  pub right : Each (λ b. is_computed b ≡ false) call.bindings
  pub marks : Each (Cuts plan) (call_marks model tables site.setting.variables call)

pub call_demanded : (model : Model) (tables : List VariantTable) (plan : Plan) → IsPlanOf model tables plan
    → (site : Site)
    → site.setting.model ≡ model → (call : syntax.TableCall) → CallMarked model tables plan site call
    → Each (CutsBound plan (table_number model call.table.name))
    (map (binding_at (layout_of model) site call.table.name) call.bindings)
call_demanded model tables plan is site of call marked =
    by call.bindings marked.used marked.right
    (each_unflat (Cuts plan) (binding_marks model tables site.setting.variables call) call.bindings marked.marks)
  where
    by : (bs : List syntax.Binding) → Each (λ t. Each (IsUsed site.setting) (uses_of_term t)) (map (λ b. b.value) bs)
        → Each (λ b. is_computed b ≡ false) bs
        → Each (λ b. Each (Cuts plan) (binding_marks model tables site.setting.variables call b)) bs
        → Each (CutsBound plan (table_number model call.table.name))
        (map (binding_at (layout_of model) site call.table.name) bs)
    by [] used right marks = tt
    by (b ∷ bs) used right marks = (
      binding_cut model tables plan is site of (table_number model call.table.name)
          (column_number model call.table.name b.column.name) b.value
          (operands_known site b.value used.0) right.0 marks.0,
      by bs used.1 right.1 marks.1,
    )
