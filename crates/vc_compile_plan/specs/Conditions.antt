-- Conditions as the plan has them where they stand.
use Rattle.std.specs.Prelude.{ℕ, if◌then◌else◌, List, [], ◌∷◌, map, Option, None, Some}
use Rattle.vc_value.specs.declared.decimal.Dec.{Dec}
use Rattle.vc_value.specs.declared.value.Value.{Value}
use Rattle.vc_value.specs.declared.value.Value.TheVariants as values
use Rattle.vc_syntax_tree.specs.declared.Item.{Item}
use Rattle.vc_syntax_tree.specs.declared.Item.TheVariants as items
use Rattle.vc_syntax_tree.specs.declared.Operand.{Operand as OperandLeaf}
use Rattle.vc_syntax_tree.specs.declared.Relator.{Relator}
use Rattle.vc_syntax_tree.specs.declared.Relator.TheVariants as relators
use Rattle.vc_syntax_tree.specs.declared.SignedNumber.{SignedNumber}
use Rattle.vc_syntax_tree.specs.Trees.{Term, Relation, Compared, Within, Condition, Or, And, Not, Related, Specified}
use Rattle.vc_syntax_tree.specs.Trees.{PartOf}
use Rattle.vc_plan.specs.declared.conditions.Piece.{Piece}
use Rattle.vc_plan.specs.declared.conditions.Piece.TheVariants as pieces
use Rattle.vc_plan.specs.declared.conditions.Relation.{Relation as PlanRelation}
use Rattle.vc_plan.specs.declared.conditions.Relation.TheVariants as relations
use Rattle.vc_compile_plan.specs.Layouts.{Layout}
use Rattle.vc_compile_plan.specs.Sites.{Site, var_meant, set_meant, is_set_meant}
use Rattle.vc_compile_plan.specs.Terms.{term_at, lone_of, literal_of, opposite}
use Rattle.vc_compile_plan.specs.Texts.{text_number}
use Rattle.vc_compile_plan.specs.Trees as plan

abbrev pub relation_of : Relator → PlanRelation
relation_of relators.Equal = relations.Equal
relation_of relators.Unequal = relations.Unequal
relation_of relators.Less = relations.Less
relation_of relators.LessEqual = relations.AtMost
relation_of relators.Greater = relations.Greater
relation_of relators.GreaterEqual = relations.AtLeast

-- what stands in a list behind IN
abbrev pub number_of : SignedNumber → Dec
number_of number = if number.negative then opposite number.leaf.number else number.leaf.number

abbrev pub piece_of : List (List ℕ) → Item → Piece
piece_of texts (items.Text leaf) = pieces.OneText (text_number texts leaf.text)
piece_of texts (items.Number number) = pieces.Stretch (record { low = number_of number; high = number_of number })
piece_of texts (items.Interval low high) = pieces.Stretch (record { low = number_of low; high = number_of high })

-- the text of a value; a set meets no number but in a faulty dependency
abbrev pub text_in : Option Value → ℕ
text_in None = 0
text_in (Some (values.Text t)) = t
text_in (Some (values.Num a)) = 0

abbrev pub text_in_piece : Piece → ℕ
text_in_piece (pieces.OneText t) = t
text_in_piece (pieces.Stretch grain) = 0

-- a set against a text: `<>` is NOT of `=`
abbrev pub set_against : Relator → plan.Condition → plan.Condition
set_against relators.Unequal equality = plan.Not equality
set_against relator equality = equality

-- IN is the OR of its equalities, which groups to the left
abbrev pub or_each : plan.Condition → ℕ → List ℕ → plan.Condition
or_each before set [] = before
or_each before set (text ∷ texts) = or_each (plan.Or before (plan.Holds set text)) set texts

abbrev pub holds_one : ℕ → List ℕ → plan.Condition
holds_one set [] = plan.Always
holds_one set (text ∷ texts) = or_each (plan.Holds set text) set texts

-- a comparison; one of a set is that of a lone operand at the left with a literal
abbrev pub compared_at : Layout → Site → Option OperandLeaf → Term → Relator → Term → plan.Condition
compared_at layout site None left relator right =
    plan.Compared (relation_of relator) (term_at layout site left) (term_at layout site right)
compared_at layout site (Some operand) left relator right =
    let of_set
    = set_against relator (plan.Holds (set_meant layout site operand) (text_in (literal_of layout.texts right))) in
    let of_value = plan.Compared (relation_of relator) (term_at layout site left) (term_at layout site right) in
    if is_set_meant site operand then of_set else of_value

abbrev pub relation_at : Layout → Site → Relation → plan.Condition
relation_at layout site (Compared left relator right) = compared_at layout site (lone_of left) left relator right
relation_at layout site (Within operand listed) =
    let allowed = map (piece_of layout.texts) listed in
    if is_set_meant site operand
    then holds_one (set_meant layout site operand) (map text_in_piece allowed)
    else plan.IsIn (var_meant layout site operand) allowed

abbrev pub specified_at : Layout → Site → OperandLeaf → plan.Condition
specified_at layout site operand =
    if is_set_meant site operand
    then plan.Filled (set_meant layout site operand)
    else plan.Specified (var_meant layout site operand)

-- the condition at its site; PART_OF is true where it stands for a rule
abbrev pub condition_at : Layout → Site → Condition → plan.Condition
condition_at layout site (Or left right) = plan.Or (condition_at layout site left) (condition_at layout site right)
condition_at layout site (And left right) = plan.And (condition_at layout site left) (condition_at layout site right)
condition_at layout site (Not condition) = plan.Not (condition_at layout site condition)
condition_at layout site (Related relation) = relation_at layout site relation
condition_at layout site (Specified operand) = specified_at layout site operand
condition_at layout site (PartOf part whole) = plan.Always
