-- Terms as the plan has them where they stand.
use Rattle.std.specs.Prelude.{ℕ, neg_ℤ, List, Option, None, Some}
use Rattle.vc_value.specs.declared.decimal.Dec.{Dec}
use Rattle.vc_value.specs.declared.value.Value.{Value}
use Rattle.vc_value.specs.declared.value.Value.TheVariants as values
use Rattle.vc_syntax_tree.specs.declared.Function.{Function as NamedFunction}
use Rattle.vc_syntax_tree.specs.declared.Function.TheVariants as functions
use Rattle.vc_syntax_tree.specs.declared.Operand.{Operand as OperandLeaf}
use Rattle.vc_syntax_tree.specs.declared.Operator.{Operator as NamedOperator}
use Rattle.vc_syntax_tree.specs.declared.Operator.TheVariants as operators
use Rattle.vc_syntax_tree.specs.Trees.{Term, Number, Text, Operand, Negated, Combined, Applied, SumOfParts}
use Rattle.vc_syntax_tree.specs.Trees.{CountOfParts}
use Rattle.vc_types.specs.Looking.{characteristic_named}
use Rattle.vc_plan.specs.declared.terms.Function.{Function}
use Rattle.vc_plan.specs.declared.terms.Function.TheVariants as plan_functions
use Rattle.vc_plan.specs.declared.terms.Operator.{Operator}
use Rattle.vc_plan.specs.declared.terms.Operator.TheVariants as plan_operators
use Rattle.vc_compile_plan.specs.Layouts.{Layout}
use Rattle.vc_compile_plan.specs.Sites.{Site, var_meant, number_or_zero}
use Rattle.vc_compile_plan.specs.Texts.{text_number}
use Rattle.vc_compile_plan.specs.Trees as plan

abbrev pub function_of : NamedFunction → Function
function_of functions.Abs = plan_functions.Abs
function_of functions.Sign = plan_functions.Sign
function_of functions.Trunc = plan_functions.Trunc
function_of functions.Floor = plan_functions.Floor
function_of functions.Ceil = plan_functions.Ceil
function_of functions.Frac = plan_functions.Frac

abbrev pub operator_of : NamedOperator → Operator
operator_of operators.Plus = plan_operators.Plus
operator_of operators.Minus = plan_operators.Minus
operator_of operators.Times = plan_operators.Times
operator_of operators.Over = plan_operators.Over

-- the number with the other sign
abbrev pub opposite : Dec → Dec
opposite n = record { millionths = neg_ℤ n.millionths }

-- the value of a literal: a text, or a number with or without a minus
abbrev pub minus_literal : Term → Option Value
minus_literal (Number leaf) = Some (values.Num (opposite leaf.number))
minus_literal term = None

abbrev pub literal_of : List (List ℕ) → Term → Option Value
literal_of texts (Number leaf) = Some (values.Num leaf.number)
literal_of texts (Text leaf) = Some (values.Text (text_number texts leaf.text))
literal_of texts (Negated term) = minus_literal term
literal_of texts (Operand operand) = None
literal_of texts (Combined left operator right) = None
literal_of texts (Applied function term) = None
literal_of texts (SumOfParts name) = None
literal_of texts CountOfParts = None

-- the operand that a term is alone
abbrev pub lone_of : Term → Option OperandLeaf
lone_of (Operand operand) = Some operand
lone_of term = None

-- a minus before a term; before a number it is the number's sign
abbrev pub minus : Option Value → plan.Term → plan.Term
minus None term = plan.Applied plan_functions.Negative term
minus (Some a) term = plan.Literal a

-- the term at its site; sums are over the parts of the site's own slot
abbrev pub term_at : Layout → Site → Term → plan.Term
term_at layout site (Number leaf) = plan.Literal (values.Num leaf.number)
term_at layout site (Text leaf) = plan.Literal (values.Text (text_number layout.texts leaf.text))
term_at layout site (Operand operand) = plan.Read (var_meant layout site operand)
term_at layout site (Negated term) = minus (minus_literal term) (term_at layout site term)
term_at layout site (Combined left operator right) =
    plan.Joined (operator_of operator) (term_at layout site left) (term_at layout site right)
term_at layout site (Applied function term) = plan.Applied (function_of function) (term_at layout site term)
term_at layout site (SumOfParts name) =
    plan.PartSum site.own (number_or_zero (characteristic_named layout.model name.name))
term_at layout site CountOfParts = plan.PartCount site.own
