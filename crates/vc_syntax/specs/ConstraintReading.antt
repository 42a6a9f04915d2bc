-- How constraints are read.
use Rattle.std.specs.Prelude.{ℕ, pos, List, [], ◌∷◌, Bool, false, Option, Some, None, cond}
use Rattle.std.specs.Ordering.{int_eq}
use Rattle.vc_syntax_tokens.specs.declared.token.Token.{Token}
use Rattle.vc_syntax_tokens.specs.declared.token.Lexeme.{Lexeme}
use Rattle.vc_syntax_tokens.specs.declared.token.Lexeme.TheVariants as lexemes
use Rattle.vc_syntax_tokens.specs.declared.token.Sign.TheVariants as signs
use Rattle.vc_syntax_tokens.specs.declared.token.Reserved.TheVariants as words
use Rattle.vc_syntax_tree.specs.declared.NameLeaf.{NameLeaf}
use Rattle.vc_syntax_tree.specs.declared.Operand.{Operand}
use Rattle.vc_syntax_tree.specs.declared.ObjectKind.{ObjectKind}
use Rattle.vc_syntax_tree.specs.declared.ObjectKind.TheVariants as kinds
use Rattle.vc_syntax_tree.specs.declared.Alias.{Alias}
use Rattle.vc_syntax_tree.specs.declared.Object.{Object}
use Rattle.vc_syntax_terms.specs.Leaves.{after_sign, after_word, named, any_named}
use Rattle.vc_syntax_terms.specs.Reading.{Reader, then, either, or_else, made, leaving_as, closed, listed}
use Rattle.vc_syntax_terms.specs.TermReading.{operand}
use Rattle.vc_syntax_terms.specs.ConditionReading.{text_ahead, variable_ahead, condition}
use Rattle.vc_syntax.specs.StatementReading.{restriction}
use Rattle.vc_syntax_tree.specs.Trees.{Condition, Restriction, Constraint}

-- 300, the class type of configurable objects
abbrev pub is_class_type : Lexeme → Bool
is_class_type (lexemes.Number number) = int_eq number.millionths (pos 300000000)
is_class_type _ = false

abbrev pub after_class_type : List Token → Option (List Token)
after_class_type [] = None
after_class_type (t ∷ ts) = cond (is_class_type t.lexeme) (Some ts) None

-- `( 300 )`
abbrev pub class_type : List Token → Option (List Token)
class_type ts = then (after_sign signs.OpenParen ts)
    (λ first. then (after_class_type first) (after_sign signs.CloseParen))

-- `( MATERIAL )`
abbrev pub material_word : List Token → Option (List Token)
material_word ts = then (after_sign signs.OpenParen ts)
    (λ first. then (after_word words.Material first) (after_sign signs.CloseParen))

-- what stands behind IS_A
abbrev pub class_kind : Reader ObjectKind
class_kind ts = then (class_type ts) (λ rest. made kinds.Class (any_named rest))

-- `( NR = text )`
abbrev pub material_number : Reader ObjectKind
material_number ts = then (after_sign signs.OpenParen ts) (λ first. then (after_word words.Nr first) (λ second.
    then (after_sign signs.Equal second) (λ rest. made kinds.Material (closed (text_ahead rest)))))

-- what stands behind IS_OBJECT
abbrev pub material_kind : Reader ObjectKind
material_kind ts = then (material_word ts) (λ rest. then (class_type rest) material_number)

abbrev pub object_kind : Reader ObjectKind
object_kind ts = either (after_word words.IsA ts) (then (after_word words.IsObject ts) material_kind) class_kind

abbrev pub with_alias : NameLeaf → NameLeaf → Alias
with_alias variable characteristic = record { variable = variable; characteristic = characteristic }

abbrev pub with_object : NameLeaf → ObjectKind → List Alias → Object
with_object variable kind aliases = record { variable = variable; kind = kind; aliases = aliases }

abbrev pub alias : Reader Alias
alias ts = then (variable_ahead ts)
    (λ variable. then (after_sign signs.Equal variable.1) (λ rest. made (with_alias variable.0) (named rest)))

abbrev pub aliases : Reader (List Alias)
aliases ts = either (after_word words.Where ts) (Some ([], ts)) (listed signs.Semicolon alias)

abbrev pub object : Reader Object
object ts = then (variable_ahead ts)
    (λ variable. then (object_kind variable.1) (λ kind. made (with_object variable.0 kind.0) (aliases kind.1)))

-- a section's colon, what it holds, and its period
abbrev pub section : {A : Type 0} → Reader A → Reader A
section read ts = then (after_sign signs.Colon ts)
    (λ rest. then (read rest) (λ found. leaving_as found.0 (after_sign signs.Period found.1)))

abbrev pub object_section : Reader (List Object)
object_section ts = then (after_word words.Objects ts) (section (listed signs.Comma object))

abbrev pub condition_section : ℕ → Reader (Option Condition)
condition_section left ts =
    either (after_word words.Condition ts) (Some (None, ts)) (λ rest. made Some (section (condition left) rest))

abbrev pub restriction_word : List Token → Option (List Token)
restriction_word ts = or_else (after_word words.Restriction ts) (after_word words.Restrictions ts)

abbrev pub restriction_section : ℕ → Reader (List Restriction)
restriction_section left ts = then (restriction_word ts) (section (listed signs.Comma (restriction left)))

abbrev pub inference_section : Reader (List Operand)
inference_section ts = either (after_word words.Inferences ts) (Some ([], ts)) (section (listed signs.Comma operand))

abbrev pub with_constraint : List Object → Option Condition → List Restriction → List Operand → Constraint
with_constraint objects condition restrictions inferences =
    record { objects = objects; condition = condition; restrictions = restrictions; inferences = inferences }

abbrev pub constraint : ℕ → Reader Constraint
constraint left ts = then (object_section ts) (λ objects. then (condition_section left objects.1) (λ condition.
    then (restriction_section left condition.1) (λ restrictions.
    made (with_constraint objects.0 condition.0 restrictions.0) (inference_section restrictions.1))))
