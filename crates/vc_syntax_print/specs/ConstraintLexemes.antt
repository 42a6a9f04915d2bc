-- The canonical lexemes of constraints.
use Rattle.std.specs.Prelude.{pos, List, [], ◌∷◌, ◌++◌, Option, Some, None}
use Rattle.vc_value.specs.declared.decimal.Dec.{Dec}
use Rattle.vc_syntax_tokens.specs.declared.token.Lexeme.{Lexeme}
use Rattle.vc_syntax_tokens.specs.declared.token.Lexeme.TheVariants as lexemes
use Rattle.vc_syntax_tokens.specs.declared.token.Sign.TheVariants as signs
use Rattle.vc_syntax_tokens.specs.declared.token.Reserved.{Reserved}
use Rattle.vc_syntax_tokens.specs.declared.token.Reserved.TheVariants as words
use Rattle.vc_syntax_tokens.specs.Lexemes.{lexeme_of_word}
use Rattle.vc_syntax_tree.specs.declared.Operand.{Operand}
use Rattle.vc_syntax_tree.specs.declared.ObjectKind.{ObjectKind}
use Rattle.vc_syntax_tree.specs.declared.ObjectKind.TheVariants.{Class, Material}
use Rattle.vc_syntax_tree.specs.declared.Alias.{Alias}
use Rattle.vc_syntax_tree.specs.declared.Object.{Object}
use Rattle.vc_syntax_tree.specs.Trees.{Condition, Constraint}
use Rattle.vc_syntax_print.specs.TermLexemes.{wrapped, operand_lexemes}
use Rattle.vc_syntax_print.specs.ConditionLexemes.{separated, condition_lexemes}
use Rattle.vc_syntax_print.specs.StatementLexemes.{restriction_lexemes}

-- 300
abbrev pub class_type : Dec
class_type = record { millionths = pos 300000000 }

-- IS_A ( 300 ) C, or IS_OBJECT ( MATERIAL ) ( 300 ) ( NR = 'M' )
abbrev pub kind_lexemes : ObjectKind → List Lexeme
kind_lexemes (Class name) = lexemes.Reserved words.IsA
    ∷ (wrapped (lexemes.Number class_type ∷ []) ++ lexeme_of_word name.name ∷ [])
kind_lexemes (Material text) =
    lexemes.Reserved words.IsObject
    ∷ (wrapped (lexemes.Reserved words.Material ∷ []) ++ (wrapped (lexemes.Number class_type ∷ [])
    ++ wrapped (lexemes.Reserved words.Nr ∷ lexemes.Sign signs.Equal ∷ lexemes.Text text.text ∷ [])))

-- ?V = C
abbrev pub alias_lexemes : Alias → List Lexeme
alias_lexemes alias = lexemes.Variable alias.variable.name ∷ lexemes.Sign signs.Equal
    ∷ lexemes.Name alias.characteristic.name ∷ []

-- WHERE ?V = C ; ?W = D, or nothing
abbrev pub where_lexemes : List Alias → List Lexeme
where_lexemes [] = []
where_lexemes (alias ∷ aliases) = lexemes.Reserved words.Where
    ∷ separated signs.Semicolon alias_lexemes (alias ∷ aliases)

abbrev pub object_lexemes : Object → List Lexeme
object_lexemes object = lexemes.Variable object.variable.name
    ∷ (kind_lexemes object.kind ++ where_lexemes object.aliases)

-- a section: its word, a colon, what stands in it, and a period
abbrev pub section_lexemes : Reserved → List Lexeme → List Lexeme
section_lexemes word ls = lexemes.Reserved word ∷ lexemes.Sign signs.Colon ∷ (ls ++ lexemes.Sign signs.Period ∷ [])

abbrev pub condition_section : Option Condition → List Lexeme
condition_section None = []
condition_section (Some condition) = section_lexemes words.Condition (condition_lexemes condition)

abbrev pub inference_section : List Operand → List Lexeme
inference_section [] = []
inference_section (operand ∷ operands) =
    section_lexemes words.Inferences (separated signs.Comma operand_lexemes (operand ∷ operands))

-- the sections, those that say nothing left out
abbrev pub constraint_lexemes : Constraint → List Lexeme
constraint_lexemes constraint =
    section_lexemes words.Objects (separated signs.Comma object_lexemes constraint.objects)
    ++ (condition_section constraint.condition
    ++ (section_lexemes words.Restrictions (separated signs.Comma restriction_lexemes constraint.restrictions)
    ++ inference_section constraint.inferences))
