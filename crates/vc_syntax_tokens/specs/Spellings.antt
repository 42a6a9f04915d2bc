-- How the words and signs of the language are spelled, in upper case.
use Rattle.std.specs.Prelude.{ℕ, ◌==◌, ◌&&◌, ◌||◌, Option, Some, None, List, [], ◌∷◌, codes, if◌then◌else◌}
use Rattle.std.specs.List.{find}
use Rattle.std.specs.Str.{bytes_eq}
use Rattle.vc_syntax_tokens.specs.declared.token.Reserved.{Reserved}
use Rattle.vc_syntax_tokens.specs.declared.token.Reserved.TheVariants as reserved
use Rattle.vc_syntax_tokens.specs.declared.token.Dollar.{Dollar}
use Rattle.vc_syntax_tokens.specs.declared.token.Dollar.TheVariants as dollar
use Rattle.vc_syntax_tokens.specs.declared.token.Sign.{Sign}
use Rattle.vc_syntax_tokens.specs.declared.token.Sign.TheVariants as sign

-- the reserved words
abbrev pub reserved_spelling : Reserved → List ℕ
reserved_spelling reserved.And = codes "AND"
reserved_spelling reserved.Or = codes "OR"
reserved_spelling reserved.Not = codes "NOT"
reserved_spelling reserved.In = codes "IN"
reserved_spelling reserved.If = codes "IF"
reserved_spelling reserved.Specified = codes "SPECIFIED"
reserved_spelling reserved.Table = codes "TABLE"
reserved_spelling reserved.False = codes "FALSE"
reserved_spelling reserved.IsA = codes "IS_A"
reserved_spelling reserved.IsObject = codes "IS_OBJECT"
reserved_spelling reserved.Material = codes "MATERIAL"
reserved_spelling reserved.Where = codes "WHERE"
reserved_spelling reserved.PartOf = codes "PART_OF"
reserved_spelling reserved.Eq = codes "EQ"
reserved_spelling reserved.Ne = codes "NE"
reserved_spelling reserved.Lt = codes "LT"
reserved_spelling reserved.Le = codes "LE"
reserved_spelling reserved.Gt = codes "GT"
reserved_spelling reserved.Ge = codes "GE"
reserved_spelling reserved.Objects = codes "OBJECTS"
reserved_spelling reserved.Condition = codes "CONDITION"
reserved_spelling reserved.Restriction = codes "RESTRICTION"
reserved_spelling reserved.Restrictions = codes "RESTRICTIONS"
reserved_spelling reserved.Inferences = codes "INFERENCES"
reserved_spelling reserved.Nr = codes "NR"
reserved_spelling reserved.End = codes "END"
reserved_spelling reserved.Abs = codes "ABS"
reserved_spelling reserved.Sign = codes "SIGN"
reserved_spelling reserved.Trunc = codes "TRUNC"
reserved_spelling reserved.Floor = codes "FLOOR"
reserved_spelling reserved.Ceil = codes "CEIL"
reserved_spelling reserved.Frac = codes "FRAC"

-- all reserved words
abbrev pub reserved_words : List Reserved
reserved_words =
    reserved.And ∷ reserved.Or ∷ reserved.Not ∷ reserved.In ∷ reserved.If ∷ reserved.Specified ∷ reserved.Table
    ∷ reserved.False
    ∷ reserved.IsA ∷ reserved.IsObject ∷ reserved.Material ∷ reserved.Where ∷ reserved.PartOf
    ∷ reserved.Eq ∷ reserved.Ne ∷ reserved.Lt ∷ reserved.Le ∷ reserved.Gt ∷ reserved.Ge
    ∷ reserved.Objects ∷ reserved.Condition ∷ reserved.Restriction ∷ reserved.Restrictions ∷ reserved.Inferences
    ∷ reserved.Nr ∷ reserved.End
    ∷ reserved.Abs ∷ reserved.Sign ∷ reserved.Trunc ∷ reserved.Floor ∷ reserved.Ceil ∷ reserved.Frac ∷ []

-- the reserved word of this spelling, if it is one
abbrev pub reserved_of : List ℕ → Option Reserved
reserved_of word = find (λ r. bytes_eq (reserved_spelling r) word) reserved_words

-- the words that begin with `$`, without it
abbrev pub dollar_spelling : Dollar → List ℕ
dollar_spelling dollar.Itself = codes "SELF"
dollar_spelling dollar.Parent = codes "PARENT"
dollar_spelling dollar.Root = codes "ROOT"
dollar_spelling dollar.SetDefault = codes "SET_DEFAULT"
dollar_spelling dollar.DelDefault = codes "DEL_DEFAULT"
dollar_spelling dollar.SumParts = codes "SUM_PARTS"
dollar_spelling dollar.CountParts = codes "COUNT_PARTS"

-- all words that begin with `$`
abbrev pub dollar_words : List Dollar
dollar_words = dollar.Itself ∷ dollar.Parent ∷ dollar.Root ∷ dollar.SetDefault ∷ dollar.DelDefault ∷ dollar.SumParts
    ∷ dollar.CountParts ∷ []

-- the word of this spelling after `$`, if it is one
abbrev pub dollar_of : List ℕ → Option Dollar
dollar_of word = find (λ d. bytes_eq (dollar_spelling d) word) dollar_words

-- the signs as they are printed
abbrev pub sign_spelling : Sign → List ℕ
sign_spelling sign.OpenParen = codes "("
sign_spelling sign.CloseParen = codes ")"
sign_spelling sign.Comma = codes ","
sign_spelling sign.Semicolon = codes ";"
sign_spelling sign.Colon = codes ":"
sign_spelling sign.Dot = codes "."
sign_spelling sign.Period = codes "."
sign_spelling sign.Equal = codes "="
sign_spelling sign.Unequal = codes "<>"
sign_spelling sign.Less = codes "<"
sign_spelling sign.LessEqual = codes "<="
sign_spelling sign.Greater = codes ">"
sign_spelling sign.GreaterEqual = codes ">="
sign_spelling sign.Plus = codes "+"
sign_spelling sign.Minus = codes "-"
sign_spelling sign.Star = codes "*"
sign_spelling sign.Slash = codes "/"

-- the sign that two bytes are together: `<>`, `<=` or `=<`, `>=` or `=>`
abbrev pub sign_of_pair : ℕ → ℕ → Option Sign
sign_of_pair first second =
    if first == 60 && second == 62 then Some sign.Unequal
    else if (first == 60 && second == 61) || (first == 61 && second == 60) then Some sign.LessEqual
    else if (first == 62 && second == 61) || (first == 61 && second == 62) then Some sign.GreaterEqual
    else None

-- the sign that a byte is alone, but for `.`
abbrev pub sign_of_byte : ℕ → Option Sign
sign_of_byte byte =
    if byte == 40 then Some sign.OpenParen
    else if byte == 41 then Some sign.CloseParen
    else if byte == 44 then Some sign.Comma
    else if byte == 59 then Some sign.Semicolon
    else if byte == 58 then Some sign.Colon
    else if byte == 61 then Some sign.Equal
    else if byte == 60 then Some sign.Less
    else if byte == 62 then Some sign.Greater
    else if byte == 43 then Some sign.Plus
    else if byte == 45 then Some sign.Minus
    else if byte == 42 then Some sign.Star
    else if byte == 47 then Some sign.Slash
    else None
