-- The words that lines begin with.
use Rattle.std.specs.Prelude.{ℕ, List, [], ◌∷◌, Option, codes}
use Rattle.std.specs.List.{find}
use Rattle.vc_value.specs.Words.{same_ignoring_case}
use Rattle.vc_model_lines.specs.declared.line.Keyword.{Keyword}
use Rattle.vc_model_lines.specs.declared.line.Keyword.TheVariants as keyword

abbrev pub keyword_spelling : Keyword → List ℕ
keyword_spelling keyword.Model = codes "MODEL"
keyword_spelling keyword.Char = codes "CHAR"
keyword_spelling keyword.Num = codes "NUM"
keyword_spelling keyword.Value = codes "VALUE"
keyword_spelling keyword.Uses = codes "USES"
keyword_spelling keyword.Class = codes "CLASS"
keyword_spelling keyword.Has = codes "HAS"
keyword_spelling keyword.Table = codes "TABLE"
keyword_spelling keyword.Column = codes "COLUMN"
keyword_spelling keyword.Net = codes "NET"
keyword_spelling keyword.Object = codes "OBJECT"
keyword_spelling keyword.Line = codes "LINE"
keyword_spelling keyword.Operation = codes "OPERATION"
keyword_spelling keyword.Precondition = codes "PRECONDITION"
keyword_spelling keyword.Selection = codes "SELECTION"
keyword_spelling keyword.Procedure = codes "PROCEDURE"
keyword_spelling keyword.Constraint = codes "CONSTRAINT"
keyword_spelling keyword.Root = codes "ROOT"
keyword_spelling keyword.Action = codes "ACTION"

-- all of them
abbrev pub keywords : List Keyword
keywords =
    keyword.Model ∷ keyword.Char ∷ keyword.Num ∷ keyword.Value ∷ keyword.Uses ∷ keyword.Class ∷ keyword.Has
    ∷ keyword.Table
    ∷ keyword.Column ∷ keyword.Net ∷ keyword.Object ∷ keyword.Line ∷ keyword.Operation ∷ keyword.Precondition
    ∷ keyword.Selection ∷ keyword.Procedure ∷ keyword.Constraint ∷ keyword.Root ∷ keyword.Action ∷ []

-- the keyword of this spelling in either case, if it is one
abbrev pub keyword_of : List ℕ → Option Keyword
keyword_of word = find (λ k. same_ignoring_case (keyword_spelling k) word) keywords
