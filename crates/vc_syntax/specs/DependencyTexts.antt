-- What a text is as a dependency: its tree, or its fault.
use Rattle.std.specs.Prelude.{◌≡◌, ℕ, List, length, cond, Option, Some, None, Result, Ok, Err}
use Rattle.vc_syntax_tokens.specs.declared.token.Token.{Token}
use Rattle.vc_syntax_tokens.specs.declared.fault.Kind.{Kind}
use Rattle.vc_syntax_tokens.specs.declared.fault.SyntaxKind.{SyntaxKind}
use Rattle.vc_syntax_tokens.specs.declared.fault.SyntaxKind.TheVariants as faults
use Rattle.vc_syntax_terms.specs.declared.reading.ReadFault.{ReadFault}
use Rattle.vc_syntax_terms.specs.declared.reading.ReadFault.TheVariants as read_faults
use Rattle.vc_syntax_tokens.specs.declared.fault.SyntaxFault.{SyntaxFault}
use Rattle.vc_syntax_tokens.specs.declared.fault.SyntaxFault.TheVariants.{Bad, OutOfMemory}
use Rattle.vc_syntax.specs.DependencyReading.{dependency}
use Rattle.vc_syntax_tokens.specs.Limits.{is_too_long, is_too_deep}
use Rattle.vc_syntax_tokens.specs.Tokens.{tokens_of}
use Rattle.vc_syntax_tree.specs.Trees.{Dependency}

abbrev pub spelled : Option Dependency → Result Dependency SyntaxFault
spelled None = Err (Bad faults.NotADependency 0)
spelled (Some tree) = Ok tree

-- the limit that tokens pass first
abbrev pub passed_limit : List Token → Option SyntaxKind
passed_limit ts = cond (is_too_long ts) (Some faults.TooLong) (cond (is_too_deep ts) (Some faults.TooDeep) None)

-- why tokens within the limits are no dependency
abbrev pub fault_of : ReadFault → SyntaxFault
fault_of read_faults.Ungrammatical = Bad faults.NotADependency 0
fault_of read_faults.OutOfMemory = OutOfMemory

-- the limits come before the grammar
abbrev pub judged : Kind → List Token → Result Dependency SyntaxFault
judged kind ts = cond (is_too_long ts) (Err (Bad faults.TooLong 0))
    (cond (is_too_deep ts) (Err (Bad faults.TooDeep 0)) (spelled (dependency kind (length ts) ts)))

abbrev pub judged_if : Kind → Result (List Token) SyntaxFault → Result Dependency SyntaxFault
judged_if kind (Ok ts) = judged kind ts
judged_if kind (Err fault) = Err fault

-- the first bad token comes before all else
abbrev pub dependency_in : Kind → List ℕ → Result Dependency SyntaxFault
dependency_in kind text = judged_if kind (tokens_of text)

-- what the call answers, seen by view, is what there is, unless memory ran out
abbrev pub Answers : {X Y : Type 0} → (X → Y) → Result X SyntaxFault → Result Y SyntaxFault → Type 0
Answers view (Ok x) found = found ≡ Ok (view x)
Answers view (Err OutOfMemory) found = Unit {0}
Answers view (Err (Bad kind place)) found = found ≡ Err (Bad kind place)
