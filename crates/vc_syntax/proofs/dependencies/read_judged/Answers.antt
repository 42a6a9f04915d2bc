-- The first tokens tell what the text is.
use Rattle.std.proofs.Common.{Result, Ok, ap, subst, sym, ◌∙◌}
use Rattle.vc_syntax_tokens.specs.declared.fault.SyntaxFault.{SyntaxFault}
use Rattle.vc_syntax_tokens.specs.Tokens.{tokens_of}
use Rattle.vc_syntax.specs.DependencyTexts.{Answers}
use Rattle.vc_syntax_tree.specs.Trees.{Dependency, dependency_of}
use Rattle.vc_syntax.proofs.SpelledLaws.{judged_told}
use Rattle.vc_syntax.proofs.dependencies.read_judged.Goals as goal

pub returns : goal.returns
returns c =
    let P : Result Dependency SyntaxFault → Type 0 = λ r. Answers dependency_of c.judge.result r in
    subst P (sym (judged_told c.args.kind (tokens_of c.args.text.now) (Ok c.as_slice.result.now)
    (c.in_ok-tokens.ensures ∙ ap Ok (sym c.as_slice.ensures)))) c.judge.ensures
