-- The first tokens tell what the text is.
use Rattle.std.proofs.Common.{Result, Ok, ap, subst, sym, ◌∙◌}
use Rattle.vc_syntax_tokens.specs.declared.fault.Kind.TheVariants as kinds
use Rattle.vc_syntax_tokens.specs.declared.fault.SyntaxFault.{SyntaxFault}
use Rattle.vc_syntax_tokens.specs.Tokens.{tokens_of}
use Rattle.vc_syntax.specs.DependencyTexts.{Answers}
use Rattle.vc_syntax_tree.specs.Trees as trees
use Rattle.vc_syntax_tree.specs.Trees.{Dependency, term_of}
use Rattle.vc_syntax.proofs.SpelledLaws.{judged_told}
use Rattle.vc_syntax.proofs.dependencies.read_judged_term.Goals as goal

pub returns : goal.returns
returns c =
    let P : Result Dependency SyntaxFault → Type 0
    = λ r. Answers (λ t. trees.Counts (term_of t.value)) c.judge_term.result r in
    subst P (sym (judged_told kinds.Term (tokens_of c.args.text.now) (Ok c.as_slice.result.now)
    (c.in_ok-all.ensures ∙ ap Ok (sym c.as_slice.ensures)))) c.judge_term.ensures
