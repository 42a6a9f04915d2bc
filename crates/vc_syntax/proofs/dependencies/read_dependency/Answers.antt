-- What the text is found to be is what it spells, or its fault.
use Rattle.std.proofs.Common.{Result, subst}
use Rattle.vc_syntax_tokens.specs.declared.fault.SyntaxFault.{SyntaxFault}
use Rattle.vc_syntax.specs.DependencyTexts.{Answers}
use Rattle.vc_syntax_tree.specs.Trees.{Dependency, dependency_of}
use Rattle.vc_syntax.proofs.SpelledLaws.{answers_spell, answers_tell, spelled_is_found, fault_is_found}
use Rattle.vc_syntax.proofs.dependencies.read_dependency.Goals as goal

pub returns-clause-found : goal.returns-clause-found
returns-clause-found c =
    answers_spell dependency_of c.args.kind c.args.text.now c.read_judged.result c.read_judged.ensures

pub returns-clause-only : goal.returns-clause-only
returns-clause-only c = λ tree p.
    let P : Result Dependency SyntaxFault → Type 0 = λ r. Answers dependency_of c.read_judged.result r in
    subst P (spelled_is_found c.args.kind c.args.text.now tree p) c.read_judged.ensures

pub returns-clause-told : goal.returns-clause-told
returns-clause-told c =
    λ fault place e. answers_tell dependency_of c.args.kind c.args.text.now c.read_judged.result c.read_judged.ensures
    fault place e

pub returns-clause-fault : goal.returns-clause-fault
returns-clause-fault c = λ fault place p.
    let P : Result Dependency SyntaxFault → Type 0 = λ r. Answers dependency_of c.read_judged.result r in
    subst P (fault_is_found c.args.kind c.args.text.now fault place p) c.read_judged.ensures
