use Rattle.vc_syntax.proofs.DependencyLaws.{answers_found, answers_only}
use Rattle.vc_syntax.proofs.dependencies.dependency.Goals as goal

pub returns-clause-found : goal.returns-clause-found
returns-clause-found c =
    answers_found c.args.kind c.args.tokens.now c.dependency_within.result c.dependency_within.ensures

pub returns-clause-only : goal.returns-clause-only
returns-clause-only c =
    answers_only c.args.kind c.args.tokens.now c.dependency_within.result c.dependency_within.ensures
