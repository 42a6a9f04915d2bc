-- What is read is the tree found in the text, and a text with a fault spells none.
use Rattle.std.proofs.Common.{sym, ap, Err}
use Rattle.std.specs.Result.{result_ok}
use Rattle.vc_syntax_tree.specs.Trees.{dependency_of}
use Rattle.vc_syntax.proofs.SpelledLaws.{spelled_is_found, fault_is_found}
use Rattle.vc_model_faults.specs.Readings.{dependency_reading, seen_reading, tree_in}
use Rattle.vc_model_faults.proofs.readings.read_short.Goals as goal

pub returns-in-Ok : goal.returns-in-Ok
unfolding seen_reading tree_in
returns-in-Ok c =
    let tree = dependency_of c.in-Ok.dependency in
    sym (ap (λ r. dependency_reading (result_ok r))
    (spelled_is_found c.args.kind c.args.text.now tree c.in-Ok.ensures.found))

pub returns-in-Err-Bad : goal.returns-in-Err-Bad
unfolding seen_reading tree_in
returns-in-Err-Bad c =
    let kind = c.in-Err-Bad.field-0-0 in
    let place = c.in-Err-Bad.field-0-1 in
    let fault = c.in-Err-Bad.ensures.told kind place (ap Err c.in-Err-Bad.field-0-is) in
    sym (ap (λ r. dependency_reading (result_ok r)) (fault_is_found c.args.kind c.args.text.now kind place fault))
