-- The same of a term.
use Rattle.std.proofs.Common.{sym, ap, Err}
use Rattle.std.specs.Result.{result_ok}
use Rattle.vc_syntax_tokens.specs.declared.fault.Kind.TheVariants as kinds
use Rattle.vc_syntax_tree.specs.Trees as trees
use Rattle.vc_syntax_tree.specs.Trees.{term_of}
use Rattle.vc_syntax.proofs.SpelledLaws.{spelled_is_found, fault_is_found}
use Rattle.vc_model_faults.specs.Readings.{count_reading, seen_reading, term_in_tree, tree_in}
use Rattle.vc_model_faults.proofs.readings.read_short_term.Goals as goal

pub returns-in-Ok : goal.returns-in-Ok
unfolding seen_reading tree_in
returns-in-Ok c =
    let tree = trees.Counts (term_of c.in-Ok.term.value) in
    let found = spelled_is_found kinds.Term c.args.text.now tree c.in-Ok.ensures.found in
    sym (ap (λ r. count_reading (term_in_tree (result_ok r))) found)

pub returns-in-Err-Bad : goal.returns-in-Err-Bad
unfolding seen_reading tree_in
returns-in-Err-Bad c =
    let kind = c.in-Err-Bad.field-0-0 in
    let place = c.in-Err-Bad.field-0-1 in
    let fault = c.in-Err-Bad.ensures.told kind place (ap Err c.in-Err-Bad.field-0-is) in
    sym (ap (λ r. count_reading (term_in_tree (result_ok r)))
    (fault_is_found kinds.Term c.args.text.now kind place fault))
