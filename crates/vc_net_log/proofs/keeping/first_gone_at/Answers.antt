-- The first is the least of those by the user's values and of those that were written.
use Rattle.std.proofs.Common.{◌∙◌, ap, length}
use Rattle.vc_net_log.specs.Differing.{least_gone}
use Rattle.vc_net_log.specs.Staying.{differs}
use Rattle.vc_net_log.proofs.FirstLaws.{first_by_variables}
use Rattle.vc_net_log.proofs.keeping.first_gone_at.Goals as goal

pub returns : goal.returns
returns c =
    let index = c.args.standing.now.index in
    let facts = c.args.standing.now.facts in
    let gone = differs c.args.old.now c.args.new.now in
    c.least_gone.ensures
    ∙ (ap (λ n. least_gone index gone facts n c.args.written.now) (c.least_gone-by_users.ensures
    ∙ ap (λ n. least_gone index gone facts n c.args.touched.now) (ap (λ xs. length xs) c.facts.ensures))
    ∙ first_by_variables index facts c.args.old.now c.args.new.now c.args.touched.now c.args.written.now c.requires.once
    c.requires.givable c.requires.touched c.requires.written)
