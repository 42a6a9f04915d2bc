-- No two facts stand at one place, and they are those of the steps.
use Rattle.std.proofs.Common.{◌≡◌, ◌∙◌, ap, subst, sym, true}
use Rattle.std.specs.List.{position_or_len}
use Rattle.vc_net_log.specs.Differing.{are_givable}
use Rattle.vc_net_log.specs.Staying.{differs}
use Rattle.vc_net_log.proofs.KeptLaws.{facts_by}
use Rattle.vc_net_log.proofs.log.Log.keep_at.Goals as goal

pub first_gone_at-first-requires-clause-once : goal.first_gone_at-first-requires-clause-once
first_gone_at-first-requires-clause-once c = c.self.invariant.premises.once

pub first_gone_at-first-requires-clause-givable : goal.first_gone_at-first-requires-clause-givable
first_gone_at-first-requires-clause-givable c =
    let s = c.self.inside in
    subst (λ facts. are_givable facts ≡ true)
    (sym (facts_by s.standing s.cells s.counts s.premises c.args.self.now c.self.view_is)) c.requires.givable

pub keep_from-requires-clause-first : goal.keep_from-requires-clause-first
keep_from-requires-clause-first c =
    let s = c.self.inside in
    c.first_gone_at-first.ensures
    ∙ ap (position_or_len (differs c.args.old.now c.args.new.now))
    (facts_by s.standing s.cells s.counts s.premises c.args.self.now c.self.view_is)
