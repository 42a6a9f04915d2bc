-- The first variable becomes the same.
use Rattle.std.proofs.Common.{◌≡◌, ◌∙◌, ap, length}
use Rattle.std.proofs.lemmas.List.{length-set}
use Rattle.vc_plan.specs.Sources.{Sources}
use Rattle.vc_net.proofs.CopyLaws.{beside_next, same_at_end}
use Rattle.vc_net.proofs.copying.copy_entries.Goals as goal

pub loop-rest-preserved : goal.loop-rest-preserved
loop-rest-preserved c = record {
  same = beside_next c.loop-rest.rest.now 0 c.loop-rest.sources.written
      c.args.from.now.written c.copy_entry.new.sources.written
      c.in-len1-up.len_at_least c.loop-rest.invariant.long c.loop-rest.invariant.same
      (ap (λ (s : Sources). s.written) c.copy_entry.ensures);
  long = ap (λ (s : Sources). length s.written) c.copy_entry.ensures ∙ length-set c.loop-rest.sources.written _ _
      ∙ c.loop-rest.invariant.long;
  stays = ap (λ (s : Sources). s.user) c.copy_entry.ensures ∙ c.loop-rest.invariant.stays;
}

pub returns : goal.returns
returns c =
    let now : c.loop-rest.sources.written ≡ c.args.from.now.written =
    same_at_end c.loop-rest.rest.now c.loop-rest.sources.written c.args.from.now.written c.in_default.len_below
    c.loop-rest.invariant.long c.loop-rest.invariant.same in
    let stays = c.loop-rest.invariant.stays in
    λ j. record { user = stays j; written = now j }
