-- The first variable becomes the same.
use Rattle.std.proofs.Common.{◌≡◌, ◌∙◌, ap, length}
use Rattle.std.proofs.lemmas.List.{length-set}
use Rattle.vc_plan.specs.Entries.{sources_in}
use Rattle.vc_plan.specs.Sources.{Sources}
use Rattle.vc_net.proofs.CopyLaws.{beside_next, same_at_end}
use Rattle.vc_session_evaluation.proofs.filling.fill_entries_at.Goals as goal

pub loop-rest-preserved : goal.loop-rest-preserved
loop-rest-preserved c = record {
  same = beside_next c.loop-rest.rest.now 0 c.loop-rest.sources.written
      (sources_in c.args.overlay.now) c.fill_entry.new.sources.written
      c.in-len1-up.len_at_least c.loop-rest.invariant.long c.loop-rest.invariant.same
      (ap (λ (s : Sources). s.written) c.fill_entry.ensures);
  long = ap (λ (s : Sources). length s.written) c.fill_entry.ensures ∙ length-set c.loop-rest.sources.written _ _
      ∙ c.loop-rest.invariant.long;
  stays = ap (λ (s : Sources). s.user) c.fill_entry.ensures ∙ c.loop-rest.invariant.stays;
}

pub returns : goal.returns
returns c =
    let now : c.loop-rest.sources.written ≡ (sources_in c.args.overlay.now) =
    same_at_end c.loop-rest.rest.now c.loop-rest.sources.written (sources_in c.args.overlay.now) c.in_default.len_below
    c.loop-rest.invariant.long c.loop-rest.invariant.same in
    let stays = c.loop-rest.invariant.stays in
    λ j. record { user = stays j; written = now j }
