-- The last number goes, with its flag.
use Rattle.std.proofs.Common.{◌<◌, ◌-◌, ◌∙◌, ap, length, subst, sym}
use Rattle.std.specs.Prelude.{slice_index_or, slice_set, false}
use Rattle.vc_net_agenda.proofs.PendingLaws.{is_popped, last_below}
use Rattle.vc_net_agenda.proofs.pending.Pending.pop.Goals as goal

pub set-requires : goal.set-requires
set-requires c =
    let s = c.self.inside in
    subst (λ ps. slice_index_or ps (s.count - 1) 0 < length s.flags) (sym c.as_slice.ensures)
    (last_below s.flags s.places s.count c.self.invariant c.if-self-eq0.false)

pub invariant_of-self : goal.invariant_of-self
invariant_of-self c =
    let s = c.self.inside in
    is_popped s.flags s.places s.count c.self.invariant c.if-self-eq0.false c.set.new.self
    (c.set.ensures ∙ ap (λ ps. slice_set s.flags (slice_index_or ps (s.count - 1) 0) false) c.as_slice.ensures)
