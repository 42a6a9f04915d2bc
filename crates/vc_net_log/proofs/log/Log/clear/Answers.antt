-- Nothing stands then, and no grain is out.
use Rattle.std.proofs.Common.{[], subst, sym}
use Rattle.vc_net_standing.specs.Standing.{atoms_of}
use Rattle.vc_net_log.specs.Keeping.{IsCounted}
use Rattle.vc_net_log.proofs.NewLaws.{nothing_left}
use Rattle.vc_net_log.proofs.log.Log.clear.Goals as goal

pub invariant_of-self : goal.invariant_of-self
invariant_of-self c =
    let s = c.self.inside in
    nothing_left s.standing s.cells s.counts s.premises s.outs c.self.invariant c.clear.new.self
    c.count_less.new.outs
    c.clear.ensures
    (c.count_less.ensures.counted []
    (subst (λ facts. IsCounted (atoms_of facts) s.outs) (sym c.facts.ensures) c.self.invariant.counted))
    c.count_less.ensures.long
