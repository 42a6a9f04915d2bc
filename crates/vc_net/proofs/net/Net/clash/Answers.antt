-- The clash is what is left of that of the net's work.
use Rattle.std.proofs.Common.{◌≡◌, subst}
use Rattle.std.specs.Prelude.{IfOk, option_map}
use Rattle.vc_plan_reasons.specs.Trimming.{trimmed_clash}
use Rattle.vc_net.specs.Ending.{clash_of}
use Rattle.vc_net.specs.Nets.{Netted}
use Rattle.vc_net.proofs.net.Net.clash.Goals as goal

pub returns : goal.returns
returns c =
    subst (λ (net : Netted). IfOk c.clash.result (λ clash. clash ≡ option_map trimmed_clash (clash_of net.work)))
    c.self.view_is c.clash.ensures
