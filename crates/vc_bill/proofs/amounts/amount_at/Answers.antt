-- The stored number is that of its count.
use Rattle.std.proofs.Common.{◌∙◌, ap}
use Rattle.vc_plan.specs.Bills.{stored}
use Rattle.vc_bill.proofs.AmountLemmas.{stored_again}
use Rattle.vc_bill.proofs.amounts.amount_at.Goals as goal

pub returns : goal.returns
returns g c = stored_again c.amount.result ∙ ap stored c.amount.ensures
