-- The lines are those of what the evaluation reaches.
use Rattle.std.proofs.Common.{◌∙◌, ap}
use Rattle.vc_plan_users.specs.Choosing.{users_of}
use Rattle.vc_bill.specs.Texts.{bill_text}
use Rattle.vc_bill.proofs.FittingLaws.{valid_plans_bill}
use Rattle.vc_desk_shown.specs.Shown.{bill_shown}
use Rattle.vc_desk_shown.proofs.ShownLaws.{bills, if_ok_same, settled_sessions_reach}
use Rattle.vc_desk_shown.proofs.bills.settled_bill.Goals as goal

pub bill_lines-requires-clause-fit : goal.bill_lines-requires-clause-fit
bill_lines-requires-clause-fit c = valid_plans_bill c.args.plan.now c.requires.valid

pub bill_lines-requires-clause-values : goal.bill_lines-requires-clause-values
bill_lines-requires-clause-values c =
    (settled_sessions_reach c.args.plan.now c.args.session.now c.requires.valid c.requires.of c.requires.settled).lies

pub returns : goal.returns
returns c =
    if_ok_same c.print_bill.result (bill_text c.args.plan.now c.as_slice.result.now)
    (bill_shown c.args.plan.now (users_of c.args.session.now.users))
    (ap (bill_text c.args.plan.now)
    (c.as_slice.ensures ∙ c.in_ok-lines.ensures
    ∙ bills c.args.plan.now c.args.session.now c.requires.of c.requires.valid c.requires.settled))
    c.print_bill.ensures
