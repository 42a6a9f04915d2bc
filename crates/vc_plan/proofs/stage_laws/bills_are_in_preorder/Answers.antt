use Rattle.vc_plan.proofs.StageProofs.ShownLines.{bills_show_taken_lines}
use Rattle.vc_plan.proofs.StageProofs.TakenLines.{bills_have_taken_lines}
use Rattle.vc_plan.proofs.StageProofs.Nested.{components_follow}
use Rattle.vc_plan.proofs.StageProofs.OwnLines.{own_lines_in_order}
use Rattle.vc_plan.proofs.StageProofs.Levels.{levels_suffice}
use Rattle.vc_plan.proofs.stage_laws.bills_are_in_preorder.Goals as goal

pub returns-clause-follow : goal.returns-clause-follow
returns-clause-follow c = components_follow

pub returns-clause-own : goal.returns-clause-own
returns-clause-own c = own_lines_in_order

pub returns-clause-levels : goal.returns-clause-levels
returns-clause-levels c = levels_suffice

pub returns-clause-taken : goal.returns-clause-taken
returns-clause-taken c = bills_have_taken_lines

pub returns-clause-shown : goal.returns-clause-shown
returns-clause-shown c = bills_show_taken_lines
