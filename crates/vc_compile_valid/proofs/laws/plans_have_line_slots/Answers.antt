use Rattle.vc_compile_valid.proofs.LineSlotLaws.{has_line_slots}
use Rattle.vc_compile_valid.proofs.laws.plans_have_line_slots.Goals as goal

pub returns : goal.returns
returns c model tables plan is keeps there = has_line_slots model tables plan keeps is there
