-- The last that is kept is the last that is seen.
use Rattle.vc_model_drafts.proofs.DraftLaws.{last_reading, no_reading}
use Rattle.vc_model_drafts.proofs.drafts.pop_reading.Goals as goal

pub returns-in-Some : goal.returns-in-Some
returns-in-Some c before read s =
    last_reading c.args.readings.now c.pop.new.self c.in-Some.read before read c.in-Some.ensures.some s

pub returns-in-None : goal.returns-in-None
returns-in-None c before read s = no_reading c.args.readings.now before read c.in-None.ensures.none.0 s
