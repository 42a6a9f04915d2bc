use Rattle.vc_model.proofs.ReadingLaws.{found_text, told_text, told_not_text}
use Rattle.vc_model.proofs.reader.read_bytes.Goals as goal

pub returns-in-Ok-clause-found : goal.returns-in-Ok-clause-found
returns-in-Ok-clause-found c =
    let h
    = c.in-Ok.ensures.cases in
    found_text _ _ c.read_text.result h.0 h.1 c.read_text.ensures.sound c.read_text.ensures.model

pub returns-in-Ok-clause-told : goal.returns-in-Ok-clause-told
returns-in-Ok-clause-told c = λ kind line e. let h = c.in-Ok.ensures.cases in
    told_text _ _ kind line h.0 h.1 (c.read_text.ensures.bad kind line e)

pub returns-in-Err-clause-told : goal.returns-in-Err-clause-told
returns-in-Err-clause-told c = λ kind line e. told_not_text _ kind line c.in-Err.ensures.cases.0 (cc)
