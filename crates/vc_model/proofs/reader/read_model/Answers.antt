use Rattle.vc_model.proofs.ReadingLaws.{only_model, only_fault}
use Rattle.vc_model.proofs.reader.read_model.Goals as goal

pub returns-clause-only : goal.returns-clause-only
returns-clause-only c =
    only_model c.args.text.now c.read_bytes-answer.result c.read_bytes-answer.ensures.found
    c.read_bytes-answer.ensures.told

pub returns-clause-fault : goal.returns-clause-fault
returns-clause-fault c =
    only_fault c.args.text.now c.read_bytes-answer.result c.read_bytes-answer.ensures.found
    c.read_bytes-answer.ensures.told
