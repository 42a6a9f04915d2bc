use Rattle.vc_model.proofs.ReadingLaws.{fault_or_model}
use Rattle.vc_model.proofs.laws.a_text_has_a_fault_or_spells_a_model.Goals as goal

pub returns : goal.returns
returns c = fault_or_model c.args.text.now
