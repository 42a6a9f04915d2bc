-- The model put together is the one that the lines describe.
use Rattle.std.proofs.Common.{◌∙◌, ap, sym}
use Rattle.vc_model_lines.specs.Classified.{lines_of}
use Rattle.vc_model_drafts.specs.Drafts.{seen_draft}
use Rattle.vc_model_drafts.specs.Seen.{seen_model}
use Rattle.vc_model.proofs.ReadingLaws.{described_is}
use Rattle.vc_model.proofs.reader.describe.Goals as goal

pub returns : goal.returns
returns c =
    described_is (lines_of c.args.text.now) c.scope-2.result.now c.in_ok-texts.texts (seen_draft c.in_ok-draft.draft)
    (seen_model c.into_model.result)
    c.into_model.ensures c.in_ok-draft.ensures
    (c.in_ok-texts.ensures ∙ ap (λ s. s.declared.texts) (sym c.scope-2.ensures))
    (c.scope-2.ensures ∙ c.requires.scope)
