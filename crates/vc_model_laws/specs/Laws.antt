-- What every model keeps that some text spells.
use Rattle.std.specs.Prelude.{ℕ, List}
use Rattle.vc_model.specs.Spelled.{Spells}
use Rattle.vc_model_drafts.specs.Seen.{SeenModel}

-- each model that some text spells keeps this
abbrev pub SpelledKeeps : (SeenModel → Type 0) → Type 0
SpelledKeeps Keeps = (text : List ℕ) (model : SeenModel) → Spells text model → Keeps model
