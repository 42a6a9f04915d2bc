-- What the words ask for beside a run: to check a model, to verify a chain file, to make families of models, or to
-- serve links; and that they ask for none of these.
use Rattle.std.specs.Prelude.{◌≡◌, ℕ, List, [], ◌∷◌, map, codes, string_bytes, Option, Some}
use Rattle.std.specs.Option.{option_map, option_to_list}
use Rattle.vc_app_gen.specs.Counts.{families_asked}
use Rattle.vc_app_serve.specs.Counts.{links_asked}
use Rattle.vc_app_serve.specs.Serving.{Service, service}
use Rattle.vc_app_run.specs.Endings.{Words}
use Rattle.vc_app.specs.declared.words.Command.{Command}
use Rattle.vc_app.specs.declared.words.Command.TheVariants as commands
use Rattle.vc_app.specs.declared.words.Serving.{Serving}

-- the words are `check` and a name
abbrev pub IsCheck : Words → List ℕ → Type 0
IsCheck words model = map string_bytes words ≡ codes "check" ∷ (model ∷ [])

abbrev pub IsNoCheck : Words → Type 0
IsNoCheck words = (model : List ℕ) → ¬ IsCheck words model

-- the words are `verify` and two names
abbrev pub IsVerify : Words → List ℕ → List ℕ → Type 0
IsVerify words model chain = map string_bytes words ≡ codes "verify" ∷ (model ∷ (chain ∷ []))

abbrev pub IsNoVerify : Words → Type 0
IsNoVerify words = (model chain : List ℕ) → ¬ IsVerify words model chain

-- the words are `gen` and a word more
abbrev pub IsGenWith : Words → List ℕ → Type 0
IsGenWith words number = map string_bytes words ≡ codes "gen" ∷ (number ∷ [])

-- that word asks for so many families
abbrev pub IsGen : Words → ℕ → Type 0
IsGen words count = (number : List ℕ) × IsGenWith words number × (families_asked number ≡ Some count)

abbrev pub IsNoGen : Words → Type 0
IsNoGen words = (count : ℕ) → ¬ IsGen words count

-- the words are `serve`, a model, an address and a word more, and may be that of a file that keeps what is saved
abbrev pub IsServeWith : Words → List ℕ → List ℕ → List ℕ → Option (List ℕ) → Type 0
IsServeWith words model address number keep_file =
    map string_bytes words ≡ codes "serve" ∷ (model ∷ (address ∷ (number ∷ option_to_list keep_file)))

-- that word asks for so many links
abbrev pub IsServe : Words → Service → Type 0
IsServe words s = (number : List ℕ) × IsServeWith words s.model s.address number s.keep_file
    × (links_asked number ≡ Some s.count)

abbrev pub IsNoServe : Words → Type 0
IsNoServe words = (s : Service) → ¬ IsServe words s

-- the words ask for none of the four
abbrev pub IsOther : Words → Type 0
IsOther words = IsNoCheck words × IsNoVerify words × IsNoGen words × IsNoServe words

-- how links are to be served, and what the command says is asked for
abbrev pub service_by : Serving → Service
service_by s = service s.model.now s.address.now s.count (option_map (λ name. name.now) s.keep_file)

abbrev pub Asks : Words → Command → Type 0
Asks words (commands.Check model) = IsCheck words model.now
Asks words (commands.Verify model chain) = IsVerify words model.now chain.now
Asks words (commands.Gen count) = IsGen words count
Asks words (commands.Serve serving) = IsServe words (service_by serving)
Asks words commands.Other = IsOther words
