-- The body of a request: a JSON object with one member, a text.
use Rattle.std.specs.Prelude.{ℕ, ◌==◌, if◌then◌else◌, List, Option, None, option_and_then}
use Rattle.std.specs.Str.{is_utf8}
use Rattle.serde_json.specs.Data.{Data}
use Rattle.serde_json.specs.Read.{read}
use Rattle.vc_store_forms.specs.Shapes.{member_count, text_at}

-- the JSON value that the bytes are; where they aren't UTF-8 they are none
abbrev pub json_in : List ℕ → Option Data
json_in bytes = if is_utf8 bytes then read bytes else None

-- the text of the only member, where its key is this one. Of two equal keys the last counts
abbrev pub only_text : List ℕ → Data → Option (List ℕ)
only_text key json = if member_count json == 1 then text_at key json else None

abbrev pub text_in : List ℕ → List ℕ → Option (List ℕ)
text_in key bytes = option_and_then (only_text key) (json_in bytes)
