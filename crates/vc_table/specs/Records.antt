-- The records of a comma-separated text.
use Rattle.std.specs.Prelude.{ℕ, List}
use Rattle.csv.specs.Reading.{records, default_config, strip_bom}

-- a record's fields, each as its bytes
abbrev pub Fields : Type 0
Fields = List (List ℕ)

-- the records of a text, of which a byte order mark at the front is no part
abbrev pub records_of : List ℕ → List Fields
records_of text = records default_config (strip_bom text)
