-- Sources as they begin, and as they are after a change.
use Rattle.std.specs.Prelude.{ℕ, Option, None, replicate, slice_set}
use Rattle.vc_value.specs.declared.value.Value.{Value}
use Rattle.vc_plan.specs.declared.atoms.Mark.{Mark}
use Rattle.vc_plan.specs.Sources.{Sources, Entry}

-- the entry of a mark that the statement of a procedure wrote
abbrev pub entry_from : Mark × ℕ × ℕ → Entry
entry_from told = record { mark = told.0; procedure = told.1; statement = told.2 }

-- the sources of so many variables, none of which has a value or an entry
abbrev pub no_sources : ℕ → Sources
no_sources count = record { user = replicate count None; written = replicate count None }

-- the sources with this value of the user's for the variable, or none; all else as before
abbrev pub with_user : Sources → ℕ → Option Value → Sources
with_user sources v a = record { user = slice_set sources.user v a; written = sources.written }

-- the sources with this entry for the variable, or none; all else as before
abbrev pub with_entry : Sources → ℕ → Option Entry → Sources
with_entry sources v entry = record { user = sources.user; written = slice_set sources.written v entry }
