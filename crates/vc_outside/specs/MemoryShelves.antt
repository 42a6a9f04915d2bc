-- Files in memory.
use Rattle.std.specs.Prelude.{ℕ, List, [], drop, length, min, Option, Some, None, unwrap_or, Result, Ok, Err}
use Rattle.std.specs.Prelude.{slice_index_or, if◌then◌else◌}
use Rattle.vc_outside.specs.Shelves.{Files, content_of}
use Rattle.vc_outside.specs.Faults.{Calls, next_fails, with_call}
use Rattle.vc_outside.specs.declared.fault.Failed.{Failed}
use Rattle.vc_outside.specs.declared.shelf.Found.{Found}
use Rattle.vc_outside.specs.declared.shelf.Found.TheVariants.{There, Missing}

-- what a shelf in memory is: its files, the bytes left of the one begun, and its calls
pub record ShelfState : Type 0 where
  pub files : Files
  pub left : Option (List ℕ)
  pub calls : Calls

-- what the file of this index holds
abbrev pub content_at : Files → ℕ → List ℕ
content_at files index = (slice_index_or files index ([], [])).1

-- the bytes of the file of this index past the first ones
abbrev pub left_at : Files → ℕ → ℕ → List ℕ
left_at files index count = drop count (content_at files index)

-- whether there is a file, by what it holds
abbrev pub found_in : Option (List ℕ) → Found
found_in None = Missing
found_in (Some content) = There

-- how a file is begun: it fails where the next call is to fail, and nowhere else
abbrev pub begin_answer : ShelfState → List ℕ → Result Found Failed
begin_answer s name = if next_fails s.calls then Err (record {}) else Ok (found_in (content_of s.files name))

abbrev pub with_begun : ShelfState → List ℕ → ShelfState
with_begun s name = record {
  files = s.files;
  left = if next_fails s.calls then None else content_of s.files name;
  calls = with_call s.calls;
}

-- how many bytes are read to a buffer of this length: as many as are left and fit
abbrev pub read_count : ShelfState → ℕ → ℕ
read_count s room = min (length (unwrap_or s.left [])) room

-- how bytes are read: it fails where the next call is to fail, and nowhere else
abbrev pub read_answer : ShelfState → ℕ → Result ℕ Failed
read_answer s room = if next_fails s.calls then Err (record {}) else Ok (read_count s room)

abbrev pub with_read : ShelfState → ℕ → ShelfState
with_read s room = record {
  files = s.files;
  left = if next_fails s.calls then s.left else Some (drop (read_count s room) (unwrap_or s.left []));
  calls = with_call s.calls;
}
