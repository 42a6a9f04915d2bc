-- How many families a word asks for.
use Rattle.std.specs.Prelude.{ℕ, ◌&&◌, nat_le, List, Option, None, Some, if◌then◌else◌}
use Rattle.vc_wire_requests.specs.Requests.{◌>>=◌, index_of}
use Rattle.vc_app_gen.specs.declared.counting.TheConstants.{FAMILY_LIMIT}

-- a number from 1 to the limit, written without a sign and without leading zeros
abbrev pub counted : ℕ → Option ℕ
counted count = if nat_le 1 count && nat_le count FAMILY_LIMIT then Some count else None

abbrev pub families_asked : List ℕ → Option ℕ
families_asked word = index_of word >>= counted
