-- The bytes of a word, wherever they stand.
use Rattle.std.specs.Prelude.{ℕ, List}
use Rattle.vc_syntax_tree.specs.declared.short_word.Stored.{Stored}
use Rattle.vc_syntax_tree.specs.declared.short_word.Stored.TheVariants as places

abbrev pub stored_bytes : Stored → List ℕ
stored_bytes (places.Here bytes) = bytes
stored_bytes (places.Apart word) = word.value
