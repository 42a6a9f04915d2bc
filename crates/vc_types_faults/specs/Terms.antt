-- What terms and operands are.
use Rattle.std.specs.Prelude.{ℕ, Bool, true, false, Option, Some, None}
use Rattle.vc_syntax_tree.specs.declared.Operand.{Operand}
use Rattle.vc_syntax_tree.specs.declared.Operand.TheVariants.{Owned}
use Rattle.vc_syntax_tree.specs.declared.Owner.TheVariants.{Itself}

-- a characteristic of `$SELF`
abbrev pub is_itself : Operand → Bool
is_itself (Owned Itself leaf) = true
is_itself operand = false

-- the test, of what is there
abbrev pub if_part : (ℕ → Bool) → Option ℕ → Bool
if_part test None = false
if_part test (Some class) = test class
