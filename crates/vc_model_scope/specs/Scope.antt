-- The scope of a line: all that the lines before it say, the nearest of them first.
use Rattle.std.specs.Prelude.{◌||◌, List, [], unwrap_or, if◌then◌else◌}
use Rattle.vc_model_lines.specs.declared.line.Line.{Line}
use Rattle.vc_model_scope.specs.declared.scope.Scope.{Scope}
use Rattle.vc_model_scope.specs.declared.scope.Standing.{Standing}
use Rattle.vc_model_scope.specs.declared.scope.Uses.{Uses}
use Rattle.vc_model_scope.specs.declared.stands.Under.TheVariants as unders
use Rattle.vc_model_scope.specs.declared.stands.UsesPlace.TheVariants as places
use Rattle.vc_model_scope.specs.Entries.{with_entry}
use Rattle.vc_model_scope.specs.Names.{with_name}
use Rattle.vc_model_scope.specs.Naming.{declared_in, with_declared, dependencies_in, with_dependencies}
use Rattle.vc_model_scope.specs.Recursions.{some_line, last_said, listed, with_last, with_option}
use Rattle.vc_model_scope.specs.Stands.{under_at, uses_place_at, opens, ends_uses, counts, is_head, is_root}
use Rattle.vc_model_scope.specs.Contents.{text_of, entry_of, member_of, column_of, item_of, operation_of, use_of}

-- what a line may belong to, and what is listed there
abbrev pub standing_in : List Line → Standing
standing_in earlier = record {
  under = last_said unders.Nothing under_at earlier;
  texts = listed with_name opens text_of earlier;
  entries = listed with_entry opens entry_of earlier;
  members = listed with_name opens member_of earlier;
  columns = listed with_name opens column_of earlier;
  items = listed with_last opens item_of earlier;
  operations = listed with_last opens operation_of earlier;
}

-- the same with one line more
abbrev pub with_standing : Standing → Line → Standing
with_standing s line = record {
  under = unwrap_or (under_at line) s.under;
  texts = if opens line then [] else with_option with_name s.texts (text_of line);
  entries = if opens line then [] else with_option with_entry s.entries (entry_of line);
  members = if opens line then [] else with_option with_name s.members (member_of line);
  columns = if opens line then [] else with_option with_name s.columns (column_of line);
  items = if opens line then [] else with_option with_last s.items (item_of line);
  operations = if opens line then [] else with_option with_last s.operations (operation_of line);
}

-- what a USES is for, and what is used there
abbrev pub uses_in : List Line → Uses
uses_in earlier = record {
  place = last_said places.Nowhere uses_place_at earlier;
  names = listed with_name ends_uses use_of earlier;
}

-- the same with one line more
abbrev pub with_uses : Uses → Line → Uses
with_uses u line = record {
  place = unwrap_or (uses_place_at line) u.place;
  names = if ends_uses line then [] else with_option with_name u.names (use_of line);
}

-- all of it
unfoldable pub scope_of : List Line → Scope
scope_of earlier = record {
  counted = some_line counts earlier;
  head = some_line is_head earlier;
  root = some_line is_root earlier;
  declared = declared_in earlier;
  dependencies = dependencies_in earlier;
  standing = standing_in earlier;
  uses = uses_in earlier;
}

abbrev pub with_marks : Scope → Line → Scope
with_marks a line = record a
    { counted = counts line || a.counted; head = is_head line || a.head; root = is_root line || a.root }

-- the same with one line more
unfoldable pub with_line : Scope → Line → Scope
with_line a line = record {
  counted = counts line || a.counted;
  head = is_head line || a.head;
  root = is_root line || a.root;
  declared = with_declared a.declared line;
  dependencies = with_dependencies a.dependencies line;
  standing = with_standing a.standing line;
  uses = with_uses a.uses line;
}
