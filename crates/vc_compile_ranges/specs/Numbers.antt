-- The numbers that dependencies write have at most nine digits before the point.
use Rattle.std.specs.Prelude.{Bool, true, ◌&&◌, List, [], flat_map}
use Rattle.std.specs.List.{list_all}
use Rattle.vc_model_parts.specs.declared.parts.Model.{Model}
use Rattle.vc_plan.specs.Ranges.{is_stored}
use Rattle.vc_syntax_tree.specs.declared.Item.{Item}
use Rattle.vc_syntax_tree.specs.declared.Item.TheVariants as items
use Rattle.vc_syntax_tree.specs.Trees.{Term, Number, Text, Operand, Negated, Combined, Applied, SumOfParts}
use Rattle.vc_syntax_tree.specs.Trees.{CountOfParts}
use Rattle.vc_syntax_tree.specs.Trees.{Relation, Compared, Within, Dependency}
use Rattle.vc_types.specs.Occurrences.{relations_in, terms_in}
use Rattle.vc_compile_origins.specs.Trees.{TreesPass}

abbrev pub stores_numbers : Term → Bool
stores_numbers (Number leaf) = is_stored leaf.number
stores_numbers (Text leaf) = true
stores_numbers (Operand operand) = true
stores_numbers (Negated term) = stores_numbers term
stores_numbers (Combined left operator right) = stores_numbers left && stores_numbers right
stores_numbers (Applied function term) = stores_numbers term
stores_numbers (SumOfParts name) = true
stores_numbers CountOfParts = true

abbrev pub is_stored_item : Item → Bool
is_stored_item (items.Text leaf) = true
is_stored_item (items.Number number) = is_stored number.leaf.number
is_stored_item (items.Interval low high) = is_stored low.leaf.number && is_stored high.leaf.number

-- what a relation lists behind IN
abbrev pub listed_in : Relation → List Item
listed_in (Compared left relator right) = []
listed_in (Within operand listed) = listed

abbrev pub has_stored_numbers : Dependency → Bool
has_stored_numbers tree =
    list_all stores_numbers (terms_in tree) && list_all is_stored_item (flat_map listed_in (relations_in tree))

abbrev pub KeepsNumbers : Model → Type 0
KeepsNumbers = TreesPass has_stored_numbers
