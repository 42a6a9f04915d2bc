-- The sums over parts of a tree: none where none stands, and else of what some part has.
use Rattle.std.proofs.Common.{◌≡◌, Bool, false, ◌||◌}
use Rattle.std.specs.List.{list_any}
use Rattle.std.proofs.lemmas.Bool.{or_parts}
use Rattle.vc_syntax_tree.specs.declared.NameLeaf.{NameLeaf}
use Rattle.vc_syntax_tree.specs.Trees.{Term, Number, Text, Operand, Negated, Combined, Applied, SumOfParts}
use Rattle.vc_syntax_tree.specs.Trees.{CountOfParts, Dependency}
use Rattle.vc_types.specs.NameFaults.{is_of_no_part, is_undeclared, is_unknown, is_unknown_call, is_unknown_object}
use Rattle.vc_types.specs.NameFaults.{objects_in, some_operand}
use Rattle.vc_types.specs.Occurrences.{calls_in, has_sum, parted_names, relations_in, summed_in, summed_names, terms_in}
use Rattle.vc_types.specs.Occurrences.{uses_in}
use Rattle.vc_types.specs.Settings.{Setting}
use Rattle.vc_types.specs.SortFaults.{acts_or_counts_wrongly, calls_wrongly, computes_with_text, declares_set}
use Rattle.vc_types.specs.SortFaults.{is_other_variable, misuses_set, parts_a_value, relates_wrongly, sums_texts}
use Rattle.vc_compile_valid.proofs.EachLaws.{Each, each_both, each_flat, each_joined, each_more}
use Rattle.vc_compile_meant.proofs.FaultLaws.{IsSound, each_false}

none_summed : (P : NameLeaf → Type 0) (t : Term) → has_sum t ≡ false → Each P (summed_in t)
none_summed P (Number leaf) h = tt
none_summed P (Text leaf) h = tt
none_summed P (Operand operand) h = tt
none_summed P (Negated t) h = none_summed P t h
none_summed P (Combined left operator right) h =
    let parts = or_parts (has_sum left) (has_sum right) h in
    each_joined P (summed_in left) (summed_in right) (none_summed P left parts.0) (none_summed P right parts.1)
none_summed P (Applied function t) h = none_summed P t h
none_summed P (SumOfParts name) h = absurd (cc)
none_summed P CountOfParts h = absurd (cc)

pub no_sums : (P : NameLeaf → Type 0) (tree : Dependency) → list_any has_sum (terms_in tree) ≡ false
    → Each P (summed_names tree)
no_sums P tree h =
    each_flat P summed_in (terms_in tree)
    (each_more (λ t. has_sum t ≡ false) (λ t. Each P (summed_in t)) (none_summed P) (terms_in tree)
    (each_false has_sum (terms_in tree) h))

-- what a tree without a fault sums is of some part, and no text
pub not_of_parts : (setting : Setting) (tree : Dependency) → IsSound setting tree
    → Each (λ name. (is_of_no_part setting name ≡ false) × (sums_texts setting name ≡ false)) (summed_names tree)
not_of_parts setting tree sound =
    let unknown = or_parts
    (some_operand is_unknown setting tree || (list_any (is_unknown_object setting) (objects_in tree) || list_any
    (is_unknown_call setting) (calls_in tree)))
    (list_any (is_undeclared setting) (parted_names tree) || list_any (is_of_no_part setting)
    (summed_names tree)) sound.unknown in
    let parts = or_parts (list_any (is_undeclared setting) (parted_names tree))
    (list_any (is_of_no_part setting) (summed_names tree)) unknown.1 in
    let kinds = or_parts
    ((list_any (relates_wrongly setting) (relations_in tree) || list_any (computes_with_text setting) (terms_in tree))
    || (acts_or_counts_wrongly setting tree || list_any (calls_wrongly setting) (calls_in tree)))
    ((some_operand is_other_variable setting tree || list_any (parts_a_value setting) (parted_names tree))
    || ((list_any (misuses_set setting) (uses_in tree) || list_any (declares_set setting) (objects_in tree))
    || list_any (sums_texts setting) (summed_names tree))) sound.kinds in
    let rest = or_parts (some_operand is_other_variable setting tree || list_any (parts_a_value setting)
    (parted_names tree))
    ((list_any (misuses_set setting) (uses_in tree) || list_any (declares_set setting) (objects_in tree))
    || list_any (sums_texts setting) (summed_names tree)) kinds.1 in
    let texts = or_parts (list_any (misuses_set setting) (uses_in tree) || list_any (declares_set setting)
    (objects_in tree))
    (list_any (sums_texts setting) (summed_names tree)) rest.1 in
    each_both (λ name. is_of_no_part setting name ≡ false) (λ name. sums_texts setting name ≡ false) (summed_names tree)
    (each_false (is_of_no_part setting) (summed_names tree) parts.1)
    (each_false (sums_texts setting) (summed_names tree) texts.1)
