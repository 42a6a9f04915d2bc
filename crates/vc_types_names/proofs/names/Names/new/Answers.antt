use Rattle.std.proofs.Common.{◌∙◌, ap, map}
use Rattle.std.specs.List.{position}
use Rattle.std.specs.Str.{bytes_eq}
use Rattle.vc_types.specs.RangeFaults.{size_of_values}
use Rattle.vc_types_names.specs.Members.{rows_of}
use Rattle.vc_types_names.proofs.names.Names.new.Goals as goal

pub invariant_of-result : goal.invariant_of-result
invariant_of-result c = record {
  characteristics_are = λ name. c.in_ok-characteristics.ensures name
      ∙ ap (position (λ x. bytes_eq x.name name)) c.as_slice.ensures;
  classes_are = λ name. c.in_ok-classes.ensures name ∙ ap (position (λ x. bytes_eq x.name name)) c.as_slice-2.ensures;
  objects_are = λ name. c.in_ok-objects.ensures name
      ∙ ap (position (λ x. bytes_eq x.material name)) c.as_slice-3.ensures;
  tables_are = λ name. c.in_ok-tables.ensures name ∙ ap (position (λ x. bytes_eq x.name name)) c.as_slice-4.ensures;
  sizes_are = c.in_ok-sizes.ensures ∙ ap (map (λ x. size_of_values x.values)) c.as_slice-5.ensures;
  members_are = c.in_ok-members.ensures ∙ ap rows_of c.as_slice-6.ensures;
}
