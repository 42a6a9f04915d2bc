use Rattle.std.proofs.Common.{◌∙◌, ap, sym, Some, None, if◌then◌else◌}
use Rattle.std.specs.List.{slice_get}
use Rattle.vc_types.specs.Looking.{member_in}
use Rattle.vc_types_names.specs.Members.{is_flagged}
use Rattle.vc_types_names.proofs.MemberLemmas.{member_is}
use Rattle.vc_types_names.proofs.names.Names.member_in.Goals as goal

pub returns-in-Some : goal.returns-in-Some
returns-in-Some c =
    let names = c.args.self.now in
    let number = c.in-Some.characteristic in
    c.if_flagged.ensures
    ∙ ap (λ row. if is_flagged row number then Some number else None)
    (c.element.ensures ∙ ap (λ rows. slice_get rows c.args.class) (c.as_slice.ensures ∙ names.members_are))
    ∙ member_is names.model.now.classes c.args.class number
    ∙ ap (member_in (slice_get names.model.now.classes c.args.class)) (sym c.in-Some.is)
