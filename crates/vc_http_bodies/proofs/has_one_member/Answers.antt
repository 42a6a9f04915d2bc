use Rattle.std.proofs.Common.{ap, sym, ◌∙◌, nat_eq}
use Rattle.serde_json.specs.View.{members_view, view}
use Rattle.serde_json.proofs.Views.{members_len-members_view}
use Rattle.vc_store_forms.proofs.FormLaws.{object_count}
use Rattle.vc_http_bodies.proofs.has_one_member.Goals as goal

pub returns-in-Some : goal.returns-in-Some
returns-in-Some c =
    let members = c.in-Some.members.now.entries in
    ap (λ n. nat_eq n 1)
    (c.len.ensures.len ∙ sym (members_len-members_view members)
    ∙ sym (object_count (view c.args.json.now) (members_view members) c.in-Some.ensures))
