-- The new session stands beside the others.
use Rattle.std.proofs.Common.{◌∙◌, ap}
use Rattle.std.specs.FinMap.{from_entries, insert}
use Rattle.std.specs.Prelude.{map}
use Rattle.vc_outside.proofs.NameLaws.{inserted}
use Rattle.vc_desk.specs.Desks.{named_entry}
use Rattle.vc_desk.proofs.sessions.Sessions.begin.Goals as goal

pub returns-clause-opened : goal.returns-clause-opened
returns-clause-opened c = record {
  session = c.in_ok-session.session;
  of = c.in_ok-session.ensures.of;
  none = c.in_ok-session.ensures.none;
  behind = c.in_ok-session.ensures.behind;
  put = ap (λ es. from_entries (map named_entry es)) c.in_ok-insert.ensures.entries
      ∙ inserted (λ key. key.items) c.self.inside.by_name.entries c.in_ok-key.key c.in_ok-session.session
      ∙ ap (λ m. insert m c.in_ok-key.key.items c.in_ok-session.session) c.self.view_is
      ∙ ap (λ name. insert c.args.self.now name c.in_ok-session.session) (c.in_ok-key.ensures.items ∙ c.bytes.ensures);
  stands = c.status-status.ensures;
}
