-- The session of the name is taken out, or none has the name.
use Rattle.std.proofs.Common.{◌≡◌, ◌∙◌, ap, sym, subst}
use Rattle.std.specs.FinMap.{from_entries, get, remove}
use Rattle.std.specs.Prelude.{map, is_some}
use Rattle.vc_outside.proofs.NameLaws.{found, removed}
use Rattle.vc_desk.specs.Answers.{Closes}
use Rattle.vc_desk.specs.Desks.{AreSessionsOf, named_entry, open_of}
use Rattle.vc_desk.specs.States.{standing_in}
use Rattle.vc_desk.proofs.AnswerLaws.{closes_none, closes_one}
use Rattle.vc_desk.proofs.OpenLaws.{closed_sessions, removed_none}
use Rattle.vc_desk.proofs.sessions.Sessions.close.Goals as goal
use Rattle.vc_desk.proofs.sessions.Sessions.close.Goals.{else-found, then-found}

pub returns-clause-closes : goal.returns-clause-closes
returns-clause-closes c =
    let old = c.args.self.now in
    let name = c.bytes.result.now in
    let new = from_entries (map named_entry c.remove-removed.new.self.entries) in
    let left : new ≡ remove old name =
    ap (λ es. from_entries (map named_entry es)) c.remove-removed.ensures.entries
    ∙ removed (λ key. key.items) c.self.inside.by_name.entries name c.len-count.ensures.ordered
    ∙ ap (λ m. remove m name) c.self.view_is in
    let there : is_some (get old name) ≡ c.is_some-found.result =
    ap is_some (ap (λ m. get m name) (sym c.self.view_is)
    ∙ found (λ key. key.items) c.self.inside.by_name.entries name ∙ sym c.remove-removed.ensures.value)
    ∙ sym c.is_some-found.ensures in
    subst (λ name. Closes (open_of old) name (standing_in (open_of old) name) c.if-found.result (open_of new))
    c.bytes.ensures
    (subst (λ sessions. Closes (open_of old) name (standing_in (open_of old) name) c.if-found.result
    (open_of sessions)) (sym left)
    (elim c.if-found.branch [
      | then-found w ↦
          subst (λ reply. Closes (open_of old) name (standing_in (open_of old) name) reply
          (open_of (remove old name))) (sym w.result-is) (closes_one old name (there ∙ w.if-found.true))
      | else-found w ↦
          subst (λ sessions. Closes (open_of old) name (standing_in (open_of old) name) c.if-found.result
          (open_of sessions)) (sym (removed_none old name (there ∙ w.if-found.false)))
          (closes_none old name c.if-found.result (there ∙ w.if-found.false) (w.result-is ∙ w.refused.ensures))
    ]))

pub returns-clause-of : goal.returns-clause-of
returns-clause-of c =
    subst (AreSessionsOf c.args.plan.now)
    (sym (ap (λ es. from_entries (map named_entry es)) c.remove-removed.ensures.entries
    ∙ removed (λ key. key.items) c.self.inside.by_name.entries c.bytes.result.now c.len-count.ensures.ordered
    ∙ ap (λ m. remove m c.bytes.result.now) c.self.view_is))
    (closed_sessions c.args.plan.now c.args.self.now c.requires.of c.bytes.result.now)

pub returns-clause-gone : goal.returns-clause-gone
returns-clause-gone c =
    ap (λ es. from_entries (map named_entry es)) c.remove-removed.ensures.entries
    ∙ removed (λ key. key.items) c.self.inside.by_name.entries c.bytes.result.now c.len-count.ensures.ordered
    ∙ ap (λ m. remove m c.bytes.result.now) c.self.view_is
    ∙ ap (remove c.args.self.now) c.bytes.ensures
