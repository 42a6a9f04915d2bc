-- The session of the name is edited, or none has the name.
use Rattle.std.proofs.Common.{◌∙◌, ap, sym, subst}
use Rattle.std.specs.FinMap.{from_entries, get, insert}
use Rattle.std.specs.Option.{option_copied_mut}
use Rattle.std.specs.Prelude.{map}
use Rattle.vc_outside.proofs.NameLaws.{found, value_set}
use Rattle.vc_session.specs.Costing.{EditCosts}
use Rattle.vc_wire_replies.specs.declared.reply.Refusal.TheVariants.{NoSession}
use Rattle.vc_desk_session.specs.Edits.{after_edit}
use Rattle.vc_desk_shown.specs.Standing.{standing_of}
use Rattle.vc_desk.specs.Answers.{EditsSession}
use Rattle.vc_desk.specs.Costing.{SpendsOnEdit, unedited}
use Rattle.vc_desk.specs.Desks.{AreSessionsOf, RepliesTo, named_entry, open_of}
use Rattle.vc_desk.proofs.CostLaws.{edits_spend}
use Rattle.vc_desk.specs.States.{standing_in}
use Rattle.vc_desk.proofs.AnswerLaws.{edits_none, edits_one}
use Rattle.vc_desk.proofs.OpenLaws.{changed_sessions, one_of}
use Rattle.vc_desk.proofs.sessions.Sessions.edit.Goals as goal
use Rattle.vc_desk.proofs.sessions.Sessions.edit.Goals.{in-Some, in-None}

pub apply-edited-requires-clause-of : goal.apply-edited-requires-clause-of
apply-edited-requires-clause-of g c =
    let name = c.bytes.result.now in
    one_of c.args.plan.now c.args.self.now c.requires.of name c.in-Some.session.now
    (ap (λ m. get m name) (sym c.self.view_is) ∙ found (λ key. key.items) c.self.inside.by_name.entries name
    ∙ sym c.get_mut.ensures.value ∙ ap option_copied_mut c.in-Some.is)

pub returns-clause-edits : goal.returns-clause-edits
returns-clause-edits g c =
    let old = c.args.self.now in
    let plan = c.args.plan.now in
    let edit = after_edit c.args.which plan in
    let name = c.bytes.result.now in
    let entries = c.self.inside.by_name.entries in
    let seen = ap (λ m. get m name) (sym c.self.view_is) ∙ found (λ key. key.items) entries name in
    subst (λ name. EditsSession plan (open_of old) name edit (standing_in (open_of old) name) c.match-get_mut.result
    (open_of (from_entries (map named_entry c.match-get_mut.self-inside.by_name.entries)))) c.bytes.ensures
    (elim c.match-get_mut.branch [
      | in-Some w ↦
          let there = sym c.get_mut.ensures.value ∙ ap option_copied_mut w.in-Some.is in
          let new = w.apply-edited.new.session in
          subst (λ sessions. EditsSession plan (open_of old) name edit (standing_in (open_of old) name)
          c.match-get_mut.result (open_of sessions))
          (sym (ap (λ i. from_entries (map named_entry i.by_name.entries)) w.self-inside-is
          ∙ ap (λ es. from_entries (map named_entry es)) (c.get_mut.follows.holds new).0
          ∙ value_set (λ key. key.items) entries name new w.in-Some.session.now there
          ∙ ap (λ m. insert m name new) c.self.view_is))
          (edits_one old name plan edit w.in-Some.session.now new w.apply-edited.result c.match-get_mut.result
          c.args.steps.now w.apply-edited.new.steps (seen ∙ there) w.apply-edited.ensures.edited
          w.apply-edited.ensures.cost
          (subst (RepliesTo plan (standing_of new) w.apply-edited.result) (sym w.result-is) w.reply_to_edit.ensures))
      | in-None w ↦
          let there = sym c.get_mut.ensures.value ∙ ap option_copied_mut w.in-None.is in
          subst (λ sessions. EditsSession plan (open_of old) name edit (standing_in (open_of old) name)
          c.match-get_mut.result (open_of sessions))
          (sym (ap (λ i. from_entries (map named_entry i.by_name.entries)) w.self-inside-is
          ∙ ap (λ m. from_entries (map named_entry m.entries)) c.get_mut.follows.holds-at-none ∙ c.self.view_is))
          (edits_none old name plan edit c.match-get_mut.result (seen ∙ there) (w.result-is ∙ w.refuse.ensures))
    ])

pub returns-clause-of : goal.returns-clause-of
returns-clause-of g c =
    let old = c.args.self.now in
    let plan = c.args.plan.now in
    let name = c.bytes.result.now in
    let entries = c.self.inside.by_name.entries in
    let seen = ap (λ m. get m name) (sym c.self.view_is) ∙ found (λ key. key.items) entries name in
    elim c.match-get_mut.branch [
      | in-Some w ↦
          let there = sym c.get_mut.ensures.value ∙ ap option_copied_mut w.in-Some.is in
          let new = w.apply-edited.new.session in
          subst (AreSessionsOf plan)
          (sym (ap (λ i. from_entries (map named_entry i.by_name.entries)) w.self-inside-is
          ∙ ap (λ es. from_entries (map named_entry es)) (c.get_mut.follows.holds new).0
          ∙ value_set (λ key. key.items) entries name new w.in-Some.session.now there
          ∙ ap (λ m. insert m name new) c.self.view_is))
          (changed_sessions plan old c.requires.of name w.in-Some.session.now new (seen ∙ there)
          w.apply-edited.ensures.of)
      | in-None w ↦
          subst (AreSessionsOf plan)
          (sym (ap (λ i. from_entries (map named_entry i.by_name.entries)) w.self-inside-is
          ∙ ap (λ m. from_entries (map named_entry m.entries)) c.get_mut.follows.holds-at-none ∙ c.self.view_is))
          c.requires.of
    ]

pub returns-clause-spends : goal.returns-clause-spends
returns-clause-spends g c =
    let old = c.args.self.now in
    let plan = c.args.plan.now in
    let name = c.bytes.result.now in
    let entries = c.self.inside.by_name.entries in
    let before = c.args.steps.now in
    let seen = ap (λ m. get m name) (sym c.self.view_is) ∙ found (λ key. key.items) entries name in
    subst (λ name. SpendsOnEdit plan name old
    (from_entries (map named_entry c.match-get_mut.self-inside.by_name.entries)) c.match-get_mut.result before
    c.match-get_mut.steps) c.bytes.ensures
    (elim c.match-get_mut.branch [
      | in-Some w ↦
          let there = sym c.get_mut.ensures.value ∙ ap option_copied_mut w.in-Some.is in
          let new = w.apply-edited.new.session in
          subst (λ sessions. SpendsOnEdit plan name old sessions c.match-get_mut.result before c.match-get_mut.steps)
          (sym (ap (λ i. from_entries (map named_entry i.by_name.entries)) w.self-inside-is
          ∙ ap (λ es. from_entries (map named_entry es)) (c.get_mut.follows.holds new).0
          ∙ value_set (λ key. key.items) entries name new w.in-Some.session.now there
          ∙ ap (λ m. insert m name new) c.self.view_is))
          (edits_spend plan name old w.in-Some.session.now new w.apply-edited.result c.match-get_mut.result before
          c.match-get_mut.steps (seen ∙ there)
          (subst (EditCosts plan w.in-Some.session.now new w.apply-edited.result before) (sym w.steps-is)
          w.apply-edited.ensures.cost)
          (subst (RepliesTo plan (standing_of new) w.apply-edited.result) (sym w.result-is) w.reply_to_edit.ensures))
      | in-None w ↦
          unedited NoSession (w.result-is ∙ w.refuse.ensures)
          (ap (λ i. from_entries (map named_entry i.by_name.entries)) w.self-inside-is
          ∙ ap (λ m. from_entries (map named_entry m.entries)) c.get_mut.follows.holds-at-none ∙ c.self.view_is)
          w.steps-is
    ])
