-- The first fault that stands is told; where none does, what is given is what was chosen.
use Rattle.std.proofs.Common.{sym, ◌∙◌}
use Rattle.vc_store_forms.specs.Forms.{Saved}
use Rattle.vc_store.proofs.ReadingLaws.{form_known, form_other, form_twice, known_none, known_some, twice_said}
use Rattle.vc_store.proofs.reading.read_form.Goals as goal

pub returns-then-branch : goal.returns-then-branch
returns-then-branch c = λ choices e.
    let plan = c.args.plan.now in
    let saved : Saved
    = record { model = c.args.found.model.now; version = c.args.found.version; choices = choices } in
    form_twice plan saved
    (sym (twice_said plan c.args.found.values.now choices e) ∙ sym c.in_ok-stands_twice.ensures ∙ c.if-branch.true)

pub returns-then-not-is_of : goal.returns-then-not-is_of
returns-then-not-is_of c = λ choices e.
    let plan = c.args.plan.now in
    let saved : Saved
    = record { model = c.args.found.model.now; version = c.args.found.version; choices = choices } in
    form_other plan saved
    (sym (twice_said plan c.args.found.values.now choices e) ∙ sym c.in_ok-stands_twice.ensures ∙ c.if-branch.false)
    (sym c.is_of.ensures ∙ c.if-not-is_of.true)

pub returns-in-Some : goal.returns-in-Some
returns-in-Some c = λ choices e.
    let plan = c.args.plan.now in
    let saved : Saved
    = record { model = c.args.found.model.now; version = c.args.found.version; choices = choices } in
    form_known plan saved
    (sym (twice_said plan c.args.found.values.now choices e) ∙ sym c.in_ok-stands_twice.ensures ∙ c.if-branch.false)
    (sym c.is_of.ensures ∙ c.if-not-is_of.false)
    ∙ known_some plan saved c.args.found.values.now c.in-Some.users e (sym c.in_ok-users.ensures ∙ c.in-Some.is)

pub returns-in-None : goal.returns-in-None
returns-in-None c = λ choices e.
    let plan = c.args.plan.now in
    let saved : Saved
    = record { model = c.args.found.model.now; version = c.args.found.version; choices = choices } in
    form_known plan saved
    (sym (twice_said plan c.args.found.values.now choices e) ∙ sym c.in_ok-stands_twice.ensures ∙ c.if-branch.false)
    (sym c.is_of.ensures ∙ c.if-not-is_of.false)
    ∙ known_none plan saved c.args.found.values.now e (sym c.in_ok-users.ensures ∙ c.in-None.is)
