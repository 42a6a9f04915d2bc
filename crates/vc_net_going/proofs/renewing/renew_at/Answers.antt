-- As with all variables: nobody differs but those that wait.
use Rattle.std.proofs.Common.{◌≡◌, ◌∙◌, ◌++◌, ap, sym}
use Rattle.vc_net_waking.specs.Waking.{with_givers}
use Rattle.vc_net_waking.proofs.GiverLaws.{both_parts}
use Rattle.vc_net_going.specs.Renewing.{changed_among}
use Rattle.vc_net_going.proofs.ChangeLaws.{changes_among}
use Rattle.vc_net_going.proofs.KeepingLaws.{goes_on_with, stays_behind}
use Rattle.vc_net_going.proofs.renewing.renew_at.Goals as goal

asked : (c : goal.After-wake_among-2)
    → c.wake_among-2.new.agenda
    ≡ with_givers c.keep_at.new.work.agenda
    (changed_among c.args.old.now c.args.new.now c.args.touched.now
    ++ changed_among c.args.old.now c.args.new.now c.args.written.now)
asked c =
    let touched = changed_among c.args.old.now c.args.new.now c.args.touched.now in
    let written = changed_among c.args.old.now c.args.new.now c.args.written.now in
    c.wake_among-2.ensures
    ∙ (ap (λ a. with_givers a written) c.wake_among.ensures
    ∙ sym (both_parts c.keep_at.new.work.agenda touched written))

pub returns-clause-going : goal.returns-clause-going
returns-clause-going c =
    let plan = c.args.plan.now in
    let old = c.args.old.now in
    let new = c.args.new.now in
    let touched = c.args.touched.now in
    let written = c.args.written.now in
    goes_on_with plan old new c.args.work.now c.keep_at.new.work c.requires.going c.keep_at.ensures
    (changed_among old new touched ++ changed_among old new written)
    (changes_among plan old new touched written c.requires.lengths c.requires.others c.requires.touched
    c.requires.written)
    c.wake_among-2.new.agenda (asked c)

pub returns-clause-behind : goal.returns-clause-behind
returns-clause-behind c =
    let plan = c.args.plan.now in
    let old = c.args.old.now in
    let new = c.args.new.now in
    let touched = c.args.touched.now in
    let written = c.args.written.now in
    stays_behind plan old new c.args.work.now c.keep_at.new.work c.requires.going c.keep_at.ensures
    (changed_among old new touched ++ changed_among old new written)
    (changes_among plan old new touched written c.requires.lengths c.requires.others c.requires.touched
    c.requires.written)
    c.wake_among-2.new.agenda (asked c) c.requires.valid

pub returns-clause-kept : goal.returns-clause-kept
returns-clause-kept c = c.keep_at.ensures.kept

pub returns-clause-calm : goal.returns-clause-calm
returns-clause-calm c = c.keep_at.ensures.calm
