-- The net of the stage has settled in its place.
use Rattle.std.proofs.Common.{◌∙◌, ap, refl, length, subst, sym}
use Rattle.std.proofs.lemmas.Bool.{ltb-true}
use Rattle.std.proofs.lemmas.Option.{slice_get_read}
use Rattle.vc_plan.specs.Sources.{Sources}
use Rattle.vc_plan_reasons.specs.Fitting.{sources_fit}
use Rattle.vc_net.specs.Differing.{AreAllWritten, SameBeside}
use Rattle.vc_net.specs.Nets.{Netted}
use Rattle.vc_plan_users.specs.Choosing.{users_of}
use Rattle.vc_session_evaluation.specs.Costing.{HasSynced}
use Rattle.vc_session_evaluation.proofs.GoingLaws.{blanks_are_same, filled_is, settled_at}
use Rattle.vc_session_evaluation.proofs.stages.Stages.settle.Goals as goal

pub fill_entries_at-requires-clause-beside : goal.fill_entries_at-requires-clause-beside
fill_entries_at-requires-clause-beside g c =
    blanks_are_same c.args.plan.now (users_of c.args.users.now) c.args.self.now c.as_slice-written.result.now
    c.requires.of c.as_slice-written.ensures c.requires.fits

pub settle-requires-clause-fits : goal.settle-requires-clause-fits
settle-requires-clause-fits g c =
    ap (sources_fit c.args.plan.now)
    (filled_is (users_of c.args.users.now) c.args.self.now.overlay c.fill_entries_at.new.sources
    c.args.self.now.sources.user c.fill_entries_at.ensures c.requires.taken)
    ∙ c.requires.fits

pub settle-requires-clause-touched : goal.settle-requires-clause-touched
settle-requires-clause-touched g c = λ follows.
    let nets = c.args.self.now.nets.items in
    let was : Netted = c.index_mut.result.now in
    let own = ap (λ (s : Sources). s.user) c.fill_entries_at.ensures ∙ c.requires.taken in
    subst (λ values. SameBeside c.args.touched.now was.sources.user values) (sym own)
    (c.requires.follows was (ltb-true c.args.stage c.args.following follows)
    (slice_get_read nets (length nets) c.args.stage was refl c.requires.there c.index_mut.ensures.value))

pub settle-requires-clause-written : goal.settle-requires-clause-written
settle-requires-clause-written g c =
    subst (AreAllWritten c.args.plan.now) (sym c.as_slice-written.ensures) c.requires.of.writes

pub returns-clause-settles : goal.returns-clause-settles
returns-clause-settles g c =
    settled_at c.args.plan.now (users_of c.args.users.now) c.args.stage c.args.self.now _ c.settle.new.net
    c.settle.result c.requires.of c.requires.users c.settle.ensures.of refl
    (filled_is (users_of c.args.users.now) c.args.self.now.overlay c.fill_entries_at.new.sources
    c.args.self.now.sources.user c.fill_entries_at.ensures c.requires.taken)
    c.requires.fits c.settle.ensures.settled refl refl refl refl refl

pub returns-clause-syncs : goal.returns-clause-syncs
returns-clause-syncs g c =
    let plan = c.args.plan.now in
    let nets = c.args.self.now.nets.items in
    let was : Netted = c.index_mut.result.now in
    record {
      was = was;
      there = slice_get_read nets (length nets) c.args.stage was refl c.requires.there c.index_mut.ensures.value;
      net = c.settle.new.net;
      nets = refl;
      synced = subst (λ (sources : Sources). HasSynced plan sources was c.settle.new.net c.args.steps.now
          c.settle.new.steps)
          (filled_is (users_of c.args.users.now) c.args.self.now.overlay c.fill_entries_at.new.sources
          c.args.self.now.sources.user c.fill_entries_at.ensures c.requires.taken)
          c.settle.ensures.synced;
    }
