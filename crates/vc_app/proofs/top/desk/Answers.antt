-- What a command tells is told of the words that ask for it, and of no others; of words that ask for none, what the
-- ending's status promises, and that words and files decide it.
use Rattle.std.proofs.Common.{◌≡◌, ℕ, List, Option, subst}
use Rattle.vc_desk.specs.Keeping.{keeping}
use Rattle.vc_app_check.proofs.CheckLaws.{some_spot}
use Rattle.vc_app_check.specs.Checking.{outside}
use Rattle.vc_app_serve.specs.Serving.{EndsServe, at_door}
use Rattle.vc_app_serve.specs.Visits.{links, telling}
use Rattle.vc_app_run.specs.Endings.{keep_file}
use Rattle.vc_app_run.proofs.ExactnessLaws.{exactly}
use Rattle.vc_app_run.proofs.StatusLaws.{promised}
use Rattle.vc_app.specs.Asked.{Asks, service_by}
use Rattle.vc_app.proofs.AskedLaws.{one_service}
use Rattle.vc_app.proofs.top.desk.Goals as goal

-- `gen`
pub returns-in-Gen-clause-status : goal.returns-in-Gen-clause-status
returns-in-Gen-clause-status g c = λ other.
    absurd (other.2 c.in-Gen.count (subst (Asks c.args.words.now) c.in-Gen.is c.command_of.ensures))

pub returns-in-Gen-clause-exact : goal.returns-in-Gen-clause-exact
returns-in-Gen-clause-exact g c = λ other.
    absurd (other.2 c.in-Gen.count (subst (Asks c.args.words.now) c.in-Gen.is c.command_of.ensures))

-- `serve`
pub returns-in-Serve-clause-serve : goal.returns-in-Serve-clause-serve
returns-in-Serve-clause-serve g c =
    let old = c.args in
    let new = c.serve.new in
    let its = service_by c.in-Serve.asked in
    let o = outside (g.F.Shelf.files old.shelf.now) (g.F.Shelf.faults old.shelf.now) (g.F.Shelf.faults new.shelf)
    (g.S.Sink.written old.out.now) (g.S.Sink.written new.out) (g.S.Sink.faults old.out.now)
    (g.S.Sink.faults new.out) in
    let k = λ (place : Option (List ℕ)).
    keeping (g.K.Keeper.texts old.keeper.now) (g.K.Keeper.opens old.keeper.now place) (g.K.Keeper.texts new.keeper)
    (g.K.Keeper.faults old.keeper.now) (g.K.Keeper.faults new.keeper)
    (g.K.Keeper.begun new.keeper) in
    let d = at_door (links (g.D.Door.coming old.door.now) (g.D.Door.coming new.door) (g.D.Door.finished old.door.now)
    (g.D.Door.finished new.door)) (g.D.Door.address old.door.now) (g.D.Door.address new.door)
    (g.D.Door.faults old.door.now) (g.D.Door.faults new.door) in
    λ s asked.
    subst (λ other. EndsServe (telling g.D.Conn.Link.left g.D.Conn.Link.written g.D.Conn.Link.faults) other o
    (k other.keep_file)
    ((new.keeper ≡ old.keeper.now) × (new.door ≡ old.door.now)) d c.serve.result)
    (one_service old.words.now its s (subst (Asks old.words.now) c.in-Serve.is c.command_of.ensures) asked)
    c.serve.ensures.ends

pub returns-in-Serve-clause-door : goal.returns-in-Serve-clause-door
returns-in-Serve-clause-door g c = λ other.
    absurd (other (service_by c.in-Serve.asked)
    (subst (Asks c.args.words.now) c.in-Serve.is c.command_of.ensures))

pub returns-in-Serve-clause-status : goal.returns-in-Serve-clause-status
returns-in-Serve-clause-status g c = λ other.
    absurd (other.3 (service_by c.in-Serve.asked)
    (subst (Asks c.args.words.now) c.in-Serve.is c.command_of.ensures))

pub returns-in-Serve-clause-exact : goal.returns-in-Serve-clause-exact
returns-in-Serve-clause-exact g c = λ other.
    absurd (other.3 (service_by c.in-Serve.asked)
    (subst (Asks c.args.words.now) c.in-Serve.is c.command_of.ensures))

-- no command but a run
pub returns-in-Other-clause-families : goal.returns-in-Other-clause-families
returns-in-Other-clause-families g c = λ count asked.
    let other = subst (Asks c.args.words.now) c.in-Other.is c.command_of.ensures in absurd (other.2 count asked)

pub returns-in-Other-clause-serve : goal.returns-in-Other-clause-serve
returns-in-Other-clause-serve g c = λ s asked.
    let other = subst (Asks c.args.words.now) c.in-Other.is c.command_of.ensures in absurd (other.3 s asked)

pub returns-in-Other-clause-status : goal.returns-in-Other-clause-status
returns-in-Other-clause-status g c =
    let o = outside (g.F.Shelf.files c.args.shelf.now) (g.F.Shelf.faults c.args.shelf.now)
    (g.F.Shelf.faults c.end.new.shelf)
    (g.S.Sink.written c.args.out.now) (g.S.Sink.written c.end.new.out) (g.S.Sink.faults c.args.out.now)
    (g.S.Sink.faults c.end.new.out) in
    let k = keeping (g.K.Keeper.texts c.args.keeper.now)
    (g.K.Keeper.opens c.args.keeper.now (keep_file c.args.words.now)) (g.K.Keeper.texts c.end.new.keeper)
    (g.K.Keeper.faults c.args.keeper.now) (g.K.Keeper.faults c.end.new.keeper)
    (g.K.Keeper.begun c.end.new.keeper) in
    λ other.
    promised c.args.words.now o k (c.end.new.keeper ≡ c.args.keeper.now) c.status.result
    (record {
      ending = c.end.result;
      number = c.status.ensures;
      ends = c.end.ensures.ends;
      cause = c.end.ensures.cause;
    })

pub returns-in-Other-clause-exact : goal.returns-in-Other-clause-exact
returns-in-Other-clause-exact g c =
    let o = outside (g.F.Shelf.files c.args.shelf.now) (g.F.Shelf.faults c.args.shelf.now)
    (g.F.Shelf.faults c.end.new.shelf)
    (g.S.Sink.written c.args.out.now) (g.S.Sink.written c.end.new.out) (g.S.Sink.faults c.args.out.now)
    (g.S.Sink.faults c.end.new.out) in
    let k = keeping (g.K.Keeper.texts c.args.keeper.now)
    (g.K.Keeper.opens c.args.keeper.now (keep_file c.args.words.now)) (g.K.Keeper.texts c.end.new.keeper)
    (g.K.Keeper.faults c.args.keeper.now) (g.K.Keeper.faults c.end.new.keeper)
    (g.K.Keeper.begun c.end.new.keeper) in
    λ other.
    exactly (some_spot c.args.alloc) c.args.words.now o k (c.end.new.keeper ≡ c.args.keeper.now) c.status.result
    (record {
      ending = c.end.result;
      number = c.status.ensures;
      ends = c.end.ensures.ends;
      cause = c.end.ensures.cause;
    })
