-- That no stage is broken so far changes nothing else.
use Rattle.std.proofs.Common.{refl}
use Rattle.vc_session_evaluation.proofs.GoingLaws.{stages_are}
use Rattle.vc_session_evaluation.proofs.stages.Stages.go_through.Goals as goal

pub go_once-requires-clause-of : goal.go_once-requires-clause-of
go_once-requires-clause-of g c =
    let of = c.requires.of in
    stages_are c.args.plan.now c.args.self.now _ of of.nets refl refl of.sources refl refl of.blank refl

pub go_on-requires-clause-of : goal.go_on-requires-clause-of
go_on-requires-clause-of g c =
    let of = c.requires.of in
    stages_are c.args.plan.now c.args.self.now _ of of.nets refl refl of.sources refl refl of.blank refl

pub go_once-requires-clause-may : goal.go_once-requires-clause-may
go_once-requires-clause-may g c =
    let may = c.requires.may in
    record { users = may.users; fit = may.fit; cleared = may.cleared; taken = may.taken; follow = may.follow }

pub go_on-requires-clause-may : goal.go_on-requires-clause-may
go_on-requires-clause-may g c =
    let may = c.requires.may in
    record { users = may.users; fit = may.fit; cleared = may.cleared; taken = may.taken; follow = may.follow }
