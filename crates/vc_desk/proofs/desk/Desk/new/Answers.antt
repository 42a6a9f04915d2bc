-- No session is open.
use Rattle.std.proofs.Common.{◌∙◌, ap, subst, sym}
use Rattle.vc_desk.specs.Desks.{AreSessionsOf, open_of}
use Rattle.vc_desk.proofs.OpenLaws.{no_sessions, none_open}
use Rattle.vc_desk.proofs.desk.Desk.new.Goals as goal

pub returns-clause-none : goal.returns-clause-none
returns-clause-none c = ap open_of c.new.ensures ∙ none_open

pub returns-clause-is : goal.returns-clause-is
returns-clause-is c = record {
  valid = c.requires;
  look_ups = tt;
  sessions = subst (AreSessionsOf c.args.plan) (sym c.new.ensures) (no_sessions c.args.plan);
}
