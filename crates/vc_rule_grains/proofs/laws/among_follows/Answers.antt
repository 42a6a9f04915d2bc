use Rattle.vc_rule_grains.proofs.KindLaws.{among_follows, among_stands, among_is_read}
use Rattle.vc_rule_grains.proofs.laws.among_follows.Goals as goal

pub returns-clause-follows : goal.returns-clause-follows
returns-clause-follows c = among_follows

pub returns-clause-stands : goal.returns-clause-stands
returns-clause-stands c = among_stands

pub returns-clause-read : goal.returns-clause-read
returns-clause-read c = among_is_read
