use Rattle.vc_rule_grains.proofs.KindLaws.{last_follows, last_stands, last_is_read}
use Rattle.vc_rule_grains.proofs.laws.last_follows.Goals as goal

pub returns-clause-follows : goal.returns-clause-follows
returns-clause-follows c = last_follows

pub returns-clause-stands : goal.returns-clause-stands
returns-clause-stands c = last_stands

pub returns-clause-read : goal.returns-clause-read
returns-clause-read c = last_is_read
