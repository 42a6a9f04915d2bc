use Rattle.vc_rule_grains.proofs.KindLaws.{line_follows, line_stands, line_is_read}
use Rattle.vc_rule_grains.proofs.laws.line_follows.Goals as goal

pub returns-clause-follows : goal.returns-clause-follows
returns-clause-follows c = line_follows

pub returns-clause-stands : goal.returns-clause-stands
returns-clause-stands c = line_stands

pub returns-clause-read : goal.returns-clause-read
returns-clause-read c = line_is_read
