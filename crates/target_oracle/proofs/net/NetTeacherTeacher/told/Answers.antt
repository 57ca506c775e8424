use Rattle.std.proofs.Common.{rules}
use Rattle.target_oracle.proofs.net.NetTeacherTeacher.told.Goals as goal

pub returns-then-self-clause-unread : goal.returns-then-self-clause-unread
returns-then-self-clause-unread g c = search rules

pub returns-then-self-clause-tells : goal.returns-then-self-clause-tells
returns-then-self-clause-tells g c = search rules

pub returns-clause-unread : goal.returns-clause-unread
returns-clause-unread g c = search rules

pub returns-clause-tells : goal.returns-clause-tells
returns-clause-tells g c = search rules
