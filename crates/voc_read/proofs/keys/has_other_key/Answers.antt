use Rattle.voc_read.proofs.Prelude.{◌∙◌}
use Rattle.voc_read.proofs.MemberKeys.{other_keys}
use Rattle.voc_read.proofs.keys.has_other_key.Goals as goal

pub returns : goal.returns
returns c = c.some_unknown.ensures ∙ other_keys c.args.known.now c.args.members.now.entries
