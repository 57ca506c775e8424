use Rattle.network.proofs.EachText.{each_text}
use Rattle.network.proofs.laws.each_is_read_or_refused.Goals as goal

pub returns : goal.returns
returns c = each_text
