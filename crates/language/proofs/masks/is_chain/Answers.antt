use Rattle.language.proofs.Prelude.{rules}
use Rattle.language.proofs.masks.is_chain.Goals as goal

pub returns-then-are_running : goal.returns-then-are_running
returns-then-are_running c = search rules
