use Rattle.find_c.proofs.Told.{standing_tells}
use Rattle.find_c.proofs.laws.standing_tells.Goals as goal

pub returns : goal.returns
returns c = standing_tells
