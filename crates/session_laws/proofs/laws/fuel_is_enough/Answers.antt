use Rattle.session_laws.proofs.Fuel.{fuel_is_enough}
use Rattle.session_laws.proofs.laws.fuel_is_enough.Goals as goal

pub returns : goal.returns
returns c = fuel_is_enough
