-- Laws over the definitions alone.
use Rattle.std.specs.Prelude.{◌≡◌}
use Rattle.target_oracle.specs.Generator.{state_at, upper, draw}

-- the first draw of the number 0
pub record AreFirstDraws : Type 0 where
  pub state : state_at 0 1 ≡ 1442695040888963407
  pub upper : upper (state_at 0 1) ≡ 335903614
  pub hidden : draw 0 1 3 ≡ 1
