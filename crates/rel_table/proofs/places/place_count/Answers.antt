use Rattle.rel_table.proofs.Prelude.{arith, common_steps}
use Rattle.rel_table.proofs.PlaceLemmas.{small_power}
use Rattle.rel_table.proofs.places.place_count.Goals as goal

pub pow-requires : goal.pow-requires
pow-requires c = let small = small_power c.args.d c.args.arity (omega arith) c.requires in grind (arith, common_steps, small)
