use Rattle.propagators.proofs.Prelude.{[], ◌∷◌, refl, ones_of, continues, ones_of-zero}
use Rattle.propagators.proofs.Sweeping.{supported_beside, none_beside}
use Rattle.propagators.proofs.supports.in_two_beside.Goals as goal

pub returns-then-found-first : goal.returns-then-found-first
returns-then-found-first c = supported_beside (ones_of c.args.first ∷ ones_of c.args.last ∷ []) (continues c.args.table.now c.args.holding c.args.at) (ones_of c.args.found.0 ∷ ones_of c.args.found.1 ∷ []) (ones_of c.in_two.result.0 ∷ ones_of c.in_two.result.1 ∷ []) c.in_two.ensures

pub returns-else-is_any_in_two : goal.returns-else-is_any_in_two
returns-else-is_any_in_two c = none_beside (ones_of c.args.first ∷ ones_of c.args.last ∷ []) (continues c.args.table.now c.args.holding c.args.at) (ones_of c.args.found.0 ∷ ones_of c.args.found.1 ∷ []) (ones_of 0 ∷ ones_of 0 ∷ []) (ones_of-zero, (ones_of-zero, tt)) (c.if-is_any_in_two.ensures.none refl)
