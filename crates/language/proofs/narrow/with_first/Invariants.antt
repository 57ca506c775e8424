use Rattle.language.proofs.Prelude.{◌≡◌, ◌++◌, ◌&&◌, map, take, flat_map, numbers, is_in}
use Rattle.language.proofs.narrow.with_first.Given as goal

abbrev pub invariant-loop-x : goal.invariant-loop-x
invariant-loop-x l = l.truth.items ≡ flat_map (λ x. map (λ within. is_in l.range x && within) l.rest) (numbers l.x)

abbrev pub invariant-loop-within : goal.invariant-loop-within
invariant-loop-within l = l.truth.items ≡ l.initial.truth.items ++ map (λ within. l.is_first && within) (take l.within-index l.rest)
