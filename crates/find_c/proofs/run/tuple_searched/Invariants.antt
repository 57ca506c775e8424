use Rattle.find_c.proofs.Prelude.{◌-◌, IsFoundFrom}
use Rattle.find_c.proofs.run.tuple_searched.Given as goal

abbrev pub invariant-loop-place : goal.invariant-loop-place
invariant-loop-place l = IsFoundFrom l.lang l.s l.choices l.place

abbrev pub decreases-loop-place : goal.decreases-loop-place
decreases-loop-place l = l.places - l.place
