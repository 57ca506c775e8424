use Rattle.acq_said.proofs.Prelude.{◌≡◌, ◌++◌, string_bytes}
use Rattle.acq_said.proofs.OpenLines.{lines_before}
use Rattle.acq_said.proofs.opens.push_open_on.Given as goal

abbrev pub invariant-loop-rel : goal.invariant-loop-rel
invariant-loop-rel l = string_bytes l.text ≡ string_bytes l.initial.text ++ lines_before l.lang l.screen l.scope l.rel
