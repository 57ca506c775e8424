use Rattle.acq_said.proofs.Prelude.{◌≡◌, string_bytes}
use Rattle.acq_said.proofs.OpenLines.{lines_to}
use Rattle.acq_said.proofs.opens.open_lines.Given as goal

abbrev pub invariant-loop-s : goal.invariant-loop-s
invariant-loop-s l = string_bytes l.text ≡ lines_to l.lang l.screen l.s
