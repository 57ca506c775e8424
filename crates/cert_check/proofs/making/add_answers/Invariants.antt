use Rattle.cert_check.proofs.Prelude.{take, flat_map, AddsPiece, entry_line}
use Rattle.cert_check.proofs.making.add_answers.Given as goal

abbrev pub invariant-loop-entry : goal.invariant-loop-entry
invariant-loop-entry l = AddsPiece l.initial.sheet (flat_map entry_line (take l.entry-index l.answers)) l.sheet
