use Rattle.cert_check.proofs.Prelude.{take, flat_map, AddsPiece, item_line}
use Rattle.cert_check.proofs.making.add_network.Given as goal

abbrev pub invariant-loop-c : goal.invariant-loop-c
invariant-loop-c l = AddsPiece l.initial.sheet (flat_map item_line (take l.c-index l.net)) l.sheet
