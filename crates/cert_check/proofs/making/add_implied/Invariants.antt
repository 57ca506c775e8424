use Rattle.cert_check.proofs.Prelude.{◌≡◌, false, take, All, flat_map, is_long, refutation_of, AddsPiece, listed_line}
use Rattle.cert_check.proofs.making.add_implied.Given as goal

abbrev pub invariant-loop-c : goal.invariant-loop-c
invariant-loop-c l = record {
  added : AddsPiece l.initial.sheet (flat_map (λ c. listed_line (refutation_of l.fn.lang l.fn.net c)) (take l.c-index l.listed)) l.sheet;
  within : All (λ c. is_long l.fn.lang l.fn.net l.fn.budget c ≡ false) (take l.c-index l.listed);
}
