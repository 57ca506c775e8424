use Rattle.net_cnf.proofs.Prelude.{◌≡◌, ℕ, ◌<◌, length, get_or, None, IsQuestion, positive_signs, true_values, only_of}
use Rattle.net_cnf.proofs.reading.assignment_of.Given as goal

abbrev pub invariant-loop-v : goal.invariant-loop-v
invariant-loop-v l = record {
  question : IsQuestion l.lang l.e;
  before : (k : ℕ) → k < l.v → get_or l.e k None ≡ only_of (true_values l.lang (positive_signs l.signs) k);
  one : (k : ℕ) → k < l.v → length (true_values l.lang (positive_signs l.signs) k) ≡ 1;
}
