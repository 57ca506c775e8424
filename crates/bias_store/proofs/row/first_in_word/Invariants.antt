use Rattle.bias_store.proofs.Prelude.{◌≡◌, ℕ, ◌+◌, ◌<◌, true, ◌==◌, bit_at, is_some, value_of, AreNoneBut}
use Rattle.bias_store.proofs.row.first_in_word.Given as goal

abbrev pub invariant-loop-others : goal.invariant-loop-others
invariant-loop-others l = record {
  within : (j : ℕ) → (bit_at l.others j == 1) ≡ true → j < l.fn.count;
  asked : (j : ℕ) → (bit_at l.others j == 1) ≡ true → is_some (value_of l.fn.q (l.fn.second + (l.fn.from + j))) ≡ true;
  none : AreNoneBut l.fn.q l.fn.relations l.fn.accepting l.fn.second l.fn.from l.fn.count l.others;
}

abbrev pub decreases-loop-others : goal.decreases-loop-others
decreases-loop-others l = l.others
