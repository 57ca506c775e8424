use Rattle.target_oracle.proofs.Prelude.{◌≡◌, ◌+◌, ◌≤◌, length, take, suffix_len, is_blank}
use Rattle.target_oracle.proofs.words.len_before_blanks.Given as goal

abbrev pub invariant-loop-len : goal.invariant-loop-len
invariant-loop-len l = (l.len ≤ length l.line) × (l.len + suffix_len is_blank l.line ≡ length l.line + suffix_len is_blank (take l.len l.line))

abbrev pub decreases-loop-len : goal.decreases-loop-len
decreases-loop-len l = l.len
