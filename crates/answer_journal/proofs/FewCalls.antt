-- How many calls the reading of a file takes, a piece at a time.
use Rattle.answer_journal.proofs.Prelude.{◌≡◌, ◌≤◌, ◌<◌, ◌+◌, ◌-◌, ◌*◌, ℕ, min, List, length, inl, inr, arith, AreReadingCalls, TakesPieces}

module _ (start at : ℕ) (bytes : List ℕ) (old mid new : ℕ) (so_far : 4194047 * mid + start ≤ 4194047 * old + at) (one : new ≤ mid + 1) (within : at < length bytes) where
  -- one read more
  pub few_read : AreReadingCalls 1 old new bytes
  few_read = omega (arith, so_far, one, within)

  -- one that didn't reach the end
  pub few_further : (size count place : ℕ) → TakesPieces size bytes → 0 < start → start ≤ at → count ≡ min size (length bytes - at) → size ≤ count → at + count ≤ place + 264 → 4194047 * new + start ≤ 4194047 * old + place
  few_further size count place (inl full) some from is over far = omega (arith, so_far, one, full, over, far)
  few_further size count place (inr small) some from is over far = absurd (omega (arith, within, small, some, from, is, over))
