-- The record of a session, read from the first piece of a file behind its first gate.
use Rattle.answer_journal.proofs.Prelude.{◌≡◌, ◌⊎◌, ℕ, ◌+◌, ◌-◌, ◌<◌, ◌≤◌, min, List, ◌∷◌, ◌++◌, length, take, drop, inl, inr, sym, ◌∙◌, ap, arith, append_assoc, length-append, length-drop, length-take-le, cases_lt, length-take, Plan, IsStorableSession, session_tail}
use Rattle.answer_journal.proofs.RecordLoop.{IsWide, wide_enough, seen}
use Rattle.answer_journal.proofs.PieceLemmas.{piece_is, piece_more, last_is}
use Rattle.answer_journal.proofs.Sizes.{session_size}

-- what is left of a piece is no longer than the piece
pub rest_within : (n : ℕ) (buffer tail rest : List ℕ) → take n buffer ≡ tail ++ rest → length rest ≤ n
rest_within n buffer tail rest is = omega (arith, length-take n buffer, ap length is, length-append tail rest)

module _ (file old new : List ℕ) (n : ℕ) (count : n ≡ min (length old) (length file - 9)) (is : new ≡ take n (drop 9 file) ++ drop n old) where
  piece_size : length (take n new) ≡ n
  piece_size = ap length (piece_is file old new 9 n count is) ∙ length-take-le n (drop 9 file) (omega (arith, count, length-drop 9 file))

  -- the piece goes to the end of the file, or it takes the longest record
  wide : (length old ≡ 4194311) ⊎ (length file ≤ length old) → 0 < length old → IsWide 4194310 (take n new) (drop n (drop 9 file))
  wide (inl full) some = go (cases_lt n (length old))
    where
      go : (n < length old) ⊎ (length old ≤ n) → IsWide 4194310 (take n new) (drop n (drop 9 file))
      go (inl short) = inl (last_is file old new 9 n count is short)
      go (inr long) = inr (omega (arith, piece_size, long, full))
  wide (inr whole) some = inl (last_is file old new 9 n count is (omega (arith, count, whole, some)))

  -- what doesn't stand in the piece doesn't stand in the file
  pub none_first : (length old ≡ 4194311) ⊎ (length file ≤ length old) → 0 < length old
      → ((plan : Plan) (voc : List ℕ) (gate : ℕ) (behind : List ℕ) → IsStorableSession plan voc → take n new ≡ session_tail plan voc ++ gate ∷ behind → ⊥)
      → (plan : Plan) (voc : List ℕ) (gate : ℕ) (behind : List ℕ) → IsStorableSession plan voc → drop 9 file ≡ session_tail plan voc ++ gate ∷ behind → ⊥
  none_first full some none plan voc gate behind session spelled =
      let more = drop n (drop 9 file) in
      let same : take n new ++ more ≡ session_tail plan voc ++ gate ∷ behind = piece_more file old new 9 n count is ∙ spelled in
      none plan voc _ _ session (seen (session_tail plan voc) (gate ∷ behind) (take n new) more
      (wide_enough (session_tail plan voc) (gate ∷ behind) (take n new) more 4194310 (wide full some) (omega (arith, session_size plan voc, session.short)) (omega arith) same) same)

  module _ (tail rest : List ℕ) (found : take n new ≡ tail ++ rest) where
    -- the place behind the record
    pub start_is : (start : ℕ) → start ≡ 9 + (n - length rest) → start ≡ 9 + length tail
    start_is start begins = omega (arith, begins, sym piece_size, ap length found, length-append tail rest)

    -- what stands there
    pub spelled_first : drop 9 file ≡ tail ++ (rest ++ drop n (drop 9 file))
    spelled_first = sym (piece_more file old new 9 n count is) ∙ ap (λ (l : List ℕ). l ++ drop n (drop 9 file)) found ∙ append_assoc tail rest (drop n (drop 9 file))
