-- A piece of a file, as a read gives it.
use Rattle.answer_journal.proofs.Prelude.{◌≡◌, ℕ, ◌-◌, ◌<◌, min, List, [], ◌++◌, length, take, drop, ◌∙◌, ap, arith, length-drop, length-take-le, take-append-drop, take_at, nil_from_length}

module _ (file old new : List ℕ) (at n : ℕ) (count : n ≡ min (length old) (length file - at)) (is : new ≡ take n (drop at file) ++ drop n old) where
  size : length (take n (drop at file)) ≡ n
  size = length-take-le n (drop at file) (omega (arith, count, length-drop at file))

  pub piece_is : take n new ≡ take n (drop at file)
  piece_is = ap (λ (l : List ℕ). take n l) is ∙ take_at (take n (drop at file)) (drop n old) n size

  -- the piece, and what stands behind it
  pub piece_more : take n new ++ drop n (drop at file) ≡ drop at file
  piece_more = ap (λ (l : List ℕ). l ++ drop n (drop at file)) piece_is ∙ take-append-drop n (drop at file)

  -- behind a piece that is shorter than the buffer there is nothing
  pub last_is : n < length old → drop n (drop at file) ≡ []
  last_is short = nil_from_length (drop n (drop at file)) (omega (arith, count, length-drop n (drop at file), length-drop at file))
