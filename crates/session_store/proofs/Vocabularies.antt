-- What a vocabulary is that isn't refused.
use Rattle.session_store.proofs.Prelude.{◌≡◌, ℕ, ◌≤◌, List, length, None, ⊎_elim, cases_lt, lt-ltb, vocabulary_parts, refusal_of_vocabulary}

pub taken_is_short : (voc : List ℕ) → refusal_of_vocabulary voc ≡ None → length voc ≤ 4194304
unfolding refusal_of_vocabulary vocabulary_parts
taken_is_short voc taken =
    ⊎_elim (λ long. absurd (let bad = rw (lt-ltb 4194304 (length voc) long) at taken in cc)) (λ few. few) (cases_lt 4194304 (length voc))
