-- What describes a language isn't refused.
use Rattle.voc_read.proofs.Prelude.{◌≡◌, ℕ, List, None, refl, Language, refusal_of_vocabulary, IsVocabulary}

pub not_refused : (bytes : List ℕ) (l : Language) → IsVocabulary bytes l → refusal_of_vocabulary bytes ≡ None
unfolding refusal_of_vocabulary
not_refused bytes l described = rw (described.read, described.buildable) refl
