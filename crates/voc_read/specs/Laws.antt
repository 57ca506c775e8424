-- Laws over the definitions alone.
use Rattle.std.specs.Prelude.{◌≡◌, ◌⊎◌, ℕ, false, List, Some, None}
use Rattle.language.specs.Language.{Language}
use Rattle.voc_read.specs.declared.fault.VocFault.{VocFault}
use Rattle.voc_read.specs.Vocabulary.{IsVocabulary, refusal_of_vocabulary}
use Rattle.voc_read.specs.Want.{wants_memory}

-- what describes a language isn't refused
abbrev pub ReadVocabularyIsNotRefused : Type 0
ReadVocabularyIsNotRefused = (bytes : List ℕ) (l : Language) → IsVocabulary bytes l →
    refusal_of_vocabulary bytes ≡ None

-- no bytes describe two languages
abbrev pub NoTwoLanguages : Type 0
NoTwoLanguages = (bytes : List ℕ) (l other : Language) → IsVocabulary bytes l →
    IsVocabulary bytes other → l ≡ other

-- each list of bytes describes a language, or is refused, and not for want of memory, its own or
-- that of a part
abbrev pub EachVocabularyIsReadOrRefused : Type 0
EachVocabularyIsReadOrRefused = (bytes : List ℕ) →
    ((l : Language) × IsVocabulary bytes l) ⊎ ((fault : VocFault) × (wants_memory fault ≡ false)
    × (refusal_of_vocabulary bytes ≡ Some fault))
