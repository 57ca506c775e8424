-- Laws over the definitions alone.
use Rattle.std.specs.Prelude.{◌≡◌, ◌≢◌, ◌⊎◌, ℕ, List, Ok, Err}
use Rattle.language.specs.declared.candidates.Candidate.{Candidate}
use Rattle.language.specs.Language.{Language, IsLanguage}
use Rattle.language.specs.Answers.{IsNetwork}
use Rattle.network.specs.Texts.{network_text}
use Rattle.network.specs.Target.{network_of}
use Rattle.network.specs.declared.fault.NetFault.{NetFault}
use Rattle.network.specs.declared.fault.NetFault.TheVariants.{Memory}

-- networks with the same text are the same
abbrev pub TextTellsNetwork : Type 0
TextTellsNetwork =
    (l : Language) (a b : List Candidate) → IsLanguage l → IsNetwork l a → IsNetwork l b →
    network_text l a ≡ network_text l b → a ≡ b

-- no bytes are read and refused
abbrev pub ReadNetworkIsNotRefused : Type 0
ReadNetworkIsNotRefused =
    (l : Language) (bytes : List ℕ) (network : List Candidate) (fault : NetFault) →
    network_of l bytes ≡ Ok network → network_of l bytes ≡ Err fault → ⊥

-- each list of bytes is read as a network, or is refused, and not for want of memory
abbrev pub EachNetworkIsReadOrRefused : Type 0
EachNetworkIsReadOrRefused =
    (l : Language) (bytes : List ℕ) →
    ((network : List Candidate) × (network_of l bytes ≡ Ok network))
    ⊎ ((fault : NetFault) × (fault ≢ Memory) × (network_of l bytes ≡ Err fault))
