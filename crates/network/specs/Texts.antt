-- The text of a network.
use Rattle.std.specs.Prelude.{ℕ, List, [], ◌∷◌, ◌++◌}
use Rattle.std.specs.List.{flat_map}
use Rattle.language.specs.declared.candidates.Candidate.{Candidate}
use Rattle.language.specs.Language.{Language}
use Rattle.language.specs.Texts.{candidate_text}

-- a line for each candidate
abbrev pub network_text : Language → List Candidate → List ℕ
network_text l list = flat_map (λ c. candidate_text l c ++ 10 ∷ []) list
