-- What is printed of a reduced network.
use Rattle.std.specs.Prelude.{ℕ, List, [], ◌∷◌, ◌++◌, length, codes}
use Rattle.std.specs.Fmt.{decimal}
use Rattle.language.specs.declared.candidates.Candidate.{Candidate}
use Rattle.language.specs.Language.{Language}
use Rattle.network.specs.Texts.{network_text}

-- `reduced r of k`, r being the size of the part
abbrev pub size_line : ℕ → ℕ → List ℕ
size_line r of = codes "reduced " ++ (decimal r ++ (codes " of " ++ (decimal of ++ 10 ∷ [])))

-- that line, and one for each item
abbrev pub reduced_text : Language → List Candidate → ℕ → List ℕ
reduced_text l part of = size_line (length part) of ++ network_text l part

-- the number of the item whose search is spent
abbrev pub spent_text : ℕ → List ℕ
spent_text i = codes "refused reduce open " ++ (decimal i ++ 10 ∷ [])
