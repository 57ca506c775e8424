-- A part of a network that says the same with no line too many.
use Rattle.std.specs.Prelude.{◌≡◌, ◌⊎◌, List, [], ◌∷◌, ◌++◌}
use Rattle.language.specs.declared.candidates.Candidate.{Candidate}
use Rattle.language.specs.Language.{Language, HasSameSolutions, IsImplied}

-- some of a list's items, in the same order
abbrev pub IsSublist : List Candidate → List Candidate → Type 0
IsSublist part [] = part ≡ []
IsSublist part (c ∷ list) = IsSublist part list
    ⊎ ((rest : List Candidate) × (part ≡ c ∷ rest) × IsSublist rest list)

-- a part of the network with its solutions, in which no item is implied by the others
pub record IsReduction (l : Language) (network part : List Candidate) : Type 0 where
  pub sublist : IsSublist part network
  pub same : HasSameSolutions l part network
  pub needed : (before : List Candidate) (c : Candidate) (after : List Candidate) →
      part ≡ before ++ c ∷ after → ¬ (IsImplied l (before ++ after) c)

-- The items are gone through in order, and one is dropped exactly where the others that remain
-- imply it: those done that were kept, and the rest.
abbrev pub Sifts : Language → List Candidate → List Candidate → List Candidate → Type 0
Sifts l done [] part = part ≡ done
Sifts l done (c ∷ rest) part =
    (IsImplied l (done ++ rest) c × Sifts l done rest part)
    ⊎ ((¬ (IsImplied l (done ++ rest) c)) × Sifts l (done ++ c ∷ []) rest part)
