-- What is known of candidates that hold before searches against others.
use Rattle.std.specs.Prelude.{ℕ, ◌≡◌, ◌≤◌, Bool, true, false, List, [], ◌∷◌, ◌++◌, length, map}
use Rattle.std.specs.Prelude.{take, None}
use Rattle.assign.specs.Sets.{numbers}
use Rattle.language.specs.declared.candidates.Candidate.{Candidate}
use Rattle.language.specs.Language.{Language, variable_count, values_of}
use Rattle.language.specs.Answers.{IsNetwork}
use Rattle.propagators.specs.Families.{Family, Arc, arcs_of}
use Rattle.propagators.specs.Plans.{IsPlanOf}
use Rattle.propagators.specs.Propagated.{IsPropagated, RunsEmpty}
use Rattle.propagators.specs.declared.index.Index.{Index}

-- for each variable the values of its range
abbrev pub all_values : Language → Family
all_values l = map (values_of l) (numbers (variable_count l))

-- the candidates of an index
abbrev pub list_in : Index → List Candidate
list_in i = take i.size i.list.items

-- what conditions leave to the variables, or that they leave some variable nothing
pub record IsRoot (l : Language) (arcs : List Arc) (root : Family) (is_alive : Bool) : Type 0 where
  pub alive : is_alive ≡ true → IsPropagated l arcs (all_values l) root
  pub dead : is_alive ≡ false → RunsEmpty arcs (all_values l)

-- the last condition has this scope, and it is known what those before it leave
pub record IsRootBefore (l : Language) (arcs : List Arc) (scope : List ℕ) (left : Family)
    (is_alive : Bool) : Type 0 where
  pub before : List Arc
  pub last : Arc
  pub is : arcs ≡ before ++ last ∷ []
  pub scope_is : last.scope ≡ scope
  pub some : 1 ≤ length scope
  pub root : IsRoot l before left is_alive

-- an index of candidates of the language
pub record IsIndexOf (l : Language) (i : Index) : Type 0 where
  pub known : IsNetwork l (list_in i)
  pub plan : IsPlanOf l (arcs_of l (list_in i) None) i.plan
  pub root : IsRoot l (arcs_of l (list_in i) None) i.root i.is_alive
