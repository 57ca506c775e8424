-- The variables that a scope stands for.
use Rattle.std.specs.Prelude.{ℕ, List, take}
use Rattle.language.specs.declared.scopes.Scope.{Scope}

abbrev pub variables_in : Scope → List ℕ
variables_in scope = take scope.size scope.variables
