-- What holds of the relations on each scope and of the scopes that are passed over.
use Rattle.std.specs.Prelude.{ℕ, ◌≡◌, ◌<◌, ◌^◌, true, false, List, Bool, length, slice_index_or}
use Rattle.bias_store.specs.declared.left.Left.TheInside.{Inside}

-- there is a truth value for each scope, and where it is true the scope has no relations
pub record PassesOver (masks : List ℕ) (bare : List Bool) : Type 0 where
  pub long : length bare ≡ length masks
  pub small : (s : ℕ) → slice_index_or masks s 0 < 2 ^ 64
  pub none : (s : ℕ) → slice_index_or bare s false ≡ true → slice_index_or masks s 0 ≡ 0

abbrev pub IsPassing : Inside → Type 0
IsPassing a = PassesOver a.masks.items a.bare
