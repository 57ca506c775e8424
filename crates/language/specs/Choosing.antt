-- Rising lists by their variables, and how many there are.
use Rattle.std.specs.Prelude.{ℕ, zero, suc, ◌+◌, ◌-◌, List, [], ◌∷◌, ◌++◌, map}
use Rattle.std.specs.List.{range_with_len}

-- how many sets of so many of m things there are, by Pascal's rule
abbrev pub choices : ℕ → ℕ → ℕ
choices m zero = 1
choices zero (suc size) = 0
choices (suc m) (suc size) = choices m size + choices m (suc size)

-- the number after a list's last one, or this one if it is empty
abbrev pub past : ℕ → List ℕ → ℕ
past a [] = a
past a (x ∷ list) = past (x + 1) list

-- a list with each number after its last one, below n: from a on if it is empty
abbrev pub longer_by : ℕ → ℕ → List ℕ → List (List ℕ)
longer_by n a list = map (λ y. list ++ y ∷ []) (range_with_len (past a list) (n - past a list))
