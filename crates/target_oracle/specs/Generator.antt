-- The language and the network that a number makes.
use Rattle.std.specs.Prelude.{ℕ, zero, suc, ◌+◌, ◌*◌, ◌/◌, ◌%◌, ◌^◌, ◌==◌, pos, Bool, not, nat_le}
use Rattle.std.specs.Prelude.{List, [], ◌∷◌, length, map, filter, replicate, Some, None, codes}
use Rattle.std.specs.List.{flat_map}
use Rattle.std.specs.Fmt.{decimal}
use Rattle.assign.specs.Sets.{numbers}
use Rattle.assign.specs.Assignment.{Assignment}
use Rattle.rel_table.specs.Relation.{Relation}
use Rattle.language.specs.declared.candidates.Candidate.{Candidate}
use Rattle.language.specs.Ranges.{whole_range}
use Rattle.language.specs.Language.{Language, Given}
use Rattle.language.specs.Building.{Frame, IsBuilt}
use Rattle.language.specs.Search.{satisfies}

-- ---- Draws

-- the state after a draw
abbrev pub after : ℕ → ℕ
after x = (x * 6364136223846793005 + 1442695040888963407) % 2 ^ 64

-- the state after so many draws; at first it is the number
unfoldable pub state_at : ℕ → ℕ → ℕ
state_at number zero = number
state_at number (suc i) = after (state_at number i)

-- what a state gives: its upper 32 bits
abbrev pub upper : ℕ → ℕ
upper x = x / 2 ^ 32

-- draw i, counted from 1, among the numbers below m
abbrev pub draw : ℕ → ℕ → ℕ → ℕ
draw number i m = upper (state_at number i) % m

-- ---- The language

-- the variables v1 to v10
abbrev pub name_of : ℕ → List ℕ
name_of v = 118 ∷ decimal (v + 1)

abbrev pub names : List (List ℕ)
names = map name_of (numbers 10)

-- the relation of two of three values that pass a test
abbrev pub relation_where : (ℕ → ℕ → Bool) → Relation
relation_where test = flat_map (λ x. map (test x) (numbers 3)) (numbers 3)

abbrev pub given_where : List ℕ → (ℕ → ℕ → Bool) → Given
given_where name test = record { name = name; arity = 2; relation = relation_where test }

-- at most, at least, unequal
abbrev pub given : List Given
given = given_where (codes "le") (λ x y. nat_le x y) ∷ given_where (codes "ge") (λ x y. nat_le y x)
    ∷ given_where (codes "ne") (λ x y. not (x == y)) ∷ []

-- the values 1 to 3, all of them for each variable
abbrev pub frame : Frame
frame = record {
  names = names;
  least_value = pos 1;
  value_count = 3;
  ranges = replicate 10 (whole_range 3);
}

-- these relations on all pairs of these variables
abbrev pub IsGenerated : Language → Type 0
IsGenerated l = IsBuilt frame given None l

-- ---- The target

-- the hidden values: those of the first ten draws, in vocabulary order
unfoldable pub hidden : ℕ → Assignment
hidden number = map (λ v. Some (draw number (v + 1) 3)) (numbers 10)

-- the candidate that is drawn for the scope of this number
abbrev pub drawn_on : ℕ → ℕ → Candidate
drawn_on number s = record { scope = s; rel = draw number (s + 11) 7 }

-- the drawn candidates that the hidden values satisfy
abbrev pub target_of : ℕ → Language → List Candidate
target_of number l =
    filter (λ c. satisfies l c (hidden number)) (map (drawn_on number) (numbers (length l.scopes)))
