-- The languages and the answers of the worked sessions.
use Rattle.std.specs.Prelude.{ℕ, pos, Bool, true, false, List, [], ◌∷◌, ◌++◌, map, replicate, not}
use Rattle.std.specs.Prelude.{◌==◌, codes, Some, None}
use Rattle.assign.specs.Sets.{numbers}
use Rattle.assign.specs.Assignment.{Assignment, restrict}
use Rattle.assign.specs.Events.{Answer}
use Rattle.rel_table.specs.Relation.{Relation, tuples}
use Rattle.language.specs.Ranges.{whole_range}
use Rattle.language.specs.Language.{Language, Given}

-- ---- relations on two variables of two values: the truth at 1 1, 1 2, 2 1 and 2 2

abbrev pub eq : Relation
eq = true ∷ false ∷ false ∷ true ∷ []

abbrev pub ne : Relation
ne = false ∷ true ∷ true ∷ false ∷ []

abbrev pub le : Relation
le = true ∷ true ∷ false ∷ true ∷ []

abbrev pub ge : Relation
ge = true ∷ false ∷ true ∷ true ∷ []

abbrev pub less : Relation
less = false ∷ true ∷ false ∷ false ∷ []

abbrev pub more : Relation
more = false ∷ false ∷ true ∷ false ∷ []

abbrev pub none : Relation
none = false ∷ false ∷ false ∷ false ∷ []

-- a relation of the vocabulary, on two variables
abbrev pub binary : List ℕ → Relation → Given
binary name relation = record { name = name; arity = 2; relation = relation }

-- ---- languages with the values 1 and 2 and all pairs as scopes

-- the variables a and b, the vocabulary's relations, and these closed
abbrev pub two : List Given → List Relation → Language
two given closed = record {
  names = codes "a" ∷ codes "b" ∷ [];
  least_value = pos 1;
  value_count = 2;
  ranges = replicate 2 (whole_range 2);
  given = given;
  scopes = (0 ∷ 1 ∷ []) ∷ [];
  relations = closed ∷ [];
}

-- the variables a, b and c
abbrev pub three : List Given → List Relation → Language
three given closed = record {
  names = codes "a" ∷ codes "b" ∷ codes "c" ∷ [];
  least_value = pos 1;
  value_count = 2;
  ranges = replicate 3 (whole_range 2);
  given = given;
  scopes = (0 ∷ 1 ∷ []) ∷ (0 ∷ 2 ∷ []) ∷ (1 ∷ 2 ∷ []) ∷ [];
  relations = closed ∷ closed ∷ closed ∷ [];
}

abbrev pub equal_or_not : Language
equal_or_not = two (binary (codes "eq") eq
    ∷ binary (codes "ne") ne ∷ binary (codes "none") none ∷ []) (eq ∷ ne ∷ none ∷ [])

abbrev pub orders : Language
orders = two (binary (codes "le") le ∷ binary (codes "ge") ge
    ∷ binary (codes "ne") ne ∷ []) (le ∷ ge ∷ eq ∷ ne ∷ less ∷ more ∷ none ∷ [])

-- the first variable is always 1, so these relations say something of the second alone: whether it
-- may be 1, and whether 2
abbrev pub beside_one : Bool → Bool → Relation
beside_one one two = one ∷ two ∷ true ∷ true ∷ []

abbrev pub first_is_one : Language
first_is_one =
    record (two (binary (codes "le") le ∷ binary (codes "ge") ge ∷ binary (codes "ne") ne ∷ [])
    (beside_one true true ∷ beside_one true false ∷ beside_one false true ∷ beside_one false false
    ∷ [])) {
      ranges = record { first = 0; last = 0 } ∷ whole_range 2 ∷ [];
    }

abbrev pub three_equal : Language
three_equal = three (binary (codes "eq") eq ∷ []) (eq ∷ [])

abbrev pub three_different : Language
three_different = three (binary (codes "ne") ne ∷ []) (ne ∷ [])

-- ---- answers

-- values, as numbers from 0 on
abbrev pub pair : ℕ → ℕ → Assignment
pair a b = Some a ∷ Some b ∷ []

abbrev pub triple : ℕ → ℕ → ℕ → Assignment
triple a b c = Some a ∷ Some b ∷ Some c ∷ []

abbrev pub says : Assignment → Bool → Answer
says q reply = record { question = q; yes = reply }

-- no to all three variables, and then untrue answers that no network gives
abbrev pub untrue : List Answer
untrue = says (triple 0 1 0) false ∷ says (Some 0 ∷ Some 1 ∷ None ∷ []) true
    ∷ says (None ∷ Some 1 ∷ Some 0 ∷ []) true ∷ []

-- ---- 128 variables of two values, and one scope of the first and the last, which are to differ

-- whether the two values of a tuple differ
abbrev differs : List ℕ → Bool
differs (x ∷ y ∷ []) = not (x == y)
differs others = false

abbrev pub large : Language
large = record {
  names = map (λ v. v ∷ []) (numbers 128);
  least_value = pos 0;
  value_count = 2;
  ranges = replicate 128 (whole_range 2);
  given = binary (codes "ne") (map differs (tuples 2 2)) ∷ [];
  scopes = (0 ∷ 127 ∷ []) ∷ [];
  relations = (map differs (tuples 2 2) ∷ []) ∷ [];
}

abbrev pub all_zero : Assignment
all_zero = replicate 128 (Some 0)

-- no to all, and then to the last variable with the first k, for falling k
abbrev pub thirteen_noes : List Answer
thirteen_noes = says all_zero false
    ∷ map (λ k. says (restrict all_zero (numbers k ++ 127 ∷ [])) false)
    (126 ∷ 124 ∷ 120 ∷ 112 ∷ 96 ∷ 64 ∷ 32 ∷ 16 ∷ 8 ∷ 4 ∷ 2 ∷ 1 ∷ [])
