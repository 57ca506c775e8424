-- Formulas: truths and terms, and what they are worth at a tuple, over whole numbers without bound.
use Rattle.std.specs.Prelude.{ℕ, ◌^◌, Bool, not, ◌&&◌, ◌||◌, nat_lt, if◌then◌else◌, List, [], ◌∷◌}
use Rattle.std.specs.Prelude.{◌++◌, map, position, slice_index_or, Option, Some, None, ℤ, pos}
use Rattle.std.specs.Prelude.{negsuc, ◌+ℤ◌, ◌-ℤ◌, ◌*ℤ◌, int_lt, int_le, unsigned_abs}
use Rattle.std.specs.List.{list_any}
use Rattle.std.specs.Int.{int_min, int_max}
use Rattle.std.specs.Ordering.{int_eq}
use Rattle.rel_table.specs.Relation.{Relation, tuples}
use Rattle.rel_formula.specs.declared.step.Arithmetic.{Arithmetic}
use Rattle.rel_formula.specs.declared.step.Arithmetic.TheVariants.{Sum, Difference, Product, Least}
use Rattle.rel_formula.specs.declared.step.Arithmetic.TheVariants.{Greatest}
use Rattle.rel_formula.specs.declared.step.Comparison.{Comparison}
use Rattle.rel_formula.specs.declared.step.Comparison.TheVariants.{Equal, Different, Below, AtMost}
use Rattle.rel_formula.specs.declared.step.Comparison.TheVariants.{Above, AtLeast}
use Rattle.rel_formula.specs.declared.step.Connective.{Connective}
use Rattle.rel_formula.specs.declared.step.Connective.TheVariants.{And, Or}

-- a part that gives a whole number
pub data Term : Type 0 where
  whole : ℤ → Term
  shown : ℕ → Term
  absolute : Term → Term
  combined : Arithmetic → Term → Term → Term

-- a part that gives a truth
pub data Truth : Type 0 where
  compared : Comparison → Term → Term → Truth
  joined : Connective → Truth → Truth → Truth
  opposite : Truth → Truth

abbrev pub combine : Arithmetic → ℤ → ℤ → ℤ
combine Sum x y = x +ℤ y
combine Difference x y = x -ℤ y
combine Product x y = x *ℤ y
combine Least x y = int_min x y
combine Greatest x y = int_max x y

abbrev pub compare : Comparison → ℤ → ℤ → Bool
compare Equal x y = int_eq x y
compare Different x y = not (int_eq x y)
compare Below x y = int_lt x y
compare AtMost x y = int_le x y
compare Above x y = int_lt y x
compare AtLeast x y = int_le y x

abbrev pub join : Connective → Bool → Bool → Bool
join And p q = p && q
join Or p q = p || q

-- the absolute value
abbrev pub size : ℤ → ℤ
size x = pos (unsigned_abs x)

-- what a term is worth at a tuple of shown values; a position that the tuple lacks is worth 0
abbrev pub value : List ℤ → Term → ℤ
value tuple (whole x) = x
value tuple (shown at) = slice_index_or tuple at (pos 0)
value tuple (absolute a) = size (value tuple a)
value tuple (combined op a b) = combine op (value tuple a) (value tuple b)

-- whether a formula is true at a tuple of shown values
abbrev pub is_true : List ℤ → Truth → Bool
is_true tuple (compared op a b) = compare op (value tuple a) (value tuple b)
is_true tuple (joined op p q) = join op (is_true tuple p) (is_true tuple q)
is_true tuple (opposite p) = not (is_true tuple p)

-- all parts of a term, itself the last
abbrev pub parts_of : Term → List Term
parts_of (whole x) = whole x ∷ []
parts_of (shown at) = shown at ∷ []
parts_of (absolute a) = parts_of a ++ absolute a ∷ []
parts_of (combined op a b) = parts_of a ++ (parts_of b ++ combined op a b ∷ [])

-- all parts of a formula that give a number
abbrev pub parts : Truth → List Term
parts (compared op a b) = parts_of a ++ parts_of b
parts (joined op p q) = parts p ++ parts q
parts (opposite p) = parts p

-- from -2^63 to 2^63 - 1
abbrev pub fits : ℤ → Bool
fits (pos n) = nat_lt n (2 ^ 63)
fits (negsuc n) = nat_lt n (2 ^ 63)

-- a whole number, where it fits
abbrev pub fitting : ℤ → Option ℤ
fitting x = if fits x then Some x else None

-- some of these terms leaves 64 bits at a tuple
abbrev pub some_too_big : List ℤ → List Term → Bool
some_too_big tuple terms = list_any (λ term. not (fits (value tuple term))) terms

-- some part of the formula leaves 64 bits at a tuple
abbrev pub is_too_big : List ℤ → Truth → Bool
is_too_big tuple formula = some_too_big tuple (parts formula)

-- a tuple as the values that are shown, the least of which is lo
abbrev pub shown_tuple : ℤ → List ℕ → List ℤ
shown_tuple lo tuple = map (λ x. lo +ℤ pos x) tuple

-- a formula's relation of this arity over d values from lo on: its truth at each tuple
abbrev pub relation_from_formula : Truth → ℕ → ℤ → ℕ → Relation
relation_from_formula formula arity lo d =
    map (λ tuple. is_true (shown_tuple lo tuple) formula) (tuples d arity)

-- the least place at whose tuple some part leaves 64 bits
abbrev pub first_too_big : Truth → ℕ → ℤ → ℕ → Option ℕ
first_too_big formula arity lo d =
    position (λ tuple. is_too_big (shown_tuple lo tuple) formula) (tuples d arity)
