-- The relations of two variables by masks: which values go together, and how many a value rejects
-- at most.
use Rattle.std.specs.Prelude.{ℕ, zero, suc, ◌+◌, ◌*◌, ◌<◌, ◌≡◌, ◌==◌, ◌&&◌, Bool, false, not, cond}
use Rattle.std.specs.Prelude.{nat_le, List, [], length, slice_index_or, max}
use Rattle.std.specs.Bool.{beq}
use Rattle.std.specs.List.{filter, list_all}
use Rattle.std.specs.Int.{bit_at}
use Rattle.assign.specs.Sets.{numbers}
use Rattle.rel_table.specs.Relation.{Relation, IsClosing}
use Rattle.language.specs.Language.{Language, scope_at, relations_on}
use Rattle.language.specs.Ranges.{AgreeWithin}
use Rattle.language.specs.Building.{relations_of_arity}

-- these are the intersections of the vocabulary's relations of two variables, in falling order
abbrev pub ArePairTables : Language → List Relation → Type 0
ArePairTables l pairs = IsClosing (relations_of_arity l.given 2) pairs

-- a number of one of them
abbrev pub IsPairTable : Language → ℕ → Type 0
IsPairTable l t = (pairs : List Relation) → ArePairTables l pairs → t < length pairs

-- the one of this number agrees within the ranges with relation r on a scope
pub record IsPairTableOn (l : Language) (s r t : ℕ) : Type 0 where
  pub pairs : List Relation
  pub are : ArePairTables l pairs
  pub agrees : AgreeWithin l.ranges l.value_count (scope_at l s) (slice_index_or pairs t [])
      (slice_index_or (relations_on l s) r [])

-- whether by a relation over d values x of the first variable and y of the second go together
abbrev pub go_together : ℕ → Relation → ℕ → ℕ → Bool
go_together d r x y = slice_index_or r (x * d + y) false

-- for each of d values there is a mask, whose bits tell which of d others go with it
abbrev pub AreMasksOf : ℕ → (ℕ → ℕ → Bool) → List ℕ → Type 0
AreMasksOf d together masks = (x y : ℕ) → x < d → y < d →
    (bit_at (slice_index_or masks x 0) y == 1) ≡ together x y

-- how many of d values a test rejects
abbrev pub rejected_of : ℕ → (ℕ → Bool) → ℕ
rejected_of d test = length (filter (λ x. not (test x)) (numbers d))

-- the largest that the first numbers have
abbrev pub most_of : (ℕ → ℕ) → ℕ → ℕ
most_of f zero = 0
most_of f (suc k) = max (most_of f k) (f k)

-- how many first values a second one rejects at most, and how many second ones a first one
abbrev pub first_bound : ℕ → Relation → ℕ
first_bound d r = most_of (λ y. rejected_of d (λ x. go_together d r x y)) d

abbrev pub second_bound : ℕ → Relation → ℕ
second_bound d r = most_of (λ x. rejected_of d (go_together d r x)) d

-- how often a test changes as it goes over the first numbers
abbrev pub changes_of : (ℕ → Bool) → ℕ → ℕ
changes_of test zero = 0
changes_of test (suc zero) = 0
changes_of test (suc (suc k)) = changes_of test (suc k) + cond (beq (test k) (test (suc k))) 0 1

-- whether, as x goes over the values, each of the others begins or ceases to go with it once at
-- most
abbrev pub is_running : ℕ → (ℕ → ℕ → Bool) → Bool
is_running d together = list_all (λ y. nat_le (changes_of (λ x. together x y) d) 1) (numbers d)

-- whether it is so for either variable, as with all orders
abbrev pub is_chain : ℕ → Relation → Bool
is_chain d r = is_running d (go_together d r) && is_running d (λ y x. go_together d r x y)
