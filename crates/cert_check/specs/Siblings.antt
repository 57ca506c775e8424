-- What a network makes of the values of a prefix's next variable.
use Rattle.std.specs.Prelude.{ℕ, zero, suc, ◌+◌, ◌*◌, ◌^◌, ◌<◌, ◌≤◌, ◌≡◌, ◌==◌, List, length, take}
use Rattle.std.specs.Prelude.{position, Option, Some, None, slice_get, slice_set, slice_index_or}
use Rattle.std.specs.Prelude.{if◌then◌else◌}
use Rattle.std.specs.Int.{bit_at}
use Rattle.std.specs.Option.{option_and_then}
use Rattle.assign.specs.Assignment.{Assignment}
use Rattle.language.specs.declared.candidates.Candidate.{Candidate}
use Rattle.language.specs.Language.{Language, place_on, range_of, scope_at, violates}
use Rattle.language.specs.Search.{assignment_of, order_of}
use Rattle.cert_check.specs.declared.siblings.Siblings.{Siblings}

-- where the tuple on a scope is, when the variable has a value: each value more moves it by the
-- stride
abbrev pub IsLine : Language → ℕ → ℕ → Assignment → ℕ → ℕ → Type 0
IsLine l s v e place stride = (x : ℕ) →
    place_on l s (slice_set e v (Some x)) ≡ Some (place + x * stride)

-- each place on it is one of the scope's table
abbrev pub IsWithinTable : Language → ℕ → ℕ → ℕ → Type 0
IsWithinTable l s place stride = (x : ℕ) → x < l.value_count →
    place + x * stride < l.value_count ^ length (scope_at l s)

-- the value is one of the variable's
pub record IsRangedValue (l : Language) (v x : ℕ) : Type 0 where
  pub from : (range_of l v).first ≤ x
  pub to : x ≤ (range_of l v).last

-- the first item that a value violates, if there is one
abbrev pub first_item : Siblings → ℕ → Option ℕ
first_item s x = if bit_at s.free x == 1 then None else Some (slice_index_or s.items x 0)

-- for each value of the variable, what the assignment violates with it
abbrev pub AreSiblings : Language → List Candidate → ℕ → Assignment → Siblings → Type 0
AreSiblings l network v e s = (x : ℕ) → IsRangedValue l v x →
    first_item s x ≡ position (λ d. violates l d (slice_set e v (Some x))) network

-- for each of the first n values of a prefix, or the next one, its siblings beside the values
-- before it
pub record AreLevels (l : Language) (network : List Candidate) (c : Candidate) (n : ℕ)
    (values : List ℕ) (levels : List Siblings) : Type 0 where
  pub deep : n ≤ length levels
  pub each : (j : ℕ) (d : Siblings) → j < n →
      AreSiblings l network (slice_index_or (order_of l c) j 0) (assignment_of l c (take j values))
      (slice_index_or levels j d)

-- the first item that the kth of the values violates, if there is one
abbrev pub item_below : List Siblings → List ℕ → ℕ → Option ℕ
item_below levels values zero = None
item_below levels values (suc k) =
    option_and_then (λ s. first_item s (slice_index_or values k 0)) (slice_get levels k)
