-- Laws of the halving of a whole set.
use Rattle.std.specs.Prelude.{ℕ, ◌+◌, ◌*◌, ◌^◌, ◌<◌, ◌≤◌, ◌≡◌, ◌⊎◌, Bool, true, false, IsTrue, List}
use Rattle.std.specs.Prelude.{[], ◌∷◌, ◌++◌, length}
use Rattle.assign.specs.Sets.{IsSet, has, is_within, without}
use Rattle.find_scope.specs.Halving.{Wants, Got, halve_within, halve}
use Rattle.find_scope.specs.Bound.{log_up, noes}

-- the depth doesn't matter, where it is at least the set's length
abbrev pub DepthIsEnough : Type 0
DepthIsEnough = (d e : ℕ) (base set : List ℕ) (asks : Bool) (replies : List Bool) → length set ≤ d →
    length set ≤ e →
    halve_within d base set asks replies ≡ halve_within e base set asks replies

-- What is wanted is a set, is never empty, and lies within the whole set.
pub record IsAsked (set wanted : List ℕ) : Type 0 where
  pub set_of : IsSet wanted
  pub some : 0 < length wanted
  pub within : IsTrue (is_within wanted set)

abbrev pub WantedIsAsked : Type 0
WantedIsAsked = (set : List ℕ) (replies : List Bool) (wanted : List ℕ) → IsSet set →
    halve set replies ≡ Wants wanted → IsAsked set wanted

-- What is got is a set, lies within the whole set, and is empty only where that is.
pub record IsFoundWithin (set found : List ℕ) : Type 0 where
  pub set_of : IsSet found
  pub some : 0 < length set → 0 < length found
  pub within : IsTrue (is_within found set)

abbrev pub GotIsPart : Type 0
GotIsPart = (set : List ℕ) (replies : List Bool) (found : List ℕ) (left : List Bool) → IsSet set →
    halve set replies ≡ Got found left → IsFoundWithin set found

-- this set was asked about, and this was the reply
pub record IsReplied (set : List ℕ) (replies : List Bool) (asked : List ℕ) (reply : Bool) :
    Type 0 where
  pub before : List Bool
  pub after : List Bool
  pub read : replies ≡ before ++ reply ∷ after
  pub asks : halve set before ≡ Wants asked

-- What is got is the whole set or was answered no, and it lies within each set that was answered
-- no.
pub record IsLeastDenied (set : List ℕ) (replies : List Bool) (found : List ℕ) : Type 0 where
  pub denied : (found ≡ set) ⊎ IsReplied set replies found false
  pub least : (asked : List ℕ) → IsReplied set replies asked false → IsTrue (is_within found asked)

abbrev pub GotIsLeastDenied : Type 0
GotIsLeastDenied = (set : List ℕ) (replies : List Bool) (found : List ℕ) (left : List Bool) →
    IsSet set → halve set replies ≡ Got found left → IsLeastDenied set replies found

-- A test that accepts nothing, and with each set its parts, but not this set.
pub record IsTest (set : List ℕ) (accepts : List ℕ → Bool) : Type 0 where
  pub nothing : accepts [] ≡ true
  pub parts : (part whole : List ℕ) → IsSet part → IsSet whole → IsTrue (is_within part whole) →
      accepts whole ≡ true → accepts part ≡ true
  pub rejects : accepts set ≡ false

-- Each reply is what the test says of the set that was asked about.
abbrev pub IsTrueTo : List ℕ → List Bool → (List ℕ → Bool) → Type 0
IsTrueTo set replies accepts = (asked : List ℕ) (reply : Bool) → IsReplied set replies asked reply →
    accepts asked ≡ reply

-- What is got is rejected, and without any of its members accepted.
pub record IsMinimal (accepts : List ℕ → Bool) (found : List ℕ) : Type 0 where
  pub rejected : accepts found ≡ false
  pub tight : (v : ℕ) → has found v ≡ true → accepts (without found v) ≡ true

abbrev pub GotIsMinimal : Type 0
GotIsMinimal =
    (set : List ℕ) (replies : List Bool) (found : List ℕ) (left : List Bool) (accepts : List ℕ →
    Bool) →
    IsSet set → halve set replies ≡ Got found left → IsTest set accepts →
    IsTrueTo set replies accepts → IsMinimal accepts found

-- ---- counts

-- Where a set is got, so many of the replies that were read are no.
abbrev pub GotTakesFewNoes : Type 0
GotTakesFewNoes =
    (set : List ℕ) (replies : List Bool) (found : List ℕ) (left : List Bool) → IsSet set →
    halve set replies ≡ Got found left →
    noes replies ≤ length found * log_up (length set) + noes left

-- In each run, ended or not, so many are.
pub record RunsTakeFewNoes : Type 0 where
  pub open_run : (set : List ℕ) (replies : List Bool) (wanted : List ℕ) → IsSet set →
      halve set replies ≡ Wants wanted → noes replies ≤ length set * log_up (length set)
  pub ended : (set : List ℕ) (replies : List Bool) (found : List ℕ) → IsSet set →
      halve set replies ≡ Got found [] → noes replies ≤ length set * log_up (length set)

-- With any k for which the whole set has at most 2^k members, so that one k serves many sets.
pub record NoesAreFew : Type 0 where
  pub got : (k : ℕ) (set : List ℕ) (replies : List Bool) (found : List ℕ) (left : List Bool) →
      length set ≤ 2 ^ k → IsSet set → halve set replies ≡ Got found left →
      noes replies ≤ length found * k + noes left
  pub open_run : (k : ℕ) (set : List ℕ) (replies : List Bool) (wanted : List ℕ) →
      length set ≤ 2 ^ k → IsSet set → halve set replies ≡ Wants wanted →
      noes replies ≤ length set * k

-- The logarithm is the least such k.
pub record LogIsLeast : Type 0 where
  pub enough : (n : ℕ) → n ≤ 2 ^ log_up n
  pub least : (n k : ℕ) → n ≤ 2 ^ k → log_up n ≤ k

-- A run takes at most 2 · (|set| - 1) replies: fewer while a set is wanted, and no more once one is
-- got.
pub record RunsAreShort : Type 0 where
  pub open_run : (set : List ℕ) (replies : List Bool) (wanted : List ℕ) →
      halve set replies ≡ Wants wanted → length replies + 3 ≤ 2 * length set
  pub ended : (set : List ℕ) (replies : List Bool) (found : List ℕ) (left : List Bool) →
      0 < length set → halve set replies ≡ Got found left →
      length replies + 2 ≤ 2 * length set + length left
