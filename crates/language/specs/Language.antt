-- The language: the variables, the values, the scopes and the relations that a network may use.
use Rattle.std.specs.Prelude.{ℕ, ℤ, pos, negsuc, ◌+ℤ◌, ◌≤ℤ◌, ◌^◌, ◌<◌, ◌≤◌, ◌≡◌, ◌≢◌, Bool, true}
use Rattle.std.specs.Prelude.{not, ◌&&◌, IsTrue, IsFalse, List, [], length, map, filter, position}
use Rattle.std.specs.Prelude.{◌+◌, All, AllPairs, slice_index_or, ◌==◌, nat_le, Option, Some, None}
use Rattle.std.specs.Prelude.{if◌then◌else◌}
use Rattle.std.specs.Option.{option_map_or, ForSome}
use Rattle.std.specs.List.{flat_map, list_all}
use Rattle.std.specs.List.Sorted.{IsStrictlyIncreasing}
use Rattle.assign.specs.Sets.{numbers, is_within, is_same}
use Rattle.assign.specs.Assignment.{Assignment, value_of, covers, tuple_on, is_complete}
use Rattle.rel_table.specs.Relation.{Relation, place, holds, IsClosing}
use Rattle.language.specs.Ranges.{is_in, range_in, are_whole, widened, IsRange}
use Rattle.language.specs.declared.candidates.Candidate.{Candidate}
use Rattle.language.specs.declared.ranges.ValueRange.{ValueRange}

-- a relation of the vocabulary
pub record Given : Type 0 where
  pub name : List ℕ
  pub arity : ℕ
  pub relation : Relation

pub record Language : Type 0 where
  pub names : List (List ℕ)
  pub least_value : ℤ
  pub value_count : ℕ
  -- that of each variable
  pub ranges : List ValueRange
  -- the vocabulary's relations, in its order
  pub given : List Given
  pub scopes : List (List ℕ)
  -- those on each scope
  pub relations : List (List Relation)

-- how many variables there are
abbrev pub variable_count : Language → ℕ
variable_count l = length l.names

-- the range of the variable of this number, and its values
abbrev pub range_of : Language → ℕ → ValueRange
range_of l v = range_in l.ranges v

abbrev pub values_of : Language → ℕ → List ℕ
values_of l v = filter (is_in (range_of l v)) (numbers l.value_count)

-- those relations that have this arity
abbrev pub of_arity : ℕ → List Given → List Given
of_arity arity given = filter (λ (g : Given). g.arity == arity) given

-- the vocabulary's relations of an arity
abbrev pub given_of : Language → ℕ → List Given
given_of l arity = of_arity arity l.given

-- the variables of the scope of this number
abbrev pub scope_at : Language → ℕ → List ℕ
scope_at l s = slice_index_or l.scopes s []

-- the vocabulary's relations on the scope of this number: those of its arity, each true outside the
-- ranges
abbrev pub given_within : List ValueRange → ℕ → List ℕ → Given → Given
given_within ranges d scope g =
    record { name = g.name; arity = g.arity; relation = widened ranges d scope g.relation }

abbrev pub on_scope_of : Language → List ℕ → Given → Given
on_scope_of l scope g = given_within l.ranges l.value_count scope g

abbrev pub given_on : Language → ℕ → List Given
given_on l s = map (on_scope_of l (scope_at l s)) (given_of l (length (scope_at l s)))

-- the relations on the scope of this number
abbrev pub relations_on : Language → ℕ → List Relation
relations_on l s = slice_index_or l.relations s []

-- whether each variable of the scope of this number has all values
abbrev pub is_whole : Language → ℕ → Bool
is_whole l s = are_whole l.ranges l.value_count (scope_at l s)

-- where e's tuple on the scope of this number stands, if e covers the scope
abbrev pub place_on : Language → ℕ → Assignment → Option ℕ
place_on l s e =
    if covers e (scope_at l s) then Some (place l.value_count (tuple_on e (scope_at l s))) else None

-- a candidate's variables, and its relation
abbrev pub scope_of : Language → Candidate → List ℕ
scope_of l c = slice_index_or l.scopes c.scope []

abbrev pub relation_of : Language → Candidate → Relation
relation_of l c = slice_index_or (relations_on l c.scope) c.rel []

-- all candidates on the scope of this number, by relation
abbrev pub candidates_on : Language → ℕ → List Candidate
candidates_on l s = map (λ r. record { scope = s; rel = r }) (numbers (length (relations_on l s)))

-- all candidates, by scope and then by relation
abbrev pub candidates : Language → List Candidate
candidates l = flat_map (candidates_on l) (numbers (length l.scopes))

-- how many candidates come before this one: those on earlier scopes, and those of earlier relations
-- on its own
abbrev pub number_of : Language → Candidate → ℕ
number_of l c = length (flat_map (candidates_on l) (numbers c.scope)) + c.rel

-- the number of the scope of these variables, if there is one
abbrev pub scope_number : Language → List ℕ → Option ℕ
scope_number l set = position (is_same set) l.scopes

-- the numbers are those of a scope and of a relation on it
pub record IsCandidate (l : Language) (c : Candidate) : Type 0 where
  pub scope : c.scope < length l.scopes
  pub rel : c.rel < length (relations_on l c.scope)

-- the scope lies within the assigned variables, and the relation is false at the tuple there
abbrev pub violates : Language → Candidate → Assignment → Bool
violates l c e = covers e (scope_of l c) && not
    (holds l.value_count (relation_of l c) (tuple_on e (scope_of l c)))

-- no candidate of the network is violated
abbrev pub accepts : Language → List Candidate → Assignment → Bool
accepts l network e = list_all (λ c. not (violates l c e)) network

-- a byte that a name may have: visible, and neither `=` nor `&`
abbrev pub is_name_byte : ℕ → Bool
is_name_byte b = nat_le 33 b && nat_le b 126 && not (b == 61) && not (b == 38)

-- 1 to 64 such bytes
abbrev pub is_name : List ℕ → Bool
is_name name = nat_le 1 (length name) && nat_le (length name) 64 && list_all is_name_byte name

-- names of this form, no two of them equal
pub record AreNames (names : List (List ℕ)) : Type 0 where
  pub formed : IsTrue (list_all is_name names)
  pub apart : AllPairs (λ a b. a ≢ b) names

-- a scope of 1 to 4 variables of n, rising
pub record IsScope (n : ℕ) (scope : List ℕ) : Type 0 where
  pub rising : IsStrictlyIncreasing scope
  pub not_empty : 1 ≤ length scope
  pub short : length scope ≤ 4
  pub known : All (λ v. v < n) scope

-- neither lies within the other
pub record AreApart (s u : List ℕ) : Type 0 where
  pub left : IsFalse (is_within s u)
  pub right : IsFalse (is_within u s)

-- The relations on each scope are the intersections of the vocabulary's there, and the scopes are
-- apart.
pub record IsLanguage (l : Language) : Type 0 where
  pub some_variable : 1 ≤ length l.names
  pub few_variables : length l.names ≤ 128
  pub names : AreNames l.names
  pub some_value : 1 ≤ l.value_count
  pub few_values : l.value_count ≤ 64
  pub low : negsuc 999999 ≤ℤ l.least_value
  pub high : (l.least_value +ℤ pos l.value_count) ≤ℤ pos 1000001
  pub ranged : length l.ranges ≡ length l.names
  pub ranges : All (IsRange l.value_count) l.ranges
  pub relation_names : AreNames (map (λ (g : Given). g.name) l.given)
  pub given_sized : All (λ (g : Given). length g.relation ≡ l.value_count ^ g.arity) l.given
  pub few_scopes : length l.scopes ≤ 8192
  pub scopes : All (IsScope (length l.names)) l.scopes
  pub apart : AllPairs AreApart l.scopes
  pub closed : (s : ℕ) → s < length l.scopes →
      IsClosing (map (λ (g : Given). g.relation) (given_on l s)) (relations_on l s)
  pub sized : (s : ℕ) → s < length l.scopes →
      All (λ r. length r ≡ l.value_count ^ length (scope_at l s)) (relations_on l s)
  pub few_relations : (s : ℕ) → s < length l.scopes → length (relations_on l s) ≤ 64
  pub small : All (λ scope. l.value_count ^ length scope ≤ 65536) l.scopes
  pub used : (s : ℕ) → s < length l.scopes → 1 ≤ length (relations_on l s)

-- whether a variable has no value, or one of its range
abbrev pub is_ranged : Language → ℕ → Option ℕ → Bool
is_ranged l v o = option_map_or (is_in (range_of l v)) o true

-- an assignment of the language's variables, each to one of its values
pub record IsQuestion (l : Language) (e : Assignment) : Type 0 where
  pub size : length e ≡ variable_count l
  pub values_fit : All (λ o. ForSome o (λ x. x < l.value_count)) e
  pub within : (v : ℕ) → v < variable_count l → IsTrue (is_ranged l v (value_of e v))

-- whether it is one
abbrev pub is_question : Language → Assignment → Bool
is_question l e = (length e == variable_count l) && list_all (λ v. is_ranged l v (value_of e v))
    (numbers (variable_count l))

-- the same solutions: each complete assignment is accepted by both or by neither
abbrev pub HasSameSolutions : Language → List Candidate → List Candidate → Type 0
HasSameSolutions l network other = (e : Assignment) → IsQuestion l e → IsTrue (is_complete e) →
    accepts l network e ≡ accepts l other e

-- each solution of the network satisfies the candidate
abbrev pub IsImplied : Language → List Candidate → Candidate → Type 0
IsImplied l network c = (e : Assignment) → IsQuestion l e → IsTrue (is_complete e) →
    IsTrue (accepts l network e) → IsFalse (violates l c e)
