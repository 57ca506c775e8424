-- What a solver's model says of a network: a solution, or the first fault.
use Rattle.std.specs.Prelude.{◌≡◌, ℕ, ◌-◌, ◌<◌, ◌≤◌, ◌==◌, nat_lt, Bool, not, ◌&&◌, true, false}
use Rattle.std.specs.Prelude.{IsTrue, IsSome, List, [], ◌∷◌, length, map, filter, find, position}
use Rattle.std.specs.Prelude.{All, Option, Some, None, Result, Ok, Err, slice_index_or}
use Rattle.std.specs.Prelude.{if◌then◌else◌}
use Rattle.std.specs.Bool.{beq}
use Rattle.std.specs.List.{list_any, range_with_len}
use Rattle.assign.specs.Sets.{numbers}
use Rattle.assign.specs.Assignment.{Assignment, is_complete}
use Rattle.language.specs.declared.candidates.Candidate.{Candidate}
use Rattle.language.specs.Language.{Language, IsQuestion, variable_count, values_of, violates}
use Rattle.language.specs.Language.{accepts}
use Rattle.net_cnf.specs.Booleans.{boolean, booleans, bits, boolean_number}
use Rattle.net_cnf.specs.Tokens.{tokens, bad_token, literal_in, literals_in}
use Rattle.net_cnf.specs.declared.literal.Literal.{Literal}
use Rattle.net_cnf.specs.declared.model_fault.ModelFault.{ModelFault}
use Rattle.net_cnf.specs.declared.model_fault.ModelFault.TheVariants.{TooLong, BadToken, Twice}
use Rattle.net_cnf.specs.declared.model_fault.ModelFault.TheVariants.{NotOne, Violates}

-- the most bytes that a model may have
abbrev pub MOST_MODEL : ℕ
MOST_MODEL = 4194304

-- ---- Booleans and literals

abbrev pub boolean_count : Language → ℕ
boolean_count l = length (booleans l)

-- the literals that the bytes name
abbrev pub literals_of : Language → List ℕ → List Literal
literals_of l bytes = literals_in (boolean_count l) (tokens bytes)

-- the Boolean of this number is named with this sign
abbrev pub is_named : List Literal → Bool → ℕ → Bool
is_named literals positive number =
    list_any (λ (x : Literal). (x.number == number) && beq x.positive positive) literals

-- the truth values of so many Booleans, numbered from 1: one that isn't named is false
abbrev pub truths_of : ℕ → List Literal → List Bool
truths_of count literals = map (is_named literals true) (range_with_len 1 count)

-- of so many Booleans the least that is named with both signs
abbrev pub both_named : ℕ → List Literal → Option ℕ
both_named count literals = find (λ number.
    is_named literals true number && is_named literals false number) (range_with_len 1 count)

-- ---- Values

-- the values of a variable whose Booleans are true
abbrev pub true_values : Language → List Bool → ℕ → List ℕ
true_values l truths v =
    filter (λ x. slice_index_or truths (boolean_number l (boolean v x) - 1) false) (values_of l v)

-- the least variable of which not exactly one Boolean is true
abbrev pub not_one : Language → List Bool → Option ℕ
not_one l truths =
    find (λ v. not (length (true_values l truths v) == 1)) (numbers (variable_count l))

-- the one element of a list
abbrev pub only_of : {X : Type 0} → List X → Option X
only_of [] = None
only_of (x ∷ []) = Some x
only_of (x ∷ y ∷ more) = None

-- each variable has the value whose Boolean is true
abbrev pub modelled_assignment : Language → List Bool → Assignment
modelled_assignment l truths =
    map (λ v. only_of (true_values l truths v)) (numbers (variable_count l))

-- the least item that is violated
abbrev pub violated : Language → List Candidate → Assignment → Option ℕ
violated l network e = position (λ c. violates l c e) network

-- ---- The whole

-- refused for this, where there is a cause
abbrev pub refused_where : {A B : Type 0} → (B → ModelFault) → Option B → Result A ModelFault →
    Result A ModelFault
refused_where fault None next = next
refused_where fault (Some at) next = Err (fault at)

-- the solution that has these Booleans, or why there is none
abbrev pub solution_in : Language → List Candidate → List Bool → Result Assignment ModelFault
solution_in l network truths =
    refused_where NotOne (not_one l truths) (
    refused_where Violates (violated l network (modelled_assignment l truths)) (
    Ok (modelled_assignment l truths)))

-- the solution of literals
abbrev pub solution_of : Language → List Candidate → List Literal → Result Assignment ModelFault
solution_of l network literals = refused_where Twice (both_named (boolean_count l) literals)
    (solution_in l network (truths_of (boolean_count l) literals))

-- the solution that a model's bytes give, or the first fault
unfoldable pub model_of : Language → List Candidate → List ℕ → Result Assignment ModelFault
model_of l network bytes =
    if nat_lt MOST_MODEL (length bytes) then Err TooLong
    else refused_where BadToken (bad_token (boolean_count l) (tokens bytes))
    (solution_of l network (literals_of l bytes))

-- The bytes are a model of this solution: their tokens are literals, none beside its negation, and
-- give the truth values of its Booleans.
pub record IsModel (l : Language) (network : List Candidate) (bytes : List ℕ) (e : Assignment) :
    Type 0 where
  pub short : length bytes ≤ MOST_MODEL
  pub literals : All (λ token. IsSome (literal_in (boolean_count l) token)) (tokens bytes)
  pub once : (number : ℕ) → 0 < number → number ≤ boolean_count l →
      IsTrue (is_named (literals_of l bytes) true number) →
      IsTrue (is_named (literals_of l bytes) false number) → ⊥
  pub question : IsQuestion l e
  pub complete : IsTrue (is_complete e)
  pub accepted : IsTrue (accepts l network e)
  pub given : bits l e ≡ truths_of (boolean_count l) (literals_of l bytes)
