-- The signs with which Booleans are named, as they are marked while a model is read.
use Rattle.std.specs.Prelude.{◌≡◌, ◌≢◌, ℕ, Bool, true, false, List, length, map, Some, None, Vec}
use Rattle.std.specs.Prelude.{Result, Ok, Err}
use Rattle.std.specs.List.{range_with_len}
use Rattle.std.specs.Option.{option_map}
use Rattle.assign.specs.Assignment.{Assignment}
use Rattle.language.specs.Language.{Language}
use Rattle.net_cnf.specs.Models.{is_named, not_one, modelled_assignment}
use Rattle.net_cnf.specs.Tokens.{bad_token, literals_in}
use Rattle.net_cnf.specs.declared.literal.Literal.{Literal}
use Rattle.net_cnf.specs.declared.model_fault.ModelFault.{ModelFault}
use Rattle.net_cnf.specs.declared.model_fault.ModelFault.TheVariants.{BadToken, NotOne, Memory}
use Rattle.net_cnf.specs.declared.reading.Signs.{Signs}

-- those of the Boolean of this number
abbrev pub signs_of : List Literal → ℕ → Signs
signs_of literals number =
    record { positive = is_named literals true number; negative = is_named literals false number }

-- those of so many Booleans
abbrev pub marks : List Literal → ℕ → List Signs
marks literals count = map (signs_of literals) (range_with_len 1 count)

-- the signs of the literals are marked, and no others
abbrev pub IsMarked : List Literal → List Signs → Type 0
IsMarked literals signs = signs ≡ marks literals (length signs)

abbrev pub positive_signs : List Signs → List Bool
positive_signs signs = map (λ (s : Signs). s.positive) signs

-- all tokens are literals, and their signs are marked
pub record AreNamed (count : ℕ) (tokens : List (List ℕ)) (signs : List Signs) : Type 0 where
  pub read : bad_token count tokens ≡ None
  pub marked : signs ≡ marks (literals_in count tokens) count

-- or the first token that is none is told
abbrev pub MarksTokens : List (List ℕ) → List Signs → Result (Unit {0}) ModelFault → Type 0
MarksTokens tokens signs (Ok _) = AreNamed (length signs) tokens signs
MarksTokens tokens signs (Err fault) =
    option_map BadToken (bad_token (length signs) tokens) ≡ Some fault

-- the same of signs that are made
abbrev pub Names : {Z : Type 0} → ℕ → List (List ℕ) → Result (Vec Signs Z) ModelFault → Type 0
Names count tokens (Ok signs) = AreNamed count tokens signs.items
Names count tokens (Err fault) = fault ≢ Memory →
    option_map BadToken (bad_token count tokens) ≡ Some fault

-- of each variable exactly one Boolean is true, and the assignment gives it that value
pub record AreOnes (l : Language) (positive_signs : List Bool) (e : Assignment) : Type 0 where
  pub one : not_one l positive_signs ≡ None
  pub is : e ≡ modelled_assignment l positive_signs

-- or the least variable of which that isn't so is told
abbrev pub HasOnes : Language → List Bool → Result Assignment ModelFault → Type 0
HasOnes l positive_signs (Ok e) = AreOnes l positive_signs e
HasOnes l positive_signs (Err fault) = option_map NotOne (not_one l positive_signs) ≡ Some fault
