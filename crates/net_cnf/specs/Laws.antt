-- Laws over the definitions alone.
use Rattle.std.specs.Prelude.{◌≡◌, ◌≢◌, ◌↔◌, ◌⊎◌, ℕ, ◌<◌, ◌≤◌, ◌^◌, Bool, IsTrue, List, length}
use Rattle.std.specs.Prelude.{Some, Ok, Err}
use Rattle.assign.specs.Assignment.{Assignment, is_complete}
use Rattle.language.specs.declared.candidates.Candidate.{Candidate}
use Rattle.language.specs.Language.{Language, IsLanguage, IsQuestion, accepts}
use Rattle.language.specs.Answers.{IsNetwork}
use Rattle.net_cnf.specs.Booleans.{booleans, bits}
use Rattle.net_cnf.specs.Clauses.{clauses, satisfies_clauses}
use Rattle.net_cnf.specs.Models.{IsModel, model_of}
use Rattle.net_cnf.specs.Texts.{literal_text}
use Rattle.net_cnf.specs.Tokens.{literal_in}
use Rattle.net_cnf.specs.declared.literal.Literal.{Literal}
use Rattle.net_cnf.specs.declared.model_fault.ModelFault.{ModelFault}
use Rattle.net_cnf.specs.declared.model_fault.ModelFault.TheVariants as model

-- a complete assignment with these truth values of the Booleans, and the only one
pub record IsOnlyModel (l : Language) (truths : List Bool) (e : Assignment) : Type 0 where
  pub question : IsQuestion l e
  pub complete : IsTrue (is_complete e)
  pub is : bits l e ≡ truths
  pub only : (other : Assignment) → IsQuestion l other → IsTrue (is_complete other) →
      bits l other ≡ truths → other ≡ e

-- The solutions of the network and the models of its clauses are the same.
pub record IsEncoded (l : Language) (network : List Candidate) : Type 0 where
  -- a complete assignment is accepted exactly where its Booleans satisfy the clauses
  pub same : (e : Assignment) → IsQuestion l e → IsTrue (is_complete e) →
      accepts l network e ≡ satisfies_clauses (bits l e) (clauses l network)
  -- truth values that satisfy the clauses are those of one complete assignment
  pub one : (truths : List Bool) → length truths ≡ length (booleans l) →
      IsTrue (satisfies_clauses truths (clauses l network)) →
      (e : Assignment) × IsOnlyModel l truths e

abbrev pub ClausesEncode : Type 0
ClausesEncode = (l : Language) (network : List Candidate) → IsLanguage l → IsNetwork l network →
    IsEncoded l network

-- Of so many Booleans a token is a literal exactly where it is the text of one in the clauses.
pub record ReadsLiterals (count : ℕ) : Type 0 where
  pub written : (x : Literal) → 0 < x.number → x.number ≤ count →
      literal_in count (literal_text x) ≡ Some x
  pub only : (token : List ℕ) (x : Literal) → literal_in count token ≡ Some x →
      token ≡ literal_text x

abbrev pub LiteralsAreRead : Type 0
LiteralsAreRead = (count : ℕ) → count < 2 ^ 32 → ReadsLiterals count

-- the bytes give a solution exactly where they are a model of it
abbrev pub ReadsModels : Type 0
ReadsModels = (l : Language) (network : List Candidate) (bytes : List ℕ) (e : Assignment) →
    IsModel l network bytes e ↔ (model_of l network bytes ≡ Ok e)

-- no bytes are a model and are refused
abbrev pub ReadModelIsNotRefused : Type 0
ReadModelIsNotRefused = (l : Language) (network : List Candidate) (bytes : List ℕ) (e : Assignment)
    (fault : ModelFault) → IsModel l network bytes e → model_of l network bytes ≡ Err fault → ⊥

-- each list of bytes is a model of a solution, or is refused, and not for want of memory
abbrev pub EachModelIsReadOrRefused : Type 0
EachModelIsReadOrRefused =
    (l : Language) (network : List Candidate) (bytes : List ℕ) →
    ((e : Assignment) × IsModel l network bytes e)
    ⊎ ((fault : ModelFault) × (fault ≢ model.Memory) × (model_of l network bytes ≡ Err fault))
