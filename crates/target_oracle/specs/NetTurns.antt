-- The turn of a network, which answers by acceptance.
use Rattle.std.specs.Prelude.{◌≡◌, ℕ, Bool, true, false, List, [], ◌∷◌, ◌++◌, Option, codes}
use Rattle.std.specs.Prelude.{if◌then◌else◌}
use Rattle.assign.specs.Assignment.{Assignment}
use Rattle.language.specs.declared.candidates.Candidate.{Candidate}
use Rattle.language.specs.Language.{Language, accepts}
use Rattle.language.specs.Texts.{question_text}
use Rattle.target_oracle.specs.Turns.{Turns, Said}
use Rattle.target_oracle.specs.declared.teacher.Told.{Told}
use Rattle.target_oracle.specs.declared.teacher.Told.TheVariants.{Yes, No, Back, Stop, End, TooLong}
use Rattle.target_oracle.specs.declared.teacher.Told.TheVariants.{Unreadable, ReadFault, WriteFault}
use Rattle.target_oracle.specs.declared.teacher.Told.TheVariants.{Memory}

-- a network, whether it answers without a word, and its candidates by variables, if they are listed
pub record Owner : Type 0 where
  pub network : List Candidate
  pub quiet : Bool
  pub lists : Option (List (List Candidate))

abbrev pub answer_word : Bool → List ℕ
answer_word true = codes " yes"
answer_word false = codes " no"

-- the line of a question, with its answer: `q1 a=1 b=2 no`
abbrev pub answered_text : Language → ℕ → Assignment → Bool → List ℕ
answered_text l k q answer = question_text l k q ++ (answer_word answer ++ 10 ∷ [])

-- the answer is acceptance, and nothing is read
abbrev pub net_turn : List Candidate → Bool → Turns
net_turn network quiet l k q bytes = record {
  text = if quiet then [] else answered_text l k q (accepts l network q);
  heard = record { reply = Said (accepts l network q); rest = bytes };
}

-- an answer is acceptance, and nothing else is said but that the sink failed or that there was no
-- memory
abbrev pub net_may_say : List Candidate → Language → Assignment → Told → Type 0
net_may_say network l q Yes = accepts l network q ≡ true
net_may_say network l q No = accepts l network q ≡ false
net_may_say network l q Back = ⊥
net_may_say network l q Stop = ⊥
net_may_say network l q End = ⊥
net_may_say network l q TooLong = ⊥
net_may_say network l q Unreadable = ⊥
net_may_say network l q ReadFault = ⊥
net_may_say network l q WriteFault = Unit {0}
net_may_say network l q Memory = Unit {0}

-- what is said of an answer
abbrev pub told_of_answer : Bool → Told
told_of_answer true = Yes
told_of_answer false = No
