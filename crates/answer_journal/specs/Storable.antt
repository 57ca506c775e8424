-- What the records of a journal can hold.
use Rattle.std.specs.Prelude.{ℕ, ◌<◌, ◌≤◌, ◌≡◌, List, length, All}
use Rattle.std.specs.Option.{ForSome}
use Rattle.assign.specs.Sets.{MOST}
use Rattle.assign.specs.Assignment.{Assignment}
use Rattle.assign.specs.declared.events.Plan.{Plan}
use Rattle.assign.specs.declared.events.Event.{Event}
use Rattle.assign.specs.declared.events.Event.TheVariants.{Answer, Back}
use Rattle.answer_journal.specs.Format.{MOST_VOCABULARY, valued_count}

-- A plan, and the bytes of a vocabulary.
pub record IsStorableSession (plan : Plan) (voc : List ℕ) : Type 0 where
  pub short : length voc ≤ MOST_VOCABULARY

-- A question with 128 options, of which one at least is a value, and each value is below 64.
pub record IsStorable (question : Assignment) : Type 0 where
  pub size : length question ≡ MOST
  pub some : 1 ≤ valued_count question
  pub values_fit : All (λ o. ForSome o (λ x. x < 64)) question

-- an event that a record can hold
abbrev pub IsStorableEvent : Event → Type 0
IsStorableEvent (Answer question said) = IsStorable question
IsStorableEvent Back = Unit {0}
