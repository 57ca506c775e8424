-- Events, and the answers that stand.
use Rattle.std.specs.Prelude.{ℕ, ◌-◌, Bool, List, [], ◌∷◌, ◌++◌, length, map, take}
use Rattle.assign.specs.Assignment.{Assignment}
use Rattle.assign.specs.declared.events.Event.{Event}
use Rattle.assign.specs.declared.events.Event.TheVariants as events

-- a question with its answer
pub record Answer : Type 0 where
  pub question : Assignment
  pub yes : Bool

-- all answers but the last
abbrev pub without_last : List Answer → List Answer
without_last past = take (length past - 1) past

-- the answers that stand where these stood before and these events followed: an answer is put at
-- the end, a take-back removes the last
abbrev pub standing_from : List Answer → List Event → List Answer
standing_from before [] = before
standing_from before (events.Answer q y ∷ more) =
    standing_from (before ++ record { question = q; yes = y } ∷ []) more
standing_from before (events.Back ∷ more) = standing_from (without_last before) more

-- the answers that stand after a list of events, in order
abbrev pub standing : List Event → List Answer
standing = standing_from []

-- the answers, each question with its first n options alone
abbrev pub cut_to : ℕ → List Answer → List Answer
cut_to n = map (λ (a : Answer). record { question = take n a.question; yes = a.yes })
