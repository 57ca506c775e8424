-- A turn: what is written for a question, and what is heard.
use Rattle.std.specs.Prelude.{ℕ, Bool, List, ◌++◌}
use Rattle.assign.specs.Assignment.{Assignment}
use Rattle.language.specs.Language.{Language}

-- what a reply says: an answer, that the last answer that stands is taken back, the wish to stop,
-- the end of the input, a line that is too long, or too many lines that are no answers
pub data Reply : Type 0 where
  Said : Bool → Reply
  TakenBack : Reply
  Stopped : Reply
  Ended : Reply
  Overlong : Reply
  Unread : Reply

-- a reply, and the bytes after it
pub record Heard : Type 0 where
  pub reply : Reply
  pub rest : List ℕ

-- a text, and what is heard after it
pub record Turned : Type 0 where
  pub text : List ℕ
  pub heard : Heard

-- the turn, after more text
abbrev pub turned_after : List ℕ → Turned → Turned
turned_after text turned = record turned { text = text ++ turned.text }

-- the turn for a question of this number, given the bytes that are left
abbrev pub Turns : Type 0
Turns = Language → ℕ → Assignment → List ℕ → Turned
