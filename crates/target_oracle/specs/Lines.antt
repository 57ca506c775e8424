-- The turn of a person who answers by lines.
use Rattle.std.specs.Prelude.{ℕ, zero, suc, List, [], ◌∷◌, ◌++◌, Option, Some, None, codes}
use Rattle.acq_io.specs.Lines.{Lined, line_of}
use Rattle.acq_io.specs.declared.lines.LineGot.{LineGot}
use Rattle.acq_io.specs.declared.lines.LineGot.TheVariants.{Line, End, TooLong, Fault}
use Rattle.language.specs.Texts.{question_text}
use Rattle.target_oracle.specs.Turns.{Reply, Ended, Overlong, Unread, Turned, turned_after, Turns}
use Rattle.target_oracle.specs.Words.{trimmed, reply_of}

-- what reading a line says to question number k: a reply, or none where the line is no answer
-- (bytes alone never give a fault)
abbrev pub line_reply : ℕ → LineGot → List ℕ → Option Reply
line_reply k Line line = reply_of k (trimmed line)
line_reply k End line = Some Ended
line_reply k TooLong line = Some Overlong
line_reply k Fault line = None

-- what a line says, and the bytes after it
pub record Spoken : Type 0 where
  pub says : Option Reply
  pub rest : List ℕ

abbrev pub spoken_in : ℕ → Lined → Spoken
spoken_in k lined = record { says = line_reply k lined.got lined.line; rest = lined.rest }

-- the first line of these bytes, to question number k
abbrev pub spoken : ℕ → List ℕ → Spoken
spoken k bytes = spoken_in k (line_of bytes)

-- what is written after a line that is no answer
abbrev pub no_answer_text : List ℕ
no_answer_text = codes "not an answer" ++ 10 ∷ []

-- nothing more is written
abbrev pub turned_by : Reply → List ℕ → Turned
turned_by reply rest = record { text = []; heard = record { reply = reply; rest = rest } }

-- a line replies, or it is no answer, and so it goes on with the bytes after it
abbrev pub hear_line : (List ℕ → Turned) → List ℕ → Option Reply → Turned
hear_line on rest None = on rest
hear_line on rest (Some reply) = turned_by reply rest

-- Lines are heard up to a reply to question number k. So many that are no answers are passed over;
-- one more ends the turn.
unfoldable pub hear : (k patience : ℕ) → List ℕ → Turned
hear k zero bytes = hear_line (turned_by Unread) (spoken k bytes).rest (spoken k bytes).says
hear k (suc patience) bytes = hear_line (λ rest. turned_after no_answer_text (hear k patience rest))
    (spoken k bytes).rest (spoken k bytes).says

-- the question line, then answer lines
abbrev pub line_turn : Turns
line_turn l k q bytes = turned_after (question_text l k q ++ 10 ∷ []) (hear k 999 bytes)
