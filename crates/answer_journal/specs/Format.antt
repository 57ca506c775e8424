-- The bytes of a journal's records.
use Rattle.std.specs.Prelude.{ℕ, List, [], ◌∷◌, ◌++◌, Some, None, length, flat_map, if◌then◌else◌}
use Rattle.std.specs.Prelude.{Bool, suc, ◌+◌}
use Rattle.std.specs.Int.{w32, to_be_bytes}
use Rattle.assign.specs.declared.events.Plan.{Plan}
use Rattle.assign.specs.declared.events.Plan.TheVariants.{Scopes, Quacq, Multi}
use Rattle.assign.specs.declared.events.Event.TheVariants.{Answer, Back}
use Rattle.assign.specs.Assignment.{Assignment}
use Rattle.answer_journal.specs.declared.record.Record.{Record}
use Rattle.answer_journal.specs.declared.record.Record.TheVariants.{Added, Raising}

abbrev pub MOST_RECORDS : ℕ
MOST_RECORDS = 1000000

abbrev pub MOST_VOCABULARY : ℕ
MOST_VOCABULARY = 4194304

-- `QUACQJ1` and a newline
abbrev pub MAGIC : List ℕ
MAGIC = 0x51 ∷ 0x55 ∷ 0x41 ∷ 0x43 ∷ 0x51 ∷ 0x4a ∷ 0x31 ∷ 0x0a ∷ []

-- what stands behind the gate: a kind, a length and a payload of that length
abbrev pub tail_bytes : ℕ → List ℕ → List ℕ
tail_bytes kind payload = kind ∷ to_be_bytes w32 (length payload) ++ payload

abbrev pub plan_byte : Plan → ℕ
plan_byte Scopes = 1
plan_byte Quacq = 2
plan_byte Multi = 3

-- a plan and a vocabulary, behind their gate
unfoldable pub session_tail : Plan → List ℕ → List ℕ
session_tail plan voc = tail_bytes 0x53 (plan_byte plan ∷ voc)

-- how many variables have a value
abbrev pub valued_count : Assignment → ℕ
valued_count [] = 0
valued_count (None ∷ q) = valued_count q
valued_count (Some x ∷ q) = 1 + valued_count q

-- the variables from v on that have a value, each with it, rising
abbrev pub pairs_from : ℕ → Assignment → List ℕ
pairs_from v [] = []
pairs_from v (None ∷ q) = pairs_from (suc v) q
pairs_from v (Some x ∷ q) = v ∷ x ∷ pairs_from (suc v) q

abbrev pub said_byte : Bool → ℕ
said_byte said = if said then 1 else 0

abbrev pub answer_payload : Assignment → Bool → List ℕ
answer_payload q said = said_byte said ∷ valued_count q ∷ pairs_from 0 q

-- which record it is: an answer, a take-back, or the one that raises a journal
abbrev pub kind_byte : Record → ℕ
kind_byte (Added (Answer q said)) = 0x41
kind_byte (Added Back) = 0x42
kind_byte Raising = 0x55

abbrev pub record_payload : Record → List ℕ
record_payload (Added (Answer q said)) = answer_payload q said
record_payload (Added Back) = []
record_payload Raising = 2 ∷ []

-- a record, behind its gate
unfoldable pub record_tail : Record → List ℕ
record_tail r = tail_bytes (kind_byte r) (record_payload r)

abbrev pub record_bytes : Record → List ℕ
record_bytes r = 1 ∷ record_tail r

-- the magic and all records
abbrev pub written : Plan → List ℕ → List Record → List ℕ
written plan voc records = MAGIC ++ 1 ∷ session_tail plan voc ++ flat_map record_bytes records
