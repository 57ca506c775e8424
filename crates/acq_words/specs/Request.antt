-- What words ask for, or why they are refused.
use Rattle.std.specs.Prelude.{◌≡◌, ◌≤◌, ℕ, Bool, true, false, not, ◌&&◌, ◌||◌, List, Option, Some}
use Rattle.std.specs.Prelude.{None, is_some, option_and_then, option_map, unwrap_or, if◌then◌else◌}
use Rattle.std.specs.Prelude.{codes, IfSome, Result, Ok, Err}
use Rattle.std.specs.Str.{bytes_eq}
use Rattle.std.specs.String.{string_bytes}
use Rattle.assign.specs.declared.events.Plan.{Plan}
use Rattle.assign.specs.declared.events.Plan.TheVariants.{Scopes, Quacq, Multi}
use Rattle.clap.specs.Words.{Row, Text, first_of, one_of}
use Rattle.acq_words.specs.Line.{are_parsed, rows_in}
use Rattle.acq_words.specs.Numbers.{digits_number}
use Rattle.acq_words.specs.declared.request.Command.{Command}
use Rattle.acq_words.specs.declared.request.Command.TheVariants as command
use Rattle.acq_words.specs.declared.request.CommandName.{CommandName}
use Rattle.acq_words.specs.declared.request.CommandName.TheVariants as name
use Rattle.acq_words.specs.declared.request.JournalPlace.{JournalPlace}
use Rattle.acq_words.specs.declared.request.JournalPlace.TheVariants.{InMemory, File}
use Rattle.acq_words.specs.declared.request.Request.{Request}
use Rattle.acq_words.specs.declared.request.UsageFault.{UsageFault}
use Rattle.acq_words.specs.declared.request.UsageFault.TheVariants.{Words, Unfit}
use Rattle.acq_words.specs.declared.request.WordsFault.{WordsFault}
use Rattle.acq_words.specs.declared.request.WordsFault.TheVariants.{Usage, Memory}
use Rattle.acq_words.specs.declared.request.Asked.{Asked}

-- ---- Names

-- the command of this name
abbrev pub command_named : Text → Option CommandName
command_named word =
    if bytes_eq word (codes "new") then Some name.New
    else (if bytes_eq word (codes "run") then Some name.Run
    else (if bytes_eq word (codes "try") then Some name.Try
    else (if bytes_eq word (codes "play") then Some name.Play
    else (if bytes_eq word (codes "show") then Some name.Show
    else (if bytes_eq word (codes "back") then Some name.Back
    else (if bytes_eq word (codes "demo") then Some name.Demo
    else (if bytes_eq word (codes "reduce") then Some name.Reduce
    else (if bytes_eq word (codes "cnf") then Some name.Cnf
    else (if bytes_eq word (codes "model") then Some name.Model
    else (if bytes_eq word (codes "certify") then Some name.Certify
    else (if bytes_eq word (codes "check") then Some name.Check
    else None)))))))))))

-- the plan of this name
abbrev pub plan_named : Text → Option Plan
plan_named word =
    if bytes_eq word (codes "scopes") then Some Scopes
    else (if bytes_eq word (codes "quacq") then Some Quacq
    else (if bytes_eq word (codes "multi") then Some Multi
    else None))

-- ---- What is asked for

abbrev pub takes_plan : CommandName → Bool
takes_plan name.New = true
takes_plan name.Run = false
takes_plan name.Try = true
takes_plan name.Play = false
takes_plan name.Show = false
takes_plan name.Back = false
takes_plan name.Demo = false
takes_plan name.Reduce = false
takes_plan name.Cnf = false
takes_plan name.Model = false
takes_plan name.Certify = false
takes_plan name.Check = false

abbrev pub takes_budget : CommandName → Bool
takes_budget name.New = false
takes_budget name.Run = true
takes_budget name.Try = true
takes_budget name.Play = true
takes_budget name.Show = false
takes_budget name.Back = false
takes_budget name.Demo = true
takes_budget name.Reduce = true
takes_budget name.Cnf = false
takes_budget name.Model = false
takes_budget name.Certify = true
takes_budget name.Check = false

abbrev pub takes_number : CommandName → Bool
takes_number name.New = false
takes_number name.Run = false
takes_number name.Try = false
takes_number name.Play = false
takes_number name.Show = false
takes_number name.Back = false
takes_number name.Demo = true
takes_number name.Reduce = false
takes_number name.Cnf = false
takes_number name.Model = false
takes_number name.Certify = false
takes_number name.Check = false

abbrev pub needs_memory : CommandName → Bool
needs_memory name.New = false
needs_memory name.Run = false
needs_memory name.Try = true
needs_memory name.Play = false
needs_memory name.Show = false
needs_memory name.Back = false
needs_memory name.Demo = true
needs_memory name.Reduce = false
needs_memory name.Cnf = false
needs_memory name.Model = false
needs_memory name.Certify = false
needs_memory name.Check = true

-- the command and the options don't fit: an option is given that the command doesn't take, a number
-- isn't given that it takes, or the journal is a file where none may be
abbrev pub is_unfit : Asked → Bool → Bool
is_unfit a is_in_memory =
    (is_some a.plan && not (takes_plan a.name))
    || ((is_some a.budget && not (takes_budget a.name))
    || ((is_some a.number && not (takes_number a.name))
    || ((takes_number a.name && not (is_some a.number))
    || (needs_memory a.name && not is_in_memory))))

abbrev pub with_plan : Option Plan → Plan
with_plan plan = unwrap_or plan Quacq

abbrev pub with_budget : Option ℕ → ℕ
with_budget budget = unwrap_or budget 100000

-- the command, with the defaults for what isn't given
abbrev pub command_by : CommandName → Option Plan → Option ℕ → Option ℕ → Command
command_by name.New plan budget number = command.New (with_plan plan)
command_by name.Run plan budget number = command.Run (with_budget budget)
command_by name.Try plan budget number = command.Try (with_plan plan) (with_budget budget)
command_by name.Play plan budget number = command.Play (with_budget budget)
command_by name.Show plan budget number = command.Show
command_by name.Back plan budget number = command.Back
command_by name.Demo plan budget number = command.Demo (unwrap_or number 0) (with_budget budget)
command_by name.Reduce plan budget number = command.Reduce (with_budget budget)
command_by name.Cnf plan budget number = command.Cnf
command_by name.Model plan budget number = command.Model
command_by name.Certify plan budget number = command.Certify (with_budget budget)
command_by name.Check plan budget number = command.Check

abbrev pub command_of : Asked → Command
command_of a = command_by a.name a.plan a.budget a.number

-- ---- Requests by their contents

-- a request; where it has no file, its journal is in memory
pub record Contents : Type 0 where
  pub file : Option Text
  pub command : Command

abbrev pub file_of : JournalPlace → Option Text
file_of InMemory = None
file_of (File file) = Some (string_bytes file)

abbrev pub contents_of : Request → Contents
contents_of r = record { file = file_of r.journal; command = r.command }

abbrev pub is_memory : Text → Bool
is_memory journal = bytes_eq journal (codes ":memory:")

abbrev pub file_named : Text → Option Text
file_named journal = if is_memory journal then None else Some journal

-- what a journal and the rest ask for
abbrev pub answer_by : Text → Asked → Result Contents UsageFault
answer_by journal a = if is_unfit a (is_memory journal) then Err Unfit
    else Ok (record { file = file_named journal; command = command_of a })

-- ---- What the words say, by what `clap` finds in them

-- no plan, or a plan of this name
abbrev pub plan_said : Option Text → Option (Option Plan)
plan_said None = Some None
plan_said (Some word) = option_map (λ (p : Plan). Some p) (plan_named word)

abbrev pub asked_by : Option CommandName → Option (Option Plan) → Option ℕ → Option ℕ → Option Asked
asked_by (Some name) (Some plan) budget number =
    Some (record { name = name; plan = plan; budget = budget; number = number })
asked_by _ _ budget number = None

abbrev pub asked_of_rows : List Row → Option Asked
asked_of_rows rows = asked_by (option_and_then command_named (first_of (codes "COMMAND") rows))
    (plan_said (first_of (codes "plan") rows))
    (option_map digits_number (one_of (codes "budget") rows))
    (option_map digits_number (one_of (codes "number") rows))

abbrev pub answer_with : Option Text → Option Asked → Result Contents UsageFault
answer_with (Some journal) (Some a) = answer_by journal a
answer_with _ _ = Err Words

abbrev pub contents_in : List Row → Result Contents UsageFault
contents_in rows = answer_with (first_of (codes "JOURNAL") rows) (asked_of_rows rows)

-- what the words ask for, or why they are refused
abbrev pub request_of_words : List Text → Result Contents UsageFault
request_of_words words = if are_parsed words then contents_in (rows_in words) else Err Words

-- ---- The answer of a call

-- this is answered, or memory ran out
abbrev pub IsRequestOf : Result Contents UsageFault → Result Request WordsFault → Type 0
IsRequestOf answer (Ok request) = answer ≡ Ok (contents_of request)
IsRequestOf answer (Err (Usage fault)) = answer ≡ Err fault
IsRequestOf answer (Err Memory) = Unit {0}

-- the budget of a command lies within its limits
abbrev pub IsBudget : ℕ → Type 0
IsBudget budget = (1 ≤ budget) × (budget ≤ 1000000000)

abbrev pub CommandIsWithin : Command → Type 0
CommandIsWithin (command.New plan) = Unit {0}
CommandIsWithin (command.Run budget) = IsBudget budget
CommandIsWithin (command.Try plan budget) = IsBudget budget
CommandIsWithin (command.Play budget) = IsBudget budget
CommandIsWithin command.Show = Unit {0}
CommandIsWithin command.Back = Unit {0}
CommandIsWithin (command.Demo number budget) = IsBudget budget
CommandIsWithin (command.Reduce budget) = IsBudget budget
CommandIsWithin command.Cnf = Unit {0}
CommandIsWithin command.Model = Unit {0}
CommandIsWithin (command.Certify budget) = IsBudget budget
CommandIsWithin command.Check = Unit {0}

-- what is given lies within its limits
pub record IsWithinLimits (a : Asked) : Type 0 where
  pub budget : IfSome a.budget IsBudget
