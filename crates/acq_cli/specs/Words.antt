-- What the words ask of the program.
use Rattle.std.specs.Prelude.{◌≡◌}
use Rattle.acq_cli.specs.Prelude.{Bool, Command, Contents, Err, List, Memory, Ok, Option, Result}
use Rattle.acq_cli.specs.Prelude.{TakesSome, Usage, UsageFault, WordsFault, request_of_words, false}
use Rattle.acq_cli.specs.Prelude.{true, ℕ}
use Rattle.acq_words.specs.declared.request.Command.TheVariants as command

abbrev pub command_in : Result Contents UsageFault → Result Command UsageFault
command_in (Ok contents) = Ok contents.command
command_in (Err fault) = Err fault

-- the command that the words ask for, or why they are refused
unfoldable pub command_asked : List (List ℕ) → Result Command UsageFault
command_asked words = command_in (request_of_words words)

-- whether it is one over a journal, so that it touches the disk
abbrev pub is_over_journal : Result Command UsageFault → Bool
is_over_journal (Ok (command.New plan)) = true
is_over_journal (Ok (command.Run budget)) = true
is_over_journal (Ok (command.Try plan budget)) = false
is_over_journal (Ok (command.Play budget)) = true
is_over_journal (Ok command.Show) = true
is_over_journal (Ok command.Back) = true
is_over_journal (Ok (command.Demo number budget)) = false
is_over_journal (Ok (command.Reduce budget)) = true
is_over_journal (Ok command.Cnf) = true
is_over_journal (Ok command.Model) = true
is_over_journal (Ok (command.Certify budget)) = true
is_over_journal (Ok command.Check) = false
is_over_journal (Err fault) = false

-- whether it only says something, and asks nothing
abbrev pub is_speaking : Command → Bool
is_speaking (command.New plan) = true
is_speaking (command.Run budget) = false
is_speaking (command.Try plan budget) = false
is_speaking (command.Play budget) = false
is_speaking command.Show = true
is_speaking command.Back = true
is_speaking (command.Demo number budget) = false
is_speaking (command.Reduce budget) = true
is_speaking command.Cnf = true
is_speaking command.Model = true
is_speaking (command.Certify budget) = true
is_speaking command.Check = true

-- whether it reads the input
abbrev pub is_reading : Result Command UsageFault → Bool
is_reading (Ok (command.New plan)) = true
is_reading (Ok (command.Run budget)) = true
is_reading (Ok (command.Try plan budget)) = true
is_reading (Ok (command.Play budget)) = true
is_reading (Ok command.Show) = false
is_reading (Ok command.Back) = false
is_reading (Ok (command.Demo number budget)) = false
is_reading (Ok (command.Reduce budget)) = false
is_reading (Ok command.Cnf) = false
is_reading (Ok command.Model) = true
is_reading (Ok (command.Certify budget)) = false
is_reading (Ok command.Check) = true
is_reading (Err fault) = false

-- this is what a call answers about the words, or memory ran out
abbrev pub IsCommandOf : Result Command UsageFault → Result Command WordsFault → Type 0
IsCommandOf asked (Ok c) = asked ≡ Ok c
IsCommandOf asked (Err (Usage fault)) = asked ≡ Err fault
IsCommandOf asked (Err Memory) = Unit {0}

-- The input has an end of what it had, where it tells. What the words don't ask for is spared,
-- whatever it tells: a command that doesn't read leaves the input itself as it was, and one that
-- isn't over a journal the disk.
pub record Spares {S D : Type 0} (asked : Result Command UsageFault) (left : S →
    Option (List ℕ)) (source source' : S) (old new : D) : Type 0 where
  pub takes : TakesSome (left source) (left source')
  pub unread : is_reading asked ≡ false → source' ≡ source
  pub untouched : is_over_journal asked ≡ false → new ≡ old
