-- What a crash leaves of answers that were acknowledged: those behind which something was written,
-- in this call or before it.
use Rattle.std.specs.Prelude.{◌++◌, ◌∷◌, ◌≡◌, ◌⊎◌}
use Rattle.acq_cli.specs.Prelude.{AddsFront, Answer, BreaksRun, Candidate, Command, DiskOf, Err}
use Rattle.acq_cli.specs.Prelude.{Event, ForSome, HoldsAtLeast, LeavesOnly, List, MatchResult}
use Rattle.acq_cli.specs.Prelude.{NetFault, Ok, Opened, Opens, Option, Result, SFault, Saying}
use Rattle.acq_cli.specs.Prelude.{SaysOpened, Some, Turns, UsageFault, [], back_said, false, length}
use Rattle.acq_cli.specs.Prelude.{line_turn, net_turn, network_of, refused_said, standing_on}
use Rattle.acq_cli.specs.Prelude.{terms_with, ℕ}
use Rattle.acq_words.specs.declared.request.Command.TheVariants as command
use Rattle.assign.specs.declared.events.Event.TheVariants as event
use Rattle.acq_loop.specs.declared.ending.Ending.TheVariants as ending
use Rattle.acq_cli.specs.Playing.{stale_said, target_refused}

-- the network that `play` lets answer, or what it says in place of a run: answers stand, or the
-- input is no network
abbrev pub target_among : List Answer → Result (List Candidate) NetFault →
    Result (List Candidate) Saying
target_among (a ∷ t) read = Err (stale_said (length (a ∷ t)))
target_among [] (Ok target) = Ok target
target_among [] (Err f) = Err (target_refused f)

-- the meanings of a disk
module _ {D : Type 0} (disk : DiskOf D) where
  -- Of a session there are some events more. What was written goes no further than the lines of the
  -- question that comes after all these events; or the run is closed after them, and a front of its
  -- last lines was written behind it. Each content that a crash may leave holds at least these
  -- events. So an answer behind whose lines something was written is in each of them.
  pub record KeepsAcknowledged (turns : Turns) (o : Opened) (budget : ℕ)
      (left written left' written' : Option (List ℕ)) (new : D) : Type 0 where
    pub more : List Event
    pub stops : BreaksRun turns o.lang (terms_with o.plan budget) o.events
        (o.events ++ more) left written left' written'
    pub holds : (c : List ℕ) → disk.may_leave new c → HoldsAtLeast o.plan o.voc (o.events ++ more) c

  -- nothing was written, or no more than is kept
  abbrev pub RunKeeps : Turns → Opened → ℕ → (left written left' written' : Option (List ℕ)) → D →
      Type 0
  RunKeeps turns o budget left written left' written' new =
      (written' ≡ written) ⊎ KeepsAcknowledged turns o budget left written left' written' new

  -- What is acknowledged in a call, by what the file opens with: `run` and `play` write no question
  -- of a file that is refused, and of a session what is kept; `play` writes no question either
  -- where answers stand or the input is no network. `back` writes only where each content holds the
  -- take-back. The others add no event.
  abbrev pub KeepsSince : Result Command UsageFault →
      (left written left' written' : Option (List ℕ)) → D → Result Opened SFault → Type 0
  KeepsSince (Ok (command.Run budget)) left written left' written' new (Err f) =
      AddsFront written written' (refused_said f).text
  KeepsSince (Ok (command.Run budget)) left written left' written' new (Ok o) =
      ForSome left (λ bytes. RunKeeps line_turn o budget (Some bytes) written left' written' new)
  KeepsSince (Ok (command.Play budget)) left written left' written' new (Err f) =
      AddsFront written written' (refused_said f).text
  KeepsSince (Ok (command.Play budget)) left written left' written' new (Ok o) =
      ForSome left
      (λ bytes. MatchResult (target_among (standing_on o.lang o.events) (network_of o.lang bytes))
      (λ target. RunKeeps (net_turn target false) o budget (Some []) written left' written' new)
      (λ what. AddsFront written written' what.text))
  KeepsSince (Ok command.Back) left written left' written' new (Err f) = Unit {0}
  KeepsSince (Ok command.Back) left written left' written' new (Ok o) =
      (back_said o).ending ≡ ending.Done → (written' ≡ written) ⊎ ((c : List ℕ) →
      disk.may_leave new c → HoldsAtLeast o.plan o.voc (o.events ++ event.Back ∷ []) c)
  KeepsSince (Ok (command.Try plan budget)) left written left' written' new opening = Unit {0}
  KeepsSince (Ok (command.New plan)) left written left' written' new opening = Unit {0}
  KeepsSince (Ok (command.Demo number budget)) left written left' written' new opening = Unit {0}
  KeepsSince (Ok command.Show) left written left' written' new opening = Unit {0}
  KeepsSince (Ok (command.Reduce budget)) left written left' written' new opening = Unit {0}
  KeepsSince (Ok command.Cnf) left written left' written' new opening = Unit {0}
  KeepsSince (Ok command.Model) left written left' written' new opening = Unit {0}
  KeepsSince (Ok (command.Certify budget)) left written left' written' new opening = Unit {0}
  KeepsSince (Ok command.Check) left written left' written' new opening = Unit {0}
  KeepsSince (Err fault) left written left' written' new opening = Unit {0}

  -- Where the disk tells its bytes. Of the session that the file held, a crash at any moment of a
  -- call leaves each event, or what it might have left before the call; whichever command it is. At
  -- its end it leaves what was acknowledged in it.
  pub record Acknowledges (asked : Result Command UsageFault)
      (left written left' written' : Option (List ℕ)) (old new : D) : Type 0 where
    pub before : ForSome (disk.content old) (λ file. (o : Opened) → SaysOpened file o →
        LeavesOnly disk old new (λ c. disk.may_leave old c ⊎ HoldsAtLeast o.plan o.voc o.events c))
    pub since : ForSome (disk.content old) (λ file. (opening : Result Opened SFault) →
        Opens file opening → KeepsSince asked left written left' written' new opening)
