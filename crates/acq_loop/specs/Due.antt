-- What comes next in a session, and what the loop does with it.
use Rattle.std.specs.Prelude.{◌≡◌, ◌⊎◌, ◌∷◌, ◌++◌}
use Rattle.acq_loop.specs.Prelude.{List, [], Option, Some, None, Assignment, Answer, Event}
use Rattle.acq_loop.specs.Prelude.{Language, IsLawfulAfter, SFault}
use Rattle.session_store.specs.declared.fault.SFault.TheVariants as store
use Rattle.acq_loop.specs.Run.{Puts, next_after}
use Rattle.acq_loop.specs.Driven.{IsDone, IsCollapsed, IsLeftOpen}
use Rattle.acq_loop.specs.declared.terms.Terms.{Terms}
use Rattle.acq_loop.specs.declared.driving.Drove.{Drove}
use Rattle.acq_loop.specs.declared.driving.Drove.TheVariants as drove
use Rattle.acq_loop.specs.declared.next.Upcoming.{Upcoming}
use Rattle.acq_loop.specs.declared.next.Upcoming.TheVariants as next

-- the question that is put is the one that comes next
pub record IsDue (l : Language) (terms : Terms) (t : List Answer) (put : Option Assignment) :
    Type 0 where
  pub question : Assignment
  pub is : put ≡ Some question
  pub puts : next_after l terms t ≡ Some (Puts question)

-- what comes next after these answers, where this question is put or none is
abbrev pub NextIs : Language → Terms → List Answer → Option Assignment → Upcoming → Type 0
NextIs l terms t put next.Open = IsDue l terms t put
NextIs l terms t put (next.New q) = (next_after l terms t ≡ Some (Puts q)) × (put ≡ None)
    × IsLawfulAfter l terms.plan t q
NextIs l terms t put next.Converged = IsDone l terms t
NextIs l terms t put next.Collapsed = IsCollapsed l terms t
NextIs l terms t put next.Undecided = IsLeftOpen l terms t

-- the same events and one more
pub record IsOneMore (old new : List Event) : Type 0 where
  pub more : Event
  pub is : new ≡ old ++ more ∷ []

-- how the loop ends where an event couldn't be kept
abbrev pub ended_by : SFault → Drove
ended_by store.Memory = drove.Memory
ended_by fault = drove.DiskFault

-- the event was added, or there was no memory for it, or the disk failed
abbrev pub EventKept : Event → List Event → List Event → Option Drove → Type 0
EventKept e old new None = new ≡ old ++ e ∷ []
EventKept e old new (Some end) = ((end ≡ drove.Memory) ⊎ (end ≡ drove.DiskFault)) × (new ≡ old)
