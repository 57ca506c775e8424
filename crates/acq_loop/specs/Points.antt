-- A point of a run, and how a run chooses its questions.
use Rattle.acq_loop.specs.Prelude.{ℕ, List, Option, Event, Plan}
use Rattle.acq_loop.specs.Driven.{Point}
use Rattle.acq_loop.specs.declared.terms.Terms.{Terms}

abbrev pub point_of : List Event → Option (List ℕ) → Option (List ℕ) → Point
point_of events left written = record { events = events; left = left; written = written }

abbrev pub terms_with : Plan → ℕ → Terms
terms_with plan budget = record { plan = plan; budget = budget }
