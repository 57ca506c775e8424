-- How an input stands after more calls.
use Rattle.acq_io.specs.Streams.{raised, IsLate}
use Rattle.acq_io.proofs.Prelude.{ℕ, ◌∙◌, refl, arith, ◌≡◌, ◌≤◌, HasCalled}

-- before any call
pub called_none : (f l : ℕ) → HasCalled f f l l ⊥
called_none f l = record { later = omega arith; rose = λ is. absurd is; well = λ none _. none; stopped = λ _. refl }

-- calls of which none failed, and then more
pub called_on : (f g h l m n : ℕ) (told : Type 0) → HasCalled f g l m ⊥ → HasCalled g h m n told → HasCalled f h l n told
called_on f g h l m n told first then = record {
  later = omega (arith, first.later, then.later);
  rose = λ is. omega (arith, first.later, then.rose is);
  well = λ none fine. then.well (first.well none (λ is. is)) fine;
  stopped = λ none. then.stopped (first.well none (λ is. is)) ∙ first.stopped none;
}

-- by another word for the fault
pub called_as : (f g l m : ℕ) (told said : Type 0) → (told → said) → (said → told) → HasCalled f g l m told → HasCalled f g l m said
called_as f g l m told said to fro called = record {
  later = called.later;
  rose = λ is. called.rose (fro is);
  well = λ none fine. called.well none (λ is. fine (to is));
  stopped = called.stopped;
}

-- where no call comes and no fault is told
pub called_not : (f l : ℕ) (told : Type 0) → (told → ⊥) → HasCalled f f l l told
called_not f l told never = record { later = omega arith; rose = λ is. absurd (never is); well = λ none _. none; stopped = λ _. refl }

-- and then one call more, by what is known of it
pub called_once : (f g h l m n : ℕ) (told : Type 0) → HasCalled f g l m ⊥ → g ≤ h → IsLate g m n → (told → h ≡ raised g) → ((told → ⊥) → h ≡ g) → HasCalled f h l n told
called_once f g h l m n told first later late up same = record {
  later = omega (arith, first.later, later);
  rose = λ is. omega (arith, first.later, up is);
  well = λ none fine. same fine ∙ first.well none (λ is. is);
  stopped = λ none. late.on_time (first.well none (λ is. is)) ∙ first.stopped none;
}
