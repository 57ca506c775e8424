-- What `reduce` says of a session.
use Rattle.std.specs.Prelude.{◌≡◌, if◌then◌else◌}
use Rattle.acq_said.specs.Prelude.{ℕ, zero, suc, IsTrue, List, [], length, Option, Some, None}
use Rattle.acq_said.specs.Prelude.{Candidate, Language, IsLanguage, HasSameSolutions, IsConverged}
use Rattle.acq_said.specs.Prelude.{IsNetwork, agrees, standing_on, IsReduction, Sifts}
use Rattle.acq_said.specs.Prelude.{IsReducedBySearch, left_at, outcome_at, reduced_text, spent_text}
use Rattle.acq_said.specs.Prelude.{state_after, Opened, learned_in, option_or, is_spent}
use Rattle.acq_said.specs.Prelude.{option_map_or}
use Rattle.acq_said.specs.Saying.{Saying, saying}
use Rattle.acq_loop.specs.declared.ending.Ending.TheVariants as ending

-- the network to which the answers of a session lead
abbrev pub network_led_to : Opened → List Candidate
network_led_to o = learned_in (state_after o.lang o.plan (standing_on o.lang o.events))

-- the language of a session, and the network that it has learned
pub record HasLearned (o : Opened) (l : Language) (network : List Candidate) : Type 0 where
  pub lang : l ≡ o.lang
  pub same : network ≡ network_led_to o
  pub lawful : IsLanguage l
  pub legal : IsNetwork l network

-- ---- What is said of a network

-- the first item whose search is spent, of so many
abbrev pub first_spent : Language → List Candidate → ℕ → ℕ → Option ℕ
first_spent l network budget zero = None
first_spent l network budget (suc i) = option_or (first_spent l network budget i)
    (if is_spent (outcome_at l network budget i) then Some i else None)

-- the first item whose search is spent, or else the items that remain
abbrev pub reduced_said : ℕ → Opened → Saying
reduced_said budget o =
    option_map_or (λ i. saying (spent_text i) (ending.ReduceSpent i))
    (first_spent o.lang (network_led_to o) budget (length (network_led_to o)))
    (saying (reduced_text o.lang (left_at o.lang (network_led_to o) budget
    (length (network_led_to o))) (length (network_led_to o))) ending.Done)

-- ---- What is true of it

-- No search is spent, and the part that remains was said: the sifted network, which is a reduction.
pub record IsReduced (budget : ℕ) (o : Opened) : Type 0 where
  pub part : List Candidate
  pub searched : IsReducedBySearch o.lang (network_led_to o) budget part
  pub sifted : Sifts o.lang [] (network_led_to o) part
  pub reduction : IsReduction o.lang (network_led_to o) part
  -- where the answers have converged, it has the solutions of each network that agrees with them
  pub targets : (target : List Candidate) →
      IsConverged o.lang (network_led_to o) (standing_on o.lang o.events) →
      IsNetwork o.lang target →
      IsTrue (agrees o.lang target (standing_on o.lang o.events)) →
      HasSameSolutions o.lang part target
  pub said : reduced_said budget o
      ≡ saying (reduced_text o.lang part (length (network_led_to o))) ending.Done
