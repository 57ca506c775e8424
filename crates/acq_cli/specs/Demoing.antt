-- What `demo` has done.
use Rattle.std.specs.Prelude.{◌++◌, ◌∷◌, ◌≡◌, ◌⊎◌}
use Rattle.acq_cli.specs.Prelude.{Adds, AddsFront, Candidate, Closing, Converged, Drove, Ending}
use Rattle.acq_cli.specs.Prelude.{Err, Event, HasFound, IfOk, IsGenerated, IsSaid, Language, List}
use Rattle.acq_cli.specs.Prelude.{MatchResult, Option, Put, Quacq, Ran, Result, Runs, Saying, Terms}
use Rattle.acq_cli.specs.Prelude.{Undecided, Unsaid, [], candidates, codes, decimal, ending_line}
use Rattle.acq_cli.specs.Prelude.{learned_after, length, net_turn, saying, standing_on, target_of}
use Rattle.acq_cli.specs.Prelude.{terms_with, true, variable_count, ℕ}
use Rattle.acq_said.specs.declared.said.Unsaid.TheVariants as unsaid
use Rattle.acq_cli.specs.Playing.{IsAnsweredBy}
use Rattle.acq_io.specs.declared.streams.Put.TheVariants as put
use Rattle.acq_loop.specs.declared.driving.Drove.TheVariants as drove
use Rattle.acq_loop.specs.declared.ending.Ending.TheVariants as ending

-- ---- Texts

-- the first line: the number, and how large its language is
abbrev pub demo_text : ℕ → Language → List ℕ
demo_text number l =
    codes "demo " ++ (decimal number ++ (codes " variables "
    ++ (decimal (variable_count l) ++ (codes " scopes " ++ (decimal (length l.scopes)
    ++ (codes " candidates " ++ (decimal (length (candidates l)) ++ 10 ∷ [])))))))

-- the first one of its last lines, and how many candidates were learned
abbrev pub summary_text : Closing → (m learned : ℕ) → List ℕ
summary_text closing m learned =
    ending_line closing m ++ (codes "learned " ++ (decimal learned ++ 10 ∷ []))

-- ---- The run

-- The run in which this target gives each answer without a word, from none on, has closed so after
-- these events, with so many answers, and what it found is true.
pub record ClosesQuietly (target : List Candidate) (l : Language) (terms : Terms)
    (later : List Event) (end : Closing) (m : ℕ) : Type 0 where
  pub run : Ran
  pub runs : Runs (net_turn target true) l terms [] [] run
  pub closing : run.closing ≡ end
  pub events : run.events ≡ later
  pub count : m ≡ length (standing_on l later)
  pub found : HasFound l terms (standing_on l later) end

-- The loop ended by itself, or memory was wanting. Neither does a network stop, nor does anything
-- else fail.
abbrev pub HasDriven : List Candidate → Language → Terms → List Event → Drove → Type 0
HasDriven target l terms events (drove.Converged m) =
    ClosesQuietly target l terms events Converged m
HasDriven target l terms events (drove.Undecided m) =
    ClosesQuietly target l terms events Undecided m
HasDriven target l terms events drove.Memory = Unit {0}
HasDriven target l terms events how = ⊥

-- ---- The command

-- the loop's endings of which there is something to say, and want of memory
abbrev pub IsQuietEnd : Drove → Type 0
IsQuietEnd (drove.Converged m) = Unit {0}
IsQuietEnd (drove.Undecided m) = Unit {0}
IsQuietEnd drove.Memory = Unit {0}
IsQuietEnd how = ⊥

-- what is said where the loop ended so, of a network of so many candidates
abbrev pub SaysSum : (learned : ℕ) → Drove → Result Saying Unsaid → Type 0
SaysSum learned (drove.Converged m) said =
    IsSaid (saying (summary_text Converged m learned) (ending.Converged m)) said
SaysSum learned (drove.Undecided m) said =
    IsSaid (saying (summary_text Undecided m learned) (ending.Undecided m)) said
SaysSum learned drove.Memory said = said ≡ Err unsaid.Memory
SaysSum learned how said = ⊥

-- The number has made a language and a target, which gives each answer of a run from none on,
-- without a word. The command ends as the run does, converged or undecided, and has written the
-- whole text; or it broke off and wrote a front of it.
pub record IsDemo (number budget : ℕ) (written written' : Option (List ℕ))
    (got : Result Ending Put) : Type 0 where
  pub lang : Language
  pub generated : IsGenerated lang
  pub run : Ran
  pub runs : Runs (net_turn (target_of number lang) true) lang (terms_with Quacq budget) [] [] run
  pub ends : IfOk got (λ end.
      ((run.closing ≡ Converged) × (end ≡ ending.Converged (length (standing_on lang run.events))))
      ⊎ ((run.closing ≡ Undecided)
      × (end ≡ ending.Undecided (length (standing_on lang run.events)))))
  pub found : IfOk got
      (λ _. HasFound lang (terms_with Quacq budget) (standing_on lang run.events) run.closing)
  -- the whole text has no question, and of the network how many candidates it has
  pub writes : (
      let t = standing_on lang run.events in
      let text = demo_text number lang ++ summary_text run.closing (length t)
      (length (learned_after lang (terms_with Quacq budget) t)) in
      MatchResult got (λ _. Adds written written' text) (λ _. AddsFront written written' text))
  pub answered : IfOk got (λ _. IsAnsweredBy (target_of number lang) lang (terms_with Quacq budget)
      (standing_on lang run.events) got)

-- or there was no memory for them
abbrev pub Demos : (number budget : ℕ) → (written written' : Option (List ℕ)) → Result Ending Put →
    Type 0
Demos number budget written written' got = ((got ≡ Err put.Memory) × (written' ≡ written))
    ⊎ IsDemo number budget written written' got
