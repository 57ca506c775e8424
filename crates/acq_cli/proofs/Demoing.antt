-- What `demo` has done, of its loop and what was said of it.
use Rattle.acq_cli.proofs.Prelude.{Adds, AddsFront, Candidate, ClosesQuietly, Closing, Converged, Demos, Drives, Drove, Ending, EndsWith, Err, Event, HasDriven, HasFound, HasWritten, IfOk, IsAnsweredBy, IsGenerated, IsLanguage, IsNetwork, IsTrue, Language, List, MayEnd, Ok, Option, Put, Quacq, Ran, Result, Runs, Saying, SaysSum, Some, Terms, Undecided, Unsaid, [], adds_then, agrees, ap, begun, demo_text, ending_of, ends_as, failed, inl, inr, learned_after, length, net_may_say, net_turn, okay, or_silent, point_of, ran, refl, run_exists, run_laws, said_as, saying, standing_on, subst, summary_text, sym, target_of, terms_with, transport, true, ℕ, ⊎_elim, ◌++◌, ◌≡◌, ◌⊎◌}
use Rattle.acq_cli.proofs.Targets.{has_same}
use Rattle.target_oracle.proofs.Fronts.{front_longer, front_none, front_then, front_whole}
use Rattle.acq_io.specs.declared.streams.Put.TheVariants as put
use Rattle.acq_loop.specs.declared.driving.Drove.TheVariants as drove
use Rattle.acq_loop.specs.declared.ending.Ending.TheVariants as ending

-- ---- the loop

-- how the loop ended, where nothing of its own has failed
pub driven_by : (target : List Candidate) (l : Language) (terms : Terms) (events : List Event) (written left' written' : Option (List ℕ)) (how : Drove) →
    Drives (net_turn target true) l terms (point_of [] (Some []) written) (point_of events left' written') how → MayEnd (net_may_say target l) (ending_of how) →
    ((m : ℕ) → how ≡ drove.Collapsed m → ⊥) → (how ≡ drove.WriteFault → ⊥) → (how ≡ drove.DiskFault → ⊥) → (how ≡ drove.JournalFull → ⊥) → HasDriven target l terms events how
driven_by target l terms events written left' written' (drove.Converged m) drives said collapsed write disk full =
    let run = drives.closed [] refl in
    record { run = run.run; runs = run.runs; closing = run.closing; events = run.events; count = drives.says.number; found = drives.says.found }
driven_by target l terms events written left' written' (drove.Undecided m) drives said collapsed write disk full =
    let run = drives.closed [] refl in
    record { run = run.run; runs = run.runs; closing = run.closing; events = run.events; count = drives.says.number; found = drives.says.found }
driven_by target l terms events written left' written' (drove.Collapsed m) drives said collapsed write disk full = collapsed m refl
driven_by target l terms events written left' written' (drove.Suspended m) drives (q, said) collapsed write disk full = ⊎_elim (λ no. no) (λ no. no) said
driven_by target l terms events written left' written' drove.WriteFault drives said collapsed write disk full = write refl
driven_by target l terms events written left' written' drove.DiskFault drives said collapsed write disk full = disk refl
driven_by target l terms events written left' written' drove.JournalFull drives said collapsed write disk full = full refl
driven_by target l terms events written left' written' drove.Memory drives said collapsed write disk full = tt
driven_by target l terms events written left' written' how drives said collapsed write disk full = said.1

-- ---- the command

-- the first line was put
pub line_put : {E : Type 0} (number : ℕ) (l : Language) (made : Result Saying E) (said : Result Saying Unsaid) (written written' : Option (List ℕ)) (got : Result Ending Put) → said ≡ or_silent made → IfOk made (λ s. s ≡ saying (demo_text number l) ending.Done) →
    HasWritten said written written' got → EndsWith ending.Done (demo_text number l) written written' got
line_put number l made said written written' got is so has =
    let what = saying (demo_text number l) ending.Done in ends_as what said written written' got (said_as made said what what is refl so) has

-- how it ends by its run
abbrev QuietEnd : Language → Ran → Ending → Type 0
QuietEnd l run end = ((run.closing ≡ Converged) × (end ≡ ending.Converged (length (standing_on l run.events)))) ⊎ ((run.closing ≡ Undecided) × (end ≡ ending.Undecided (length (standing_on l run.events))))

module _ (number budget : ℕ) (l : Language) (generated : IsGenerated l) (lawful : IsLanguage l) (network : IsNetwork l (target_of number l)) (written : Option (List ℕ)) where
  abbrev terms : Terms
  terms = terms_with Quacq budget

  abbrev target : List Candidate
  target = target_of number l

  abbrev whole : Ran → List ℕ
  whole run = demo_text number l ++ summary_text run.closing (length (standing_on l run.events)) (length (learned_after l terms (standing_on l run.events)))

  -- of its run, what was found is true
  run_answered : (run : Ran) (end : Ending) → QuietEnd l run end → HasFound l terms (standing_on l run.events) run.closing → IsTrue (agrees l target (standing_on l run.events)) → IsAnsweredBy target l terms (standing_on l run.events) (okay end)
  run_answered run end ends found agreeing =
      let t = standing_on l run.events in
      let At : Ending → Type 0 = λ x. IsAnsweredBy target l terms t (okay x) in
      ⊎_elim
      (λ converged. subst At (sym converged.1) (record {
        agreeing = agreeing;
        no_collapse = λ m is. cc;
        unstopped = (λ m is. cc, λ is. cc, λ is. cc, λ is. cc);
        same = λ m is. has_same l terms t target network agreeing (subst (HasFound l terms t) converged.0 found);
      }))
      (λ undecided. subst At (sym undecided.1) (record { agreeing = agreeing; no_collapse = λ m is. cc; unstopped = (λ m is. cc, λ is. cc, λ is. cc, λ is. cc); same = λ m is. absurd (let no : ⊥ = cc in no) })) ends

  part_of : (written' : Option (List ℕ)) (e : Put) (run : Ran) → Runs (net_turn target true) l terms [] [] run → AddsFront written written' (whole run) → Demos number budget written written' (failed e)
  part_of written' e run runs front = inr (record { lang = l; generated = generated; run = run; runs = runs; ends = tt; found = tt; writes = front; answered = tt })

  -- it broke off before its run was told: there is a run, of whose text a front of the first line is one
  pub demo_stopped : (written' : Option (List ℕ)) (e : Put) → AddsFront written written' (demo_text number l) → Demos number budget written written' (failed e)
  demo_stopped written' e adds =
      let has = run_exists run_laws (net_turn target true) l terms lawful [] [] (begun l terms.plan) in
      let t = standing_on l has.run.events in
      part_of written' e has.run has.runs (front_longer written written' (demo_text number l) (summary_text has.run.closing (length t) (length (learned_after l terms t))) adds)

  module _ (events : List Event) (middle written' : Option (List ℕ)) (learned : ℕ) (first : Adds written middle (demo_text number l)) (learned_is : learned ≡ length (learned_after l terms (standing_on l events))) (agreeing : IsTrue (agrees l target (standing_on l events))) where
    module _ (closing : Closing) (m : ℕ) (end : Ending) (ran : ClosesQuietly target l terms events closing m) (quiet : m ≡ length (standing_on l ran.run.events) → QuietEnd l ran.run end) where
      abbrev run : Ran
      run = ran.run

      -- what is known of the events at the end and of the closing
      abbrev Known : List Event → Closing → Type 0
      Known es c = (m ≡ length (standing_on l es)) × HasFound l terms (standing_on l es) c × (learned ≡ length (learned_after l terms (standing_on l es))) × IsTrue (agrees l target (standing_on l es))

      known : Known run.events run.closing
      known = transport (λ i. Known (sym ran.events i) (sym ran.closing i)) (ran.count, ran.found, learned_is, agreeing)

      same : demo_text number l ++ summary_text closing m learned ≡ whole run
      same = λ i. demo_text number l ++ summary_text (sym ran.closing i) (known.0 i) (known.2 i)

      broke : (e : Put) → AddsFront middle written' (summary_text closing m learned) → Demos number budget written written' (failed e)
      broke e adds =
          part_of written' e run ran.runs (subst (AddsFront written written') same (front_then written middle written' (demo_text number l) (summary_text closing m learned) first adds))

      demo_ends : (got : Result Ending Put) → EndsWith end (summary_text closing m learned) middle written' got → Demos number budget written written' got
      demo_ends (Err put.Failed) adds = broke put.Failed adds
      demo_ends (Err put.Memory) still = broke put.Memory (front_none middle written' (summary_text closing m learned) still)
      demo_ends (Ok x) (is, adds) =
          let so = subst (QuietEnd l run) (sym is) (quiet known.0) in
          inr (record {
            lang = l;
            generated = generated;
            run = run;
            runs = ran.runs;
            ends = so;
            found = known.1;
            writes = subst (Adds written written') same (adds_then written middle written' (demo_text number l) (summary_text closing m learned) first adds);
            answered = run_answered run x so known.1 known.3;
          })

    -- by how the loop ended, and what was said of it
    pub demo_done : (how : Drove) (said : Result Saying Unsaid) (got : Result Ending Put) → HasDriven target l terms events how → SaysSum learned how said → HasWritten said middle written' got → Demos number budget written written' got
    demo_done (drove.Converged m) said got ran says has =
        demo_ends Converged m (ending.Converged m) ran (λ count. inl (ran.closing, ap (λ (k : ℕ). ending.Converged k) count)) got (ends_as (saying (summary_text Converged m learned) (ending.Converged m)) said middle written' got says has)
    demo_done (drove.Undecided m) said got ran says has =
        demo_ends Undecided m (ending.Undecided m) ran (λ count. inr (ran.closing, ap (λ (k : ℕ). ending.Undecided k) count)) got (ends_as (saying (summary_text Undecided m learned) (ending.Undecided m)) said middle written' got says has)
    demo_done drove.Memory said got ran says has =
        let still = transport (λ i. HasWritten (says i) middle written' got) has in
        subst (Demos number budget written written') (sym still.0) (demo_stopped written' put.Memory (front_whole written written' (demo_text number l) (transport (λ i. Adds written (sym still.1 i) (demo_text number l)) first)))
    demo_done how said got ran says has = absurd ran
