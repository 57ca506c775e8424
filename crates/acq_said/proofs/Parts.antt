-- What was written where it could not be written whole.
use Rattle.acq_said.proofs.Prelude.{◌≡◌, ◌⊎◌, ℕ, List, [], ap, sym, subst, refl, Option, Some, None, Result, Ok, Err, inl, inr, arith, IfOk, OnErr, Gathered, Gives, TakesOfLine, first_line_of, Put, Failed, Memory, AllFault, Event, Plan, Language, IsLanguage, standing_on, Idle, read_on, line_turn, Turns, IsVocabulary, Ran, Runs, next_on, ended_as, BreaksRun, next_lines, Tries, closing_text, refusal_text, Terms, IsWithin, run_exists, run_laws, closing_of, Ending}
use Rattle.acq_said.proofs.Spoken.{EndsWith, given_of}
use Rattle.acq_io.specs.Streams.{Adds, AddsFront, TakesSome}
use Rattle.acq_io.proofs.TakenLemmas.{adds_none}
use Rattle.target_oracle.proofs.Fronts.{front_longer, front_none, front_then}
use Rattle.voc_read.specs.declared.fault.VocFault.{VocFault}
use Rattle.acq_said.specs.Trying.{Breaks, HasBrokenOff, IsRefusal, IsTextOfRun, Acquires, ReadsVocabulary}
use Rattle.acq_loop.proofs.Short.{whole_text}
use Rattle.acq_loop.proofs.Stretches.{stretch_none}
use Rattle.acq_said.proofs.Closings.{loops_by, not_loops}
use Rattle.acq_loop.proofs.Taking.{takes_same}
use Rattle.acq_said.proofs.Tries.{cut_off}
use Rattle.acq_loop.specs.declared.driving.Drove.TheVariants as drove
use Rattle.acq_loop.specs.declared.ending.Ending.TheVariants as ending

-- ---- one text

-- what was said whole, and what was written where it wasn't
pub ends_ok : (end : Ending) (text : List ℕ) (old new : Option (List ℕ)) (got : Result Ending Put) → EndsWith end text old new got → IfOk got (λ e. (e ≡ end) × Adds old new text)
ends_ok end text old new (Ok e) told = told
ends_ok end text old new (Err e) told = tt

pub ends_part : (end : Ending) (text : List ℕ) (old new : Option (List ℕ)) (got : Result Ending Put) → EndsWith end text old new got → OnErr got (AddsFront old new text)
ends_part end text old new (Ok e) told = tt
ends_part end text old new (Err Failed) told = told
ends_part end text old new (Err Memory) told = front_none old new text told

-- ---- the text of a run

-- events begin where nothing is open
pub begun : (l : Language) (plan : Plan) → IsWithin l plan []
unfolding read_on
begun l plan = record { reached = (Idle [] None, refl); few = omega arith }

-- nothing of it was written
pub begun_part : (turns : Turns) (l : Language) (terms : Terms) (start : List Event) (left written : Option (List ℕ)) → IsLanguage l → IsWithin l terms.plan start → BreaksRun turns l terms start start left written left written
begun_part turns l terms start left written lawful within = inl (λ bytes from.
    let has = run_exists run_laws turns l terms lawful start bytes within in
    record {
      run = has.run;
      runs = has.runs;
      text = front_none written written has.run.text refl;
      later = has.later;
      events = has.extends;
      rest = bytes;
      done = [];
      middle = written;
      before = adds_none written;
      so_far = stretch_none turns l terms start bytes;
      lines = front_none written written (next_lines turns l start bytes (next_on l terms start)) refl;
      asked = record { takes = (let Left : Option (List ℕ) → Type 0 = λ o. TakesSome o left in subst Left from (takes_same left)); first = inl from };
    })

-- a front of the whole text of a run of these bytes
record IsPartOfRun (turns : Turns) (l : Language) (terms : Terms) (start : List Event) (bytes : List ℕ) (written written' : Option (List ℕ)) : Type 0 where
  pub run : Ran
  pub runs : Runs turns l terms start bytes run
  pub text : AddsFront written written' (whole_text l terms run)

module _ (turns : Turns) (l : Language) (terms : Terms) (start events : List Event) (left written left' written' : Option (List ℕ)) where
  part_of_run : BreaksRun turns l terms start events left written left' written' → (bytes : List ℕ) → left ≡ Some bytes → IsPartOfRun turns l terms start bytes written written'
  -- not all the lines of its turns
  part_of_run (inl cut) bytes from =
      let run = cut bytes from in
      record { run = run.run; runs = run.runs; text = front_longer written written' run.run.text (closing_text l terms (standing_on l run.run.events) run.run.closing) run.text }
  -- these, and a front of the last ones
  part_of_run (inr (closing, middle, ran, adds)) bytes from =
      let run = ran bytes from in
      let last : List ℕ = closing_text l terms (standing_on l run.run.events) run.run.closing in
      let same : last ≡ closing_text l terms (standing_on l events) closing = (λ i. closing_text l terms (standing_on l (run.events i)) (run.closing i)) in
      record { run = run.run; runs = run.runs; text = front_then written middle written' run.run.text last run.written (subst (AddsFront middle written') (sym same) adds) }

-- ---- the text of the program

-- this is given of the first line
module _ (terms : Terms) (left rest written written' : Option (List ℕ)) (got : Result (List ℕ) AllFault) (gives : Gives (first_line_of 4194304) left rest got) where
  pub breaks_refusal : (fault : VocFault) → IsRefusal fault got → AddsFront written written' (refusal_text fault) → Breaks terms left written written'
  breaks_refusal fault refused adds bytes from =
      let given = given_of (first_line_of 4194304) left rest got bytes gives from in
      let Q : Gathered → Type 0 = λ first. IsRefusal fault first.got in
      let is : Q (first_line_of 4194304 bytes) = subst Q (sym given.gives) refused in
      inr (refusal_text fault, inl (fault, is, refl), adds)

  pub breaks_run : (line : List ℕ) (lang : Language) (events : List Event) (left' : Option (List ℕ)) → got ≡ Ok line → IsVocabulary line lang → BreaksRun line_turn lang terms [] events rest written left' written' → Breaks terms left written written'
  breaks_run line lang events left' is vocabulary broken bytes from =
      let given = given_of (first_line_of 4194304) left rest got bytes gives from in
      let part = part_of_run line_turn lang terms [] events rest written left' written' broken given.rest given.left in
      let whole : List ℕ = whole_text lang terms part.run in
      let Q : Gathered → Type 0 = λ first. IsTextOfRun terms first whole in
      let run : Q (first_line_of 4194304 bytes) =
      subst Q (sym given.gives) (record { line = line; got = is; lang = lang; vocabulary = vocabulary; run = part.run; runs = part.runs; is = refl }) in
      inr (whole, inr run, part.text)

-- what was done about a vocabulary is what the program has done
pub acquires_in : (terms : Terms) (left rest written left' written' : Option (List ℕ)) (line : List ℕ) (lang : Language) (got : Result Ending Put) →
    Gives (first_line_of 4194304) left rest (Ok line) → IsVocabulary line lang → IfOk got (λ (e : Ending). e ≡ ending.DiskFault → ⊥) →
    IfOk got (λ (e : Ending). (events : List Event) × Tries line_turn lang terms [] events rest written left' written' e) → IfOk got (Acquires terms left written left' written')
acquires_in terms left rest written left' written' line lang (Err e) gives vocabulary never tries = tt
acquires_in terms left rest written left' written' line lang (Ok end) gives vocabulary never (events, tries) = go end never tries
  where
    reads : (e : Ending) → Tries line_turn lang terms [] events rest written left' written' e → ReadsVocabulary left (λ l es over. Tries line_turn l terms [] es over written left' written' e)
    reads e tried = record { line = line; rest = rest; gives = gives; lang = lang; vocabulary = vocabulary; events = events; did = tried }

    go : (e : Ending) → (e ≡ ending.DiskFault → ⊥) → Tries line_turn lang terms [] events rest written left' written' e → Acquires terms left written left' written' e
    go ending.ReadFault never tried =
        let none : closing_of tried.how ≡ None = ap closing_of (loops_by tried.how drove.ReadFault ending.ReadFault tried.is refl) in
        (breaks_run terms left rest written written' (Ok line) gives line lang events left' refl vocabulary (inl (cut_off line_turn lang terms [] events rest written left' written' ending.ReadFault tried none)), inr (reads ending.ReadFault tried))
    go ending.DiskFault never tried = absurd (never refl)
    go (ending.VocRefused fault) never tried = absurd (not_loops tried.how (ending.VocRefused fault) tried.is refl)
    go ending.WriteFault never tried = absurd (not_loops tried.how ending.WriteFault tried.is refl)
    go ending.Memory never tried = absurd (not_loops tried.how ending.Memory tried.is refl)
    go e never tried = reads e tried

pub breaks_in : (terms : Terms) (left rest written left' written' : Option (List ℕ)) (line : List ℕ) (lang : Language) (got : Result Ending Put) →
    Gives (first_line_of 4194304) left rest (Ok line) → IsVocabulary line lang → OnErr got ((events : List Event) × BreaksRun line_turn lang terms [] events rest written left' written') → OnErr got (HasBrokenOff terms left written left' written')
breaks_in terms left rest written left' written' line lang (Ok end) gives vocabulary broken = tt
breaks_in terms left rest written left' written' line lang (Err e) gives vocabulary (events, broken) = record {
  text = breaks_run terms left rest written written' (Ok line) gives line lang events left' refl vocabulary broken;
  step = inr (inr (record { line = line; rest = rest; gives = gives; lang = lang; vocabulary = vocabulary; events = events; did = broken }));
}

pub breaks_refused : (terms : Terms) (left rest written written' : Option (List ℕ)) (first : Result (List ℕ) AllFault) (fault : VocFault) (got : Result Ending Put) →
    Gives (first_line_of 4194304) left rest first → IsRefusal fault first → OnErr got (AddsFront written written' (refusal_text fault)) → OnErr got (HasBrokenOff terms left written rest written')
breaks_refused terms left rest written written' first fault (Ok end) gives refused adds = tt
breaks_refused terms left rest written written' first fault (Err e) gives refused adds = record {
  text = breaks_refusal terms left rest written written' first gives fault refused adds;
  step = inr (inl (fault, first, gives, refused, adds));
}

-- nothing was written
pub unbegun : (terms : Terms) (left left' written : Option (List ℕ)) → TakesOfLine 4194304 left left' ⊎ ((got : Result (List ℕ) AllFault) × Gives (first_line_of 4194304) left left' got) → HasBrokenOff terms left written left' written
unbegun terms left left' written taken = record { text = λ bytes from. inl refl; step = inl (record { silent = refl; taken = taken }) }

pub unread : (terms : Terms) (left left' written : Option (List ℕ)) → TakesOfLine 4194304 left left' → Acquires terms left written left' written ending.ReadFault
unread terms left left' written taken = (λ bytes from. inl refl, inl (record { silent = refl; taken = inl taken }))

-- the ending of the program, by what was answered
pub acquires_as : (terms : Terms) (left written left' written' : Option (List ℕ)) (got : Result Ending Put) → IfOk got (Acquires terms left written left' written') → OnErr got (HasBrokenOff terms left written left' written') → Acquires terms left written left' written' (ended_as got)
acquires_as terms left written left' written' (Ok end) done broken = done
acquires_as terms left written left' written' (Err Failed) done broken = broken
acquires_as terms left written left' written' (Err Memory) done broken = broken
