-- What `converged`, `collapsed` and `undecided` say, of what was done.
use Rattle.acq_cli.proofs.Prelude.{Acquires, Adds, AddsLast, Answer, Assignment, Candidate, Closing, Collapsed, Command, Converged, DiskOf, Does, Drove, Ending, Err, Event, FindsNetwork, FindsNone, ForSome, IfSome, IsCovered, IsOfNumber, LeavesOpen, Opened, RanTo, RunGoesOn, HasEnded, HasFound, IsConverged, IsDemo, IsDone, IsOfJournal, IsSessionOf, Language, List, None, Ok, Option, Plan, Quacq, ReadsVocabulary, Result, Some, Terms, Tries, Turns, Undecided, UsageFault, [], any_answer, ap, bound, closing_of, closing_text, ending_line, err_ok, false, inl, inr, is_own, learned_after, learned_in, length, line_turn, loop_end, loops_by, net_may_say, net_turn, not_loops, not_own, okay, point_of, refl, refuses_own, standing_on, subst, sym, terms_with, true, ℕ, ⊎_elim, ◌++◌, ◌∙◌, ◌≡◌, ◌≢◌, ◌≤◌}
use Rattle.acq_io.specs.declared.streams.Put.TheVariants as put
use Rattle.acq_words.specs.declared.request.Command.TheVariants as command
use Rattle.target_oracle.specs.declared.teacher.Told.{Told}
use Rattle.network.specs.Texts.{network_text}
use Rattle.acq_loop.specs.declared.driving.Drove.TheVariants as drove
use Rattle.acq_loop.specs.declared.ending.Ending.TheVariants as ending
use Rattle.acq_cli.specs.Closed.{ClosesWith}
use Rattle.acq_cli.proofs.Closed.{closes_with}
use Rattle.acq_cli.proofs.Speaking.{speaks_own, unplayed_own}

-- ---- what a run has found

-- a text ends with what was added last
printed_last : (middle written' : Option (List ℕ)) (piece : List ℕ) → Adds middle written' piece → ForSome written' (λ text. (before : List ℕ) × (text ≡ before ++ piece))
printed_last None written' piece adds = λ text told. absurd (let no : ⊥ = cc in no)
printed_last (Some before) written' piece adds = λ text told. (before, let same : text ≡ before ++ piece = cc in same)

learned_converges : (l : Language) (terms : Terms) (t : List Answer) → IsDone l terms t → IsConverged l (learned_after l terms t) t
learned_converges l terms t done = subst (λ (n : List Candidate). IsConverged l n t) (sym (ap learned_in done.idle)) done.converged

learned_covers : (l : Language) (terms : Terms) (t : List Answer) → IsDone l terms t → IsCovered l (learned_after l terms t) t
learned_covers l terms t done = subst (λ (n : List Candidate). IsCovered l n t) (sym (ap learned_in done.idle)) done.covered

few_learned : (l : Language) (terms : Terms) (t : List Answer) (m : ℕ) → m ≡ length t → IsDone l terms t → m ≤ bound l (length (learned_after l terms t))
few_learned l terms t m count done =
    subst (λ (k : ℕ). k ≤ bound l (length (learned_after l terms t))) (sym count) (subst (λ (n : List Candidate). length t ≤ bound l (length n)) (sym (ap learned_in done.idle)) done.bounded)

-- what a command that ended so has found
pub record Finds (asked : Result Command UsageFault) (left content written' : Option (List ℕ)) (end : Ending) : Type 0 where
  pub network : (m : ℕ) → end ≡ ending.Converged m → FindsNetwork asked left content written' m
  pub none : (m : ℕ) → end ≡ ending.Collapsed m → FindsNone asked left content m
  pub some_open : (m : ℕ) → end ≡ ending.Undecided m → LeavesOpen asked left content written' m
  pub usage : (fault : UsageFault) → end ≡ ending.Usage fault → asked ≡ Err fault

module _ (asked : Result Command UsageFault) (left content written' : Option (List ℕ)) (end : Ending) where
  -- nothing, with any other ending
  finds_nothing : ((m : ℕ) → end ≢ ending.Converged m) → ((m : ℕ) → end ≢ ending.Collapsed m) → ((m : ℕ) → end ≢ ending.Undecided m) → ((fault : UsageFault) → end ≢ ending.Usage fault) → Finds asked left content written' end
  finds_nothing converged collapsed undecided usage =
      record { network = λ m is. absurd (converged m is); none = λ m is. absurd (collapsed m is); some_open = λ m is. absurd (undecided m is); usage = λ fault is. absurd (usage fault is) }

  pub own_finds : is_own end ≡ true → Finds asked left content written' end
  own_finds own =
      finds_nothing (λ m. not_own end (ending.Converged m) refl own) (λ m. not_own end (ending.Collapsed m) refl own) (λ m. not_own end (ending.Undecided m) refl own) (λ fault. not_own end (ending.Usage fault) refl own)

  module _ (turns : Turns) (l : Language) (terms : Terms) (start events : List Event) (rest written left' : Option (List ℕ)) (session : (closing : Closing) → ClosesWith turns l terms start events rest closing → IsSessionOf asked left content l terms events closing) (tries : Tries turns l terms start events rest written left' written' end) where
    abbrev t : List Answer
    t = standing_on l events

    -- how its loop ended
    loop_was : (was : Drove) → loop_end end ≡ Some was → tries.how ≡ was
    loop_was was so = loops_by tries.how was end tries.is so

    abbrev Closed : Option Closing → Type 0
    Closed o = IfSome o (λ closing. ClosesWith turns l terms start events rest closing)

    closed_so : (o : Option Closing) → IfSome o (λ closing. RanTo turns l terms closing (point_of start rest written) (point_of events left' tries.middle)) → Closed o
    closed_so None ran = tt
    closed_so (Some closing) ran = closes_with turns l terms start events rest written left' tries.middle closing ran

    -- of whichever session, with the run that has closed so
    session_as : (was : Drove) (closing : Closing) → loop_end end ≡ Some was → closing_of was ≡ Some closing → IsSessionOf asked left content l terms events closing
    session_as was closing so is = session closing (subst Closed (ap closing_of (loop_was was so) ∙ is) (closed_so (closing_of tries.how) tries.ended.closed))

    -- the text ends with what is said last
    printed_so : (was : Drove) (closing : Closing) → loop_end end ≡ Some was → closing_of was ≡ Some closing → ForSome written' (λ text. (before : List ℕ) × (text ≡ before ++ closing_text l terms t closing))
    printed_so was closing so is = printed_last tries.middle written' (closing_text l terms t closing) (subst (AddsLast l terms t tries.middle written') (ap closing_of (loop_was was so) ∙ is) tries.adds)

    run_finds : Finds asked left content written' end
    run_finds = record {
      network = λ m is.
          let so = ap loop_end is in
          let ended = subst (HasEnded l terms t) (loop_was (drove.Converged m) so) tries.ended.says in
          let network = learned_after l terms t in
          let Printed : ℕ → Type 0 = λ k. ForSome written' (λ text. (before : List ℕ) × (text ≡ before ++ (ending_line Converged k ++ network_text l network))) in
          record {
            lang = l;
            terms = terms;
            events = events;
            session = session_as (drove.Converged m) Converged so refl;
            number = ended.number;
            network = network;
            learned = refl;
            converged = learned_converges l terms t ended.found;
            covered = learned_covers l terms t ended.found;
            few = few_learned l terms t m ended.number ended.found;
            prints = λ shown. subst Printed (sym ended.number) (printed_so (drove.Converged m) Converged so refl);
          };
      none = λ m is.
          let so = ap loop_end is in
          let ended = subst (HasEnded l terms t) (loop_was (drove.Collapsed m) so) tries.ended.says in
          record { lang = l; terms = terms; events = events; session = session_as (drove.Collapsed m) Collapsed so refl; number = ended.number; none = ended.found.none };
      some_open = λ m is.
          let so = ap loop_end is in
          let ended = subst (HasEnded l terms t) (loop_was (drove.Undecided m) so) tries.ended.says in
          record {
            lang = l;
            terms = terms;
            events = events;
            session = session_as (drove.Undecided m) Undecided so refl;
            number = ended.number;
            found = ended.found;
            prints = λ shown. printed_so (drove.Undecided m) Undecided so refl;
          };
      usage = λ fault is. absurd (not_loops tries.how (ending.Usage fault) (tries.is ∙ ap okay is) refl);
    }

-- ---- of which session

module _ {D : Type 0} (disk : DiskOf D) (left written left' written' : Option (List ℕ)) (old new : D) where
  abbrev Found : Result Command UsageFault → Ending → Type 0
  Found asked = Finds asked left (disk.content old) written'

  reads_find : (plan : Plan) (budget : ℕ) (end : Ending) → ReadsVocabulary left (λ lang events rest. Tries line_turn lang (terms_with plan budget) [] events rest written left' written' end) → Found (Ok (command.Try plan budget)) end
  reads_find plan budget end does =
      run_finds (Ok (command.Try plan budget)) left (disk.content old) written' end line_turn does.lang (terms_with plan budget) [] does.events does.rest written left'
      (λ closing closes. record { line = does.line; rest = does.rest; gives = does.gives; vocabulary = does.vocabulary; terms_are = refl; closes = closes }) does.did

  try_finds : (plan : Plan) (budget : ℕ) (end : Ending) → Acquires (terms_with plan budget) left written left' written' end → Found (Ok (command.Try plan budget)) end
  try_finds plan budget (ending.Converged m) does = reads_find plan budget (ending.Converged m) does
  try_finds plan budget (ending.Collapsed m) does = reads_find plan budget (ending.Collapsed m) does
  try_finds plan budget (ending.Undecided m) does = reads_find plan budget (ending.Undecided m) does
  try_finds plan budget (ending.Usage fault) does = absurd (not_loops does.did.how (ending.Usage fault) does.did.is refl)
  try_finds plan budget end does = finds_nothing (Ok (command.Try plan budget)) left (disk.content old) written' end (λ m is. cc) (λ m is. cc) (λ m is. cc) (λ fault is. cc)

  demo_finds : (number budget : ℕ) (end : Ending) → IsDemo number budget written written' (okay end) → Found (Ok (command.Demo number budget)) end
  demo_finds number budget end demo =
      let asked : Result Command UsageFault = Ok (command.Demo number budget) in
      let l = demo.lang in
      let terms = terms_with Quacq budget in
      let events = demo.run.events in
      let t = standing_on l events in
      let session : (closing : Closing) → demo.run.closing ≡ closing → IsOfNumber number budget l terms events closing =
      (λ closing is. record { generated = demo.generated; terms_are = refl; closes = record { run = demo.run; runs = demo.runs; closes = is; has = refl } }) in
      ⊎_elim
      (λ converged.
      let done = subst (HasFound l terms t) converged.0 demo.found in
      subst (Found asked) (sym converged.1) (record {
        network = λ m is.
            let same : m ≡ length t = cc in
            record {
              lang = l;
              terms = terms;
              events = events;
              session = session Converged converged.0;
              number = same;
              network = learned_after l terms t;
              learned = refl;
              converged = learned_converges l terms t done;
              covered = learned_covers l terms t done;
              few = few_learned l terms t m same done;
              prints = λ shown. absurd (shown number budget refl);
            };
        none = λ m is. absurd (let no : ⊥ = cc in no);
        some_open = λ m is. absurd (let no : ⊥ = cc in no);
        usage = λ fault is. absurd (let no : ⊥ = cc in no);
      }))
      (λ undecided.
      subst (Found asked) (sym undecided.1) (record {
        network = λ m is. absurd (let no : ⊥ = cc in no);
        none = λ m is. absurd (let no : ⊥ = cc in no);
        some_open = λ m is. record {
          lang = l;
          terms = terms;
          events = events;
          session = session Undecided undecided.0;
          number = let same : m ≡ length t = cc in same;
          found = subst (HasFound l terms t) undecided.0 demo.found;
          prints = λ shown. absurd (shown number budget refl);
        };
        usage = λ fault is. absurd (let no : ⊥ = cc in no);
      }))
      demo.ends

  -- over a journal
  abbrev GoesOn : Turns → (Language → Assignment → Told → Type 0) → ℕ → Option (List ℕ) → Ending → Type 0
  GoesOn turns may budget rest end = RunGoesOn disk turns may budget rest written left' written' old new (okay end)

  abbrev OfJournal : Turns → (Language → Assignment → Told → Type 0) → ℕ → Option (List ℕ) → Opened → List Event → Closing → Type 0
  OfJournal turns may budget rest o later closing = IsOfJournal turns may budget rest (disk.content old) o.lang (terms_with o.plan budget) later closing

  journal_finds : (asked : Result Command UsageFault) (turns : Turns) (may : Language → Assignment → Told → Type 0) (budget : ℕ) (rest : Option (List ℕ)) (end : Ending) → (on : GoesOn turns may budget rest end) →
      ((closing : Closing) → OfJournal turns may budget rest on.of on.later closing → IsSessionOf asked left (disk.content old) on.of.lang (terms_with on.of.plan budget) on.later closing) → Found asked end
  journal_finds asked turns may budget rest end on of =
      run_finds asked left (disk.content old) written' end turns on.of.lang (terms_with on.of.plan budget) on.of.events on.later rest written left'
      (λ closing closes. of closing (record { session = on.of; holds = on.opens; some = on.some; lang = refl; terms_are = refl; added = on.added; closes = closes })) on.tries

  pub finds : (asked : Result Command UsageFault) (end : Ending) → Does disk asked left written left' written' old new (okay end) → Found asked end
  finds (Ok (command.Run budget)) end (inl (said, over, has)) = own_finds (Ok (command.Run budget)) left (disk.content old) written' end (refuses_own written written' end over.says.0 (said, over.says.2, has))
  finds (Ok (command.Run budget)) end (inr on) = journal_finds (Ok (command.Run budget)) line_turn any_answer budget left end on (λ closing of. of)
  finds (Ok (command.Try plan budget)) end does = try_finds plan budget end does
  finds (Ok (command.Play budget)) end (inl (said, over, has)) = own_finds (Ok (command.Play budget)) left (disk.content old) written' end (unplayed_own left written left' written' end said has over.opening over.says)
  finds (Ok (command.Play budget)) end (inr played) =
      journal_finds (Ok (command.Play budget)) (net_turn played.target false) (net_may_say played.target) budget left' end played.on
      (λ closing of. record { target = played.target; rest = left'; reads = played.reads; on = of; agreeing = played.answered.agreeing })
  finds (Ok (command.Demo number budget)) end (inl none) = absurd (err_ok put.Memory end (sym none.0))
  finds (Ok (command.Demo number budget)) end (inr demo) = demo_finds number budget end demo
  finds (Err fault) end does =
      let is : end ≡ ending.Usage fault = does.0 in
      subst (Found (Err fault)) (sym is) (record {
        network = λ m is. absurd (let no : ⊥ = cc in no);
        none = λ m is. absurd (let no : ⊥ = cc in no);
        some_open = λ m is. absurd (let no : ⊥ = cc in no);
        usage = λ other is. (let same : fault ≡ other = cc in ap (λ (f : UsageFault). let r : Result Command UsageFault = Err f in r) same);
      })
  finds (Ok c) end does = own_finds (Ok c) left (disk.content old) written' end (speaks_own disk left written left' written' old new end c does)
