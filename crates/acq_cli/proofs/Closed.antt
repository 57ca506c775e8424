-- The run as which a command ends, of what was done.
use Rattle.acq_cli.proofs.Prelude.{Acquires, AllFault, Bool, Candidate, Closing, Collapsed, Converged, Demos, Drove, Ending, Err, Event, ForSome, Gathered, Gives, HasWritten, IfSome, IsBrokenOff, IsRefusal, Language, List, None, Ok, Opened, Option, Quacq, RanTo, ReadOnce, ReadsTarget, ReadsVocabulary, Result, SFault, Saying, SaysOpened, SaysRefusal, Some, Terms, Tries, Turns, Undecided, Unsaid, [], all_of, ap, closing_of, cond, drop, ending_of, err_ok, false, fine, fine_long, first_line_of, gathered, gives_got, holds_none, inl, inr, length, line_turn, long_one, nat_le, net_turn, okay, option_map, point_of, refl, refuses_end, same_ok, standing_on, subst, sym, target_of, terms_with, true, ℕ, ⊎_elim, ◌+◌, ◌∙◌, ◌≡◌}
use Rattle.acq_io.specs.declared.streams.Put.TheVariants as put
use Rattle.acq_loop.specs.Closings.{told_number}
use Rattle.acq_loop.specs.Run.{JournalFull, LineTooLong, Suspended, Unreadable}
use Rattle.acq_loop.specs.declared.driving.Drove.TheVariants as drove
use Rattle.acq_loop.specs.declared.ending.Ending.TheVariants as ending
use Rattle.acq_said.specs.Over.{EndsAsSaid}
use Rattle.session_store.specs.Opening.{NotOpened}
use Rattle.acq_cli.specs.Closed.{ClosesWith, EndsAsRun, IsTrying, Tried, closed_as, tried_said}
use Rattle.acq_cli.specs.Commands.{DemosExactly}
use Rattle.acq_cli.proofs.OneRun.{one_trying, run_once}

-- ---- what is left of the input

-- what is left after a reading
pub gives_rest : (f : List ℕ → Gathered) (left now : Option (List ℕ)) (got : Result (List ℕ) AllFault) (bytes : List ℕ) → Gives f left now got → left ≡ Some bytes → now ≡ Some (f bytes).rest
gives_rest f left now got bytes gives told = go now (sym (ap (option_map f) told) ∙ gives)
  where
    go : (o : Option (List ℕ)) → Some (f bytes) ≡ option_map (gathered got) o → o ≡ Some (f bytes).rest
    go None e = absurd (let no : ⊥ = cc in no)
    go (Some rest) e = let same : f bytes ≡ gathered got rest = cc in ap (λ (x : Gathered). let o : Option (List ℕ) = Some x.rest in o) (sym same)

-- nothing is left of what was read to the end
none_left : (bytes got : List ℕ) → (all_of 4194304 bytes).got ≡ fine got → (all_of 4194304 bytes).rest ≡ []
unfolding all_of
none_left bytes got is = go (nat_le (length bytes) 4194304) is
  where
    go : (b : Bool) → (cond b (gathered (fine bytes) []) (gathered long_one (drop (4194304 + 1) bytes))).got ≡ fine got → (cond b (gathered (fine bytes) []) (gathered long_one (drop (4194304 + 1) bytes))).rest ≡ []
    go true e = refl
    go false e = absurd (fine_long got (sym e))

-- nor behind a target
pub target_left : (l : Language) (left rest : Option (List ℕ)) (target : List Candidate) (bytes : List ℕ) → ReadsTarget l left rest target → left ≡ Some bytes → rest ≡ Some []
target_left l left rest target bytes reads from =
    gives_rest (all_of 4194304) left rest (fine reads.bytes) bytes reads.gives from
    ∙ ap (λ (x : List ℕ). let o : Option (List ℕ) = Some x in o) (none_left bytes reads.bytes (gives_got (all_of 4194304) left rest (fine reads.bytes) bytes reads.gives from))

-- ---- a run that has closed

-- the loop has closed, and the program ends so
record ClosedAs (how : Drove) (end : Ending) (n : ℕ) : Type 0 where
  closing : Closing
  of : closing_of how ≡ Some closing
  is : end ≡ closed_as closing n

-- with the answers that stand
closed_by : (how : Drove) (end : Ending) (n : ℕ) → (IsBrokenOff end → ⊥) → ending_of how ≡ okay end → IfSome (told_number how) (λ m. m ≡ n) → ClosedAs how end n
closed_by (drove.Converged m) end n calm is number = record { closing = Converged; of = refl; is = sym (same_ok (ending.Converged m) end is) ∙ ap (λ (k : ℕ). ending.Converged k) number }
closed_by (drove.Collapsed m) end n calm is number = record { closing = Collapsed; of = refl; is = sym (same_ok (ending.Collapsed m) end is) ∙ ap (λ (k : ℕ). ending.Collapsed k) number }
closed_by (drove.Undecided m) end n calm is number = record { closing = Undecided; of = refl; is = sym (same_ok (ending.Undecided m) end is) ∙ ap (λ (k : ℕ). ending.Undecided k) number }
closed_by (drove.Suspended m) end n calm is number = record { closing = Suspended; of = refl; is = sym (same_ok (ending.Suspended m) end is) ∙ ap (λ (k : ℕ). ending.Suspended k) number }
closed_by drove.LineTooLong end n calm is number = record { closing = LineTooLong; of = refl; is = sym (same_ok ending.LineTooLong end is) }
closed_by drove.Unreadable end n calm is number = record { closing = Unreadable; of = refl; is = sym (same_ok ending.Unreadable end is) }
closed_by drove.JournalFull end n calm is number = record { closing = JournalFull; of = refl; is = sym (same_ok ending.JournalFull end is) }
closed_by drove.ReadFault end n calm is number = absurd (calm (inl (sym (same_ok ending.ReadFault end is))))
closed_by drove.DiskFault end n calm is number = absurd (calm (inr (inr (inl (sym (same_ok ending.DiskFault end is))))))
closed_by drove.WriteFault end n calm is number = absurd (err_ok put.Failed end is)
closed_by drove.Memory end n calm is number = absurd (err_ok put.Memory end is)

module _ (turns : Turns) (l : Language) (terms : Terms) (start later : List Event) (left written left' : Option (List ℕ)) where
  abbrev pub RanSo : Option (List ℕ) → Closing → Type 0
  RanSo middle closing = RanTo turns l terms closing (point_of start left written) (point_of later left' middle)

  -- its events are those of the run
  pub closes_with : (middle : Option (List ℕ)) (closing : Closing) → RanSo middle closing → ClosesWith turns l terms start later left closing
  closes_with middle closing ran = λ bytes from. let whole = ran bytes from in record { run = whole.run; runs = whole.runs; closes = whole.closing; has = whole.events }

  -- the program ends as that run does
  pub ends_as_run : (written' : Option (List ℕ)) (end : Ending) → (IsBrokenOff end → ⊥) → Tries turns l terms start later left written left' written' end → ForSome left (λ bytes. EndsAsRun turns l terms start bytes end)
  ends_as_run written' end calm tries = λ bytes from.
      let by = closed_by tries.how end (length (standing_on l later)) calm tries.is tries.ended.says.number in
      let ran : RanSo tries.middle by.closing = subst (λ (o : Option Closing). IfSome o (RanSo tries.middle)) by.of tries.ended.closed in
      let whole = ran bytes from in
      record {
        what = whole.run;
        there = whole.runs;
        only = λ other also. run_once turns l terms start bytes other whole.run also whole.runs;
        is = by.is ∙ (λ i. closed_as (sym whole.closing i) (length (standing_on l (sym whole.events i))));
      }

-- ---- `try`

module _ (terms : Terms) (left written left' written' : Option (List ℕ)) where
  abbrev TriesExactly : List ℕ → Ending → Type 0
  TriesExactly bytes end = EndsAsSaid (IsTrying terms (first_line_of 4194304 bytes)) (tried_said terms) end

  run_exactly : (end : Ending) → (IsBrokenOff end → ⊥) → ReadsVocabulary left (λ lang events rest. Tries line_turn lang terms [] events rest written left' written' end) → ForSome left (λ bytes. TriesExactly bytes end)
  run_exactly end calm reads = λ bytes from.
      let first = first_line_of 4194304 bytes in
      let got : first.got ≡ fine reads.line = gives_got (first_line_of 4194304) left reads.rest (fine reads.line) bytes reads.gives from in
      let rest : reads.rest ≡ Some first.rest = gives_rest (first_line_of 4194304) left reads.rest (fine reads.line) bytes reads.gives from in
      let ran = ends_as_run line_turn reads.lang terms [] reads.events reads.rest written left' written' end calm reads.did first.rest rest in
      let tried : Tried = record { lang = reads.lang; run = ran.what } in
      let there : IsTrying terms first (Ok tried) = (reads.line, got, reads.vocabulary, ran.there) in
      record { what = Ok tried; there = there; only = λ other also. one_trying terms first other (Ok tried) also there; is = ran.is }

  pub tries_exactly : (end : Ending) → (IsBrokenOff end → ⊥) → Acquires terms left written left' written' end → ForSome left (λ bytes. TriesExactly bytes end)
  tries_exactly (ending.VocRefused fault) calm ((got, gives, refused), adds) = λ bytes from.
      let first = first_line_of 4194304 bytes in
      let there : IsTrying terms first (Err fault) = subst (IsRefusal fault) (sym (gives_got (first_line_of 4194304) left left' got bytes gives from)) refused in
      record { what = Err fault; there = there; only = λ other also. one_trying terms first other (Err fault) also there; is = refl }
  tries_exactly ending.ReadFault calm done = absurd (calm (inl refl))
  tries_exactly ending.WriteFault calm done = absurd (calm (inr (inl refl)))
  tries_exactly ending.Memory calm done = absurd (calm (inr (inr (inr refl))))
  tries_exactly ending.DiskFault calm done = absurd done
  tries_exactly end calm done = run_exactly end calm done

-- ---- `demo`

pub demos_exactly : (number budget : ℕ) (written written' : Option (List ℕ)) (end : Ending) → Demos number budget written written' (okay end) → DemosExactly number budget end
demos_exactly number budget written written' end (inl none) = absurd (err_ok put.Memory end (sym none.0))
demos_exactly number budget written written' end (inr demo) =
    let turns : Turns = net_turn (target_of number demo.lang) true in
    let n : ℕ = length (standing_on demo.lang demo.run.events) in
    let closes : end ≡ closed_as demo.run.closing n =
    ⊎_elim (λ converged. converged.1 ∙ ap (λ (c : Closing). closed_as c n) (sym converged.0)) (λ undecided. undecided.1 ∙ ap (λ (c : Closing). closed_as c n) (sym undecided.0)) demo.ends in
    record {
      lang = demo.lang;
      generated = demo.generated;
      goes_on = record { what = demo.run; there = demo.runs; only = λ other also. run_once turns demo.lang (terms_with Quacq budget) [] [] other demo.run also demo.runs; is = closes };
    }

-- ---- a journal that isn't opened

-- holds no session
pub closed_none : ReadOnce → (written written' : Option (List ℕ)) (end : Ending) → (IsBrokenOff end → ⊥) → (file : List ℕ) (o : Opened) (fault : SFault) (said : Result Saying Unsaid) →
    NotOpened file fault → SaysOpened file o → SaysRefusal fault said → HasWritten said written written' (okay end) → ⊥
closed_none once written written' end calm file o fault said why held refuses has = ⊎_elim calm (λ is. holds_none once file fault o (is.0, why) held) (refuses_end fault said written written' end refuses has)
