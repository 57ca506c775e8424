-- What a command that has ended tells of the bytes of the input and of the file, exactly.
use Rattle.acq_cli.proofs.Prelude.{AllFault, Asks, AsksTruly, Candidate, Command, ConfirmsExactly, DiskOf, Does, Ending, EndsAsMade, EndsAsOpened, EndsExactly, EndsPlaying, Err, ForSome, HasWritten, IfOk, IsBrokenOff, IsCheck, IsJudged, IsMaking, IsReading, IsSaid, IsVocabulary, Language, List, MakesOf, NetFault, News, None, Ok, Opened, OpensAs, Option, Plan, PlaysExactly, PlaysOn, ReadOnce, Result, SFault, SaidSo, Saying, SaysNoNetwork, SaysOfInput, SaysOpened, SaysSo, SaysUnplayed, Some, Unsaid, UsageFault, [], all_of, ap, arith, asked_said, back_ends, checked_said, cond, ends_said, false, fine, get_or, gives_got, inl, input_end, inr, is_own, json_of, length, line_turn, long_one, made_said, net_turn, network_of, network_of_items, not_refused, ok_or, okay, one_language, only_long, opens_once, over_ends, read_own, refl, refuses_end, same_session, silently, solve_ends, stale_said, standing_on, subst, sym, take, target_refused, terms_with, too_many, transport, true, untold, whole_of, ℕ, ⊎_elim, ⊎_map, ◌∙◌, ◌≡◌, ◌⊎◌, MatchResult}
use Rattle.std.proofs.lemmas.Bool.{lt-ltb}
use Rattle.acq_io.specs.declared.whole.AllFault.TheVariants as long
use Rattle.acq_words.specs.declared.request.Command.TheVariants as command
use Rattle.answer_journal.specs.declared.fault.JFault.{JFault}
use Rattle.answer_journal.specs.declared.fault.JFault.TheVariants as journal
use Rattle.answer_journal.specs.Journal.{NotAJournal, HasNoSession, ReadsAs}
use Rattle.answer_journal.specs.Making.{CreateRefused}
use Rattle.cert_check.specs.Certificate.{Certificate}
use Rattle.cert_check.specs.declared.fault.CertFault.{CertFault}
use Rattle.cert_check.specs.declared.fault.CertFault.TheVariants as form
use Rattle.cert_check.proofs.OneText.{not_both, one_certificate, one_fault}
use Rattle.network.specs.Answers.{then_on}
use Rattle.network.specs.declared.fault.NetFault.TheVariants as net
use Rattle.session_store.specs.Opened.{Opens, is_of_bytes}
use Rattle.session_store.specs.Opening.{JournalNotMade, NotMade}
use Rattle.session_store.specs.declared.fault.SFault.TheVariants as store
use Rattle.voc_read.specs.declared.fault.VocFault.TheVariants as vocs
use Rattle.acq_loop.specs.declared.ending.Ending.TheVariants as ending
use Rattle.acq_said.proofs.Exactly.{RunsOn, run_ends}
use Rattle.acq_said.proofs.SaidOver.{broken_own}
use Rattle.acq_said.proofs.Spoken.{IsCheckOf, RefusesBy, told_of_bytes}
use Rattle.acq_said.specs.declared.ask.Ask.{Ask}
use Rattle.acq_said.specs.declared.ask.Ask.TheVariants as ask
use Rattle.acq_cli.specs.Closed.{EndsAsRun}
use Rattle.acq_cli.specs.Commands.{RunsExactly}
use Rattle.acq_cli.proofs.Closed.{closed_none, demos_exactly, ends_as_run, target_left, tries_exactly}

-- ---- `new`: there is one making

abbrev Making : Type 0
Making = Result Language SFault

there_none : (file : List ℕ) → HasNoSession file → CreateRefused file journal.SessionThere → ⊥
there_none file (inl short) there = let more = there.0 in omega arith
there_none file (inr shut) there = shut.closed (sym (ap (λ (l : List ℕ). get_or l 8 0) shut.is) ∙ there.2)

foreign_none : (file : List ℕ) → HasNoSession file → ReadsAs file NotAJournal → ⊥
foreign_none file (inl short) foreign = let more = foreign.0 in omega arith
foreign_none file (inr shut) foreign = foreign.1 (ap (λ (l : List ℕ). take 8 l) shut.is)

-- a journal that is made has no reason against it
made_none : (voc file : List ℕ) (l : Language) (f : SFault) → IsVocabulary voc l → HasNoSession file → is_of_bytes f ≡ true → NotMade voc file f → ⊥
made_none voc file l (store.Voc f) read free of why = let none = not_refused voc l read in cc
made_none voc file l (store.Journal journal.SessionThere) read free of why = there_none file free why.1
made_none voc file l (store.Journal journal.NotAJournal) read free of why = foreign_none file free why.1
made_none voc file l f read free of why = grind arith

one_way : (file : List ℕ) (f g : JFault) → is_of_bytes (store.Journal f) ≡ true → is_of_bytes (store.Journal g) ≡ true → JournalNotMade file f → JournalNotMade file g → f ≡ g
one_way file journal.SessionThere journal.SessionThere of og a b = refl
one_way file journal.NotAJournal journal.NotAJournal of og a b = refl
one_way file journal.SessionThere journal.NotAJournal of og a b = absurd (b.1 a.1)
one_way file journal.NotAJournal journal.SessionThere of og a b = absurd (a.1 b.1)
one_way file f g of og a b = absurd (let no : ⊥ = grind arith in no)

-- there is one reason
one_reason : (voc file : List ℕ) (f g : SFault) → is_of_bytes f ≡ true → is_of_bytes g ≡ true → NotMade voc file f → NotMade voc file g → f ≡ g
one_reason voc file (store.Voc f) (store.Voc g) of og x y = cc
one_reason voc file (store.Voc f) (store.Journal g) of og x y = let none = y.0 in cc
one_reason voc file (store.Journal f) (store.Voc g) of og x y = let none = x.0 in cc
one_reason voc file (store.Journal f) (store.Journal g) of og x y = let same = one_way file f g of og x.1 y.1 in cc
one_reason voc file f g of og x y = absurd (let no : ⊥ = grind arith in no)

one_making : (got : Result (List ℕ) AllFault) (file : List ℕ) (a b : Making) → IsMaking got file a → IsMaking got file b → a ≡ b
one_making (Err e) file a b x y = x ∙ sym y
one_making (Ok voc) file (Ok l) (Ok m) x y = let same = one_language voc l m x.0 y.0 in cc
one_making (Ok voc) file (Ok l) (Err f) x y = absurd (made_none voc file l f x.0 x.1 y.0 y.1)
one_making (Ok voc) file (Err f) (Ok l) x y = absurd (made_none voc file l f y.0 y.1 x.0 x.1)
one_making (Ok voc) file (Err f) (Err g) x y = let same = one_reason voc file f g x.0 y.0 x.1 y.1 in cc

made_own : (making : Making) → is_own (made_said making).ending ≡ true
made_own (Ok l) = refl
made_own (Err (store.Voc f)) = refl
made_own (Err f) = refl

module _ {D : Type 0} (disk : DiskOf D) (plan : Plan) (left written left' written' : Option (List ℕ)) (old new : D) (end : Ending) (said : Result Saying Unsaid) (has : HasWritten said written written' (okay end)) where
  -- of what was read it made this, and ends as is said of it
  record EndsMaking (read : Result (List ℕ) AllFault) : Type 0 where
    making : Making
    is : end ≡ (made_said making).ending
    there : ForSome (disk.content old) (λ file. IsMaking read file making)

  -- by the reason for which no journal was made
  not_made : (voc : List ℕ) (f : SFault) (o : Option Unsaid) → untold f ≡ o → ForSome (disk.content old) (λ file. NotMade voc file f) → RefusesBy o (made_said (Err f)) said → IsBrokenOff end ⊎ EndsMaking (Ok voc)
  not_made voc f None is why says =
      inr (record { making = Err f; is = ends_said (made_said (Err f)) said written written' end says has; there = λ file told. (told_of_bytes f is, why file told) })
  not_made voc f (Some silence) is why says = inl (silently silence said written written' end says has)

  made_of : (read : Result (List ℕ) AllFault) → MakesOf disk plan old new read said → IsBrokenOff end ⊎ EndsMaking read
  made_of (Ok voc) (inl made) =
      inr (record { making = Ok made.lang; is = ends_said (made_said (Ok made.lang)) said written written' end made.says has; there = λ file told. (made.read, made.free file told) })
  made_of (Ok voc) (inr other) = not_made voc other.fault (untold other.fault) refl other.why other.refuses
  made_of (Err e) says = inr (record { making = Err (store.Voc vocs.TooLong); is = ends_said (made_said (Err (store.Voc vocs.TooLong))) said written written' end says has; there = λ file told. refl })

  new_ends : News disk plan left left' old new said → ForSome left (λ bytes. ForSome (disk.content old) (λ file. IsBrokenOff end ⊎ EndsAsMade bytes file end))
  new_ends news = λ bytes from file told.
      let all = (all_of 4194304 bytes).got in
      ⊎_elim (λ broken. inl broken)
      (λ makes. ⊎_map (λ broken. broken)
      (λ so. let here = so.there file told in record { what = so.making; there = here; only = λ other also. one_making all file other so.making also here; is = so.is })
      (made_of all makes))
      (input_end 4194304 (MakesOf disk plan old new) left left' written written' said end bytes from (news.read, news.says) has)

  pub new_own : News disk plan left left' old new said → is_own end ≡ true
  new_own news =
      read_own left left' said written written' end has 4194304 (MakesOf disk plan old new) (λ read makes. ⊎_elim (broken_own end) (λ so. ap is_own so.is ∙ made_own so.making) (made_of read makes)) news.read news.says

-- ---- `check`

abbrev Readings : Type 0
Readings = Result Certificate CertFault

-- the same bytes are read in one way
one_reading : (bytes : List ℕ) (a b : Readings) → IsReading bytes a → IsReading bytes b → a ≡ b
one_reading bytes (Ok a) (Ok b) x y = let same = one_certificate bytes a b x y in cc
one_reading bytes (Ok a) (Err f) x y = absurd (not_both bytes a f x y)
one_reading bytes (Err f) (Ok b) x y = absurd (not_both bytes b f y x)
one_reading bytes (Err f) (Err g) x y = let same = one_fault bytes f g x y in cc

checked_so : (bytes : List ℕ) (end : Ending) (reading : Readings) → IsReading bytes reading → IfOk reading IsJudged → end ≡ (checked_said reading).ending → ConfirmsExactly bytes end
checked_so bytes end reading reads judged is = record {
  ends = record { what = reading; there = reads; only = λ other also. one_reading bytes other reading also reads; is = is };
  judged = judged;
}

-- by what the input gave of its bytes
checked_end : (bytes : List ℕ) (what : Saying) (end : Ending) (got : Result (List ℕ) AllFault) → (all_of 67108864 bytes).got ≡ got → IsCheckOf got what → end ≡ what.ending → ConfirmsExactly bytes end
checked_end bytes what end (Ok read) got check is =
    let c : IsCheck bytes what = transport (λ i. IsCheck (sym (whole_of 67108864 bytes read got) i) what) check in
    checked_so bytes end c.reading c.reads c.judged (is ∙ ap (λ (s : Saying). s.ending) c.is)
checked_end bytes what end (Err e) got check is = checked_so bytes end (Err form.TooLong) (too_many 67108864 bytes e got) tt (is ∙ ap (λ (s : Saying). s.ending) check)

confirm_ends : (left written left' written' : Option (List ℕ)) (end : Ending) (said : Result Saying Unsaid) → SaysOfInput 67108864 (λ read. SaidSo (IsCheckOf read)) left left' said → HasWritten said written written' (okay end) → ForSome left (λ bytes. IsBrokenOff end ⊎ ConfirmsExactly bytes end)
confirm_ends left written left' written' end said says has = λ bytes from. ⊎_elim (λ broken. inl broken) (go bytes said has) (input_end 67108864 (λ read. SaidSo (IsCheckOf read)) left left' written written' said end bytes from says has)
  where
    go : (bytes : List ℕ) (told : Result Saying Unsaid) → HasWritten told written written' (okay end) → SaidSo (IsCheckOf (all_of 67108864 bytes).got) told → IsBrokenOff end ⊎ ConfirmsExactly bytes end
    go bytes (Ok what) wrote so = inr (checked_end bytes what end (all_of 67108864 bytes).got refl so wrote.0)
    go bytes (Err why) wrote so = inl (silently why (Err why) written written' end refl wrote)

-- ---- `play`: what the input is

-- too many bytes are no network
long_is_none : (l : Language) (bytes : List ℕ) → (all_of 4194304 bytes).got ≡ long_one → network_of l bytes ≡ Err net.TooLong
unfolding network_of
long_is_none l bytes is = ap (λ b. cond b (Err net.TooLong) (then_on (ok_or (json_of bytes) net.NotJson) (network_of_items l))) (lt-ltb 4194304 (length bytes) (too_many 4194304 bytes long.TooLong is))

-- what is said of the whole input: that it is no network, for this reason
pub none_of : (l : Language) (bytes : List ℕ) (said : Result Saying Unsaid) → SaysNoNetwork l (all_of 4194304 bytes).got said → (fault : NetFault) × (network_of l bytes ≡ Err fault) × IsSaid (target_refused fault) said
none_of l bytes said says = go (all_of 4194304 bytes).got refl says
  where
    go : (got : Result (List ℕ) AllFault) → (all_of 4194304 bytes).got ≡ got → SaysNoNetwork l got said → (fault : NetFault) × (network_of l bytes ≡ Err fault) × IsSaid (target_refused fault) said
    go (Ok read) is (fault, refused, so) = (fault, ap (network_of l) (whole_of 4194304 bytes read is) ∙ refused, so)
    go (Err e) is so = (net.TooLong, long_is_none l bytes (is ∙ ap (λ (x : AllFault). let r : Result (List ℕ) AllFault = Err x in r) (only_long 4194304 bytes e is)), so)

-- ---- by the command

-- it has broken off or not
pub broken_or : (end : Ending) → IsBrokenOff end ⊎ (IsBrokenOff end → ⊥)
broken_or ending.ReadFault = inl (inl refl)
broken_or ending.WriteFault = inl (inr (inl refl))
broken_or ending.DiskFault = inl (inr (inr (inl refl)))
broken_or ending.Memory = inl (inr (inr (inr refl)))
broken_or end = inr (⊎_elim (λ e. cc) (⊎_elim (λ e. cc) (⊎_elim (λ e. cc) (λ e. cc))))

-- what else is so, where it hasn't
pub unbroken : {P : Type 0} (end : Ending) → (IsBrokenOff end → ⊥) → IsBrokenOff end ⊎ P → P
unbroken end calm ends = ⊎_elim (λ broken. absurd (calm broken)) (λ holds. holds) ends

module _ {D : Type 0} (disk : DiskOf D) (once : ReadOnce) (left written left' written' : Option (List ℕ)) (old new : D) (end : Ending) where
  -- by what the input is, where no answers stand
  abbrev EndsBy : (budget : ℕ) → Opened → Result (List Candidate) NetFault → Type 0
  EndsBy budget o read = MatchResult read (λ target. EndsAsRun (net_turn target false) o.lang (terms_with o.plan budget) o.events [] end) (λ f. end ≡ ending.TargetRefused f)

  -- where it didn't come to a run
  unplayed_ends : (budget : ℕ) (bytes file : List ℕ) → left ≡ Some bytes → (said : Result Saying Unsaid) → HasWritten said written written' (okay end) → (opening : Result Opened SFault) → OpensAs file opening → SaysUnplayed left left' opening said →
      IsBrokenOff end ⊎ (Opens file opening × EndsPlaying budget bytes opening end)
  unplayed_ends budget bytes file from said has (Err f) opens (refuses, unread) = ⊎_map (λ broken. broken) (λ is. ((is.0, opens), is.1)) (refuses_end f said written written' end refuses has)
  unplayed_ends budget bytes file from said has (Ok o) opens (inl (some, is, unread)) = inr (opens, inl (some, ends_said (stale_said (length (standing_on o.lang o.events))) said written written' end is has))
  unplayed_ends budget bytes file from said has (Ok o) opens (inr (fresh, says)) =
      ⊎_map (λ broken. broken)
      (λ untaken.
      let none = none_of o.lang bytes said untaken in
      (opens, inr (fresh, subst (EndsBy budget o) (sym none.1) (ends_said (target_refused none.0) said written written' end none.2 has))))
      (input_end 4194304 (SaysNoNetwork o.lang) left left' written written' said end bytes from says has)

  play_ends : (IsBrokenOff end → ⊥) → (budget : ℕ) → PlaysOn disk budget left written left' written' old new (okay end) → ForSome left (λ bytes. ForSome (disk.content old) (λ file. IsBrokenOff end ⊎ PlaysExactly budget bytes file end))
  play_ends calm budget plays = λ bytes from file told. ⊎_map (λ broken. broken) (λ so. record { opening = so.0; there = so.1; only = λ other also. opens_once once file other so.0 also so.1; is = so.2 }) (go bytes from file told plays)
    where
      go : (bytes : List ℕ) → left ≡ Some bytes → (file : List ℕ) → disk.content old ≡ Some file → PlaysOn disk budget left written left' written' old new (okay end) → IsBrokenOff end ⊎ ((opening : Result Opened SFault) × Opens file opening × EndsPlaying budget bytes opening end)
      go bytes from file told (inl (said, over, has)) = ⊎_map (λ broken. broken) (λ so. (over.opening, so.0, so.1)) (unplayed_ends budget bytes file from said has over.opening (over.opens file told) over.says)
      go bytes from file told (inr played) =
          let on = played.on in
          let whole : bytes ≡ played.reads.bytes = whole_of 4194304 bytes played.reads.bytes (gives_got (all_of 4194304) left left' (fine played.reads.bytes) bytes played.reads.gives from) in
          let ran = ends_as_run (net_turn played.target false) on.of.lang (terms_with on.of.plan budget) on.of.events on.later left' written left' written' end calm on.tries [] (target_left on.of.lang left left' played.target bytes played.reads from) in
          inr (Ok on.of, on.opens file told, inr (played.fresh, subst (EndsBy budget on.of) (sym (ap (network_of on.of.lang) whole ∙ played.reads.is)) ran))

  -- where a journal isn't opened, none is there to go on from
  runs_exactly : (IsBrokenOff end → ⊥) → (budget : ℕ) → RunsOn disk budget left written left' written' old new (okay end) → ForSome (disk.content old) (λ file. RunsExactly budget left file end)
  runs_exactly calm budget runs = λ file told.
      record { refused = unbroken end calm (run_ends disk once budget left written left' written' old new (okay end) runs file told); goes_on = λ bytes from o held. go file told bytes from o held runs }
    where
      Ends : List ℕ → Opened → Type 0
      Ends bytes o = EndsAsRun line_turn o.lang (terms_with o.plan budget) o.events bytes end

      go : (file : List ℕ) → disk.content old ≡ Some file → (bytes : List ℕ) → left ≡ Some bytes → (o : Opened) → SaysOpened file o → RunsOn disk budget left written left' written' old new (okay end) → Ends bytes o
      go file told bytes from o held (inl (said, over, has)) = absurd (closed_none once written written' end calm file o over.says.0 said (subst (OpensAs file) over.says.1 (over.opens file told)) held over.says.2 has)
      go file told bytes from o held (inr on) =
          subst (Ends bytes) (sym (same_session file o on.of held (on.opens file told))) (ends_as_run line_turn on.of.lang (terms_with on.of.plan budget) on.of.events on.later left written left' written' end calm on.tries bytes from)

  asked_ends : (a : Ask) → SaysSo (Asks disk a old new) written written' (okay end) → ForSome (disk.content old) (λ file. IsBrokenOff end ⊎ EndsAsOpened (asked_said a) file end)
  asked_ends a does = over_ends disk (opens_once once) (asked_said a) (AsksTruly a) written written' old new (okay end) does

  pub ends_exactly : (IsBrokenOff end → ⊥) → (asked : Result Command UsageFault) → Does disk asked left written left' written' old new (okay end) → IfOk asked (λ c. EndsExactly c left (disk.content old) end)
  ends_exactly calm (Ok (command.New plan)) (said, news, has) = λ bytes from file told. unbroken end calm (new_ends disk plan left written left' written' old new end said has news bytes from file told)
  ends_exactly calm (Ok (command.Run budget)) does = runs_exactly calm budget does
  ends_exactly calm (Ok (command.Play budget)) does = λ bytes from file told. unbroken end calm (play_ends calm budget does bytes from file told)
  ends_exactly calm (Ok command.Show) does = λ file told. unbroken end calm (asked_ends ask.Show does file told)
  ends_exactly calm (Ok command.Back) does = λ file told. unbroken end calm (back_ends disk written written' old new (opens_once once) (okay end) does file told)
  ends_exactly calm (Ok (command.Reduce budget)) does = λ file told. unbroken end calm (asked_ends (ask.Reduce budget) does file told)
  ends_exactly calm (Ok command.Cnf) does = λ file told. unbroken end calm (asked_ends ask.Cnf does file told)
  ends_exactly calm (Ok command.Model) does = λ bytes from file told. unbroken end calm (solve_ends disk (opens_once once) left written left' written' old new (okay end) does bytes from file told)
  ends_exactly calm (Ok (command.Certify budget)) does = λ file told. unbroken end calm (asked_ends (ask.Certify budget) does file told)
  ends_exactly calm (Ok command.Check) (said, says, has) = λ bytes from. unbroken end calm (confirm_ends left written left' written' end said says has bytes from)
  ends_exactly calm (Ok (command.Try plan budget)) does = tries_exactly (terms_with plan budget) left written left' written' end calm does
  ends_exactly calm (Ok (command.Demo number budget)) does = demos_exactly number budget written written' end does
  ends_exactly calm (Err fault) does = tt
