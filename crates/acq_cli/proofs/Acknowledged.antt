-- What a crash leaves of answers that were acknowledged, by what was done.
use Rattle.acq_cli.proofs.Prelude.{AddsFront, AddsLast, AllFault, Answer, Assignment, Candidate, Closing, Command, DiskOf, Does, Ending, Err, Event, ForSome, HasWritten, IfOk, IfSome, IsSaid, Language, List, MakesOf, MatchResult, NetFault, News, None, Ok, OnErr, Opened, OpensAs, Option, Plan, PlaysOn, Put, RanTo, ReadOnce, Result, RunGoesOn, SFault, Saying, SaysNoNetwork, SaysOfInput, SaysOpened, SaysRefusal, SaysUnplayed, Some, Spoke, Terms, Tries, Turns, Unsaid, UsageFault, [], all_of, any_answer, ap, append-nil, arith, closing_of, ends_as, ends_ok, ends_part, false, fine, gives_got, holds_none, inl, inr, length, line_turn, net_may_say, net_turn, network_of, point_of, refl, same_session, stale_said, standing_on, subst, sym, target_refused, terms_with, transport, true, untold, whole_of, ℕ, ⊎_elim, ◌++◌, ◌∙◌, ◌∷◌, ◌≡◌, ◌≢◌, ◌≤◌, ◌⊎◌}
use Rattle.std.specs.Prelude.{IsErr}
use Rattle.acq_io.specs.declared.whole.AllFault.TheVariants as all
use Rattle.acq_words.specs.declared.request.Command.TheVariants as command
use Rattle.answer_journal.specs.Journal.{HasNoSession, NoSession, Session}
use Rattle.assign.specs.declared.events.Event.TheVariants as event
use Rattle.disk_model.specs.Moments.{LeavesOnly, started, weaker}
use Rattle.session_store.proofs.Openings.{only_reason}
use Rattle.session_store.specs.Left.{HoldsAtLeast, OpensWith, OpensWithin}
use Rattle.session_store.specs.Opened.{Opens, is_of_bytes}
use Rattle.session_store.specs.Opening.{NotOpened}
use Rattle.target_oracle.proofs.Fronts.{front_none, front_whole}
use Rattle.target_oracle.specs.declared.teacher.Told.{Told}
use Rattle.acq_loop.proofs.Short.{CutOff}
use Rattle.acq_loop.specs.Texts.{closing_text}
use Rattle.acq_loop.specs.declared.ending.Ending.TheVariants as ending
use Rattle.acq_said.proofs.Exactly.{RunsOn}
use Rattle.acq_said.proofs.Spoken.{RefusesBy, silent, so_not, told_of_bytes}
use Rattle.acq_said.specs.Breaks.{BreaksRun}
use Rattle.acq_said.specs.Inputs.{SaysOfRead}
use Rattle.acq_said.specs.Journals.{refused_said}
use Rattle.acq_said.specs.TakingBack.{EndsBack, back_said}
use Rattle.acq_said.specs.declared.said.Unsaid.TheVariants as unsaid
use Rattle.acq_cli.specs.Acknowledged.{Acknowledges, KeepsAcknowledged, KeepsSince, RunKeeps, target_among}
use Rattle.acq_cli.specs.Words.{is_over_journal}
use Rattle.acq_cli.proofs.Closed.{target_left}
use Rattle.acq_cli.proofs.Exactly.{none_of}

-- ---- what was written

-- of what was said
said_front : (what : Saying) (said : Result Saying Unsaid) (written written' : Option (List ℕ)) (got : Result Ending Put) → IsSaid what said → HasWritten said written written' got → AddsFront written written' what.text
said_front what said written written' (Ok end) is has = front_whole written written' what.text (ends_ok what.ending what.text written written' (Ok end) (ends_as what said written written' (Ok end) is has)).1
said_front what said written written' (Err e) is has = ends_part what.ending what.text written written' (Err e) (ends_as what said written written' (Err e) is has)

-- nothing, where nothing was said
unsaid_written : (why : Unsaid) (said : Result Saying Unsaid) (written written' : Option (List ℕ)) (got : Result Ending Put) → said ≡ silent why → HasWritten said written written' got → written' ≡ written
unsaid_written why said written written' got is has = let Written : Result Saying Unsaid → Type 0 = λ s. HasWritten s written written' got in (subst Written is has).1

-- of a fault: nothing, or it is one of the bytes, and a front of its refusal
refusal_front : (f : SFault) (said : Result Saying Unsaid) (written written' : Option (List ℕ)) (got : Result Ending Put) → SaysRefusal f said → HasWritten said written written' got → (written' ≡ written) ⊎ ((is_of_bytes f ≡ true) × AddsFront written written' (refused_said f).text)
refusal_front f said written written' got says has = go (untold f) refl says
  where
    go : (o : Option Unsaid) → untold f ≡ o → RefusesBy o (refused_said f) said → (written' ≡ written) ⊎ ((is_of_bytes f ≡ true) × AddsFront written written' (refused_said f).text)
    go None is told = inr (told_of_bytes f is, said_front (refused_said f) said written written' got told has)
    go (Some why) is none = inl (unsaid_written why said written written' got none has)

-- of the input: nothing, or something is said of what its bytes give
input_said : (most : ℕ) (Says : Result (List ℕ) AllFault → Result Saying Unsaid → Type 0) (left left' written written' : Option (List ℕ)) (said : Result Saying Unsaid) (got : Result Ending Put) (bytes : List ℕ) →
    left ≡ Some bytes → SaysOfInput most Says left left' said → HasWritten said written written' got → (written' ≡ written) ⊎ Says (all_of most bytes).got said
input_said most Says left left' written written' said got bytes from (Ok read, says) has =
    let Of : Result (List ℕ) AllFault → Type 0 = λ r. Says r said in inr (subst Of (sym (gives_got (all_of most) left left' (Ok read) bytes says.0 from)) says.1)
input_said most Says left left' written written' said got bytes from (Err all.TooLong, says) has =
    let Of : Result (List ℕ) AllFault → Type 0 = λ r. Says r said in inr (subst Of (sym (gives_got (all_of most) left left' (Err all.TooLong) bytes says.0 from)) says.1)
input_said most Says left left' written written' said got bytes from (Err all.Fault, says) has = inl (unsaid_written unsaid.ReadFault said written written' got says has)
input_said most Says left left' written written' said got bytes from (Err all.Memory, says) has = inl (unsaid_written unsaid.Memory said written written' got says has)

-- ---- where a run stops

module _ (turns : Turns) (l : Language) (terms : Terms) (start later : List Event) (left written left' written' : Option (List ℕ)) where
  by_closing : (middle : Option (List ℕ)) (o : Option Closing) → IfSome o (λ closing. RanTo turns l terms closing (point_of start left written) (point_of later left' middle)) → (o ≡ None → CutOff turns l terms (point_of start left written) (point_of later left' middle)) →
      AddsLast l terms (standing_on l later) middle written' o → BreaksRun turns l terms start later left written left' written'
  by_closing middle None ran cut none = inl (subst (λ (w : Option (List ℕ)). CutOff turns l terms (point_of start left written) (point_of later left' w)) (sym none) (cut refl))
  by_closing middle (Some closing) ran cut adds = inr (closing, middle, ran, front_whole middle written' (closing_text l terms (standing_on l later) closing) adds)

  -- said whole, or in part
  stops : (got : Result Ending Put) → IfOk got (Tries turns l terms start later left written left' written') → OnErr got (BreaksRun turns l terms start later left written left' written') → BreaksRun turns l terms start later left written left' written'
  stops (Ok end) tries part = by_closing tries.middle (closing_of tries.how) tries.ended.closed tries.ended.broken tries.adds
  stops (Err e) tries part = part

-- ---- what a content holds

at_least : (plan : Plan) (voc : List ℕ) (later last : List Event) (c : List ℕ) → OpensWith plan voc later c ⊎ OpensWith plan voc (later ++ last) c → HoldsAtLeast plan voc later c
at_least plan voc later last c (inl opens) = record { more = []; opens = subst (λ (es : List Event). OpensWith plan voc es c) (sym (append-nil later)) opens }
at_least plan voc later last c (inr opens) = record { more = last; opens = opens }

-- a file without a session says none
no_session : ReadOnce → (file : List ℕ) (o : Opened) → HasNoSession file → SaysOpened file o → ⊥
no_session once file o none holds = let same : NoSession ≡ Session o.plan o.voc o.events = once file NoSession (Session o.plan o.voc o.events) none holds.says in cc

module _ {D : Type 0} (disk : DiskOf D) (once : ReadOnce) (only_now : (d : D) (c : List ℕ) → disk.left_since d (disk.moment d) c → disk.may_leave d c) (left written left' written' : Option (List ℕ)) (old new : D) where
  -- ---- what was acknowledged before

  abbrev Leaves : D → Opened → Type 0
  Leaves now o = LeavesOnly disk old now (λ c. disk.may_leave old c ⊎ HoldsAtLeast o.plan o.voc o.events c)

  abbrev Before : D → Type 0
  Before now = ForSome (disk.content old) (λ file. (o : Opened) → SaysOpened file o → Leaves now o)

  -- where a crash leaves nothing new
  read_before : (now : D) → LeavesOnly disk old now (disk.may_leave old) → Before now
  read_before now only = λ file told o holds. weaker disk old now (disk.may_leave old) (λ c. disk.may_leave old c ⊎ HoldsAtLeast o.plan o.voc o.events c) only (λ c was. inl was)

  spared_before : new ≡ old → Before new
  spared_before same = subst Before (sym same) (read_before old (started disk old (disk.may_leave old) (only_now old)))

  -- where it leaves the events of the session and a front of others
  within_before : (of : Opened) (after : List Event) → ForSome (disk.content old) (λ bytes. SaysOpened bytes of) →
      ForSome (disk.content old) (λ _. LeavesOnly disk old new (λ c. disk.may_leave old c ⊎ OpensWithin of.plan of.voc of.events after c)) → Before new
  within_before of after opens within = λ file told o holds.
      subst (Leaves new) (same_session file of o (opens file told) holds)
      (weaker disk old new (λ c. disk.may_leave old c ⊎ OpensWithin of.plan of.voc of.events after c) (λ c. disk.may_leave old c ⊎ HoldsAtLeast of.plan of.voc of.events c) (within file told)
      (λ c. ⊎_elim (λ was. inl was) (λ some. inr (record { more = some.some; opens = some.opens }))))

  new_before : (plan : Plan) (said : Result Saying Unsaid) → News disk plan left left' old new said → Before new
  new_before plan said news = go news.read news.says news.untouched
    where
      go : (read : Result (List ℕ) AllFault) → SaysOfRead 4194304 (MakesOf disk plan old new) left left' said read → (IsErr read → new ≡ old) → Before new
      go (Ok voc) says untouched = λ file told o holds.
          ⊎_elim (λ made. absurd (no_session once file o (made.free file told) holds))
          (λ other. ⊎_elim (λ none. absurd (no_session once file o none holds)) (λ read. read_before new read.any_moment file told o holds) (other.spared file told)) says.1
      go (Err e) says untouched = spared_before (untouched refl)

  spoke_before : (c : Command) (said : Result Saying Unsaid) → Spoke disk c left left' old new said → (is_over_journal (Ok c) ≡ false → new ≡ old) → Before new
  spoke_before (command.New plan) said news untouched = new_before plan said news
  spoke_before command.Show said over untouched = read_before new over.any_moment
  spoke_before command.Back said (inl over) untouched = read_before new over.any_moment
  spoke_before command.Back said (inr taken) untouched = within_before taken.of (taken.of.events ++ event.Back ∷ []) taken.opens taken.any_moment
  spoke_before (command.Reduce budget) said over untouched = read_before new over.any_moment
  spoke_before command.Cnf said over untouched = read_before new over.any_moment
  spoke_before command.Model said over untouched = read_before new over.any_moment
  spoke_before (command.Certify budget) said over untouched = read_before new over.any_moment
  spoke_before command.Check said says untouched = spared_before (untouched refl)
  spoke_before c said never untouched = absurd never

  run_before : (budget : ℕ) (got : Result Ending Put) → RunsOn disk budget left written left' written' old new got → Before new
  run_before budget got (inl (said, over, has)) = read_before new over.any_moment
  run_before budget got (inr on) = within_before on.of (on.later ++ on.last) on.opens on.any_moment

  play_before : (budget : ℕ) (got : Result Ending Put) → PlaysOn disk budget left written left' written' old new got → Before new
  play_before budget got (inl (said, over, has)) = read_before new over.any_moment
  play_before budget got (inr played) = within_before played.on.of (played.on.later ++ played.on.last) played.on.opens played.on.any_moment

  did_before : (asked : Result Command UsageFault) (got : Result Ending Put) → Does disk asked left written left' written' old new got → (is_over_journal asked ≡ false → new ≡ old) → Before new
  did_before (Ok (command.Run budget)) got does untouched = run_before budget got does
  did_before (Ok (command.Play budget)) got does untouched = play_before budget got does
  did_before (Ok (command.Try plan budget)) got does untouched = spared_before (untouched refl)
  did_before (Ok (command.Demo number budget)) got does untouched = spared_before (untouched refl)
  did_before (Ok c) got does untouched = spoke_before c does.0 does.1 untouched
  did_before (Err fault) got does untouched = spared_before (untouched refl)

  -- ---- what was acknowledged since

  -- the events of a run that goes on
  run_keeps : (turns : Turns) (may : Language → Assignment → Told → Type 0) (budget : ℕ) (rest : Option (List ℕ)) (got : Result Ending Put) (file : List ℕ) → disk.content old ≡ Some file → (on : RunGoesOn disk turns may budget rest written left' written' old new got) →
      KeepsAcknowledged disk turns on.of budget rest written left' written' new
  run_keeps turns may budget rest got file told on =
      let l = on.of.lang in
      let terms = terms_with on.of.plan budget in
      record {
        more = on.added.more;
        stops = subst (λ (es : List Event). BreaksRun turns l terms on.of.events es rest written left' written') on.added.is (stops turns l terms on.of.events on.later rest written left' written' got on.tries on.part);
        holds = λ c may_be. subst (λ (es : List Event). HoldsAtLeast on.of.plan on.of.voc es c) on.added.is (at_least on.of.plan on.of.voc on.later on.last c ((on.now file told).each c may_be));
      }

  -- what was written of a refusal, by what the file opens with
  abbrev Refuses : Result Opened SFault → Type 0
  Refuses opening = MatchResult opening (λ o. written' ≡ written) (λ f. AddsFront written written' (refused_said f).text)

  refused_since : (file : List ℕ) (fault : SFault) (said : Result Saying Unsaid) (got : Result Ending Put) → NotOpened file fault → SaysRefusal fault said → HasWritten said written written' got → (opening : Result Opened SFault) → Opens file opening → Refuses opening
  refused_since file fault said got why says has (Ok o) opens = ⊎_elim (λ none. none) (λ told. absurd (holds_none once file fault o (told.0, why) opens)) (refusal_front fault said written written' got says has)
  refused_since file fault said got why says has (Err f) opens =
      ⊎_elim (λ none. front_none written written' (refused_said f).text none)
      (λ told. subst (λ (x : SFault). AddsFront written written' (refused_said x).text) (only_reason once file fault f (told.0, why) opens) told.1)
      (refusal_front fault said written written' got says has)

  run_since : (budget : ℕ) (got : Result Ending Put) → RunsOn disk budget left written left' written' old new got → (file : List ℕ) → disk.content old ≡ Some file → (opening : Result Opened SFault) → Opens file opening →
      KeepsSince disk (Ok (command.Run budget)) left written left' written' new opening
  run_since budget got (inl (said, over, has)) file told (Ok o) opens = λ bytes from. inl (refused_since file over.says.0 said got (subst (OpensAs file) over.says.1 (over.opens file told)) over.says.2 has (Ok o) opens)
  run_since budget got (inl (said, over, has)) file told (Err f) opens = refused_since file over.says.0 said got (subst (OpensAs file) over.says.1 (over.opens file told)) over.says.2 has (Err f) opens
  run_since budget got (inr on) file told (Ok o) opens = λ bytes from.
      inr (transport (λ i. KeepsAcknowledged disk line_turn (same_session file on.of o (on.opens file told) opens i) budget (from i) written left' written' new) (run_keeps line_turn any_answer budget left got file told on))
  run_since budget got (inr on) file told (Err f) opens = absurd (holds_none once file f on.of opens (on.opens file told))

  -- by what `play` may let answer
  abbrev PlaysSo : ℕ → Opened → Result (List Candidate) Saying → Type 0
  PlaysSo budget o found = MatchResult found (λ target. RunKeeps disk (net_turn target false) o budget (Some []) written left' written' new) (λ what. AddsFront written written' what.text)

  plays_none : (budget : ℕ) (o : Opened) (found : Result (List Candidate) Saying) → written' ≡ written → PlaysSo budget o found
  plays_none budget o (Ok target) none = inl none
  plays_none budget o (Err what) none = front_none written written' what.text none

  plays_stale : (budget : ℕ) (o : Opened) (t : List Answer) (read : Result (List Candidate) NetFault) → 1 ≤ length t → AddsFront written written' (stale_said (length t)).text → PlaysSo budget o (target_among t read)
  plays_stale budget o (a ∷ t) read some front = front
  plays_stale budget o [] read some front = absurd (omega (arith, some))

  abbrev PlaysOf : ℕ → List ℕ → Opened → Type 0
  PlaysOf budget bytes o = PlaysSo budget o (target_among (standing_on o.lang o.events) (network_of o.lang bytes))

  unplayed_of : (budget : ℕ) (got : Result Ending Put) (said : Result Saying Unsaid) → HasWritten said written written' got → (bytes : List ℕ) → left ≡ Some bytes → (o : Opened) → SaysUnplayed left left' (Ok o) said → PlaysOf budget bytes o
  unplayed_of budget got said has bytes from o (inl (some, is, unread)) =
      plays_stale budget o (standing_on o.lang o.events) (network_of o.lang bytes) some (said_front (stale_said (length (standing_on o.lang o.events))) said written written' got is has)
  unplayed_of budget got said has bytes from o (inr (fresh, says)) =
      ⊎_elim (λ none. plays_none budget o (target_among (standing_on o.lang o.events) (network_of o.lang bytes)) none)
      (λ untaken.
      let none = none_of o.lang bytes said untaken in
      transport (λ i. PlaysSo budget o (target_among (sym fresh i) (sym none.1 i))) (said_front (target_refused none.0) said written written' got none.2 has))
      (input_said 4194304 (SaysNoNetwork o.lang) left left' written written' said got bytes from says has)

  unplayed_since : (budget : ℕ) (got : Result Ending Put) (said : Result Saying Unsaid) → HasWritten said written written' got → (file : List ℕ) (was : Result Opened SFault) → OpensAs file was → SaysUnplayed left left' was said → (opening : Result Opened SFault) → Opens file opening →
      KeepsSince disk (Ok (command.Play budget)) left written left' written' new opening
  unplayed_since budget got said has file (Ok x) there says (Ok o) opens = λ bytes from. subst (PlaysOf budget bytes) (same_session file x o there opens) (unplayed_of budget got said has bytes from x says)
  unplayed_since budget got said has file (Ok x) there says (Err f) opens = absurd (holds_none once file f x opens there)
  unplayed_since budget got said has file (Err fault) why says (Ok o) opens = λ bytes from.
      plays_none budget o (target_among (standing_on o.lang o.events) (network_of o.lang bytes)) (refused_since file fault said got why says.0 has (Ok o) opens)
  unplayed_since budget got said has file (Err fault) why says (Err f) opens = refused_since file fault said got why says.0 has (Err f) opens

  play_since : (budget : ℕ) (got : Result Ending Put) → PlaysOn disk budget left written left' written' old new got → (file : List ℕ) → disk.content old ≡ Some file → (opening : Result Opened SFault) → Opens file opening →
      KeepsSince disk (Ok (command.Play budget)) left written left' written' new opening
  play_since budget got (inl (said, over, has)) file told opening opens = unplayed_since budget got said has file over.opening (over.opens file told) over.says opening opens
  play_since budget got (inr played) file told (Err f) opens = absurd (holds_none once file f played.on.of opens (played.on.opens file told))
  play_since budget got (inr played) file told (Ok o) opens = λ bytes from.
      let on = played.on in
      let reads = played.reads in
      let got_all = gives_got (all_of 4194304) left left' (fine reads.bytes) bytes reads.gives from in
      let nothing = target_left on.of.lang left left' played.target bytes reads from in
      let is : network_of on.of.lang bytes ≡ Ok played.target = ap (network_of on.of.lang) (whole_of 4194304 bytes reads.bytes got_all) ∙ reads.is in
      let kept = transport (λ i. KeepsAcknowledged disk (net_turn played.target false) on.of budget (nothing i) written left' written' new) (run_keeps (net_turn played.target false) (net_may_say played.target) budget left' got file told on) in
      subst (PlaysOf budget bytes) (same_session file on.of o (on.opens file told) opens) (transport (λ i. PlaysSo budget on.of (target_among (sym played.fresh i) (sym is i))) (inr kept))

  -- by what `back` took back
  abbrev KeepsBack : Opened → Type 0
  KeepsBack o = (written' ≡ written) ⊎ ((c : List ℕ) → disk.may_leave new c → HoldsAtLeast o.plan o.voc (o.events ++ event.Back ∷ []) c)

  back_since : (got : Result Ending Put) (said : Result Saying Unsaid) → HasWritten said written written' got → Spoke disk command.Back left left' old new said → (file : List ℕ) → disk.content old ≡ Some file → (opening : Result Opened SFault) → Opens file opening →
      KeepsSince disk (Ok command.Back) left written left' written' new opening
  back_since got said has spoke file told (Err f) opens = tt
  back_since got said has (inl over) file told (Ok o) opens = λ done. inl (go over.opening (over.opens file told) over.says done)
    where
      go : (was : Result Opened SFault) → OpensAs file was → MatchResult was (λ x. IsSaid (back_said x) said × ((back_said x).ending ≢ ending.Done)) (λ fault. SaysRefusal fault said) → (back_said o).ending ≡ ending.Done → written' ≡ written
      go (Ok x) there says done = absurd (says.1 (ap (λ (y : Opened). (back_said y).ending) (same_session file x o there opens) ∙ done))
      go (Err fault) why says done = refused_since file fault said got why says has (Ok o) opens
  back_since got said has (inr taken) file told (Ok o) opens = λ done. subst KeepsBack (same_session file taken.of o (taken.opens file told) opens) (go taken.ends)
    where
      go : EndsBack (back_said taken.of) taken.of.events taken.later said → KeepsBack taken.of
      go (inl (later, is)) = inr (λ c may_be.
          let lost = so_not (λ s. s ≡ back_said taken.of) said unsaid.DiskFault (λ e. cc) is in
          at_least taken.of.plan taken.of.voc (taken.of.events ++ event.Back ∷ []) [] c (inl (subst (λ (es : List Event). OpensWith taken.of.plan taken.of.voc es c) later ((taken.now lost file told).each c may_be))))
      go (inr (later, inl none)) = inl (unsaid_written unsaid.Memory said written written' got none has)
      go (inr (later, inr none)) = inl (unsaid_written unsaid.DiskFault said written written' got none has)

  did_since : (asked : Result Command UsageFault) (got : Result Ending Put) → Does disk asked left written left' written' old new got → (file : List ℕ) → disk.content old ≡ Some file → (opening : Result Opened SFault) → Opens file opening → KeepsSince disk asked left written left' written' new opening
  did_since (Ok (command.Run budget)) got does file told opening opens = run_since budget got does file told opening opens
  did_since (Ok (command.Play budget)) got does file told opening opens = play_since budget got does file told opening opens
  did_since (Ok command.Back) got (said, spoke, has) file told opening opens = back_since got said has spoke file told opening opens
  did_since (Ok c) got does file told opening opens = tt
  did_since (Err fault) got does file told opening opens = tt

  pub acknowledges : (asked : Result Command UsageFault) (got : Result Ending Put) → Does disk asked left written left' written' old new got → (is_over_journal asked ≡ false → new ≡ old) → Acknowledges disk asked left written left' written' old new
  acknowledges asked got does untouched = record { before = did_before asked got does untouched; since = λ file told opening opens. did_since asked got does file told opening opens }
