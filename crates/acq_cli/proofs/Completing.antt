-- When a command comes to its own end.
use Rattle.acq_cli.proofs.Prelude.{none_placed, Acquires, Answer, Candidate, Closing, Command, Completes, Demos, DiskOf, Does, Drove, Ending, EndsExactly, Err, Event, HasEnded, HasFound, HasRecordsLeft, HasWritten, HavePlaces, SaysOpened, IfOk, IfSome, IsAffordable, IsBrokenOff, IsEnough, IsLanguage, IsLeftOpen, IsReached, IsRefusal, IsVocabulary, Language, List, NetFault, Ok, Opened, OpensAs, Option, Plan, PlaysOn, Quacq, RanTo, ReadOnce, ReadsTarget, ReadsVocabulary, Result, SFault, Saying, SaysNoNetwork, SaysUnplayed, Some, Terms, Tries, Turns, Undecided, Unsaid, UsageFault, [], all_of, answers_fit, ap, append-nil, arith, closing_of, ending_of, err_ok, false, fine, first_line_of, gives_got, inl, input_end, inr, length, line_turn, most_answers, net_turn, network_of, not_refused, okay, one_language, point_of, refl, refusal_of_vocabulary, same_fine, same_ok, same_session, standing_on, subst, sym, terms_with, transport, whole_of, ℕ, ⊎_elim, ⊎_map, ◌+◌, ◌∙◌, ◌≡◌, ◌≤◌, ◌⊎◌}
use Rattle.acq_said.proofs.Exactly.{RunsOn}
use Rattle.acq_io.specs.declared.streams.Put.TheVariants as put
use Rattle.acq_words.specs.declared.request.Command.TheVariants as command
use Rattle.fd_solver.specs.Outcomes.{outcome_of_candidate}
use Rattle.session_store.proofs.Fronts.{replay_is_state}
use Rattle.acq_loop.specs.declared.driving.Drove.TheVariants as drove
use Rattle.acq_loop.specs.declared.ending.Ending.TheVariants as ending
use Rattle.acq_cli.proofs.Answering.{AnswersEach, EndsItself, HasLines, AsMany, ends_itself, lines_answer, network_answers}
use Rattle.acq_cli.proofs.Closed.{closed_none, gives_rest, target_left}
use Rattle.acq_cli.proofs.Enough.{generated_is_settled}
use Rattle.acq_cli.proofs.Exactly.{none_of}

-- ---- a run that ends by itself

-- the answers converge, or no network agrees with them
abbrev OwnEnd : Ending → Type 0
OwnEnd end = ((m : ℕ) × (end ≡ ending.Converged m)) ⊎ ((m : ℕ) × (end ≡ ending.Collapsed m))

module _ (turns : Turns) (Left : ℕ → List ℕ → Type 0) (each : AnswersEach turns Left) (l : Language) (lawful : IsLanguage l) (terms : Terms) (n : ℕ) (start later : List Event) (left written left' written' : Option (List ℕ)) (end : Ending) (calm : IsBrokenOff end → ⊥)
    (bytes : List ℕ) (from : left ≡ Some bytes)
    (reached : IsReached l terms.plan (standing_on l start)) (enough : most_answers l ≤ length (standing_on l start) + n) (has : Left n bytes) (room : HasRecordsLeft l start) (affordable : IsAffordable turns l terms start bytes) where
  abbrev RanSo : Option (List ℕ) → Closing → Type 0
  RanSo middle closing = RanTo turns l terms closing (point_of start left written) (point_of later left' middle)

  closed_itself : (middle : Option (List ℕ)) (closing : Closing) → RanSo middle closing → EndsItself closing
  closed_itself middle closing closed =
      let ran = closed bytes from in
      subst EndsItself ran.closing (ends_itself turns Left each l lawful terms ran.runs.count n start bytes ran.run (reached, enough, has, room) ran.runs.is)

  -- a budget that is enough leaves nothing open
  not_open : (middle : Option (List ℕ)) → RanSo middle Undecided → IsLeftOpen l terms (standing_on l later) → ⊥
  not_open middle closed undone =
      let ran = closed bytes from in
      let some = undone.undecided.some in
      ⊎_elim (λ scopes. undone.plan scopes)
      (λ affords.
      let fits = affords ran.run (standing_on l later) [] undone.network undone.end ran.runs (ap (standing_on l) ran.events ∙ sym (append-nil (standing_on l later))) undone.idle some.0 some.1 some.2 in
      let long = undone.undecided.each some.0 some.1 some.2 (ap (λ (c : Candidate). outcome_of_candidate l undone.network c terms.budget) some.3 ∙ some.4) in
      omega (arith, fits, long))
      affordable

  by_how : (middle : Option (List ℕ)) (how : Drove) → ending_of how ≡ okay end → HasEnded l terms (standing_on l later) how → IfSome (closing_of how) (RanSo middle) → OwnEnd end
  by_how middle (drove.Converged m) is says closed = inl (m, sym (same_ok (ending.Converged m) end is))
  by_how middle (drove.Collapsed m) is says closed = inr (m, sym (same_ok (ending.Collapsed m) end is))
  by_how middle (drove.Undecided m) is says closed = absurd (not_open middle closed says.found)
  by_how middle drove.ReadFault is says closed = absurd (calm (inl (sym (same_ok ending.ReadFault end is))))
  by_how middle drove.DiskFault is says closed = absurd (calm (inr (inr (inl (sym (same_ok ending.DiskFault end is))))))
  by_how middle drove.WriteFault is says closed = absurd (err_ok put.Failed end is)
  by_how middle drove.Memory is says closed = absurd (err_ok put.Memory end is)
  by_how middle how is says closed = absurd (closed_itself middle _ closed)

  pub own_end : Tries turns l terms start later left written left' written' end → OwnEnd end
  own_end tries = by_how tries.middle tries.how tries.is tries.ended.says tries.ended.closed

places_reached : (l : Language) (plan : Plan) (events : List Event) → HavePlaces l plan events → IsReached l plan (standing_on l events)
places_reached l plan events places = (places.0, replay_is_state l plan events places.0 places.1)

-- with the answers and the budget that are enough
lines_end : (l : Language) (terms : Terms) (start later : List Event) (left written left' written' : Option (List ℕ)) (end : Ending) (bytes : List ℕ) → IsLanguage l → HavePlaces l terms.plan start → left ≡ Some bytes →
    HasRecordsLeft l start → IsEnough l terms start bytes → (IsBrokenOff end → ⊥) → Tries line_turn l terms start later left written left' written' end → OwnEnd end
lines_end l terms start later left written left' written' end bytes lawful places from room a calm tries =
    let has : HasLines (length a.lines) bytes = record { lines = a.lines; rest = a.rest; is = a.is; each = a.each; many = omega arith } in
    own_end line_turn HasLines lines_answer l lawful terms (length a.lines) start later left written left' written' end calm bytes from (places_reached l terms.plan start places) a.enough has room a.affordable tries

-- without events there is room
no_events_room : (l : Language) → IsLanguage l → HasRecordsLeft l []
no_events_room l lawful = let fit = answers_fit l lawful in omega (arith, fit)

-- ---- `try`

module _ (terms : Terms) (left written left' written' : Option (List ℕ)) (bytes : List ℕ) (from : left ≡ Some bytes) (line : List ℕ) (l : Language) (first : (first_line_of 4194304 bytes).got ≡ Ok line) (read : IsVocabulary line l)
    (enough : IsEnough l terms [] (first_line_of 4194304 bytes).rest) where
  reads_end : (end : Ending) → (IsBrokenOff end → ⊥) → ReadsVocabulary left (λ lang events rest. Tries line_turn lang terms [] events rest written left' written' end) → OwnEnd end
  reads_end end calm reads =
      let rest : reads.rest ≡ Some (first_line_of 4194304 bytes).rest = gives_rest (first_line_of 4194304) left reads.rest (fine reads.line) bytes reads.gives from in
      let same : reads.line ≡ line = same_fine reads.line line (sym (gives_got (first_line_of 4194304) left reads.rest (fine reads.line) bytes reads.gives from) ∙ first) in
      let lawful = reads.vocabulary.built.lawful in
      lines_end reads.lang terms [] reads.events reads.rest written left' written' end (first_line_of 4194304 bytes).rest lawful (none_placed reads.lang terms.plan) rest (no_events_room reads.lang lawful)
      (transport (λ i. IsEnough (one_language line l reads.lang read (transport (λ j. IsVocabulary (same j) reads.lang) reads.vocabulary) i) terms [] (first_line_of 4194304 bytes).rest) enough) calm reads.did

  try_completes : (end : Ending) → (IsBrokenOff end → ⊥) → Acquires terms left written left' written' end → OwnEnd end
  try_completes (ending.VocRefused fault) calm ((got, gives, refused), adds) =
      let told : refusal_of_vocabulary line ≡ Some fault = subst (IsRefusal fault) (sym (gives_got (first_line_of 4194304) left left' got bytes gives from) ∙ first) refused in
      absurd (let none = not_refused line l read in let no : ⊥ = cc in no)
  try_completes ending.ReadFault calm done = absurd (calm (inl refl))
  try_completes ending.WriteFault calm done = absurd (calm (inr (inl refl)))
  try_completes ending.Memory calm done = absurd (calm (inr (inr (inr refl))))
  try_completes (ending.Converged m) calm done = inl (m, refl)
  try_completes (ending.Collapsed m) calm done = inr (m, refl)
  try_completes ending.DiskFault calm done = absurd done
  try_completes end calm done = reads_end end calm done

-- ---- the commands over a journal

none_stale : (t : List Answer) → t ≡ [] → 1 ≤ length t → ⊥
none_stale t none some = let few : length t ≡ 0 = ap length none in omega (arith, few, some)

abbrev networked : List Candidate → Result (List Candidate) NetFault
networked target = Ok target

-- with a target and a budget that is enough
target_end : (l : Language) (terms : Terms) (start later : List Event) (left rest written left' written' : Option (List ℕ)) (end : Ending) (bytes : List ℕ) (target own : List Candidate) → IsLanguage l → HavePlaces l terms.plan start → left ≡ Some bytes →
    HasRecordsLeft l start → network_of l bytes ≡ Ok own → IsAffordable (net_turn own false) l terms start [] → ReadsTarget l left rest target → ((m : ℕ) → end ≡ ending.Collapsed m → ⊥) → (IsBrokenOff end → ⊥) →
    Tries (net_turn target false) l terms start later rest written left' written' end → (m : ℕ) × (end ≡ ending.Converged m)
target_end l terms start later left rest written left' written' end bytes target own lawful places from room is affordable reads agreed calm tries =
    let got = gives_got (all_of 4194304) left rest (fine reads.bytes) bytes reads.gives from in
    let nothing : rest ≡ Some [] = target_left l left rest target bytes reads from in
    let both : networked own ≡ networked target = sym is ∙ ap (network_of l) (whole_of 4194304 bytes reads.bytes got) ∙ reads.is in
    let same : own ≡ target = cc in
    ⊎_elim (λ converged. converged) (λ collapsed. absurd (agreed collapsed.0 collapsed.1))
    (own_end (net_turn target false) AsMany (network_answers target false) l lawful terms (most_answers l) start later rest written left' written' end calm [] nothing (places_reached l terms.plan start places) (omega arith) tt room (transport (λ i. IsAffordable (net_turn (same i) false) l terms start []) affordable) tries)

-- ---- the commands

module _ {D : Type 0} (disk : DiskOf D) (once : ReadOnce) (left written left' written' : Option (List ℕ)) (old new : D) (end : Ending) (calm : IsBrokenOff end → ⊥) where
  run_completes : (budget : ℕ) → RunsOn disk budget left written left' written' old new (okay end) → Completes (command.Run budget) left (disk.content old) end
  run_completes budget (inl (said, over, has)) = λ bytes from file told o held room enough.
      absurd (closed_none once written written' end calm file o over.says.0 said (subst (OpensAs file) over.says.1 (over.opens file told)) held over.says.2 has)
  run_completes budget (inr on) = λ bytes from file told o held room enough.
      let session = on.some.1.session in
      let Enough : Opened → Type 0 = λ x. HasRecordsLeft x.lang x.events × IsEnough x.lang (terms_with x.plan budget) x.events bytes in
      let has = subst Enough (same_session file o on.of held (on.opens file told)) (room, enough) in
      lines_end on.of.lang (terms_with on.of.plan budget) on.of.events on.later left written left' written' end bytes session.read.built.lawful session.places from has.0 has.1 calm on.tries

  -- a session without answers, and with a network, comes to a run
  played_none : (bytes file : List ℕ) → left ≡ Some bytes → (said : Result Saying Unsaid) → HasWritten said written written' (okay end) → (o : Opened) (target : List Candidate) → SaysOpened file o → standing_on o.lang o.events ≡ [] → network_of o.lang bytes ≡ Ok target →
      (opening : Result Opened SFault) → OpensAs file opening → SaysUnplayed left left' opening said → ⊥
  played_none bytes file from said has o target held fresh is (Err fault) opens says = closed_none once written written' end calm file o fault said opens held says.0 has
  played_none bytes file from said has o target held fresh is (Ok x) opens says =
      let So : Opened → Type 0 = λ y. (standing_on y.lang y.events ≡ []) × (network_of y.lang bytes ≡ Ok target) in
      let so = subst So (same_session file o x held opens) (fresh, is) in
      ⊎_elim (λ stale. none_stale (standing_on x.lang x.events) so.0 stale.0)
      (⊎_elim calm (λ untaken. let none = none_of x.lang bytes said untaken in let bad : networked target ≡ Err none.0 = sym so.1 ∙ none.1 in cc))
      (⊎_map (λ stale. stale) (λ lacks. input_end 4194304 (SaysNoNetwork x.lang) left left' written written' said end bytes from lacks.1 has) says)

  play_completes : (budget : ℕ) → PlaysOn disk budget left written left' written' old new (okay end) → Completes (command.Play budget) left (disk.content old) end
  play_completes budget (inl (said, over, has)) = λ bytes from file told o target held room fresh is affordable.
      absurd (played_none bytes file from said has o target held fresh is over.opening (over.opens file told) over.says)
  play_completes budget (inr played) = λ bytes from file told o target held room fresh is affordable.
      let on = played.on in
      let session = on.some.1.session in
      let Enough : Opened → Type 0 = λ x. HasRecordsLeft x.lang x.events × (network_of x.lang bytes ≡ Ok target) × IsAffordable (net_turn target false) x.lang (terms_with x.plan budget) x.events [] in
      let has = subst Enough (same_session file o on.of held (on.opens file told)) (room, is, affordable) in
      target_end on.of.lang (terms_with on.of.plan budget) on.of.events on.later left left' written left' written' end bytes played.target target session.read.built.lawful session.places from
      has.0 has.1 has.2 played.reads (λ m e. played.answered.no_collapse m (ap okay e)) calm on.tries

  -- a budget that is enough for a number's language leaves nothing open
  demo_completes : (number budget : ℕ) → Demos number budget written written' (okay end) → Completes (command.Demo number budget) left (disk.content old) end
  demo_completes number budget (inl none) = absurd (err_ok put.Memory end (sym none.0))
  demo_completes number budget (inr demo) = λ enough.
      let t = standing_on demo.lang demo.run.events in
      ⊎_elim (λ converged. (length t, converged.1)) (λ undecided. absurd (generated_is_settled demo.lang (terms_with Quacq budget) t demo.generated enough (subst (HasFound demo.lang (terms_with Quacq budget) t) undecided.0 demo.found))) demo.ends

  -- the others do so exactly
  pub completes : (asked : Result Command UsageFault) → Does disk asked left written left' written' old new (okay end) → IfOk asked (λ c. EndsExactly c left (disk.content old) end) → IfOk asked (λ c. Completes c left (disk.content old) end)
  completes (Ok (command.Run budget)) does exactly = run_completes budget does
  completes (Ok (command.Play budget)) does exactly = play_completes budget does
  completes (Ok (command.Try plan budget)) does exactly = λ bytes from line l first read enough. try_completes (terms_with plan budget) left written left' written' bytes from line l first read enough end calm does
  completes (Ok (command.Demo number budget)) does exactly = demo_completes number budget does
  completes (Err fault) does exactly = tt
  completes (Ok c) does exactly = exactly
