use Rattle.acq_loop.proofs.Prelude.{◌≡◌, ◌∙◌, ◌+◌, ℕ, true, false, List, length, is_some, ap, sym, subst, refl, Option, Some, Assignment, Event, Language, standing_on, knowledge_of, both_as, keeps_as, keeps_then, loses_none, loses_none_as, Turns, Terms, MayEnd, MaySayNext, ending_of, Loses, EventKept, HearsReply, heard_of, event_on, is_unasked, point_of, terms_with, JournalFull, Drove, Entry}
use Rattle.acq_loop.specs.declared.driving.Drove.TheVariants as drove
use Rattle.acq_loop.specs.declared.driving.Heard.TheVariants as heard
use Rattle.acq_loop.proofs.Added.{adds, taught_kept, taught_none}
use Rattle.acq_loop.proofs.Answered.{ends, ends_closed, kept_on, loses, turned, unasked_may}
use Rattle.acq_loop.proofs.Hearing.{disk_failed, entry_gives, hold_after, kept_calm, may_keep, reply_of, word_ends, word_follows, word_may_add, word_may_end, word_not_disk, word_says_next, word_told}
use Rattle.acq_loop.proofs.Short.{MayFollow}
use Rattle.acq_loop.proofs.Running.{next_full, room_unless}
use Rattle.acq_loop.proofs.Serving.{faults_as, faults_still, only_keeps, only_turn, serves_still}
use Rattle.acq_loop.proofs.Standings.{AtQuestion, asks, run_laws}
use Rattle.acq_loop.proofs.Turning.{ran_end}
use Rattle.acq_loop.proofs.driving.take_turn.Goals as goal

-- an ending without a question is no fault
no_fault : (how fault : Drove) → is_unasked how ≡ true → is_unasked fault ≡ false → Some how ≡ Some fault → ⊥
no_fault how fault unasked asked is = let same : how ≡ fault = cc in let bad : true ≡ false = sym unasked ∙ ap is_unasked same ∙ asked in let no : ⊥ = cc in no

some_end : (a b : Drove) → heard.End a ≡ heard.End b → Some a ≡ Some b
some_end a b e = let same : a ≡ b = cc in ap (λ d. Some d) same

end_heard : (a b : Drove) → Some a ≡ Some b → heard.End a ≡ heard.End b
end_heard a b e = let same : a ≡ b = cc in ap heard.End same

-- ---- no question comes

pub returns-in-Some : goal.returns-in-Some
returns-in-Some g c =
    let D = g.D.Disk in let P = g.P.Keep in
    let one = c.args.keep.now in let two = c.put_next.new.keep in
    let only = c.put_next.ensures.keeper in
    let l : Language = P.lang one in
    let terms : Terms = terms_with (P.plan one) c.args.budget in
    let turns : Turns = g.T.Teacher.turn c.args.teacher.now in
    let may = g.T.Teacher.may_say c.args.teacher.now l in
    let left : Option (List ℕ) = g.S.Source.left c.args.source.now in
    let written : Option (List ℕ) = g.K.Sink.written c.args.sink.now in
    let how : Drove = c.in-Some.end in
    let unasked = c.in-Some.ensures.ends in
    record {
      again = λ none. absurd (let no : ⊥ = cc in no);
      ready = λ none. absurd (let no : ⊥ = cc in no);
      ends = rw only.events (unasked.ends turns left written);
      same = record { lang = only.lang; plan = only.plan; sound = only.sound };
      taught = taught_none l (P.plan one) may (P.record_of one) (P.record_of two) only.events (unasked_may (MaySayNext l terms (standing_on l (P.record_of two)) may) how unasked.unasked);
      keeps = only_keeps P D g.met.D.Disk.counts_now g.met.D.Disk.only_now g.met.P.Keep.lasts one two c.args.disk.now only c.requires.keeper _ _ (no_fault how drove.DiskFault unasked.unasked refl);
      faults = faults_still left _ _ _ _ _ (no_fault how drove.ReadFault unasked.unasked refl) (no_fault how drove.WriteFault unasked.unasked refl);
      serves = serves_still c.args.teacher.now c.args.source.now c.put_next.new.places c.put_next.ensures.places;
      turn = only_turn P D g.met.D.Disk.counts_now g.met.D.Disk.only_now g.met.P.Keep.lasts one two c.args.disk.now only c.requires.keeper turns l terms left written;
    }

-- ---- one comes, and there is no record for it

pub returns-then-is_full : goal.returns-then-is_full
returns-then-is_full g c =
    let D = g.D.Disk in let P = g.P.Keep in
    let one = c.args.keep.now in let two = c.put_next.new.keep in
    let only = c.put_next.ensures.keeper in
    let l : Language = P.lang one in
    let terms : Terms = terms_with (P.plan one) c.args.budget in
    let turns : Turns = g.T.Teacher.turn c.args.teacher.now in
    let left : Option (List ℕ) = g.S.Source.left c.args.source.now in
    let written : Option (List ℕ) = g.K.Sink.written c.args.sink.now in
    let due = c.put_next.ensures.put c.in_default.is in
    let a = point_of (P.record_of one) left written in
    let full : length (P.record_of one) + 1 ≡ 1000000 = rw only.events at (c.is_full.ensures.0 c.if-is_full.true) in
    let ran = ran_end turns l terms JournalFull a (next_full l terms (P.record_of one) due.question due.puts full) in
    record {
      again = λ none. absurd (let no : ⊥ = cc in no);
      ready = λ none. absurd (let no : ⊥ = cc in no);
      ends = rw only.events (ends_closed turns l terms a a c.put_next.new.screen c.put_next.ensures.screen drove.JournalFull JournalFull refl (record { number = tt; found = (due.question, due.puts) }) (λ m e. cc)
          ran (λ is. ((due.question, due.puts), full), λ f. refl));
      same = record { lang = only.lang; plan = only.plan; sound = only.sound };
      taught = taught_none l (P.plan one) (g.T.Teacher.may_say c.args.teacher.now l) (P.record_of one) (P.record_of two) only.events tt;
      keeps = only_keeps P D g.met.D.Disk.counts_now g.met.D.Disk.only_now g.met.P.Keep.lasts one two c.args.disk.now only c.requires.keeper _ _ (λ (e : _). cc);
      faults = faults_still left _ _ _ _ _ (λ is. cc) (λ is. cc);
      serves = serves_still c.args.teacher.now c.args.source.now c.put_next.new.places c.put_next.ensures.places;
      turn = only_turn P D g.met.D.Disk.counts_now g.met.D.Disk.only_now g.met.P.Keep.lasts one two c.args.disk.now only c.requires.keeper turns l terms left written;
    }

-- ---- it is asked

pub hear-requires : goal.hear-requires
hear-requires g c = record {
  fits = rw (c.session.ensures.lang ∙ c.put_next.ensures.keeper.lang) c.requires.fits;
  «open» = ap is_some (c.session.ensures.question ∙ (c.put_next.ensures.put c.in_default.is).is);
  stands = (_, c.session.ensures.stands);
}

pub keep_event-requires : goal.keep_event-requires
keep_event-requires g c =
    let P = g.P.Keep in
    let one = c.args.keep.now in let two = c.put_next.new.keep in
    let only = c.put_next.ensures.keeper in
    let told = c.session.ensures in
    let room = room_unless (length (P.record_of two)) c.is_full.result (g.met.P.Keep.few two only.sound) c.is_full.ensures.1 c.if-is_full.false in
    let asked = asks P one two c.args.budget c.session.result.now only told.stands told.lang told.plan told.question c.hear.ensures.lawful c.hear.ensures.fits (c.put_next.ensures.put c.in_default.is) room in
    let hears = c.in-Keep.ensures.hears asked.question asked.is_open in
    let follows = word_follows (P.lang one) (P.record_of one) hears.word (knowledge_of c.session.result.now).answers c.in-Keep.entry asked.question (sym hears.is) asked.number hears.back in
    let Followed : List Event → Type 0 = λ es. MayFollow es asked.question (event_on c.in-Keep.entry (Some asked.question)) in
    record {
      keeper = record { sound = only.sound; live = only.live ∙ c.requires.keeper.live; sits = only.sits c.args.disk.now c.requires.keeper.sits };
      room = room;
      may = may_keep (P.record_of two) asked.question (P.question two) c.in-Keep.entry asked.put (subst Followed (sym only.events) follows);
    }

pub returns-in-Keep : goal.returns-in-Keep
returns-in-Keep g c =
    let D = g.D.Disk in let P = g.P.Keep in
    let one = c.args.keep.now in let two = c.put_next.new.keep in
    let only = c.put_next.ensures.keeper in
    let told = c.session.ensures in
    let l : Language = P.lang one in
    let terms : Terms = terms_with (P.plan one) c.args.budget in
    let events : List Event = P.record_of one in
    let turns : Turns = g.T.Teacher.turn c.args.teacher.now in
    let may = g.T.Teacher.may_say c.args.teacher.now l in
    let left : Option (List ℕ) = g.S.Source.left c.args.source.now in
    let written : Option (List ℕ) = g.K.Sink.written c.args.sink.now in
    let left' : Option (List ℕ) = g.S.Source.left c.hear.new.source in
    let written' : Option (List ℕ) = g.K.Sink.written c.hear.new.sink in
    let room = room_unless (length (P.record_of two)) c.is_full.result (g.met.P.Keep.few two only.sound) c.is_full.ensures.1 c.if-is_full.false in
    let asked = asks P one two c.args.budget c.session.result.now only told.stands told.lang told.plan told.question c.hear.ensures.lawful c.hear.ensures.fits (c.put_next.ensures.put c.in_default.is) room in
    let q : Assignment = asked.question in
    let at : AtQuestion l terms events q = asked.asked in
    let three = c.keep_event.new.keep in
    let after : List Event = P.record_of three in
    let entry : Entry = c.in-Keep.entry in
    let e : Event = event_on entry (Some q) in
    let end : Option Drove = c.keep_event.result in
    let hears : HearsReply turns (g.T.Teacher.may_say c.args.teacher.now) l q (length (standing_on l events)) left written left' written' (heard.Keep entry) = rw (asked.language, asked.number) at (c.in-Keep.ensures.hears q asked.is_open) in
    let word = hears.word in
    let is : heard_of word (length (standing_on l events)) ≡ heard.Keep entry = sym hears.is in
    let Kept : Option Assignment → List Event → Type 0 = λ put es. EventKept (event_on entry put) es after end in
    let kept : EventKept e events after end = both_as Kept (P.question two) (Some q) (P.record_of two) events asked.put only.events c.keep_event.ensures.kept in
    let follows = word_follows l events word (length (standing_on l events)) entry q is refl hears.back in
    let spoken = word_told l terms events q at turns left written left' written' word _ entry is hears.tells in
    let made = c.forget.ensures.made l c.put_next.ensures.screen in
    let Was : Event → Type 0 = λ lost. lost ≡ event_on entry (P.question two) in
    let Lost : Event → Type 0 = Loses turns l terms (point_of events left written) (point_of after left' written') in
    let Failed : Type 0 = end ≡ Some drove.DiskFault in
    record {
      again = turned l terms events q at turns after (reply_of entry) e (entry_gives q entry) left written left' written' spoken end kept;
      ready = λ none. record {
        settled = rw (only.lang, only.plan) at (c.keep_event.ensures.settled none);
        equipped = c.put_next.ensures.places;
        made = made;
        hold = hold_after l terms events after q entry c.put_next.new.screen c.forget.new.screen at.reached at.fits.size (kept_on e events after end kept none) c.forget.ensures.forgets c.put_next.ensures.remembers;
        affordable = c.requires.ready.affordable;
      };
      ends = ends l terms events q at turns after (reply_of entry) e (entry_gives q entry) left written left' written' spoken end c.forget.new.screen made follows kept hears.asks;
      same = record { lang = c.keep_event.ensures.same.lang ∙ only.lang; plan = c.keep_event.ensures.same.plan ∙ only.plan; sound = c.keep_event.ensures.same.sound };
      taught = record {
        added = adds run_laws l at.lawful terms may events after q e end at.puts at.fits follows kept (word_may_add l word _ entry may q is at.fits hears.says);
        said = taught_kept (MaySayNext l terms (standing_on l after) may) e events after end kept;
      };
      keeps =
          keeps_then D g.met.D.Disk.counts_now g.met.D.Disk.only_now P Failed Lost Lost one two three c.args.disk.now c.args.disk.now c.keep_event.new.disk only.plan (λ x lost. lost)
          (only_keeps P D g.met.D.Disk.counts_now g.met.D.Disk.only_now g.met.P.Keep.lasts one two c.args.disk.now only c.requires.keeper ⊥ (λ x. ⊥) (λ x. x))
          (keeps_as D g.met.D.Disk.counts_now g.met.D.Disk.only_now P Failed Failed Was Lost two three c.args.disk.now c.keep_event.new.disk (λ so. so) (λ so. so)
          (λ failed lost was. rw (was ∙ ap (event_on entry) asked.put) (loses l terms events q at turns after (reply_of entry) e (entry_gives q entry) left written left' written' spoken end drove.DiskFault follows kept failed))
          c.keep_event.ensures.keeps);
      faults = faults_as _ _ (λ so. absurd (let no : ⊥ = cc in no)) (λ so. absurd (kept_calm e events after end drove.ReadFault kept (λ x. cc) (λ x. cc) so)) (λ so. absurd (kept_calm e events after end drove.WriteFault kept (λ x. cc) (λ x. cc) so))
          c.in-Keep.ensures.faults;
      serves = record { teaches = c.hear.ensures.teacher; unread = c.hear.ensures.unread; equipped = c.put_next.ensures.places };
      turn = record {
        acknowledged = loses_none_as D g.met.D.Disk.counts_now g.met.D.Disk.only_now P one two c.args.disk.now c.keep_event.new.disk only
            (loses_none D g.met.D.Disk.counts_now g.met.D.Disk.only_now P Failed Was two three c.args.disk.now c.keep_event.new.disk (disk_failed e events after end kept) c.keep_event.ensures.keeps);
        says_next = word_says_next l terms events q at turns left written left' written' word hears.tells;
      };
    }

pub returns-in-End : goal.returns-in-End
returns-in-End g c =
    let D = g.D.Disk in let P = g.P.Keep in
    let one = c.args.keep.now in let two = c.put_next.new.keep in
    let only = c.put_next.ensures.keeper in
    let told = c.session.ensures in
    let l : Language = P.lang one in
    let terms : Terms = terms_with (P.plan one) c.args.budget in
    let events : List Event = P.record_of one in
    let turns : Turns = g.T.Teacher.turn c.args.teacher.now in
    let may = g.T.Teacher.may_say c.args.teacher.now l in
    let left : Option (List ℕ) = g.S.Source.left c.args.source.now in
    let written : Option (List ℕ) = g.K.Sink.written c.args.sink.now in
    let left' : Option (List ℕ) = g.S.Source.left c.hear.new.source in
    let written' : Option (List ℕ) = g.K.Sink.written c.hear.new.sink in
    let room = room_unless (length (P.record_of two)) c.is_full.result (g.met.P.Keep.few two only.sound) c.is_full.ensures.1 c.if-is_full.false in
    let asked = asks P one two c.args.budget c.session.result.now only told.stands told.lang told.plan told.question c.hear.ensures.lawful c.hear.ensures.fits (c.put_next.ensures.put c.in_default.is) room in
    let q : Assignment = asked.question in
    let at : AtQuestion l terms events q = asked.asked in
    let end : Drove = c.in-End.end in
    let hears : HearsReply turns (g.T.Teacher.may_say c.args.teacher.now) l q (length (standing_on l events)) left written left' written' (heard.End end) = rw (asked.language, asked.number) at (c.in-End.ensures.hears q asked.is_open) in
    let is : heard_of hears.word (length (standing_on l events)) ≡ heard.End end = sym hears.is in
    let Said : List Event → Type 0 = λ es. MayEnd (MaySayNext l terms (standing_on l es) may) (ending_of end) in
    record {
      again = λ none. absurd (let no : ⊥ = cc in no);
      ready = λ none. absurd (let no : ⊥ = cc in no);
      ends = rw only.events (word_ends l terms events q at turns left written left' written' hears.word end c.put_next.new.screen c.put_next.ensures.screen is hears.asks hears.tells);
      same = record { lang = only.lang; plan = only.plan; sound = only.sound };
      taught = taught_none l (P.plan one) may events (P.record_of two) only.events (subst Said (sym only.events) (word_may_end hears.word _ end (MaySayNext l terms (standing_on l events) may) q is (at.puts, hears.says)));
      keeps = only_keeps P D g.met.D.Disk.counts_now g.met.D.Disk.only_now g.met.P.Keep.lasts one two c.args.disk.now only c.requires.keeper _ _ (word_not_disk hears.word _ end is);
      faults = faults_as _ _ (some_end end drove.ReadFault) (end_heard end drove.ReadFault) (end_heard end drove.WriteFault) c.in-End.ensures.faults;
      serves = record { teaches = c.hear.ensures.teacher; unread = c.hear.ensures.unread; equipped = c.put_next.ensures.places };
      turn = record {
        acknowledged = (only_turn P D g.met.D.Disk.counts_now g.met.D.Disk.only_now g.met.P.Keep.lasts one two c.args.disk.now only c.requires.keeper turns l terms left written).acknowledged;
        says_next = word_says_next l terms events q at turns left written left' written' hears.word hears.tells;
      };
    }
