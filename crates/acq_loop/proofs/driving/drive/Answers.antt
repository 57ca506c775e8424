use Rattle.acq_loop.proofs.Prelude.{◌∷◌, [], length-append, Some, ◌≡◌, ◌∙◌, ◌+◌, length, ap, sym, subst, arith, refl, Answer, List, MaySayNext, Event, Language, IsLanguage, standing_on, network_in, Turns, closing_of, ending_of, Point, Drives, Loses, Drove, Terms, keeps_still, keeps_then, keeps_as, point_of, terms_with, no_marks_hold}
use Rattle.acq_loop.specs.declared.driving.Drove.TheVariants as drove
use Rattle.acq_loop.proofs.Added.{added_none, added_then, ends_more}
use Rattle.acq_loop.proofs.Entries.{none_some}
use Rattle.acq_loop.proofs.Owners.{owned}
use Rattle.acq_loop.proofs.Serving.{faults_as, faults_still, faults_then, serves_still, serves_then}
use Rattle.acq_loop.proofs.Walked.{leaves_nothing}
use Rattle.acq_loop.proofs.Turning.{steps_on, steps_end, steps_loses, steps_none}
use Rattle.acq_loop.proofs.driving.drive.Goals as goal

some_same : (d e : Drove) → Some d ≡ Some e → d ≡ e
some_same d e is = cc

pub loop-turn-init : goal.loop-turn-init
loop-turn-init g c =
    let D = g.D.Disk in let P = g.P.Keep in
    let keep = c.args.keep.now in
    let start = c.requires.start in
    let left = g.S.Source.left c.args.source.now in
    record {
      ready = record {
        settled = start.settled;
        equipped = start.equipped;
        made = start.made;
        hold = λ state at. no_marks_hold (P.lang keep) (network_in state) c.args.budget c.args.screen.now start.unmarked;
        affordable = start.affordable;
      };
      same = record { lang = refl; plan = refl; sound = c.requires.keeper.sound };
      steps = steps_none (g.T.Teacher.turn c.args.teacher.now) (P.lang keep) (terms_with (P.plan keep) c.args.budget) (point_of (P.record_of keep) left (g.K.Sink.written c.args.sink.now));
      faults = faults_still left _ _ _ ⊥ ⊥ (λ is. is) (λ is. is);
      serves = serves_still c.args.teacher.now c.args.source.now c.args.places.now start.equipped;
      added = added_none (P.lang keep) (P.plan keep) (g.T.Teacher.may_say c.args.teacher.now (P.lang keep)) (P.record_of keep) (P.record_of keep) refl;
      keeps =
          keeps_still D g.met.D.Disk.counts_now g.met.D.Disk.only_now P ⊥ (λ e. ⊥) keep keep c.args.disk.now (λ e. e) refl refl refl refl refl refl c.requires.keeper.live c.requires.keeper.sits
          (λ w. g.met.P.Keep.lasts keep c.args.disk.now w c.requires.keeper.live c.requires.keeper.sits);
      more = omega arith;
    }

pub returns-in-Some : goal.returns-in-Some
returns-in-Some g c =
    let D = g.D.Disk in let P = g.P.Keep in let T = g.T.Teacher in
    let one = c.args.keep.now in let two = c.loop-turn.keep in let three = c.take_turn.new.keep in
    let l : Language = P.lang one in
    let terms : Terms = terms_with (P.plan one) c.args.budget in
    let turns : Turns = T.turn c.args.teacher.now in
    let a : Point = point_of (P.record_of one) (g.S.Source.left c.args.source.now) (g.K.Sink.written c.args.sink.now) in
    let b : Point = point_of (P.record_of two) (g.S.Source.left c.loop-turn.source) (g.K.Sink.written c.loop-turn.sink) in
    let d : Point = point_of (P.record_of three) (g.S.Source.left c.take_turn.new.source) (g.K.Sink.written c.take_turn.new.sink) in
    let how : Drove = c.in-Some.drove in
    let before = c.loop-turn.invariant in
    let turn = c.take_turn.ensures in
    let ended = c.in-Some.ensures in
    let t : List Answer = standing_on l (P.record_of three) in
    let Failed : Type 0 = how ≡ drove.DiskFault in
    let Was : Event → Type 0 = Loses (T.turn c.loop-turn.teacher) (P.lang two) (terms_with (P.plan two) c.args.budget) b d in
    let Lost : Event → Type 0 = Loses turns l terms a d in
    let drives : Drives turns l terms a d how = steps_end turns l terms a b d how before.steps (rw (before.serves.teaches.turn, before.same.lang, before.same.plan) at ended.ends.ends) in
    record {
      ends = record { ends = drives; tells = rw (before.same.lang, before.same.plan) at ended.ends.tells };
      owner = λ owner lawful agreeing. owned l terms (standing_on l (P.record_of three)) (closing_of how) owner drives.says.found lawful agreeing;
      walked = leaves_nothing l (P.plan one) (standing_on l (P.record_of three)) (subst IsLanguage (c.lang.ensures.is ∙ c.session.ensures.lang) c.lang.ensures.lawful);
      same = record { lang = turn.same.lang ∙ before.same.lang; plan = turn.same.plan ∙ before.same.plan; sound = turn.same.sound };
      taught = record {
        added = added_then l (P.plan one) _ _ _ _ _ (before.serves.teaches.no_more l) before.added (rw (before.same.lang, before.same.plan) at turn.taught.added);
        said = ends_more (MaySayNext l terms t (T.may_say c.args.teacher.now l)) (MaySayNext l terms t (T.may_say c.loop-turn.teacher l)) (λ q told may. (may.0, before.serves.teaches.no_more l q told may.1)) (ending_of how)
            (rw (before.same.lang, before.same.plan, c.in-Some.is) at turn.taught.said);
      };
      keeps =
          keeps_then D g.met.D.Disk.counts_now g.met.D.Disk.only_now P Failed Was Lost one two three c.args.disk.now c.loop-turn.disk c.take_turn.new.disk before.same.plan
          (λ e lost. steps_loses turns l terms a b d e before.steps (rw (before.serves.teaches.turn, before.same.lang, before.same.plan) at lost)) before.keeps
          (keeps_as D g.met.D.Disk.counts_now g.met.D.Disk.only_now P (Some how ≡ Some drove.DiskFault) Failed Was Was two three c.loop-turn.disk c.take_turn.new.disk
          (λ e. ap (λ (x : Drove). Some x) e) (some_same how drove.DiskFault) (λ failed e lost. lost) ended.keeps);
      faults = faults_then before.faults (faults_as _ _ (λ is. some_same how drove.ReadFault (sym c.in-Some.is ∙ is)) (λ is. c.in-Some.is ∙ ap (λ (x : Drove). Some x) is) (λ is. c.in-Some.is ∙ ap (λ (x : Drove). Some x) is) turn.faults);
      serves = serves_then before.serves (rw before.same.lang at turn.serves);
    }

pub loop-turn-preserved : goal.loop-turn-preserved
loop-turn-preserved g c =
    let D = g.D.Disk in let P = g.P.Keep in let T = g.T.Teacher in
    let one = c.args.keep.now in let two = c.loop-turn.keep in let three = c.take_turn.new.keep in
    let l : Language = P.lang one in
    let terms : Terms = terms_with (P.plan one) c.args.budget in
    let turns : Turns = T.turn c.args.teacher.now in
    let a : Point = point_of (P.record_of one) (g.S.Source.left c.args.source.now) (g.K.Sink.written c.args.sink.now) in
    let b : Point = point_of (P.record_of two) (g.S.Source.left c.loop-turn.source) (g.K.Sink.written c.loop-turn.sink) in
    let d : Point = point_of (P.record_of three) (g.S.Source.left c.take_turn.new.source) (g.K.Sink.written c.take_turn.new.sink) in
    let before = c.loop-turn.invariant in
    let turn = c.take_turn.ensures in
    let again = turn.again c.in_default.is in
    let Failed : Type 0 = c.take_turn.result ≡ Some drove.DiskFault in
    let grown : length (P.record_of three) ≡ length (P.record_of two) + 1 = ap length again.one_more.is ∙ length-append (P.record_of two) (again.one_more.more ∷ []) in
    record {
      ready = rw (turn.same.lang, turn.same.plan) (turn.ready c.in_default.is);
      same = record { lang = turn.same.lang ∙ before.same.lang; plan = turn.same.plan ∙ before.same.plan; sound = turn.same.sound };
      steps = steps_on turns l terms a b d before.steps (rw (before.serves.teaches.turn, before.same.lang, before.same.plan) at again.steps);
      faults = faults_then before.faults (faults_as ⊥ ⊥ (λ is. none_some drove.ReadFault (sym c.in_default.is ∙ is)) (λ never. absurd never) (λ never. absurd never) turn.faults);
      serves = serves_then before.serves (rw before.same.lang at turn.serves);
      added = added_then l (P.plan one) _ _ _ _ _ (before.serves.teaches.no_more l) before.added (rw (before.same.lang, before.same.plan) at turn.taught.added);
      keeps =
          keeps_then D g.met.D.Disk.counts_now g.met.D.Disk.only_now P ⊥ (λ e. ⊥) (λ e. ⊥) one two three c.args.disk.now c.loop-turn.disk c.take_turn.new.disk before.same.plan (λ e lost. lost) before.keeps
          (keeps_as D g.met.D.Disk.counts_now g.met.D.Disk.only_now P Failed ⊥ _ (λ e. ⊥) two three c.loop-turn.disk c.take_turn.new.disk (λ e. absurd e) (λ e. none_some drove.DiskFault (sym c.in_default.is ∙ e)) (λ bad e lost. bad) turn.keeps);
      more = omega (arith, grown, before.more);
    }

pub take_turn-requires-clause-keeper : goal.take_turn-requires-clause-keeper
take_turn-requires-clause-keeper g c lives within = record {
  sound = c.loop-turn.invariant.same.sound;
  live = c.loop-turn.invariant.keeps.is_live (λ e. e);
  sits = c.loop-turn.invariant.keeps.belongs;
}

pub take_turn-requires-clause-fits : goal.take_turn-requires-clause-fits
take_turn-requires-clause-fits g c lives within = let before = c.loop-turn.invariant in rw before.same.lang (before.serves.teaches.fits (g.P.Keep.lang c.args.keep.now) c.requires.fits)

pub unreachable-requires : goal.unreachable-requires
unreachable-requires g c =
    let few = g.met.P.Keep.few c.loop-turn.keep c.loop-turn.invariant.same.sound in
    omega (arith, few, c.loop-turn.invariant.more, c.loop-turn-test.false)
