use Rattle.acq_cli.proofs.Prelude.{Answer, IsLanguage, Language, List, Ok, Terms, arith, at_turn, begun_part, called_as, ending_of, inl, inr, keeps_as, keeps_still, knowledge_of, okay, refl, rose_later, rules, said_of, standing_on, subst, sym, terms_with, transport, ℕ, ⊎_elim, ◌∙◌, ◌≡◌, ◌≤◌, ◌⊎◌}
use Rattle.acq_io.specs.Streams.{Rose}
use Rattle.query_gen.specs.Marks.{AreMarksFor}
use Rattle.acq_loop.specs.declared.driving.Drove.{Drove}
use Rattle.acq_loop.specs.declared.driving.Drove.TheVariants as drove
use Rattle.acq_loop.specs.declared.ending.Ending.TheVariants as ending
use Rattle.acq_loop.proofs.Added.{ends_more, taught_none}
use Rattle.acq_loop.specs.Added.{MaySayNext}
use Rattle.acq_loop.proofs.Taking.{takes_same}
use Rattle.acq_cli.proofs.Causes.{called_idle}
use Rattle.acq_cli.proofs.top.ask_on.Goals as goal

-- whether the output failed in the loop
write_failed : (how : Drove) → (how ≡ drove.WriteFault) ⊎ (how ≡ drove.WriteFault → ⊥)
write_failed drove.WriteFault = inl refl
write_failed how = inr (λ e. cc)

rose_still : (a b c : ℕ) → Rose a b → b ≤ c → Rose a c
rose_still a b c rose le = omega arith

pub returns : goal.returns
returns g c =
    let P = g.P.Keep in
    let old = c.args.keep.now in
    let new = c.drive-drove.new.keep in
    let there = c.session-session.ensures in
    let drives = c.drive-drove.ensures in
    let l : Language = P.lang old in
    let terms : Terms = terms_with (P.plan old) c.args.budget in
    let t : List Answer = standing_on l (P.record_of new) in
    let on = said_of P (g.T.Teacher.turn c.args.teacher.now) old new c.args.budget (g.S.Source.left c.args.input.now) (g.K.Sink.written c.args.out.now) (g.S.Source.left c.drive-drove.new.source) (g.K.Sink.written c.drive-drove.new.sink)
    (g.K.Sink.written c.say.new.out) c.session-session.result.now c.drive-drove.new.screen c.drive-drove.result c.say.result (g.T.Teacher.may_say c.args.teacher.now (P.lang old)) drives.same there.stands there.lang there.plan drives.walked drives.ends
    (c.say.ensures.says c.args.budget) (c.say.ensures.part c.args.budget) in
    record {
      asked = on.asked;
      faults = record {
        read = record {
          takes = drives.faults.read.takes;
          called = called_as _ _ _ _ (c.drive-drove.result ≡ drove.ReadFault) (c.say.result ≡ okay ending.ReadFault) on.read_told on.read_of drives.faults.read.called;
        };
        write = record {
          later = omega (arith, drives.faults.write.later, c.say.ensures.later_sink);
          rose = λ failed.
              ⊎_elim (λ is. rose_still _ _ _ (drives.faults.write.rose is) c.say.ensures.later_sink) (λ other. rose_later _ _ _ drives.faults.write.later (c.say.ensures.failed failed other)) (write_failed c.drive-drove.result);
        };
      };
      no_fault = on.no_fault;
      taught = record { added = drives.taught.added; said = on.may_end (ends_more (g.T.Teacher.may_say c.args.teacher.now l) (MaySayNext l terms t (g.T.Teacher.may_say c.args.teacher.now l)) (λ q told may. may.1) (ending_of c.drive-drove.result) drives.taught.said) };
      unread = search rules;
      keeps = keeps_as g.D.Disk g.met.D.Disk.counts_now g.met.D.Disk.only_now P (c.drive-drove.result ≡ drove.DiskFault) (c.say.result ≡ Ok ending.DiskFault) _ _ old new c.args.disk.now c.drive-drove.new.disk on.disk_of on.disk_told on.loses drives.keeps;
      same = search rules;
      lawful = subst IsLanguage (c.lang-lang.ensures.is ∙ c.session-start.ensures.lang) c.lang-lang.ensures.lawful;
    }

pub returns-in_default : goal.returns-in_default
returns-in_default g c =
    let D = g.D.Disk in
    let P = g.P.Keep in
    let l = P.lang c.args.keep.now in
    let plan = P.plan c.args.keep.now in
    let may = g.T.Teacher.may_say c.args.teacher.now l in
    let t = standing_on l (P.record_of c.args.keep.now) in
    let s = c.session-start.result.now in
    let at = at_turn s l c.lang-lang.result.now plan t (knowledge_of s).answers c.session-start.ensures.stands c.session-start.ensures.lang c.session-start.ensures.plan refl c.lang-lang.ensures.is c.lang-lang.ensures.lawful in
    record {
      asked = record {
        tries = tt;
        part = begun_part (g.T.Teacher.turn c.args.teacher.now) l (terms_with plan c.args.budget) (P.record_of c.args.keep.now) (g.S.Source.left c.args.input.now) (g.K.Sink.written c.args.out.now) at.lawful
            (record { reached = at.reached; few = g.met.P.Keep.few c.args.keep.now c.requires.keeper.sound });
      };
      faults = record {
        read = record { takes = takes_same (g.S.Source.left c.args.input.now); called = called_idle _ _ _ tt };
        write = record { later = omega arith; rose = λ failed. absurd (let no : ⊥ = cc in no) };
      };
      no_fault = tt;
      taught = taught_none l plan may (P.record_of c.args.keep.now) (P.record_of c.args.keep.now) refl tt;
      unread = λ still. refl;
      keeps = keeps_still D g.met.D.Disk.counts_now g.met.D.Disk.only_now P _ _ c.args.keep.now c.args.keep.now c.args.disk.now (λ is. cc) refl refl refl refl refl refl c.requires.keeper.live c.requires.keeper.sits
          (λ w bytes told f left. g.met.P.Keep.lasts c.args.keep.now c.args.disk.now w c.requires.keeper.live c.requires.keeper.sits bytes told f left);
      same = search rules;
      lawful = at.lawful;
    }

pub returns-in_default-new : goal.returns-in_default-new
returns-in_default-new g c =
    let D = g.D.Disk in
    let P = g.P.Keep in
    let l = P.lang c.args.keep.now in
    let plan = P.plan c.args.keep.now in
    let may = g.T.Teacher.may_say c.args.teacher.now l in
    let t = standing_on l (P.record_of c.args.keep.now) in
    let s = c.session-start.result.now in
    let at = at_turn s l c.lang-lang.result.now plan t (knowledge_of s).answers c.session-start.ensures.stands c.session-start.ensures.lang c.session-start.ensures.plan refl c.lang-lang.ensures.is c.lang-lang.ensures.lawful in
    record {
      asked = record {
        tries = tt;
        part = begun_part (g.T.Teacher.turn c.args.teacher.now) l (terms_with plan c.args.budget) (P.record_of c.args.keep.now) (g.S.Source.left c.args.input.now) (g.K.Sink.written c.args.out.now) at.lawful
            (record { reached = at.reached; few = g.met.P.Keep.few c.args.keep.now c.requires.keeper.sound });
      };
      faults = record {
        read = record { takes = takes_same (g.S.Source.left c.args.input.now); called = called_idle _ _ _ tt };
        write = record { later = omega arith; rose = λ failed. absurd (let no : ⊥ = cc in no) };
      };
      no_fault = tt;
      taught = taught_none l plan may (P.record_of c.args.keep.now) (P.record_of c.args.keep.now) refl tt;
      unread = λ still. refl;
      keeps = keeps_still D g.met.D.Disk.counts_now g.met.D.Disk.only_now P _ _ c.args.keep.now c.args.keep.now c.args.disk.now (λ is. cc) refl refl refl refl refl refl c.requires.keeper.live c.requires.keeper.sits
          (λ w bytes told f left. g.met.P.Keep.lasts c.args.keep.now c.args.disk.now w c.requires.keeper.live c.requires.keeper.sits bytes told f left);
      same = search rules;
      lawful = at.lawful;
    }

pub say-requires : goal.say-requires
say-requires g c =
    let P = g.P.Keep in
    record { made = transport (λ i. AreMarksFor (sym (c.session-session.ensures.lang ∙ c.drive-drove.ensures.same.lang) i) c.drive-drove.new.screen) c.drive-drove.ensures.ends.tells.made }
