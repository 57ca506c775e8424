use Rattle.acq_said.proofs.Prelude.{◌≡◌, refl, sym, ap, subst, ℕ, List, Option, Some, Result, Ok, Err, IfOk, Answer, knowledge_of, Session, HasEnded, SaysEnd, terms_with, closing_of, ending_of, Closing, Collapsed, Converged, JournalFull, LineTooLong, Suspended, Undecided, Unreadable, IsSaid, MatchOption, or_silent, silent_end, Saying, saying, closing_text, ending_line, Drove, Ending, Unsaid}
use Rattle.acq_loop.specs.declared.ending.Ending.TheVariants as ending
use Rattle.acq_said.specs.declared.said.Unsaid.TheVariants as unsaid
use Rattle.acq_said.proofs.Sayings.{converged_so, undecided_so}
use Rattle.acq_said.proofs.Spoken.{said_as, silent}
use Rattle.acq_said.proofs.endings.closing.Goals as goal

module _ (session : Session) (budget : ℕ) (t : List Answer) (how at : Drove) (is : how ≡ at) (said : Result Saying Unsaid) where
  abbrev Ended : Drove → Type 0
  Ended = HasEnded (knowledge_of session).lang (terms_with (knowledge_of session).plan budget) t

  abbrev So : Drove → Type 0
  So d = SaysEnd (knowledge_of session).lang (terms_with (knowledge_of session).plan budget) t d said

  -- it ended so, and this was said
  ended_so : So at → So how
  ended_so = subst So (sym is)

  -- its last lines were
  line_said : {E : Type 0} (r : Result Saying E) (closing : Closing) (end : Ending) (text : List ℕ) → closing_of at ≡ Some closing → ending_of at ≡ Ok end → Ended how → said ≡ or_silent r →
      (Ended at → text ≡ closing_text (knowledge_of session).lang (terms_with (knowledge_of session).plan budget) t closing) → IfOk r (λ s. s ≡ saying text end) → So how
  line_said r closing end text closes ends ended made same holds =
      let whole : List ℕ = closing_text (knowledge_of session).lang (terms_with (knowledge_of session).plan budget) t closing in
      let line = said_as r said (saying text end) (saying whole end) made (ap (λ (x : List ℕ). saying x end) (same (subst Ended is ended))) holds in
      let By : Option Closing → Type 0 = λ o. MatchOption o ((why : Unsaid) × (said ≡ Err why) × (ending_of at ≡ silent_end why)) (λ x. (e : Ending) × (ending_of at ≡ Ok e) × IsSaid (saying (closing_text (knowledge_of session).lang (terms_with (knowledge_of session).plan budget) t x) e) said) in
      ended_so (subst By (sym closes) (end, ends, line))

pub returns-in-Converged : goal.returns-in-Converged
returns-in-Converged c budget t stands ended tells =
    line_said c.args.session.now budget t c.args.drove _ c.in-Converged.is c.or_silent.result c.converged.result Converged (ending.Converged c.in-Converged.m) _ refl refl ended c.or_silent.ensures.is (converged_so c.args.session.now budget t stands c.in-Converged.m) c.converged.ensures

pub returns-in-Collapsed : goal.returns-in-Collapsed
returns-in-Collapsed c budget t stands ended tells =
    line_said c.args.session.now budget t c.args.drove _ c.in-Collapsed.is c.or_silent-in-Collapsed.result c.collapsed.result Collapsed (ending.Collapsed c.in-Collapsed.m) _ refl refl ended c.or_silent-in-Collapsed.ensures.is (λ done. ap (ending_line Collapsed) done.number) c.collapsed.ensures

pub returns-in-Undecided : goal.returns-in-Undecided
returns-in-Undecided c budget t stands ended tells =
    line_said c.args.session.now budget t c.args.drove _ c.in-Undecided.is c.or_silent-in-Undecided.result c.undecided.result Undecided (ending.Undecided c.in-Undecided.m) _ refl refl ended c.or_silent-in-Undecided.ensures.is
    (λ done. undecided_so c.args.session.now budget t stands c.args.screen.now c.in-Undecided.m done (tells c.in-Undecided.m c.in-Undecided.is)) c.undecided.ensures

pub returns-in-Suspended : goal.returns-in-Suspended
returns-in-Suspended c budget t stands ended tells =
    line_said c.args.session.now budget t c.args.drove _ c.in-Suspended.is c.or_silent-in-Suspended.result c.suspended.result Suspended (ending.Suspended c.in-Suspended.m) _ refl refl ended c.or_silent-in-Suspended.ensures.is (λ done. ap (ending_line Suspended) done.number) c.suspended.ensures

pub returns-in-LineTooLong : goal.returns-in-LineTooLong
returns-in-LineTooLong c budget t stands ended tells =
    line_said c.args.session.now budget t c.args.drove _ c.in-LineTooLong.is c.or_silent-in-LineTooLong.result c.fixed.result LineTooLong ending.LineTooLong _ refl refl ended c.or_silent-in-LineTooLong.ensures.is (λ done. refl) c.fixed.ensures

pub returns-in-Unreadable : goal.returns-in-Unreadable
returns-in-Unreadable c budget t stands ended tells =
    line_said c.args.session.now budget t c.args.drove _ c.in-Unreadable.is c.or_silent-in-Unreadable.result c.fixed-in-Unreadable.result Unreadable ending.Unreadable _ refl refl ended c.or_silent-in-Unreadable.ensures.is (λ done. refl) c.fixed-in-Unreadable.ensures

pub returns-in-JournalFull : goal.returns-in-JournalFull
returns-in-JournalFull c budget t stands ended tells =
    line_said c.args.session.now budget t c.args.drove _ c.in-JournalFull.is c.or_silent-in-JournalFull.result c.fixed-in-JournalFull.result JournalFull ending.JournalFull _ refl refl ended c.or_silent-in-JournalFull.ensures.is (λ done. refl) c.fixed-in-JournalFull.ensures

pub returns-in-ReadFault : goal.returns-in-ReadFault
returns-in-ReadFault c budget t stands ended tells = ended_so c.args.session.now budget t c.args.drove _ c.in-ReadFault.is (silent unsaid.ReadFault) (unsaid.ReadFault, refl, refl)

pub returns-in-DiskFault : goal.returns-in-DiskFault
returns-in-DiskFault c budget t stands ended tells = ended_so c.args.session.now budget t c.args.drove _ c.in-DiskFault.is (silent unsaid.DiskFault) (unsaid.DiskFault, refl, refl)

pub returns-in-Memory : goal.returns-in-Memory
returns-in-Memory c budget t stands ended tells = ended_so c.args.session.now budget t c.args.drove _ c.in-Memory.is (silent unsaid.Memory) (unsaid.Memory, refl, refl)
