-- What a command that only says something of a journal's session has done.
use Rattle.std.specs.Prelude.{◌≡◌, ◌⊎◌}
use Rattle.acq_said.specs.Prelude.{ℕ, List, Result, Ok, Err, IfOk, ForSome, AreReadingCalls}
use Rattle.acq_said.specs.Prelude.{IsSynced, DiskOf, LeavesOnly, LeavesNow, OpensWith, Opened}
use Rattle.acq_said.specs.Prelude.{SaysOpened, IsSession, Opens, NotOpened, SFault, Ending}
use Rattle.acq_said.specs.Prelude.{MatchResult}
use Rattle.answer_journal.specs.declared.fault.JFault.TheVariants as journal
use Rattle.session_store.specs.declared.fault.SFault.TheVariants as store
use Rattle.acq_said.specs.Journals.{refused_said}
use Rattle.acq_said.specs.Saying.{Saying}
use Rattle.acq_said.specs.declared.said.Unsaid.{Unsaid}

-- ---- What is said

-- of a session, what the command says of it; of a refusal, which one it is
abbrev pub said_of : (Opened → Saying) → Result Opened SFault → Saying
said_of says (Ok o) = says o
said_of says (Err fault) = refused_said fault

-- ---- The command

-- the meanings of a disk
module _ {D : Type 0} (disk : DiskOf D) where
  -- A session was opened, or none, which is what the journal opens with where the disk tells its
  -- bytes, and else what some bytes open with; and so it was said of this. Where something was said
  -- of a session, what is true of it then is. The disk holds what it held.
  pub record SaysOver (Says : Result Opened SFault → Result Saying Unsaid → Type 0)
      (IsTrueOf : Opened → Type 0) (old new : D) (said : Result Saying Unsaid) : Type 0 where
    pub opening : Result Opened SFault
    pub opens : ForSome (disk.content old)
        (λ bytes. MatchResult opening (SaysOpened bytes) (NotOpened bytes))
    pub some : (bytes : List ℕ) × MatchResult opening (SaysOpened bytes) (NotOpened bytes)
    pub session : IfOk opening IsSession
    pub says : Says opening said
    pub so : IfOk said (λ _. IfOk opening IsTrueOf)
    pub same : disk.content new ≡ disk.content old
    pub any_moment : LeavesOnly disk old new (disk.may_leave old)
    -- A crash leaves only what opens with this session. Where none was opened, it leaves only what
    -- a read gives, since a journal is synced before it is read; or that sync failed, and no other
    -- call was made; or memory was wanting before the first call.
    pub now : MatchResult opening
        (λ o.
        ForSome (disk.content old) (λ _. LeavesNow disk (OpensWith o.plan o.voc o.events) new))
        (λ fault. ForSome (disk.content old) (IsSynced disk
        (fault ≡ store.Journal journal.DiskFault) old new) ⊎ ((fault ≡ store.Memory) × (new ≡ old)))
    pub calls : ForSome (disk.content old) (AreReadingCalls 5 (disk.calls old) (disk.calls new))

-- ---- Exactly when

-- It ends as is said of what there is, which is nothing else.
pub record EndsAsSaid {A : Type 0} (IsThere : A → Type 0) (says : A → Saying) (end : Ending) :
    Type 0 where
  pub what : A
  pub there : IsThere what
  pub only : (other : A) → IsThere other → other ≡ what
  pub is : end ≡ (says what).ending

-- of what the file opens with
abbrev pub EndsAsOpened : (Opened → Saying) → (file : List ℕ) → Ending → Type 0
EndsAsOpened says file end = EndsAsSaid (Opens file) (said_of says) end
