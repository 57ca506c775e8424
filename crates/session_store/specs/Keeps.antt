-- What the calls of a keeper, one after another, have done to it and to its disk.
use Rattle.std.specs.Prelude.{◌≡◌, ◌≤◌, IsTrue, IsFalse, IsSome}
use Rattle.std.specs.Option.{ForSome}
use Rattle.assign.specs.declared.events.Event.{Event}
use Rattle.disk_model.specs.Disk.{Rose}
use Rattle.disk_model.specs.Moments.{LeavesOnly}
use Rattle.disk_model.specs.declared.disk.Disk.{Ghosts as DiskOf}
use Rattle.session_store.specs.Left.{HoldsAtLeast}
use Rattle.session_store.specs.Keeping.{AreEventCalls, IsGrown, Persists, FailsWith}
use Rattle.session_store.specs.declared.keep.Keep.{Ghosts as KeepOf}

-- What calls of a keeper have done, of which the last may have met a fault of the disk. This is
-- then known of its event.
pub record Keeps {K D : Type 0} (keep : KeepOf K D) (disk : DiskOf D) (has_failed : Type 0)
    (is_lost : Event → Type 0) (old new : K) (disk_old disk_new : D) : Type 0 where
  pub same_voc : keep.voc new ≡ keep.voc old
  pub same_writes : keep.writes new ≡ keep.writes old
  pub belongs : keep.sits new disk_new
  pub later : disk.faults disk_old ≤ disk.faults disk_new
  pub is_live : (has_failed → ⊥) → IsTrue (keep.live new)
  -- then it takes no more events
  pub not_live : has_failed → IsFalse (keep.live new)
  -- a disk that tells goes on telling
  pub told : ForSome (disk.content disk_old) (λ _. IsSome (disk.content disk_new))
  pub cause : has_failed →
      IsTrue (keep.writes old) × Rose (disk.faults disk_old) (disk.faults disk_new)
  pub grown : IsGrown (keep.record_of old) (keep.record_of new)
  -- no more calls of the disk than its events may take
  pub calls : (has_failed → ⊥) →
      AreEventCalls disk (keep.raised old) (keep.raised new) grown.more disk_old disk_new
  -- where nothing is written, the disk isn't touched
  pub unwritten : IsFalse (keep.writes old) → disk_new ≡ disk_old
  -- else events are added one after the other, where the disk tells
  pub persists : IsTrue (keep.writes old) →
      ForSome (disk.content disk_old) (λ _. (has_failed → ⊥) → Persists disk (keep.plan old)
      (keep.voc old) (keep.record_of old) (keep.record_of new) disk_old disk_new)
  pub fails : has_failed →
      FailsWith disk (keep.raised old) grown.more (keep.plan old) (keep.voc old)
      (keep.record_of old) (keep.record_of new) (keep.question new) is_lost disk_old disk_new

-- nothing of a keeper has changed but the question that is put
pub record OnlyPuts {K D : Type 0} (keep : KeepOf K D) (old new : K) : Type 0 where
  pub lang : keep.lang new ≡ keep.lang old
  pub plan : keep.plan new ≡ keep.plan old
  pub voc : keep.voc new ≡ keep.voc old
  pub events : keep.record_of new ≡ keep.record_of old
  pub writes : keep.writes new ≡ keep.writes old
  pub raised : keep.raised new ≡ keep.raised old
  pub live : keep.live new ≡ keep.live old
  pub sound : keep.sound new
  pub sits : (disk : D) → keep.sits old disk → keep.sits new disk

-- its session is there, an event may be added, and it and the disk belong together
pub record IsKeeping {K D : Type 0} (keep : KeepOf K D) (now : K) (disk : D) : Type 0 where
  pub sound : keep.sound now
  pub live : IsTrue (keep.live now)
  pub sits : keep.sits now disk

-- it keeps a session of the same language and plan
pub record IsSameSession {K D : Type 0} (keep : KeepOf K D) (old new : K) : Type 0 where
  pub lang : keep.lang new ≡ keep.lang old
  pub plan : keep.plan new ≡ keep.plan old
  pub sound : keep.sound new

-- Where events are written and the disk tells: a crash at any moment since then leaves every event
-- that was there.
abbrev pub LosesNone : {K D : Type 0} → KeepOf K D → DiskOf D → K → D → D → Type 0
LosesNone keep disk old disk_old disk_new =
    IsTrue (keep.writes old) → ForSome (disk.content disk_old) (λ _. LeavesOnly disk disk_old
    disk_new (HoldsAtLeast (keep.plan old) (keep.voc old) (keep.record_of old)))
