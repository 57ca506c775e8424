-- What stays of source, sink, teacher and keeper where a turn kept nothing, and after one turn and more.
use Rattle.acq_loop.proofs.Prelude.{◌≤◌, ◌∙◌, ℕ, Bool, List, Option, IsTrue, ForSome, refl, arith, Assignment, Event, DiskOf, KeepOf, Keeps, IsKeeping, OnlyPuts, IsTurn, between_turns, Language, Terms, Turns, Told, AreMadeFor, called_as, called_not, called_on, keeps_still, loses_nothing, rose_later, takes_some_on}
use Rattle.query_gen.specs.declared.place.Place.{Place}
use Rattle.session_store.specs.Left.{OpensWith}
use Rattle.acq_loop.specs.Loop.{HasReadAndWritten}
use Rattle.acq_loop.specs.Turn.{ServesOn}
use Rattle.acq_loop.proofs.Taking.{takes_same}
use Rattle.acq_loop.proofs.Turning.{says_nothing}

-- ---- source and sink

pub faults_still : (left : Option (List ℕ)) (input late output : ℕ) (read write : Type 0) → (read → ⊥) → (write → ⊥) → HasReadAndWritten left left input input late late output output read write
faults_still left input late output read write calm well = record {
  read = record { takes = takes_same left; called = called_not _ _ _ calm };
  write = record { later = omega arith; rose = λ is. absurd (well is) };
}

module _ {left left' : Option (List ℕ)} {input input' late late' output output' : ℕ} {read write : Type 0} where
  -- by other words for the faults
  pub faults_as : (said wrote : Type 0) → (read → said) → (said → read) → (wrote → write) → HasReadAndWritten left left' input input' late late' output output' read write → HasReadAndWritten left left' input input' late late' output output' said wrote
  faults_as said wrote to fro back faults = record {
    read = record { takes = faults.read.takes; called = called_as _ _ _ _ _ _ to fro faults.read.called };
    write = record { later = faults.write.later; rose = λ is. faults.write.rose (back is) };
  }

  -- after calls of which none failed
  pub faults_then : {first : Option (List ℕ)} {i l o : ℕ} → HasReadAndWritten first left i input l late o output ⊥ ⊥ → HasReadAndWritten left left' input input' late late' output output' read write → HasReadAndWritten first left' i input' l late' o output' read write
  faults_then before faults = record {
    read = record { takes = takes_some_on _ _ _ before.read.takes faults.read.takes; called = called_on _ _ _ _ _ _ _ before.read.called faults.read.called };
    write = record { later = omega (arith, faults.write.later, before.write.later); rose = λ is. rose_later _ _ _ before.write.later (faults.write.rose is) };
  }

-- ---- a teacher

module _ {S T : Type 0} {turns_of : T → Turns} {fits_of : T → Language → Type 0} {may_of : T → Language → Assignment → Told → Type 0} {reads_of : T → Bool} {l : Language} where
  pub serves_still : (t : T) (s : S) (places : List Place) → AreMadeFor l places → ServesOn turns_of fits_of may_of reads_of l t t s s places
  serves_still t s places made = record {
    teaches = record { turn = refl; fits = λ m fits. fits; fitted = λ m fits. fits; no_more = λ m q told may. may; reads = refl };
    unread = λ no. refl;
    equipped = made;
  }

  pub serves_then : {a b c : T} {x y z : S} {here there : List Place} → ServesOn turns_of fits_of may_of reads_of l a b x y here → ServesOn turns_of fits_of may_of reads_of l b c y z there → ServesOn turns_of fits_of may_of reads_of l a c x z there
  serves_then one two = record {
    teaches = record {
      turn = two.teaches.turn ∙ one.teaches.turn;
      fits = λ m fits. two.teaches.fits m (one.teaches.fits m fits);
      fitted = λ m fits. one.teaches.fitted m (two.teaches.fitted m fits);
      no_more = λ m q told may. one.teaches.no_more m q told (two.teaches.no_more m q told may);
      reads = two.teaches.reads ∙ one.teaches.reads;
    };
    unread = λ no. two.unread (one.teaches.reads ∙ no) ∙ one.unread no;
    equipped = two.equipped;
  }

-- ---- a keeper of which nothing has changed but the question that is put

module _ {K D : Type 0} (keep : KeepOf K D) (disk : DiskOf D)
    (counts_now : (d : D) (t : ℕ) (c : List ℕ) → t ≤ disk.moment d → disk.may_leave d c → disk.left_since d t c) (only_now : (d : D) (c : List ℕ) → disk.left_since d (disk.moment d) c → disk.may_leave d c)
    (lasts : (k : K) (d : D) → IsTrue (keep.writes k) → IsTrue (keep.live k) → keep.sits k d → ForSome (disk.content d) (λ _. (c : List ℕ) → disk.may_leave d c → OpensWith (keep.plan k) (keep.voc k) (keep.record_of k) c))
    (old new : K) (d : D) (only : OnlyPuts keep old new) (keeper : IsKeeping keep old d) where
  pub only_keeps : (has_failed : Type 0) (is_lost : Event → Type 0) → (has_failed → ⊥) → Keeps keep disk has_failed is_lost old new d d
  only_keeps has_failed is_lost calm =
      keeps_still disk counts_now only_now keep has_failed is_lost old new d calm only.plan only.voc only.events only.writes only.raised only.live keeper.live (only.sits d keeper.sits) (λ w. lasts old d w keeper.live keeper.sits)

  pub only_turn : (turns : Turns) (l : Language) (terms : Terms) (left written : Option (List ℕ)) → IsTurn keep disk turns l terms (between_turns old d left written) (between_turns new d left written)
  only_turn turns l terms left written = record {
    acknowledged = loses_nothing disk counts_now only_now keep old d (λ w. lasts old d w keeper.live keeper.sits);
    says_next = says_nothing turns l terms (keep.record_of old) left written;
  }
