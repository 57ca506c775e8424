-- Runs of calls that only read a disk, and what is left behind where others write after them.
use Rattle.answer_journal.proofs.Prelude.{◌≡◌, ◌≤◌, ◌+◌, ℕ, List, Some, is_some, Result, refl, ap, ◌∙◌, arith, AddsNothing, Elapses, IsOnDisk, IsOnlyRead, LeavesBehind, started, goes_on, joined, weaker}
use Rattle.std.specs.Prelude.{OnOk}
use Rattle.disk_model.specs.declared.disk.Disk.{Ghosts as DiskOf}

module _ {D : Type 0} (disk : DiskOf D) where
  -- before the first call
  pub unread : (d : D) → ((c : List ℕ) → disk.left_since d (disk.moment d) c → disk.may_leave d c) → IsOnlyRead disk d d
  unread d only_now = record { same = refl; nothing_new = λ c left. left; any_moment = started disk d (disk.may_leave d) only_now; later = omega arith }

  -- one call more
  pub read_more : (old mid new : D) → IsOnlyRead disk old mid → disk.content new ≡ disk.content mid → AddsNothing (disk.may_leave mid) (disk.may_leave new) → Elapses (disk.moment mid) (disk.moment new) (disk.left_since mid) (disk.left_since new) (disk.may_leave new)
      → disk.faults mid ≤ disk.faults new → IsOnlyRead disk old new
  read_more old mid new so_far same nothing_new time later = record {
    same = same ∙ so_far.same;
    nothing_new = λ c left. so_far.nothing_new c (nothing_new c left);
    any_moment = goes_on disk old mid new (disk.may_leave old) (disk.may_leave new) so_far.any_moment time (λ c left. so_far.nothing_new c (nothing_new c left));
    later = omega (arith, so_far.later, later);
  }

  -- a run of calls more
  pub then_read : (old mid new : D) → IsOnlyRead disk old mid → IsOnlyRead disk mid new → IsOnlyRead disk old new
  then_read old mid new first second = record {
    same = second.same ∙ first.same;
    nothing_new = λ c left. first.nothing_new c (second.nothing_new c left);
    any_moment = joined disk old mid new (disk.may_leave old) (disk.may_leave mid) (disk.may_leave old) first.any_moment second.any_moment (λ c left. left) (λ c left. first.nothing_new c left);
    later = omega (arith, first.later, second.later);
  }

  -- nothing was written
  pub read_behind : {T E : Type 0} (m most : ℕ) (old new : D) (r : Result T E) (P Q : List ℕ → List ℕ → Type 0) → IsOnlyRead disk old new → disk.calls new ≤ disk.calls old + m → m ≤ most →
      ((b : List ℕ) → disk.content old ≡ Some b → OnOk r (IsOnDisk disk new (P b))) → ((b c : List ℕ) → disk.may_leave old c → Q b c) → LeavesBehind disk most old new r P Q
  read_behind m most old new r P Q read few le now was = record {
    goes_on = record { later = read.later; silent = λ none. read.same ∙ none; told = λ b told. ap is_some (read.same ∙ told) };
    few_calls = omega (arith, few, le);
    now = now;
    any_moment = λ b told. weaker disk old new (disk.may_leave old) (Q b) read.any_moment (was b);
  }

  -- and then something was
  pub then_written : {T E U F : Type 0} (m n most : ℕ) (old mid new : D) (r : Result T E) (s : Result U F) (P Q R S : List ℕ → List ℕ → Type 0) → IsOnlyRead disk old mid → disk.calls mid ≤ disk.calls old + m → LeavesBehind disk n mid new r P Q → m + n ≤ most →
      ((b : List ℕ) → disk.content old ≡ Some b → OnOk s (IsOnDisk disk new (R b))) → ((b c : List ℕ) → disk.may_leave old c → S b c) → ((b c : List ℕ) → disk.content old ≡ Some b → Q b c → S b c) → LeavesBehind disk most old new s R S
  then_written m n most old mid new r s P Q R S read few left le now was then_s = record {
    goes_on = record {
      later = omega (arith, read.later, left.goes_on.later);
      silent = λ none. left.goes_on.silent (read.same ∙ none);
      told = λ b told. left.goes_on.told b (read.same ∙ told);
    };
    few_calls = omega (arith, few, left.few_calls, le);
    now = now;
    any_moment = λ b told. joined disk old mid new (disk.may_leave old) (Q b) (S b) read.any_moment (left.any_moment b (read.same ∙ told)) (was b) (λ c q. then_s b c told q);
  }
