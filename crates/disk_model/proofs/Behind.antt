-- Calls that write, one after another, and what they leave behind.
use Rattle.disk_model.proofs.Prelude.{◌≡◌, ◌≤◌, ◌+◌, ℕ, List, Some, Result, Ok, Err, is_some, ap, arith, OnOk, IsErrAnd}
use Rattle.std.proofs.lemmas.Result.{on_ok_weaker}
use Rattle.disk_model.specs.declared.disk.Disk.{Ghosts}
use Rattle.disk_model.specs.Moments.{IsOnDisk, LeavesBehind, started, joined, weaker}

-- where a call failed, nothing is said of what it has done
pub none_done : {T E : Type 0} (P : Type 0) (Q : E → Type 0) (r : Result T E) → IsErrAnd r Q → OnOk r P
none_done P Q (Ok x) failed = absurd failed
none_done P Q (Err e) failed = tt

module _ {D : Type 0} (disk : Ghosts D) where
  -- nothing was called
  pub nothing_behind : {T E : Type 0} (most : ℕ) (d : D) (r : Result T E) (P Q : List ℕ → List ℕ → Type 0) → ((c : List ℕ) → disk.left_since d (disk.moment d) c → disk.may_leave d c) →
      ((b : List ℕ) → disk.content d ≡ Some b → OnOk r (IsOnDisk disk d (P b))) → ((b c : List ℕ) → disk.content d ≡ Some b → disk.may_leave d c → Q b c) → LeavesBehind disk most d d r P Q
  nothing_behind most d r P Q only_now now here = record {
    goes_on = record { later = omega arith; silent = λ none. none; told = λ b told. ap is_some told };
    few_calls = omega arith;
    now = now;
    any_moment = λ b told. started disk d (Q b) (λ c left. here b c told (only_now c left));
  }

  -- by another result, and by other words
  pub behind_as : {T E U F : Type 0} (m n : ℕ) (old new : D) (r : Result T E) (s : Result U F) (P Q R S : List ℕ → List ℕ → Type 0) → LeavesBehind disk m old new r P Q → m ≤ n →
      ((b : List ℕ) → disk.content old ≡ Some b → OnOk s (IsOnDisk disk new (R b))) → ((b c : List ℕ) → disk.content old ≡ Some b → Q b c → S b c) → LeavesBehind disk n old new s R S
  behind_as m n old new r s P Q R S left le now then_s = record {
    goes_on = left.goes_on;
    few_calls = omega (arith, left.few_calls, le);
    now = now;
    any_moment = λ b told. weaker disk old new (Q b) (S b) (left.any_moment b told) (λ c q. then_s b c told q);
  }

  -- a call that went well, and one after it
  pub then_behind : {T E U F : Type 0} (m n most : ℕ) (old mid new : D) {x : T} (s : Result U F) (P Q P' Q' R S : List ℕ → List ℕ → Type 0) → LeavesBehind {D = D} {T = T} {E = E} disk m old mid (Ok x) P Q → LeavesBehind disk n mid new s P' Q' → m + n ≤ most →
      ((b a c : List ℕ) → disk.content old ≡ Some b → P b a → P' a c → R b c) → ((b c : List ℕ) → disk.content old ≡ Some b → Q b c → S b c) → ((b a c : List ℕ) → disk.content old ≡ Some b → P b a → Q' a c → S b c) →
      LeavesBehind disk most old new s R S
  then_behind m n most old mid new s P Q P' Q' R S first second le both early late = record {
    goes_on = record {
      later = omega (arith, first.goes_on.later, second.goes_on.later);
      silent = λ none. second.goes_on.silent (first.goes_on.silent none);
      told = λ b told. let f : IsOnDisk disk mid (P b) = first.now b told in second.goes_on.told f.now f.tells;
    };
    few_calls = omega (arith, first.few_calls, second.few_calls, le);
    now = λ b told.
        let f : IsOnDisk disk mid (P b) = first.now b told in
        on_ok_weaker s (λ t. record { now = t.now; tells = t.tells; durable = t.durable; holds = both b f.now t.now told f.holds t.holds }) (second.now f.now f.tells);
    any_moment = λ b told.
        let f : IsOnDisk disk mid (P b) = first.now b told in
        joined disk old mid new (Q b) (Q' f.now) (S b) (first.any_moment b told) (second.any_moment f.now f.tells) (λ c q. early b c told q) (λ c q. late b f.now c told f.holds q);
  }
