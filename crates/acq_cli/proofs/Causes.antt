-- What a command that has ended says of the faults that it met.
use Rattle.acq_cli.proofs.Prelude.{Ending, Err, HasCalled, HasWritten, IfOk, List, Ok, Option, Put, Result, Saying, TellsCauses, Unsaid, ap, called_not, ended_as, err_ok, failed, okay, refl, same_ok, subst, ℕ, ◌≡◌, ◌≢◌}
use Rattle.acq_io.specs.declared.streams.Put.TheVariants as put
use Rattle.disk_model.specs.Disk.{Rose as DiskRose}
use Rattle.acq_io.specs.Streams.{Rose}
use Rattle.acq_loop.specs.declared.ending.Ending.TheVariants as ending
use Rattle.acq_said.specs.declared.said.Unsaid.TheVariants as unsaid

-- an ending that stands neither for a failed output nor for want of memory is that of a command
ended_ok : (got : Result Ending Put) (end : Ending) → (ending.WriteFault ≡ end → ⊥) → (ending.Memory ≡ end → ⊥) → ended_as got ≡ end → got ≡ okay end
ended_ok (Ok e) end write memory is = ap okay is
ended_ok (Err put.Failed) end write memory is = absurd (write is)
ended_ok (Err put.Memory) end write memory is = absurd (memory is)

-- where no command ends so, the output has failed
write_failed : (got : Result Ending Put) → IfOk got (λ end. end ≢ ending.WriteFault) → ended_as got ≡ ending.WriteFault → got ≡ failed put.Failed
write_failed (Ok end) never is = absurd (never is)
write_failed (Err put.Failed) never is = refl
write_failed (Err put.Memory) never is = absurd (let no : ⊥ = cc in no)

-- where its result says each by itself
pub told_causes : (input input' late late' output output' disk disk' : ℕ) (got : Result Ending Put) → HasCalled input input' late late' (got ≡ okay ending.ReadFault) → IfOk got (λ end. end ≢ ending.WriteFault) → (got ≡ failed put.Failed → Rose output output') →
    (got ≡ okay ending.DiskFault → DiskRose disk disk') → TellsCauses input input' late late' output output' disk disk' (ended_as got)
told_causes input input' late late' output output' disk disk' got read never rose lost = record {
  read = λ is. read.rose (ended_ok got ending.ReadFault (λ e. cc) (λ e. cc) is);
  well = λ none unread. read.well none (λ is. unread (ap ended_as is));
  stopped = read.stopped;
  write = λ is. rose (write_failed got never is);
  lost = λ is. lost (ended_ok got ending.DiskFault (λ e. cc) (λ e. cc) is);
}

-- an ending that never comes isn't the one
never_told : (got : Result Ending Put) (other : Ending) → IfOk got (λ end. end ≢ other) → got ≡ okay other → ⊥
never_told (Ok end) other never is = never (same_ok end other is)
never_told (Err e) other never is = err_ok e other is

-- where the input isn't called, no fault of it is told
pub called_idle : (input late : ℕ) (got : Result Ending Put) → IfOk got (λ end. end ≢ ending.ReadFault) → HasCalled input input late late (got ≡ okay ending.ReadFault)
called_idle input late got never = called_not input late (got ≡ okay ending.ReadFault) (never_told got ending.ReadFault never)

-- where it isn't the one, it never comes
pub never_ends : (got : Result Ending Put) (other : Ending) → (got ≡ okay other → ⊥) → IfOk got (λ end. end ≢ other)
never_ends (Ok end) other never = λ is. never (ap okay is)
never_ends (Err e) other never = tt

-- a fault of it that ends a command without a word is how the program ends
pub ends_read : (said : Result Saying Unsaid) (written written' : Option (List ℕ)) (got : Result Ending Put) → HasWritten said written written' got → said ≡ Err unsaid.ReadFault → got ≡ okay ending.ReadFault
ends_read said written written' got has is = let Written : Result Saying Unsaid → Type 0 = λ s. HasWritten s written written' got in (subst Written is has).0
