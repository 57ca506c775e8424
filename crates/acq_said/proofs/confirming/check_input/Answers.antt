use Rattle.acq_said.proofs.Prelude.{refl, ◌≡◌, ◌∙◌, ap, sym, subst, List, ℕ, Err, IsCheck, checked_said}
use Rattle.acq_io.specs.declared.whole.AllFault.TheVariants as all
use Rattle.cert_check.specs.declared.fault.CertFault.TheVariants as form
use Rattle.acq_said.proofs.Spoken.{IsCheckOf, SaidSo, fault_of, fine, long_one, said_so}
use Rattle.acq_said.proofs.confirming.check_input.Goals as goal

pub returns-in-Ok-clause-confirms : goal.returns-in-Ok-clause-confirms
returns-in-Ok-clause-confirms g c =
    let bytes : List ℕ = c.in-Ok.bytes.items in
    let Of : List ℕ → Type 0 = λ b. SaidSo (IsCheck b) c.or_silent.result in
    let said = said_so c.checked.result (IsCheck c.deref.result.now) c.checked.ensures in
    (fine bytes, (c.in-Ok.ensures.all, subst Of c.deref.ensures.value (subst (SaidSo (IsCheck c.deref.result.now)) (sym c.or_silent.ensures.is) said)))

pub returns-in-Err-TooLong-clause-confirms : goal.returns-in-Err-TooLong-clause-confirms
returns-in-Err-TooLong-clause-confirms g c =
    let said = said_so c.unread.result (λ s. s ≡ checked_said (Err form.TooLong)) c.unread.ensures in
    (long_one, (c.read_all.ensures.too_long (c.in-Err-TooLong.is ∙ ap fault_of c.in-Err-TooLong.field-0-is), subst (SaidSo (IsCheckOf long_one)) (sym c.or_silent-in-Err-TooLong.ensures.is) said))

pub returns-in-Err-Fault-clause-confirms : goal.returns-in-Err-Fault-clause-confirms
returns-in-Err-Fault-clause-confirms g c = (Err all.Fault, refl)

pub returns-in-Err-Memory-clause-confirms : goal.returns-in-Err-Memory-clause-confirms
returns-in-Err-Memory-clause-confirms g c = (Err all.Memory, refl)
