use Rattle.answer_journal.proofs.Prelude.{⊎_elim, arith, none_done, behind_as, Raising, HasAdded, IsOldOrAdded, IsSame}
use Rattle.answer_journal.proofs.journal.Journal.raise.Goals as goal

pub returns-in_err-add-clause-leaves : goal.returns-in_err-add-clause-leaves
returns-in_err-add-clause-leaves g c =
    behind_as g.D.Disk 4 4 c.args.disk.now c.add.new.disk c.add.result _ (λ old. HasAdded old Raising) (λ old. IsOldOrAdded old Raising) IsSame IsSame c.add.ensures.leaves (omega arith)
    (λ old told. none_done _ _ c.from_residual.result c.from_residual.ensures.1) (λ old f told either plan voc events spelled. ⊎_elim (λ s. s) (λ s. s) (either plan voc events spelled))

pub returns-clause-leaves : goal.returns-clause-leaves
returns-clause-leaves g c =
    behind_as g.D.Disk 4 4 c.args.disk.now c.add.new.disk c.add.result _ (λ old. HasAdded old Raising) (λ old. IsOldOrAdded old Raising) IsSame IsSame c.add.ensures.leaves (omega arith)
    (λ old told. c.in_ok-add.ensures.leaves.now old told) (λ old f told either plan voc events spelled. ⊎_elim (λ s. s) (λ s. s) (either plan voc events spelled))
