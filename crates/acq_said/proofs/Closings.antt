-- The endings of the loop and those of the program.
use Rattle.acq_said.proofs.Prelude.{◌≡◌, ◌∙◌, refl, sym, subst, Option, None, Some, Result, Ok, Err, IfOk, Put, ending_of, Drove, Ending, ℕ, List, IsErr, MatchOption, Answer, Language, Closing, closing_text, Terms}
use Rattle.acq_io.specs.Streams.{Adds, AddsFront}
use Rattle.acq_loop.specs.declared.driving.Drove.TheVariants as drove
use Rattle.acq_loop.specs.declared.ending.Ending.TheVariants as ending

abbrev pub okay : Ending → Result Ending Put
okay end = Ok end

abbrev pub failed : Put → Result Ending Put
failed e = Err e

pub same_ok : (a b : Ending) → okay a ≡ okay b → a ≡ b
same_ok a b e = cc

pub err_ok : (e : Put) (end : Ending) → failed e ≡ okay end → ⊥
err_ok e end h = cc

-- the loop's ending, by its ending of the program
abbrev pub loop_end : Ending → Option Drove
loop_end (ending.Converged m) = Some (drove.Converged m)
loop_end (ending.Collapsed m) = Some (drove.Collapsed m)
loop_end (ending.Undecided m) = Some (drove.Undecided m)
loop_end (ending.Suspended m) = Some (drove.Suspended m)
loop_end ending.LineTooLong = Some drove.LineTooLong
loop_end ending.Unreadable = Some drove.Unreadable
loop_end ending.ReadFault = Some drove.ReadFault
loop_end ending.DiskFault = Some drove.DiskFault
loop_end ending.JournalFull = Some drove.JournalFull
loop_end end = None

-- where the program ends as the loop did, the loop ended so
loops_as : (how : Drove) → IfOk (ending_of how) (λ (end : Ending). loop_end end ≡ Some how)
loops_as drove.WriteFault = tt
loops_as drove.Memory = tt
loops_as how = refl

loop_ended : (how : Drove) (end : Ending) → ending_of how ≡ okay end → loop_end end ≡ Some how
loop_ended how end is = subst (λ (r : Result Ending Put). IfOk r (λ (e : Ending). loop_end e ≡ Some how)) is (loops_as how)

-- the loop doesn't end so
pub not_loops : (how : Drove) (end : Ending) → ending_of how ≡ okay end → loop_end end ≡ None → ⊥
not_loops how end is other = let bad : None ≡ Some how = sym other ∙ loop_ended how end is in cc

-- it ended so
pub loops_by : (how was : Drove) (end : Ending) → ending_of how ≡ okay end → loop_end end ≡ Some was → how ≡ was
loops_by how was end is so = let same : Some how ≡ Some was = sym (loop_ended how end is) ∙ so in cc

-- ---- the last lines

-- they were written, where there are any
abbrev pub AddsLast : Language → Terms → List Answer → (written written' : Option (List ℕ)) → Option Closing → Type 0
AddsLast l terms t written written' o = MatchOption o (written' ≡ written) (λ closing. Adds written written' (closing_text l terms t closing))

-- a front of them was
abbrev pub AddsLastFront : Language → Terms → List Answer → (written written' : Option (List ℕ)) → Result Ending Put → Option Closing → Type 0
AddsLastFront l terms t written written' end o = MatchOption o ((written' ≡ written) × IsErr end) (λ closing. AddsFront written written' (closing_text l terms t closing))
