use Rattle.session_store.proofs.Prelude.{Bool, IsFalse, ◌≤◌, sym, ◌∙◌, subst, arith, IsSame, calls_to_raise, behind_as}
use Rattle.session_store.proofs.Stores.{same_behind, on_err}
use Rattle.session_store.proofs.store.raised.Goals as goal

calls_all : (raised : Bool) → IsFalse raised → 4 ≤ calls_to_raise raised
calls_all raised not = let Calls : Bool → Type 0 = λ b. 4 ≤ calls_to_raise b in subst Calls (sym not) (omega arith)

pub returns-then-is_raised-clause-leaves : goal.returns-then-is_raised-clause-leaves
returns-then-is_raised-clause-leaves g c = same_behind g.D.Disk g.met.D.Disk.only_now (calls_to_raise c.args.journal.now.raised) c.args.journal.now c.args.disk.now c.requires

pub returns-clause-leaves : goal.returns-clause-leaves
returns-clause-leaves g c =
    behind_as g.D.Disk 4 (calls_to_raise c.args.journal.now.raised) c.args.disk.now c.raise.new.disk c.raise.result c.raise.result IsSame IsSame IsSame IsSame c.raise.ensures.leaves
    (calls_all c.args.journal.now.raised (sym c.is_raised.ensures ∙ c.if-is_raised.false)) c.raise.ensures.leaves.now (λ old f told same. same)

pub returns-clause-failed : goal.returns-clause-failed
returns-clause-failed g c = on_err c.raise.result (λ is. let failed = c.raise.ensures.failed is in (failed.0, failed.1.not_live))
