use Rattle.assign.proofs.CellLemmas.{same_options}
use Rattle.assign.proofs.assignment.PartialPartialEq.eq.Goals as goal
use Rattle.shared_lemmas.proofs.Booleans.{both_true}

pub returns : goal.returns
returns c =
    let same = same_options c.args.self.now c.args.other.now in
    both_true _ _ (λ h. same.1 (c.equals.ensures.0 h)) (λ h. c.equals.ensures.1 (same.0 h))
