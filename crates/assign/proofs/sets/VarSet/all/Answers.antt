use Rattle.assign.proofs.Prelude.{◌∙◌, ◌<◌, ◌-◌, ap, sym, arith, one_shl, members_of, numbers}
use Rattle.assign.proofs.Masks.{members_of-ones}
use Rattle.assign.proofs.sets.VarSet.all.Goals.{then-n-eq128, else-n-eq128}
use Rattle.assign.proofs.sets.VarSet.all.Goals as goal

pub returns : goal.returns
returns c =
    elim c.if-n-eq128.branch [
      | then-n-eq128 w ↦ ap members_of w.result-is ∙ members_of-ones 128 (omega arith) ∙ ap numbers (sym w.if-n-eq128.true)
      | else-n-eq128 w ↦
          let small : c.args.n < 128 = (let differs = w.if-n-eq128.false in omega arith) in
          ap members_of w.result-is ∙ ap (λ x. members_of (x - 1)) (one_shl c.args.n 128 small) ∙ members_of-ones c.args.n (omega arith)
    ]
