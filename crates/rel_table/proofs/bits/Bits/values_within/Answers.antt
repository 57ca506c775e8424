use Rattle.rel_table.proofs.Prelude.{◌≡◌, arith, get_or, true, false}
use Rattle.rel_table.proofs.BitLemmas.{follows_all, follows_not}
use Rattle.rel_table.proofs.bits.Bits.values_within.Goals as goal

pub returns-then-not-get : goal.returns-then-not-get
returns-then-not-get c =
    let on : get_or c.args.self.now c.loop-at.at false ≡ true = cc in
    let off : get_or c.args.other.now c.loop-at.at false ≡ false = cc in
    follows_not c.args.self.now c.args.other.now c.loop-at.at (omega arith) (omega arith) on off

pub returns : goal.returns
returns c = follows_all c.args.self.now c.args.other.now (λ k h l. c.loop-at.invariant k (omega arith))
