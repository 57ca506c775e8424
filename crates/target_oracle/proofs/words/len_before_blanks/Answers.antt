use Rattle.target_oracle.proofs.Prelude.{arith, rules, take_all, suffix_len-take_yes}
use Rattle.target_oracle.proofs.words.len_before_blanks.Goals as goal

pub loop-len-init : goal.loop-len-init
loop-len-init c = search (rules, take_all)

pub loop-len-preserved : goal.loop-len-preserved
loop-len-preserved c = grind (arith, suffix_len-take_yes)
