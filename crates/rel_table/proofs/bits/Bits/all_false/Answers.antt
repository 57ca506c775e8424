use Rattle.rel_table.proofs.Prelude.{sym, subst, ◌∙◌, ap, List, ℕ, values_of, IsPacked}
use Rattle.rel_table.proofs.BitLemmas.{zeros_packed, zeros_are}
use Rattle.rel_table.proofs.bits.Bits.all_false.Goals as goal

pub invariant_of-result : goal.invariant_of-result
invariant_of-result c = subst (λ (ws : List ℕ). IsPacked ws c.args.count) (sym c.in_ok-words.ensures) (zeros_packed c.div_ceil.result c.args.count c.div_ceil.ensures)

pub returns : goal.returns
returns c = ap (λ (ws : List ℕ). values_of ws c.args.count) c.in_ok-words.ensures ∙ zeros_are c.div_ceil.result c.args.count
