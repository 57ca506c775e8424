use Rattle.std.proofs.Common.{rules, tests}
use Rattle.rel_table.proofs.Prelude.{ℕ, bit_and, bit_not, nat_eq, w64}
use Rattle.std.proofs.lemmas.Iterator.{YieldsList-from_slice, YieldsList-from_zip}
use Rattle.std.proofs.lemmas.Iterator.Search.{all_from_yields_List}
use Rattle.rel_table.proofs.bits.lacks_none.Goals as goal

pub returns : goal.returns
returns c =
    all_from_yields_List (λ (p : ℕ × ℕ). nat_eq (bit_and p.0 (bit_not w64 p.1)) 0) c.all.new.self _ _ c.all.ensures.ran (YieldsList-from_zip (YieldsList-from_slice c.args.a.now cc) (YieldsList-from_slice c.args.b.now cc)) (λ x b q k. search (rules, tests))
