use Rattle.rel_table.proofs.Prelude.{rules}
use Rattle.std.proofs.lemmas.Iterator.{items_from_collect, YieldsList-from_map, YieldsList-from_slice, YieldsList-from_zip}
use Rattle.rel_table.proofs.bits.both.Goals as goal

pub returns : goal.returns
returns c =
    items_from_collect _ c.collect.ensures.ran (YieldsList-from_map _ _ (YieldsList-from_zip (YieldsList-from_slice c.args.a.now cc) (YieldsList-from_slice c.args.b.now cc)) c.map.ensures.closure (λ x r q k. search rules))
