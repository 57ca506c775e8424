use Rattle.rel_table.proofs.Prelude.{sym, ◌∙◌, ap, length}
use Rattle.rel_table.proofs.BitLemmas.{length-values_of}
use Rattle.rel_table.proofs.bits.Bits.len.Goals as goal

pub returns : goal.returns
returns c = sym (length-values_of c.self.inside.words.items c.self.inside.count) ∙ ap length c.self.view_is
