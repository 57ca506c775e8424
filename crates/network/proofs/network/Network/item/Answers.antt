use Rattle.std.proofs.Common.{length, refl, rules}
use Rattle.std.proofs.lemmas.Option.{slice_get_read}
use Rattle.network.proofs.network.Network.item.Goals as goal

pub returns : goal.returns
returns c = slice_get_read c.args.self.now.list (length c.args.self.now.list) c.args.i c.index.result.now refl c.requires (search rules)
