use Rattle.network.proofs.Prelude.{◌≡◌, [], drop, length, items_view, IsNetwork, network_from}
use Rattle.network.proofs.reading.network_of.Given as goal

abbrev pub invariant-loop-item : goal.invariant-loop-item
invariant-loop-item l = record {
  rest : network_from l.lang l.net.list (items_view (drop l.item-index l.items)) ≡ network_from l.lang [] (items_view l.items);
  network : IsNetwork l.lang l.net.list;
  scopes : l.net.scopes ≡ length l.lang.scopes;
}
