use Rattle.network.proofs.Prelude.{◌≡◌, take, string_bytes, network_text}
use Rattle.network.proofs.text.network_text.Given as goal

abbrev pub invariant-loop-c : goal.invariant-loop-c
invariant-loop-c l = string_bytes l.text ≡ network_text l.fn.lang (take l.c-index l.fn.net.list)
