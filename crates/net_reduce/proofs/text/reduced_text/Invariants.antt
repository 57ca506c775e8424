use Rattle.net_reduce.proofs.Prelude.{◌≡◌, ◌++◌, length, take, string_bytes}
use Rattle.network.specs.Texts.{network_text}
use Rattle.net_reduce.specs.Texts.{size_line}
use Rattle.net_reduce.proofs.text.reduced_text.Given as goal

abbrev pub invariant-loop-c : goal.invariant-loop-c
invariant-loop-c l = string_bytes l.text ≡ size_line (length l.part) l.fn.of ++ network_text l.fn.lang (take l.c-index l.part)
