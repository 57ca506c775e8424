use Rattle.cert_check.proofs.Prelude.{◌≡◌, ◌++◌, length, take, string_bytes}
use Rattle.cert_check.specs.Texts.{confirmed_line, items_text}
use Rattle.cert_check.proofs.text.confirmed_text.Given as goal

abbrev pub invariant-loop-c : goal.invariant-loop-c
invariant-loop-c l = string_bytes l.text ≡ confirmed_line (length l.fn.cert.answers) ++ items_text l.lang (take l.c-index l.net)
