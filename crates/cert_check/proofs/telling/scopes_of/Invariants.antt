use Rattle.cert_check.proofs.Prelude.{◌≡◌, map, take, scope_of}
use Rattle.cert_check.proofs.telling.scopes_of.Given as goal

abbrev pub invariant-loop-c : goal.invariant-loop-c
invariant-loop-c l = l.sets.items ≡ map (scope_of l.fn.lang) (take l.c-index l.net)
