use Rattle.cert_check.proofs.Prelude.{◌≡◌, drop, are_trees, refutes, ahead, IsPrefixAt}
use Rattle.cert_check.proofs.walk.refutes.Given as goal

abbrev pub invariant-loop-token : goal.invariant-loop-token
invariant-loop-token l = record {
  at : IsPrefixAt l.fn.lang l.fn.c l.values.items l.e;
  rest : are_trees l.fn.lang l.fn.net l.fn.c (ahead l.is_open l.fn.lang l.fn.c l.values.items) (drop l.token-index l.tokens) ≡ refutes l.fn.lang l.fn.net l.fn.c l.tokens;
}
