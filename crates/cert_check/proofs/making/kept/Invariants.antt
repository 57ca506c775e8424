use Rattle.cert_check.proofs.Prelude.{◌≡◌, take, All, filter, IsCandidate, IsImplied, candidates}
use Rattle.cert_check.proofs.Listing.{is_kept}
use Rattle.cert_check.proofs.making.kept.Given as goal

abbrev pub invariant-loop-number : goal.invariant-loop-number
invariant-loop-number l = record {
  same : l.list.items ≡ filter (is_kept l.fn.lang l.fn.answers l.fn.net) (take l.number (candidates l.fn.lang));
  known : All (IsCandidate l.fn.lang) l.list.items;
  implied : All (IsImplied l.fn.lang l.fn.net) l.list.items;
}
