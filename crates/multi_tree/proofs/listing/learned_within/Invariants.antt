use Rattle.multi_tree.proofs.Prelude.{◌≡◌, ◌&&◌, take, false, list_any, is_within, scope_of, violates}
use Rattle.multi_tree.proofs.listing.learned_within.Given as goal

abbrev pub invariant-loop-c : goal.invariant-loop-c
invariant-loop-c l = list_any (λ c. violates l.fn.lang c l.fn.example && is_within (scope_of l.fn.lang c) l.fn.set) (take l.c-index l.list) ≡ false
