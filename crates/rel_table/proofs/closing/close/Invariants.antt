use Rattle.rel_table.proofs.Prelude.{◌≡◌, ℕ, ◌+◌, ◌-◌, ◌<◌, ◌≤◌, [], length, map, slice_index_or, Vec, Global, TruthTable, IsClosed}
use Rattle.rel_table.proofs.closing.close.Given as goal

abbrev pub ghost-close_arity : goal.ghost-close_arity
ghost-close_arity g a = g.d

abbrev pub invariant-loop-arity : goal.invariant-loop-arity
invariant-loop-arity g l = record {
  count : length l.lists.items + 1 ≡ l.arity;
  closed : (a : ℕ) → 1 ≤ a → a < l.arity → IsClosed a g.d l.file (slice_index_or (map (λ (v : Vec TruthTable Global). v.items) l.lists.items) (a - 1) []);
}
