use Rattle.language.proofs.Prelude.{◌≡◌, ◌*◌, ◌-◌, ◌<◌, ◌≤◌, [], map, take, length, get_or, All, Scope, variables_in, given_by, AreAll, AreChosen}
use Rattle.language.proofs.numbering.numbers_of.Given as goal

abbrev pub invariant-loop-scope : goal.invariant-loop-scope
invariant-loop-scope l = record {
  all : AreAll l.ranges l.d (map given_by l.rels) l.relations (take l.scope-index l.scopes) l.on.items l.starts.items;
  last : get_or l.starts.items l.scope-index 0 ≡ length l.on.items;
  low : length l.on.items ≤ 64 * l.scope-index;
  known : All (λ v. v < length l.ranges) l.before;
  chosen : 1 ≤ length l.before → AreChosen l.ranges l.d (map given_by l.rels) (get_or l.relations (length l.before - 1) []) l.before l.numbers.items;
  sized : All (λ (scope : Scope). length (variables_in scope) ≡ scope.size) (take l.scope-index l.scopes);
}
