use Rattle.language.proofs.Prelude.{◌≡◌, map, take, All, IsTable, RelPart}
use Rattle.language.proofs.build.tables_of.Given as goal

abbrev pub invariant-loop-rel : goal.invariant-loop-rel
invariant-loop-rel l = record {
  is : l.tables.items ≡ map (λ (part : RelPart). part.table) (take l.rel-index l.rels);
  lawful : All IsTable l.tables.items;
}
