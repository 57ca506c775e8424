use Rattle.voc_read.proofs.Prelude.{◌≡◌, map, take, given_by, given_names, texts_of}
use Rattle.voc_read.proofs.relations.names_of.Given as goal

abbrev pub invariant-loop-relation : goal.invariant-loop-relation
invariant-loop-relation l = texts_of l.names.items ≡ given_names (map given_by (take l.relation-index l.relations))
