use Rattle.language.proofs.Built.{values_of}
use Rattle.language.proofs.lang.Language.build.Given as goal

abbrev pub ghost-closed_relations : goal.ghost-closed_relations
ghost-closed_relations a = values_of a.rels.now
