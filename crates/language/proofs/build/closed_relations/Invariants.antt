use Rattle.language.proofs.build.closed_relations.Given as goal

abbrev pub ghost-close : goal.ghost-close
ghost-close g a = g.d
