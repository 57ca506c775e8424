use Rattle.voc_read.proofs.Prelude.{codes, view}
use Rattle.voc_read.proofs.Widths.{widest-found_in}
use Rattle.voc_read.proofs.outline.held_by.Goals as goal

pub returns-clause-within : goal.returns-clause-within
returns-clause-within c = record {
  variables = c.in_ok-variables.ensures.part;
  relations = c.in_ok-relations.ensures.part;
  scopes = c.in_ok-scopes.ensures.part;
  ranges = widest-found_in (codes "ranges") (view c.args.whole.now) c.get.result c.get.ensures;
}
