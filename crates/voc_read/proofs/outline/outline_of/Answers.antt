use Rattle.voc_read.proofs.outline.outline_of.Goals as goal

pub returns-clause-within : goal.returns-clause-within
returns-clause-within c = record {
  names = c.in_ok-names.ensures.few;
  relations = c.in_ok-relations.ensures.few;
  parts = c.in_ok-relations.ensures.parts;
  listed = c.in_ok-listed.ensures.few;
  ranges = c.in_ok-ranges.ensures.few;
}
