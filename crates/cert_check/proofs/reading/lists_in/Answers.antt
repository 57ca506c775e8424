use Rattle.std.proofs.Common.{rules}
use Rattle.cert_check.proofs.reading.lists_in.Goals as goal

pub returns-clause-sound : goal.returns-clause-sound
returns-clause-sound c = record {
  lawful = c.requires.lawful;
  network = c.in_ok-network.ensures.network;
  questions = c.in_ok-answers.ensures.questions;
  known = c.in_ok-items.ensures.known;
  few_answers = search rules;
  few_items = search rules;
  few_refutations = search rules;
}
