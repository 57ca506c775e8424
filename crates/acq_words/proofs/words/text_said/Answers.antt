use Rattle.acq_words.proofs.Prelude.{◌∙◌, found_of}
use Rattle.acq_words.proofs.Values.{first_value_is}
use Rattle.acq_words.proofs.words.text_said.Goals as goal

pub returns : goal.returns
returns c = c.get_str.ensures ∙ first_value_is (found_of c.args.matches.now) c.args.id.now
