use Rattle.acq_words.proofs.Prelude.{ExplainsUnsignedError, HasUnsignedDigitsIfOk, ParsesUnsigned, found_of}
use Rattle.acq_words.proofs.Values.{number_read}
use Rattle.acq_words.proofs.words.number_said.Goals as goal

pub returns : goal.returns
returns c =
    number_read (λ bs r. ParsesUnsigned 32 10 bs r × ExplainsUnsignedError 10 bs r × HasUnsignedDigitsIfOk bs r) (λ u x g. g.0) (found_of c.args.matches.now) c.args.id.now c.get_one.result c.get_one.ensures.none c.get_one.ensures.value c.requires
