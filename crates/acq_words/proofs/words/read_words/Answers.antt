use Rattle.acq_words.proofs.Prelude.{arith, map, string_bytes, IsRequestOf, request_of_words}
use Rattle.std.proofs.lemmas.Grind.{common_steps}
use Rattle.acq_words.proofs.PlainLists.{is_no_plain_list, plain_is}
use Rattle.acq_words.proofs.words.read_words.Goals as goal

pub returns-in_err-matches-clause-plain : goal.returns-in_err-matches-clause-plain
returns-in_err-matches-clause-plain c =
    let is : IsRequestOf (request_of_words (map string_bytes c.args.words.now)) c.from_residual.result = grind (arith, common_steps) in
    plain_is (map string_bytes c.args.words.now) c.from_residual.result is

pub returns-in_err-matches-clause-words : goal.returns-in_err-matches-clause-words
returns-in_err-matches-clause-words c =
    let is : IsRequestOf (request_of_words (map string_bytes c.args.words.now)) c.from_residual.result = grind (arith, common_steps) in
    is_no_plain_list (map string_bytes c.args.words.now) c.from_residual.result is

pub returns-clause-plain : goal.returns-clause-plain
returns-clause-plain c =
    let is : IsRequestOf (request_of_words (map string_bytes c.args.words.now)) c.request_in.result = grind (arith, common_steps) in
    plain_is (map string_bytes c.args.words.now) c.request_in.result is

pub returns-clause-words : goal.returns-clause-words
returns-clause-words c =
    let is : IsRequestOf (request_of_words (map string_bytes c.args.words.now)) c.request_in.result = grind (arith, common_steps) in
    is_no_plain_list (map string_bytes c.args.words.now) c.request_in.result is
