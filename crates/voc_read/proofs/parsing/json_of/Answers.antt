use Rattle.voc_read.proofs.Prelude.{ap, ok_or, NotJson, both_ways}
use Rattle.voc_read.proofs.ReadSizes.{widest-read}
use Rattle.rel_formula.proofs.TextsRead.{json_of-read, json_of-refused}
use Rattle.voc_read.proofs.parsing.json_of.Goals as goal

pub returns-in-Ok-clause-few : goal.returns-in-Ok-clause-few
returns-in-Ok-clause-few c = widest-read c.args.bytes.now _ c.in-Ok.ensures.ok.1

pub returns-in-Ok-clause-is : goal.returns-in-Ok-clause-is
returns-in-Ok-clause-is c = ap (λ o. ok_or o NotJson) (json_of-read c.args.bytes.now _ c.in-Ok.ensures.ok.0 c.in-Ok.ensures.ok.1)

pub returns-else-is_memory-clause-is : goal.returns-else-is_memory-clause-is
returns-else-is_memory-clause-is c =
    λ _. let refused = c.in-Err.ensures.err (λ memory. both_ways c.is_memory.result c.if-is_memory.false (c.is_memory.ensures.1 memory)) in
    ap (λ o. ok_or o NotJson) (json_of-refused c.args.bytes.now refused)
