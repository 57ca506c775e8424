use Rattle.bias_store.proofs.Prelude.{length, refl, ◌∙◌, relations_on}
use Rattle.bias_store.proofs.Bits.{mask_all, none_accepts}
use Rattle.bias_store.proofs.tables.accepting_at.Goals as goal

pub returns : goal.returns
returns c =
    mask_all c.args.lang.now c.args.s c.args.place (length (relations_on c.args.lang.now c.args.s)) c.accepting.result refl (c.accepting.ensures.lawful.few_relations c.args.s c.requires.scope) (record {
      low = λ k h. c.accepting.ensures.is k;
      high = λ k h. c.accepting.ensures.is k ∙ none_accepts (relations_on c.args.lang.now c.args.s) c.args.place k h;
    })
