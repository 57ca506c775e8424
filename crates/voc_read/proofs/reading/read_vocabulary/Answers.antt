use Rattle.voc_read.proofs.Prelude.{◌≡◌, ℕ, ◌≤◌, List, length, sym, ap, subst, ◌∙◌, Ok, Err, Result, IfOk, ok_or, cond, Data, Language, view, then_on, Parts, VocFault, NotJson, TooLong, parts_in, vocabulary_parts, json_of, IsLanguageOf}
use Rattle.std.proofs.lemmas.Bool.{le-ltb}
use Rattle.voc_read.proofs.reading.read_vocabulary.Goals as goal

-- the parts of a text that is a JSON value are those of the value
parts_are : (bytes : List ℕ) (d : Data) → length bytes ≤ 4194304 → ok_or (json_of bytes) NotJson ≡ Ok d → parts_in d ≡ vocabulary_parts bytes
unfolding vocabulary_parts
parts_are bytes d few is = sym ((λ i. cond (le-ltb 4194304 (length bytes) few i) (Err TooLong) (then_on (ok_or (json_of bytes) NotJson) parts_in)) ∙ ap (λ o. then_on o parts_in) is)

pub returns-clause-ok : goal.returns-clause-ok
returns-clause-ok c =
    subst (λ (p : Result Parts VocFault). IfOk c.read_whole.result (λ (l : Language). IsLanguageOf p l)) (parts_are c.args.bytes.now (view c.in_ok-whole.whole) c.if-bytes.false c.in_ok-whole.ensures.is) c.read_whole.ensures.ok
