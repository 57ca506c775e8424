use Rattle.language.proofs.Prelude.{◌∙◌, [], ◌∷◌, ◌++◌, ap, sym}
use Rattle.language.proofs.Counting.{numbers_more}
use Rattle.language.proofs.narrow.all_numbers.Goals as goal

pub loop-k-preserved : goal.loop-k-preserved
loop-k-preserved c = c.in_ok-push.ensures.items ∙ ap (λ xs. xs ++ c.loop-k.k ∷ []) c.loop-k.invariant ∙ sym (numbers_more c.loop-k.k)
