use Rattle.net_cnf.proofs.Prelude.{◌≡◌, ℕ, List, [], ◌∷◌, Option, Bor, sym, ◌∙◌, subst, MatchOption, words}
use Rattle.net_cnf.proofs.Cutting.{words_none, word_begins, words_from}
use Rattle.net_cnf.proofs.tokens.first_word.Goals as goal

pub returns-in_err-start : goal.returns-in_err-start
returns-in_err-start c =
    subst (λ (r : Option (Bor (List ℕ) × Bor (List ℕ))). MatchOption r (words c.args.line.now ≡ []) (λ cut. words c.args.line.now ≡ cut.0.now ∷ words cut.1.now)) (sym c.from_residual.ensures)
    (words_none c.args.line.now (sym c.word_in.ensures ∙ c.in_err-start.was))

pub cut_word-requires-clause-word : goal.cut_word-requires-clause-word
cut_word-requires-clause-word c = word_begins c.args.line.now c.in_ok-start.start (sym c.word_in.ensures ∙ c.in_ok-start.was)

pub returns : goal.returns
returns c = words_from c.args.line.now c.in_ok-start.start (sym c.word_in.ensures ∙ c.in_ok-start.was) ∙ c.cut_word.ensures
