use Rattle.net_cnf.proofs.Prelude.{◌≡◌, [], ◌++◌, sym, ◌∙◌, ap, after_first, is_newline, tokens_of_line, words, all_tokens}
use Rattle.net_cnf.proofs.Cutting.{lines_step}
use Rattle.net_cnf.proofs.tokens.TokensIterator.next.Goals as goal

pub loop-token-preserved : goal.loop-token-preserved
loop-token-preserved c =
    let lines = c.loop-token.self.lines.now in
    let none : words c.loop-token.self.line.now ≡ [] = c.in_default.ensures in
    (λ i. c.token_part-self.ensures i ++ all_tokens (c.cut_line.ensures.behind i))
    ∙ ap (λ line. tokens_of_line line ++ all_tokens (after_first is_newline lines)) c.cut_line.ensures.line
    ∙ sym (lines_step lines)
    ∙ ap (λ front. front ++ all_tokens lines) (sym none)
    ∙ c.loop-token.invariant
