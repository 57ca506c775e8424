use Rattle.cert_check.proofs.Prelude.{◌≡◌, ◌∷◌, sym, ◌∙◌, ap, subst, ok_or, err_from_is_err_and, BadLine, tokens_in, words_left}
use Rattle.cert_check.proofs.InTurn.{or_missing, with_tokens, tokens_go_on, tokens_bad, tokens_done}
use Rattle.cert_check.proofs.sections.tokens_in.Goals as goal
use Rattle.cert_check.proofs.sections.tokens_in.Goals.{In-Some}
use Rattle.shared_lemmas.proofs.Read.{or_value, or_fault}

-- a word more is left
at_word : (c : In-Some) → with_tokens c.loop-word.tokens.items (tokens_in c.args.items (c.in-Some.word.now ∷ words_left c.next.new.self)) ≡ tokens_in c.args.items (words_left c.args.words)
at_word c = subst (λ left. with_tokens c.loop-word.tokens.items (tokens_in c.args.items left) ≡ tokens_in c.args.items (words_left c.args.words)) c.in-Some.ensures.steps c.loop-word.invariant.2

pub returns-in_err-token : goal.returns-in_err-token
returns-in_err-token c =
    let p = err_from_is_err_and c.from_residual.result c.from_residual.ensures.1 in
    let missing = or_fault c.token_in.result (BadLine c.args.line) c.in_err-token.field-0.0 c.in_err-token.ensures.value in
    rw (p.1, p.2)
    (λ h. or_missing (tokens_in c.args.items (words_left c.args.words)) (BadLine c.args.line) c.in_err-token.field-0.0
    (sym (at_word (goal.at.returns-in_err-token c).In-Some) ∙ tokens_bad c.args.items c.loop-word.tokens.items c.in-Some.word.now (words_left c.next.new.self) (sym c.token_in.ensures ∙ missing.0))
    missing.1)

pub loop-word-preserved : goal.loop-word-preserved
loop-word-preserved c =
    let found = or_value c.token_in.result (BadLine c.args.line) c.in_ok-token.token c.in_ok-token.ensures.value in (
      tt,
      tt,
      subst (λ xs. with_tokens xs (tokens_in c.args.items (words_left c.next.new.self)) ≡ tokens_in c.args.items (words_left c.args.words)) (sym c.in_ok-push.ensures.items)
          (sym (tokens_go_on c.args.items c.loop-word.tokens.items c.in-Some.word.now (words_left c.next.new.self) c.in_ok-token.token (sym c.token_in.ensures ∙ found)) ∙ at_word (goal.at.loop-word-preserved c).In-Some),
    )

pub returns : goal.returns
returns c =
    let all = subst (λ left. with_tokens c.loop-word.tokens.items (tokens_in c.args.items left) ≡ tokens_in c.args.items (words_left c.args.words)) c.in-None.ensures.steps.0 c.loop-word.invariant.2 in
    ap (λ o. ok_or o (BadLine c.args.line)) (sym all ∙ tokens_done c.args.items c.loop-word.tokens.items)
