use Rattle.net_cnf.proofs.Prelude.{◌≡◌, ◌∷◌, Some, length, refl, sym, ◌∙◌, ap, subst, arith, option_map, bytes_eq, err_from_is_err_and, tokens_left, AreNamed, all_tokens, is_end, bad_token, tokens, ModelFault, BadToken}
use Rattle.net_cnf.proofs.Cutting.{tokens_fit}
use Rattle.net_cnf.proofs.Taking.{IsTaken, read_of, taken_none, taken_more, taken_bad, taken_to_end, taken_all}
use Rattle.net_cnf.proofs.reading.mark_all.Goals as goal
use Rattle.net_cnf.proofs.reading.mark_all.Goals.{In-Some, After-eq, In_ok-literal}
use Rattle.shared_lemmas.proofs.Read.{or_value, or_fault}

pub loop-token-init : goal.loop-token-init
loop-token-init c =
    let signs = c.args.signs.now in
    let all = all_tokens c.args.bytes.now in
    (tt, tt, subst (λ left. IsTaken (length signs) 0 all left signs) (sym (ap tokens_left c.into_iter-token-iterator.ensures.into_iter_gives ∙ c.new-token-items.ensures)) (taken_none (length signs) all signs c.requires.none refl))

-- a token more is left
at_token : (c : In-Some) → IsTaken (length c.args.signs.now) c.loop-token.read (all_tokens c.args.bytes.now) (c.in-Some.token.now ∷ tokens_left c.next.new.self) c.loop-token.signs
at_token c = subst (λ left. IsTaken (length c.args.signs.now) c.loop-token.read (all_tokens c.args.bytes.now) left c.loop-token.signs) c.in-Some.ensures.steps c.loop-token.invariant.2

is_zero : (c : After-eq) → is_end c.in-Some.token.now ≡ c.eq.result
is_zero c = ap (bytes_eq c.in-Some.token.now) (sym c.as_slice.ensures) ∙ sym c.eq.ensures

pub returns-then-eq : goal.returns-then-eq
unfolding tokens
returns-then-eq c =
    let t = at_token (goal.at.returns-then-eq c).In-Some in
    let all = all_tokens c.args.bytes.now in
    subst (λ n. AreNamed n (read_of all) c.loop-token.signs) (sym t.long)
    (taken_to_end (length c.args.signs.now) c.loop-token.read all (tokens_left c.next.new.self) c.in-Some.token.now c.loop-token.signs (is_zero (goal.at.returns-then-eq c).After-eq ∙ c.if-eq.true) t)

pub returns-in_err-literal : goal.returns-in_err-literal
unfolding tokens
returns-in_err-literal c =
    let p = err_from_is_err_and c.from_residual.result c.from_residual.ensures.1 in
    let t = at_token (goal.at.returns-in_err-literal c).In-Some in
    let all = all_tokens c.args.bytes.now in
    let missing = or_fault c.literal_in.result (BadToken c.loop-token.read) c.in_err-literal.field-0.0 c.in_err-literal.ensures.value in
    rw (p.1, p.2)
    (ap (λ n. option_map BadToken (bad_token n (read_of all))) t.long
    ∙ ap (option_map BadToken) (taken_bad (length c.args.signs.now) c.loop-token.read all (tokens_left c.next.new.self) c.in-Some.token.now c.loop-token.signs (is_zero (goal.at.returns-in_err-literal c).After-eq ∙ c.if-eq.false)
    (sym c.literal_in.ensures.is ∙ missing.0) t)
    ∙ ap (λ (fault : ModelFault). Some fault) (sym missing.1))

pub overflow_add-read : goal.overflow_add-read
overflow_add-read c =
    let few = (at_token (goal.at.overflow_add-read c).In-Some).few in
    let short = c.requires.short in
    omega (arith, few, short, tokens_fit c.args.bytes.now)

pub loop-token-preserved : goal.loop-token-preserved
loop-token-preserved c =
    let found = or_value c.literal_in.result (BadToken c.loop-token.read) c.in_ok-literal.literal c.in_ok-literal.ensures.value in (
      tt,
      tt,
      taken_more (length c.args.signs.now) c.loop-token.read (all_tokens c.args.bytes.now) (tokens_left c.next.new.self) c.in-Some.token.now c.in_ok-literal.literal c.loop-token.signs c.mark.new.signs
          (is_zero (goal.at.loop-token-preserved c).After-eq ∙ c.if-eq.false) (sym c.literal_in.ensures.is ∙ found) c.mark.auto.signs c.mark.ensures (at_token (goal.at.loop-token-preserved c).In-Some),
    )

pub returns : goal.returns
unfolding tokens
returns c =
    let all = all_tokens c.args.bytes.now in
    let t = subst (λ left. IsTaken (length c.args.signs.now) c.loop-token.read all left c.loop-token.signs) c.in-None.ensures.steps.0 c.loop-token.invariant.2 in
    subst (λ n. AreNamed n (read_of all) c.loop-token.signs) (sym t.long) (taken_all (length c.args.signs.now) c.loop-token.read all c.loop-token.signs t)
