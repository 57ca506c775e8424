use Rattle.cert_check.proofs.Prelude.{◌≡◌, ◌+◌, ◌*◌, ◌/◌, ◌<◌, ◌≤◌, length, take, get_or, false, Some, None, sym, ◌∙◌, ap, subst, arith, All, position, is_unearned}
use Rattle.cert_check.proofs.Finding.{within, chunk_none, chunk_some, chunk_begins, chunks_reach, none_through}
use Rattle.cert_check.proofs.checking.first_unearned_forked.Goals as goal

pub loop-chunk-preserved : goal.loop-chunk-preserved
loop-chunk-preserved g c =
    let low : c.loop-chunk.chunk < length c.in_ok-found.found.items = (let h = c.loop-chunk-test.true in let e = c.len-chunk-end.ensures in omega (arith, h, e)) in
    let each = c.in_ok-found.ensures.each c.loop-chunk.chunk None low in
    let said : get_or c.in_ok-found.found.items c.loop-chunk.chunk None ≡ position (is_unearned c.args.lang.now c.args.net.now) each.1.argument.now = each.1.call in
    let none : get_or c.in_ok-found.found.items c.loop-chunk.chunk None ≡ None =
    within c.in_ok-found.found.items c.loop-chunk.chunk None c.index.result.now low ∙ sym c.index.ensures ∙ c.in_default.is in
    let more : (c.loop-chunk.chunk + 1) * (length c.args.items.now / 8 + 1) ≡ c.loop-chunk.chunk * (length c.args.items.now / 8 + 1) + (length c.args.items.now / 8 + 1) = omega arith in
    subst (λ n. All (λ r. is_unearned c.args.lang.now c.args.net.now r ≡ false) (take n c.args.items.now)) (sym more)
    (chunk_none (is_unearned c.args.lang.now c.args.net.now) c.args.items.now (c.loop-chunk.chunk * (length c.args.items.now / 8 + 1)) (length c.args.items.now / 8 + 1) c.loop-chunk.invariant
    (ap (position (is_unearned c.args.lang.now c.args.net.now)) (sym each.1.argument_is.value) ∙ sym said ∙ none))

pub returns-in-Some : goal.returns-in-Some
returns-in-Some g c =
    let low : c.loop-chunk.chunk < length c.in_ok-found.found.items = (let h = c.loop-chunk-test.true in let e = c.len-chunk-end.ensures in omega (arith, h, e)) in
    let each = c.in_ok-found.ensures.each c.loop-chunk.chunk None low in
    let said : get_or c.in_ok-found.found.items c.loop-chunk.chunk None ≡ position (is_unearned c.args.lang.now c.args.net.now) each.1.argument.now = each.1.call in
    let some : get_or c.in_ok-found.found.items c.loop-chunk.chunk None ≡ Some c.in-Some.i =
    within c.in_ok-found.found.items c.loop-chunk.chunk None c.index.result.now low ∙ sym c.index.ensures ∙ c.in-Some.is in
    let begins : c.loop-chunk.chunk * (length c.args.items.now / 8 + 1) ≤ length c.args.items.now = chunk_begins (length c.args.items.now / 8 + 1) c.loop-chunk.chunk (length c.args.items.now) (let e = c.in_ok-found.ensures.len in omega (arith, low, e)) in
    sym (chunk_some (is_unearned c.args.lang.now c.args.net.now) c.args.items.now (c.loop-chunk.chunk * (length c.args.items.now / 8 + 1)) (length c.args.items.now / 8 + 1) c.in-Some.i begins c.loop-chunk.invariant
    (ap (position (is_unearned c.args.lang.now c.args.net.now)) (sym each.1.argument_is.value) ∙ sym said ∙ some)).2

pub returns : goal.returns
returns g c =
    let all : length c.args.items.now ≤ c.loop-chunk.chunk * (length c.args.items.now / 8 + 1) =
    (let past = c.loop-chunk-test.false in let upto = c.loop-chunk.auto.chunk-end in let same : c.loop-chunk.chunk ≡ c.len-chunk-end.result = omega (arith, past, upto) in
    chunks_reach (length c.args.items.now / 8 + 1) c.loop-chunk.chunk (length c.args.items.now) (omega arith) (same ∙ c.len-chunk-end.ensures ∙ c.in_ok-found.ensures.len)) in
    sym (none_through (is_unearned c.args.lang.now c.args.net.now) c.args.items.now (c.loop-chunk.chunk * (length c.args.items.now / 8 + 1)) all c.loop-chunk.invariant)
